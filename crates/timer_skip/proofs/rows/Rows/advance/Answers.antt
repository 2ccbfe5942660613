use Rattle.std.proofs.Common.{refl, ◌+◌, ◌%◌}
use Rattle.timer_skip.specs.declared.rows.Rows.{Rows}
use Rattle.timer_skip.proofs.Changes.{advanced}
use Rattle.timer_skip.proofs.rows.Rows.advance.Goals as goal

pub returns-clause-linked : goal.returns-clause-linked
returns-clause-linked g c =
    let r : Rows g.row.L = c.args.self.now in
    let r' : Rows g.row.L = record r { tick = (r.tick + c.args.n) % 4294967296 } in
    (advanced r r' c.args.n c.requires.linked c.ranges.n.fits c.requires.ahead refl refl refl refl).linked

pub returns-clause-line : goal.returns-clause-line
returns-clause-line g c =
    let r : Rows g.row.L = c.args.self.now in
    let r' : Rows g.row.L = record r { tick = (r.tick + c.args.n) % 4294967296 } in
    (advanced r r' c.args.n c.requires.linked c.ranges.n.fits c.requires.ahead refl refl refl refl).line
