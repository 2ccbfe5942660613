use Rattle.std.proofs.Common.{sym, ap, ◌∙◌}
use Rattle.timer_skip.specs.Armed.{Armed, left_of}
use Rattle.timer_skip.specs.Links.{line}
use Rattle.timer_skip.proofs.Lines.{left-by_number}
use Rattle.timer_skip.proofs.timers.Timers.left.Goals as goal

pub returns : goal.returns
returns g c =
    let rows = c.self.inside.rows in
    c.left_of.ensures ∙ sym (left-by_number c.args.no (line rows) c.self.invariant.in_order.in_order) ∙ ap (λ (a : Armed). left_of c.args.no a.rows) c.self.view_is
