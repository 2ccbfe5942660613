use Rattle.std.proofs.Common.{Some, set, refl, ap}
use Rattle.std.specs.Vec.{with_item}
use Rattle.timer_skip.specs.declared.rows.Rows.{Rows}
use Rattle.timer_skip.specs.Armed.{ArmedRow}
use Rattle.timer_skip.specs.Firing.{put_row}
use Rattle.timer_skip.specs.Links.{IsLinked, line}
use Rattle.timer_skip.proofs.Levels.{After}
use Rattle.timer_skip.proofs.Changes.{is_room, inserted_row}
use Rattle.timer_skip.proofs.Wraps.{left-new}
use Rattle.timer_skip.proofs.rows.Rows.insert.Given.{Over}
use Rattle.timer_skip.proofs.rows.Rows.insert.Goals as goal

pub insert_reserved-key-requires : goal.insert_reserved-key-requires
insert_reserved-key-requires g c = is_room c.args.self.now (record { left = c.args.after; number = c.args.at; timer = c.args.no }) c.requires.linked c.requires.below c.requires.near c.requires.anew

-- what is left once the row is in
put : (g : Over) (c : goal.After-self-1 g)
    → After {L = g.row.L} (record { nodes = c.relink.new.self.nodes; heads = c.relink.new.self.heads; places = with_item c.relink.new.self.places c.no.inside.0 (Some c.insert_reserved-key.result); tick = c.relink.new.self.tick; draws = c.relink.new.self.draws })
    (put_row (record { left = c.args.after; number = c.args.at; timer = c.args.no }) (line c.args.self.now))
put g c =
    let row : ArmedRow = record { left = c.args.after; number = c.args.at; timer = c.args.no } in
    let h = c.requires.linked in
    let r : Rows g.row.L = record c.args.self.now { draws = c.next_word.new.self } in
    let linked : IsLinked r = record { some_level = h.some_level; tick = h.tick; chain = h.chain; in_order = h.in_order; counted = h.counted; room = h.room; each = h.each; placed = h.placed } in
    let key = c.insert_reserved-key.result in
    let made = c.insert_reserved-key.ensures in
    let r1 : Rows g.row.L = record r { nodes = c.insert_reserved-key.new.self } in
    let r2 : Rows g.row.L = c.relink.new.self in
    let r' : Rows g.row.L = record r2 { places = with_item r2.places c.no.inside.0 (Some key) } in
    inserted_row r r1 r2 r' _ key c.before-before.result c.links-links.result row linked
    (ap (λ n. (let a : ArmedRow = record { left = n; number = c.args.at; timer = c.args.no } in a)) (left-new r.tick c.args.after h.tick c.ranges.after.fits))
    c.before-before.ensures c.links-links.ensures refl made.was_vacant made.updates made.len made.capacity refl refl refl c.relink.ensures refl refl refl
    (ap (λ n. set r2.places.items n (Some key)) c.no.view_is) c.requires.below c.requires.near c.requires.anew

pub returns-clause-linked : goal.returns-clause-linked
returns-clause-linked g c = (put g c).linked

pub returns-clause-line : goal.returns-clause-line
returns-clause-line g c = (put g c).line
