use Rattle.std.proofs.Common.{rules, ◌≡◌, ◌<◌, Some, None, length, set, refl, sym, subst, ap, ◌∙◌, arith}
use Rattle.std.specs.Vec.{with_item}
use Rattle.timer_skip.specs.declared.node.Node.{Node}
use Rattle.timer_skip.specs.declared.rows.Rows.{Rows}
use Rattle.timer_skip.specs.Firing.{armed_row, take_out}
use Rattle.timer_skip.specs.Links.{entries, key_of, line, AreStops}
use Rattle.timer_skip.proofs.Chains.{none_found}
use Rattle.timer_skip.proofs.Levels.{After}
use Rattle.timer_skip.proofs.Changes.{node_there, timer_below, found_in, removed_by, removed_node}
use Rattle.timer_skip.proofs.rows.Rows.remove.Given.{Over}
use Rattle.timer_skip.proofs.rows.Rows.remove.Goals as goal

-- what is left once the node is taken out
left : (g : Over) (c : goal.After-self-1 g)
    → After {L = g.row.L} (record { nodes = c.relink.new.self.nodes; heads = c.relink.new.self.heads; places = with_item c.relink.new.self.places c.no.inside.0 None; tick = c.relink.new.self.tick; draws = c.relink.new.self.draws })
    (take_out c.args.no (line c.args.self.now))
left g c =
    let r : Rows g.row.L = c.args.self.now in
    let key = c.in-Some.key in
    let is_key : key_of c.args.no (entries r) ≡ Some key = sym c.in-Some.ensures in
    let node : Node g.row.L = c.remove-node.result in
    let took = c.remove-node.ensures in
    let both : Some c.in-Some-get.node.now ≡ Some node = c.in-Some-get.ensures ∙ took.value in
    let same : c.in-Some-get.node.now ≡ node = cc in
    let r1 : Rows g.row.L = record r { nodes = c.remove-node.new.self } in
    let r2 : Rows g.row.L = c.relink.new.self in
    let r' : Rows g.row.L = record r2 { places = with_item r2.places c.no.inside.0 None } in
    let lasts = c.before-before.result in
    let stops : AreStops r (armed_row r.tick node.row) lasts = subst (λ (n : Node g.row.L). AreStops r (armed_row r.tick n.row) lasts) same c.before-before.ensures in
    removed_node r r' c.args.no key node lasts c.requires is_key took.value stops
    (removed_by r r1 r2 r' c.args.no key node lasts c.requires stops took.value took.updates took.len took.capacity refl refl refl c.relink.ensures refl refl refl
    (ap (λ n. set r2.places.items n None) c.no.view_is))

pub returns-in_default-clause-answer : goal.returns-in_default-clause-answer
returns-in_default-clause-answer g c = sym (none_found c.args.no (entries c.args.self.now) (sym c.in_default.ensures)).1

pub returns-in_default-clause-line : goal.returns-in_default-clause-line
returns-in_default-clause-line g c = (none_found c.args.no (entries c.args.self.now) (sym c.in_default.ensures)).2

pub returns-in_default-get-clause-answer : goal.returns-in_default-get-clause-answer
returns-in_default-get-clause-answer g c = absurd (node_there c.args.self.now c.args.no c.in-Some.key c.requires (sym c.in-Some.ensures) (sym c.in_default-get.ensures))

pub returns-in_default-get-clause-line : goal.returns-in_default-get-clause-line
returns-in_default-get-clause-line g c = absurd (node_there c.args.self.now c.args.no c.in-Some.key c.requires (sym c.in-Some.ensures) (sym c.in_default-get.ensures))

pub index_mut-requires : goal.index_mut-requires
index_mut-requires g c =
    let below = timer_below c.args.self.now c.args.no c.in-Some.key c.requires (sym c.in-Some.ensures) in
    let less : c.no.inside.0 < length c.relink.new.self.places.items = omega (arith, below, ap (λ v. length v.items) c.relink.ensures.rest.places, c.no.view_is) in
    search rules

pub returns-clause-answer : goal.returns-clause-answer
returns-clause-answer g c = sym (found_in c.args.self.now c.args.no c.in-Some.key c.requires (sym c.in-Some.ensures)).any

pub returns-clause-linked : goal.returns-clause-linked
returns-clause-linked g c = (left g c).linked

pub returns-clause-line : goal.returns-clause-line
returns-clause-line g c = (left g c).line
