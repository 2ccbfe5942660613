use Rattle.std.proofs.Common.{arith, ◌≡◌, ◌≤◌, ◌∙◌, sym, ap, Some, length}
use Rattle.std.proofs.Math.ListN.{length-set}
use Rattle.rt_plain.specs.kernel.Weight.{ceiling_touches}
use Rattle.std.specs.Option.{option_to_list}
use Rattle.rt_plain.specs.kernel.Ownership.{Ownership, ceiling_edit, owner_in}
use Rattle.mutex_chain.specs.Owners.{ceiling_at}
use Rattle.mutex_chain.proofs.BoundLemmas.{owner_bound}
use Rattle.mutex_chain.proofs.ChainLemmas.{from_cost}
use Rattle.mutex_chain.proofs.EditLemmas.{aside_by, differs_ceiling}
use Rattle.mutex_chain.proofs.StrongLemmas.{ceiling_raises}
use Rattle.mutex_chain.proofs.StoredLemmas.{lines_by}
use Rattle.mutex_chain.proofs.graph.MutexGraph.set_ceiling.Goals as goal

pub strengthen-requires-clause-lines : goal.strengthen-requires-clause-lines
strengthen-requires-clause-lines g c =
    c.self.invariant.lines
    ∙ lines_by c.self.inside.owners c.set_ceiling.new.self c.self.inside.curs.numbers.items (ap (λ (q : Ownership). q.members) c.set_ceiling.ensures)
    (ap (λ (q : Ownership). length q.ceilings) c.set_ceiling.ensures ∙ length-set c.self.inside.owners.ceilings c.args.mutex (Some c.args.ceiling))

pub renew-requires-clause-lines : goal.renew-requires-clause-lines
renew-requires-clause-lines g c =
    c.self.invariant.lines
    ∙ lines_by c.self.inside.owners c.set_ceiling.new.self c.self.inside.curs.numbers.items (ap (λ (q : Ownership). q.members) c.set_ceiling.ensures)
    (ap (λ (q : Ownership). length q.ceilings) c.set_ceiling.ensures ∙ length-set c.self.inside.owners.ceilings c.args.mutex (Some c.args.ceiling))

pub strengthen-requires-clause-raising : goal.strengthen-requires-clause-raising
strengthen-requires-clause-raising g c =
    let o = c.self.inside.owners in
    let at : ceiling_at c.self.inside.owners c.args.mutex ≡ Some c.ceiling-old.result = rw c.self.view_is (sym c.ceiling-old.ensures) in
    let less : c.args.ceiling ≤ c.ceiling-old.result = omega (arith, c.if-ceiling-old.false, c.ceiling.view_is, c.old.view_is) in
    rw c.ceiling.view_is (ceiling_raises o c.set_ceiling.new.self c.self.inside.curs.numbers.items c.holder-owner.result c.args.mutex c.args.ceiling c.ceiling-old.result c.self.invariant.sound c.know_sound.ensures c.self.invariant.curs c.set_ceiling.ensures c.holder-owner.ensures.owner at less)

pub returns-clause-cost : goal.returns-clause-cost
returns-clause-cost g c =
    let touches : ceiling_touches c.args.self.now c.args.mutex ≡ option_to_list c.holder-owner.result =
    sym (ap option_to_list (c.holder-owner.ensures.owner ∙ ap (λ (q : Ownership). owner_in q c.args.mutex) c.set_ceiling.ensures ∙ ap (λ (q : Ownership). owner_in q c.args.mutex) c.self.view_is)) in
    let cost = from_cost c.args.self.now c.set_ceiling.new.self c.holder-owner.result c.tick-2.new.self c.strengthen.new.steps (λ t e. rw e at c.holder-owner.ensures.within) c.strengthen.ensures.nobody c.strengthen.ensures.cost in
    rw touches (omega (arith, cost, c.tick.ensures, c.tick-2.ensures))

pub renew-requires-clause-aside : goal.renew-requires-clause-aside
renew-requires-clause-aside g c =
    let o = c.self.inside.owners in
    let owner : c.holder-owner.result ≡ owner_in c.self.inside.owners c.args.mutex = c.holder-owner.ensures.owner ∙ ap (λ (q : Ownership). owner_in q c.args.mutex) c.set_ceiling.ensures in
    rw owner (aside_by o c.set_ceiling.new.self (ceiling_edit c.args.mutex c.args.ceiling o) c.self.inside.curs.numbers.items _ c.self.invariant.sound c.know_sound.ensures c.self.invariant.curs c.set_ceiling.ensures
    (differs_ceiling o c.args.mutex c.args.ceiling c.self.invariant.sound))

pub returns-then-ceiling-old-clause-cost : goal.returns-then-ceiling-old-clause-cost
returns-then-ceiling-old-clause-cost g c =
    let touches : ceiling_touches c.args.self.now c.args.mutex ≡ option_to_list c.holder-owner.result =
    sym (ap option_to_list (c.holder-owner.ensures.owner ∙ ap (λ (q : Ownership). owner_in q c.args.mutex) c.set_ceiling.ensures ∙ ap (λ (q : Ownership). owner_in q c.args.mutex) c.self.view_is)) in
    let cost = owner_bound c.args.self.now c.set_ceiling.new.self c.holder-owner.result c.tick-2.new.self c.renew.new.steps c.know_sound.ensures (λ t e. rw e at c.holder-owner.ensures.within) c.renew.ensures.nobody c.renew.ensures.cost in
    rw touches (omega (arith, cost, c.tick.ensures, c.tick-2.ensures))
