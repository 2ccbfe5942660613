use Rattle.std.proofs.Common.{arith, ◌≡◌, ◌<◌, ◌∙◌, sym, ap, length, true, Some, None, [], ◌∷◌}
use Rattle.std.specs.Option.{option_map}
use Rattle.std.proofs.Math.ListN.{length-set}
use Rattle.std.specs.Prelude.{slice_index}
use Rattle.std.proofs.lemmas.Grind.{get_or_default_zero}
use Rattle.rt_plain.specs.kernel.Ownership.{Ownership, awaited_in, member_at, owner_in, with_wait}
use Rattle.mutex_chain.specs.Owners.{blocker_in, has_thread}
use Rattle.mutex_chain.proofs.ChangeLemmas.{thread_within}
use Rattle.mutex_chain.proofs.ChainLemmas.{leads_above}
use Rattle.mutex_chain.proofs.LawLemmas.{itself}
use Rattle.mutex_chain.proofs.StrongLemmas.{wait_blocker, wait_raises}
use Rattle.mutex_chain.proofs.graph.MutexGraph.wait.Goals as goal

pub strengthen-requires-clause-raising : goal.strengthen-requires-clause-raising
strengthen-requires-clause-raising g c =
    let o = c.self.inside.owners in
    let there : has_thread c.self.inside.owners c.args.thread ≡ true = rw c.self.view_is c.requires.thread in
    let idle : awaited_in c.self.inside.owners c.args.thread ≡ None = rw c.self.view_is c.requires.idle in
    let place : c.thread.inside.0 < length c.self.inside.curs.numbers.items = omega (arith, thread_within o c.args.thread there, c.self.invariant.places, c.thread.view_is) in
    let number : c.index-number.result.now ≡ slice_index c.self.inside.curs.numbers.items c.args.thread =
    c.index-number.ensures ∙ get_or_default_zero c.self.inside.curs.numbers.items c.thread.inside.0 c.index-number.result.now place ∙ ap (slice_index c.self.inside.curs.numbers.items) c.thread.view_is in
    rw c.join.ensures.numbers (wait_raises o c.set_wait.new.self c.self.inside.curs.numbers.items c.holder-owner.result c.args.thread c.args.mutex c.args.at c.index-number.result.now c.self.invariant.sound c.know_sound.ensures c.self.invariant.curs c.set_wait.ensures
    c.holder-owner.ensures.owner there idle number)

pub returns-clause-cost : goal.returns-clause-cost
returns-clause-cost g c =
    let o = c.self.inside.owners in
    let there : has_thread c.self.inside.owners c.args.thread ≡ true = rw c.self.view_is c.requires.thread in
    let above : blocker_in c.set_wait.new.self c.args.thread ≡ c.holder-owner.result =
    ap (λ (q : Ownership). blocker_in q c.args.thread) c.set_wait.ensures ∙ wait_blocker o c.args.thread c.args.mutex c.args.at there
    ∙ sym (c.holder-owner.ensures.owner ∙ ap (λ (q : Ownership). owner_in q c.args.mutex) c.set_wait.ensures) in
    let size : length c.set_wait.new.self.members ≡ length c.self.inside.owners.members =
    ap (λ (q : Ownership). length q.members) c.set_wait.ensures
    ∙ length-set c.self.inside.owners.members c.args.thread (option_map (with_wait (Some (record { mutex = c.args.mutex; number = c.args.at }))) (member_at c.self.inside.owners c.args.thread)) in
    let inside : c.args.thread < length c.set_wait.new.self.members = omega (arith, thread_within o c.args.thread there) in
    let cost = c.strengthen.ensures.cost (c.args.thread ∷ []) c.args.thread (itself c.args.thread) inside (leads_above c.set_wait.new.self c.args.thread c.holder-owner.result c.know_sound.ensures inside above) in
    omega (arith, cost, c.tick.ensures, c.tick-2.ensures, c.tick-3.ensures)
