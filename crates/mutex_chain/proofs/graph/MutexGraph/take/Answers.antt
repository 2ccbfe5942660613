use Rattle.std.proofs.Common.{arith, ◌≡◌, ◌<◌, ◌∙◌, sym, ap, true, Some, None, cond, not, length, [], ◌∷◌}
use Rattle.std.specs.Option.{is_some}
use Rattle.rt_plain.specs.kernel.Ownership.{Ownership, owner_in}
use Rattle.mutex_chain.specs.Owners.{has_thread, ceiling_at}
use Rattle.mutex_chain.proofs.ChangeLemmas.{thread_within}
use Rattle.mutex_chain.proofs.ChainLemmas.{leads_then}
use Rattle.mutex_chain.proofs.LawLemmas.{itself}
use Rattle.mutex_chain.proofs.OwnedLemmas.{owned_take}
use Rattle.mutex_chain.proofs.TakeLemmas.{got_by, take_raises}
use Rattle.mutex_chain.proofs.StoredLemmas.{lines_by, take_members}
use Rattle.mutex_chain.proofs.graph.MutexGraph.take.Goals as goal

pub strengthen-requires-clause-lines : goal.strengthen-requires-clause-lines
strengthen-requires-clause-lines g c =
    c.self.invariant.lines
    ∙ lines_by c.self.inside.owners c.take-took.new.self c.self.inside.curs.numbers.items
    (ap (λ (q : Ownership). q.members) c.take-took.ensures.edit ∙ take_members c.args.thread c.args.mutex c.self.inside.owners) c.take-took.ensures.mutexes

pub strengthen-requires-clause-raising : goal.strengthen-requires-clause-raising
strengthen-requires-clause-raising g c =
    let o = c.self.inside.owners in
    let there : has_thread c.self.inside.owners c.args.thread ≡ true = rw c.self.view_is c.requires.thread in
    let at : ceiling_at c.self.inside.owners c.args.mutex ≡ Some c.ceiling.result = rw c.self.view_is (sym c.ceiling.ensures) in
    let free : is_some (owner_in c.self.inside.owners c.args.mutex) ≡ not c.is_none-is_free.result = sym (ap (λ r. is_some r) c.holder.ensures.owner) ∙ c.is_none-is_free.ensures in
    let from : c.then_some-from.result ≡ cond (is_some (owner_in c.self.inside.owners c.args.mutex)) None (Some c.args.thread) =
    c.then_some-from.ensures ∙ got_by c.is_none-is_free.result (owner_in o c.args.mutex) c.args.thread free in
    rw c.number.view_is (take_raises o c.take-took.new.self c.self.inside.curs.numbers.items c.then_some-from.result c.args.thread c.args.mutex c.ceiling.result c.self.invariant.sound c.know_sound.ensures c.self.invariant.owned
    c.self.invariant.curs c.take-took.ensures.edit (thread_within o c.args.thread there) at from)

pub invariant_of-self : goal.invariant_of-self
invariant_of-self g c = record {
  sound = c.know_sound.ensures;
  owned = rw c.take-took.ensures.edit (owned_take c.self.inside.owners c.args.thread c.args.mutex c.self.invariant.owned);
  curs = c.strengthen.ensures.curs;
  places = c.strengthen.ensures.places;
  lines = c.strengthen.ensures.lines;
}

pub returns-clause-cost : goal.returns-clause-cost
returns-clause-cost g c =
    let there : has_thread c.self.inside.owners c.args.thread ≡ true = rw c.self.view_is c.requires.thread in
    let inside : c.args.thread < length c.take-took.new.self.members = omega (arith, thread_within c.self.inside.owners c.args.thread there, c.take-took.ensures.threads) in
    let cost = c.strengthen.ensures.cost (c.args.thread ∷ []) c.args.thread (itself c.args.thread) inside (leads_then c.take-took.new.self c.args.thread c.then_some-from.result c.is_none-is_free.result inside c.then_some-from.ensures) in
    omega (arith, cost, c.tick.ensures, c.tick-2.ensures, c.tick-3.ensures)
