use Rattle.std.proofs.Common.{arith, ◌≡◌, true}
use Rattle.mutex_chain.specs.Owners.{has_thread}
use Rattle.mutex_chain.proofs.BoundLemmas.{leave_bound}
use Rattle.mutex_chain.proofs.ChangeLemmas.{thread_within}
use Rattle.mutex_chain.proofs.OwnedLemmas.{owned_leave}
use Rattle.mutex_chain.proofs.graph.MutexGraph.leave.Goals as goal

pub renew-requires-clause-aside : goal.renew-requires-clause-aside
renew-requires-clause-aside g c = rw c.end_wait-owner.ensures.numbers (c.end_wait-owner.ensures.aside c.self.inside.curs.numbers.items c.self.invariant.curs)

pub invariant_of-self : goal.invariant_of-self
invariant_of-self g c = record {
  sound = c.end_wait-owner.ensures.sound;
  owned = rw c.end_wait-owner.ensures.owners (owned_leave c.self.inside.owners c.args.thread c.self.invariant.owned);
  curs = c.renew.ensures.curs;
  places = c.renew.ensures.places;
  lines = c.renew.ensures.lines;
}

pub returns-clause-cost : goal.returns-clause-cost
returns-clause-cost g c =
    let there : has_thread c.self.inside.owners c.args.thread ≡ true = rw c.self.view_is c.requires.thread in
    let cost = rw c.end_wait-owner.ensures.owners at c.renew.ensures.cost in
    let bound = leave_bound c.self.inside.owners c.args.thread c.end_wait-owner.result c.end_wait-owner.new.steps c.renew.new.steps c.self.invariant.sound (thread_within c.self.inside.owners c.args.thread there) c.end_wait-owner.ensures.answer c.renew.ensures.nobody cost in
    rw (← c.self.view_is, c.end_wait-owner.ensures.owners) (omega (arith, bound, c.tick.ensures, c.end_wait-owner.ensures.count))
