use Rattle.std.proofs.Common.{ap, ◌∙◌}
use Rattle.mutex_chain.specs.Graph.{ChangeList, WokenList}
use Rattle.mutex_chain_tests.proofs.bench.Bench.kill_mutex.Goals as goal

pub invariant_of-self : goal.invariant_of-self
invariant_of-self g c = record {
  threads = c.kill_mutex.ensures.threads ∙ c.args.self.now.threads;
  mutexes = c.kill_mutex.ensures.mutexes ∙ c.args.self.now.mutexes;
  room = ap (λ (o : ChangeList). o.threads) c.kill_mutex.ensures.changes ∙ c.args.self.now.room;
  woken_room = ap (λ (o : WokenList). o.threads) c.kill_mutex.ensures.woken ∙ c.args.self.now.woken_room;
  passes_room = c.args.self.now.passes_room;
}
