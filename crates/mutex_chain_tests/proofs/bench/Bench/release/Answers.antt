use Rattle.std.proofs.Common.{ap, ◌∙◌}
use Rattle.mutex_chain.specs.Graph.{ChangeList}
use Rattle.mutex_chain_tests.proofs.bench.Bench.release.Goals as goal

pub invariant_of-self : goal.invariant_of-self
invariant_of-self g c = record {
  threads = c.release.ensures.threads ∙ c.args.self.now.threads;
  mutexes = c.release.ensures.mutexes ∙ c.args.self.now.mutexes;
  room = ap (λ (o : ChangeList). o.threads) c.release.ensures.changes ∙ c.args.self.now.room;
  woken_room = c.args.self.now.woken_room;
  passes_room = c.args.self.now.passes_room;
}
