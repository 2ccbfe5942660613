use Rattle.ready_set.proofs.LinkLemmas.{seen, first_thread, no_thread}
use Rattle.ready_set.proofs.queues.Queues.first.Goals as goal

pub returns-then-node-self-clause-value : goal.returns-then-node-self-clause-value
returns-then-node-self-clause-value g c =
    let is = seen _ _ _ _ c.args.self.now c.self.invariant c.self.view_is in
    first_thread _ _ _ _ c.args.self.now.queues is.1 c.args.place c.read-node.result c.requires c.read-node.ensures.value c.if-node-self.true

pub returns-else-node-self-clause-value : goal.returns-else-node-self-clause-value
returns-else-node-self-clause-value g c =
    let is = seen _ _ _ _ c.args.self.now c.self.invariant c.self.view_is in
    no_thread _ _ _ _ c.args.self.now.queues is.1 c.args.place c.read-node.result c.requires c.read-node.ensures.value c.if-node-self.false
