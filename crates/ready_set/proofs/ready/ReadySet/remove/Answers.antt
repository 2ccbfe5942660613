use Rattle.std.proofs.Common.{rules}
use Rattle.ready_set.proofs.RowLemmas.{ready_seen, stands_without}
use Rattle.ready_set.proofs.ready.ReadySet.remove.Goals as goal

pub returns-in-Some-clause-ready : goal.returns-in-Some-clause-ready
returns-in-Some-clause-ready g c = stands_without c.args.self.now _ c.args.thread (ready_seen _ _ _ _ _ c.args.self.now c.self.invariant c.self.view_is) (search rules)

pub returns-in_default-clause-ready : goal.returns-in_default-clause-ready
returns-in_default-clause-ready g c = stands_without c.args.self.now _ c.args.thread (ready_seen _ _ _ _ _ c.args.self.now c.self.invariant c.self.view_is) (search rules)
