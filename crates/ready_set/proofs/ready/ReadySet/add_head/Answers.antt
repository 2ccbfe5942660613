use Rattle.std.proofs.Common.{rules}
use Rattle.ready_set.proofs.RowLemmas.{ready_seen, stands_fronted}
use Rattle.ready_set.proofs.ready.ReadySet.add_head.Goals as goal

pub returns-clause-ready : goal.returns-clause-ready
returns-clause-ready g c =
    stands_fronted c.args.self.now _ c.args.thread c.args.prio c.args.core (ready_seen _ _ _ _ _ c.args.self.now c.self.invariant c.self.view_is) c.requires.prio_below c.requires.core_below (search rules)
