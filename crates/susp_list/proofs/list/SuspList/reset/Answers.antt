use Rattle.susp_list.proofs.TableLemmas.{ring_reset}
use Rattle.susp_list.proofs.list.SuspList.reset.Goals as goal

pub invariant_of-self : goal.invariant_of-self
invariant_of-self c = ring_reset _ _ _ _ _ c.args.order c.self.invariant (rw (← c.self.view_is) at c.requires)
