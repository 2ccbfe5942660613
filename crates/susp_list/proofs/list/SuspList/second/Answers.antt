use Rattle.std.proofs.Common.{arith}
use Rattle.susp_list.proofs.TableLemmas.{second_is, second_there}
use Rattle.susp_list.proofs.list.SuspList.second.Goals as goal

pub index-requires : goal.index-requires
index-requires c = omega (arith, second_there _ _ _ _ _ _ c.self.invariant c.index-first.ensures)

pub returns : goal.returns
returns c = rw (c.waiter_at.ensures, ← c.self.view_is) (second_is _ _ _ _ _ _ _ c.self.invariant c.index-first.ensures c.index.ensures)
