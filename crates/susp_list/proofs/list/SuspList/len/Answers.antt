use Rattle.std.proofs.Common.{arith}
use Rattle.susp_list.proofs.TableLemmas.{len_within}
use Rattle.susp_list.proofs.list.SuspList.len.Goals as goal

pub returns-clause-len : goal.returns-clause-len
returns-clause-len c = rw (← c.self.view_is) c.self.invariant.counted

pub returns-clause-within : goal.returns-clause-within
returns-clause-within c = rw (← c.self.view_is) (omega (arith, len_within _ _ _ _ _ c.self.invariant, c.self.invariant.root_is))
