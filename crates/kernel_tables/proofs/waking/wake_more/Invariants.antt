use Rattle.std.proofs.Common.{length}
use Rattle.susp_list.specs.Rows.{line}
use Rattle.kernel_tables.specs.Listed.{waits_in}
use Rattle.kernel_tables.proofs.WokenLemmas.{IsWakingOn}
use Rattle.kernel_tables.proofs.waking.wake_more.Given as goal

abbrev pub invariant-loop-t : goal.invariant-loop-t
invariant-loop-t l = IsWakingOn l.fn.code l.fn.threads l.fn.lists l.fn.list l.fn.no l.fn.woken l.threads l.lists l.woken

abbrev pub decreases-loop-t : goal.decreases-loop-t
decreases-loop-t l = length (line (waits_in l.lists l.fn.list l.fn.no))
