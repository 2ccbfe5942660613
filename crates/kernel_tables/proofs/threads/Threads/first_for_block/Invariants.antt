use Rattle.std.proofs.Common.{◌≡◌, ◌-◌, length}
use Rattle.rt_plain.specs.kernel.Waiting.{takes_block}
use Rattle.kernel_tables.proofs.ForemostLemmas.{first_from}
use Rattle.kernel_tables.proofs.threads.Threads.first_for_block.Given as goal

-- the first among the threads seen so far, which are the last ones
abbrev pub invariant-loop-i : goal.invariant-loop-i
invariant-loop-i l = record { first : l.first ≡ first_from l.self l.order (takes_block l.pool) (l.count - l.i) l.i; count : l.count ≡ length l.self }
