use Rattle.std.proofs.Common.{◌≡◌}
use Rattle.structure_tests.proofs.ready.full_level.Given as goal

abbrev pub invariant-loop-thread : goal.invariant-loop-thread
invariant-loop-thread g l = record { threads : l.set.threads ≡ 256; cores : l.set.cores ≡ 2; levels : l.set.levels ≡ 32 }

abbrev pub invariant-loop-thread-2 : goal.invariant-loop-thread-2
invariant-loop-thread-2 g l = record { threads : l.set.threads ≡ 256; cores : l.set.cores ≡ 2; levels : l.set.levels ≡ 32 }
