use Rattle.std.proofs.Common.{◌≡◌}
use Rattle.structure_tests.proofs.ready_lists.worked_acts.Given as goal

abbrev pub invariant-loop-act : goal.invariant-loop-act
invariant-loop-act g l = record { threads : l.ready.threads ≡ 16; cores : l.ready.cores ≡ 2; levels : l.ready.levels ≡ l.levels }
