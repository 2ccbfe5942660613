use Rattle.std.proofs.Common.{◌≡◌}
use Rattle.structure_tests.proofs.works.make_all.Given as goal

abbrev pub invariant-loop-call : goal.invariant-loop-call
invariant-loop-call g l = l.works.timers ≡ 4
