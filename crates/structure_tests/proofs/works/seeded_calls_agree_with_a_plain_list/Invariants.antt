use Rattle.std.proofs.Common.{◌≡◌}
use Rattle.structure_tests.proofs.works.seeded_calls_agree_with_a_plain_list.Given as goal

abbrev pub invariant-loop : goal.invariant-loop
invariant-loop g l = l.works.timers ≡ 6
