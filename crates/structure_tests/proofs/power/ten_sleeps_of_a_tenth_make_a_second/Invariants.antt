use Rattle.std.proofs.Common.{◌≡◌, ◌*◌}
use Rattle.structure_tests.proofs.power.ten_sleeps_of_a_tenth_make_a_second.Given as goal

abbrev pub invariant-loop : goal.invariant-loop
invariant-loop g l = l.clock.moment ≡ 100 * l.counter
