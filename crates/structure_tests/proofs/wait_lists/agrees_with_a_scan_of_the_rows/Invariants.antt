use Rattle.std.proofs.Common.{◌≡◌, length}
use Rattle.structure_tests.proofs.wait_lists.agrees_with_a_scan_of_the_rows.Given as goal

abbrev pub invariant-loop : goal.invariant-loop
invariant-loop g l = length l.list.rows ≡ 8
