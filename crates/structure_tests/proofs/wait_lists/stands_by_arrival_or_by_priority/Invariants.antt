use Rattle.std.proofs.Common.{◌≡◌, length}
use Rattle.structure_tests.proofs.wait_lists.stands_by_arrival_or_by_priority.Given as goal

abbrev pub invariant-loop-thread : goal.invariant-loop-thread
invariant-loop-thread g l = length l.list.rows ≡ 4

abbrev pub invariant-loop-thread-2 : goal.invariant-loop-thread-2
invariant-loop-thread-2 g l = length l.list.rows ≡ 4
