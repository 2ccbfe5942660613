use Rattle.std.proofs.Common.{◌≡◌, length}
use Rattle.structure_tests.proofs.counts.agrees_with_a_plain_list_of_receivers.Given as goal

abbrev pub invariant-loop-at : goal.invariant-loop-at
invariant-loop-at g l = (length l.event.waiters.rows ≡ 4) × (l.woken.threads ≡ 4)
