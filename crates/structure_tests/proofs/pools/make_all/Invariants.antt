use Rattle.std.proofs.Common.{◌≡◌, length}
use Rattle.structure_tests.proofs.pools.make_all.Given as goal

abbrev pub invariant-loop-at : goal.invariant-loop-at
invariant-loop-at g l = length l.pool.waiters.rows ≡ 4
