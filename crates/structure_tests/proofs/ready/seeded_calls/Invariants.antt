use Rattle.std.proofs.Common.{◌≡◌, ◌*◌}
use Rattle.structure_tests.proofs.ready.seeded_calls.Given as goal

abbrev pub invariant-loop : goal.invariant-loop
invariant-loop g l = record { threads : l.set.threads ≡ 256; cores : l.set.cores ≡ 2; levels : l.set.levels ≡ 8 * g.row.G }

abbrev pub invariant-loop-core : goal.invariant-loop-core
invariant-loop-core g l = record { threads : l.set.threads ≡ 256; cores : l.set.cores ≡ 2; levels : l.set.levels ≡ 8 * g.row.G }
