use Rattle.std.proofs.Common.{◌≡◌, ◌*◌}
use Rattle.structure_tests.proofs.ready.make_all.Given as goal

abbrev pub invariant-loop-act : goal.invariant-loop-act
invariant-loop-act g l = record { threads : l.set.threads ≡ 256; cores : l.set.cores ≡ 2; levels : l.set.levels ≡ 8 * g.row.G }
