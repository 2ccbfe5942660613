use Rattle.std.proofs.Common.{◌≡◌}
use Rattle.finsh_tests.proofs.main.Given as goal

abbrev pub invariant-loop-byte : goal.invariant-loop-byte
invariant-loop-byte l = l.lines.room ≡ 300
