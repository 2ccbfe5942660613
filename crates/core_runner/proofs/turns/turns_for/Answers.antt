use Rattle.std.proofs.Common.{◌+◌, ◌*◌, ◌≤◌, arith}
use Rattle.std.proofs.Math.Nat.{mul-le-mul_right}
use Rattle.core_runner.proofs.turns.turns_for.Goals as goal

pub overflow_add-result-3 : goal.overflow_add-result-3
overflow_add-result-3 c =
    let few : c.args.entries + 1 ≤ 4294967296 = omega (arith, c.ranges.entries) in
    let most = mul-le-mul_right {m = c.args.entries + 1} {n = 4294967296} (9 * c.args.cores + 1) few in
    omega (arith, most, c.ranges.cores, c.requires)
