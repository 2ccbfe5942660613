use Rattle.std.proofs.Common.{rules, ◌<◌}
use Rattle.mem_pool.proofs.BitLemmas.{least_bit}
use Rattle.mem_pool.proofs.bits.Bits.lowest.Goals as goal

pub returns : goal.returns
returns c =
    let some : 0 < c.args.self.now.word = search rules in
    least_bit c.args.self.now.word some (search rules)
