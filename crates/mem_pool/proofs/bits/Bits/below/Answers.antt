use Rattle.mem_pool.proofs.BitLemmas.{ones_below}
use Rattle.mem_pool.proofs.bits.Bits.below.Goals as goal

pub returns : goal.returns
returns c k = ones_below c.args.count k c.requires.few
