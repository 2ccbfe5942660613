use Rattle.rt_kernel.proofs.NestLemmas.{unlocks}
use Rattle.rt_kernel.proofs.state.State.unlock.Goals as goal

pub returns : goal.returns
returns c = unlocks c.args.self.now c.exit.new.self c.args.out.now c.args.by c.in-Thread.t c.in-Thread.core c.exit.result c.in-Thread.is c.exit.ensures.code c.exit.ensures.cores
