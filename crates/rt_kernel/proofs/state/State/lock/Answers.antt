use Rattle.rt_kernel.proofs.NestLemmas.{locks}
use Rattle.rt_kernel.proofs.state.State.lock.Goals as goal

pub returns : goal.returns
returns c = locks c.args.self.now c.enter.new.self c.args.out.now c.args.by c.in-Thread.t c.in-Thread.core c.enter.result c.in-Thread.is c.enter.ensures.code c.enter.ensures.cores
