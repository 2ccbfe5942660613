use Rattle.std.proofs.Common.{subst}
use Rattle.rt_plain.specs.kernel.State.{Pool}
use Rattle.kernel_pools.specs.Pooled.{ReturnsBlock, plain_pool}
use Rattle.kernel_pools.proofs.PoolLemmas.{returns-is}
use Rattle.kernel_pools.proofs.named.NamedPool.give_back.Goals as goal

pub returns : goal.returns
returns c =
    subst (λ (p : Pool). ReturnsBlock p c.args.t c.args.next (plain_pool c.self.inside.name c.self.inside.order c.give_back.new.self) c.give_back.result) c.self.view_is
    (returns-is c.self.inside.name c.self.inside.order c.self.inside.blocks c.give_back.new.self c.args.t c.args.next c.give_back.result c.give_back.ensures.exactly)
