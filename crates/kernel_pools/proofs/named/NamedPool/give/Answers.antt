use Rattle.std.proofs.Common.{ap, ◌∙◌}
use Rattle.rt_plain.specs.kernel.PoolCalls.{free_block}
use Rattle.rt_plain.specs.kernel.State.{Pool}
use Rattle.mem_pool.specs.Pools.{free_block as own_free}
use Rattle.kernel_pools.specs.Pooled.{given_to, plain_pool}
use Rattle.kernel_pools.proofs.PoolLemmas.{given-is}
use Rattle.kernel_pools.proofs.named.NamedPool.give.Goals as goal

pub returns-clause-state : goal.returns-clause-state
returns-clause-state c =
    ap (plain_pool c.self.inside.name c.self.inside.order) c.try_alloc.ensures.state
    ∙ given-is c.self.inside.name c.self.inside.order c.self.inside.blocks c.args.t (own_free c.self.inside.blocks)
    ∙ ap (λ (p : Pool). given_to p (free_block p) c.args.t) c.self.view_is
