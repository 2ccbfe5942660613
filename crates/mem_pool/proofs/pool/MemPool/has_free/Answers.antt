use Rattle.std.proofs.Common.{◌≡◌, ◌∙◌, ap, is_some}
use Rattle.mem_pool.specs.Pools.{PoolBlocks, free_block}
use Rattle.mem_pool.proofs.PoolLemmas.{free-told}
use Rattle.mem_pool.proofs.pool.MemPool.has_free.Goals as goal

pub returns : goal.returns
returns c =
    c.is_some.ensures
    ∙ free-told c.self.inside.size c.self.inside.holders.items c.self.inside.free.word c.self.inside.held.items _ c.self.inside.waiters c.lowest.result c.self.invariant c.lowest.ensures
    ∙ ap (λ (p : PoolBlocks). is_some (free_block p)) c.self.view_is
