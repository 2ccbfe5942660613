use Rattle.std.proofs.Common.{rules, ◌≡◌, replicate, None}
use Rattle.std.proofs.lemmas.Grind.{common_steps}
use Rattle.mem_pool.proofs.PoolLemmas.{kept_at_first}
use Rattle.mem_pool.proofs.pool.MemPool.new.Goals as goal

pub invariant_of-result : goal.invariant_of-result
invariant_of-result c =
    let blocks : c.in_ok-holders.holders.items ≡ replicate c.args.blocks None = search (rules, common_steps) in
    kept_at_first c.args.blocks _ _ _ _ c.requires.blocks_few blocks c.in_ok-held.ensures.items c.in_ok-held.ensures.exact c.below.ensures
