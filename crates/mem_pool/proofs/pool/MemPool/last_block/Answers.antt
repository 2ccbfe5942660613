use Rattle.std.proofs.Common.{rules, tests, ◌≡◌, ◌∙◌, ap, ℕ}
use Rattle.std.specs.Slice.Iter.{iter_rest}
use Rattle.std.specs.Iterator.Adapters.{rev_source}
use Rattle.std.proofs.lemmas.Iterator.Adapters.{YieldsList-from_rev_slice}
use Rattle.std.proofs.lemmas.Iterator.Search.{find_from_yields_List}
use Rattle.mem_pool.specs.Pools.{PoolBlocks, holds_block, holder_of}
use Rattle.mem_pool.proofs.pool.MemPool.last_block.Goals as goal

pub returns : goal.returns
returns c =
    let items : iter_rest (rev_source c.rev.result) ≡ c.args.self.now.held = ap iter_rest c.rev.ensures.source ∙ c.iter.ensures.rest ∙ c.deref.ensures.value ∙ ap (λ (p : PoolBlocks). p.held) c.self.view_is in
    c.copied.ensures
    ∙ find_from_yields_List (λ (block : ℕ). holds_block c.args.thread (holder_of c.args.self.now block)) _ _ c.find.result c.find.ensures.ran
    (YieldsList-from_rev_slice c.args.self.now.held items) (λ x b q k. search (rules, tests))
