use Rattle.std.proofs.Common.{List, map, reverse, sym, ap, ◌∙◌, subst}
use Rattle.std.specs.List.{All}
use Rattle.rt_plain.specs.PlainBoard.{PlainBoard}
use Rattle.rt_plain.specs.declared.board.PoolDef.{PoolDef}
use Rattle.rt_plain.specs.kernel.Opening.{new_pool}
use Rattle.rt_plain.specs.kernel.State.{Pool}
use Rattle.rt_plain.specs.text.Canon.{IsValid}
use Rattle.kernel_pools.specs.Pooled.{ArePooled, IsSized}
use Rattle.kernel_pools.proofs.OpenLemmas.{opened-pooled, opened-sized}
use Rattle.kernel_pools.proofs.pools.Pools.open.Goals as goal

pub pools_of-requires : goal.pools_of-requires
pools_of-requires c =
    subst (λ (l : List PoolDef). All IsSized l) (sym (c.as_slice.ensures ∙ ap (λ (b : PlainBoard). b.pools) c.board.view_is))
    (opened-sized c.args.board.now (subst IsValid c.board.view_is c.board.invariant))

pub invariant_of-result : goal.invariant_of-result
invariant_of-result c =
    subst (λ (l : List Pool). ArePooled l) (sym (c.in_ok-pools.ensures ∙ ap (λ (l : List PoolDef). reverse (map new_pool l)) (c.as_slice.ensures ∙ ap (λ (b : PlainBoard). b.pools) c.board.view_is)))
    (opened-pooled c.args.board.now (subst IsValid c.board.view_is c.board.invariant))
