use Rattle.std.proofs.Common.{ℕ, ◌<◌, length, List, ap, ◌∙◌, arith, set, subst}
use Rattle.rt_plain.specs.kernel.State.{Pool}
use Rattle.kernel_pools.specs.Pooled.{Returns, ReturnsBlock, pool_at}
use Rattle.kernel_pools.proofs.PoolLemmas.{at-default, returned-in, returned-name, still-pooled}
use Rattle.kernel_pools.proofs.pools.Pools.give_back.Goals as goal

pub invariant_of-self : goal.invariant_of-self
invariant_of-self c =
    let items = c.self.inside.pools.items in
    let o = c.o.inside.0 in
    let there : o < length items = omega (arith, c.requires, c.o.view_is, ap (λ (l : List Pool). length l) c.self.view_is) in
    let was = c.index_mut.ensures.value ∙ at-default items o _ there in
    still-pooled items o c.give_back.new.self (returned-name c.index_mut.result.now c.give_back.new.self c.args.t c.args.next c.give_back.result c.give_back.ensures ∙ ap (λ (p : Pool). p.name) was) c.self.invariant

pub returns : goal.returns
returns c =
    let items = c.self.inside.pools.items in
    let o = c.o.inside.0 in
    let there : o < length items = omega (arith, c.requires, c.o.view_is, ap (λ (l : List Pool). length l) c.self.view_is) in
    let was = c.index_mut.ensures.value ∙ at-default items o _ there in
    let new = set items o c.give_back.new.self in
    subst (λ (k : ℕ). Returns c.args.self.now (pool_at c.args.self.now k) c.args.t c.args.next new c.give_back.result) c.o.view_is
    (subst (λ (l : List Pool). Returns l (pool_at l o) c.args.t c.args.next new c.give_back.result) c.self.view_is
    (returned-in items o c.args.t c.give_back.new.self c.args.next c.give_back.result c.self.invariant.apart there
    (subst (λ (p : Pool). ReturnsBlock p c.args.t c.args.next c.give_back.new.self c.give_back.result) was c.give_back.ensures)))
