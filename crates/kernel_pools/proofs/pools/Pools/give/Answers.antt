use Rattle.std.proofs.Common.{ℕ, ◌<◌, length, List, ap, ◌∙◌, arith, set}
use Rattle.rt_plain.specs.kernel.State.{Pool}
use Rattle.rt_plain.specs.kernel.PoolCalls.{free_block}
use Rattle.kernel_pools.specs.Pooled.{given_to, pool_at, pools_given}
use Rattle.kernel_pools.proofs.PoolLemmas.{at-default, given-in, given-name, still-pooled}
use Rattle.kernel_pools.proofs.pools.Pools.give.Goals as goal

pub invariant_of-self : goal.invariant_of-self
invariant_of-self c =
    let items = c.self.inside.pools.items in
    let o = c.o.inside.0 in
    let there : o < length items = omega (arith, c.requires, c.o.view_is, ap (λ (l : List Pool). length l) c.self.view_is) in
    let was = c.index_mut.ensures.value ∙ at-default items o _ there in
    still-pooled items o c.give.new.self (ap (λ (p : Pool). p.name) c.give.ensures.state ∙ given-name _ _ _ ∙ ap (λ (p : Pool). p.name) was) c.self.invariant

pub returns-clause-state : goal.returns-clause-state
returns-clause-state c =
    let items = c.self.inside.pools.items in
    let o = c.o.inside.0 in
    let there : o < length items = omega (arith, c.requires, c.o.view_is, ap (λ (l : List Pool). length l) c.self.view_is) in
    let was = c.index_mut.ensures.value ∙ at-default items o _ there in
    ap (set items o) (c.give.ensures.state ∙ ap (λ (p : Pool). given_to p (free_block p) c.args.t) was)
    ∙ given-in items o c.args.t (free_block (pool_at items o)) c.self.invariant.apart there
    ∙ ap (λ (l : List Pool). pools_given l (pool_at l o) (free_block (pool_at l o)) c.args.t) c.self.view_is
    ∙ ap (λ (k : ℕ). pools_given c.args.self.now (pool_at c.args.self.now k) (free_block (pool_at c.args.self.now k)) c.args.t) c.o.view_is
