use Rattle.std.proofs.Common.{◌≡◌, ◌<◌, ℕ, List, Option, Some, None, MatchOption, length, sym, subst, ap, ◌∙◌, arith}
use Rattle.std.specs.List.{position_from}
use Rattle.std.specs.Str.{bytes_eq}
use Rattle.rt_plain.specs.kernel.State.{Pool}
use Rattle.kernel_pools.specs.Pooled.{found_pool, IsPool}
use Rattle.kernel_pools.proofs.PoolLemmas.{found-at, found-none}
use Rattle.kernel_pools.proofs.pools.Pools.find.Goals as goal

seen : (name bytes : List ℕ) (items inside pools : List Pool) (o : Option ℕ) → bytes ≡ name → items ≡ inside → inside ≡ pools → o ≡ position_from (λ (p : Pool). bytes_eq p.name bytes) 0 items → position_from (λ (p : Pool). bytes_eq p.name name) 0 pools ≡ o
seen name bytes items inside pools o same all view is =
    sym (is ∙ ap (λ (n : List ℕ). position_from (λ (p : Pool). bytes_eq p.name n) 0 items) same ∙ ap (position_from (λ (p : Pool). bytes_eq p.name name) 0) (all ∙ view))

pub returns-in_err-place : goal.returns-in_err-place
returns-in_err-place c =
    let pools = c.args.self.now in
    let name = c.args.name.now in
    subst (λ (o : Option ℕ). MatchOption o (found_pool pools name ≡ None) (IsPool pools name)) (sym c.from_residual.ensures)
    (found-none pools name 0 (seen name c.bytes.result.now c.deref.result.now c.self.inside.pools.items pools None c.bytes.ensures.bytes c.deref.ensures.value c.self.view_is (sym c.in_err-place.was ∙ c.position.ensures.found)))

at-place : goal.returns
at-place c =
    let pools = c.args.self.now in
    let name = c.args.name.now in
    found-at pools name c.in_ok-place.place (seen name c.bytes.result.now c.deref.result.now c.self.inside.pools.items pools (Some c.in_ok-place.place) c.bytes.ensures.bytes c.deref.ensures.value c.self.view_is (sym c.in_ok-place.was ∙ c.position.ensures.found))

pub overflow_cast-result : goal.overflow_cast-result
overflow_cast-result c =
    let there : c.in_ok-place.place < length c.args.self.now = (found-at c.args.self.now c.args.name.now c.in_ok-place.place (seen c.args.name.now c.bytes.result.now c.deref.result.now c.self.inside.pools.items c.args.self.now (Some c.in_ok-place.place) c.bytes.ensures.bytes c.deref.ensures.value c.self.view_is (sym c.in_ok-place.was ∙ c.position.ensures.found))).there in
    omega (arith, there, c.self.invariant.few, ap length c.self.view_is)

pub returns : goal.returns
returns c = at-place c
