use Rattle.std.proofs.Common.{arith, rules, ℕ, ◌≡◌, ◌∙◌, sym, not, eqb, ap, length, get_or, Some, None}
use Rattle.std.proofs.lemmas.Fn.{filter_same}
use Rattle.mem_pool.specs.Pools.{others}
use Rattle.mem_pool.proofs.PoolLemmas.{there, room_again, holder_seen, kept_back, kept_passed, freed_seen, handed_seen}
use Rattle.mem_pool.proofs.pool.MemPool.give_back.Goals as goal

pub index_mut-requires : goal.index_mut-requires
index_mut-requires c =
    let was : get_or c.self.inside.holders.items c.in-Some.block None ≡ Some c.args.thread = holder_seen _ _ _ _ _ _ _ c.self.view_is (sym c.last_block.ensures ∙ c.in-Some.is) in
    omega (arith, there c.self.inside.holders.items c.in-Some.block c.args.thread was)

pub insert-requires : goal.insert-requires
insert-requires c =
    let was : get_or c.self.inside.holders.items c.in-Some.block None ≡ Some c.args.thread = holder_seen _ _ _ _ _ _ _ c.self.view_is (sym c.last_block.ensures ∙ c.in-Some.is) in
    omega (arith, there c.self.inside.holders.items c.in-Some.block c.args.thread was, c.self.invariant.few)

pub invariant_of-self : goal.invariant_of-self
invariant_of-self c =
    let was : get_or c.self.inside.holders.items c.in-Some.block None ≡ Some c.args.thread = holder_seen _ _ _ _ _ _ _ c.self.view_is (sym c.last_block.ensures ∙ c.in-Some.is) in
    let left : c.retain.new.self.items ≡ others c.in-Some.block c.self.inside.held.items = filter_same _ (λ (o : ℕ). not (eqb o c.in-Some.block)) _ (λ x b f' k. search rules) _ _ c.retain.ensures.filtered in
    rw left (kept_back _ _ _ _ _ _ _ _ c.self.invariant was c.retain.ensures.capacity c.insert.ensures.here c.insert.ensures.elsewhere)

pub index_mut-requires-2 : goal.index_mut-requires-2
index_mut-requires-2 c =
    let was : get_or c.self.inside.holders.items c.in-Some.block None ≡ Some c.args.thread = holder_seen _ _ _ _ _ _ _ c.self.view_is (sym c.last_block.ensures ∙ c.in-Some.is) in
    omega (arith, there c.self.inside.holders.items c.in-Some.block c.args.thread was)

pub push_reserved-requires : goal.push_reserved-requires
push_reserved-requires c =
    let was : get_or c.self.inside.holders.items c.in-Some.block None ≡ Some c.args.thread = holder_seen _ _ _ _ _ _ _ c.self.view_is (sym c.last_block.ensures ∙ c.in-Some.is) in
    let left : c.retain.new.self.items ≡ others c.in-Some.block c.self.inside.held.items = filter_same _ (λ (o : ℕ). not (eqb o c.in-Some.block)) _ (λ x b f' k. search rules) _ _ c.retain.ensures.filtered in
    omega (arith, ap length left, room_again _ _ _ _ _ _ c.self.invariant was, c.retain.ensures.capacity)

pub invariant_of-self-2 : goal.invariant_of-self-2
invariant_of-self-2 c =
    let was : get_or c.self.inside.holders.items c.in-Some.block None ≡ Some c.args.thread = holder_seen _ _ _ _ _ _ _ c.self.view_is (sym c.last_block.ensures ∙ c.in-Some.is) in
    let left : c.retain.new.self.items ≡ others c.in-Some.block c.self.inside.held.items = filter_same _ (λ (o : ℕ). not (eqb o c.in-Some.block)) _ (λ x b f' k. search rules) _ _ c.retain.ensures.filtered in
    rw (c.push_reserved.ensures.items, left)
    (kept_passed _ _ _ _ _ _ _ c.in-Some-next.next c.self.invariant was (c.push_reserved.ensures.capacity ∙ c.retain.ensures.capacity))

pub returns-in_default-next-clause-exactly : goal.returns-in_default-next-clause-exactly
returns-in_default-next-clause-exactly c =
    let left : c.retain.new.self.items ≡ others c.in-Some.block c.self.inside.held.items = filter_same _ (λ (o : ℕ). not (eqb o c.in-Some.block)) _ (λ x b f' k. search rules) _ _ c.retain.ensures.filtered in (
      c.in_default-next.is,
      rw left (freed_seen _ _ _ _ _ _ _ _ c.self.view_is (sym c.last_block.ensures ∙ c.in-Some.is) c.place_of-place.ensures),
    )

pub returns-clause-exactly : goal.returns-clause-exactly
returns-clause-exactly c =
    let left : c.retain.new.self.items ≡ others c.in-Some.block c.self.inside.held.items = filter_same _ (λ (o : ℕ). not (eqb o c.in-Some.block)) _ (λ x b f' k. search rules) _ _ c.retain.ensures.filtered in (
      c.in-Some-next.is,
      rw (c.push_reserved.ensures.items, left)
          (handed_seen _ _ _ _ _ _ _ _ _ c.self.view_is (sym c.last_block.ensures ∙ c.in-Some.is) c.place_of-place.ensures),
    )
