-- The pools by place and by name, and their blocks.
use Rattle.std.proofs.Common.{ℕ, zero, suc, ◌≡◌, ◌≢◌, ◌+◌, ◌<◌, ◌≤◌, List, [], ◌∷◌, ◌++◌, length, Bool, true, false, cond, eqb, not, Option, Some, None, refl, sym, ap, ◌∙◌, subst, arith, set, get_or, inl, inr}
use Rattle.std.specs.Prelude.{slice_index_or, reverse, filter, MatchOption}
use Rattle.std.specs.List.{AllPairs, position_from, find}
use Rattle.std.specs.Str.{bytes_eq}
use Rattle.std.proofs.Math.Seq.{map-set_same}
use Rattle.std.proofs.lemmas.Bool.{cases_eq, eq-eqb, ne_eqb}
use Rattle.std.proofs.lemmas.Slice.Eq.{bytes_eq-Decides}
use Rattle.rt_base.specs.declared.codes.WaitOrder.{WaitOrder}
use Rattle.rt_plain.specs.kernel.State.{Pool, is_number}
use Rattle.rt_plain.specs.kernel.PoolCalls.{free_block, holder_of, last_block, place_of, with_block_freed, with_block_held}
use Rattle.mem_pool.specs.Frees.{GivesBack, IsFreed, IsHanded}
use Rattle.mem_pool.specs.Pools.{PoolBlocks, after_alloc, holds_block, free_block as own_free, last_block as own_last, with_block_held as own_held}
use Rattle.mem_pool.specs.declared.freed.Freed.{Freed}
use Rattle.mem_pool.specs.declared.freed.Freed.TheVariants.{NotHeld, Passed, Back}
use Rattle.kernel_pools.specs.Pooled.{AreApart, ArePooled, HandsOver, HandsOverIn, IsPool, Returns, ReturnsBlock, SetsFree, SetsFreeIn, found_pool, given_to, names_of, no_pool, plain_pool, pool_at, pools_given, put_pool}

name_differs : (a b : List ℕ) → a ≢ b → bytes_eq a b ≡ false
name_differs a b h = by_test (bytes_eq a b) refl
  where
    by_test : (c : Bool) → bytes_eq a b ≡ c → bytes_eq a b ≡ false
    by_test true e = absurd (h ((bytes_eq-Decides a b).0 e))
    by_test false e = e

if-true : {X : Type 0} (c : Bool) (x y : X) → c ≡ true → cond c x y ≡ x
if-true c x y e = ap (λ b. cond b x y) e

if-false : {X : Type 0} (c : Bool) (x y : X) → c ≡ false → cond c x y ≡ y
if-false c x y e = ap (λ b. cond b x y) e

-- the pool of a name, by where it stands from a number on
record Place (pools : List Pool) (name : List ℕ) (i o : ℕ) : Type 0 where
  k : ℕ
  is : o ≡ i + k
  pool : IsPool pools name k

place : (pools : List Pool) (name : List ℕ) (i o : ℕ) → position_from (λ (p : Pool). bytes_eq p.name name) i pools ≡ Some o → Place pools name i o
place [] name i o e = cc
place (p ∷ ps) name i o e = by_test (bytes_eq p.name name) refl e (place ps name (i + 1) o)
  where
    by_test : (c : Bool) → bytes_eq p.name name ≡ c → cond c (Some i) (position_from (λ (u : Pool). bytes_eq u.name name) (i + 1) ps) ≡ Some o → (position_from (λ (u : Pool). bytes_eq u.name name) (i + 1) ps ≡ Some o → Place ps name (i + 1) o) → Place (p ∷ ps) name i o
    by_test true is e rest =
        let same : i ≡ o = cc in
        record { k = 0; is = omega (arith, same); pool = record { there = omega arith; named = (bytes_eq-Decides p.name name).0 is; found = if-true (bytes_eq p.name name) (Some p) (found_pool ps name) is } }
    by_test false is e rest =
        let r = rest e in
        record { k = suc r.k; is = omega (arith, r.is); pool = record { there = omega (arith, r.pool.there); named = r.pool.named; found = if-false (bytes_eq p.name name) (Some p) (found_pool ps name) is ∙ r.pool.found } }

pub found-at : (pools : List Pool) (name : List ℕ) (o : ℕ) → position_from (λ (p : Pool). bytes_eq p.name name) 0 pools ≡ Some o → IsPool pools name o
found-at pools name o e =
    let p = place pools name 0 o e in
    let same : p.k ≡ o = omega (arith, p.is) in
    subst (IsPool pools name) same p.pool

pub found-none : (pools : List Pool) (name : List ℕ) (i : ℕ) → position_from (λ (p : Pool). bytes_eq p.name name) i pools ≡ None → found_pool pools name ≡ None
found-none [] name i e = refl
found-none (p ∷ ps) name i e = by_test (bytes_eq p.name name) e (found-none ps name (i + 1))
  where
    by_test : (c : Bool) → cond c (Some i) (position_from (λ (u : Pool). bytes_eq u.name name) (i + 1) ps) ≡ None → (position_from (λ (u : Pool). bytes_eq u.name name) (i + 1) ps ≡ None → found_pool ps name ≡ None) → cond c (Some p) (found_pool ps name) ≡ None
    by_test true e rest = cc
    by_test false e rest = rest e

-- the names

pub name-at : (pools : List Pool) (o : ℕ) → slice_index_or (names_of pools) o [] ≡ (pool_at pools o).name
name-at [] o = refl
name-at (p ∷ ps) zero = refl
name-at (p ∷ ps) (suc o) = name-at ps o

-- another row for the pool of a number is one for the pool of its name

kept : (pools : List Pool) (pool : Pool) → ((k : ℕ) → k < length pools → (pool_at pools k).name ≢ pool.name) → pools ≡ put_pool pools pool
kept [] pool others = refl
kept (p ∷ ps) pool others =
    ap (λ (l : List Pool). p ∷ l) (kept ps pool (λ k there. others (suc k) (omega (arith, there))))
    ∙ ap (λ (u : Pool). u ∷ put_pool ps pool) (sym (if-false (bytes_eq p.name pool.name) pool p (name_differs p.name pool.name (others 0 (omega arith)))))

pub names-length : (pools : List Pool) → length (names_of pools) ≡ length pools
names-length [] = refl
names-length (p ∷ ps) = ap suc (names-length ps)

pub put-is : (pools : List Pool) (o : ℕ) (pool : Pool) → AllPairs (λ one other. one ≢ other) (names_of pools) → o < length pools → pool.name ≡ (pool_at pools o).name → set pools o pool ≡ put_pool pools pool
put-is [] o pool apart there same = absurd (omega (arith, there))
put-is (p ∷ ps) zero pool apart there same =
    ap (λ (l : List Pool). pool ∷ l) (kept ps pool (λ k k_there is. apart 0 (suc k) [] (omega arith) (omega (arith, k_there, names-length ps)) (sym same ∙ sym is ∙ sym (name-at ps k))))
    ∙ ap (λ (u : Pool). u ∷ put_pool ps pool) (sym (if-true (bytes_eq p.name pool.name) pool p ((bytes_eq-Decides p.name pool.name).1 (sym same))))
put-is (p ∷ ps) (suc o) pool apart there same =
    let differs : p.name ≢ pool.name = λ is. apart 0 (suc o) [] (omega arith) (omega (arith, there, names-length ps)) (is ∙ same ∙ sym (name-at ps o)) in
    ap (λ (l : List Pool). p ∷ l) (put-is ps o pool (λ i j e before k_there. apart (suc i) (suc j) e (omega (arith, before)) (omega (arith, k_there))) (omega (arith, there)) same)
    ∙ ap (λ (u : Pool). u ∷ put_pool ps pool) (sym (if-false (bytes_eq p.name pool.name) pool p (name_differs p.name pool.name differs)))

pub names-set : (pools : List Pool) (o : ℕ) (pool : Pool) → pool.name ≡ (pool_at pools o).name → names_of (set pools o pool) ≡ names_of pools
names-set pools o pool same = map-set_same (λ (p : Pool). p.name) pools o pool no_pool same

pub set-same : (pools : List Pool) (place : ℕ) → set pools place (pool_at pools place) ≡ pools
set-same [] place = refl
set-same (p ∷ ps) zero = refl
set-same (p ∷ ps) (suc place) = ap (λ (l : List Pool). p ∷ l) (set-same ps place)

pub at-default : (pools : List Pool) (place : ℕ) (other : Pool) → place < length pools → slice_index_or pools place other ≡ pool_at pools place
at-default [] place other there = absurd (omega (arith, there))
at-default (p ∷ ps) zero other there = refl
at-default (p ∷ ps) (suc place) other there = at-default ps place other (omega (arith, there))

-- ---- the blocks

set-twice : (xs : List (Option ℕ)) (i : ℕ) (x y : Option ℕ) → set (set xs i x) i y ≡ set xs i y
set-twice [] i x y = refl
set-twice (z ∷ xs) zero x y = refl
set-twice (z ∷ xs) (suc i) x y = ap (λ (l : List (Option ℕ)). z ∷ l) (set-twice xs i x y)

same-number : (a b : ℕ) → eqb a b ≡ eqb b a
same-number a b =
    elim (cases_eq a b) [
      | inl e ↦ eq-eqb a b e ∙ sym (eq-eqb b a (sym e))
      | inr e ↦ ne_eqb a b e ∙ sym (ne_eqb b a (λ f. e (sym f)))
    ]

same-holder : (t : ℕ) (o : Option ℕ) → holds_block t o ≡ is_number t o
same-holder t None = refl
same-holder t (Some u) = same-number u t

find-same : (p q : ℕ → Bool) (xs : List ℕ) → ((x : ℕ) → p x ≡ q x) → find p xs ≡ find q xs
find-same p q [] h = refl
find-same p q (x ∷ xs) h = ap (λ c. cond c (Some x) (find p xs)) (h x) ∙ ap (cond (q x) (Some x)) (find-same p q xs h)

last-is : (name : List ℕ) (order : WaitOrder) (b : PoolBlocks) (t : ℕ) → own_last b t ≡ last_block (plain_pool name order b) t
last-is name order b t = find-same (λ (k : ℕ). holds_block t (get_or b.blocks k None)) (λ (k : ℕ). is_number t (get_or b.blocks k None)) (reverse b.held) (λ k. same-holder t (get_or b.blocks k None))

held-is : (name : List ℕ) (order : WaitOrder) (b : PoolBlocks) (block t : ℕ) → plain_pool name order (own_held b block t) ≡ with_block_held (plain_pool name order b) block t
held-is name order b block t = ap (λ (l : List (Option ℕ)). (let p : Pool = record { name = name; size = b.size; order = order; blocks = l; held = filter (λ other. not (eqb other block)) b.held ++ block ∷ [] } in p)) (sym (set-twice b.blocks block None (Some t)))

pub given-is : (name : List ℕ) (order : WaitOrder) (b : PoolBlocks) (t : ℕ) (o : Option ℕ) → plain_pool name order (after_alloc b o t) ≡ given_to (plain_pool name order b) o t
given-is name order b t None = refl
given-is name order b t (Some block) = held-is name order b block t

pub returns-is : (name : List ℕ) (order : WaitOrder) (old new : PoolBlocks) (t : ℕ) (next : Option ℕ) (freed : Freed) → GivesBack old t next new freed → ReturnsBlock (plain_pool name order old) t next (plain_pool name order new) freed
returns-is name order old new t next NotHeld h = (sym (last-is name order old t) ∙ h.0, ap (plain_pool name order) h.1)
returns-is name order old new t next (Passed other place) h = (h.0, record { block = h.1.block; last = sym (last-is name order old t) ∙ h.1.last; place_is = h.1.place_is; state = ap (plain_pool name order) h.1.state ∙ held-is name order old h.1.block other })
returns-is name order old new t next (Back place) h = (h.0, record { block = h.1.block; last = sym (last-is name order old t) ∙ h.1.last; place_is = h.1.place_is; state = ap (plain_pool name order) h.1.state })

-- ---- one pool among all

set-length : (pools : List Pool) (o : ℕ) (pool : Pool) → length (set pools o pool) ≡ length pools
set-length [] o pool = refl
set-length (p ∷ ps) zero pool = refl
set-length (p ∷ ps) (suc o) pool = ap suc (set-length ps o pool)

pub still-pooled : (pools : List Pool) (o : ℕ) (pool : Pool) → pool.name ≡ (pool_at pools o).name → ArePooled pools → ArePooled (set pools o pool)
still-pooled pools o pool same is = record {
  few = omega (arith, is.few, set-length pools o pool);
  apart = subst (λ (ns : List (List ℕ)). AllPairs (λ one other. one ≢ other) ns) (sym (names-set pools o pool same)) is.apart;
}

pub given-name : (pool : Pool) (o : Option ℕ) (t : ℕ) → (given_to pool o t).name ≡ pool.name
given-name pool None t = refl
given-name pool (Some block) t = refl

pub given-in : (pools : List Pool) (o t : ℕ) (block : Option ℕ) → AreApart pools → o < length pools → set pools o (given_to (pool_at pools o) block t) ≡ pools_given pools (pool_at pools o) block t
given-in pools o t None apart there = set-same pools o
given-in pools o t (Some block) apart there = put-is pools o (with_block_held (pool_at pools o) block t) apart there refl

pub returned-name : (old new : Pool) (t : ℕ) (next : Option ℕ) (freed : Freed) → ReturnsBlock old t next new freed → new.name ≡ old.name
returned-name old new t next NotHeld h = ap (λ (p : Pool). p.name) h.1
returned-name old new t next (Passed other place) h = ap (λ (p : Pool). p.name) h.1.state
returned-name old new t next (Back place) h = ap (λ (p : Pool). p.name) h.1.state

pub returned-in : (pools : List Pool) (o t : ℕ) (new : Pool) (next : Option ℕ) (freed : Freed) → AreApart pools → o < length pools → ReturnsBlock (pool_at pools o) t next new freed → Returns pools (pool_at pools o) t next (set pools o new) freed
returned-in pools o t new next NotHeld apart there h = (h.0, ap (set pools o) h.1 ∙ set-same pools o)
returned-in pools o t new next (Passed other place) apart there h = (h.0, record { block = h.1.block; last = h.1.last; place_is = h.1.place_is; state = ap (set pools o) h.1.state ∙ put-is pools o (with_block_held (pool_at pools o) h.1.block other) apart there refl })
returned-in pools o t new next (Back place) apart there h = (h.0, record { block = h.1.block; last = h.1.last; place_is = h.1.place_is; state = ap (set pools o) h.1.state ∙ put-is pools o (with_block_freed (pool_at pools o) h.1.block) apart there refl })

pub by-place : (pools : List Pool) (name : List ℕ) (o : Option ℕ) → position_from (λ (p : Pool). bytes_eq p.name name) 0 pools ≡ o → MatchOption o (found_pool pools name ≡ None) (IsPool pools name)
by-place pools name None is = found-none pools name 0 is
by-place pools name (Some place) is = found-at pools name place is
