-- What changes of pools and threads leave of the threads that wait for blocks.
use Rattle.std.proofs.Common.{◌≡◌, ◌+◌, ◌∷◌, [], ◌++◌, ◌⊎◌, inl, inr, ℕ, zero, suc, List, Option, Some, None, Bool, true, false, not, is_some, length, length-append, cond, refl, sym, ap, ◌∙◌, subst, arith, filter_map, map, slice_index_or, slice_set}
use Rattle.std.specs.Prelude.{if◌then◌else◌}
use Rattle.std.specs.List.{AllByRecursion, find, cons_option, range_with_len}
use Rattle.std.specs.Str.{bytes_eq}
use Rattle.std.proofs.lemmas.List.{length-set}
use Rattle.std.proofs.lemmas.Slice.Eq.{bytes_eq-Decides}
use Rattle.rt_base.specs.declared.codes.WaitOrder.{WaitOrder}
use Rattle.rt_plain.specs.declared.stmt.Call.{Call}
use Rattle.rt_plain.specs.PlainBoard.{PlainBoard}
use Rattle.rt_plain.specs.kernel.Effects.{Effect}
use Rattle.rt_plain.specs.kernel.PoolCalls.{free_block, with_block_held}
use Rattle.rt_plain.specs.kernel.State.{State, Waiting, InCall, Thread, Pool, no_thread, thread_at}
use Rattle.rt_plain.specs.kernel.Waiting.{Waiter, stands_before, put_in_order, in_order, head_of, waiter_of, number_in, first_waiter, takes_block}
use Rattle.pool_laws.specs.Served.{awaits_block, IsUsedUp, IsServedThread, IsServed}

-- no thread waits without cause behind an action where none did before it
pub record Spares (b : PlainBoard) (s : State) (e : Effect) : Type 0 where
  pub kept : IsServed s → IsServed e.state

-- another row of a thread, which waits for no block for which it didn't wait
pub served-set : (pools : List Pool) (threads : List Thread) (t : ℕ) (row : Thread) → ((name : List ℕ) → awaits_block name row.stage ≡ true → awaits_block name (slice_index_or threads t no_thread).stage ≡ true) → AllByRecursion (IsServedThread pools) threads → AllByRecursion (IsServedThread pools) (slice_set threads t row)
served-set pools [] t row fewer all = tt
served-set pools (x ∷ xs) zero row fewer all = (λ name awaits. all.0 name (fewer name awaits), all.1)
served-set pools (x ∷ xs) (suc t) row fewer all = (all.0, served-set pools xs t row fewer all.1)

pub served-put : (pools : List Pool) (threads : List Thread) (t : ℕ) (row : Thread) → IsServedThread pools row → AllByRecursion (IsServedThread pools) threads → AllByRecursion (IsServedThread pools) (slice_set threads t row)
served-put pools [] t row served all = tt
served-put pools (x ∷ xs) zero row served all = (served, all.1)
served-put pools (x ∷ xs) (suc t) row served all = (all.0, served-put pools xs t row served all.1)

-- other pools, each used up that was
pub served-pools : (pools others : List Pool) (threads : List Thread) → ((name : List ℕ) → IsUsedUp pools name → IsUsedUp others name) → AllByRecursion (IsServedThread pools) threads → AllByRecursion (IsServedThread others) threads
served-pools pools others [] used all = tt
served-pools pools others (x ∷ xs) used all = (λ name awaits. used name (all.0 name awaits), served-pools pools others xs used all.1)

abbrev pool_of : List ℕ → List Pool → Option Pool
pool_of name pools = find (λ (o : Pool). bytes_eq o.name name) pools

abbrev put_pool : Pool → List Pool → List Pool
put_pool pool pools = map (λ (o : Pool). if bytes_eq o.name pool.name then pool else o) pools

-- what is found where a pool has another row: that row, under its name, or what was there
found-put : (pools : List Pool) (new : Pool) (name : List ℕ) (q : Pool) → pool_of name (put_pool new pools) ≡ Some q → (pool_of name pools ≡ Some q) ⊎ ((q ≡ new) × (new.name ≡ name))
found-put [] new name q is = inl is
found-put (o ∷ os) new name q is = by_name (bytes_eq o.name new.name) refl (found-put os new name q) is where
  other : (c : Bool) → (pool_of name (put_pool new os) ≡ Some q → (pool_of name os ≡ Some q) ⊎ ((q ≡ new) × (new.name ≡ name))) → cond c (Some o) (pool_of name (put_pool new os)) ≡ Some q → (cond c (Some o) (pool_of name os) ≡ Some q) ⊎ ((q ≡ new) × (new.name ≡ name))
  other true rest is = inl is
  other false rest is = rest is

  same : (c : Bool) → bytes_eq new.name name ≡ c → (pool_of name (put_pool new os) ≡ Some q → (pool_of name os ≡ Some q) ⊎ ((q ≡ new) × (new.name ≡ name))) → cond c (Some new) (pool_of name (put_pool new os)) ≡ Some q → (cond c (Some o) (pool_of name os) ≡ Some q) ⊎ ((q ≡ new) × (new.name ≡ name))
  same true named rest is = let it : new ≡ q = cc in inr (sym it, (bytes_eq-Decides new.name name).0 named)
  same false named rest is = rest is

  by_name : (c : Bool) → bytes_eq o.name new.name ≡ c → (pool_of name (put_pool new os) ≡ Some q → (pool_of name os ≡ Some q) ⊎ ((q ≡ new) × (new.name ≡ name))) → pool_of name ((if c then new else o) ∷ put_pool new os) ≡ Some q → (pool_of name (o ∷ os) ≡ Some q) ⊎ ((q ≡ new) × (new.name ≡ name))
  by_name true at rest is =
      let equal : o.name ≡ new.name = (bytes_eq-Decides o.name new.name).0 at in
      subst (λ (n : List ℕ). (cond (bytes_eq n name) (Some o) (pool_of name os) ≡ Some q) ⊎ ((q ≡ new) × (new.name ≡ name))) (sym equal) (same (bytes_eq new.name name) refl rest is)
  by_name false at rest is = other (bytes_eq o.name name) rest is

pub some-none : {A : Type 0} (x : A) → Some x ≡ None → ⊥
some-none x e = cc

one-pool : (a b : Pool) → Some a ≡ Some b → a ≡ b
one-pool a b e = cc

found-named : (pools : List Pool) (name : List ℕ) (pool : Pool) → pool_of name pools ≡ Some pool → pool.name ≡ name
found-named [] name pool is = absurd cc
found-named (o ∷ os) name pool is = by_test (bytes_eq o.name name) refl (found-named os name pool) is where
  by_test : (c : Bool) → bytes_eq o.name name ≡ c → (pool_of name os ≡ Some pool → pool.name ≡ name) → cond c (Some o) (pool_of name os) ≡ Some pool → pool.name ≡ name
  by_test true named rest is = ap (λ (p : Pool). p.name) (sym (one-pool o pool is)) ∙ (bytes_eq-Decides o.name name).0 named
  by_test false named rest is = rest is

-- a pool that stays used up
pub used-put : (pools : List Pool) (name : List ℕ) (pool new : Pool) → pool_of name pools ≡ Some pool → new.name ≡ pool.name → (free_block pool ≡ None → free_block new ≡ None) → (n : List ℕ) → IsUsedUp pools n → IsUsedUp (put_pool new pools) n
used-put pools name pool new found named stays n used q is = elim (found-put pools new n q is) [
  | inl before ↦ used q before
  | inr here ↦ ap free_block here.0 ∙ stays (used pool (ap (λ (m : List ℕ). pool_of m pools) (sym here.1 ∙ named ∙ found-named pools name pool found) ∙ found))
]

-- a pool that was found used up
number-some : (c : Bool) (number : ℕ) → is_some (if c then Some number else None) ≡ true → c ≡ true
number-some true number is = refl
number-some false number is = cc

pub used-here : (pools : List Pool) (name : List ℕ) (pool : Pool) (n : List ℕ) (number : ℕ) (timeout : Option ℕ) → pool_of name pools ≡ Some pool → free_block pool ≡ None → awaits_block n (Waiting (InCall (Call.MpAlloc pool.name timeout)) number) ≡ true → IsUsedUp pools n
used-here pools name pool n number timeout found none awaits q is =
    let same : pool.name ≡ n = (bytes_eq-Decides pool.name n).0 (number-some (bytes_eq pool.name n) number awaits) in
    let again : pool_of n pools ≡ Some pool = ap (λ (m : List ℕ). pool_of m pools) (sym same ∙ found-named pools name pool found) ∙ found in
    ap free_block (one-pool q pool (sym is ∙ again)) ∙ none

-- a block that passes leaves none free
find-fewer : (p q : ℕ → Bool) → ((x : ℕ) → q x ≡ true → p x ≡ true) → (xs : List ℕ) → find p xs ≡ None → find q xs ≡ None
find-fewer p q fewer [] none = refl
find-fewer p q fewer (x ∷ xs) none = by_test (p x) (q x) refl refl (find-fewer p q fewer xs) none where
  by_test : (c d : Bool) → p x ≡ c → q x ≡ d → (find p xs ≡ None → find q xs ≡ None) → cond c (Some x) (find p xs) ≡ None → cond d (Some x) (find q xs) ≡ None
  by_test true d is same rest none = absurd (some-none x none)
  by_test false true is same rest none = absurd (clash (sym is ∙ fewer x same)) where
    clash : false ≡ true → ⊥
    clash e = cc
  by_test false false is same rest none = rest none

still-held : (blocks : List (Option ℕ)) (block t k : ℕ) → not (is_some (slice_index_or (slice_set (slice_set blocks block None) block (Some t)) k None)) ≡ true → not (is_some (slice_index_or blocks k None)) ≡ true
still-held [] block t k is = is
still-held (b ∷ bs) zero t zero is = absurd cc
still-held (b ∷ bs) zero t (suc k) is = is
still-held (b ∷ bs) (suc block) t zero is = is
still-held (b ∷ bs) (suc block) t (suc k) is = still-held bs block t k is

pub held-full : (pool : Pool) (block t : ℕ) → free_block pool ≡ None → free_block (with_block_held pool block t) ≡ None
held-full pool block t none =
    let new : List (Option ℕ) = (with_block_held pool block t).blocks in
    let long : length new ≡ length pool.blocks = length-set (slice_set pool.blocks block None) block (Some t) ∙ length-set pool.blocks block None in
    ap (λ n. find (λ k. not (is_some (slice_index_or new k None))) (range_with_len 0 n)) long
    ∙ find-fewer (λ k. not (is_some (slice_index_or pool.blocks k None))) (λ k. not (is_some (slice_index_or new k None))) (still-held pool.blocks block t) (range_with_len 0 (length pool.blocks)) none

-- where a wait list has no first, no thread stands in it
put-some : (order : WaitOrder) (w : Waiter) (ws : List Waiter) → head_of (map (λ (x : Waiter). x.thread) (put_in_order order w ws)) ≡ None → ⊥
put-some order w [] none = some-none w.thread none
put-some order w (x ∷ xs) none = by_test (stands_before order w x) none where
  by_test : (c : Bool) → head_of (map (λ (y : Waiter). y.thread) (if c then w ∷ x ∷ xs else x ∷ put_in_order order w xs)) ≡ None → ⊥
  by_test true none = some-none w.thread none
  by_test false none = some-none x.thread none

none-listed : (order : WaitOrder) (ws : List Waiter) → head_of (map (λ (x : Waiter). x.thread) (in_order order ws)) ≡ None → ws ≡ []
none-listed order [] none = refl
none-listed order (w ∷ ws) none = absurd (put-some order w (in_order order ws) none)

rows-none : (s : State) (p : Call → Bool) (front rows : List Thread) (i : ℕ) → s.threads ≡ front ++ rows → i ≡ length front → filter_map (λ t. waiter_of s t (number_in p (thread_at s t).stage)) (range_with_len i (length rows)) ≡ [] → AllByRecursion (λ (row : Thread). is_some (number_in p row.stage) ≡ false) rows
rows-none s p front [] i all is none = tt
rows-none s p front (row ∷ rows) i all is none =
    let here : thread_at s i ≡ row = ap (λ (ts : List Thread). slice_index_or ts i no_thread) all ∙ at front i is in
    let parts = first (number_in p row.stage) (ap (λ (r : Thread). cons_option (waiter_of s i (number_in p r.stage)) (filter_map (λ t. waiter_of s t (number_in p (thread_at s t).stage)) (range_with_len (i + 1) (length rows)))) (sym here) ∙ none) in
    (parts.0, rows-none s p (front ++ row ∷ []) rows (i + 1) (all ∙ again front) (omega (arith, is, length-append front (row ∷ []))) parts.1) where
      first : (o : Option ℕ) → cons_option (waiter_of s i o) (filter_map (λ t. waiter_of s t (number_in p (thread_at s t).stage)) (range_with_len (i + 1) (length rows))) ≡ [] → (is_some o ≡ false) × (filter_map (λ t. waiter_of s t (number_in p (thread_at s t).stage)) (range_with_len (i + 1) (length rows)) ≡ [])
      first None is = (refl, is)
      first (Some number) is = absurd cc

      at : (xs : List Thread) (n : ℕ) → n ≡ length xs → slice_index_or (xs ++ row ∷ rows) n no_thread ≡ row
      at [] zero is = refl
      at [] (suc n) is = absurd (omega (arith, is))
      at (x ∷ xs) zero is = absurd (omega (arith, is))
      at (x ∷ xs) (suc n) is = at xs n (omega (arith, is))

      again : (xs : List Thread) → xs ++ row ∷ rows ≡ (xs ++ row ∷ []) ++ rows
      again [] = refl
      again (x ∷ xs) = ap (λ (ys : List Thread). x ∷ ys) (again xs)

pub nobody-waits : (s : State) (order : WaitOrder) (name : List ℕ) → first_waiter s order (takes_block name) ≡ None → AllByRecursion (λ (row : Thread). awaits_block name row.stage ≡ false) s.threads
nobody-waits s order name none = rows-none s (takes_block name) [] s.threads 0 refl refl (none-listed order (filter_map (λ t. waiter_of s t (number_in (takes_block name) (thread_at s t).stage)) (range_with_len 0 (length s.threads))) none)

-- a pool for which nobody waits may have any row
clash : {A : Type 0} (c : Bool) → c ≡ true → c ≡ false → A
clash true is isnt = absurd cc
clash false is isnt = absurd cc

pub served-freed : (pools : List Pool) (name : List ℕ) (pool new : Pool) (threads : List Thread) → pool_of name pools ≡ Some pool → new.name ≡ pool.name → AllByRecursion (λ (row : Thread). awaits_block pool.name row.stage ≡ false) threads → AllByRecursion (IsServedThread pools) threads → AllByRecursion (IsServedThread (put_pool new pools)) threads
served-freed pools name pool new [] found named free all = tt
served-freed pools name pool new (x ∷ xs) found named free all = (
  λ n awaits q is. elim (found-put pools new n q is) [
    | inl before ↦ all.0 n awaits q before
    | inr here ↦ clash (awaits_block n x.stage) awaits (ap (λ (m : List ℕ). awaits_block m x.stage) (sym here.1 ∙ named) ∙ free.0)
  ],
  served-freed pools name pool new xs found named free.1 all.1,
)
