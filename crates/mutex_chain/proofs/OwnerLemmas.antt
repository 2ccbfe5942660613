-- The tables of owners stay sound.
use Rattle.std.proofs.Common.{ℕ, ◌≡◌, ◌≢◌, ◌+◌, ◌<◌, ◌≤◌, zero, suc, List, [], ◌∷◌, length, map, Bool, true, false, not, cond, eqb, refl, sym, ap, ◌∙◌, arith}
use Rattle.std.specs.Prelude.{filter, All, ◌==◌}
use Rattle.std.specs.List.{AllPairs}
use Rattle.std.proofs.lemmas.Bool.{eqb-true, eqb-false, ne_eqb}
use Rattle.std.proofs.lemmas.List.Elements.{All-nil, All-cons, All-head, All-tail, All-filter}
use Rattle.std.proofs.lemmas.List.Kept.{AllPairs-cons, AllPairs-filter}
use Rattle.rt_plain.specs.kernel.Ownership.{Ownership, Taken, with_mutex_free, with_taken_times}
use Rattle.mutex_chain.specs.Owners.{IsSound, with_hold}

-- rows but for those of a mutex
abbrev pub others : ℕ → List Taken → List Taken
others mutex hs = filter (λ h. not (h.mutex == mutex)) hs

-- two rows are of different mutexes
abbrev pub Apart : Taken → Taken → Type 0
Apart a b = a.mutex ≢ b.mutex

pub apart_head : (h : Taken) (hs : List Taken) → AllPairs Apart (h ∷ hs) → All (Apart h) hs
apart_head h hs p = λ i d k. p 0 (suc i) d (omega arith) (omega arith)

pub apart_tail : (h : Taken) (hs : List Taken) → AllPairs Apart (h ∷ hs) → AllPairs Apart hs
apart_tail h hs p = λ i j d k m. p (suc i) (suc j) d (omega arith) (omega arith)

pub others_same : (mutex : ℕ) (hs : List Taken) → All (λ h. mutex ≢ h.mutex) hs → others mutex hs ≡ hs
others_same mutex [] a = refl
others_same mutex (h ∷ hs) a =
    ap (λ b. cond (not b) (h ∷ others mutex hs) (others mutex hs)) (ne_eqb h.mutex mutex (λ e. All-head (λ (h : Taken). mutex ≢ h.mutex) h hs a (sym e)))
    ∙ ap (λ l. h ∷ l) (others_same mutex hs (All-tail (λ (h : Taken). mutex ≢ h.mutex) h hs a))

length-others : (mutex : ℕ) (hs : List Taken) → AllPairs Apart hs → length hs ≤ length (others mutex hs) + 1
length-others mutex [] p = omega arith
length-others mutex (h ∷ hs) p = by_test (eqb h.mutex mutex) refl (length-others mutex hs (apart_tail h hs p))
  where
    by_test : (b : Bool) → eqb h.mutex mutex ≡ b → length hs ≤ length (others mutex hs) + 1 → length (h ∷ hs) ≤ length (cond (not b) (h ∷ others mutex hs) (others mutex hs)) + 1
    by_test true e r =
        let same : others h.mutex hs ≡ hs = others_same h.mutex hs (apart_head h hs p) in
        let at : h.mutex ≡ mutex = eqb-true h.mutex mutex e in
        omega (arith, ap length (ap (λ m. others m hs) (sym at) ∙ same))
    by_test false e r = omega arith

others_below : (n : ℕ) (hs : List Taken) → All (λ h. h.mutex < suc n) hs → All (λ h. h.mutex < n) (others n hs)
others_below n [] a = All-nil (λ (h : Taken). h.mutex < n)
others_below n (h ∷ hs) a = by_test (eqb h.mutex n) refl (others_below n hs (All-tail (λ (h : Taken). h.mutex < suc n) h hs a))
  where
    by_test : (b : Bool) → eqb h.mutex n ≡ b → All (λ h. h.mutex < n) (others n hs) → All (λ h. h.mutex < n) (cond (not b) (h ∷ others n hs) (others n hs))
    by_test true e r = r
    by_test false e r =
        let below : h.mutex < suc n = All-head (λ (h : Taken). h.mutex < suc n) h hs a in
        let ne : h.mutex ≢ n = eqb-false h.mutex n e in
        All-cons (λ (h : Taken). h.mutex < n) h (others n hs) (omega arith) r

-- there are no more rows than mutexes
pub few_rows : (n : ℕ) (hs : List Taken) → All (λ h. h.mutex < n) hs → AllPairs Apart hs → length hs ≤ n
few_rows n [] a p = omega arith
few_rows zero (h ∷ hs) a p = let below : h.mutex < 0 = All-head (λ (h : Taken). h.mutex < 0) h hs a in omega arith
few_rows (suc n) (h ∷ hs) a p =
    omega (
      arith,
      length-others n (h ∷ hs) p,
      few_rows n (others n (h ∷ hs)) (others_below n (h ∷ hs) a) (AllPairs-filter Apart (λ (h : Taken). not (h.mutex == n)) (h ∷ hs) p),
    )

pub others_apart : (mutex : ℕ) (hs : List Taken) → All (λ h. mutex ≢ h.mutex) (others mutex hs)
others_apart mutex [] = All-nil (λ (h : Taken). mutex ≢ h.mutex)
others_apart mutex (h ∷ hs) = by_test (eqb h.mutex mutex) refl (others_apart mutex hs)
  where
    by_test : (b : Bool) → eqb h.mutex mutex ≡ b → All (λ h. mutex ≢ h.mutex) (others mutex hs) → All (λ h. mutex ≢ h.mutex) (cond (not b) (h ∷ others mutex hs) (others mutex hs))
    by_test true e r = r
    by_test false e r = All-cons (λ (h : Taken). mutex ≢ h.mutex) h (others mutex hs) (λ s. eqb-false h.mutex mutex e (sym s)) r

-- one row less
pub sound_free : (o : Ownership) (mutex : ℕ) → IsSound o → IsSound (with_mutex_free mutex o)
sound_free o mutex s = record {
  few_threads = s.few_threads;
  few_mutexes = s.few_mutexes;
  small = s.small;
  mutexes = All-filter (λ (h : Taken). not (h.mutex == mutex)) (λ (h : Taken). h.mutex < length o.ceilings) o.taken s.mutexes;
  owners = All-filter (λ (h : Taken). not (h.mutex == mutex)) (λ (h : Taken). h.owner < length o.members) o.taken s.owners;
  once = AllPairs-filter Apart (λ (h : Taken). not (h.mutex == mutex)) o.taken s.once;
}

-- one row more, of a mutex that has none, for which there is room
pub sound_push : (o : Ownership) (mutex t : ℕ) → IsSound o → All (λ h. mutex ≢ h.mutex) o.taken → mutex < length o.ceilings → t < length o.members
    → IsSound (record o { taken = record { mutex = mutex; owner = t; hold = 1 } ∷ o.taken }) × (length o.taken < length o.ceilings)
sound_push o mutex t s free m k =
    let row : Taken = record { mutex = mutex; owner = t; hold = 1 } in
    let mutexes : All (λ (h : Taken). h.mutex < length o.ceilings) (row ∷ o.taken) = All-cons (λ (h : Taken). h.mutex < length o.ceilings) row o.taken m s.mutexes in
    let once : AllPairs Apart (row ∷ o.taken) = AllPairs-cons Apart row o.taken free s.once in (
      record {
        few_threads = s.few_threads;
        few_mutexes = s.few_mutexes;
        small = s.small;
        mutexes = mutexes;
        owners = All-cons (λ (h : Taken). h.owner < length o.members) row o.taken k s.owners;
        once = once;
      },
      omega (arith, few_rows (length o.ceilings) (row ∷ o.taken) mutexes once),
    )

with_hold_mutex : (mutex hold : ℕ) (h : Taken) → (with_hold mutex hold h).mutex ≡ h.mutex
with_hold_mutex mutex hold h = by_test (eqb h.mutex mutex) refl
  where
    by_test : (b : Bool) → eqb h.mutex mutex ≡ b → (cond b (record { mutex = mutex; owner = h.owner; hold = hold }) h).mutex ≡ h.mutex
    by_test true e = sym (eqb-true h.mutex mutex e)
    by_test false e = refl

with_hold_owner : (mutex hold : ℕ) (h : Taken) → (with_hold mutex hold h).owner ≡ h.owner
with_hold_owner mutex hold h = by_test (eqb h.mutex mutex)
  where
    by_test : (b : Bool) → (cond b (record { mutex = mutex; owner = h.owner; hold = hold }) h).owner ≡ h.owner
    by_test true = refl
    by_test false = refl

holds_mutexes : (n mutex hold : ℕ) (hs : List Taken) → All (λ h. h.mutex < n) hs → All (λ h. h.mutex < n) (map (with_hold mutex hold) hs)
holds_mutexes n mutex hold [] a = All-nil (λ (h : Taken). h.mutex < n)
holds_mutexes n mutex hold (h ∷ hs) a =
    All-cons (λ (h : Taken). h.mutex < n) (with_hold mutex hold h) (map (with_hold mutex hold) hs) (rw (with_hold_mutex mutex hold h) (All-head (λ (h : Taken). h.mutex < n) h hs a))
    (holds_mutexes n mutex hold hs (All-tail (λ (h : Taken). h.mutex < n) h hs a))

holds_owners : (n mutex hold : ℕ) (hs : List Taken) → All (λ h. h.owner < n) hs → All (λ h. h.owner < n) (map (with_hold mutex hold) hs)
holds_owners n mutex hold [] a = All-nil (λ (h : Taken). h.owner < n)
holds_owners n mutex hold (h ∷ hs) a =
    All-cons (λ (h : Taken). h.owner < n) (with_hold mutex hold h) (map (with_hold mutex hold) hs) (rw (with_hold_owner mutex hold h) (All-head (λ (h : Taken). h.owner < n) h hs a))
    (holds_owners n mutex hold hs (All-tail (λ (h : Taken). h.owner < n) h hs a))

holds_apart : (mutex hold other : ℕ) (hs : List Taken) → All (λ h. other ≢ h.mutex) hs → All (λ h. other ≢ h.mutex) (map (with_hold mutex hold) hs)
holds_apart mutex hold other [] a = All-nil (λ (h : Taken). other ≢ h.mutex)
holds_apart mutex hold other (h ∷ hs) a =
    All-cons (λ (h : Taken). other ≢ h.mutex) (with_hold mutex hold h) (map (with_hold mutex hold) hs)
    (λ e. All-head (λ (h : Taken). other ≢ h.mutex) h hs a (e ∙ with_hold_mutex mutex hold h))
    (holds_apart mutex hold other hs (All-tail (λ (h : Taken). other ≢ h.mutex) h hs a))

holds_once : (mutex hold : ℕ) (hs : List Taken) → AllPairs Apart hs → AllPairs Apart (map (with_hold mutex hold) hs)
holds_once mutex hold [] p = p
holds_once mutex hold (h ∷ hs) p =
    AllPairs-cons Apart (with_hold mutex hold h) (map (with_hold mutex hold) hs)
    (rw (with_hold_mutex mutex hold h) (holds_apart mutex hold h.mutex hs (apart_head h hs p)))
    (holds_once mutex hold hs (apart_tail h hs p))

-- another hold
pub sound_hold : (o : Ownership) (mutex hold : ℕ) → IsSound o → IsSound (with_taken_times mutex hold o)
sound_hold o mutex hold s = record {
  few_threads = s.few_threads;
  few_mutexes = s.few_mutexes;
  small = s.small;
  mutexes = holds_mutexes (length o.ceilings) mutex hold o.taken s.mutexes;
  owners = holds_owners (length o.members) mutex hold o.taken s.owners;
  once = holds_once mutex hold o.taken s.once;
}
