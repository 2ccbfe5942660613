-- Changes that are put in by thread.
use Rattle.std.proofs.Common.{ℕ, ◌≡◌, ◌≢◌, ◌+◌, ◌<◌, ◌≤◌, zero, suc, List, [], ◌∷◌, length, Bool, true, false, cond, Option, Some, None, refl, sym, ap, ◌∙◌, arith, ◌⊎◌, inl, inr}
use Rattle.std.specs.Prelude.{nat_lt}
use Rattle.std.specs.List.{filter_map, range_with_len, cons_option, insert}
use Rattle.std.proofs.lemmas.Bool.{cases_eq, lt-ltb, le-ltb}
use Rattle.rt_plain.specs.kernel.Ownership.{CurChange}
use Rattle.mutex_chain.specs.Raising.{place_among, put_change}
use Rattle.mutex_chain.proofs.ChangeLemmas.{filter_map_range}

pub place_among_within : (t : ℕ) (cs : List CurChange) → place_among t cs ≤ length cs
place_among_within t [] = omega arith
place_among_within t (c ∷ cs) = by_test (nat_lt c.thread t) (place_among_within t cs)
  where
    by_test : (b : Bool) → place_among t cs ≤ length cs → cond b (suc (place_among t cs)) 0 ≤ length (c ∷ cs)
    by_test true h = omega arith
    by_test false h = omega arith

-- each change is that of its own thread
abbrev pub AreNamed : (ℕ → Option CurChange) → Type 0
AreNamed f = (t : ℕ) (c : CurChange) → f t ≡ Some c → c.thread ≡ t

-- a change of a thread before all others comes first
put_first : (f : ℕ → Option CurChange) (c : CurChange) (a n : ℕ) → AreNamed f → c.thread < a
    → put_change (Some c) (filter_map f (range_with_len a n)) ≡ c ∷ filter_map f (range_with_len a n)
put_first f c a zero named h = refl
put_first f c a (suc n) named h = by_row (f a) refl (put_first f c (a + 1) n named (omega arith))
  where
    by_row : (r : Option CurChange) → f a ≡ r
        → put_change (Some c) (filter_map f (range_with_len (a + 1) n)) ≡ c ∷ filter_map f (range_with_len (a + 1) n)
        → put_change (Some c) (cons_option r (filter_map f (range_with_len (a + 1) n))) ≡ c ∷ cons_option r (filter_map f (range_with_len (a + 1) n))
    by_row None e again = again
    by_row (Some d) e again =
        let at : d.thread ≡ a = named a d e in
        ap (λ b. insert (d ∷ filter_map f (range_with_len (a + 1) n)) (cond b (suc (place_among c.thread (filter_map f (range_with_len (a + 1) n)))) 0) c)
        (le-ltb d.thread c.thread (omega arith))

-- one change more among those of a range of threads
pub put_some : (f g : ℕ → Option CurChange) (c : CurChange) (x a n : ℕ) → AreNamed f → c.thread ≡ x → a ≤ x → x < a + n → f x ≡ None → g x ≡ Some c
    → ((t : ℕ) → t ≢ x → f t ≡ g t) → put_change (Some c) (filter_map f (range_with_len a n)) ≡ filter_map g (range_with_len a n)
put_some f g c x a zero named at low high none some same = absurd (omega arith)
put_some f g c x a (suc n) named at low high none some same = by_place (cases_eq x a) (λ k. put_some f g c x (a + 1) n named at k (omega arith) none some same)
  where
    rest : List CurChange
    rest = filter_map f (range_with_len (a + 1) n)

    by_row : (r : Option CurChange) → f a ≡ r → a < x
        → put_change (Some c) (filter_map f (range_with_len (a + 1) n)) ≡ filter_map g (range_with_len (a + 1) n)
        → put_change (Some c) (cons_option r (filter_map f (range_with_len (a + 1) n))) ≡ cons_option r (filter_map g (range_with_len (a + 1) n))
    by_row None e less again = again
    by_row (Some d) e less again =
        let first : d.thread ≡ a = named a d e in
        ap (λ b. insert (d ∷ filter_map f (range_with_len (a + 1) n)) (cond b (suc (place_among c.thread (filter_map f (range_with_len (a + 1) n)))) 0) c)
        (lt-ltb d.thread c.thread (omega arith))
        ∙ ap (λ l. d ∷ l) again

    by_place : (x ≡ a) ⊎ (x ≢ a) → (a + 1 ≤ x → put_change (Some c) (filter_map f (range_with_len (a + 1) n)) ≡ filter_map g (range_with_len (a + 1) n))
        → put_change (Some c) (filter_map f (range_with_len a (suc n))) ≡ filter_map g (range_with_len a (suc n))
    by_place (inl e) again =
        ap (λ r. put_change (Some c) (cons_option r (filter_map f (range_with_len (a + 1) n)))) (sym (ap f e) ∙ none)
        ∙ put_first f c (a + 1) n named (omega arith)
        ∙ ap (λ l. c ∷ l) (filter_map_range f g (a + 1) n (λ t k l. same t (λ at. omega arith)))
        ∙ sym (ap (λ r. cons_option r (filter_map g (range_with_len (a + 1) n))) (sym (ap g e) ∙ some))
    by_place (inr ne) again =
        by_row (f a) refl (omega arith) (again (omega arith))
        ∙ ap (λ r. cons_option r (filter_map g (range_with_len (a + 1) n))) (same a (λ e. ne (sym e)))

pub few : (f : ℕ → Option CurChange) (a n : ℕ) → length (filter_map f (range_with_len a n)) ≤ n
few f a zero = omega arith
few f a (suc n) = by_row (f a) (few f (a + 1) n)
  where
    by_row : (r : Option CurChange) → length (filter_map f (range_with_len (a + 1) n)) ≤ n → length (cons_option r (filter_map f (range_with_len (a + 1) n))) ≤ suc n
    by_row None h = omega arith
    by_row (Some d) h = omega arith

-- fewer than all, where one thread has none
pub fewer : (f : ℕ → Option CurChange) (x a n : ℕ) → a ≤ x → x < a + n → f x ≡ None → length (filter_map f (range_with_len a n)) < n
fewer f x a zero low high none = absurd (omega arith)
fewer f x a (suc n) low high none = by_place (cases_eq x a) (λ k. fewer f x (a + 1) n k (omega arith) none)
  where
    by_row : (r : Option CurChange) → length (filter_map f (range_with_len (a + 1) n)) < n → length (cons_option r (filter_map f (range_with_len (a + 1) n))) < suc n
    by_row None h = omega arith
    by_row (Some d) h = omega arith

    by_place : (x ≡ a) ⊎ (x ≢ a) → (a + 1 ≤ x → length (filter_map f (range_with_len (a + 1) n)) < n) → length (filter_map f (range_with_len a (suc n))) < suc n
    by_place (inl e) again =
        let here : length (cons_option (f a) (filter_map f (range_with_len (a + 1) n))) ≡ length (filter_map f (range_with_len (a + 1) n)) =
        ap (λ r. length (cons_option r (filter_map f (range_with_len (a + 1) n)))) (sym (ap f e) ∙ none) in
        omega (arith, few f (a + 1) n)
    by_place (inr ne) again = by_row (f a) (again (omega arith))
