-- Lists seen through a function, and numbers below a bound.
use Rattle.std.proofs.Common.{◌≡◌, ℕ, zero, suc, ◌+◌, ◌≤◌, arith, List, [], ◌∷◌, ◌++◌, Some, Bool, true, false, cond, refl, sym, ap, ◌∙◌, subst, length, map, filter, add-one}
use Rattle.std.specs.List.{position_from, range_with_len}
use Rattle.std.proofs.lemmas.List.{append-nil}

-- the first place at which a test passes
pub position-map : {X Y : Type 0} (f : X → Y) (p : Y → Bool) (i : ℕ) (xs : List X) → position_from p i (map f xs) ≡ position_from (λ x. p (f x)) i xs
position-map f p i [] = refl
position-map f p i (x ∷ xs) = ap (cond (p (f x)) (Some i)) (position-map f p (i + 1) xs)

-- one number more of a range
range-more : (a n : ℕ) → range_with_len a (suc n) ≡ range_with_len a n ++ (a + n) ∷ []
range-more a zero = ap (λ m. m ∷ []) (omega arith)
range-more a (suc n) = ap (λ (ns : List ℕ). a ∷ ns) (range-more (a + 1) n ∙ ap (λ m. range_with_len (a + 1) n ++ m ∷ []) (omega arith))

filter-last : (p : ℕ → Bool) (xs : List ℕ) (x : ℕ) → filter p (xs ++ x ∷ []) ≡ filter p xs ++ cond (p x) (x ∷ []) []
filter-last p [] x = refl
filter-last p (y ∷ ys) x = by_test (p y) (filter-last p ys x) where
  by_test : (c : Bool) → filter p (ys ++ x ∷ []) ≡ filter p ys ++ cond (p x) (x ∷ []) [] → cond c (y ∷ filter p (ys ++ x ∷ [])) (filter p (ys ++ x ∷ [])) ≡ cond c (y ∷ filter p ys) (filter p ys) ++ cond (p x) (x ∷ []) []
  by_test true same = ap (λ (zs : List ℕ). y ∷ zs) same
  by_test false same = same

-- those below one number more that pass
pub filter_more : (p : ℕ → Bool) (n : ℕ) → filter p (range_with_len 0 (n + 1)) ≡ filter p (range_with_len 0 n) ++ cond (p n) (n ∷ []) []
filter_more p n = subst (λ m. filter p (range_with_len 0 m) ≡ filter p (range_with_len 0 n) ++ cond (p n) (n ∷ []) []) (sym (add-one n)) (ap (filter p) (range-more 0 n ∙ ap (λ m. range_with_len 0 n ++ m ∷ []) (omega arith)) ∙ filter-last p (range_with_len 0 n) n)

pub filter_passes : (p : ℕ → Bool) (n : ℕ) → p n ≡ true → filter p (range_with_len 0 (n + 1)) ≡ filter p (range_with_len 0 n) ++ n ∷ []
filter_passes p n is = filter_more p n ∙ ap (λ c. filter p (range_with_len 0 n) ++ cond c (n ∷ []) []) is

pub filter_fails : (p : ℕ → Bool) (n : ℕ) → p n ≡ false → filter p (range_with_len 0 (n + 1)) ≡ filter p (range_with_len 0 n)
filter_fails p n is = filter_more p n ∙ ap (λ c. filter p (range_with_len 0 n) ++ cond c (n ∷ []) []) is ∙ append-nil (filter p (range_with_len 0 n))

pub length_passes : (p : ℕ → Bool) (n : ℕ) → length (filter p (range_with_len 0 n)) ≤ n
length_passes p n = from p 0 n where
  from : (p : ℕ → Bool) (a n : ℕ) → length (filter p (range_with_len a n)) ≤ n
  from p a zero = omega arith
  from p a (suc n) = by_test (p a) (from p (a + 1) n) where
    by_test : (c : Bool) → length (filter p (range_with_len (a + 1) n)) ≤ n → length (cond c (a ∷ filter p (range_with_len (a + 1) n)) (filter p (range_with_len (a + 1) n))) ≤ suc n
    by_test true few = omega (arith, few)
    by_test false few = omega (arith, few)
