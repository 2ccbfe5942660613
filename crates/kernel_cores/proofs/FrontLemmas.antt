-- A list whose first items were changed, one after the other.
use Rattle.std.proofs.Common.{◌≡◌, ℕ, zero, suc, ◌<◌, ◌≤◌, arith, List, [], ◌∷◌, refl, ap, length, map, slice_set, slice_index_or}

-- so many of the first items are changed
abbrev pub changed_front : {A : Type 0} → (A → A) → ℕ → List A → List A
changed_front f zero xs = xs
changed_front f (suc n) [] = []
changed_front f (suc n) (x ∷ xs) = f x ∷ changed_front f n xs

-- one more
pub front-more : {A : Type 0} (f : A → A) (n : ℕ) (xs : List A) (d : A) → n < length xs → slice_set (changed_front f n xs) n (f (slice_index_or (changed_front f n xs) n d)) ≡ changed_front f (suc n) xs
front-more f zero [] d there = absurd (omega (arith, there))
front-more f zero (x ∷ xs) d there = refl
front-more f (suc n) [] d there = absurd (omega (arith, there))
front-more f (suc n) (x ∷ xs) d there = ap (λ ys. f x ∷ ys) (front-more f n xs d (omega (arith, there)))

-- and all
pub front-all : {A : Type 0} (f : A → A) (n : ℕ) (xs : List A) → length xs ≤ n → changed_front f n xs ≡ map f xs
front-all f zero [] all = refl
front-all f zero (x ∷ xs) all = absurd (omega (arith, all))
front-all f (suc n) [] all = refl
front-all f (suc n) (x ∷ xs) all = ap (λ ys. f x ∷ ys) (front-all f n xs (omega (arith, all)))

pub front-length : {A : Type 0} (f : A → A) (n : ℕ) (xs : List A) → length (changed_front f n xs) ≡ length xs
front-length f zero xs = refl
front-length f (suc n) [] = refl
front-length f (suc n) (x ∷ xs) = ap suc (front-length f n xs)
