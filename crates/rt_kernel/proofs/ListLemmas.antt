-- Lists seen through a function.
use Rattle.std.proofs.Common.{◌≡◌, List, [], ◌∷◌, Bool, true, false, cond, refl, ap, map, filter}

-- what is left of a list
pub map-filter : {X Y : Type 0} (f : X → Y) (p : Y → Bool) (xs : List X) → map f (filter (λ x. p (f x)) xs) ≡ filter p (map f xs)
map-filter f p [] = refl
map-filter {Y = Y} f p (x ∷ xs) = by_test (p (f x)) (map-filter f p xs)
  where
    by_test : (c : Bool) → map f (filter (λ y. p (f y)) xs) ≡ filter p (map f xs) → map f (cond c (x ∷ filter (λ y. p (f y)) xs) (filter (λ y. p (f y)) xs)) ≡ cond c (f x ∷ filter p (map f xs)) (filter p (map f xs))
    by_test true same = ap (λ (ys : List Y). f x ∷ ys) same
    by_test false same = same
