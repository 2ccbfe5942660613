-- How many elements of a list pass a test, by recursion.
use Rattle.std.specs.Prelude.{ℕ, ◌+◌, Bool, true, false, List, [], ◌∷◌}

-- 1 where the test holds
abbrev pub one_if : Bool → ℕ
one_if true = 1
one_if false = 0

-- how many pass
abbrev pub tally : {X : Type 0} → (X → Bool) → List X → ℕ
tally p [] = 0
tally p (x ∷ xs) = one_if (p x) + tally p xs
