-- What was read of an open file.
use Rattle.std.specs.Prelude.{◌≡◌, ℕ, List, [], ◌++◌, drop, Option, Some, None}

-- the first n bytes of what was left stand at the end of the text now
abbrev pub HasCome : Option (List ℕ) → Option (List ℕ) → List ℕ → List ℕ → ℕ → Type 0
HasCome None new before text n = Unit {0}
HasCome (Some left) new before text n = (text ++ drop n left ≡ before ++ left) × (new ≡ Some (drop n left)) × (n ≡ 0 → left ≡ [])

-- the text and what is left now are what was left at first
abbrev pub IsReading : Option (List ℕ) → Option (List ℕ) → List ℕ → Type 0
IsReading None now text = Unit {0}
IsReading (Some left) now text = (rest : List ℕ) × (now ≡ Some rest) × (text ++ rest ≡ left)
