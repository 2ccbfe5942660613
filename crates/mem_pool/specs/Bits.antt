-- Sets of numbers below 64, as the bits of a word.
use Rattle.std.specs.Prelude.{ℕ, ◌≡◌, ◌<◌, Option, Some, None}
use Rattle.std.specs.Int.{bit_at}

-- the number is in the set, and no lower one is
pub record IsLeast (word number : ℕ) : Type 0 where
  pub within : number < 64
  pub here : bit_at word number ≡ 1
  pub lower : (k : ℕ) → k < number → bit_at word k ≡ 0

-- the least number of the set, or none where the set is empty
abbrev pub IsLowest : ℕ → Option ℕ → Type 0
IsLowest word None = (k : ℕ) → bit_at word k ≡ 0
IsLowest word (Some number) = IsLeast word number
