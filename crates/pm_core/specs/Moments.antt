-- The moments that a sleep must not pass, and what is answered for its length.
use Rattle.std.specs.Prelude.{ℕ, ◌≡◌, ◌+◌, ◌≤◌, List, [], All, Contains, Option, Some, None, nat_le, if◌then◌else◌}

-- the least of the moments is so many ticks ahead of now, or there is none
abbrev pub IsLeastAhead : ℕ → List ℕ → Option ℕ → Type 0
IsLeastAhead now moments None = moments ≡ []
IsLeastAhead now moments (Some ticks) = Contains moments (now + ticks) × All (λ m. now + ticks ≤ m) moments

-- the length where it is no less than the threshold
abbrev pub long_enough : ℕ → ℕ → Option ℕ
long_enough thresh length = if nat_le thresh length then Some length else None
