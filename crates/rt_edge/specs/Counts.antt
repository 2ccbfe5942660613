-- Counts of what went wrong.
use Rattle.std.specs.Prelude.{ℕ, ◌+◌, ◌-◌, ◌^◌, ◌≤◌, min}

-- a count rose in a call. At its last value it stands still
abbrev pub Rose : ℕ → ℕ → Type 0
Rose old new = min (old + 1) (2 ^ 64 - 1) ≤ new

-- a count rose by n in a call, and stands still at its last value
abbrev pub RoseBy : ℕ → ℕ → ℕ → Type 0
RoseBy old new n = (min (old + n) (2 ^ 64 - 1) ≤ new) × (new ≤ old + n)
