-- Numbers that are linked one after another: the links name the next and the previous node of each.
use Rattle.std.specs.Prelude.{ℕ, ◌≡◌, zero, suc, cond, nat_lt, ◌==◌, not, Bool, List, [], ◌∷◌, filter, slice_index}
use Rattle.std.specs.List.{list_any}
use Rattle.std.proofs.Common.{◌⊎◌}

-- the numbers from a node on, up to one that isn't below a bound, as a head
abbrev pub walk : ℕ → ℕ → List ℕ → ℕ → List ℕ
walk zero bound next node = []
walk (suc fuel) bound next node = cond (nat_lt node bound) (node ∷ walk fuel bound next (slice_index next node)) []

-- whether a number is among others
abbrev pub is_among : ℕ → List ℕ → Bool
is_among number numbers = list_any (λ other. other == number) numbers

-- numbers without one of them
abbrev pub without : ℕ → List ℕ → List ℕ
without number numbers = filter (λ other. not (other == number)) numbers

-- the numbers are linked one after another, from a node up to another
abbrev pub IsChain : List ℕ → List ℕ → ℕ → List ℕ → ℕ → Type 0
IsChain next prev from [] to = (slice_index next from ≡ to) × (slice_index prev to ≡ from)
IsChain next prev from (x ∷ xs) to = (slice_index next from ≡ x) × (slice_index prev x ≡ from) × IsChain next prev x xs to

abbrev pub IsAmong : ℕ → List ℕ → Type 0
IsAmong x [] = ⊥
IsAmong x (y ∷ ys) = (x ≡ y) ⊎ IsAmong x ys

-- no number stands twice
abbrev pub IsApart : List ℕ → Type 0
IsApart [] = Unit {0}
IsApart (x ∷ xs) = (IsAmong x xs → ⊥) × IsApart xs
