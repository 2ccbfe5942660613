-- A thread's own urgency, row by row.
use Rattle.std.proofs.Common.{ℕ, List, map, Option, None}
use Rattle.std.specs.Prelude.{filter, filter_map, slice_index_or, ◌==◌}
use Rattle.rt_plain.specs.kernel.Priority.{least}
use Rattle.rt_plain.specs.kernel.Ownership.{Taken}

-- the least of a number and the ceilings of those of these mutexes that a thread owns
abbrev pub urgency_with : List (Option ℕ) → ℕ → ℕ → List Taken → ℕ
urgency_with ceilings t n hs = least n (filter_map (λ mutex. slice_index_or ceilings mutex None) (map (λ h. h.mutex) (filter (λ h. h.owner == t) hs)))

-- the mutexes of those of these rows that a thread owns
abbrev pub owned_among : ℕ → List Taken → List ℕ
owned_among t hs = map (λ h. h.mutex) (filter (λ h. h.owner == t) hs)
