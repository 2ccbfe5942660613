-- The numbers while a thread that is gone gives back its mutexes.
use Rattle.std.specs.Prelude.{ℕ, ◌≡◌, ◌≢◌, ◌+◌, ◌*◌, ◌<◌, List, length, map, filter, Option, Some, None, slice_index}
use Rattle.std.specs.List.{sum_by, range_with_len}
use Rattle.rt_plain.specs.kernel.State.{is_among}
use Rattle.rt_plain.specs.kernel.Ownership.{Ownership, cur_in, owned_in}

-- numbers that are the current priorities but at one thread
pub record AreBut (o : Ownership) (numbers : List ℕ) (t : ℕ) : Type 0 where
  pub places : length numbers ≡ length o.members
  pub right : (x : ℕ) → x < length o.members → x ≢ t → slice_index numbers x ≡ cur_in o x

-- what is counted where a mutex passes to a thread, if it does
abbrev pub pass_cost : Ownership → Option ℕ → ℕ
pass_cost o None = 0
pass_cost o (Some w) = 4 + 4 * length (owned_in o w)

-- a thread, and the mutexes that it owns
abbrev pub held_weight : Ownership → ℕ → ℕ
held_weight o t = 1 + length (owned_in o t)

-- the sum over those to whom mutexes passed
abbrev pub passed_sum : Ownership → List (ℕ × ℕ) → ℕ
passed_sum o passes = sum_by (held_weight o) (filter (λ t. is_among (map (λ p. p.1) passes) t) (range_with_len 0 (length o.members)))
