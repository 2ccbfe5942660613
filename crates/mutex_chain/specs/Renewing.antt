-- Numbers that are computed anew along a chain of owners.
use Rattle.std.specs.Prelude.{ℕ, ◌≡◌, ◌⊎◌, ◌<◌, ◌≤◌, ◌+◌, zero, suc, Bool, true, false, List, length, Option, Some, None, slice_index, if◌then◌else◌, ◌==◌}
use Rattle.std.specs.List.{sum_by}
use Rattle.rt_plain.specs.kernel.Ownership.{Ownership, member_urgency, cur_in}
use Rattle.mutex_chain.specs.Owners.{blocker_in}

-- one of so many threads along the chain, from here on
abbrev pub IsAhead : Ownership → ℕ → Option ℕ → ℕ → Type 0
IsAhead o zero at t = ⊥
IsAhead o (suc n) None t = ⊥
IsAhead o (suc n) (Some x) t = (x ≡ t) ⊎ IsAhead o n (blocker_in o x) t

-- a set of threads that holds this one, if there is one, and whom each of its threads waits for
pub record IsChainSet (o : Ownership) (from : Option ℕ) (set : ℕ → Bool) : Type 0 where
  pub first : (t : ℕ) → from ≡ Some t → set t ≡ true
  pub on : (x t : ℕ) → set x ≡ true → blocker_in o x ≡ Some t → set t ≡ true

-- numbers that are the current priorities but along the chain of a thread
pub record AreAside (o : Ownership) (numbers : List ℕ) (from : Option ℕ) : Type 0 where
  pub places : length numbers ≡ length o.members
  pub within : (t : ℕ) → from ≡ Some t → t < length o.members
  pub small : (t : ℕ) → t < length o.members → slice_index numbers t ≤ 256
  pub right : (set : ℕ → Bool) → IsChainSet o from set → (t : ℕ) → t < length o.members → set t ≡ false → slice_index numbers t ≡ cur_in o t

-- 0 for the mark, 1 for a number
abbrev pub fresh : ℕ → ℕ
fresh n = if n == 257 then 0 else 1

-- numbers of which those of so many threads of a chain are marked so far, up to this one
pub record IsMarking (o : Ownership) (olds numbers : List ℕ) (from : Option ℕ) (count : ℕ) (at : Option ℕ) : Type 0 where
  pub places : length numbers ≡ length o.members
  pub room : count + sum_by fresh numbers ≤ length o.members
  pub kept : (t : ℕ) → (slice_index numbers t ≡ 257) ⊎ (slice_index numbers t ≡ slice_index olds t)
  pub behind : (t : ℕ) → slice_index numbers t ≡ 257 → IsAhead o count from t
  pub next : (t : ℕ) → at ≡ Some t → (t < length o.members) × IsAhead o (suc count) from t
  pub first : (t : ℕ) → from ≡ Some t → (slice_index numbers t ≡ 257) ⊎ (at ≡ Some t)
  pub on : (x t : ℕ) → slice_index numbers x ≡ 257 → blocker_in o x ≡ Some t → (slice_index numbers t ≡ 257) ⊎ (at ≡ Some t)

-- the least of a thread's own urgency and the numbers of those that wait for it
pub record IsLeast (o : Ownership) (numbers : List ℕ) (t least : ℕ) : Type 0 where
  pub own : least ≤ member_urgency o t
  pub edges : (x : ℕ) → blocker_in o x ≡ Some t → least ≤ slice_index numbers x
  pub reached : (least ≡ member_urgency o t) ⊎ ((x : ℕ) × (blocker_in o x ≡ Some t) × (least ≡ slice_index numbers x))

-- numbers that become the current priorities where so many threads of the chain from here on get theirs anew, and the number of the one before is carried on
pub record IsRenewing (o : Ownership) (numbers : List ℕ) (left : ℕ) (at : Option ℕ) (number : ℕ) : Type 0 where
  pub places : length numbers ≡ length o.members
  pub high : (t : ℕ) → t < length o.members → cur_in o t ≤ slice_index numbers t
  pub low : (t : ℕ) → at ≡ Some t → (t < length o.members) × (cur_in o t ≤ number)
  pub own : (t : ℕ) → t < length o.members → (slice_index numbers t ≤ member_urgency o t) ⊎ IsAhead o left at t
  pub edges : (x t : ℕ) → blocker_in o x ≡ Some t
      → (slice_index numbers t ≤ slice_index numbers x) ⊎ (((at ≡ Some t) × (number ≤ slice_index numbers x)) ⊎ IsAhead o left at t)

-- an edit by which only who this one is by itself and who waits for it differs
pub record DiffersAt (o p : Ownership) (from : Option ℕ) : Type 0 where
  pub size : length o.members ≡ length p.members
  pub within : (t : ℕ) → from ≡ Some t → t < length p.members
  pub urgencies : (t : ℕ) → (from ≡ Some t) ⊎ (member_urgency o t ≡ member_urgency p t)
  pub kept : (x t : ℕ) → blocker_in o x ≡ Some t → (from ≡ Some t) ⊎ (blocker_in p x ≡ Some t)
  pub more : (x t : ℕ) → blocker_in p x ≡ Some t → (from ≡ Some t) ⊎ (blocker_in o x ≡ Some t)
