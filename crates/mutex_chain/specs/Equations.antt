-- The equations of owners and waiters, and graphs that differ at some threads alone.
use Rattle.std.specs.Prelude.{ℕ, ◌≡◌, ◌≢◌, ◌⊎◌, ◌<◌, true, false, List, [], ◌∷◌, length, map, filter, Option, Some, None}
use Rattle.std.specs.List.{AllPairs, range_with_len}
use Rattle.rt_plain.specs.kernel.State.{is_among}
use Rattle.rt_plain.specs.kernel.Priority.{Graph, blocker_of, urgency_of, is_one_of, least, reach}
use Rattle.rt_plain.specs.kernel.Ownership.{Ownership, member_urgency}
use Rattle.mutex_chain.specs.Owners.{blocker_in}

-- the threads that wait for a thread
abbrev pub waits_for : Graph → ℕ → List ℕ
waits_for g t = filter (λ x. is_one_of (t ∷ []) (blocker_of g x)) (range_with_len 0 (length g.blockers))

-- each thread's number is the least of its own urgency and the numbers of those that wait for it
abbrev pub IsSolution : Graph → (ℕ → ℕ) → Type 0
IsSolution g f = (t : ℕ) → t < length g.blockers → f t ≡ least (urgency_of g t) (map f (waits_for g t))

-- no thread, or one of these
abbrev pub IsTouched : List ℕ → Option ℕ → Type 0
IsTouched touched None = Unit {0}
IsTouched touched (Some t) = is_among touched t ≡ true

-- two graphs differ at these threads alone. Others may wait for another one of these, or for nobody instead
pub record SameBut (touched : List ℕ) (g h : Graph) : Type 0 where
  pub size : length g.blockers ≡ length h.blockers
  pub blockers : (x : ℕ) → is_among touched x ≡ false
      → (blocker_of g x ≡ blocker_of h x) ⊎ (IsTouched touched (blocker_of g x) × IsTouched touched (blocker_of h x))
  pub urgencies : (x : ℕ) → is_among touched x ≡ false → urgency_of g x ≡ urgency_of h x

-- the same of owners and waiters at two moments
pub record Touches (touched : List ℕ) (before after : Ownership) : Type 0 where
  pub size : length before.members ≡ length after.members
  pub blockers : (x : ℕ) → is_among touched x ≡ false
      → (blocker_in before x ≡ blocker_in after x) ⊎ (IsTouched touched (blocker_in before x) × IsTouched touched (blocker_in after x))
  pub urgencies : (x : ℕ) → is_among touched x ≡ false → member_urgency before x ≡ member_urgency after x

-- each mutex is owned once
abbrev pub IsOnce : Ownership → Type 0
IsOnce o = AllPairs (λ a b. a.mutex ≢ b.mutex) o.taken

-- no chain of one of these threads leads to a thread
abbrev pub IsAway : List ℕ → Graph → ℕ → Type 0
IsAway touched g t = (x : ℕ) → is_among touched x ≡ true → is_among (reach g t) x ≡ false
