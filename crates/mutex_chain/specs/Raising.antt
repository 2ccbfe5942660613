-- Numbers that get more urgent along a chain of owners.
use Rattle.std.specs.Prelude.{ℕ, ◌≡◌, ◌⊎◌, ◌<◌, ◌≤◌, suc, true, List, [], ◌∷◌, length, Option, Some, None, slice_index, nat_lt, if◌then◌else◌}
use Rattle.std.specs.List.{insert}
use Rattle.rt_plain.specs.kernel.State.{is_among}
use Rattle.rt_plain.specs.kernel.Priority.{reach}
use Rattle.rt_plain.specs.kernel.Ownership.{Ownership, CurChange, member_urgency, graph_in, cur_in}
use Rattle.mutex_chain.specs.Owners.{blocker_in}

-- numbers that become the current priorities where this one is carried on from a thread along its chain
pub record IsRaising (o : Ownership) (numbers : List ℕ) (at : Option ℕ) (number : ℕ) : Type 0 where
  pub places : length numbers ≡ length o.members
  pub high : (t : ℕ) → t < length o.members → cur_in o t ≤ slice_index numbers t
  pub low : (t : ℕ) → at ≡ Some t → (t < length o.members) × (cur_in o t ≤ number)
  pub own : (t : ℕ) → t < length o.members → (slice_index numbers t ≤ member_urgency o t) ⊎ ((at ≡ Some t) × (number ≤ member_urgency o t))
  pub edges : (x t : ℕ) → blocker_in o x ≡ Some t → (slice_index numbers t ≤ slice_index numbers x) ⊎ ((at ≡ Some t) × (number ≤ slice_index numbers x))

-- where the change of a thread belongs in a list in thread order
abbrev pub place_among : ℕ → List CurChange → ℕ
place_among t [] = 0
place_among t (c ∷ cs) = if nat_lt c.thread t then suc (place_among t cs) else 0

-- one change more in thread order, if there is one
abbrev pub put_change : Option CurChange → List CurChange → List CurChange
put_change None cs = cs
put_change (Some c) cs = insert cs (place_among c.thread cs) c

-- an edit by which each waits for whom it waited for, and nobody gets less urgent by itself. Only one thread may get this number: by itself, or since one that is at most as urgent now waits for it
pub record Strengthens (o p : Ownership) (from : Option ℕ) (number : ℕ) : Type 0 where
  pub size : length o.members ≡ length p.members
  pub kept : (x t : ℕ) → blocker_in o x ≡ Some t → blocker_in p x ≡ Some t
  pub more : (x t : ℕ) → blocker_in p x ≡ Some t → (blocker_in o x ≡ Some t) ⊎ ((from ≡ Some t) × (number ≤ cur_in o x))
  pub lower : (t : ℕ) → t < length o.members → member_urgency p t ≤ member_urgency o t
  pub itself : (t : ℕ) → t < length o.members → (member_urgency o t ≤ member_urgency p t) ⊎ ((from ≡ Some t) × (number ≤ member_urgency p t))
  pub reached : (t : ℕ) → from ≡ Some t → (t < length o.members)
      × ((member_urgency p t ≤ number) ⊎ ((x : ℕ) × (blocker_in p x ≡ Some t) × (cur_in o x ≤ number)))

-- the chain of a thread leads to another one, if there is one
abbrev pub LeadsTo : Ownership → ℕ → Option ℕ → Type 0
LeadsTo o u None = Unit {0}
LeadsTo o u (Some t) = is_among (reach (graph_in o) t) u ≡ true
