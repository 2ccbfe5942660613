-- What the tables of owners and waiters keep.
use Rattle.std.specs.Prelude.{ℕ, ◌≡◌, ◌≢◌, ◌<◌, Bool, true, false, List, length, Option, Some, None, All, slice_index_or, if◌then◌else◌, ◌==◌}
use Rattle.std.specs.List.{AllPairs, find}
use Rattle.std.specs.Option.{option_and_then, option_map}
use Rattle.rt_plain.specs.kernel.Ownership.{Ownership, Member, Taken, member_at, is_there, owner_in, awaited_in}

-- whether a thread is there
abbrev pub has_thread : Ownership → ℕ → Bool
has_thread o t = is_there (member_at o t)

-- the ceiling of a mutex, if it is there
abbrev pub ceiling_at : Ownership → ℕ → Option ℕ
ceiling_at o mutex = slice_index_or o.ceilings mutex None

-- whether there is a ceiling
abbrev pub is_ceiling : Option ℕ → Bool
is_ceiling None = false
is_ceiling (Some c) = true

-- whether a mutex is there
abbrev pub has_mutex : Ownership → ℕ → Bool
has_mutex o mutex = is_ceiling (ceiling_at o mutex)

-- the owner of the mutex that a thread waits on
abbrev pub blocker_in : Ownership → ℕ → Option ℕ
blocker_in o t = option_and_then (owner_in o) (awaited_in o t)

-- a base is a number of a byte
abbrev pub IsSmall : Option Member → Type 0
IsSmall None = Unit {0}
IsSmall (Some m) = m.base < 256

-- numbers within the tables, each mutex owned once
pub record IsSound (o : Ownership) : Type 0 where
  pub few_threads : length o.members < 65536
  pub few_mutexes : length o.ceilings < 65536
  pub small : All IsSmall o.members
  pub mutexes : All (λ h. h.mutex < length o.ceilings) o.taken
  pub owners : All (λ h. h.owner < length o.members) o.taken
  pub once : AllPairs (λ a b. a.mutex ≢ b.mutex) o.taken

-- a table of the owners of the mutexes below a number
pub record AreHolders (taken : List Taken) (mutexes : ℕ) (holders : List (Option ℕ)) : Type 0 where
  pub places : length holders ≡ mutexes
  pub owner : (m : ℕ) → m < mutexes → slice_index_or holders m None ≡ option_map (λ h. h.owner) (find (λ h. h.mutex == m) taken)

-- the row of a mutex with another hold
abbrev pub with_hold : ℕ → ℕ → Taken → Taken
with_hold mutex hold h = if h.mutex == mutex then record { mutex = mutex; owner = h.owner; hold = hold } else h

-- each awaited mutex has an owner
abbrev pub AreOwned : Ownership → Type 0
AreOwned o = (t mutex : ℕ) → awaited_in o t ≡ Some mutex → owner_in o mutex ≢ None
