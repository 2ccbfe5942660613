-- What contracts see of the lock over all cores and of its passes, and what a value of it has to keep.
use Rattle.std.specs.Prelude.{◌≡◌, ◌⊎◌, ℕ, ◌+◌, ◌<◌, List, [], ◌∷◌, ◌++◌, map, Option, IfSome}
use Rattle.std.specs.List.{All, Contains, range_with_len}
use Rattle.atomic_table.specs.Seated.{TableId}
use Rattle.rt_base.specs.declared.codes.Event.{Event}
use Rattle.rt_plain.specs.runs.Live.{owner}
use Rattle.rt_plain.specs.runs.Logs.{PassView}

-- which lock it is, and for how many cores
pub record Lock : Type 0 where
  pub table : TableId
  pub cores : ℕ

-- the lock that a pass is of, and what the pass knows
pub record LockPass : Type 0 where
  pub lock : Lock
  pub known : PassView

-- a core's pass at first
abbrev pub first_pass : Lock → List ℕ → List Event → ℕ → LockPass
first_pass lock root log core = record { lock = lock; known = record { core = core; root = root; tries = 0; found = 0; log = log } }

-- one for each core, in order
abbrev pub first_passes : Lock → List ℕ → List Event → List LockPass
first_passes lock root log = map (first_pass lock root log) (range_with_len 0 lock.cores)

-- a pass that has tried once more, and found this word
abbrev pub tried : LockPass → ℕ → LockPass
tried pass found = record pass { known = record pass.known { tries = pass.known.tries + 1; found = found } }

-- a pass whose last hold left this log
abbrev pub with_log : LockPass → List Event → LockPass
with_log pass log = record pass { known = record pass.known { log = log } }

-- the owners of all events are below a number of cores
abbrev pub AreOwnersBelow : ℕ → List Event → Type 0
AreOwnersBelow cores log = All (λ event. owner event < cores) log

-- the core of a nest is below a number of cores
abbrev pub IsNestBelow : ℕ → Option (ℕ × ℕ) → Type 0
IsNestBelow cores nest = IfSome nest (λ held. held.0 < cores)

-- the log is the older one, or has one event of this core more
abbrev pub GrowsBy : ℕ → List Event → List Event → Type 0
GrowsBy core older log = (log ≡ older) ⊎ ((event : Event) × (log ≡ older ++ event ∷ []) × (owner event ≡ core))

-- the cores of passes
abbrev pub cores_of : List LockPass → List ℕ
cores_of passes = map (λ (pass : LockPass). pass.known.core) passes

-- they are all passes of a lock
pub record AreAllPasses (lock : Lock) (passes : List LockPass) : Type 0 where
  pub of_lock : All (λ (pass : LockPass). pass.lock ≡ lock) passes
  pub all_cores : (core : ℕ) → core < lock.cores → Contains (cores_of passes) core
