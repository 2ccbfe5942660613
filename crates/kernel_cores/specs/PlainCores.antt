-- Who runs where, and which core holds the lock over all cores.
use Rattle.std.specs.Prelude.{ℕ, List, Option, Some, None, map, replicate, slice_set, if◌then◌else◌}
use Rattle.rt_plain.specs.kernel.State.{Nest, is_number}

-- the thread of each core, and the lock over all cores
pub record PlainCores : Type 0 where
  pub running : List (Option ℕ)
  pub nest : Option Nest

-- so many cores that run nobody, and nobody holds the lock
abbrev pub idle_cores : ℕ → PlainCores
idle_cores count = record { running = replicate count None; nest = None }

-- the cores with a thread on one of them
abbrev pub with_thread_on : PlainCores → ℕ → ℕ → PlainCores
with_thread_on k core t = record k { running = slice_set k.running core (Some t) }

-- the cores without a thread
abbrev pub without_thread : ℕ → List (Option ℕ) → List (Option ℕ)
without_thread t running = map (λ r. if is_number t r then None else r) running
