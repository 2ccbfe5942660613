-- Who makes a call, and for which time, as the definitions have it.
use Rattle.std.specs.Prelude.{ℕ, ◌≡◌, ◌<◌, true, false, ⊤, length, List, [], slice_get, unwrap_or}
use Rattle.std.specs.Option.{option_map}
use Rattle.rt_plain.specs.kernel.State.{State, is_among}
use Rattle.rt_plain.specs.kernel.Sound.{is_active}
use Rattle.rt_plain.specs.kernel.Outcome.{By, ByThread, ByTimer, Attempt as PlainAttempt, First, Again}
use Rattle.kernel_tables.specs.Threads.{row_at}
use Rattle.mutex_tables.specs.MutexTabled.{MutexTabled}
use Rattle.rt_kernel.specs.declared.caller.Caller.{Caller}
use Rattle.rt_kernel.specs.declared.caller.Attempt.{Attempt}

-- the name of a timer
abbrev pub timer_name : State → ℕ → List ℕ
timer_name s timer = unwrap_or (option_map (λ row. row.name) (slice_get s.timers timer)) []

-- who makes a call
abbrev pub plain_by : State → Caller → By
plain_by s (Caller.Thread t core) = ByThread t core
plain_by s (Caller.Timer timer) = ByTimer (timer_name s timer)

-- for the first time or again
abbrev pub plain_attempt : Attempt → PlainAttempt
plain_attempt Attempt.First = First
plain_attempt (Attempt.Again due) = Again due

-- a thread on a core: it is there, active, and not ready
pub record IsOnCore (k : MutexTabled) (r : ℕ) : Type 0 where
  pub there : r < length k.threads
  pub active : is_active (row_at k.threads r).stage ≡ true
  pub unready : is_among k.ready r ≡ false

-- a thread that makes a call is there and active, and runs, so that it isn't ready
abbrev pub IsThere : Caller → MutexTabled → Type 0
IsThere (Caller.Thread t core) k = IsOnCore k t
IsThere (Caller.Timer timer) k = ⊤
