-- What a wait needs of the armed rows.
use Rattle.std.specs.Prelude.{ℕ, ◌≡◌, Option, true, false}
use Rattle.rt_plain.specs.declared.stmt.Call.{Call}
use Rattle.rt_plain.specs.kernel.State.{OfThread}
use Rattle.rt_plain.specs.kernel.Kept.{IsAhead}
use Rattle.rt_plain.specs.kernel.Sound.{is_timed_call}
use Rattle.kernel_timers.specs.Alarmed.{AlarmsSeen, is_armed}
use Rattle.rt_kernel.specs.declared.caller.Caller.{Caller}

-- the thread has no armed row, and its wait ends at a moment at which a row may be due, if it ends
pub record MayWait (seen : AlarmsSeen) (t : ℕ) (due : Option ℕ) : Type 0 where
  pub free : is_armed (OfThread t) seen.rows ≡ false
  pub ahead : IsAhead seen.moment due

-- a thread that makes a call has no armed row
abbrev pub IsFree : AlarmsSeen → Caller → Type 0
IsFree seen (Caller.Thread t core) = is_armed (OfThread t) seen.rows ≡ false
IsFree seen (Caller.Timer o) = Unit {0}

-- and the call waits no longer than it may
pub record MayMake (seen : AlarmsSeen) (by : Caller) (call : Call) : Type 0 where
  pub free : IsFree seen by
  pub timed : is_timed_call call ≡ true
