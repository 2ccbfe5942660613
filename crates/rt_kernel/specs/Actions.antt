-- What the timers of a built board do.
use Rattle.std.specs.Prelude.{ℕ, ◌≡◌, ◌+◌, ◌<◌, true, false, length}
use Rattle.rt_plain.specs.declared.stmt.Call.{Call}
use Rattle.rt_plain.specs.PlainBoard.{PlainBoard}
use Rattle.rt_plain.specs.kernel.Calls.{outcome_of, settled_effect}
use Rattle.rt_plain.specs.kernel.Outcome.{Outcome, ByTimer, First}
use Rattle.rt_plain.specs.kernel.State.{State, Timer, thread_at}
use Rattle.rt_plain.specs.kernel.Sound.{is_timed_action, is_waiting}
use Rattle.rt_plain.specs.kernel.TimerKinds.{is_soft, is_timer_action}
use Rattle.rt_kernel.specs.Built.{is_built_action}
use Rattle.rt_kernel.specs.Caller.{timer_name}

-- a timer whose call is made at the tick, is one that a timer may make, is built, and sets no time of 0
pub record MayAct (timer : Timer) : Type 0 where
  pub hard : is_soft timer.kind ≡ false
  pub allowed : is_timer_action timer.call ≡ true
  pub built : is_built_action timer.call ≡ true
  pub timed : is_timed_action timer.call ≡ true

-- what is armed under a number may fire: a thread below 256 waits, and from there on a timer is there
pub record MayFire (s : State) (no : ℕ) : Type 0 where
  pub there : no < 256 + length s.timers
  pub waits : no < 256 → is_waiting (thread_at s no).stage ≡ true

-- the call of a timer, with what follows from it
abbrev pub timer_call : PlainBoard → ℕ → Call → State → Outcome
timer_call b o call s = let outcome = outcome_of b call s (ByTimer (timer_name s o)) First in record { effect = settled_effect b s outcome.effect; answer = outcome.answer }
