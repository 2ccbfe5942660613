-- The calls on timers change no base priority and no name, so they settle to themselves.
use Rattle.std.proofs.Common.{ℕ, List, Bool, true, false, refl, is_some}
use Rattle.std.specs.Prelude.{if◌then◌else◌}
use Rattle.rt_base.specs.declared.codes.Code.{Code}
use Rattle.rt_plain.specs.declared.line.Line.{Line}
use Rattle.rt_plain.specs.kernel.State.{State, Timer, Alarm, OfTimer}
use Rattle.rt_plain.specs.kernel.Effects.{Effect, no_effect, line_effect, due_of, without_alarm}
use Rattle.rt_plain.specs.kernel.Works.{has_work, without_work, unwork_effect}
use Rattle.rt_plain.specs.kernel.Outcome.{refusal, success, silent_success}
use Rattle.rt_plain.specs.kernel.TimerCalls.{find_timer, with_timer_armed, timer_start, timer_stop, timer_set}
use Rattle.rt_kernel.proofs.Quiet.{IsQuiet, IsQuietCall, quiet-else, quiet-self, quiet-found, quiet-if}

pub quiet-disarmed : (s : State) (alarm : Alarm) → IsQuiet s (without_alarm s alarm)
quiet-disarmed s alarm = quiet-else s (without_alarm s alarm) refl refl refl refl

pub quiet-armed : (s : State) (timer : Timer) → IsQuiet s (with_timer_armed s timer)
quiet-armed s timer = quiet-else s (with_timer_armed s timer) refl refl refl refl

quiet-unwork : (s : State) (name : List ℕ) → IsQuiet s (unwork_effect name s).state
quiet-unwork s name = by_work (has_work s name) where
  by_work : (c : Bool) → IsQuiet s (if c then line_effect (without_work s name) (Line.Unwork name) else no_effect s).state
  by_work true = quiet-else s _ refl refl refl refl
  by_work false = quiet-self s

pub quiet-timer_start : (s : State) (name : List ℕ) → IsQuietCall s (timer_start name s)
quiet-timer_start s name = quiet-found s (find_timer s name) (refusal s Code.Inval) _ (quiet-self s) (λ timer. by_work timer (has_work s timer.name)) where
  by_work : (timer : Timer) (c : Bool) → let e : Effect = if c then line_effect (without_work s timer.name) (Line.Unwork timer.name) else no_effect s in IsQuiet s (with_timer_armed e.state timer)
  by_work timer true = quiet-else s _ refl refl refl refl
  by_work timer false = quiet-armed s timer

pub quiet-timer_stop : (s : State) (name : List ℕ) → IsQuietCall s (timer_stop name s)
quiet-timer_stop s name =
    quiet-found s (find_timer s name) (refusal s Code.Inval) _ (quiet-self s) (λ timer.
    quiet-if s (has_work s name) (success (unwork_effect name s)) _ (quiet-unwork s name)
    (quiet-if s (is_some (due_of s (OfTimer name))) (silent_success (without_alarm s (OfTimer name))) (refusal s Code.Error) (quiet-disarmed s (OfTimer name)) (quiet-self s)))

pub quiet-timer_set : (s : State) (name : List ℕ) (time : ℕ) → IsQuietCall s (timer_set name time s)
quiet-timer_set s name time = quiet-found s (find_timer s name) (refusal s Code.Inval) _ (quiet-self s) (λ timer. quiet-else s _ refl refl refl refl)
