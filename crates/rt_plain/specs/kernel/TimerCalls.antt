-- The calls on timers.
use Rattle.std.specs.Prelude.{ℕ, ◌+◌, List, Option, Some, map, is_some, if◌then◌else◌}
use Rattle.std.specs.List.{find}
use Rattle.std.specs.Str.{bytes_eq}
use Rattle.rt_base.specs.declared.codes.Code.{Code}
use Rattle.rt_plain.specs.kernel.State.{State, Timer, OfTimer}
use Rattle.rt_plain.specs.kernel.Effects.{Effect, due_of, without_alarm, with_alarm}
use Rattle.rt_plain.specs.kernel.Works.{has_work, unwork_effect}
use Rattle.rt_plain.specs.kernel.Outcome.{Outcome, refusal, success, silent_success, found_outcome}

-- the timer of a name
abbrev pub find_timer : State → List ℕ → Option Timer
find_timer s name = find (λ o. bytes_eq o.name name) s.timers

-- the state with another row for a timer
abbrev pub with_timer : State → Timer → State
with_timer s timer = record s { timers = map (λ o. if bytes_eq o.name timer.name then timer else o) s.timers }

-- the timer is armed anew: its time from now
abbrev pub with_timer_armed : State → Timer → State
with_timer_armed s timer = with_alarm (without_alarm s (OfTimer timer.name)) (OfTimer timer.name) (Some (s.moment + timer.time))

-- a timer is taken out of the works, where it is among them, and armed
abbrev pub timer_start_effect : Timer → State → Effect
timer_start_effect timer s = let e = unwork_effect timer.name s in record e { state = with_timer_armed e.state timer }

-- timer_start: armed, and an earlier row or work is dropped
abbrev pub timer_start : List ℕ → State → Outcome
timer_start name s = found_outcome (find_timer s name) (refusal s Code.Inval) (λ timer. success (timer_start_effect timer s))

-- timer_stop: taken out of the works, where it is among them, or disarmed, where it is armed
abbrev pub timer_stop : List ℕ → State → Outcome
timer_stop name s =
    found_outcome (find_timer s name) (refusal s Code.Inval) (λ timer.
    if has_work s name then success (unwork_effect name s)
    else if is_some (due_of s (OfTimer name)) then silent_success (without_alarm s (OfTimer name))
    else refusal s Code.Error)

-- timer_set: another time for the next start or period
abbrev pub timer_set : List ℕ → ℕ → State → Outcome
timer_set name time s = found_outcome (find_timer s name) (refusal s Code.Inval) (λ timer. silent_success (with_timer s (record timer { time = time })))
