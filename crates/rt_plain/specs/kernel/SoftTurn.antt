-- The one statement of the thread `tsoft`, which does the works of soft timers.
use Rattle.std.specs.Prelude.{ℕ, List, [], ◌∷◌, Option, Some, None}
use Rattle.rt_base.specs.declared.codes.Code.{Code}
use Rattle.rt_plain.specs.declared.line.Line.{Line}
use Rattle.rt_plain.specs.PlainBoard.{PlainBoard}
use Rattle.rt_plain.specs.kernel.State.{State, Timer, AtWorks, thread_at, with_thread}
use Rattle.rt_plain.specs.kernel.Effects.{Effect, no_effect, line_effect, and_then, waiting_state}
use Rattle.rt_plain.specs.kernel.TimerCalls.{find_timer}
use Rattle.rt_plain.specs.kernel.Due.{timer_action_effect}
use Rattle.rt_plain.specs.kernel.Shell.{turn_line}

-- a work is done: its timer is armed again if it is periodic, and then does what it does
abbrev pub work_effect : PlainBoard → Option Timer → State → Effect
work_effect b None s = no_effect s
work_effect b (Some timer) s = timer_action_effect b (Line.Work timer.name) timer s

-- statement 1: does the first of the works, or waits for one
abbrev pub soft_turn_effect : PlainBoard → ℕ → List (List ℕ) → State → Effect
soft_turn_effect b t [] s =
    let row = thread_at s t in
    line_effect (waiting_state (with_thread s t (record row { retry = None })) t AtWorks None) (turn_line row 1 None)
soft_turn_effect b t (name ∷ names) s =
    let row = thread_at s t in
    let free = with_thread s t (record row { retry = None }) in
    and_then (line_effect (record free { works = names }) (turn_line row 1 (Some Code.Ok))) (λ r. work_effect b (find_timer r name) r)

-- the statement of the thread `tsoft`
abbrev pub soft_effect : PlainBoard → ℕ → State → Effect
soft_effect b t s = soft_turn_effect b t s.works s
