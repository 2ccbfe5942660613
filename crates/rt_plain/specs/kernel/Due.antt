-- Which armed rows are due, and what they do.
use Rattle.std.specs.Prelude.{ℕ, zero, suc, List, [], ◌∷◌, ◌++◌, Option, Some, None, filter, nat_lt, if◌then◌else◌, ◌==◌}
use Rattle.rt_base.specs.declared.codes.Code.{Code}
use Rattle.rt_plain.specs.declared.line.Line.{Line}
use Rattle.rt_plain.specs.declared.line.Fired.{Fired}
use Rattle.rt_plain.specs.declared.stmt.Call.{Call}
use Rattle.rt_plain.specs.declared.stmt.Stmt.{Stmt}
use Rattle.rt_plain.specs.declared.board.TimerKind.{TimerKind}
use Rattle.rt_plain.specs.PlainBoard.{PlainBoard}
use Rattle.rt_plain.specs.kernel.State.{State, Stage, Waiting, InCall, Timer, ArmedRow, Alarm, OfThread, OfTimer, thread_at}
use Rattle.rt_plain.specs.kernel.Effects.{Effect, no_effect, line_effect, and_then, effect_for, name_of, without_alarm, wake_effect, retry_wake_effect}
use Rattle.rt_plain.specs.kernel.Outcome.{ByTimer, First, Answer, Answers, Waits, Outcome}
use Rattle.rt_plain.specs.kernel.TimerCalls.{find_timer, with_timer_armed}
use Rattle.rt_plain.specs.kernel.Works.{with_work, work_waiter}
use Rattle.rt_plain.specs.kernel.TimerKinds.{is_soft}
use Rattle.rt_plain.specs.kernel.Calls.{outcome_of, settled_effect}

-- the row put among others by start number
abbrev pub put_by_number : {A : Type 0} → ArmedRow A → List (ArmedRow A) → List (ArmedRow A)
put_by_number row [] = row ∷ []
put_by_number row (r ∷ rs) = if nat_lt row.number r.number then row ∷ r ∷ rs else r ∷ put_by_number row rs

-- the rows by start number
abbrev pub by_number : {A : Type 0} → List (ArmedRow A) → List (ArmedRow A)
by_number [] = []
by_number (row ∷ rows) = put_by_number row (by_number rows)

-- the rows that are due at a moment, by start number
abbrev pub due_rows_at : {A : Type 0} → ℕ → List (ArmedRow A) → List (ArmedRow A)
due_rows_at moment rows = by_number (filter (λ row. row.due == moment) rows)

-- the rows that are due now
abbrev pub due : State → List (ArmedRow Alarm)
due s = due_rows_at s.moment s.armed

-- the code with which a wait in a call ends at its due moment: 0 for a delay, and else a timeout
abbrev pub call_code : Call → Code
call_code (Call.Delay ticks) = Code.Ok
call_code _ = Code.Timeout

-- the code with which a thread at this stage leaves its wait
abbrev pub timeout_code : Stage → Code
timeout_code (Waiting (InCall call) number) = call_code call
timeout_code _ = Code.Timeout

-- a thread's row fires: it leaves its wait
abbrev pub timeout_effect : ℕ → State → Effect
timeout_effect t s = and_then (line_effect s (Line.Timeout (name_of s t))) (wake_effect (timeout_code (thread_at s t).stage) t)

-- a periodic timer is armed again
abbrev pub with_period : TimerKind → Timer → State → State
with_period TimerKind.OneShot timer s = s
with_period TimerKind.Periodic timer s = with_timer_armed s timer
with_period TimerKind.SoftOne timer s = s
with_period TimerKind.SoftPer timer s = with_timer_armed s timer

-- what the line of a timer shows of the answer to its call
abbrev pub fired_code : Answer → Fired
fired_code (Answers code) = Fired.Code code
fired_code Waits = Fired.Nothing

-- the line of a timer, and then what its call shows
abbrev pub timer_call_effect : (Fired → Line) → Outcome → Effect
timer_call_effect line outcome = record { state = outcome.effect.state; lines = line (fired_code outcome.answer) ∷ outcome.effect.lines }

-- what a timer does, and the line that tells what came of it: nothing, a text, or a call
abbrev pub timer_effect : PlainBoard → (Fired → Line) → List ℕ → Option Stmt → State → Effect
timer_effect b line name None s = line_effect s (line Fired.Nothing)
timer_effect b line name (Some (Stmt.Print text)) s = record { state = s; lines = line (Fired.Code Code.Ok) ∷ Line.Print text ∷ [] }
timer_effect b line name (Some (Stmt.Do call)) s = timer_call_effect line (outcome_of b call s (ByTimer name) First)
timer_effect b line name (Some _) s = line_effect s (line Fired.Nothing)

-- a timer is armed again if it is periodic, and then does what it does
abbrev pub timer_action_effect : PlainBoard → (Fired → Line) → Timer → State → Effect
timer_action_effect b line timer s = timer_effect b line timer.name timer.call (with_period timer.kind timer s)

-- a soft timer is the last of the works, and wakes the thread that waits for one
abbrev pub soft_timer_effect : List ℕ → State → Effect
soft_timer_effect name s = and_then (line_effect (with_work s name) (Line.Fire name Fired.Soft)) (λ r. effect_for retry_wake_effect (work_waiter r) r)

-- a timer fires: a soft one becomes a work, and any other acts at once
abbrev pub fired_timer_effect : PlainBoard → Option Timer → State → Effect
fired_timer_effect b None s = no_effect s
fired_timer_effect b (Some timer) s = if is_soft timer.kind then soft_timer_effect timer.name s else timer_action_effect b (Line.Fire timer.name) timer s

-- an alarm fires, its row being gone already
abbrev pub alarm_effect : PlainBoard → Alarm → State → Effect
alarm_effect b (OfThread t) s = timeout_effect t s
alarm_effect b (OfTimer name) s = fired_timer_effect b (find_timer s name) s

-- a due row is removed, fires, and what follows is settled
abbrev pub fired_row_effect : PlainBoard → ArmedRow Alarm → State → Effect
fired_row_effect b row s = settled_effect b s (alarm_effect b row.alarm (without_alarm s row.alarm))

-- the first due row fires, as long as there is one. Firing arms nothing for this moment, so it ends after as many as were due
abbrev pub due_rows_effect : PlainBoard → ℕ → List (ArmedRow Alarm) → State → Effect
due_rows_effect b zero rows s = no_effect s
due_rows_effect b (suc n) [] s = no_effect s
due_rows_effect b (suc n) (row ∷ rows) s =
    let e = fired_row_effect b row s in
    let f = due_rows_effect b n (due e.state) e.state in
    record { state = f.state; lines = e.lines ++ f.lines }
