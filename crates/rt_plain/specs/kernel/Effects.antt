-- What an action does: the state after it and the lines that it shows. How threads wake, wait and change places.
use Rattle.std.specs.Prelude.{ℕ, ◌+◌, Bool, false, not, List, [], ◌∷◌, ◌++◌, Option, Some, None, map, filter, if◌then◌else◌, ◌==◌}
use Rattle.std.specs.List.{find}
use Rattle.std.specs.Option.{option_map}
use Rattle.std.specs.Str.{bytes_eq}
use Rattle.rt_base.specs.declared.codes.Code.{Code}
use Rattle.rt_plain.specs.declared.line.Line.{Line}
use Rattle.rt_plain.specs.declared.line.Woke.{Woke}
use Rattle.rt_plain.specs.kernel.State.{State, Stage, Active, Waiting, Awaited, Retry, Alarm, OfThread, OfTimer, thread_at, with_thread, is_number}

-- the state after an action, and the lines that it shows
pub record Effect : Type 0 where
  pub state : State
  pub lines : List Line

-- nothing is shown
abbrev pub no_effect : State → Effect
no_effect s = record { state = s; lines = [] }

-- one line is shown
abbrev pub line_effect : State → Line → Effect
line_effect s line = record { state = s; lines = line ∷ [] }

-- one action and then another
abbrev pub and_then : Effect → (State → Effect) → Effect
and_then e next = let f = next e.state in record { state = f.state; lines = e.lines ++ f.lines }

-- an action for each item, one after the other
abbrev pub each_effect : {A : Type 0} → (A → State → Effect) → List A → State → Effect
each_effect act [] s = no_effect s
each_effect act (x ∷ xs) s = let e = act x s in let f = each_effect act xs e.state in record { state = f.state; lines = e.lines ++ f.lines }

-- the name of a thread
abbrev pub name_of : State → ℕ → List ℕ
name_of s t = (thread_at s t).name

-- the thread goes to the end of the ready list
abbrev pub with_ready_last : State → ℕ → State
with_ready_last s t = record s { ready = s.ready ++ t ∷ [] }

-- the thread goes to the front of the ready list
abbrev pub with_ready_first : State → ℕ → State
with_ready_first s t = record s { ready = t ∷ s.ready }

-- the thread leaves the ready list
abbrev pub without_ready : State → ℕ → State
without_ready s t = record s { ready = filter (λ u. not (u == t)) s.ready }

-- the thread leaves its core
abbrev pub without_core : State → ℕ → State
without_core s t = record s { running = map (λ r. if is_number t r then None else r) s.running }

-- whether two alarms are of one thread or one timer
abbrev pub is_alarm : Alarm → Alarm → Bool
is_alarm (OfThread t) (OfThread u) = t == u
is_alarm (OfTimer a) (OfTimer b) = bytes_eq a b
is_alarm (OfThread t) (OfTimer b) = false
is_alarm (OfTimer a) (OfThread u) = false

-- the moment at which an alarm is due, if it is armed
abbrev pub due_of : State → Alarm → Option ℕ
due_of s alarm = option_map (λ r. r.due) (find (λ r. is_alarm alarm r.alarm) s.armed)

-- the alarm is armed no more
abbrev pub without_alarm : State → Alarm → State
without_alarm s alarm = record s { armed = filter (λ r. not (is_alarm alarm r.alarm)) s.armed }

-- the alarm is armed with a new number, where a moment is given
abbrev pub with_alarm : State → Alarm → Option ℕ → State
with_alarm s alarm None = s
with_alarm s alarm (Some due) = record s { armed = s.armed ++ record { due = due; number = s.numbers; alarm = alarm } ∷ []; numbers = s.numbers + 1 }

-- the thread waits with a new arrival number, until a moment if one is given
abbrev pub waiting_state : State → ℕ → Awaited → Option ℕ → State
waiting_state s t what due =
    let row = thread_at s t in
    let joined = with_thread (without_core s t) t (record row { stage = Waiting what s.numbers }) in
    with_alarm (record joined { numbers = s.numbers + 1 }) (OfThread t) due

-- the thread is active again, without an armed row, at the end of the ready list
abbrev pub active_state : State → ℕ → State
active_state s t = let row = thread_at s t in with_ready_last (without_alarm (with_thread s t (record row { stage = Active })) (OfThread t)) t

-- the thread wakes with a code
abbrev pub wake_effect : Code → ℕ → State → Effect
wake_effect code t s =
    let row = thread_at s t in
    line_effect (active_state (with_thread s t (record row { code = code })) t) (Line.Wake row.name (Woke.Code code))

-- what a thread at this stage has to make again, by the call that it waits in
abbrev pub retry_of : Stage → Option ℕ → Option Retry
retry_of (Waiting what number) due = Some (record { what = what; due = due })
retry_of _ due = None

-- the thread wakes and makes its call again at its next step
abbrev pub retry_wake_effect : ℕ → State → Effect
retry_wake_effect t s =
    let row = thread_at s t in
    line_effect (active_state (with_thread s t (record row { retry = retry_of row.stage (due_of s (OfThread t)) })) t) (Line.Wake row.name Woke.Retry)

-- what is done with a thread, if there is one
abbrev pub effect_for : (ℕ → State → Effect) → Option ℕ → State → Effect
effect_for act None s = no_effect s
effect_for act (Some t) s = act t s
