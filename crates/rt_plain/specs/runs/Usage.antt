-- What a run used: ticks, statements and wakes of each thread, sleeps, and idle ticks.
use Rattle.std.specs.Prelude.{ℕ, Bool, false, not, List, [], ◌∷◌, ◌++◌, Option, Some, None, map, length, sum_by, count_by, flat_map, decimal, codes, is_some, if◌then◌else◌, ◌==◌}
use Rattle.std.specs.List.{filter_map, list_any}
use Rattle.std.specs.Str.{bytes_eq}
use Rattle.rt_base.specs.declared.codes.Event.{Event}
use Rattle.rt_base.specs.declared.codes.Sleep.{Sleep}
use Rattle.rt_base.specs.Codes.{sleep_number}
use Rattle.rt_plain.specs.declared.entry.Entry.{Entry}
use Rattle.rt_plain.specs.declared.line.Line.{Line}
use Rattle.rt_plain.specs.PlainBoard.{PlainBoard}
use Rattle.rt_plain.specs.kernel.State.{State, is_running, thread_at, thread_numbers}
use Rattle.rt_plain.specs.text.Words.{words, sleep_text}
use Rattle.rt_plain.specs.kernel.Tables.{Column, left_column, right_column, table_line}
use Rattle.rt_plain.specs.text.Texts.{with_newline}
use Rattle.rt_plain.specs.kernel.Opening.{open_state}
use Rattle.rt_plain.specs.kernel.Steps.{happens}
use Rattle.rt_plain.specs.runs.Schedules.{state_after}
use Rattle.rt_plain.specs.runs.Ends.{run_of}

-- the state that an event left, where it was a tick
abbrev pub tick_states : Event → State → List State
tick_states Event.Tick s = s ∷ []
tick_states (Event.Step core) s = []

-- the states that the ticks among the entries left, from the state before them on
abbrev pub states_of_ticks : PlainBoard → State → List Entry → List State
states_of_ticks b s [] = []
states_of_ticks b s (e ∷ es) = let new = state_after s (happens b s e.event) in tick_states e.event new ++ states_of_ticks b new es

-- whether no core runs a thread
abbrev pub is_idle : State → Bool
is_idle s = not (list_any is_some s.running)

-- whether a line shows a statement of a thread, done for the first time or again
abbrev pub is_step_of : List ℕ → Line → Bool
is_step_of thread (Line.Done name k code) = bytes_eq name thread
is_step_of thread (Line.Again name k code) = bytes_eq name thread
is_step_of thread _ = false

-- whether a line shows that a thread woke
abbrev pub is_wake_of : List ℕ → Line → Bool
is_wake_of thread (Line.Wake name woke) = bytes_eq name thread
is_wake_of thread _ = false

-- the ticks of a sleep in a mode that a line shows
abbrev pub slept_by : Sleep → Line → Option ℕ
slept_by mode (Line.Sleep other ticks) = if sleep_number other == sleep_number mode then Some ticks else None
slept_by mode _ = None

-- what a thread used
pub record Used : Type 0 where
  pub name : List ℕ
  pub ticks : ℕ
  pub steps : ℕ
  pub wakes : ℕ

-- what the threads used by number, the ticks of each light and each deep sleep, and how many ticks no core ran a thread
pub record Usage : Type 0 where
  pub threads : List Used
  pub light : List ℕ
  pub deep : List ℕ
  pub idle : ℕ

-- what a thread used, by the states that ticks left and the lines
abbrev pub used_by : State → List State → List Line → ℕ → Used
used_by s states lines t =
    let name = (thread_at s t).name in
    record { name = name; ticks = count_by (λ r. is_running r t) states; steps = count_by (is_step_of name) lines; wakes = count_by (is_wake_of name) lines }

-- all of it, counted from the states that ticks left and the lines
abbrev pub usage_by : State → List State → List Line → Usage
usage_by s states lines = record {
  threads = map (used_by s states lines) (thread_numbers s);
  light = filter_map (slept_by Sleep.Light) lines;
  deep = filter_map (slept_by Sleep.Deep) lines;
  idle = count_by is_idle states;
}

-- what a journal of a board used
abbrev pub usage_of : PlainBoard → List Entry → Usage
usage_of b journal = usage_by (open_state b) (states_of_ticks b (open_state b) journal) (flat_map (λ e. e.lines) journal)

-- the columns of the table
abbrev pub usage_columns : List Column
usage_columns = left_column (codes "thread") 8 ∷ right_column (codes "ticks") 10 ∷ right_column (codes "steps") 7 ∷ right_column (codes "wakes") 7 ∷ []

-- the line of a thread
abbrev pub used_line : Used → List ℕ
used_line u = table_line usage_columns (u.name ∷ decimal u.ticks ∷ decimal u.steps ∷ decimal u.wakes ∷ [])

-- the line of a sleep mode: how often it was slept in, and for how many ticks
abbrev pub slept_line : Sleep → List ℕ → List ℕ
slept_line mode slept = with_newline (words (codes "sleep" ∷ sleep_text mode ∷ decimal (length slept) ∷ decimal (sum_by (λ n. n) slept) ∷ []))

-- the table
abbrev pub usage_table : Usage → List ℕ
usage_table u =
    table_line usage_columns (map (λ c. c.title) usage_columns)
    ++ flat_map used_line u.threads
    ++ slept_line Sleep.Light u.light
    ++ slept_line Sleep.Deep u.deep
    ++ with_newline (words (codes "idle" ∷ decimal u.idle ∷ []))

-- what `usage` writes
abbrev pub usage_text : PlainBoard → List ℕ
usage_text b = usage_table (usage_of b (run_of b).journal)
