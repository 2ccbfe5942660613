-- One pass over the lines of a text, which counts those that begin the text of a run.
use Rattle.std.specs.Prelude.{ℕ, ◌+◌, Bool, true, false, not, ◌&&◌, ◌==◌, List, [], ◌∷◌, ◌++◌, Option, Some, None, Result, Ok, Err, length, codes, bytes_eq, is_some, if◌then◌else◌}
use Rattle.rt_base.specs.declared.codes.Event.{Event}
use Rattle.rt_base.specs.declared.codes.Halt.{Halt}
use Rattle.rt_plain.specs.declared.entry.Entry.{Entry}
use Rattle.rt_plain.specs.declared.why.Why.{Why}
use Rattle.rt_plain.specs.PlainBoard.{PlainBoard}
use Rattle.rt_plain.specs.kernel.State.{State}
use Rattle.rt_plain.specs.kernel.Sleeps.{Did, Made, Same, Halted, is_empty}
use Rattle.rt_plain.specs.kernel.Steps.{happens}
use Rattle.rt_plain.specs.kernel.Opening.{open_state}
use Rattle.rt_plain.specs.kernel.Shown.{shown}
use Rattle.rt_plain.specs.runs.Runs.{entry_tick, is_event_of, is_over, halt_of, events_of}
use Rattle.rt_plain.specs.runs.Live.{owner_counts}
use Rattle.rt_plain.specs.text.Splits.{words_of, word_at}
use Rattle.rt_plain.specs.text.Texts.{with_newline, entry_text}
use Rattle.rt_plain.specs.text.TraceRows.{Counted, Ended, row_text, number_behind, whole_lines_of}

-- where the pass is: what the entries so far left, these entries, whether a `cut` line came, and the bytes that the text of the last entry still has
pub record Reader : Type 0 where
  pub state : State
  pub done : List Entry
  pub counted : Bool
  pub due : List ℕ

-- what a line does to the pass: no run goes on so, a run ends so, or a run may go on
pub data Read : Type 0 where
  Stop : Read
  End : Read
  On : Reader → Read

-- what stands behind these bytes, where they stand in front
abbrev pub behind_front : List ℕ → List ℕ → Option (List ℕ)
behind_front [] bytes = Some bytes
behind_front (b ∷ bs) [] = None
behind_front (b ∷ bs) (c ∷ cs) = if b == c then behind_front bs cs else None

-- ---- lines where no entry has bytes left

-- the `cut` line with the numbers of the entries so far
abbrev pub cut_now : PlainBoard → List Entry → List ℕ
cut_now b done = row_text (Counted (owner_counts b.cores (events_of done)))

-- whether the line is the end line of a run that has halted so
abbrev pub is_end_of : List ℕ → ℕ → Option Halt → Bool
is_end_of line tick None = false
is_end_of line tick (Some halt) = bytes_eq line (row_text (Ended halt tick))

-- the step of a core
abbrev pub step_of : Result ℕ Why → Option Event
step_of (Ok core) = Some (Event.Step core)
step_of (Err reason) = None

-- the event that the second word of a header names
abbrev pub event_named : List ℕ → Option Event
event_named word = if bytes_eq word (codes "tick") then Some Event.Tick else step_of (number_behind 99 255 word)

-- the journal met a limit before the step that finds its state halted
abbrev pub is_late : PlainBoard → List Entry → State → Bool
is_late b journal s = not (is_some s.halt) && is_some (halt_of b s) && is_over b journal

-- the entry may follow within the limits
abbrev pub may_follow : PlainBoard → Reader → Entry → State → Bool
may_follow b r e s = is_event_of b e.event && not (is_over b r.done) && not (is_late b (r.done ++ e ∷ []) s)

-- behind the header of an entry its lines are due
abbrev pub on_entry : Reader → Entry → State → Option (List ℕ) → Read
on_entry r e s None = Stop
on_entry r e s (Some due) = On (record { state = s; done = r.done ++ e ∷ []; counted = r.counted; due = due })

-- the header of an entry that may follow
abbrev pub read_entry : PlainBoard → Reader → List ℕ → Entry → State → Read
read_entry b r line e s = if may_follow b r e s then on_entry r e s (behind_front (with_newline line) (entry_text (length r.done + 1) e)) else Stop

-- the header of what an event makes
abbrev pub read_made : PlainBoard → Reader → List ℕ → Event → Did → Read
read_made b r line event (Made s lines) = read_entry b r line (record { event = event; tick = entry_tick b event r.state s; lines = lines }) s
read_made b r line event Same = Stop
read_made b r line event (Halted halt) = Stop

-- a header, by its event
abbrev pub read_event : PlainBoard → Reader → List ℕ → Option Event → Read
read_event b r line None = Stop
read_event b r line (Some event) = read_made b r line event (happens b r.state event)

-- one `cut` line may stand there
abbrev pub read_cut : Reader → Read
read_cut r = if r.counted then Stop else On (record { state = r.state; done = r.done; counted = true; due = [] })

-- a `cut` line, an end line, or a header
abbrev pub read_outer : PlainBoard → Reader → List ℕ → Read
read_outer b r line =
    if bytes_eq line (cut_now b r.done) then read_cut r
    else if is_end_of line (shown b r.state.moment) (halt_of b r.state) then End
    else read_event b r line (event_named (word_at (words_of line) 1))

-- ---- the pass

-- a line of an entry
abbrev pub read_due : Reader → Option (List ℕ) → Read
read_due r None = Stop
read_due r (Some due) = On (record { state = r.state; done = r.done; counted = r.counted; due = due })

-- any line
abbrev pub read_line : PlainBoard → Reader → List ℕ → List ℕ → Read
read_line b r line [] = read_outer b r line
read_line b r line (byte ∷ bytes) = read_due r (behind_front (with_newline line) (byte ∷ bytes))

-- the lines counted, where `others` counts those behind
abbrev pub counted_on : Read → (Reader → ℕ) → ℕ
counted_on Stop others = 0
counted_on End others = 1
counted_on (On r) others = 1 + others r

-- how many lines the pass counts
abbrev pub pass : PlainBoard → Reader → List (List ℕ) → ℕ
pass b r [] = 0
pass b r (l ∷ ls) = counted_on (read_line b r l r.due) (λ next. pass b next ls)

-- whether all these lines are taken, and the last one as the end line, where `others` tells it of those behind
abbrev pub ended_on : Read → List (List ℕ) → (Reader → Bool) → Bool
ended_on Stop ls others = false
ended_on End ls others = is_empty ls
ended_on (On r) ls others = others r

-- whether the pass takes all lines, and the last one as the end line
abbrev pub pass_ends : PlainBoard → Reader → List (List ℕ) → Bool
pass_ends b r [] = false
pass_ends b r (l ∷ ls) = ended_on (read_line b r l r.due) ls (λ next. pass_ends b next ls)

-- before the first line
abbrev pub reader : PlainBoard → Reader
reader b = record { state = open_state b; done = []; counted = false; due = [] }

-- how many lines of a text the pass counts
abbrev pub lines_agreeing : PlainBoard → List ℕ → ℕ
lines_agreeing b text = pass b (reader b) (whole_lines_of text)

-- whether the pass over a text ends with its last line
abbrev pub is_ended_pass : PlainBoard → List ℕ → Bool
is_ended_pass b text = pass_ends b (reader b) (whole_lines_of text)
