-- Runs: events one after the other, the journal that they leave, its limits, and how a run ends.
use Rattle.std.specs.Prelude.{◌≡◌, ℕ, ◌+◌, ◌*◌, Bool, true, false, ◌||◌, List, [], ◌∷◌, ◌++◌, Option, Some, None, map, length, sum_by, nat_lt, is_some, if◌then◌else◌, ◌==◌, IsTrue}
use Rattle.rt_base.specs.declared.codes.Event.{Event}
use Rattle.rt_base.specs.declared.codes.Halt.{Halt}
use Rattle.rt_plain.specs.declared.entry.Entry.{Entry}
use Rattle.rt_plain.specs.PlainBoard.{PlainBoard}
use Rattle.rt_plain.specs.kernel.State.{State}
use Rattle.rt_plain.specs.kernel.Sleeps.{Did, Made, Same, Halted}
use Rattle.rt_plain.specs.kernel.Steps.{happens}
use Rattle.rt_plain.specs.kernel.Opening.{open_state}
use Rattle.rt_plain.specs.kernel.Shown.{shown}

-- an entry is headed by the shown tick at which a step began, or by the new one
abbrev pub entry_tick : PlainBoard → Event → State → State → ℕ
entry_tick b (Event.Step core) before after = shown b before.moment
entry_tick b Event.Tick before after = shown b after.moment

-- a step is of one of the board's cores
abbrev pub is_event_of : PlainBoard → Event → Bool
is_event_of b (Event.Step core) = nat_lt core b.cores
is_event_of b Event.Tick = true

-- the entry is what its event made: from the old state it led to the new one
abbrev pub IsMade : PlainBoard → State → Entry → State → Type 0
IsMade b old e new = IsTrue (is_event_of b e.event) × (happens b old e.event ≡ Made new e.lines) × (e.tick ≡ entry_tick b e.event old new)

-- each entry is what its event made in the state that the one before left, from old to new
abbrev pub IsRun : PlainBoard → State → List Entry → State → Type 0
IsRun b old [] new = new ≡ old
IsRun b old (e ∷ journal) new = (mid : State) × IsMade b old e mid × IsRun b mid journal new

-- a machine on its way: its state, the entries so far, and how it has halted, if it has
pub record Course : Type 0 where
  pub state : State
  pub journal : List Entry
  pub halt : Option Halt

-- before the first event
abbrev pub opened : PlainBoard → Course
opened b = record { state = open_state b; journal = []; halt = None }

-- what an event leaves: an entry more, the same, or a halted machine
abbrev pub course_after : PlainBoard → Course → Event → Did → Course
course_after b c event (Made s lines) = record { state = s; journal = c.journal ++ record { event = event; tick = entry_tick b event c.state s; lines = lines } ∷ []; halt = s.halt }
course_after b c event Same = c
course_after b c event (Halted halt) = record c { halt = Some halt }

-- a halted machine stays as it is
abbrev pub course_unless : Option Halt → Course → Course → Course
course_unless None c d = d
course_unless (Some halt) c d = c

-- a machine after one event
unfoldable pub after : PlainBoard → Course → Event → Course
after b c event = course_unless c.halt c (course_after b c event (happens b c.state event))

-- the number of a board's threads, those of the shell and of soft timers among them
abbrev pub thread_count : PlainBoard → ℕ
thread_count b = (if is_some b.shell then 1 else 0) + (if is_some b.soft then 1 else 0) + length b.threads

-- the most lines that one event adds
abbrev pub room : PlainBoard → ℕ
room b = (thread_count b + length b.timers + 1) * (2 * thread_count b + 4) + 5 * (1 + length b.devices) + 300

-- the lines of a journal
abbrev pub line_count : List Entry → ℕ
line_count journal = sum_by (λ e. length e.lines) journal

-- the journal meets a limit
abbrev pub is_over : PlainBoard → List Entry → Bool
is_over b journal = (length journal == b.entries) || nat_lt 4000000 (line_count journal + room b)

-- the journal meets a limit of the board, has so many entries, or has more than so many lines
abbrev pub is_over_in : ℕ → ℕ → PlainBoard → List Entry → Bool
is_over_in entries lines b journal = is_over b journal || (length journal == entries) || nat_lt lines (line_count journal)

-- the halt that an event answers, if it does
abbrev pub halt_of_did : Did → Option Halt
halt_of_did (Made s lines) = None
halt_of_did Same = None
halt_of_did (Halted halt) = Some halt

-- how a run that stands at this state has halted, if it has
abbrev pub halt_of : PlainBoard → State → Option Halt
halt_of b s = halt_of_did (happens b s (Event.Step 0))

-- the events of a journal
abbrev pub events_of : List Entry → List Event
events_of journal = map (λ e. e.event) journal

-- each entry is what its event made at a journal that isn't over yet; `done` is what came before
abbrev pub IsRunIn : (List Entry → Bool) → PlainBoard → List Entry → State → List Entry → State → Type 0
IsRunIn over b done old [] new = new ≡ old
IsRunIn over b done old (e ∷ journal) new = (mid : State) × (over done ≡ false) × IsMade b old e mid × IsRunIn over b (done ++ e ∷ []) mid journal new

-- the journal is a run from the opening that leaves the state. No journal from which an entry or the halting step was made is over:
-- no shorter beginning, nor the whole one where a step of core 0 finds its state halted otherwise than at the last tick
pub record IsWithin (over : List Entry → Bool) (b : PlainBoard) (journal : List Entry) (s : State) : Type 0 where
  pub is_run : IsRunIn over b [] (open_state b) journal s
  pub last : (halt : Halt) → s.halt ≡ None → halt_of b s ≡ Some halt → over journal ≡ false

-- and it has halted so, at this tick
pub record IsCompleteIn (over : List Entry → Bool) (b : PlainBoard) (journal : List Entry) (halt : Halt) (tick : ℕ) : Type 0 where
  pub state : State
  pub within : IsWithin over b journal state
  pub halted : halt_of b state ≡ Some halt
  pub at : shown b state.moment ≡ tick

-- the journal is a run within the board's limits, which leaves the state
abbrev pub IsRunWithin : PlainBoard → List Entry → State → Type 0
IsRunWithin b journal s = IsWithin (is_over b) b journal s

-- the journal is a run within the board's limits that has halted so, at this tick
abbrev pub IsComplete : PlainBoard → List Entry → Halt → ℕ → Type 0
IsComplete b journal halt tick = IsCompleteIn (is_over b) b journal halt tick

-- a machine that its journal led to where it stands, and whose halt is what a step of core 0 answers there
pub record IsReached (b : PlainBoard) (c : Course) : Type 0 where
  pub run : IsRun b (open_state b) c.journal c.state
  pub halted : (halt : Halt) → c.halt ≡ Some halt → halt_of b c.state ≡ Some halt
  pub live : c.halt ≡ None → c.state.halt ≡ None
