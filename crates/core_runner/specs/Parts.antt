-- What a line of a trace says by itself: that a run ends, or a cut.
use Rattle.std.specs.Prelude.{◌≡◌, ℕ, ◌+◌, ◌<◌, Bool, true, false, List, ◌∷◌, Option, Some, None, length, take, drop, get_or, count_by, bytes_eq, ◌==◌, if◌then◌else◌}
use Rattle.rt_base.specs.declared.codes.Event.{Event}
use Rattle.rt_base.specs.declared.codes.Halt.{Halt}
use Rattle.rt_plain.specs.declared.entry.Cut.{Cut}
use Rattle.rt_plain.specs.PlainBoard.{PlainBoard}
use Rattle.rt_plain.specs.runs.Runs.{is_event_of}
use Rattle.rt_plain.specs.runs.Live.{owner}
use Rattle.rt_plain.specs.text.TraceRows.{Counted, Ended, row_text, whole_lines_of}

-- how many events are of a core
abbrev pub owned_by : ℕ → List Event → ℕ
owned_by core events = count_by (λ event. owner event == core) events

-- the line is that of a cut with these counts, behind so many entries
pub record IsCutLine (line : List ℕ) (at : ℕ) (counts : List ℕ) (cut : Cut) : Type 0 where
  pub line_is : line ≡ row_text (Counted counts)
  pub at_is : cut.at ≡ at
  pub counts_are : cut.counts.items ≡ counts

-- the cut of the line, where it is such a one
abbrev pub SaysCut : List ℕ → ℕ → List ℕ → Option Cut → Type 0
SaysCut line at counts None = bytes_eq line (row_text (Counted counts)) ≡ false
SaysCut line at counts (Some cut) = IsCutLine line at counts cut

-- the line is the end line of some halt at this tick, or of none
abbrev pub SaysEnd : List ℕ → ℕ → Bool → Type 0
SaysEnd line tick true = (halt : Halt) × (line ≡ row_text (Ended halt tick))
SaysEnd line tick false = (halt : Halt) → bytes_eq line (row_text (Ended halt tick)) ≡ false

-- a newline ends the first line of these bytes at this place
pub record IsLine (rest : List ℕ) (i : ℕ) : Type 0 where
  pub there : i < length rest
  pub newline : get_or rest i 0 ≡ 10
  pub lines : whole_lines_of rest ≡ take i rest ∷ whole_lines_of (drop (i + 1) rest)

-- the event, where it is one of the board
abbrev pub event_on : PlainBoard → Option Event → Option Event
event_on b None = None
event_on b (Some event) = if is_event_of b event then Some event else None
