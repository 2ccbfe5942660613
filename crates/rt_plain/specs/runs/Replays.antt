-- Which traces are those of a halted run, and how far any other agrees with one.
use Rattle.std.specs.Prelude.{◌≡◌, ℕ, zero, suc, ◌≤◌, Bool, true, List, [], ◌∷◌, ◌++◌, Option, Some, None, length, take, count_by, if◌then◌else◌, ◌==◌}
use Rattle.rt_plain.specs.declared.entry.Entry.{Entry}
use Rattle.rt_plain.specs.declared.entry.Cut.{Cut}
use Rattle.rt_plain.specs.PlainBoard.{PlainBoard}
use Rattle.rt_plain.specs.kernel.State.{State}
use Rattle.rt_plain.specs.runs.Runs.{IsRunWithin, IsComplete, events_of}
use Rattle.rt_plain.specs.text.Texts.{End, trace_text}
use Rattle.rt_plain.specs.runs.Live.{owner_counts}

-- the `cut` line has the numbers of the entries above it
pub record CountsEntries (b : PlainBoard) (journal : List Entry) (cut : Cut) : Type 0 where
  pub at : cut.at ≤ length journal
  pub counts : cut.counts.items ≡ owner_counts b.cores (events_of (take cut.at journal))

-- the `cut` line of a trace, where it has one
abbrev pub IsCutOf : PlainBoard → List Entry → Option Cut → Type 0
IsCutOf b journal None = Unit {0}
IsCutOf b journal (Some cut) = CountsEntries b journal cut

-- the end line is that of the run, where there is one
abbrev pub IsEndOf : PlainBoard → List Entry → Option End → Type 0
IsEndOf b journal None = Unit {0}
IsEndOf b journal (Some e) = IsComplete b journal e.halt e.tick

-- the text is that of a halted run within the limits
pub record IsGood (b : PlainBoard) (text : List ℕ) : Type 0 where
  pub journal : List Entry
  pub cut : Option Cut
  pub end : End
  pub cut_is : IsCutOf b journal cut
  pub complete : IsComplete b journal end.halt end.tick
  pub text_is : text ≡ trace_text journal cut (Some end)

-- how many whole lines a text has
abbrev pub whole_lines : List ℕ → ℕ
whole_lines text = count_by (λ byte. byte == 10) text

-- whether nothing follows the last newline of a text
abbrev pub is_whole : List ℕ → Bool
is_whole [] = true
is_whole (byte ∷ []) = byte == 10
is_whole (byte ∷ next ∷ bytes) = is_whole (next ∷ bytes)

-- the first n lines of a text
abbrev pub first_lines : ℕ → List ℕ → List ℕ
first_lines zero text = []
first_lines (suc n) [] = []
first_lines (suc n) (byte ∷ bytes) = byte ∷ first_lines (if byte == 10 then n else suc n) bytes

-- its first n whole lines begin the text of a run within the limits
pub record AgreesFor (b : PlainBoard) (text : List ℕ) (n : ℕ) : Type 0 where
  pub whole : n ≤ whole_lines text
  pub journal : List Entry
  pub state : State
  pub is_run : IsRunWithin b journal state
  pub cut : Option Cut
  pub cut_is : IsCutOf b journal cut
  pub end : Option End
  pub end_is : IsEndOf b journal end
  pub rest : List ℕ
  pub begins : first_lines n text ++ rest ≡ trace_text journal cut end

-- the greatest number of whole lines that do
pub record IsAgreement (b : PlainBoard) (text : List ℕ) (n : ℕ) : Type 0 where
  pub agrees : AgreesFor b text n
  pub greatest : (m : ℕ) → AgreesFor b text m → m ≤ n
