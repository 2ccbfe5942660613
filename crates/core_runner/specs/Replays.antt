-- What a replay answers.
use Rattle.std.specs.Prelude.{◌≡◌, ℕ, ◌+◌, List, Option, Some}
use Rattle.rt_base.specs.declared.codes.Halt.{Halt}
use Rattle.rt_plain.specs.declared.entry.Cut.{Cut}
use Rattle.rt_plain.specs.PlainBoard.{PlainBoard}
use Rattle.rt_plain.specs.kernel.Shown.{shown}
use Rattle.rt_plain.specs.runs.Runs.{Course, IsComplete}
use Rattle.rt_plain.specs.runs.Replays.{IsCutOf, IsGood, IsAgreement}
use Rattle.rt_plain.specs.text.Texts.{trace_text}
use Rattle.core_runner.specs.declared.fault.ReplayFault.{ReplayFault}

-- the trace is the text of this halted run, which is complete within the board's limits, with this cut among its entries
pub record IsTraceOf (b : PlainBoard) (text : List ℕ) (course : Course) (cut : Option Cut) : Type 0 where
  pub halt : Halt
  pub halted : course.halt ≡ Some halt
  pub complete : IsComplete b course.journal halt (shown b course.state.moment)
  pub cut_is : IsCutOf b course.journal cut
  pub text_is : text ≡ trace_text course.journal cut (Some (record { halt = halt; tick = shown b course.state.moment }))

-- the trace is not that of a halted run, and the line behind those that agree with a run has this number
pub record IsUnlike (b : PlainBoard) (text : List ℕ) (line : ℕ) : Type 0 where
  pub bad : IsGood b text → ⊥
  pub agreeing : ℕ
  pub agreement : IsAgreement b text agreeing
  pub number : line ≡ agreeing + 1

-- a line is answered for its cause alone
abbrev pub TellsLine : PlainBoard → List ℕ → ReplayFault → Type 0
TellsLine b text (ReplayFault.Line line) = IsUnlike b text line
TellsLine b text ReplayFault.Later = Unit {0}
TellsLine b text ReplayFault.Memory = Unit {0}
