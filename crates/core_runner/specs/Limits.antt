-- The limits of a run, and how it ends.
use Rattle.std.specs.Prelude.{◌≡◌, ℕ, Bool, true, List, Option, Some, None, length}
use Rattle.rt_base.specs.declared.codes.Halt.{Halt}
use Rattle.rt_plain.specs.declared.entry.Entry.{Entry}
use Rattle.rt_plain.specs.PlainBoard.{PlainBoard}
use Rattle.rt_plain.specs.kernel.Shown.{shown}
use Rattle.rt_plain.specs.runs.Runs.{Course, is_over, is_over_in, line_count, IsCompleteIn}
use Rattle.rt_plain.specs.runs.Schedules.{scheduled_course, turns, driven, begun, is_stopped}
use Rattle.kernel_step.specs.MachineSeen.{MachineSeen}
use Rattle.core_runner.specs.declared.place.Place.{Place}
use Rattle.core_runner.specs.Places.{stands}
use Rattle.core_runner.specs.declared.turns.Within.{Within}
use Rattle.core_runner.specs.declared.fault.RunFault.{RunFault}

-- the journal meets a limit: one of the board, or one of these
abbrev pub over_by : Option Within → PlainBoard → List Entry → Bool
over_by None b = is_over b
over_by (Some within) b = is_over_in within.entries within.lines b

-- what a machine did up to its halt is a complete run of its board: each entry is what its event made, within the limits
abbrev pub HasCompleted : (List Entry → Bool) → PlainBoard → Course → Type 0
HasCompleted over b c = (halt : Halt) → c.halt ≡ Some halt → IsCompleteIn over b c.journal halt (shown b c.state.moment)

-- the run of the board meets a limit before it halts, with these numbers of entries and lines
pub record IsLimited (over : List Entry → Bool) (b : PlainBoard) (entries lines : ℕ) : Type 0 where
  pub going : (scheduled_course over b).halt ≡ None
  pub over_is : over (scheduled_course over b).journal ≡ true
  pub entries_is : entries ≡ length (scheduled_course over b).journal
  pub lines_is : lines ≡ line_count (scheduled_course over b).journal

-- a limit is answered for its cause alone
abbrev pub MeetsLimit : (List Entry → Bool) → PlainBoard → RunFault → Type 0
MeetsLimit over b (RunFault.Limit entries lines) = IsLimited over b entries lines
MeetsLimit over b RunFault.Later = Unit {0}
MeetsLimit over b RunFault.Memory = Unit {0}

-- what is left of the run from here, in so many turns, makes the run of the board
pub record IsOnWay (over : List Entry → Bool) (b : PlainBoard) (m : MachineSeen) (place : Place) (left : ℕ) : Type 0 where
  pub board : m.board ≡ b
  pub rest : turns over b b.schedule left (is_stopped over m.course) (stands b m.course place) ≡ driven over b b.schedule (begun b)
