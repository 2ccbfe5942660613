-- What contracts see of a machine.
use Rattle.std.specs.Prelude.{ℕ, Option, Some, None, length, is_some, not, ◌||◌, if◌then◌else◌, nat_lt}
use Rattle.rt_base.specs.declared.codes.Event.{Event}
use Rattle.rt_plain.specs.PlainBoard.{PlainBoard}
use Rattle.rt_plain.specs.runs.Runs.{Course, is_over, line_count}

-- the board, what has happened, and how many lines fit besides
pub record MachineSeen : Type 0 where
  pub board : PlainBoard
  pub course : Course
  pub spare : ℕ

-- the lines that fit, none where no entry does
abbrev pub spare_of : ℕ → ℕ → ℕ
spare_of entries lines = if nat_lt 0 entries then lines else 0

-- the tick that an entry shows: that before a step, and that after a tick
abbrev pub picked_tick : Event → ℕ → ℕ → ℕ
picked_tick (Event.Step core) before now = before
picked_tick Event.Tick before now = now

-- the numbers of a machine that hasn't halted and meets a limit
abbrev pub limit_of : PlainBoard → Course → Option (ℕ × ℕ)
limit_of b c = if is_some c.halt || not (is_over b c.journal) then None else Some (length c.journal, line_count c.journal)
