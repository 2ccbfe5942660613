-- What arming, and the passing of time, need.
use Rattle.std.specs.Prelude.{ℕ, ◌≡◌, ◌≢◌, ◌+◌, ◌<◌, ◌≤◌, false, All, AllPairs, List, [], ◌∷◌, ◌++◌, fold, length, map, reverse, if◌then◌else◌}
use Rattle.rt_plain.specs.declared.board.TimerDef.{TimerDef}
use Rattle.rt_plain.specs.kernel.State.{ArmedRow, Alarm, OfThread, OfTimer}
use Rattle.rt_plain.specs.kernel.Opening.{new_timer}
use Rattle.kernel_timers.specs.Alarmed.{AlarmsSeen, is_armed}

-- the wait of a thread may be armed: the thread has no row, the due moment is ahead, and the number is above all others
pub record MayArm (seen : AlarmsSeen) (t due number : ℕ) : Type 0 where
  pub there : t < 256
  pub free : is_armed (OfThread t) seen.rows ≡ false
  pub ahead : seen.moment < due
  pub near : due ≤ seen.moment + 2147483647
  pub latest : All (λ row. row.number < number) seen.rows

-- the timers of a board may be opened
pub record MayOpen (defs : List TimerDef) : Type 0 where
  pub few : length defs ≤ 256
  pub apart : AllPairs (λ one other. one.name ≢ other.name) defs
  pub timed : All (λ def. (1 ≤ def.time) × (def.time ≤ 2147483647)) defs

-- the rows so far, and the next start number
pub record Started : Type 0 where
  pub rows : List (ArmedRow Alarm)
  pub numbers : ℕ

-- a timer that starts at opening is armed
abbrev pub with_started : Started → TimerDef → Started
with_started s def = if def.started then record { rows = s.rows ++ record { due = def.time; number = s.numbers; alarm = OfTimer def.name } ∷ []; numbers = s.numbers + 1 } else s

-- the timers of a board that start at opening, in board order
abbrev pub started : List TimerDef → Started
started defs = fold with_started (record { rows = []; numbers = 0 }) defs

-- the timers of a board with nothing armed
abbrev pub opened : List TimerDef → AlarmsSeen
opened defs = record { moment = 0; timers = reverse (map new_timer defs); rows = [] }
