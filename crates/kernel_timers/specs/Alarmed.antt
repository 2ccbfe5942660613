-- What contracts see of the timers and of what is armed.
use Rattle.std.specs.Prelude.{ℕ, ◌≡◌, ◌≢◌, ◌+◌, ◌-◌, ◌%◌, ◌<◌, ◌≤◌, All, Bool, Contains, not, List, [], ◌∷◌, Option, Some, None, AllPairs, filter, length, map, nat_lt, slice_index_or, if◌then◌else◌}
use Rattle.std.specs.List.{AllByRecursion, find, list_any}
use Rattle.std.specs.Option.{option_map}
use Rattle.std.specs.Str.{bytes_eq}
use Rattle.rt_plain.specs.declared.board.TimerKind.{TimerKind}
use Rattle.rt_plain.specs.kernel.State.{Timer, ArmedRow, Alarm, OfThread, OfTimer}
use Rattle.rt_plain.specs.kernel.Effects.{is_alarm}
use Rattle.timer_skip.specs.Armed.{Armed, ArmedRow as SkipRow}

-- the moment, the timers by number, newest first, and the armed rows in the order of their start numbers
pub record AlarmsSeen : Type 0 where
  pub moment : ℕ
  pub timers : List Timer
  pub rows : List (ArmedRow Alarm)

-- what stands where there is no timer
abbrev pub no_timer : Timer
no_timer = record { name = []; kind = TimerKind.OneShot; time = 0; call = None }

-- the timer of a number
abbrev pub timer_at : List Timer → ℕ → Timer
timer_at timers o = slice_index_or timers o no_timer

-- the timer of a name
abbrev pub found_timer : List Timer → List ℕ → Option Timer
found_timer timers name = find (λ o. bytes_eq o.name name) timers

-- with another row for the timer of its name
abbrev pub put_timer : List Timer → Timer → List Timer
put_timer timers timer = map (λ o. if bytes_eq o.name timer.name then timer else o) timers

-- a timer of this number is there, and has this name
pub record IsTimer (timers : List Timer) (name : List ℕ) (o : ℕ) : Type 0 where
  pub there : o < length timers
  pub named : (timer_at timers o).name ≡ name
  pub found : found_timer timers name ≡ Some (timer_at timers o)

abbrev pub names_of : List Timer → List (List ℕ)
names_of timers = map (λ o. o.name) timers

-- whose a number is: below 256 that of a thread, and from there on that of a timer
abbrev pub alarm_of : List (List ℕ) → ℕ → Alarm
alarm_of names who = if nat_lt who 256 then OfThread who else OfTimer (slice_index_or names (who - 256) [])

-- the plain row
abbrev pub row_of : ℕ → List (List ℕ) → SkipRow → ArmedRow Alarm
row_of moment names row = record { due = moment + row.left; number = row.number; alarm = alarm_of names row.timer }

-- whether it is armed
abbrev pub is_armed : Alarm → List (ArmedRow Alarm) → Bool
is_armed alarm rows = list_any (λ r. is_alarm alarm r.alarm) rows

-- the moment at which it is due, if it is armed
abbrev pub due_of : Alarm → List (ArmedRow Alarm) → Option ℕ
due_of alarm rows = option_map (λ r. r.due) (find (λ r. is_alarm alarm r.alarm) rows)

-- the rows but for those of an alarm
abbrev pub without : Alarm → List (ArmedRow Alarm) → List (ArmedRow Alarm)
without alarm rows = filter (λ r. not (is_alarm alarm r.alarm)) rows

-- no row is due before so many ticks, and one is due then; or nothing is armed
abbrev pub IsNextDue : AlarmsSeen → Option ℕ → Type 0
IsNextDue a None = a.rows ≡ []
IsNextDue a (Some left) = Contains (map (λ row. row.due) a.rows) (a.moment + left) × All (λ row. a.moment + left ≤ row.due) a.rows

-- the alarm of the first of some rows
abbrev pub first_alarm : List (ArmedRow Alarm) → Option Alarm
first_alarm [] = None
first_alarm (row ∷ rows) = Some row.alarm

-- the time of a timer is one that it may have
abbrev pub IsTimed : Timer → Type 0
IsTimed timer = (1 ≤ timer.time) × (timer.time ≤ 2147483647)

-- what always holds: each row is that of a thread or of a timer that is there, and no two timers have one name
pub record IsAlarmed (moment : ℕ) (timers : List Timer) (armed : Armed) : Type 0 where
  pub few : length timers ≤ 256
  pub count : armed.count ≡ 256 + length timers
  pub tick : armed.tick ≡ moment % 4294967296
  pub below : AllByRecursion (λ (row : SkipRow). row.timer < 256 + length timers) armed.rows
  pub apart : AllPairs (λ one other. one ≢ other) (names_of timers)
  pub timed : AllByRecursion IsTimed timers
