-- What armed rows are for contracts.
use Rattle.std.specs.Prelude.{ℕ, ◌+◌, ◌-◌, ◌%◌, ◌==◌, ◌≤◌, Bool, List, [], ◌∷◌, Option, All, IsTrue, filter, map, nat_lt, not, if◌then◌else◌}
use Rattle.std.specs.List.{find, list_any}
use Rattle.std.specs.Option.{option_map}

-- an armed row: the ticks that are left until it is due, its start number, and whose it is
pub record ArmedRow : Type 0 where
  pub left : ℕ
  pub number : ℕ
  pub timer : ℕ

-- the tick, below which number the timer numbers lie, and the armed rows in the order of their start numbers
pub record Armed : Type 0 where
  pub tick : ℕ
  pub count : ℕ
  pub rows : List ArmedRow

-- the tick so many ticks later, in 32 bits
abbrev pub tick_after : ℕ → ℕ → ℕ
tick_after tick n = (tick + n) % 4294967296

-- whether it is the row of a timer
abbrev pub is_row_of : ℕ → ArmedRow → Bool
is_row_of timer row = row.timer == timer

-- whether a timer is armed
abbrev pub is_armed : ℕ → List ArmedRow → Bool
is_armed timer rows = list_any (is_row_of timer) rows

-- the ticks that are left of a timer, if it is armed
abbrev pub left_of : ℕ → List ArmedRow → Option ℕ
left_of timer rows = option_map (λ r. r.left) (find (is_row_of timer) rows)

-- the tick at which a timer is due, if it is armed
abbrev pub due_of : ℕ → Armed → Option ℕ
due_of timer a = option_map (tick_after a.tick) (left_of timer a.rows)

-- the rows but for that of a timer
abbrev pub without : ℕ → List ArmedRow → List ArmedRow
without timer rows = filter (λ r. not (is_row_of timer r)) rows

-- the least number of ticks that are left of a row
pub record IsLeastLeft (left : ℕ) (rows : List ArmedRow) : Type 0 where
  pub one_has_it : IsTrue (list_any (λ row. row.left == left) rows)
  pub none_has_less : All (λ row. left ≤ row.left) rows

-- a row so many ticks later
abbrev pub row_after : ℕ → ArmedRow → ArmedRow
row_after n row = record row { left = row.left - n }

-- all of it so many ticks later
abbrev pub after_ticks : ℕ → Armed → Armed
after_ticks n a = record a { tick = tick_after a.tick n; rows = map (row_after n) a.rows }

-- the row put among others by start number
abbrev pub put_by_number : ArmedRow → List ArmedRow → List ArmedRow
put_by_number row [] = row ∷ []
put_by_number row (r ∷ rs) = if nat_lt row.number r.number then row ∷ r ∷ rs else r ∷ put_by_number row rs

-- the rows by start number
abbrev pub by_number : List ArmedRow → List ArmedRow
by_number [] = []
by_number (row ∷ rows) = put_by_number row (by_number rows)

-- the rows that are due, by start number
abbrev pub due_rows : List ArmedRow → List ArmedRow
due_rows rows = by_number (filter (λ row. row.left == 0) rows)
