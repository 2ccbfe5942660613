-- Rows in the order in which they fire.
use Rattle.std.specs.Prelude.{ℕ, ◌≡◌, ◌≢◌, ◌+◌, ◌-◌, ◌%◌, ◌<◌, ◌≤◌, ◌==◌, Bool, ◌&&◌, ◌||◌, List, [], ◌∷◌, nat_lt, if◌then◌else◌}
use Rattle.std.specs.List.{AllByRecursion}
use Rattle.timer_skip.specs.Armed.{ArmedRow, is_row_of}
use Rattle.timer_skip.specs.declared.row.Row.{Row}

-- what contracts see of a row at a tick: the due tick's difference from it, in 32 bits, is what is left
abbrev pub armed_row : ℕ → Row → ArmedRow
armed_row tick row = record { left = (row.due + (4294967296 - tick)) % 4294967296; number = row.at; timer = row.no }

-- whether one row fires before another
abbrev pub sooner : ArmedRow → ArmedRow → Bool
sooner a b = nat_lt a.left b.left || (a.left == b.left && nat_lt a.number b.number)

-- of two timers' rows the one fires before the other
pub record FiresBefore (a b : ArmedRow) : Type 0 where
  pub sooner : a.left ≤ b.left
  pub started_first : a.left ≡ b.left → a.number < b.number
  pub other_start : a.number ≢ b.number
  pub other_timer : a.timer ≢ b.timer

-- each row fires before those behind it
abbrev pub IsInOrder : List ArmedRow → Type 0
IsInOrder [] = Unit {0}
IsInOrder (row ∷ rows) = AllByRecursion (FiresBefore row) rows × IsInOrder rows

-- rows of timers below a number, each due within half the tick's range, in the order in which they fire
pub record IsLine (count : ℕ) (rows : List ArmedRow) : Type 0 where
  pub in_order : IsInOrder rows
  pub below : AllByRecursion (λ (r : ArmedRow). r.timer < count) rows
  pub near : AllByRecursion (λ (r : ArmedRow). r.left ≤ 2147483647) rows

-- a row put before those of which more is left
abbrev pub put_row : ArmedRow → List ArmedRow → List ArmedRow
put_row row [] = row ∷ []
put_row row (r ∷ rs) = if nat_lt row.left r.left then row ∷ r ∷ rs else r ∷ put_row row rs

-- the rows but for the first one of a timer
abbrev pub take_out : ℕ → List ArmedRow → List ArmedRow
take_out timer [] = []
take_out timer (r ∷ rs) = if is_row_of timer r then rs else r ∷ take_out timer rs

-- a row that is started anew after another, of another timer
pub record IsAnew (row other : ArmedRow) : Type 0 where
  pub later : other.number < row.number
  pub other_timer : other.timer ≢ row.timer
