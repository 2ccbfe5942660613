-- What an event object, a receiver's want and the woken threads are for contracts.
use Rattle.std.specs.Prelude.{ℕ, List}
use Rattle.rt_plain.specs.kernel.EventCalls.{Want as PlainWant}
use Rattle.susp_list.specs.Rows.{Waits}
use Rattle.ipc_counts.specs.declared.want.Want.{Want}

-- the flags, who waits, and for each thread number what that thread wants, if it waits
pub record Flagged : Type 0 where
  pub flags : ℕ
  pub waiters : Waits
  pub wants : List Want

-- the woken threads, each with the flags that it got, and for how many there is room
pub record Woken : Type 0 where
  pub threads : ℕ
  pub woken : List (ℕ × ℕ)

-- a want as the statement table has it
abbrev pub plain_want : Want → PlainWant
plain_want w = record { mask = w.mask; all = w.all; clear = w.clear }
