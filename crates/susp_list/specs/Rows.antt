-- What a wait list is for contracts: its order, and for each thread number the row of that thread, if it waits.
use Rattle.std.specs.Prelude.{ℕ, Bool, true, false, List, length, Option, Some, None, slice_get}
use Rattle.std.specs.List.{filter_map, range_with_len}
use Rattle.rt_base.specs.declared.codes.WaitOrder.{WaitOrder}
use Rattle.rt_plain.specs.kernel.Waiting.{Waiter, threads_in_order}
use Rattle.susp_list.specs.declared.row.Row.{Row}

pub record Waits : Type 0 where
  pub order : WaitOrder
  pub rows : List (Option Row)

-- a thread with its row
abbrev pub waiter : ℕ → Row → Waiter
waiter t row = record { thread = t; prio = row.prio; number = row.at }

-- the waiter that a place of the table stands for
abbrev pub waiter_of : ℕ → Option (Option Row) → Option Waiter
waiter_of t (Some (Some row)) = Some (waiter t row)
waiter_of t _ = None

-- the waiters, by thread number
abbrev pub waiters : Waits → List Waiter
waiters w = filter_map (λ t. waiter_of t (slice_get w.rows t)) (range_with_len 0 (length w.rows))

-- the threads that wait, in the order of the list
abbrev pub line : Waits → List ℕ
line w = threads_in_order w.order (waiters w)

-- whether it is the row of a thread that waits
abbrev pub is_waiting : Option (Option Row) → Bool
is_waiting (Some (Some row)) = true
is_waiting _ = false

-- whether a thread waits
abbrev pub holds : Waits → ℕ → Bool
holds w t = is_waiting (slice_get w.rows t)

-- a row with another priority
abbrev pub with_prio : Option (Option Row) → ℕ → Option Row
with_prio (Some (Some row)) prio = Some (record row { prio = prio })
with_prio _ prio = None
