-- The wait lists of the mutexes, in which each waiter stands by the number that is stored for it.
use Rattle.std.specs.Prelude.{ℕ, min, List, length, map, Option, Some, None, slice_index, if◌then◌else◌, ◌==◌}
use Rattle.std.specs.List.{range_with_len}
use Rattle.std.specs.Option.{option_map}
use Rattle.rt_base.specs.declared.codes.WaitOrder.{WaitOrder}
use Rattle.rt_plain.specs.kernel.Ownership.{Ownership, MutexWait, wait_of}
use Rattle.susp_list.specs.declared.row.Row.{Row}
use Rattle.rt_plain.specs.kernel.Waiting.{first_of}
use Rattle.susp_list.specs.Rows.{Waits, waiters}

-- the row of a thread with this number in the list of a mutex, where it waits there
abbrev pub line_row : ℕ → ℕ → Option MutexWait → Option Row
line_row number mutex None = None
line_row number mutex (Some w) = if w.mutex == mutex then Some (record { prio = min number 255; at = w.number }) else None

-- the wait list of a mutex
abbrev pub line_of : Ownership → List ℕ → ℕ → Waits
line_of o numbers mutex = record { order = WaitOrder.Prio; rows = map (λ t. line_row (slice_index numbers t) mutex (wait_of o t)) (range_with_len 0 (length o.members)) }

-- the wait lists of all mutexes
unfoldable pub lines_of : Ownership → List ℕ → List Waits
lines_of o numbers = map (line_of o numbers) (range_with_len 0 (length o.ceilings))

-- the number of the first waiter of a mutex, where somebody waits
abbrev pub first_number : Ownership → List ℕ → ℕ → Option ℕ
first_number o numbers mutex = option_map (λ t. min (slice_index numbers t) 255) (first_of WaitOrder.Prio (waiters (line_of o numbers mutex)))
