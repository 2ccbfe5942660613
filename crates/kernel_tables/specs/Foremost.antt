-- The first of those that wait for a block of a memory pool.
use Rattle.std.specs.Prelude.{ℕ, ◌-◌, Bool, List, [], ◌∷◌, Option, Some, None, length, if◌then◌else◌}
use Rattle.std.specs.List.{filter_map, range_with_len}
use Rattle.rt_base.specs.declared.codes.WaitOrder.{WaitOrder}
use Rattle.rt_plain.specs.declared.stmt.Call.{Call}
use Rattle.rt_plain.specs.kernel.State.{Thread}
use Rattle.rt_plain.specs.kernel.Waiting.{Waiter, stands_before}

-- the one that stands before the other, if there is another
abbrev pub foremost : WaitOrder → Waiter → Option Waiter → Waiter
foremost order one None = one
foremost order one (Some other) = if stands_before order one other then one else other

-- the same where there may be neither
abbrev pub nearer : WaitOrder → Option Waiter → Option Waiter → Option Waiter
nearer order None other = other
nearer order (Some one) other = Some (foremost order one other)
