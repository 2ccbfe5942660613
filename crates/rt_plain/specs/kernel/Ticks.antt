-- One tick.
use Rattle.std.specs.Prelude.{ℕ, ◌+◌, ◌-◌, true, not, List, Option, Some, None, filter, length, fold, if◌then◌else◌, ◌==◌}
use Rattle.rt_base.specs.declared.codes.Halt.{Halt}
use Rattle.rt_plain.specs.PlainBoard.{PlainBoard}
use Rattle.rt_plain.specs.kernel.State.{State, Thread, Arriving, thread_at, with_thread}
use Rattle.rt_plain.specs.kernel.Effects.{Effect, no_effect, and_then, each_effect}
use Rattle.rt_plain.specs.kernel.DeviceCalls.{registered_devices, arrival_effect, sent}
use Rattle.rt_plain.specs.kernel.Due.{due, due_rows_effect}

-- one tick less of the slice. A slice that is used up begins anew, and the thread gets the mark "yield"
abbrev pub thread_after_slice : Thread → Thread
thread_after_slice row = if row.left - 1 == 0 then record row { left = row.slice; marked = true } else record row { left = row.left - 1 }

-- a running thread's slice falls
abbrev pub with_slice_used : State → Option ℕ → State
with_slice_used s None = s
with_slice_used s (Some t) = with_thread s t (thread_after_slice (thread_at s t))

-- the next moment, and the slices of all running threads
abbrev pub next_tick_state : State → State
next_tick_state s = let next = record s { moment = s.moment + 1 } in fold with_slice_used next next.running

-- all rows that are due fire
abbrev pub alarms_effect : PlainBoard → State → Effect
alarms_effect b s = due_rows_effect b (length (due s)) (due s) s

-- what arrives at this moment, in board order
abbrev pub arrivals_now : State → List Arriving
arrivals_now s = filter (λ a. a.moment == s.moment) s.arrivals

-- what arrives now is delivered, in board order
abbrev pub deliveries : State → Effect
deliveries s = each_effect arrival_effect (arrivals_now s) (record s { arrivals = filter (λ a. not (a.moment == s.moment)) s.arrivals })

-- what the devices send, in the order of registration
abbrev pub transmissions : State → Effect
transmissions s = each_effect sent (registered_devices s) s

-- the machine halts at the board's last moment
abbrev pub with_until_halt : PlainBoard → State → State
with_until_halt b s = if s.moment == b.until then record s { halt = Some Halt.Until } else s

-- a tick of a machine that hasn't halted and whose lock over all cores is free
abbrev pub tick_effect : PlainBoard → State → Effect
tick_effect b s = and_then (and_then (and_then (alarms_effect b (next_tick_state s)) deliveries) transmissions) (λ r. no_effect (with_until_halt b r))
