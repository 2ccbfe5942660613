-- How many rows fire in an event, and how many reads they may need.
use Rattle.std.specs.Prelude.{ℕ, zero, suc, ◌+◌, ◌-◌, ◌*◌, ◌&&◌, ◌==◌, Bool, true, List, [], ◌∷◌, length}
use Rattle.rt_base.specs.declared.codes.Event.{Event}
use Rattle.rt_plain.specs.PlainBoard.{PlainBoard}
use Rattle.rt_plain.specs.kernel.Due.{due, fired_row_effect}
use Rattle.rt_plain.specs.kernel.Sleeps.{sleep_length}
use Rattle.rt_plain.specs.kernel.State.{State, Alarm, ArmedRow}
use Rattle.rt_plain.specs.kernel.Steps.{is_all_idle}
use Rattle.rt_plain.specs.kernel.Ticks.{next_tick_state}
use Rattle.rt_plain.specs.kernel.Weight.{fired_bound}

-- how many of the rows fire that are due one after the other, at most so many
abbrev pub fired_rows : PlainBoard → ℕ → List (ArmedRow Alarm) → State → ℕ
fired_rows b zero rows s = 0
fired_rows b (suc n) [] s = 0
fired_rows b (suc n) (row ∷ rows) s = let next = (fired_row_effect b row s).state in 1 + fired_rows b n (due next) next

-- how many fire at the moment of a state
abbrev pub rows_now : PlainBoard → State → ℕ
rows_now b s = fired_rows b (length (due s)) (due s) s

-- how many fire in a tick
abbrev pub tick_rows : PlainBoard → State → ℕ
tick_rows b s = rows_now b (next_tick_state s)

-- how many fire in a tick, or in the last tick of a sleep that a step begins
abbrev pub event_rows : PlainBoard → State → Event → ℕ
event_rows b s Event.Tick = tick_rows b s
event_rows b s (Event.Step core) = tick_rows b (record s { moment = s.moment + (sleep_length b s - 1) })

-- how many reads a row needs at most: one to look it up, and those of the owners and waiters that its firing concerns
abbrev pub row_cost : PlainBoard → ℕ
row_cost b = fired_bound (length b.threads) b.limits.mutex + 1

-- a tick, or a step of the first core where no core runs a thread and none is ready: a sleep of any length is one
abbrev pub is_brief : State → Event → Bool
is_brief s Event.Tick = true
is_brief s (Event.Step core) = (core == 0) && is_all_idle s
