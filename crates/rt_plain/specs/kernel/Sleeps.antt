-- What happens where no core runs a thread and none is ready: a halt, a sleep, or nothing.
use Rattle.std.specs.Prelude.{ℕ, zero, suc, ◌+◌, ◌-◌, Bool, true, false, ◌&&◌, ◌||◌, List, [], ◌∷◌, ◌++◌, Option, Some, None, map, filter, reverse, nat_le, if◌then◌else◌, ◌==◌}
use Rattle.rt_base.specs.declared.codes.Sleep.{Sleep}
use Rattle.rt_base.specs.declared.codes.Halt.{Halt}
use Rattle.rt_plain.specs.declared.line.Line.{Line}
use Rattle.rt_plain.specs.PlainBoard.{PlainBoard}
use Rattle.rt_plain.specs.kernel.State.{State, Device, is_among}
use Rattle.rt_plain.specs.kernel.Effects.{Effect, no_effect}
use Rattle.rt_plain.specs.kernel.DeviceCalls.{is_busy, registered_devices}
use Rattle.rt_plain.specs.kernel.PowerCalls.{sleep_mode}
use Rattle.rt_plain.specs.kernel.LpClock.{ticks_ahead}
use Rattle.rt_plain.specs.kernel.Shown.{shown}
use Rattle.rt_plain.specs.kernel.Ticks.{tick_effect}

-- an event makes an entry, changes nothing, or finds the machine halted
pub data Did : Type 0 where
  Made : State → List Line → Did
  Same : Did
  Halted : Halt → Did

-- the first number from n on that passes the test, or else the one `bound` further
abbrev pub first_from : (ℕ → Bool) → ℕ → ℕ → Bool → ℕ
first_from test zero n passes = n
first_from test (suc bound) n true = n
first_from test (suc bound) n false = first_from test bound (n + 1) (test (n + 1))

-- whether a sleep that begins now must end n ticks later: at one of these moments, or as the longest one
abbrev pub must_end : List ℕ → ℕ → ℕ → ℕ → Bool
must_end moments longest now n = is_among moments (now + n) || (n == longest)

-- the first n from 1 on at which it must end
abbrev pub length_to : List ℕ → ℕ → ℕ → ℕ
length_to moments longest now = first_from (must_end moments longest now) longest 1 (must_end moments longest now 1)

-- the moments that a sleep must not pass: a row is due, something arrives, the machine halts
abbrev pub moments_of : PlainBoard → State → List ℕ
moments_of b s = map (λ row. row.due) s.armed ++ map (λ a. a.moment) s.arrivals ++ b.until ∷ []

-- how many ticks ahead the first moment is that a sleep which begins now must not pass
abbrev pub wanted_length : PlainBoard → State → ℕ
wanted_length b s = length_to (moments_of b s) b.lpmax s.moment

-- the length of a sleep that begins now: by whole counts of the low-power clock, so that it doesn't end late
abbrev pub sleep_length : PlainBoard → State → ℕ
sleep_length b s = ticks_ahead b.lp_h b.lp_q s.moment (wanted_length b s)

-- so many ticks, one after the other
abbrev pub ticks : PlainBoard → ℕ → State → Effect
ticks b zero s = no_effect s
ticks b (suc n) s =
    let e = tick_effect b s in
    let f = ticks b n e.state in
    record { state = f.state; lines = e.lines ++ f.lines }

-- the devices with power management, in the order of registration
abbrev pub powered_devices : State → List Device
powered_devices s = filter (λ d. d.pm) (registered_devices s)

-- what a sleep shows: the devices suspended, all ticks but the last, the devices resumed in reverse order, and the last tick
abbrev pub sleep_effect : PlainBoard → State → Effect → Effect → Effect
sleep_effect b s rest last = record {
  state = last.state;
  lines = map (λ d. Line.Suspend d.name) (powered_devices s) ++ rest.lines ++ map (λ d. Line.Resume d.name) (reverse (powered_devices s)) ++ Line.Tick (shown b last.state.moment) ∷ last.lines;
}

-- a sleep of d ticks, as one event: d - 1 ticks by themselves, and the last one
abbrev pub sleep_did : PlainBoard → ℕ → State → Did
sleep_did b d s =
    let rest = ticks b (d - 1) s in
    let e = sleep_effect b s rest (tick_effect b rest.state) in
    Made e.state (Line.Sleep (sleep_mode b s) d ∷ e.lines)

-- the modes that end the run
abbrev pub final_halt : Sleep → Option Halt
final_halt Sleep.Standby = Some Halt.Standby
final_halt Sleep.Shutdown = Some Halt.Shutdown
final_halt _ = None

-- the modes in which ticks stop
abbrev pub stops_ticks : Sleep → Bool
stops_ticks Sleep.Light = true
stops_ticks Sleep.Deep = true
stops_ticks _ = false

-- whether a list has no items
abbrev pub is_empty : {A : Type 0} → List A → Bool
is_empty [] = true
is_empty (x ∷ xs) = false

-- whether nothing is armed and no arrival is left
abbrev pub nothing_comes : State → Bool
nothing_comes s = is_empty s.armed && is_empty s.arrivals

-- whether the board sleeps without ticks, in a mode that stops them, and for long enough
abbrev pub may_sleep : PlainBoard → State → Bool
may_sleep b s = b.tickless && (stops_ticks (sleep_mode b s) && nat_le b.thresh (sleep_length b s))

-- a sleep, or nothing
abbrev pub awake_rest_did : PlainBoard → State → Did
awake_rest_did b s = if may_sleep b s then sleep_did b (sleep_length b s) s else Same

-- a final mode halts the machine, and so does quiet
abbrev pub halting_rest_did : PlainBoard → Option Halt → State → Did
halting_rest_did b (Some halt) s = Halted halt
halting_rest_did b None s = if nothing_comes s then Halted Halt.Quiet else awake_rest_did b s

-- the sleep rule: a busy device keeps the machine awake
abbrev pub rest_did : PlainBoard → State → Did
rest_did b s = if is_busy s then Same else halting_rest_did b (final_halt (sleep_mode b s)) s
