-- The row that fires next is taken.
use Rattle.std.specs.Prelude.{Option, Some, None}
use Rattle.rt_plain.specs.kernel.State.{State, Alarm}
use Rattle.rt_plain.specs.kernel.Effects.{without_alarm}

-- the state without the rows of an alarm, if there is one
abbrev pub taken : State → Option Alarm → State
taken s None = s
taken s (Some alarm) = without_alarm s alarm
