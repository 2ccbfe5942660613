-- What follows where the tables have woken a thread.
use Rattle.std.specs.Prelude.{ℕ}
use Rattle.rt_base.specs.declared.codes.Code.{Code}
use Rattle.rt_plain.specs.declared.line.Line.{Line}
use Rattle.rt_plain.specs.declared.line.Woke.{Woke}
use Rattle.rt_plain.specs.kernel.State.{State, OfThread}
use Rattle.rt_plain.specs.kernel.Effects.{Effect, line_effect, name_of, without_alarm}

-- the thread has no armed row
abbrev pub followed : State → ℕ → State
followed s t = without_alarm s (OfThread t)

-- and its line is shown
abbrev pub follow_effect : Code → ℕ → State → Effect
follow_effect code t s = line_effect (followed s t) (Line.Wake (name_of s t) (Woke.Code code))
