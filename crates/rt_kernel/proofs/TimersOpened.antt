-- The timers that start as a board opens.
use Rattle.std.proofs.Common.{◌≡◌, ◌∷◌, [], List, Some, Bool, true, false, refl}
use Rattle.std.specs.Prelude.{fold, if◌then◌else◌}
use Rattle.rt_plain.specs.declared.board.TimerDef.{TimerDef}
use Rattle.rt_plain.specs.kernel.State.{State, OfTimer}
use Rattle.rt_plain.specs.kernel.Effects.{with_alarm}
use Rattle.rt_plain.specs.kernel.Opening.{with_auto_timer}
use Rattle.kernel_timers.specs.Arming.{Started, with_started}

-- only what is armed, and the next number, change
pub auto_started : (defs : List TimerDef) (s : State) → fold with_auto_timer s defs ≡ (let r : Started = fold with_started (record { rows = s.armed; numbers = s.numbers }) defs in record s { armed = r.rows; numbers = r.numbers })
auto_started [] s = refl
auto_started (def ∷ defs) s = by_test def.started (auto_started defs) where
  armed : State
  armed = with_alarm s (OfTimer def.name) (Some def.time)

  first : Started
  first = record { rows = s.armed; numbers = s.numbers }

  by_test : (c : Bool) → ((u : State) → fold with_auto_timer u defs ≡ (let r : Started = fold with_started (record { rows = u.armed; numbers = u.numbers }) defs in record u { armed = r.rows; numbers = r.numbers })) → fold with_auto_timer (if c then armed else s) defs ≡ (let r : Started = fold with_started (if c then record { rows = armed.armed; numbers = armed.numbers } else first) defs in record s { armed = r.rows; numbers = r.numbers })
  by_test true rest = rest armed
  by_test false rest = rest s
