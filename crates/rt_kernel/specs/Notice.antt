-- Whom an arrival wakes, by what came of it.
use Rattle.std.specs.Prelude.{◌≡◌, [], ◌∷◌, Option, Some, None, if◌then◌else◌}
use Rattle.rt_plain.specs.kernel.DeviceCalls.{console_waiter, indication_effect}
use Rattle.rt_plain.specs.kernel.Effects.{Effect, effect_for, retry_wake_effect}
use Rattle.rt_plain.specs.kernel.State.{State, Arriving}
use Rattle.kernel_devices.specs.declared.device.Arrived.{Arrived}
use Rattle.kernel_devices.specs.Deviced.{arrivals_at}

-- who waits for the console, or a waiter of the semaphore that the device names
abbrev pub notice_by : Arrived → State → Effect
notice_by arrived s = if arrived.console then effect_for retry_wake_effect (console_waiter s) s else indication_effect arrived.ind s

-- the first of what arrives at this moment is taken, and nothing changes where nothing does
abbrev pub TakesArrival : State → State → Option Arriving → Type 0
TakesArrival old new None = (arrivals_at old.moment old.arrivals ≡ []) × (new ≡ old)
TakesArrival old new (Some a) = (a.moment ≡ old.moment) × (old ≡ record new { arrivals = a ∷ new.arrivals })
