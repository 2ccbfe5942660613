-- What contracts see of the devices and of what is still to arrive.
use Rattle.std.specs.Prelude.{ℕ, ◌≡◌, ◌≢◌, ◌<◌, ◌≤◌, false, List, [], ◌∷◌, Option, Some, None, AllPairs, filter, length, map, reverse, slice_index_or, if◌then◌else◌, ◌==◌}
use Rattle.std.specs.List.{find}
use Rattle.std.specs.Str.{bytes_eq}
use Rattle.rt_plain.specs.declared.board.Arrival.{Arrival}
use Rattle.rt_plain.specs.PlainBoard.{PlainBoard}
use Rattle.rt_plain.specs.kernel.State.{Device, Arriving}
use Rattle.rt_plain.specs.kernel.LpClock.{moment_after_counts}
use Rattle.rt_plain.specs.kernel.Opening.{new_console, new_device, new_arriving}

-- the devices, the one registered last first, and what is still to arrive, in board order
pub record DevicesSeen : Type 0 where
  pub devices : List Device
  pub arrivals : List Arriving

-- what stands where there is no device
abbrev pub no_device : Device
no_device = record { name = []; console = false; opened = 0; rate = 0; rx_size = 0; rx = []; tx_size = 0; tx = []; pm = false; ind = None }

-- the device at a place
abbrev pub device_at : List Device → ℕ → Device
device_at devices place = slice_index_or devices place no_device

-- the device of a name
abbrev pub found_device : List Device → List ℕ → Option Device
found_device devices name = find (λ o. bytes_eq o.name name) devices

-- with another row for the device of its name
abbrev pub put_device : List Device → Device → List Device
put_device devices device = map (λ o. if bytes_eq o.name device.name then device else o) devices

-- a device of this name stands at the place
pub record IsDevice (devices : List Device) (name : List ℕ) (place : ℕ) : Type 0 where
  pub there : place < length devices
  pub named : (device_at devices place).name ≡ name
  pub found : found_device devices name ≡ Some (device_at devices place)

-- their names
abbrev pub names_of : List Device → List (List ℕ)
names_of devices = map (λ o. o.name) devices

-- what arrives at a moment
abbrev pub arrivals_at : ℕ → List Arriving → List Arriving
arrivals_at moment arrivals = filter (λ a. a.moment == moment) arrivals

-- no arrival comes before one in front of it
abbrev pub IsInOrder : List Arriving → Type 0
IsInOrder arrivals = AllPairs (λ one other. one.moment ≤ other.moment) arrivals

-- the moment of the first of some arrivals
abbrev pub next_moment : List Arriving → Option ℕ
next_moment [] = None
next_moment (arrival ∷ arrivals) = Some arrival.moment

-- what always holds: at most 16 devices, no two of one name, and the arrivals in the order of their moments
pub record IsDeviced (devices : List Device) (arrivals : List Arriving) : Type 0 where
  pub few : length devices ≤ 16
  pub apart : AllPairs (λ one other. one ≢ other) (names_of devices)
  pub in_order : IsInOrder arrivals

-- what is to arrive, by a clock of h counts in q ticks
abbrev pub arriving : ℕ → ℕ → Arrival → Arriving
arriving h q a = record { moment = moment_after_counts h q a.count; device = a.device; text = a.text }

-- the devices of a board as it opens, and all that is to arrive
abbrev pub opened : PlainBoard → DevicesSeen
opened b = record { devices = reverse (new_console ∷ map new_device b.devices); arrivals = map (new_arriving b) b.arrivals }
