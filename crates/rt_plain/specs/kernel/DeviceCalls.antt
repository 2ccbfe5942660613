-- The calls on devices, what arrives at them and what they send.
use Rattle.std.specs.Prelude.{ℕ, ◌+◌, ◌-◌, Bool, true, false, List, [], ◌++◌, Option, Some, None, map, reverse, length, take, drop, min, nat_lt, if◌then◌else◌, ◌==◌}
use Rattle.std.specs.List.{find, list_any}
use Rattle.std.specs.Str.{bytes_eq}
use Rattle.rt_base.specs.declared.codes.Code.{Code}
use Rattle.rt_plain.specs.declared.line.Line.{Line}
use Rattle.rt_plain.specs.kernel.State.{State, Device, Arriving, Stage, Waiting, AtConsole, thread_at, thread_numbers}
use Rattle.rt_plain.specs.kernel.SemCalls.{sem_release}
use Rattle.rt_plain.specs.kernel.Effects.{Effect, no_effect, line_effect, and_then, effect_for, retry_wake_effect}
use Rattle.rt_plain.specs.kernel.Outcome.{By, Outcome, refusal, success, silent_success, with_value, with_text, found_outcome}

-- the device of a name
abbrev pub find_device : State → List ℕ → Option Device
find_device s name = find (λ o. bytes_eq o.name name) s.devices

-- the state with another row for a device
abbrev pub with_device : State → Device → State
with_device s device = record s { devices = map (λ o. if bytes_eq o.name device.name then device else o) s.devices }

-- whether a device is open
abbrev pub is_open : Device → Bool
is_open device = nat_lt 0 device.opened

-- a device is busy while it has bytes to send
abbrev pub is_sending : Device → Bool
is_sending device = nat_lt 0 (length device.tx)

-- whether some device has bytes to send
abbrev pub is_busy : State → Bool
is_busy s = list_any is_sending s.devices

-- the devices in the order in which they were registered
abbrev pub registered_devices : State → List Device
registered_devices s = reverse s.devices

-- dev_open: one more opening
abbrev pub dev_open : List ℕ → State → Outcome
dev_open name s = found_outcome (find_device s name) (refusal s Code.Inval) (λ device. if device.opened == 255 then refusal s Code.Full else silent_success (with_device s (record device { opened = device.opened + 1 })))

-- whether a device may be closed once more: it is open, and the console more than once
abbrev pub may_close : Device → Bool
may_close device = nat_lt (if device.console then 1 else 0) device.opened

-- a device that is opened once less; the last closing empties the receive ring
abbrev pub device_after_close : Device → Device
device_after_close device = record device { opened = device.opened - 1; rx = if device.opened == 1 then [] else device.rx }

-- dev_close: one opening less, where that is allowed
abbrev pub dev_close : List ℕ → State → Outcome
dev_close name s = found_outcome (find_device s name) (refusal s Code.Inval) (λ device. if may_close device then silent_success (with_device s (device_after_close device)) else refusal s Code.Error)

-- the first bytes of the receive ring are the last text, and their number the last value
abbrev pub state_after_read : Device → ℕ → State → By → State
state_after_read device count s by = with_value (with_text (with_device s (record device { rx = drop count device.rx })) by (take count device.rx)) by (min count (length device.rx))

-- dev_read: from an open device
abbrev pub dev_read : List ℕ → ℕ → State → By → Outcome
dev_read name count s by = found_outcome (find_device s name) (refusal s Code.Inval) (λ device. if is_open device then silent_success (state_after_read device count s by) else refusal s Code.Error)

-- the front part of these bytes that a ring of a size has room for
abbrev pub fitting_front : ℕ → List ℕ → List ℕ → List ℕ
fitting_front size held bytes = take (size - length held) bytes

-- the front part that fits into a device's transmit ring
abbrev pub fitting_bytes : Device → List ℕ → List ℕ
fitting_bytes device text = fitting_front device.tx_size device.tx text

-- the console prints all, any other device keeps what fits, and the value is the number of bytes taken
abbrev pub write_effect : Device → List ℕ → State → By → Effect
write_effect device text s by =
    if device.console then line_effect (with_value s by (length text)) (Line.Print text)
    else no_effect (with_value (with_device s (record device { tx = device.tx ++ fitting_bytes device text })) by (length (fitting_bytes device text)))

-- dev_write: to an open device
abbrev pub dev_write : List ℕ → List ℕ → State → By → Outcome
dev_write name text s by = found_outcome (find_device s name) (refusal s Code.Inval) (λ device. if is_open device then success (write_effect device text s by) else refusal s Code.Error)

-- dev_ctl: another rate, but for the console
abbrev pub dev_ctl : List ℕ → ℕ → State → Outcome
dev_ctl name rate s = found_outcome (find_device s name) (refusal s Code.Inval) (λ device. if device.console then refusal s Code.NoSys else silent_success (with_device s (record device { rate = rate })))

-- how many of the oldest bytes leave a ring of a size when more come
abbrev pub pushed_out_count : ℕ → List ℕ → List ℕ → ℕ
pushed_out_count size held bytes = length held + length bytes - size

-- the last bytes, which a ring of a size keeps
abbrev pub kept_bytes : ℕ → List ℕ → List ℕ → List ℕ
kept_bytes size held bytes = drop (pushed_out_count size held bytes) (held ++ bytes)

-- how many bytes an arrival loses: those pushed out of the ring of an open device, and all at a closed one
abbrev pub lost_count : Device → List ℕ → ℕ
lost_count device text = if is_open device then pushed_out_count device.rx_size device.rx text else length text

-- the receive ring after an arrival
abbrev pub ring_after : Device → List ℕ → List ℕ
ring_after device text = if is_open device then kept_bytes device.rx_size device.rx text else device.rx

-- whether a thread at this stage waits for the console
abbrev pub waits_at_console : Stage → Bool
waits_at_console (Waiting AtConsole number) = true
waits_at_console _ = false

-- the thread that waits for the console, if one does
abbrev pub console_waiter : State → Option ℕ
console_waiter s = find (λ t. waits_at_console (thread_at s t).stage) (thread_numbers s)

-- the indication semaphore of a device is released, where it names one that exists
abbrev pub indication_effect : Option (List ℕ) → State → Effect
indication_effect None s = no_effect s
indication_effect (Some sem) s = (sem_release sem s).effect

-- whom an arrival wakes: who waits for the console, or a waiter of the indication semaphore
abbrev pub notice_effect : Device → State → Effect
notice_effect device s = if device.console then effect_for retry_wake_effect (console_waiter s) s else indication_effect device.ind s

-- an arrival at a device: its line, and whom it wakes
abbrev pub arrival_effect_at : Option Device → List ℕ → State → Effect
arrival_effect_at None text s = no_effect s
arrival_effect_at (Some device) text s = and_then (line_effect (with_device s (record device { rx = ring_after device text })) (Line.Rx device.name text (lost_count device text))) (notice_effect device)

-- an arrival at the device that it names
abbrev pub arrival_effect : Arriving → State → Effect
arrival_effect arrival s = arrival_effect_at (find_device s arrival.device) arrival.text s

-- a device sends as many bytes as its rate allows
abbrev pub sent : Device → State → Effect
sent device s = if is_sending device then line_effect (with_device s (record device { tx = drop device.rate device.tx })) (Line.Tx device.name (take device.rate device.tx)) else no_effect s
