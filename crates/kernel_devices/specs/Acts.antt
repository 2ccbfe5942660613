-- What calls do to a device, and what they answer.
use Rattle.std.specs.Prelude.{ℕ, ◌+◌, Bool, true, false, not, ◌&&◌, List, [], ◌∷◌, ◌++◌, Option, Some, None, Result, Ok, Err, drop, length, min, take, if◌then◌else◌, ◌==◌}
use Rattle.rt_plain.specs.declared.line.Line.{Line}
use Rattle.rt_plain.specs.kernel.State.{Device}
use Rattle.rt_plain.specs.kernel.DeviceCalls.{is_open, is_sending, may_close, fitting_bytes, lost_count, ring_after}
use Rattle.object_box.specs.declared.fault.CountFull.{CountFull}
use Rattle.object_box.specs.declared.fault.NotOpen.{NotOpen}
use Rattle.object_box.specs.declared.fault.NoRate.{NoRate}
use Rattle.kernel_devices.specs.declared.device.Arrived.{Arrived}
use Rattle.kernel_devices.specs.declared.device.ReadBytes.{ReadBytes}
use Rattle.kernel_devices.specs.declared.device.Written.{Written}
use Rattle.kernel_devices.specs.Deviced.{put_device}

-- a device after a call, which changes it only where a test holds
abbrev pub acted : (Device → Bool) → (Device → Device) → Device → Device
acted may act device = if may device then act device else device

-- the devices after a call on one of them, where it is there
abbrev pub devices_after : (Device → Bool) → (Device → Device) → Option Device → List Device → List Device
devices_after may act None devices = devices
devices_after may act (Some device) devices = if may device then put_device devices (act device) else devices

-- a test that each device passes
abbrev pub always : Device → Bool
always device = true

-- bytes as a text, where there are some
abbrev pub text_of : List ℕ → Option (List ℕ)
text_of [] = None
text_of (byte ∷ bytes) = Some (byte ∷ bytes)

-- the first of some bytes, where there is one
abbrev pub first_byte : List ℕ → Option ℕ
first_byte [] = None
first_byte (byte ∷ bytes) = Some byte

-- whether a device may be opened once more
abbrev pub may_open : Device → Bool
may_open device = not (device.opened == 255)

-- a device that is opened once more
abbrev pub device_after_open : Device → Device
device_after_open device = record device { opened = device.opened + 1 }

-- what `open_device` answers
abbrev pub open_answer : Device → Result Unit CountFull
open_answer device = if may_open device then Ok tt else Err (record {})

-- what `close_device` answers
abbrev pub close_answer : Device → Result Unit NotOpen
close_answer device = if may_close device then Ok tt else Err (record {})

-- a device without the bytes that were read
abbrev pub device_after_read : ℕ → Device → Device
device_after_read count device = record device { rx = drop count device.rx }

-- what `read` answers
abbrev pub read_answer : ℕ → Device → Result ReadBytes NotOpen
read_answer count device = if is_open device then Ok (record { text = text_of (take count device.rx); count = min count (length device.rx) }) else Err (record {})

-- whether what is written to a device is kept by it: the console prints it
abbrev pub keeps_written : Device → Bool
keeps_written device = is_open device && not device.console

-- a device with more bytes to send
abbrev pub device_after_write : List ℕ → Device → Device
device_after_write text device = record device { tx = device.tx ++ fitting_bytes device text }

-- what is taken of a text: all by the console, and by any other device what fits
abbrev pub written : List ℕ → Device → Written
written text device = if device.console then record { count = length text; console = true } else record { count = length (fitting_bytes device text); console = false }

-- what `write` answers
abbrev pub write_answer : List ℕ → Device → Result Written NotOpen
write_answer text device = if is_open device then Ok (written text device) else Err (record {})

-- whether a device has a rate
abbrev pub has_rate : Device → Bool
has_rate device = not device.console

-- a device of another rate
abbrev pub device_after_rate : ℕ → Device → Device
device_after_rate rate device = record device { rate = rate }

-- what `set_rate` answers
abbrev pub rate_answer : Device → Result Unit NoRate
rate_answer device = if has_rate device then Ok tt else Err (record {})

-- a device after an arrival
abbrev pub device_after_arrival : List ℕ → Device → Device
device_after_arrival text device = record device { rx = ring_after device text }

-- what has come of an arrival
abbrev pub arrival_answer : List ℕ → Device → Arrived
arrival_answer text device = record { lost = lost_count device text; console = device.console; ind = device.ind }

-- a device without the bytes that it sends in a tick
abbrev pub device_after_sending : Device → Device
device_after_sending device = record device { tx = drop device.rate device.tx }

-- the bytes that a device sends in a tick, where there are some
abbrev pub sent_text : Device → Option (List ℕ)
sent_text device = if is_sending device then Some (take device.rate device.tx) else None

-- the line of what a device sends in a tick, where it sends something
abbrev pub sent_lines : Device → List Line
sent_lines device = if is_sending device then Line.Tx device.name (take device.rate device.tx) ∷ [] else []

-- the line of a device's suspension for a sleep, where it has power management
abbrev pub suspend_lines : Device → List Line
suspend_lines device = if device.pm then Line.Suspend device.name ∷ [] else []

-- the line of its resumption after the sleep
abbrev pub resume_lines : Device → List Line
resume_lines device = if device.pm then Line.Resume device.name ∷ [] else []
