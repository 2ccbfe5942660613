use Rattle.std.proofs.Common.{◌≡◌, ◌∷◌, ◌≤◌, ◌+◌, length, map, take}
use Rattle.std.specs.Prelude.{vec_len, vec_capacity}
use Rattle.rt_plain.specs.kernel.Opening.{new_console, new_device}
use Rattle.kernel_devices.proofs.open.devices_of.Given as goal

-- room for the rest, and the console with the devices so far
abbrev pub invariant-loop-def : goal.invariant-loop-def
invariant-loop-def l = record { made : l.devices.items ≡ new_console ∷ map new_device (take l.def-index l.defs); len : vec_len l.devices ≡ 1 + l.def-index; room : 1 + length l.defs ≤ vec_capacity l.devices }
