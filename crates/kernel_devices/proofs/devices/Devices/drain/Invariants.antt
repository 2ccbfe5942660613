use Rattle.std.proofs.Common.{◌≡◌, length}
use Rattle.kernel_devices.proofs.DrainLemmas.{Sent}
use Rattle.kernel_devices.proofs.devices.Devices.drain.Given as goal

-- what the devices have sent so far
abbrev pub invariant-loop-done : goal.invariant-loop-done
invariant-loop-done l = record { sent : Sent l.fn.self l.self l.fn.out.items l.out.items l.fn.out.room l.out.room l.done; count : l.count ≡ length l.fn.self.devices }
