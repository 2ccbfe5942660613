use Rattle.std.proofs.Common.{◌≡◌, length, reverse}
use Rattle.rt_plain.specs.declared.line.Line.{Line}
use Rattle.kernel_devices.proofs.PowerLemmas.{Shown}
use Rattle.kernel_devices.proofs.devices.Devices.power_down.Given as goal

-- what is shown so far
abbrev pub invariant-loop-done : goal.invariant-loop-done
invariant-loop-done l = record { shown : Shown (λ d. Line.Suspend d.name) (reverse l.self.devices) l.fn.out.items l.out.items l.fn.out.room l.out.room l.done; count : l.count ≡ length l.self.devices }
