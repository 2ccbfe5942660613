use Rattle.rt_plain.specs.declared.line.Line.{Line}
use Rattle.kernel_devices.proofs.PowerLemmas.{Shown}
use Rattle.kernel_devices.proofs.devices.Devices.power_up.Given as goal

-- what is shown so far
abbrev pub invariant-loop-device : goal.invariant-loop-device
invariant-loop-device l = Shown (λ d. Line.Resume d.name) l.self.devices l.fn.out.items l.out.items l.fn.out.room l.out.room l.device-index
