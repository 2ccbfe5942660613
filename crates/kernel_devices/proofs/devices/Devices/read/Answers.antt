use Rattle.std.proofs.Common.{refl, reverse}
use Rattle.rt_plain.specs.kernel.DeviceCalls.{is_open}
use Rattle.kernel_devices.specs.Acts.{device_after_read}
use Rattle.kernel_devices.proofs.DeviceLemmas.{after-kept, after-seen}
use Rattle.kernel_devices.proofs.devices.Devices.read.Goals as goal

pub invariant_of-self : goal.invariant_of-self
invariant_of-self c = after-kept c.args.self.now c.self.inside.devices.items (reverse c.self.inside.left.items) c.args.name.now c.in_ok-place.place is_open (device_after_read c.args.count) c.index_mut.result.now c.read.new.self c.self.view_is c.self.invariant c.in_ok-place.ensures c.index_mut.ensures.value c.read.ensures.device (λ d. refl)

pub returns-clause-devices : goal.returns-clause-devices
returns-clause-devices c = after-seen c.args.self.now c.self.inside.devices.items (reverse c.self.inside.left.items) c.args.name.now c.in_ok-place.place is_open (device_after_read c.args.count) c.index_mut.result.now c.read.new.self c.self.view_is c.self.invariant c.in_ok-place.ensures c.index_mut.ensures.value c.read.ensures.device (λ d. refl)
