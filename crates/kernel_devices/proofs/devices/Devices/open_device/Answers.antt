use Rattle.std.proofs.Common.{refl, reverse}
use Rattle.kernel_devices.specs.Acts.{device_after_open, may_open}
use Rattle.kernel_devices.proofs.DeviceLemmas.{after-kept, after-seen}
use Rattle.kernel_devices.proofs.devices.Devices.open_device.Goals as goal

pub invariant_of-self : goal.invariant_of-self
invariant_of-self c = after-kept c.args.self.now c.self.inside.devices.items (reverse c.self.inside.left.items) c.args.name.now c.in_ok-place.place may_open device_after_open c.index_mut.result.now c.open.new.self c.self.view_is c.self.invariant c.in_ok-place.ensures c.index_mut.ensures.value c.open.ensures.device (λ d. refl)

pub returns-clause-devices : goal.returns-clause-devices
returns-clause-devices c = after-seen c.args.self.now c.self.inside.devices.items (reverse c.self.inside.left.items) c.args.name.now c.in_ok-place.place may_open device_after_open c.index_mut.result.now c.open.new.self c.self.view_is c.self.invariant c.in_ok-place.ensures c.index_mut.ensures.value c.open.ensures.device (λ d. refl)
