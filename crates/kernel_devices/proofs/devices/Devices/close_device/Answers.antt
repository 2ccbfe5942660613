use Rattle.std.proofs.Common.{refl, reverse}
use Rattle.rt_plain.specs.kernel.DeviceCalls.{device_after_close, may_close}
use Rattle.kernel_devices.proofs.DeviceLemmas.{after-kept, after-seen}
use Rattle.kernel_devices.proofs.devices.Devices.close_device.Goals as goal

pub invariant_of-self : goal.invariant_of-self
invariant_of-self c = after-kept c.args.self.now c.self.inside.devices.items (reverse c.self.inside.left.items) c.args.name.now c.in_ok-place.place may_close device_after_close c.index_mut.result.now c.close.new.self c.self.view_is c.self.invariant c.in_ok-place.ensures c.index_mut.ensures.value c.close.ensures.device (λ d. refl)

pub returns-clause-devices : goal.returns-clause-devices
returns-clause-devices c = after-seen c.args.self.now c.self.inside.devices.items (reverse c.self.inside.left.items) c.args.name.now c.in_ok-place.place may_close device_after_close c.index_mut.result.now c.close.new.self c.self.view_is c.self.invariant c.in_ok-place.ensures c.index_mut.ensures.value c.close.ensures.device (λ d. refl)
