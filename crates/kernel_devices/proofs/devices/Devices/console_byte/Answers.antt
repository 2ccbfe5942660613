use Rattle.std.proofs.Common.{ℕ, List, refl, reverse, subst}
use Rattle.rt_plain.specs.kernel.Shell.{console_name}
use Rattle.kernel_devices.specs.Acts.{always, device_after_read}
use Rattle.kernel_devices.specs.Deviced.{IsDevice}
use Rattle.kernel_devices.proofs.DeviceLemmas.{after-kept, after-seen}
use Rattle.kernel_devices.proofs.devices.Devices.console_byte.Goals as goal

pub invariant_of-self : goal.invariant_of-self
invariant_of-self c = after-kept c.args.self.now c.self.inside.devices.items (reverse c.self.inside.left.items) console_name c.in_ok-place.place always (device_after_read 1) c.index_mut.result.now c.take_byte.new.self c.self.view_is c.self.invariant (subst (λ (n : List ℕ). IsDevice c.args.self.now.devices n c.in_ok-place.place) c.console_name.ensures c.in_ok-place.ensures) c.index_mut.ensures.value c.take_byte.ensures.device (λ d. refl)

pub returns-clause-devices : goal.returns-clause-devices
returns-clause-devices c = after-seen c.args.self.now c.self.inside.devices.items (reverse c.self.inside.left.items) console_name c.in_ok-place.place always (device_after_read 1) c.index_mut.result.now c.take_byte.new.self c.self.view_is c.self.invariant (subst (λ (n : List ℕ). IsDevice c.args.self.now.devices n c.in_ok-place.place) c.console_name.ensures c.in_ok-place.ensures) c.index_mut.ensures.value c.take_byte.ensures.device (λ d. refl)
