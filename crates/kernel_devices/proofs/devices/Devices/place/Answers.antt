use Rattle.std.proofs.Common.{◌≡◌, ℕ, List, Option, Some, None, MatchOption, sym, ap, ◌∙◌}
use Rattle.std.specs.List.{position_from}
use Rattle.std.specs.Str.{bytes_eq}
use Rattle.rt_plain.specs.kernel.State.{Device}
use Rattle.kernel_devices.specs.Deviced.{DevicesSeen, found_device, IsDevice}
use Rattle.kernel_devices.proofs.DeviceLemmas.{found-at, found-none}
use Rattle.kernel_devices.proofs.devices.Devices.place.Goals as goal

by-place : (devices : List Device) (name : List ℕ) (o : Option ℕ) → position_from (λ (d : Device). bytes_eq d.name name) 0 devices ≡ o → MatchOption o (found_device devices name ≡ None) (IsDevice devices name)
by-place devices name None is = found-none devices name 0 is
by-place devices name (Some place) is = found-at devices name place is

pub returns : goal.returns
returns c =
    by-place c.args.self.now.devices c.args.name.now c.position.result (sym (
    c.position.ensures.found
    ∙ ap (λ (n : List ℕ). position_from (λ (d : Device). bytes_eq d.name n) 0 c.deref.result.now) c.bytes.ensures.bytes
    ∙ ap (position_from (λ (d : Device). bytes_eq d.name c.args.name.now) 0) (c.deref.ensures.value ∙ ap (λ (s : DevicesSeen). s.devices) c.self.view_is)
    ))
