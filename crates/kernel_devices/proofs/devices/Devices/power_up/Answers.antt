use Rattle.std.proofs.Common.{◌≡◌, ◌<◌, ◌≤◌, ◌++◌, List, length, map, ap, ◌∙◌, arith}
use Rattle.rt_plain.specs.declared.line.Line.{Line}
use Rattle.rt_plain.specs.kernel.State.{Device}
use Rattle.kernel_devices.specs.Deviced.{DevicesSeen, device_at}
use Rattle.kernel_devices.proofs.DeviceLemmas.{at-default}
use Rattle.kernel_devices.proofs.PowerLemmas.{shown-room, shown-more, shown-all, resumed-in-order}
use Rattle.kernel_devices.proofs.devices.Devices.power_up.Goals as goal

pub show_resumed-requires : goal.show_resumed-requires
show_resumed-requires c =
    let ds = c.args.self.now.devices in
    let same : length c.deref-device-items.result.now ≡ length ds = ap length c.deref-device-items.ensures.value ∙ ap (λ (s : DevicesSeen). length s.devices) c.self.view_is in
    let there : c.loop-device.device-index < length ds = omega (arith, c.loop-device-test.true, same) in
    shown-room (λ d. Line.Resume d.name) ds c.args.out.now.items c.loop-device.out.items c.args.out.now.room c.loop-device.out.room c.loop-device.device-index c.loop-device.invariant there c.requires

pub loop-device-preserved : goal.loop-device-preserved
loop-device-preserved c =
    let ds = c.args.self.now.devices in
    let all : c.deref-device-items.result.now ≡ ds = c.deref-device-items.ensures.value ∙ ap (λ (s : DevicesSeen). s.devices) c.self.view_is in
    let there : c.loop-device.device-index < length ds = omega (arith, c.loop-device-test.true, ap length all) in
    let is : c.device-item.result ≡ device_at ds c.loop-device.device-index =
    c.device-item.is
    ∙ at-default c.deref-device-items.result.now c.loop-device.device-index c.device-item.result c.loop-device-test.true
    ∙ ap (λ (l : List Device). device_at l c.loop-device.device-index) all in
    shown-more (λ d. Line.Resume d.name) ds c.device-item.result c.args.out.now.items c.loop-device.out.items c.show_resumed.new.out.items c.args.out.now.room c.loop-device.out.room c.show_resumed.new.out.room c.loop-device.device-index c.loop-device.invariant there is c.show_resumed.ensures.lines c.show_resumed.ensures.room

pub returns-clause-lines : goal.returns-clause-lines
returns-clause-lines c =
    let ds = c.args.self.now.devices in
    let same : length c.deref-device-items.result.now ≡ length ds = ap length c.deref-device-items.ensures.value ∙ ap (λ (s : DevicesSeen). length s.devices) c.self.view_is in
    let all : length ds ≤ c.loop-device.device-index = omega (arith, c.loop-device-test.false, same) in
    shown-all (λ d. Line.Resume d.name) ds c.args.out.now.items c.loop-device.out.items c.args.out.now.room c.loop-device.out.room c.loop-device.device-index c.loop-device.invariant all
    ∙ ap (λ (l : List Device). c.args.out.now.items ++ map (λ d. Line.Resume d.name) l) (resumed-in-order ds)
