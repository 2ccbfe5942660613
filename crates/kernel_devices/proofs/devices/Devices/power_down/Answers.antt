use Rattle.std.proofs.Common.{◌≡◌, ◌+◌, ◌-◌, ◌<◌, ◌≤◌, length, reverse, ap, ◌∙◌, arith}
use Rattle.std.proofs.lemmas.List.{length-reverse}
use Rattle.rt_plain.specs.declared.line.Line.{Line}
use Rattle.kernel_devices.specs.Deviced.{DevicesSeen, device_at}
use Rattle.kernel_devices.proofs.DeviceLemmas.{at-default}
use Rattle.kernel_devices.proofs.PowerLemmas.{shown-room, shown-more, shown-all, registered-at}
use Rattle.kernel_devices.proofs.devices.Devices.power_down.Goals as goal

pub show_suspended-requires : goal.show_suspended-requires
show_suspended-requires c =
    let ds = c.args.self.now.devices in
    let i = c.loop-done.invariant in
    let there : c.loop-done.done < length (reverse ds) = omega (arith, c.loop-done-test.true, i.count, length-reverse ds) in
    let enough : length c.args.out.now.items + length (reverse ds) ≤ c.args.out.now.room = omega (arith, c.requires, length-reverse ds) in
    shown-room (λ d. Line.Suspend d.name) (reverse ds) c.args.out.now.items c.loop-done.out.items c.args.out.now.room c.loop-done.out.room c.loop-done.done i.shown there enough

pub loop-done-preserved : goal.loop-done-preserved
loop-done-preserved c =
    let ds = c.args.self.now.devices in
    let i = c.loop-done.invariant in
    let items = c.self.inside.devices.items in
    let done = c.loop-done.done in
    let same : length items ≡ length ds = ap (λ (s : DevicesSeen). length s.devices) c.self.view_is in
    let here : done < length ds = omega (arith, c.loop-done-test.true, i.count) in
    let there : done < length (reverse ds) = omega (arith, here, length-reverse ds) in
    let place : c.len-count.result - 1 - done < length items = omega (arith, here, same, i.count) in
    let is : c.index.result.now ≡ device_at (reverse ds) done =
    c.index.ensures
    ∙ at-default items (c.len-count.result - 1 - done) c.index.result.now place
    ∙ ap (λ n. device_at items (n - 1 - done)) i.count
    ∙ ap (λ (s : DevicesSeen). device_at s.devices (length ds - 1 - done)) c.self.view_is
    ∙ registered-at ds done here in
    record {
      shown = shown-more (λ d. Line.Suspend d.name) (reverse ds) c.index.result.now c.args.out.now.items c.loop-done.out.items c.show_suspended.new.out.items c.args.out.now.room c.loop-done.out.room c.show_suspended.new.out.room done i.shown there is c.show_suspended.ensures.lines c.show_suspended.ensures.room;
      count = i.count;
    }

pub returns-clause-lines : goal.returns-clause-lines
returns-clause-lines c =
    let ds = c.args.self.now.devices in
    let i = c.loop-done.invariant in
    let all : length (reverse ds) ≤ c.loop-done.done = omega (arith, c.loop-done-test.false, i.count, length-reverse ds) in
    shown-all (λ d. Line.Suspend d.name) (reverse ds) c.args.out.now.items c.loop-done.out.items c.args.out.now.room c.loop-done.out.room c.loop-done.done i.shown all
