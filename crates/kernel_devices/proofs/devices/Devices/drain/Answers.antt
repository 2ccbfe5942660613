use Rattle.std.proofs.Common.{◌<◌, ◌-◌, length, ap, arith}
use Rattle.kernel_devices.proofs.DrainLemmas.{sent-room, sent-more}
use Rattle.kernel_devices.proofs.devices.Devices.drain.Goals as goal

pub send_at-requires-clause-room : goal.send_at-requires-clause-room
send_at-requires-clause-room c =
    let i = c.loop-done.invariant in
    let within : c.loop-done.done < length c.args.self.now.devices = omega (arith, c.loop-done-test.true, i.count) in
    sent-room c.args.self.now c.loop-done.self c.args.out.now.items c.loop-done.out.items c.args.out.now.room c.loop-done.out.room c.loop-done.done i.sent within c.requires

pub loop-done-preserved : goal.loop-done-preserved
loop-done-preserved c =
    let i = c.loop-done.invariant in
    let within : c.loop-done.done < length c.args.self.now.devices = omega (arith, c.loop-done-test.true, i.count) in
    record {
      sent = sent-more c.args.self.now c.loop-done.self c.send_at.new.self c.args.out.now.items c.loop-done.out.items c.send_at.new.out.items c.args.out.now.room c.loop-done.out.room c.send_at.new.out.room c.loop-done.done (c.len-count.result - 1 - c.loop-done.done) i.sent within (ap (λ n. n - 1 - c.loop-done.done) i.count) c.send_at.ensures.devices c.send_at.ensures.lines c.send_at.ensures.room;
      count = i.count;
    }
