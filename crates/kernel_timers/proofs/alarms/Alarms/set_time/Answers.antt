use Rattle.std.proofs.Common.{◌<◌, length, map, refl, ap, ◌∙◌, arith}
use Rattle.rt_plain.specs.kernel.Opening.{new_timer}
use Rattle.kernel_timers.specs.Alarmed.{AlarmsSeen, timer_at}
use Rattle.kernel_timers.specs.Alarmed.{put_timer}
use Rattle.kernel_timers.proofs.AlarmLemmas.{written-time, timed-kept, timed-seen}
use Rattle.kernel_timers.proofs.alarms.Alarms.set_time.Goals as goal

pub invariant_of-self : goal.invariant_of-self
invariant_of-self c =
    let ts = map new_timer c.self.inside.timers.items in
    let there : c.args.o < length ts = omega (arith, c.requires.there, ap (λ (s : AlarmsSeen). length s.timers) c.self.view_is) in
    timed-kept c.self.inside.moment ts _ c.args.o (record (timer_at ts c.args.o) { time = c.args.time }) c.self.inside.rows (written-time c.self.inside.timers.items c.o.inside.0 c.args.o c.index_mut.result.now c.args.time c.o.view_is there c.index_mut.ensures.value) refl (c.requires.some, c.requires.near) c.self.invariant

pub returns : goal.returns
returns c =
    let ts = map new_timer c.self.inside.timers.items in
    let there : c.args.o < length ts = omega (arith, c.requires.there, ap (λ (s : AlarmsSeen). length s.timers) c.self.view_is) in
    timed-seen c.self.inside.moment ts _ c.args.o (record (timer_at ts c.args.o) { time = c.args.time }) c.self.inside.rows (written-time c.self.inside.timers.items c.o.inside.0 c.args.o c.index_mut.result.now c.args.time c.o.view_is there c.index_mut.ensures.value) refl there c.self.invariant
    ∙ ap (λ (s : AlarmsSeen). record s { timers = put_timer s.timers (record (timer_at s.timers c.args.o) { time = c.args.time }) }) c.self.view_is
