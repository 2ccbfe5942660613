use Rattle.std.proofs.Common.{◌≡◌, length, map, ap, ◌∙◌, arith}
use Rattle.rt_plain.specs.kernel.Opening.{new_timer}
use Rattle.rt_plain.specs.kernel.State.{OfTimer}
use Rattle.kernel_timers.specs.Alarmed.{AlarmsSeen, timer_at, is_armed, without}
use Rattle.kernel_timers.proofs.AlarmLemmas.{timer-is, stopped-kept, stopped-seen, stopped-armed}
use Rattle.kernel_timers.proofs.alarms.Alarms.disarm_timer.Goals as goal

pub invariant_of-self : goal.invariant_of-self
invariant_of-self c = stopped-kept c.self.inside.moment (map new_timer c.self.inside.timers.items) c.self.inside.rows c.stop.new.self c.timer_no.result c.stop.ensures.rows c.self.invariant

pub returns-clause-armed : goal.returns-clause-armed
returns-clause-armed c =
    let ts = map new_timer c.self.inside.timers.items in
    let same : ts ≡ c.args.self.now.timers = ap (λ (s : AlarmsSeen). s.timers) c.self.view_is in
    c.stop.ensures.armed
    ∙ stopped-armed c.self.inside.moment ts c.self.inside.rows c.timer_no.result (OfTimer (timer_at ts c.args.o).name) c.self.invariant (omega (arith, c.timer_no.ensures, c.requires, ap length same)) (timer-is ts c.args.o c.timer_no.result c.timer_no.ensures)
    ∙ ap (λ (s : AlarmsSeen). is_armed (OfTimer (timer_at s.timers c.args.o).name) s.rows) c.self.view_is

pub returns-clause-rows : goal.returns-clause-rows
returns-clause-rows c =
    let ts = map new_timer c.self.inside.timers.items in
    let same : ts ≡ c.args.self.now.timers = ap (λ (s : AlarmsSeen). s.timers) c.self.view_is in
    stopped-seen c.self.inside.moment ts c.self.inside.rows c.stop.new.self c.timer_no.result (OfTimer (timer_at ts c.args.o).name) c.stop.ensures.rows c.self.invariant (omega (arith, c.timer_no.ensures, c.requires, ap length same)) (timer-is ts c.args.o c.timer_no.result c.timer_no.ensures)
    ∙ ap (λ (s : AlarmsSeen). record s { rows = without (OfTimer (timer_at s.timers c.args.o).name) s.rows }) c.self.view_is
