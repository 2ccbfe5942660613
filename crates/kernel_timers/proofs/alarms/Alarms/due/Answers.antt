use Rattle.std.proofs.Common.{◌<◌, length, map, ap, ◌∙◌, arith}
use Rattle.rt_plain.specs.kernel.Opening.{new_timer}
use Rattle.rt_plain.specs.kernel.State.{OfTimer}
use Rattle.kernel_timers.specs.Alarmed.{AlarmsSeen, timer_at}
use Rattle.std.proofs.Common.{◌%◌}
use Rattle.std.specs.Option.{option_map}
use Rattle.kernel_timers.specs.Alarmed.{due_of}
use Rattle.kernel_timers.proofs.AlarmLemmas.{timer-is, due-is-at}
use Rattle.kernel_timers.proofs.alarms.Alarms.due.Goals as goal

pub returns : goal.returns
returns c =
    let ts = map new_timer c.self.inside.timers.items in
    let there : c.args.o < length ts = omega (arith, c.requires, ap (λ (s : AlarmsSeen). length s.timers) c.self.view_is) in
    c.due.ensures.due
    ∙ due-is-at c.self.inside.moment ts c.self.inside.rows c.timer_no.result (OfTimer (timer_at ts c.args.o).name) c.self.invariant (omega (arith, c.timer_no.ensures, there)) (timer-is ts c.args.o c.timer_no.result c.timer_no.ensures)
    ∙ ap (λ (s : AlarmsSeen). option_map (λ d. d % 4294967296) (due_of (OfTimer (timer_at s.timers c.args.o).name) s.rows)) c.self.view_is
