use Rattle.std.proofs.Common.{map, ap, ◌∙◌, arith}
use Rattle.rt_plain.specs.kernel.Opening.{new_timer}
use Rattle.rt_plain.specs.kernel.State.{OfThread}
use Rattle.kernel_timers.specs.Alarmed.{AlarmsSeen, without}
use Rattle.kernel_timers.proofs.AlarmLemmas.{thread-is, stopped-kept, stopped-seen}
use Rattle.kernel_timers.proofs.alarms.Alarms.disarm_wait.Goals as goal

pub invariant_of-self : goal.invariant_of-self
invariant_of-self c = stopped-kept c.self.inside.moment (map new_timer c.self.inside.timers.items) c.self.inside.rows c.stop.new.self c.thread_no.result c.stop.ensures.rows c.self.invariant

pub returns : goal.returns
returns c =
    let ts = map new_timer c.self.inside.timers.items in
    stopped-seen c.self.inside.moment ts c.self.inside.rows c.stop.new.self c.thread_no.result (OfThread c.args.t) c.stop.ensures.rows c.self.invariant (omega (arith, c.thread_no.ensures, c.requires)) (thread-is ts c.args.t c.thread_no.result c.thread_no.ensures c.requires)
    ∙ ap (λ (s : AlarmsSeen). record s { rows = without (OfThread c.args.t) s.rows }) c.self.view_is
