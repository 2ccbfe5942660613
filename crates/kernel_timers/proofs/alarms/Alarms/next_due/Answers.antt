use Rattle.std.proofs.Common.{map, subst}
use Rattle.rt_plain.specs.kernel.Opening.{new_timer}
use Rattle.kernel_timers.specs.Alarmed.{AlarmsSeen, IsNextDue}
use Rattle.kernel_timers.proofs.AlarmLemmas.{next-due}
use Rattle.kernel_timers.proofs.alarms.Alarms.next_due.Goals as goal

pub returns : goal.returns
returns c = subst (λ (s : AlarmsSeen). IsNextDue s c.next_due.result) c.self.view_is (next-due c.self.inside.moment (map new_timer c.self.inside.timers.items) c.self.inside.rows c.next_due.result c.next_due.ensures.least)
