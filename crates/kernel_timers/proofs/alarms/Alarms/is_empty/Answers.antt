use Rattle.std.proofs.Common.{map, not, ap, ◌∙◌}
use Rattle.rt_plain.specs.kernel.Opening.{new_timer}
use Rattle.rt_plain.specs.kernel.Sleeps.{is_empty}
use Rattle.kernel_timers.specs.Alarmed.{AlarmsSeen}
use Rattle.kernel_timers.proofs.AlarmLemmas.{none-armed}
use Rattle.kernel_timers.proofs.alarms.Alarms.is_empty.Goals as goal

pub returns : goal.returns
returns c =
    ap not c.is_some.ensures
    ∙ none-armed c.self.inside.moment (map new_timer c.self.inside.timers.items) c.self.inside.rows c.next_due.result c.next_due.ensures.least
    ∙ ap (λ (s : AlarmsSeen). is_empty s.rows) c.self.view_is
