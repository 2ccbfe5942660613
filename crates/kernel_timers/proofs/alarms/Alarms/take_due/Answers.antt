use Rattle.std.proofs.Common.{map, sym, ap, ◌∙◌}
use Rattle.rt_plain.specs.kernel.Opening.{new_timer}
use Rattle.kernel_timers.specs.Alarmed.{AlarmsSeen, alarm_of, names_of, first_alarm}
use Rattle.rt_plain.specs.kernel.Due.{due_rows_at}
use Rattle.std.specs.Option.{option_map}
use Rattle.kernel_timers.proofs.AlarmLemmas.{due-first, due-there, taken-kept, taken-seen}
use Rattle.kernel_timers.proofs.alarms.Alarms.take_due.Goals as goal

pub invariant_of-self : goal.invariant_of-self
invariant_of-self g c = taken-kept c.self.inside.moment (map new_timer c.self.inside.timers.items) c.self.inside.rows c.take_due.new.self c.take_due.result c.take_due.ensures.rows c.self.invariant

pub returns-clause-first : goal.returns-clause-first
returns-clause-first g c =
    sym (ap (λ (s : AlarmsSeen). first_alarm (due_rows_at s.moment s.rows)) c.self.view_is)
    ∙ due-first c.self.inside.moment (map new_timer c.self.inside.timers.items) c.self.inside.rows c.take_due.new.self c.take_due.result c.take_due.ensures.due
    ∙ ap (λ (s : AlarmsSeen). option_map (alarm_of (names_of s.timers)) c.take_due.result) c.self.view_is

pub returns-clause-rows : goal.returns-clause-rows
returns-clause-rows g c = taken-seen c.self.inside.moment (map new_timer c.self.inside.timers.items) c.self.inside.rows c.take_due.new.self c.take_due.result c.args.self.now c.take_due.ensures.due c.take_due.ensures.rows c.self.invariant c.self.view_is

pub returns-clause-there : goal.returns-clause-there
returns-clause-there g c = due-there c.self.inside.moment (map new_timer c.self.inside.timers.items) c.self.inside.rows c.take_due.new.self c.take_due.result c.args.self.now c.take_due.ensures.due c.self.invariant c.self.view_is
