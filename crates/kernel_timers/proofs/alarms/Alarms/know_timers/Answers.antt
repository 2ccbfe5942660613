use Rattle.std.proofs.Common.{◌+◌, ◌<◌, length, map, refl, subst}
use Rattle.rt_plain.specs.kernel.Opening.{new_timer}
use Rattle.kernel_timers.specs.Alarmed.{AlarmsSeen, timer_at, IsTimer}
use Rattle.kernel_timers.proofs.AlarmLemmas.{timer-is}
use Rattle.kernel_timers.proofs.TimerLemmas.{own}
use Rattle.kernel_timers.proofs.alarms.Alarms.know_timers.Goals as goal

pub returns-clause-own : goal.returns-clause-own
returns-clause-own c o there =
    subst (λ (s : AlarmsSeen). o < length s.timers → IsTimer s.timers (timer_at s.timers o).name o) c.self.view_is (own (map new_timer c.self.inside.timers.items) o c.self.invariant.apart) there

pub returns-clause-numbered : goal.returns-clause-numbered
returns-clause-numbered c o there = timer-is c.args.self.now.timers o (256 + o) refl
