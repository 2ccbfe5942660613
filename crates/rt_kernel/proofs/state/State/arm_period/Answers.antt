use Rattle.std.proofs.Common.{◌+◌, ◌<◌, All, List, ap, subst, sym, arith}
use Rattle.rt_plain.specs.kernel.State.{State, Alarm, ArmedRow, OfTimer}
use Rattle.kernel_timers.specs.Alarmed.{timer_at}
use Rattle.rt_kernel.proofs.TimerFireLemmas.{latest_armed}
use Rattle.rt_kernel.proofs.state.State.arm_period.Goals as goal

pub returns-in-Periodic-clause-latest : goal.returns-in-Periodic-clause-latest
returns-in-Periodic-clause-latest c =
    let old = c.args.self.now in
    let row : ArmedRow Alarm = record { due = old.armed.moment + (timer_at old.armed.timers c.args.o).time; number = old.numbers; alarm = OfTimer (timer_at old.armed.timers c.args.o).name } in
    subst (λ n. All (λ (r : ArmedRow Alarm). r.number < n) c.arm_timer.new.self.armed.rows) (sym c.arm_timer.ensures.numbers)
    (subst (λ (rows : List (ArmedRow Alarm)). All (λ (r : ArmedRow Alarm). r.number < old.numbers + 1) rows) (sym (ap (λ (s : State). s.armed) c.arm_timer.ensures.state)) (latest_armed old.numbers row.alarm row old.armed.rows (omega arith) c.requires.latest))
