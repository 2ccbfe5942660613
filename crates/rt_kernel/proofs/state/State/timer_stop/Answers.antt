use Rattle.std.proofs.Common.{◌∙◌, sym, ap, refl, arith}
use Rattle.std.proofs.lemmas.List.{append-nil}
use Rattle.kernel_timers.specs.Alarmed.{AlarmsSeen}
use Rattle.rt_kernel.specs.View.{state_of}
use Rattle.rt_kernel.proofs.DoesLemmas.{does_by}
use Rattle.rt_kernel.proofs.TimerCallLemmas.{stop_refused, stop_done}
use Rattle.rt_kernel.proofs.state.State.timer_stop.Goals as goal

pub returns-then-not-disarm_timer : goal.returns-then-not-disarm_timer
returns-then-not-disarm_timer c =
    let is = stop_refused c.args.self.now c.disarm_timer.new.self c.args.name.now c.in-Some.o c.in-Some.ensures (sym c.disarm_timer.ensures.armed ∙ c.if-not-disarm_timer.true) c.disarm_timer.ensures.rows in
    does_by is.1 (record { state = ap (λ (a : AlarmsSeen). state_of (record c.args.self.now { armed = a })) is.0; lines = sym (append-nil c.args.out.now.items); answer = refl; limits = refl; threads = refl; numbers = omega arith; few = omega arith; out_room = refl })

pub returns : goal.returns
returns c =
    does_by (stop_done c.args.self.now c.disarm_timer.new.self c.args.name.now c.in-Some.o c.in-Some.ensures (sym c.disarm_timer.ensures.armed ∙ c.if-not-disarm_timer.false) c.disarm_timer.ensures.rows)
    (record { state = refl; lines = sym (append-nil c.args.out.now.items); answer = refl; limits = refl; threads = refl; numbers = omega arith; few = omega arith; out_room = refl })
