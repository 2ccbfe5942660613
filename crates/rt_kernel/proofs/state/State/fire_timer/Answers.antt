use Rattle.std.proofs.Common.{List, ap}
use Rattle.rt_plain.specs.kernel.State.{Timer}
use Rattle.kernel_timers.specs.Alarmed.{timer_at}
use Rattle.rt_kernel.proofs.TimerFireLemmas.{fires_then}
use Rattle.rt_kernel.proofs.state.State.fire_timer.Goals as goal

pub returns-clause-acts : goal.returns-clause-acts
returns-clause-acts g c =
    fires_then c.args.board.now c.args.o c.args.self.now c.arm_period.new.self c.act_as_timer.new.self c.args.out.now c.act_as_timer.new.out (timer_at c.args.self.now.armed.timers c.args.o) c.requires.may c.requires.sized
    (ap (λ (ts : List Timer). timer_at ts c.args.o) c.arm_period.ensures.timers) c.arm_period.ensures.state c.arm_period.ensures.tables c.act_as_timer.ensures.acts
