use Rattle.std.proofs.Common.{arith}
use Rattle.std.proofs.lemmas.Grind.{common_steps}
use Rattle.rt_plain.specs.declared.line.Line.{Line}
use Rattle.kernel_timers.specs.Alarmed.{timer_at}
use Rattle.rt_kernel.specs.View.{state_of}
use Rattle.rt_kernel.proofs.DoesLemmas.{does_by}
use Rattle.rt_kernel.proofs.TimerFireLemmas.{quiet_acts}
use Rattle.rt_kernel.proofs.state.State.act_as_timer.Goals as goal

pub returns-in-Some-Print-clause-acts : goal.returns-in-Some-Print-clause-acts
returns-in-Some-Print-clause-acts g c =
    let timer = timer_at c.args.self.now.armed.timers c.args.o in
    does_by (quiet_acts c.args.board.now (state_of c.args.self.now) (Line.Fire timer.name) timer.name timer.call c.requires.may.allowed c.requires.may.built c.know_waits.ensures) (grind (arith, common_steps))

pub returns-in_default-clause-acts : goal.returns-in_default-clause-acts
returns-in_default-clause-acts g c =
    let timer = timer_at c.args.self.now.armed.timers c.args.o in
    does_by (quiet_acts c.args.board.now (state_of c.args.self.now) (Line.Fire timer.name) timer.name timer.call c.requires.may.allowed c.requires.may.built c.know_waits.ensures) (grind (arith, common_steps))
