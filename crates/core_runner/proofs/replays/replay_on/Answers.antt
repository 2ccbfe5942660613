use Rattle.std.proofs.Common.{Option, subst, sym}
use Rattle.rt_plain.specs.declared.entry.Cut.{Cut}
use Rattle.rt_plain.specs.PlainBoard.{PlainBoard}
use Rattle.kernel_step.specs.MachineSeen.{MachineSeen}
use Rattle.core_runner.specs.Replays.{IsTraceOf}
use Rattle.core_runner.proofs.replays.replay_on.Goals as goal

pub returns-in-Ok-clause-good : goal.returns-in-Ok-clause-good
returns-in-Ok-clause-good g c =
    let read = c.read_trace.new.reader in
    let told = subst (λ (cut : Option Cut). IsTraceOf c.new-reader.result.machine.board c.args.trace.now read.machine.course cut) (sym c.into_run.ensures.cut) c.in-Ok.ensures.good in
    let made = subst (λ (m : MachineSeen). IsTraceOf c.new-reader.result.machine.board c.args.trace.now m.course c.into_run.result.1) (sym c.into_run.ensures.machine) told in
    subst (λ (m : MachineSeen). IsTraceOf m.board c.args.trace.now c.into_run.result.0.course c.into_run.result.1) c.new-reader.ensures.machine made
