use Rattle.core_runner.specs.Replays.{TellsLine}
use Rattle.core_runner.proofs.PartLemmas.{refused}
use Rattle.core_runner.proofs.replays.replay_blank.Goals as goal

pub returns-in_err-machine-clause-line : goal.returns-in_err-machine-clause-line
returns-in_err-machine-clause-line g c =
    refused (TellsLine c.args.board c.args.trace.now) c.from_residual.result c.in_err-machine.field-0.0 c.from_residual.ensures (c.in_err-machine.ensures.line c.args.trace.now)
