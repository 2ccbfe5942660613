use Rattle.std.proofs.Common.{subst}
use Rattle.rt_plain.specs.text.Canon.{IsValid}
use Rattle.kernel_step.proofs.BuiltLemmas.{clocked}
use Rattle.kernel_step.proofs.built.know_clock.Goals as goal

pub returns : goal.returns
returns c = clocked c.args.board.now (subst IsValid c.board.view_is c.board.invariant)
