use Rattle.std.proofs.Common.{subst}
use Rattle.rt_plain.specs.text.Canon.{IsValid}
use Rattle.rt_kernel.proofs.BuiltLemmas.{built}
use Rattle.rt_kernel.proofs.built.know_built.Goals as goal

pub returns : goal.returns
returns c = built c.args.board.now (subst IsValid c.board.view_is c.board.invariant) c.requires
