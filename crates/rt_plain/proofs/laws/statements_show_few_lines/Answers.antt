use Rattle.rt_plain.proofs.laws.statements_show_few_lines.Goals as goal
use Rattle.std.proofs.Common.{arith}
use Rattle.rt_plain.proofs.runs.RoomLemmas.{has-few}
use Rattle.rt_plain.proofs.kernel.StatementCosts.{script-lines, soft-lines, close-lines}

pub returns : goal.returns
returns c = record {
  statement = λ b s t core retry sized. script-lines b s t core retry (has-few b sized);
  work = λ b s t sized. soft-lines b s t (has-few b sized);
  end = λ b s t. omega (arith, close-lines b s t);
}
