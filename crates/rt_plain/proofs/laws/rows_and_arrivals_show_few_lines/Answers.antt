use Rattle.rt_plain.proofs.laws.rows_and_arrivals_show_few_lines.Goals as goal
use Rattle.rt_plain.proofs.runs.RoomLemmas.{has-few}
use Rattle.rt_plain.proofs.kernel.FireLemmas.{fire-lines, arrival-lines}

pub returns : goal.returns
returns c = record {
  row = λ b s row sized waits may. fire-lines b s row (has-few b sized) waits may;
  arrival = arrival-lines;
}
