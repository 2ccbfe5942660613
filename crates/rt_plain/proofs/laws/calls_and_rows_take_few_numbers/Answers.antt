use Rattle.rt_plain.proofs.laws.calls_and_rows_take_few_numbers.Goals as goal
use Rattle.rt_plain.proofs.runs.RoomLemmas.{has-few}
use Rattle.rt_plain.proofs.kernel.CallCosts.{call-numbers}
use Rattle.rt_plain.proofs.kernel.WorkCosts.{soft-numbers}
use Rattle.rt_plain.proofs.kernel.FireLemmas.{fire-numbers}

pub returns : goal.returns
returns c = record {
  call = λ b s call by attempt sized. call-numbers b s call by attempt (has-few b sized);
  work = λ b s t sized. soft-numbers b s t (has-few b sized);
  row = λ b s row sized waits. fire-numbers b s row (has-few b sized) waits;
}
