use Rattle.rt_plain.proofs.laws.events_determine_runs.Goals as goal
use Rattle.rt_plain.specs.kernel.Opening.{open_state}
use Rattle.rt_plain.proofs.runs.SameLemmas.{run-same, complete-same}

pub returns : goal.returns
returns c = record { runs = λ b journal entries s u same run other. run-same b (open_state b) s u journal entries same run other; complete = complete-same }
