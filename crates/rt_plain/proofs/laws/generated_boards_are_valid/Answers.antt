use Rattle.rt_plain.proofs.laws.generated_boards_are_valid.Goals as goal
use Rattle.rt_plain.proofs.runs.GeneratedLemmas.{generated_is_valid}

pub returns : goal.returns
returns c = generated_is_valid
