use Rattle.rt_plain.proofs.laws.schedules_make_one_run.Goals as goal
use Rattle.rt_plain.proofs.runs.SameLemmas.{scheduled-same}

pub returns : goal.returns
returns c = scheduled-same
