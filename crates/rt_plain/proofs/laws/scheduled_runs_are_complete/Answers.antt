use Rattle.rt_plain.proofs.laws.scheduled_runs_are_complete.Goals as goal
use Rattle.rt_plain.proofs.runs.CompleteLemmas.{scheduled-complete}

pub returns : goal.returns
returns c = scheduled-complete
