use Rattle.rt_plain.proofs.laws.runs_go_on_by_rounds.Goals as goal
use Rattle.rt_plain.proofs.runs.CompleteLemmas.{rounds-complete}
use Rattle.rt_plain.proofs.kernel.SoundLemmas.{rounds-end}

pub returns : goal.returns
returns c = record { complete = rounds-complete; stops = rounds-end }
