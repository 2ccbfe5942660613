use Rattle.rt_plain.proofs.laws.sleeping_changes_nothing_but_entries.Goals as goal
use Rattle.rt_plain.proofs.runs.TicklessLemmas.{sleeping-alike}

pub returns : goal.returns
returns c = sleeping-alike
