use Rattle.rt_plain.proofs.laws.priorities_are_levels.Goals as goal
use Rattle.rt_plain.proofs.runs.LastingLemmas.{priorities-below, bindings-below}

pub returns : goal.returns
returns c = record { priority = priorities-below; binding = bindings-below }
