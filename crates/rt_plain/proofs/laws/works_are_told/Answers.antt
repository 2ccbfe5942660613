use Rattle.rt_plain.proofs.laws.works_are_told.Goals as goal
use Rattle.rt_plain.proofs.runs.LastingLemmas.{works-told}

pub returns : goal.returns
returns c = works-told
