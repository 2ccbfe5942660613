use Rattle.rt_plain.proofs.laws.texts_are_of_one_trace.Goals as goal
use Rattle.rt_plain.proofs.text.TraceLemmas.{same-journal}

pub returns : goal.returns
returns c = same-journal
