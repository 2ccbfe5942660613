use Rattle.rt_plain.proofs.laws.arrivals_are_ahead.Goals as goal
use Rattle.rt_plain.proofs.runs.LastingLemmas.{arrivals-ahead}

pub returns : goal.returns
returns c = arrivals-ahead
