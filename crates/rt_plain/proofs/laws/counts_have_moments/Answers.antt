use Rattle.rt_plain.proofs.laws.counts_have_moments.Goals as goal
use Rattle.rt_plain.proofs.kernel.ClockLemmas.{back-early, counts-made, counts-first}

pub returns : goal.returns
returns c = record { back = back-early; made = counts-made; first = counts-first }
