use Rattle.rt_plain.proofs.laws.sleeps_skip_their_ticks.Goals as goal
use Rattle.rt_plain.proofs.kernel.SkipLemmas.{skipped-ticks}

pub returns : goal.returns
returns c = skipped-ticks
