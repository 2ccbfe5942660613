use Rattle.rt_plain.proofs.laws.armed_rows_are_near.Goals as goal
use Rattle.rt_plain.proofs.kernel.SoundLemmas.{reached-near, reached-numbered}

pub returns : goal.returns
returns c = record { near = reached-near; numbered = reached-numbered }
