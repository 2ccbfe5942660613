use Rattle.rt_plain.proofs.laws.timers_are_the_boards.Goals as goal
use Rattle.rt_plain.proofs.kernel.SoundLemmas.{reached-timers, reached-may}

pub returns : goal.returns
returns c = record { same = reached-timers; may = reached-may }
