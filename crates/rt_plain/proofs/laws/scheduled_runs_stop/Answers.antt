use Rattle.rt_plain.proofs.laws.scheduled_runs_stop.Goals as goal
use Rattle.rt_plain.proofs.kernel.SoundLemmas.{scheduled-ends, scheduled-ends_in}

pub returns : goal.returns
returns c = record { board = scheduled-ends; within = scheduled-ends_in }
