use Rattle.rt_plain.proofs.laws.valid_boards_can_be_run.Goals as goal
use Rattle.rt_plain.proofs.runs.RunnableLemmas.{valid_proper, valid_sized, valid_driveable, valid_cores, valid_begins}
use Rattle.rt_plain.proofs.kernel.LevelLemmas.{valid_levelled, valid_timers, valid_arrivals}

pub returns : goal.returns
returns c = record { proper = valid_proper; sized = valid_sized; driveable = valid_driveable; cores = valid_cores; begins = valid_begins; levelled = valid_levelled; timers = valid_timers; arrivals = valid_arrivals }
