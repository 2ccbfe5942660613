use Rattle.rt_plain.proofs.laws.numbers_stay_small.Goals as goal
use Rattle.rt_plain.proofs.runs.RoomLemmas.{numbers-few}

pub returns : goal.returns
returns c = numbers-few
