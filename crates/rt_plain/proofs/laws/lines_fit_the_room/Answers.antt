use Rattle.rt_plain.proofs.laws.lines_fit_the_room.Goals as goal
use Rattle.rt_plain.proofs.runs.RoomLemmas.{lines-fit}

pub returns : goal.returns
returns c = lines-fit
