use Rattle.rt_plain.proofs.laws.texts_tell_their_events.Goals as goal
use Rattle.rt_plain.proofs.text.TraceLemmas.{events-told}

pub returns : goal.returns
returns c = events-told
