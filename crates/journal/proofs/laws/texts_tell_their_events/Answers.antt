use Rattle.rt_plain.proofs.text.TraceLemmas.{events-told}
use Rattle.journal.proofs.laws.texts_tell_their_events.Goals as goal

pub returns : goal.returns
returns c = events-told _ _ _ c.journals_can_be_written.ensures c.requires.cores
