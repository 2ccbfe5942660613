use Rattle.rt_plain.proofs.text.TraceLemmas.{same-journal}
use Rattle.journal.proofs.laws.equal_texts_have_equal_journals.Goals as goal

pub returns : goal.returns
returns c = same-journal _ _ _ _ _ _ c.journals_can_be_written.ensures c.journals_can_be_written-2.ensures
