use Rattle.std.proofs.Common.{◌∙◌, refl}
use Rattle.rt_plain.proofs.text.RowLemmas.{both-same}
use Rattle.journal.proofs.rows.read_stated.Goals as goal

pub returns : goal.returns
returns c = c.all3.ensures ∙ both-same c.name.ensures (both-same c.half.ensures (both-same c.answered.ensures refl))
