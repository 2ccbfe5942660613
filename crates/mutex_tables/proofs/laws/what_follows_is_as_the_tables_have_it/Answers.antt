use Rattle.mutex_tables.proofs.LawLemmas.{settles}
use Rattle.mutex_tables.proofs.laws.what_follows_is_as_the_tables_have_it.Goals as goal

pub returns : goal.returns
returns c = settles
