use Rattle.mutex_tables.proofs.EndLawLemmas.{ended}
use Rattle.mutex_tables.proofs.laws.the_end_of_a_thread_is_as_the_tables_have_it.Goals as goal

pub returns : goal.returns
returns c = ended
