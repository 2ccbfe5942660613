use Rattle.mutex_tie.proofs.OpenLemmas.{owned-begins}
use Rattle.mutex_tie.proofs.laws.graphs_begin_with_threads_alone.Goals as goal

pub returns : goal.returns
returns c = owned-begins
