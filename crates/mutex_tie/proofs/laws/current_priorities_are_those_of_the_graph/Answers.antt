use Rattle.mutex_tie.proofs.CurLemmas.{cur-tied}
use Rattle.mutex_tie.proofs.laws.current_priorities_are_those_of_the_graph.Goals as goal

pub returns : goal.returns
returns c = cur-tied
