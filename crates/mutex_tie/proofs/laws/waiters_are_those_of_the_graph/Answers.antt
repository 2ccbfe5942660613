use Rattle.mutex_tie.proofs.WaiterLemmas.{waiters-tied, first-tied}
use Rattle.mutex_tie.proofs.laws.waiters_are_those_of_the_graph.Goals as goal

pub returns : goal.returns
returns c = record { waiters = waiters-tied; first = first-tied }
