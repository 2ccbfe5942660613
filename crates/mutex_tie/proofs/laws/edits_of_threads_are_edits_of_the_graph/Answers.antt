use Rattle.mutex_tie.proofs.EditLemmas.{stands-waits, stands-kept}
use Rattle.mutex_tie.proofs.WakeLemmas.{stands-woken, stands-based}
use Rattle.mutex_tie.proofs.CloseLemmas.{stands-closed}
use Rattle.mutex_tie.proofs.laws.edits_of_threads_are_edits_of_the_graph.Goals as goal

pub returns : goal.returns
returns c = record { waits = stands-waits; woken = stands-woken; based = stands-based; closed = stands-closed; unseen = stands-kept }
