use Rattle.mutex_tie.proofs.MakeLemmas.{stands-made}
use Rattle.mutex_tie.proofs.HoldLemmas.{stands-ceiling, stands-held}
use Rattle.mutex_tie.proofs.EditLemmas.{stands-got, stands-free}
use Rattle.mutex_tie.proofs.CloseLemmas.{stands-given-back}
use Rattle.mutex_tie.proofs.ReleaseLemmas.{stands-released, stands-taken, stands-ceiled}
use Rattle.mutex_tie.proofs.DeleteLemmas.{deletion-stands}
use Rattle.mutex_tie.proofs.laws.edits_of_mutexes_are_edits_of_the_graph.Goals as goal

pub returns : goal.returns
returns c = record { made = stands-made; ceiling = stands-ceiling; got = stands-got; held = stands-held; free = stands-free; given_back = stands-given-back; released = stands-released; taken = stands-taken; ceiled = stands-ceiled; deleted = deletion-stands }
