use Rattle.mutex_chain.proofs.LawLemmas.{one_cur}
use Rattle.mutex_chain.proofs.laws.threads_of_a_cycle_have_one_priority.Goals as goal

pub returns : goal.returns
returns c = one_cur
