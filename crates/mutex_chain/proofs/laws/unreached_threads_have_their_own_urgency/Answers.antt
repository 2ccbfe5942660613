use Rattle.mutex_chain.proofs.LawLemmas.{own_cur}
use Rattle.mutex_chain.proofs.laws.unreached_threads_have_their_own_urgency.Goals as goal

pub returns : goal.returns
returns c = own_cur
