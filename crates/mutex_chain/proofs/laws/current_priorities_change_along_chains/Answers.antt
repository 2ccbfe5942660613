use Rattle.mutex_chain.proofs.LawLemmas.{same_away}
use Rattle.mutex_chain.proofs.laws.current_priorities_change_along_chains.Goals as goal

pub returns : goal.returns
returns c = same_away
