use Rattle.mutex_chain.proofs.LawLemmas.{cur_solves, cur_is_least_urgent}
use Rattle.mutex_chain.proofs.laws.current_priorities_are_the_least_urgent_solution.Goals as goal

pub returns : goal.returns
returns c = record { solution = cur_solves; least_urgent = cur_is_least_urgent }
