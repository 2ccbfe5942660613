use Rattle.std.proofs.Common.{ℕ, ◌≡◌, ◌+◌, ◌<◌, ◌≤◌, length, None}
use Rattle.std.specs.List.{sum_by}
use Rattle.mutex_chain.specs.Raising.{IsRaising, LeadsTo}
use Rattle.mutex_chain.specs.Lines.{lines_of}
use Rattle.mutex_chain.specs.Costs.{chain_sum, step_cost}
use Rattle.mutex_chain.proofs.ChainLemmas.{LeadsBy}
use Rattle.mutex_chain.proofs.CostLemmas.{urgent_sum}
use Rattle.mutex_chain.proofs.raising.carry_round.Given as goal

abbrev pub invariant-loop-at : goal.invariant-loop-at
invariant-loop-at g l =
    IsRaising l.owners l.curs.numbers.items l.at l.number × (l.curs.lines.items ≡ lines_of l.owners l.curs.numbers.items)
    × (l.fn.from ≡ None → (l.at ≡ None) × (l.steps ≡ l.initial.steps))
    × ((u : ℕ) → u < length l.owners.members → LeadsTo l.owners u l.fn.from → LeadsBy l.owners u l.at
    × (l.steps + urgent_sum (step_cost l.owners) l.owners u l.curs.numbers.items l.number ≤ l.initial.steps + chain_sum (step_cost l.owners) l.owners u))

abbrev pub decreases-loop-at : goal.decreases-loop-at
decreases-loop-at g l = sum_by (λ x. x) l.curs.numbers.items
