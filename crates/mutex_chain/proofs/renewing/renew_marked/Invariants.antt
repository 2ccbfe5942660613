use Rattle.std.proofs.Common.{ℕ, ◌≡◌, ◌+◌, ◌<◌, length, None}
use Rattle.mutex_chain.specs.Raising.{LeadsTo}
use Rattle.mutex_chain.specs.Lines.{lines_of}
use Rattle.mutex_chain.specs.Renewing.{IsRenewing}
use Rattle.mutex_chain.specs.Costs.{renew_cost, walk_sum}
use Rattle.mutex_chain.proofs.ChainLemmas.{LeadsBy}
use Rattle.mutex_chain.proofs.renewing.renew_marked.Given as goal

abbrev pub invariant-loop-left : goal.invariant-loop-left
invariant-loop-left g l =
    IsRenewing l.owners l.curs.numbers.items l.left l.at l.number × (l.curs.lines.items ≡ lines_of l.owners l.curs.numbers.items)
    × (l.fn.from ≡ None → (l.at ≡ None) × (l.steps ≡ l.initial.steps))
    × (l.steps + walk_sum (renew_cost l.owners) l.owners l.left l.at ≡ l.initial.steps + walk_sum (renew_cost l.owners) l.owners l.fn.count l.fn.from)
    × ((u : ℕ) → u < length l.owners.members → LeadsTo l.owners u l.fn.from → LeadsBy l.owners u l.at)

abbrev pub decreases-loop-left : goal.decreases-loop-left
decreases-loop-left g l = l.left
