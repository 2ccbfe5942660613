use Rattle.std.proofs.Common.{ℕ, ◌≡◌, ◌+◌, ◌<◌, ◌≤◌, List, length, None}
use Rattle.std.specs.List.{sum_by}
use Rattle.mutex_chain.specs.Raising.{LeadsTo}
use Rattle.mutex_chain.specs.Noting.{AreNotes}
use Rattle.mutex_chain.specs.Renewing.{IsMarking, fresh}
use Rattle.mutex_chain.specs.Lines.{lines_of}
use Rattle.mutex_chain.specs.Costs.{step_cost, walk_sum, chain_sum}
use Rattle.mutex_chain.proofs.ChainLemmas.{LeadsBy}
use Rattle.mutex_chain.proofs.CostLemmas.{ahead_at, unmarked_sum}
use Rattle.mutex_chain.proofs.renewing.mark_chain.Given as goal

abbrev pub invariant-loop-at : goal.invariant-loop-at
invariant-loop-at g l =
    IsMarking l.owners l.initial.curs.numbers.items l.curs.numbers.items l.fn.from l.count l.at × (l.out.threads ≡ l.fn.out.threads) × ((olds : List ℕ) → AreNotes olds l.initial.curs.numbers.items l.fn.out.changes → AreNotes olds l.curs.numbers.items l.out.changes)
    × (l.curs.lines.items ≡ lines_of l.owners l.curs.numbers.items)
    × (l.at ≡ ahead_at l.owners l.count l.fn.from)
    × (l.fn.from ≡ None → (l.count ≡ 0) × (l.at ≡ None) × (l.steps ≡ l.initial.steps))
    × (l.steps ≡ l.initial.steps + walk_sum (step_cost l.owners) l.owners l.count l.fn.from)
    × ((f : ℕ → ℕ) (u : ℕ) → u < length l.owners.members → LeadsTo l.owners u l.fn.from → LeadsBy l.owners u l.at
    × (walk_sum f l.owners l.count l.fn.from + unmarked_sum f l.owners u l.curs.numbers.items ≤ chain_sum f l.owners u))

abbrev pub decreases-loop-at : goal.decreases-loop-at
decreases-loop-at g l = sum_by fresh l.curs.numbers.items
