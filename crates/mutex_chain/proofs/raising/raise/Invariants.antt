use Rattle.std.proofs.Common.{ℕ, ◌≡◌, ◌+◌, ◌*◌, ◌<◌, ◌≤◌, length, List, None}
use Rattle.std.specs.List.{sum_by}
use Rattle.mutex_chain.specs.Raising.{IsRaising, LeadsTo}
use Rattle.mutex_chain.specs.Noting.{AreNotes}
use Rattle.mutex_chain.specs.Lines.{lines_of}
use Rattle.mutex_chain.proofs.ChainLemmas.{LeadsBy, urgent_left}
use Rattle.mutex_chain.proofs.raising.raise.Given as goal

abbrev pub invariant-loop-at : goal.invariant-loop-at
invariant-loop-at g l =
    IsRaising l.owners l.curs.numbers.items l.at l.number × (l.out.threads ≡ l.fn.out.threads) × ((olds : List ℕ) → AreNotes olds l.initial.curs.numbers.items l.fn.out.changes → AreNotes olds l.curs.numbers.items l.out.changes)
    × (l.fn.from ≡ None → (l.at ≡ None) × (l.steps ≡ l.initial.steps))
    × ((u : ℕ) → u < length l.owners.members → LeadsTo l.owners u l.fn.from → LeadsBy l.owners u l.at
    × (l.steps + 4 * urgent_left l.owners u l.curs.numbers.items l.number ≤ l.initial.steps + 4 * urgent_left l.owners u l.initial.curs.numbers.items l.number))
    × (l.curs.lines.items ≡ lines_of l.owners l.curs.numbers.items)

abbrev pub decreases-loop-at : goal.decreases-loop-at
decreases-loop-at g l = sum_by (λ x. x) l.curs.numbers.items
