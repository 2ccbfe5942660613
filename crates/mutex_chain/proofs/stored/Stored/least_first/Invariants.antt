use Rattle.std.proofs.Common.{◌≡◌, ◌+◌, ◌*◌, drop, length}
use Rattle.mutex_chain.proofs.FirstsLemmas.{firsts_with}
use Rattle.mutex_chain.proofs.UrgencyLemmas.{owned_among}
use Rattle.mutex_chain.proofs.stored.Stored.least_first.Given as goal

abbrev pub invariant-loop-row : goal.invariant-loop-row
invariant-loop-row g l =
    (firsts_with l.owners l.self.numbers.items l.thread-inside.0 l.least (drop l.row-index l.owners.taken) ≡ firsts_with l.owners l.self.numbers.items l.thread-inside.0 l.own l.owners.taken)
    × (l.steps + 3 * length (owned_among l.thread-inside.0 (drop l.row-index l.owners.taken)) ≡ l.initial.steps + 3 * length (owned_among l.thread-inside.0 l.owners.taken))
