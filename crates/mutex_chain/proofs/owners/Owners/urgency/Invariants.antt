use Rattle.std.proofs.Common.{◌≡◌, ◌+◌, drop, length}
use Rattle.rt_plain.specs.kernel.Ownership.{member_urgency, owned_in}
use Rattle.mutex_chain.proofs.UrgencyLemmas.{urgency_with, owned_among}
use Rattle.mutex_chain.proofs.owners.Owners.urgency.Given as goal

abbrev pub invariant-loop-row : goal.invariant-loop-row
invariant-loop-row g l =
    (urgency_with l.self.ceilings l.thread-inside.0 l.least (drop l.row-index l.row-items) ≡ member_urgency l.self l.thread-inside.0)
    × (l.steps + length (owned_among l.thread-inside.0 (drop l.row-index l.row-items)) ≡ l.initial.steps + length (owned_in l.self l.thread-inside.0))
