use Rattle.std.proofs.Common.{◌≡◌, ℕ, ◌<◌, length, get_or}
use Rattle.ready_set.proofs.queues.own_numbers.Given as goal

abbrev pub invariant-loop-node : goal.invariant-loop-node
invariant-loop-node l = record { long : length l.nodes ≡ l.count; so_far : (k : ℕ) → k < l.node → get_or l.nodes k 0 ≡ k }
