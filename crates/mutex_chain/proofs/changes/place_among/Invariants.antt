use Rattle.std.proofs.Common.{◌≡◌, ◌+◌, drop}
use Rattle.mutex_chain.specs.Raising.{place_among}
use Rattle.mutex_chain.proofs.changes.place_among.Given as goal

abbrev pub invariant-loop-i : goal.invariant-loop-i
invariant-loop-i l = place_among l.fn.thread (drop l.i l.changes) + l.i ≡ place_among l.fn.thread l.changes
