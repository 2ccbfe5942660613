use Rattle.std.proofs.Common.{◌≡◌, ◌++◌, drop, take, map, length}
use Rattle.std.specs.Prelude.{vec_capacity}
use Rattle.mutex_chain.specs.Owners.{with_hold}
use Rattle.mutex_chain.proofs.owners.set_holds.Given as goal

abbrev pub invariant-loop-i : goal.invariant-loop-i
invariant-loop-i l = (l.rows.items ≡ map (with_hold l.mutex l.hold) (take l.i l.initial.rows.items) ++ drop l.i l.initial.rows.items) × (length l.rows.items ≡ length l.initial.rows.items) × (vec_capacity l.rows ≡ vec_capacity l.initial.rows)
