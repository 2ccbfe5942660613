use Rattle.std.proofs.Common.{◌≡◌, ◌++◌, drop, take, map, length}
use Rattle.std.specs.Prelude.{vec_capacity}
use Rattle.mutex_chain.specs.Noting.{settled_note}
use Rattle.mutex_chain.proofs.changes.renew_notes.Given as goal

abbrev pub invariant-loop-i : goal.invariant-loop-i
invariant-loop-i l = (l.notes.items ≡ map (settled_note l.owners l.numbers) (take l.i l.initial.notes.items) ++ drop l.i l.initial.notes.items) × (length l.notes.items ≡ length l.initial.notes.items) × (vec_capacity l.notes ≡ vec_capacity l.initial.notes)
