use Rattle.std.proofs.Common.{◌≤◌, drop, length}
use Rattle.rt_plain.proofs.text.FieldLemmas.{IsWithout}
use Rattle.rt_plain.proofs.fields.last_place.Given as goal

abbrev pub invariant-loop-rest : goal.invariant-loop-rest
invariant-loop-rest l = (l.rest ≤ length l.word) × IsWithout l.byte (drop l.rest l.word)

abbrev pub decreases-loop-rest : goal.decreases-loop-rest
decreases-loop-rest l = l.rest
