use Rattle.std.proofs.Common.{◌≡◌, drop}
use Rattle.std.specs.Prelude.{find, ◌==◌}
use Rattle.mutex_tables.proofs.passed.name_of.Given as goal

-- the object of the number isn't among those so far
abbrev pub invariant-loop-place : goal.invariant-loop-place
invariant-loop-place l = find (λ x. x.no == l.fn.no) (drop l.place l.names.mutex.objects) ≡ find (λ x. x.no == l.fn.no) l.names.mutex.objects
