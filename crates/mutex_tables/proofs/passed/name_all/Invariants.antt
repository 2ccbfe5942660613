use Rattle.std.proofs.Common.{◌≡◌, ◌<◌, ◌≤◌, take, map}
use Rattle.std.specs.Prelude.{length, vec_capacity}
use Rattle.mutex_tables.specs.Passed.{named_pass}
use Rattle.mutex_tables.proofs.passed.name_all.Given as goal

-- those so far have their names
abbrev pub invariant-loop-i : goal.invariant-loop-i
invariant-loop-i l = record { named : l.named.items ≡ map (named_pass l.names.mutex.objects) (take l.i l.passes); room : vec_capacity l.named ≡ vec_capacity l.fn.named }
