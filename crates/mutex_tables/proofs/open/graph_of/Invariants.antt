use Rattle.std.proofs.Common.{◌≡◌, [], None, replicate}
use Rattle.mutex_tables.proofs.OpenLemmas.{filled}
use Rattle.mutex_tables.proofs.open.graph_of.Given as goal

-- the threads so far
abbrev pub invariant-loop-i : goal.invariant-loop-i
invariant-loop-i l = l.graph ≡ record { members = filled l.i l.defs; ceilings = replicate l.mutexes None; taken = [] }
