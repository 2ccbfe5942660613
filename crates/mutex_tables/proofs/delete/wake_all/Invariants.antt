use Rattle.std.proofs.Common.{◌≡◌, drop}
use Rattle.mutex_tables.specs.Mutexes.{MayWakeAll, roused_all}
use Rattle.mutex_tables.proofs.delete.wake_all.Given as goal

-- the threads that are left lead to what all of them lead to
abbrev pub invariant-loop-i : goal.invariant-loop-i
invariant-loop-i l = record { same : roused_all l.tables l.graph l.code (drop l.i l.ts) ≡ roused_all l.fn.tables l.graph l.code l.ts; may : MayWakeAll l.tables l.graph (drop l.i l.ts) }
