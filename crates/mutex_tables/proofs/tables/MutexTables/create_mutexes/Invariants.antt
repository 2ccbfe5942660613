use Rattle.std.proofs.Common.{◌≡◌, map, reverse, take}
use Rattle.rt_plain.specs.kernel.Opening.{new_mutex}
use Rattle.mutex_tables.proofs.tables.MutexTables.create_mutexes.Given as goal

-- those of the definitions so far
abbrev pub invariant-loop-def : goal.invariant-loop-def
invariant-loop-def l = l.self ≡ record l.fn.self { mutexes = reverse (map new_mutex (take l.def-index l.defs)) }
