use Rattle.std.proofs.Common.{◌≡◌, map}
use Rattle.ready_list.specs.Ordered.{with_rows}
use Rattle.kernel_tables.specs.Ready.{row_for, started}
use Rattle.kernel_tables.proofs.threads.Threads.start.Given as goal

-- those of the threads so far that aren't initial
abbrev pub invariant-loop-i : goal.invariant-loop-i
invariant-loop-i l = l.ready ≡ with_rows l.initial.ready (map (row_for l.self) (started l.self l.i))
