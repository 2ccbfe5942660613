use Rattle.std.proofs.Common.{◌≡◌, ◌≤◌, length}
use Rattle.kernel_tables.specs.Shown.{shown_below}
use Rattle.kernel_tables.proofs.threads.Threads.shown_count.Given as goal

-- those of the threads so far
abbrev pub invariant-loop-t : goal.invariant-loop-t
invariant-loop-t l = record { count : l.count ≡ length (shown_below l.self l.t); few : l.count ≤ l.t }
