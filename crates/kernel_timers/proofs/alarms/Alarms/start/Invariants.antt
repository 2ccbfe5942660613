use Rattle.std.proofs.Common.{◌≡◌, length}
use Rattle.kernel_timers.proofs.StartLemmas.{Begun}
use Rattle.kernel_timers.proofs.alarms.Alarms.start.Given as goal

-- what is armed so far
abbrev pub invariant-loop-i : goal.invariant-loop-i
invariant-loop-i l = record { begun : Begun l.defs l.i l.self l.number; ends : l.i-end ≡ length l.defs; defs : l.defs ≡ l.fn.defs }
