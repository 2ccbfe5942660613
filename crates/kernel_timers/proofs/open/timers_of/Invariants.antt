use Rattle.std.proofs.Common.{◌≡◌, ◌≤◌, length, take}
use Rattle.std.specs.Prelude.{vec_len, vec_capacity}
use Rattle.kernel_timers.proofs.open.timers_of.Given as goal

-- room for the rest, and the timers so far
abbrev pub invariant-loop-def : goal.invariant-loop-def
invariant-loop-def l = record { made : l.timers.items ≡ take l.def-index l.defs; len : vec_len l.timers ≡ l.def-index; room : length l.defs ≤ vec_capacity l.timers }
