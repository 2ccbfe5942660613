use Rattle.std.proofs.Common.{◌≡◌, ◌≤◌, length, take, map}
use Rattle.std.specs.Prelude.{vec_len, vec_capacity}
use Rattle.rt_plain.specs.declared.board.ThreadDef.{ThreadDef}
use Rattle.mutex_tables.proofs.open.bases_of.Given as goal

-- those of the definitions so far
abbrev pub invariant-loop-def : goal.invariant-loop-def
invariant-loop-def l = record { kept : l.bases.items ≡ map (λ (def : ThreadDef). def.prio) (take l.def-index l.defs); len : vec_len l.bases ≡ l.def-index; room : length l.defs ≤ vec_capacity l.bases }
