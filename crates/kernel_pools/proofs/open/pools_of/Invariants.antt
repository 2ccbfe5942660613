use Rattle.std.proofs.Common.{◌≡◌, ◌≤◌, length, map, take}
use Rattle.std.specs.Prelude.{vec_len, vec_capacity}
use Rattle.rt_plain.specs.kernel.Opening.{new_pool}
use Rattle.kernel_pools.proofs.open.pools_of.Given as goal

-- room for the rest, and the pools so far
abbrev pub invariant-loop-def : goal.invariant-loop-def
invariant-loop-def l = record { made : l.pools.items ≡ map new_pool (take l.def-index l.defs); len : vec_len l.pools ≡ l.def-index; room : length l.defs ≤ vec_capacity l.pools }
