use Rattle.std.proofs.Common.{◌≡◌, ◌≤◌, length, map, take}
use Rattle.std.specs.Prelude.{vec_len, vec_capacity}
use Rattle.kernel_devices.specs.Deviced.{arriving}
use Rattle.kernel_devices.proofs.open.arrivals_of.Given as goal

-- room for the rest, and the arrivals so far
abbrev pub invariant-loop-arrival : goal.invariant-loop-arrival
invariant-loop-arrival l = record { made : l.left.items ≡ map (arriving l.h l.q) (take l.arrival-index l.arrivals); len : vec_len l.left ≡ l.arrival-index; room : length l.arrivals ≤ vec_capacity l.left }
