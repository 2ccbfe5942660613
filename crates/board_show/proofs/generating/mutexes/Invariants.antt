use Rattle.std.proofs.Common.{◌≡◌, codes, map}
use Rattle.std.specs.List.{range_with_len}
use Rattle.rt_plain.specs.runs.Generated.{numbered}
use Rattle.board_show.proofs.generating.mutexes.Given as goal

abbrev pub invariant-loop-i : goal.invariant-loop-i
invariant-loop-i l = l.all ≡ map (λ i. record { name = numbered (codes "m") i; ceiling = 31 }) (range_with_len 0 l.i)
