use Rattle.std.proofs.Common.{◌≡◌, ◌∷◌, ◌++◌, take, decimal}
use Rattle.std.specs.List.{flat_map}
use Rattle.journal.proofs.traces.put_counts.Given as goal

abbrev pub invariant-loop-n : goal.invariant-loop-n
invariant-loop-n l = l.out ≡ l.initial.out ++ flat_map (λ n. 32 ∷ decimal n) (take l.n-index l.counts)
