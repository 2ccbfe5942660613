use Rattle.std.proofs.Common.{◌∙◌, ℕ, List, [], ◌∷◌, ◌++◌, codes, map, ap, sym, arith}
use Rattle.std.specs.List.{range_with_len}
use Rattle.std.proofs.lemmas.List.FromFn.{map-range_with_len_more}
use Rattle.rt_plain.specs.declared.board.MutexDef.{MutexDef}
use Rattle.rt_plain.specs.runs.Generated.{numbered}
use Rattle.board_show.proofs.generating.mutexes.Goals as goal

abbrev mutex : ℕ → MutexDef
mutex i = record { name = numbered (codes "m") i; ceiling = 31 }

pub loop-i-preserved : goal.loop-i-preserved
loop-i-preserved c =
    c.in_ok-push.ensures
    ∙ ap (λ (all : List MutexDef). all ++ (record { name = c.numbered.result; ceiling = 31 }) ∷ []) c.loop-i.invariant
    ∙ ap (λ (name : List ℕ). map mutex (range_with_len 0 c.loop-i.i) ++ (record { name = name; ceiling = 31 }) ∷ []) c.numbered.ensures
    ∙ sym (map-range_with_len_more mutex 0 c.loop-i.i c.loop-i.i (omega arith))
