use Rattle.std.proofs.Common.{◌≡◌, ◌++◌, ◌∷◌, take}
use Rattle.std.specs.List.{flat_map}
use Rattle.board_show.specs.Writing.{shown}
use Rattle.board_show.proofs.writing.put_others.Given as goal

abbrev pub invariant-loop-word : goal.invariant-loop-word
invariant-loop-word l = l.out ≡ l.initial.out ++ flat_map (λ word. 32 ∷ shown word) (take l.word-index l.others)
