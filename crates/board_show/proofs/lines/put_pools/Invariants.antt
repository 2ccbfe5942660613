use Rattle.std.proofs.Common.{◌≡◌, ◌++◌, take}
use Rattle.std.specs.List.{flat_map}
use Rattle.rt_plain.specs.declared.board_line.BoardLine.TheVariants as said
use Rattle.board_show.specs.Writing.{whole_line}
use Rattle.board_show.proofs.lines.put_pools.Given as goal

abbrev pub invariant-loop-def : goal.invariant-loop-def
invariant-loop-def l = l.out ≡ l.initial.out ++ flat_map (λ def. whole_line (said.Pool def)) (take l.def-index l.defs)
