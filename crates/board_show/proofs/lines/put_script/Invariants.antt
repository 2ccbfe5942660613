use Rattle.std.proofs.Common.{◌≡◌, ◌++◌, take}
use Rattle.std.specs.List.{flat_map}
use Rattle.rt_plain.specs.declared.board_line.BoardLine.TheVariants as said
use Rattle.board_show.specs.Writing.{whole_line}
use Rattle.board_show.proofs.lines.put_script.Given as goal

abbrev pub invariant-loop-statement : goal.invariant-loop-statement
invariant-loop-statement l = l.out ≡ l.initial.out ++ flat_map (λ statement. whole_line (said.Statement statement)) (take l.statement-index l.script)
