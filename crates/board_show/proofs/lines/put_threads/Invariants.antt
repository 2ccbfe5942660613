use Rattle.std.proofs.Common.{◌≡◌, ◌++◌, take}
use Rattle.std.specs.List.{flat_map}
use Rattle.rt_plain.specs.text.Canon.{thread_lines}
use Rattle.board_show.specs.Writing.{whole_lines}
use Rattle.board_show.proofs.lines.put_threads.Given as goal

abbrev pub invariant-loop-def : goal.invariant-loop-def
invariant-loop-def l = l.out ≡ l.initial.out ++ flat_map (λ def. whole_lines (thread_lines def)) (take l.def-index l.defs)
