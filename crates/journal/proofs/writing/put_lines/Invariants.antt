use Rattle.std.proofs.Common.{◌≡◌, ◌++◌, take}
use Rattle.std.specs.List.{flat_map}
use Rattle.rt_plain.specs.text.Texts.{line_text, indented_line}
use Rattle.journal.proofs.writing.put_lines.Given as goal

abbrev pub invariant-loop-line : goal.invariant-loop-line
invariant-loop-line l = l.out ≡ l.initial.out ++ flat_map (λ line. indented_line (line_text line)) (take l.line-index l.lines)
