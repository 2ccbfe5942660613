use Rattle.std.proofs.Common.{◌≡◌, ◌++◌, take}
use Rattle.std.specs.List.{flat_map}
use Rattle.rt_plain.specs.text.Texts.{printed_by}
use Rattle.journal.proofs.consoles.put_printed.Given as goal

abbrev pub invariant-loop-line : goal.invariant-loop-line
invariant-loop-line l = l.out ≡ l.initial.out ++ flat_map printed_by (take l.line-index l.lines)
