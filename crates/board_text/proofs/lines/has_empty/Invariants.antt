use Rattle.std.proofs.Common.{◌≡◌, drop}
use Rattle.std.specs.List.{list_any}
use Rattle.rt_plain.specs.text.Splits.{is_empty}
use Rattle.rt_plain.proofs.text.SplitLemmas.{nows}
use Rattle.board_text.proofs.lines.has_empty.Given as goal

abbrev pub invariant-loop-word : goal.invariant-loop-word
invariant-loop-word l = list_any is_empty (nows (drop l.word-index l.words)) ≡ list_any is_empty (nows l.words)
