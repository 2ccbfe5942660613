use Rattle.std.proofs.Common.{take}
use Rattle.rt_plain.proofs.text.SplitLemmas.{IsUnbroken}
use Rattle.core_runner.proofs.trace_lines.line_end.Given as goal

abbrev pub invariant-loop-i : goal.invariant-loop-i
invariant-loop-i l = IsUnbroken (take l.i l.rest)
