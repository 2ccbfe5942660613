use Rattle.std.proofs.Common.{take}
use Rattle.rt_plain.proofs.text.SplitLemmas.{IsSolid, IsUnquoted}
use Rattle.rt_plain.proofs.words.first_space.Given as goal

abbrev pub invariant-loop-i : goal.invariant-loop-i
invariant-loop-i l = IsUnquoted l.rest × IsSolid (take l.i l.rest)
