use Rattle.std.proofs.Common.{get_or, arith}
use Rattle.std.proofs.lemmas.Bool.{ne_eqb}
use Rattle.rt_plain.proofs.text.SplitLemmas.{solid_more}
use Rattle.rt_plain.proofs.words.first_space.Goals as goal

pub loop-i-preserved : goal.loop-i-preserved
loop-i-preserved c = (c.loop-i.invariant.0, solid_more c.args.rest.now c.loop-i.i (omega arith) c.loop-i.invariant.1 (ne_eqb (get_or c.args.rest.now c.loop-i.i 0) 32 c.if-b-eq32.false))
