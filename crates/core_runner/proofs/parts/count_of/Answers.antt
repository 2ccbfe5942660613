use Rattle.std.proofs.Common.{◌∙◌, arith}
use Rattle.core_runner.proofs.PartLemmas.{counts-own, counts-other}
use Rattle.core_runner.proofs.parts.count_of.Goals as goal
use Rattle.core_runner.proofs.parts.count_of.Goals.{then-owner-core, else-owner-core}

pub loop-i-preserved : goal.loop-i-preserved
loop-i-preserved c = elim c.if-owner-core.branch [
  | then-owner-core w ↦ record {
    count = w.count-is ∙ counts-own _ c.loop-i.i c.args.core _ _ _ _ c.owner.result c.loop-i.count c.entry-event.ensures c.owner.ensures w.if-owner-core.true c.loop-i.invariant.count;
    few = omega (arith, w.count-is, c.loop-i.invariant.few);
  }
  | else-owner-core w ↦ record {
    count = w.count-is ∙ counts-other _ c.loop-i.i c.args.core _ _ _ _ c.owner.result c.loop-i.count c.entry-event.ensures c.owner.ensures w.if-owner-core.false c.loop-i.invariant.count;
    few = omega (arith, w.count-is, c.loop-i.invariant.few);
  }
]
