use Rattle.std.proofs.Common.{arith}
use Rattle.std.proofs.lemmas.List.{length-drop}
use Rattle.commands.proofs.GrowLemmas.{HasGrown-take}
use Rattle.commands.proofs.writing.put_all.Goals as goal

pub loop-at-preserved : goal.loop-at-preserved
loop-at-preserved g c =
    let put = c.in-Ok.ensures in
    record {
      within = omega (arith, put.some, c.split_at.ensures.back_len, length-drop c.loop-at.at c.args.text.now);
      grown = HasGrown-take _ _ _ c.args.text.now _ c.loop-at.at c.in-Ok.n c.split_at.ensures.back c.loop-at.invariant.grown put.grown;
      faults = omega arith;
    }
