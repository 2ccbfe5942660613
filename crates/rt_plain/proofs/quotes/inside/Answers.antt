use Rattle.std.proofs.Common.{◌∙◌, ◌∷◌, [], length-append, sym, subst, arith}
use Rattle.rt_plain.specs.text.Fields.{IsGoodStep}
use Rattle.rt_plain.proofs.text.QuoteLemmas.{on_to, on_byte}
use Rattle.rt_plain.proofs.quotes.inside.Goals as goal
use Rattle.rt_plain.proofs.quotes.inside.Goals.{in-To, in-Byte+else-len-eq64}

pub loop-i-preserved : goal.loop-i-preserved
loop-i-preserved c =
    elim c.match-step.branch [
      | in-To w ↦ record {
        size = rw w.bytes-is c.loop-i.invariant.size;
        good = rw w.mode-is (subst IsGoodStep w.in-To.is c.step.ensures.good);
        so_far = rw (w.bytes-is, w.mode-is) (on_to c.loop-i.bytes.items c.args.word.now c.loop-i.i c.loop-i.mode w.in-To.to _ c.loop-i-test.true (sym w.in-To.is ∙ c.step.ensures.step) c.loop-i.invariant.so_far);
      }
      | in-Byte+else-len-eq64 w ↦ record {
        size = rw (w.bytes-is, w.push.ensures.items) (let size = c.loop-i.invariant.size in let ne = w.if-len-eq64.false in omega (arith, length-append c.loop-i.bytes.items (w.in-Byte.byte ∷ []), w.len.ensures));
        good = rw w.mode-is tt;
        so_far = rw (w.bytes-is, w.mode-is, w.push.ensures.items) (on_byte c.loop-i.bytes.items c.args.word.now c.loop-i.i w.in-Byte.byte c.loop-i.mode _ c.loop-i-test.true (sym w.in-Byte.is ∙ c.step.ensures.step) c.loop-i.invariant.so_far);
      }
    ]
