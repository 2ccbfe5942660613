use Rattle.std.proofs.Common.{[]}
use Rattle.commands.proofs.GrowLemmas.{parts-front}
use Rattle.commands.proofs.writing.put_parts.Goals as goal

pub returns-in-Err-clause-front : goal.returns-in-Err-clause-front
returns-in-Err-clause-front g c =
    let front = c.in-Err.ensures.front in
    parts-front (λ part. part.now) _ _ _ c.args.parts.now _ front.0 (record { ref_ptr = (0, 0); now = [] }) c.loop-part-test.true c.loop-part.invariant.grown front.1
