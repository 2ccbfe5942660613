use Rattle.std.proofs.Common.{◌∙◌, sym, arith, Some, None}
use Rattle.rt_plain.proofs.text.StatementTableLemmas.{find_on, find_here, find_end}
use Rattle.finsh.proofs.Found.{is_named, same_deed}
use Rattle.finsh.proofs.commands.found.Goals as goal

pub loop-named-preserved : goal.loop-named-preserved
loop-named-preserved c =
    sym (find_on (is_named c.args.line.now) c.commands-named-items.result.now c.loop-named.named-index _ c.loop-named-test.true (sym c.eq.ensures ∙ c.if-eq.false))
    ∙ c.loop-named.invariant

pub returns-then-eq : goal.returns-then-eq
returns-then-eq c = same_deed c.args.line.now c.commands-named-items.result.now (Some _) c.commands-named-items.ensures
    (sym c.loop-named.invariant ∙ find_here (is_named c.args.line.now) c.commands-named-items.result.now c.loop-named.named-index _ c.loop-named-test.true (sym c.eq.ensures ∙ c.if-eq.true))

pub returns : goal.returns
returns c = same_deed c.args.line.now c.commands-named-items.result.now None c.commands-named-items.ensures
    (sym c.loop-named.invariant ∙ find_end (is_named c.args.line.now) c.commands-named-items.result.now c.loop-named.named-index (omega arith))
