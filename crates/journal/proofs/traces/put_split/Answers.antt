use Rattle.std.proofs.Common.{arith, length-drop}
use Rattle.std.proofs.lemmas.List.{take_rest}
use Rattle.journal.proofs.HeaderLemmas.{lines-before}
use Rattle.journal.proofs.CutLemmas.{split-text}
use Rattle.journal.proofs.traces.put_split.Goals as goal

pub put_all-requires-2-clause-total : goal.put_all-requires-2-clause-total
put_all-requires-2-clause-total c =
    rw (take_rest c.args.headers.now c.args.cut.now.at, take_rest c.args.lines.now c.lines_before-before.result)
    (omega (arith, lines-before c.args.headers.now c.args.cut.now.at, length-drop c.lines_before-before.result c.args.lines.now, c.lines_before-before.ensures, c.requires.total))

pub returns : goal.returns
returns c =
    rw (split-text c.args.out.now c.args.headers.now c.args.lines.now c.args.cut.now c.lines_before-before.result c.lines_before-before.ensures, ← c.in_ok-put_all.ensures, ← c.in_ok-put_cut.ensures)
    c.put_all-2.ensures
