use Rattle.std.proofs.Common.{◌≡◌, ◌∙◌, true, false, get_or, length, sym, ap, arith}
use Rattle.std.specs.Prelude.{bytes_eq}
use Rattle.std.specs.List.{find}
use Rattle.rt_plain.specs.declared.kind.LineKind.{LineKind}
use Rattle.rt_plain.specs.text.LineTable.{row, line_named}
use Rattle.rt_plain.specs.declared.kind.Kind.{Kind}
use Rattle.rt_plain.proofs.text.StatementTableLemmas.{find_on, find_here, find_end}
use Rattle.rt_plain.proofs.text.LineTableLemmas.{lines_count}
use Rattle.board_text.proofs.table.line_named.Goals as goal

pub loop-kind-preserved : goal.loop-kind-preserved
loop-kind-preserved c =
    let ks = c.every_line-kinds.result in
    let len : length ks ≡ 25 = ap length c.every_line-kinds.ensures ∙ lines_count in
    let test = λ (k : LineKind). bytes_eq (row (Kind.Line k)).word c.args.given.now in
    let e : test (get_or ks c.loop-kind.kind-index LineKind.Board) ≡ false = rw (← c.line_word.ensures, ← c.is_word.ensures) c.if-is_word.false in
    sym (find_on test ks c.loop-kind.kind-index LineKind.Board (omega arith) e) ∙ c.loop-kind.invariant

pub returns-then-is_word : goal.returns-then-is_word
unfolding line_named
returns-then-is_word c =
    let ks = c.every_line-kinds.result in
    let len : length ks ≡ 25 = ap length c.every_line-kinds.ensures ∙ lines_count in
    let test = λ (k : LineKind). bytes_eq (row (Kind.Line k)).word c.args.given.now in
    let e : test (get_or ks c.loop-kind.kind-index LineKind.Board) ≡ true = rw (← c.line_word.ensures, ← c.is_word.ensures) c.if-is_word.true in
    sym (find_here test ks c.loop-kind.kind-index LineKind.Board (omega arith) e) ∙ c.loop-kind.invariant ∙ ap (find test) c.every_line-kinds.ensures

pub returns : goal.returns
unfolding line_named
returns c =
    let ks = c.every_line-kinds.result in
    let len : length ks ≡ 25 = ap length c.every_line-kinds.ensures ∙ lines_count in
    let test = λ (k : LineKind). bytes_eq (row (Kind.Line k)).word c.args.given.now in
    sym (find_end test ks c.loop-kind.kind-index (omega arith)) ∙ c.loop-kind.invariant ∙ ap (find test) c.every_line-kinds.ensures
