use Rattle.std.proofs.Common.{◌≡◌, ◌∙◌, true, false, get_or, length, sym, ap, arith}
use Rattle.std.specs.Prelude.{bytes_eq}
use Rattle.std.specs.List.{find}
use Rattle.rt_plain.specs.declared.kind.StatementKind.{StatementKind}
use Rattle.rt_plain.specs.text.StatementTable.{statement_word, statement_named}
use Rattle.rt_plain.proofs.text.StatementTableLemmas.{find_on, find_here, find_end, statements_count}
use Rattle.board_text.proofs.table.statement_named.Goals as goal

pub loop-kind-preserved : goal.loop-kind-preserved
loop-kind-preserved c =
    let ks = c.every_statement-kinds.result in
    let len : length ks ≡ 48 = ap length c.every_statement-kinds.ensures ∙ statements_count in
    let test = λ (k : StatementKind). bytes_eq (statement_word k) c.args.given.now in
    let e : test (get_or ks c.loop-kind.kind-index StatementKind.Print) ≡ false = rw (← c.statement_word.ensures, ← c.is_word.ensures) c.if-is_word.false in
    sym (find_on test ks c.loop-kind.kind-index StatementKind.Print (omega arith) e) ∙ c.loop-kind.invariant

pub returns-then-is_word : goal.returns-then-is_word
unfolding statement_named
returns-then-is_word c =
    let ks = c.every_statement-kinds.result in
    let len : length ks ≡ 48 = ap length c.every_statement-kinds.ensures ∙ statements_count in
    let test = λ (k : StatementKind). bytes_eq (statement_word k) c.args.given.now in
    let e : test (get_or ks c.loop-kind.kind-index StatementKind.Print) ≡ true = rw (← c.statement_word.ensures, ← c.is_word.ensures) c.if-is_word.true in
    sym (find_here test ks c.loop-kind.kind-index StatementKind.Print (omega arith) e) ∙ c.loop-kind.invariant ∙ ap (find test) c.every_statement-kinds.ensures

pub returns : goal.returns
unfolding statement_named
returns c =
    let ks = c.every_statement-kinds.result in
    let len : length ks ≡ 48 = ap length c.every_statement-kinds.ensures ∙ statements_count in
    let test = λ (k : StatementKind). bytes_eq (statement_word k) c.args.given.now in
    sym (find_end test ks c.loop-kind.kind-index (omega arith)) ∙ c.loop-kind.invariant ∙ ap (find test) c.every_statement-kinds.ensures
