use Rattle.std.proofs.Common.{◌≡◌, ◌∙◌, true, false, get_or, length, sym, ap, arith}
use Rattle.std.specs.Prelude.{bytes_eq}
use Rattle.std.specs.List.{find}
use Rattle.rt_plain.specs.declared.kind.TraceKind.{TraceKind}
use Rattle.rt_plain.specs.text.TraceRows.{trace_word, trace_named}
use Rattle.rt_plain.proofs.text.StatementTableLemmas.{find_on, find_here, find_end}
use Rattle.rt_plain.proofs.text.TraceLemmas.{kinds-count}
use Rattle.journal.proofs.rows.trace_named.Goals as goal

pub loop-kind-preserved : goal.loop-kind-preserved
loop-kind-preserved c =
    let ks = c.every_kind-kinds.result in
    let len : length ks ≡ 20 = ap length c.every_kind-kinds.ensures ∙ kinds-count in
    let test = λ (k : TraceKind). bytes_eq (trace_word k) c.args.given.now in
    let e : test (get_or ks c.loop-kind.kind-index TraceKind.Run) ≡ false = rw (← c.trace_word.ensures, ← c.is_word.ensures) c.if-is_word.false in
    sym (find_on test ks c.loop-kind.kind-index TraceKind.Run (omega arith) e) ∙ c.loop-kind.invariant

pub returns-then-is_word : goal.returns-then-is_word
unfolding trace_named
returns-then-is_word c =
    let ks = c.every_kind-kinds.result in
    let len : length ks ≡ 20 = ap length c.every_kind-kinds.ensures ∙ kinds-count in
    let test = λ (k : TraceKind). bytes_eq (trace_word k) c.args.given.now in
    let e : test (get_or ks c.loop-kind.kind-index TraceKind.Run) ≡ true = rw (← c.trace_word.ensures, ← c.is_word.ensures) c.if-is_word.true in
    sym (find_here test ks c.loop-kind.kind-index TraceKind.Run (omega arith) e) ∙ c.loop-kind.invariant ∙ ap (find test) c.every_kind-kinds.ensures

pub returns : goal.returns
unfolding trace_named
returns c =
    let ks = c.every_kind-kinds.result in
    let len : length ks ≡ 20 = ap length c.every_kind-kinds.ensures ∙ kinds-count in
    let test = λ (k : TraceKind). bytes_eq (trace_word k) c.args.given.now in
    sym (find_end test ks c.loop-kind.kind-index (omega arith)) ∙ c.loop-kind.invariant ∙ ap (find test) c.every_kind-kinds.ensures
