use Rattle.std.proofs.Common.{◌∙◌, ℕ, List, [], ◌∷◌, ◌++◌, ap, sym}
use Rattle.rt_plain.specs.declared.stmt.Stmt.{Stmt}
use Rattle.rt_plain.specs.runs.Generated.{Drawn}
use Rattle.board_show.proofs.DrawLemmas.{dot-block, on-ok_more, on-ok_all}
use Rattle.board_show.proofs.scripts.push_block_of.Goals as goal

pub returns-else-kind-eq4-clause-value : goal.returns-else-kind-eq4-clause-value
returns-else-kind-eq4-clause-value c =
    let dot = dot-block c.args.kind c.args.words.now c.if-kind-eq0.false c.if-kind-eq1.false c.if-kind-eq2.false c.if-kind-eq3.false c.if-kind-eq4.false in
    on-ok_more c.push.result _ _ (λ is.
    is
    ∙ ap (λ (text : List ℕ). c.args.script.now ++ Stmt.Print text ∷ []) c.dot.ensures
    ∙ sym (ap (λ (d : Drawn (List Stmt)). c.args.script.now ++ d.value) dot)) c.push.ensures

pub returns-else-kind-eq4-clause-rest : goal.returns-else-kind-eq4-clause-rest
returns-else-kind-eq4-clause-rest c =
    let dot = dot-block c.args.kind c.args.words.now c.if-kind-eq0.false c.if-kind-eq1.false c.if-kind-eq2.false c.if-kind-eq3.false c.if-kind-eq4.false in
    on-ok_all c.push.result _ (sym (ap (λ (d : Drawn (List Stmt)). d.rest) dot))
