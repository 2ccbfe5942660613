use Rattle.std.proofs.Common.{◌≡◌, ◌+◌, ◌∷◌, suc, sym, ap, ◌∙◌, subst, List, drop, drop-cons, add-one}
use Rattle.rt_plain.specs.kernel.Ownership.{CurChange}
use Rattle.kernel_tables.specs.Tabled.{Tabled}
use Rattle.mutex_tables.specs.Moved.{AreWithin, renewed, renewed_by}
use Rattle.mutex_tables.proofs.RenewLemmas.{later-within}
use Rattle.mutex_tables.proofs.renew.renew.Goals as goal

pub loop-change-preserved : goal.loop-change-preserved
loop-change-preserved c =
    let cs : List CurChange = c.args.changes.now in
    let item : CurChange = c.change-item.result in
    let rest : drop c.loop-change.change-index cs ≡ item ∷ drop (c.loop-change.change-index + 1) cs =
    drop-cons cs c.loop-change.change-index item c.loop-change-test.true
    ∙ ap (λ (d : CurChange). d ∷ drop (suc c.loop-change.change-index) cs) (sym c.change-item.is)
    ∙ ap (λ n. item ∷ drop n cs) (sym (add-one c.loop-change.change-index)) in
    let done : c.set_base.new.self ≡ renewed_by c.loop-change.tables item = c.set_base.ensures ∙ ap (renewed_by c.loop-change.tables) c.change.view_is in
    let within : AreWithin c.loop-change.tables (item ∷ drop (c.loop-change.change-index + 1) cs) = subst (AreWithin c.loop-change.tables) rest c.loop-change.invariant.within in
    record {
      same = ap (λ (k : Tabled). renewed k (drop (c.loop-change.change-index + 1) cs)) done ∙ sym (ap (renewed c.loop-change.tables) rest) ∙ c.loop-change.invariant.same;
      within = subst (λ (k : Tabled). AreWithin k (drop (c.loop-change.change-index + 1) cs)) (sym done) (later-within c.loop-change.tables item (drop (c.loop-change.change-index + 1) cs) within.1);
    }
