use Rattle.std.proofs.Common.{ℕ, ◌≡◌, ◌+◌, ◌∷◌, suc, sym, ap, ◌∙◌, subst, List, drop, drop-cons, add-one}
use Rattle.kernel_tables.specs.Tabled.{Tabled}
use Rattle.rt_plain.specs.kernel.Ownership.{cur_in}
use Rattle.mutex_tables.specs.Moved.{roused}
use Rattle.mutex_tables.specs.Mutexes.{MayWakeAll, roused_all}
use Rattle.mutex_tables.proofs.DeleteLemmas.{later-may}
use Rattle.mutex_tables.proofs.delete.wake_all.Goals as goal

pub loop-i-preserved : goal.loop-i-preserved
loop-i-preserved c =
    let ts : List ℕ = c.args.ts.now in
    let t : ℕ = c.index-ts-i.result in
    let rest : drop c.loop-i.i ts ≡ t ∷ drop (c.loop-i.i + 1) ts =
    drop-cons ts c.loop-i.i t c.loop-i-test.true
    ∙ ap (λ (d : ℕ). d ∷ drop (suc c.loop-i.i) ts) (sym c.index-ts-i.is)
    ∙ ap (λ n. t ∷ drop n ts) (sym (add-one c.loop-i.i)) in
    let done : c.rouse.new.tables ≡ roused c.loop-i.tables t c.args.code (cur_in c.args.graph.now t) = c.rouse.ensures ∙ ap (roused c.loop-i.tables t c.args.code) c.cur.ensures in
    let may : MayWakeAll c.loop-i.tables c.args.graph.now (t ∷ drop (c.loop-i.i + 1) ts) = subst (MayWakeAll c.loop-i.tables c.args.graph.now) rest c.loop-i.invariant.may in
    record {
      same = ap (λ (k : Tabled). roused_all k c.args.graph.now c.args.code (drop (c.loop-i.i + 1) ts)) done ∙ sym (ap (roused_all c.loop-i.tables c.args.graph.now c.args.code) rest) ∙ c.loop-i.invariant.same;
      may = subst (λ (k : Tabled). MayWakeAll k c.args.graph.now (drop (c.loop-i.i + 1) ts)) (sym done) (later-may c.loop-i.tables c.args.graph.now c.args.code t (drop (c.loop-i.i + 1) ts) may);
    }
