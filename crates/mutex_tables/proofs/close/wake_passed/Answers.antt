use Rattle.std.proofs.Common.{ℕ, ◌≡◌, ◌<◌, ◌+◌, ◌∷◌, suc, sym, ap, ◌∙◌, subst, List, drop, drop-cons, add-one, map, length, get_or}
use Rattle.rt_base.specs.declared.codes.Code.{Code}
use Rattle.kernel_tables.specs.Tabled.{Tabled}
use Rattle.rt_plain.specs.kernel.Ownership.{Ownership, cur_in}
use Rattle.mutex_tables.specs.Moved.{roused}
use Rattle.mutex_tables.specs.Mutexes.{MayWake, MayWakeAll, roused_all}
use Rattle.mutex_tables.proofs.DeleteLemmas.{later-may}
use Rattle.mutex_tables.proofs.PassedLemmas.{split}
use Rattle.mutex_tables.proofs.close.wake_passed.Goals as goal

pub cur-requires : goal.cur-requires
cur-requires c =
    (subst (MayWakeAll c.loop-i.tables c.args.graph.now) (split c.args.passes.now c.loop-i.i c.index-passes-i.result c.loop-i-test.true) c.loop-i.invariant.may).all.0.member

pub rouse-requires-clause-there : goal.rouse-requires-clause-there
rouse-requires-clause-there c =
    (subst (MayWakeAll c.loop-i.tables c.args.graph.now) (split c.args.passes.now c.loop-i.i c.index-passes-i.result c.loop-i-test.true) c.loop-i.invariant.may).all.0.there

pub rouse-requires-clause-idle : goal.rouse-requires-clause-idle
rouse-requires-clause-idle c =
    (subst (MayWakeAll c.loop-i.tables c.args.graph.now) (split c.args.passes.now c.loop-i.i c.index-passes-i.result c.loop-i-test.true) c.loop-i.invariant.may).all.0.idle

pub rouse-requires-clause-unready : goal.rouse-requires-clause-unready
rouse-requires-clause-unready c =
    (subst (MayWakeAll c.loop-i.tables c.args.graph.now) (split c.args.passes.now c.loop-i.i c.index-passes-i.result c.loop-i-test.true) c.loop-i.invariant.may).all.0.unready

pub rouse-requires-clause-level : goal.rouse-requires-clause-level
rouse-requires-clause-level c =
    subst (λ n. n < c.loop-i.tables.levels) (sym c.cur.ensures)
    (subst (MayWakeAll c.loop-i.tables c.args.graph.now) (split c.args.passes.now c.loop-i.i c.index-passes-i.result c.loop-i-test.true) c.loop-i.invariant.may).all.0.level

pub loop-i-preserved : goal.loop-i-preserved
loop-i-preserved c =
    let ps : List (ℕ × ℕ) = c.args.passes.now in
    let t : ℕ = (get_or ps c.loop-i.i c.index-passes-i.result).1 in
    let ts : List ℕ = map (λ (p : ℕ × ℕ). p.1) (drop (c.loop-i.i + 1) ps) in
    let rest = split c.args.passes.now c.loop-i.i c.index-passes-i.result c.loop-i-test.true in
    let done : c.rouse.new.tables ≡ roused c.loop-i.tables t Code.Ok (cur_in c.args.graph.now t) = c.rouse.ensures ∙ ap (roused c.loop-i.tables t Code.Ok) c.cur.ensures in
    let may : MayWakeAll c.loop-i.tables c.args.graph.now (t ∷ ts) = subst (MayWakeAll c.loop-i.tables c.args.graph.now) rest c.loop-i.invariant.may in
    record {
      same = ap (λ (k : Tabled). roused_all k c.args.graph.now Code.Ok ts) done ∙ sym (ap (roused_all c.loop-i.tables c.args.graph.now Code.Ok) rest) ∙ c.loop-i.invariant.same;
      may = subst (λ (k : Tabled). MayWakeAll k c.args.graph.now ts) (sym done) (later-may c.loop-i.tables c.args.graph.now Code.Ok t ts may);
    }
