use Rattle.std.proofs.Common.{arith, length, subst, ◌++◌, ◌∷◌, [], ◌≡◌, ◌∙◌, Some, None, sym, ap, refl}
use Rattle.ready_set.specs.ReadyLists.{row_of}
use Rattle.std.specs.Prelude.{slice_set}
use Rattle.std.proofs.lemmas.List.{length-set}
use Rattle.rt_base.specs.declared.codes.Code.{Code}
use Rattle.kernel_tables.specs.Tabled.{woken_row}
use Rattle.kernel_tables.specs.Threads.{row_at}
use Rattle.object_box.specs.Objects.{number_of}
use Rattle.kernel_tables.specs.Ready.{IsReady}
use Rattle.kernel_tables.proofs.SemLemmas.{shown, seen-none, slot-there, slot-is, woke-there, woke-tied, woke-seen, kept-seen}
use Rattle.kernel_tables.proofs.ReadyLemmas.{MayGo, woke-goes, releases-woke, releases-nobody, last-threads}
use Rattle.kernel_tables.proofs.tables.Tables.release_sem.Goals as goal
use Rattle.kernel_tables.proofs.tables.Tables.release_sem.Goals.{in-Woke, in_default}

pub returns-in_err-no : goal.returns-in_err-no
returns-in_err-no c =
    let none : number_of c.self.inside.lists.objects.sem.objects c.args.name.now ≡ None = sym c.find.ensures ∙ c.in_err-no.was in
    rw c.from_residual.ensures (rw (← c.self.view_is) (seen-none c.self.inside.lists.sems.items c.self.inside.lists.objects.sem.objects c.args.name.now none, refl))

pub index_mut-requires : goal.index_mut-requires
index_mut-requires c =
    let is : number_of c.self.inside.lists.objects.sem.objects c.args.name.now ≡ Some c.no.inside.0 = sym c.find.ensures ∙ c.in_ok-no.was ∙ ap (λ n. Some n) (sym c.no.view_is) in
    omega (arith, slot-there c.self.inside.threads c.self.inside.lists c.args.name.now c.no.inside.0 c.self.invariant.tied is)

pub wake-requires : goal.wake-requires
wake-requires c =
    let l = c.self.inside.lists in
    let is : number_of l.objects.sem.objects c.args.name.now ≡ Some c.no.inside.0 = sym c.find.ensures ∙ c.in_ok-no.was ∙ ap (λ n. Some n) (sym c.no.view_is) in
    let there = slot-there c.self.inside.threads l c.args.name.now c.no.inside.0 c.self.invariant.tied is in
    let at = slot-is l.sems.items c.no.inside.0 c.index_mut.result.now there c.index_mut.ensures.value in
    woke-there c.self.inside.threads l c.args.name.now c.no.inside.0 c.in-Woke.t c.index_mut.result.now c.self.invariant.tied is at c.in-Woke.ensures.0

pub base-requires : goal.base-requires
base-requires c =
    let l = c.self.inside.lists in
    let is : number_of l.objects.sem.objects c.args.name.now ≡ Some c.no.inside.0 = sym c.find.ensures ∙ c.in_ok-no.was ∙ ap (λ n. Some n) (sym c.no.view_is) in
    let there = slot-there c.self.inside.threads l c.args.name.now c.no.inside.0 c.self.invariant.tied is in
    let at = slot-is l.sems.items c.no.inside.0 c.index_mut.result.now there c.index_mut.ensures.value in
    omega (arith, woke-there c.self.inside.threads l c.args.name.now c.no.inside.0 c.in-Woke.t c.index_mut.result.now c.self.invariant.tied is at c.in-Woke.ensures.0, ap length c.wake.ensures, length-set c.self.inside.threads c.in-Woke.t (woken_row Code.Ok (row_at c.self.inside.threads c.in-Woke.t)))

pub core-requires : goal.core-requires
core-requires c =
    let l = c.self.inside.lists in
    let is : number_of l.objects.sem.objects c.args.name.now ≡ Some c.no.inside.0 = sym c.find.ensures ∙ c.in_ok-no.was ∙ ap (λ n. Some n) (sym c.no.view_is) in
    let there = slot-there c.self.inside.threads l c.args.name.now c.no.inside.0 c.self.invariant.tied is in
    let at = slot-is l.sems.items c.no.inside.0 c.index_mut.result.now there c.index_mut.ensures.value in
    omega (arith, woke-there c.self.inside.threads l c.args.name.now c.no.inside.0 c.in-Woke.t c.index_mut.result.now c.self.invariant.tied is at c.in-Woke.ensures.0, ap length c.wake.ensures, length-set c.self.inside.threads c.in-Woke.t (woken_row Code.Ok (row_at c.self.inside.threads c.in-Woke.t)))

goes : (c : goal.After-core) → MayGo c.wake.new.self c.self.inside.ready c.in-Woke.t c.base.result c.core.result
goes c =
    let l = c.self.inside.lists in
    let is : number_of l.objects.sem.objects c.args.name.now ≡ Some c.no.inside.0 = sym c.find.ensures ∙ c.in_ok-no.was ∙ ap (λ n. Some n) (sym c.no.view_is) in
    let there = slot-there c.self.inside.threads l c.args.name.now c.no.inside.0 c.self.invariant.tied is in
    let at = slot-is l.sems.items c.no.inside.0 c.index_mut.result.now there c.index_mut.ensures.value in
    woke-goes c.self.inside.threads c.wake.new.self l c.self.inside.ready c.args.name.now c.no.inside.0 c.in-Woke.t c.base.result c.core.result c.index_mut.result.now c.self.invariant is at c.in-Woke.ensures.0 c.wake.ensures c.base.ensures c.core.ensures

pub add_tail-requires-clause-thread_below : goal.add_tail-requires-clause-thread_below
add_tail-requires-clause-thread_below c = (goes c).there

pub add_tail-requires-clause-prio_below : goal.add_tail-requires-clause-prio_below
add_tail-requires-clause-prio_below c = (goes c).level

pub add_tail-requires-clause-core_below : goal.add_tail-requires-clause-core_below
add_tail-requires-clause-core_below c = (goes c).binding

pub add_tail-requires-clause-absent : goal.add_tail-requires-clause-absent
add_tail-requires-clause-absent c = (goes c).out

went : (c : goal.After-add_tail) → MayGo c.wake.new.self c.self.inside.ready c.in-Woke.t c.base.result c.core.result
went c =
    let l = c.self.inside.lists in
    let is : number_of l.objects.sem.objects c.args.name.now ≡ Some c.no.inside.0 = sym c.find.ensures ∙ c.in_ok-no.was ∙ ap (λ n. Some n) (sym c.no.view_is) in
    let there = slot-there c.self.inside.threads l c.args.name.now c.no.inside.0 c.self.invariant.tied is in
    let at = slot-is l.sems.items c.no.inside.0 c.index_mut.result.now there c.index_mut.ensures.value in
    woke-goes c.self.inside.threads c.wake.new.self l c.self.inside.ready c.args.name.now c.no.inside.0 c.in-Woke.t c.base.result c.core.result c.index_mut.result.now c.self.invariant is at c.in-Woke.ensures.0 c.wake.ensures c.base.ensures c.core.ensures

pub invariant_of-self : goal.invariant_of-self
invariant_of-self c = record {
  tied =
      let l = c.self.inside.lists in
      let is : number_of l.objects.sem.objects c.args.name.now ≡ Some c.no.inside.0 = sym c.find.ensures ∙ c.in_ok-no.was ∙ ap (λ n. Some n) (sym c.no.view_is) in
      let there = slot-there c.self.inside.threads l c.args.name.now c.no.inside.0 c.self.invariant.tied is in
      let at = slot-is l.sems.items c.no.inside.0 c.index_mut.result.now there c.index_mut.ensures.value in
      woke-tied c.self.inside.threads c.wake.new.self l _ c.args.name.now c.no.inside.0 c.in-Woke.t c.index_mut.result.now c.release-answer.new.self c.self.invariant.tied is at c.in-Woke.ensures refl refl refl refl c.wake.ensures;
  ready = subst (IsReady c.wake.new.self) (sym c.add_tail.ensures) (went c).last;
}

pub returns : goal.returns
returns c =
    let l = c.self.inside.lists in
    let is : number_of l.objects.sem.objects c.args.name.now ≡ Some c.no.inside.0 = sym c.find.ensures ∙ c.in_ok-no.was ∙ ap (λ n. Some n) (sym c.no.view_is) in
    let there = slot-there c.self.inside.threads l c.args.name.now c.no.inside.0 c.self.invariant.tied is in
    let at = slot-is l.sems.items c.no.inside.0 c.index_mut.result.now there c.index_mut.ensures.value in
    let r = c.self.inside.ready in
    rw (← c.self.view_is) (elim c.match-answer.branch [
      | in-Woke w ↦ rw (w.self-is, w.answer-is, w.add_tail.ensures) (releases-woke r (r.rows ++ row_of w.in-Woke.t w.base.result w.core.result ∷ []) (shown c.self.inside.threads l.objects l.sems.items l.events.items l.channels) (shown w.wake.new.self l.objects (slice_set l.sems.items c.no.inside.0 c.release-answer.new.self) l.events.items l.channels) c.args.name.now w.in-Woke.t refl (last-threads r.rows (row_of w.in-Woke.t w.base.result w.core.result))
          (woke-seen c.self.inside.threads w.wake.new.self l c.args.name.now c.no.inside.0 w.in-Woke.t c.index_mut.result.now c.release-answer.new.self c.self.invariant.tied is at w.in-Woke.ensures w.wake.ensures))
      | in_default w ↦ rw (w.self-is, w.answer-is) (releases-nobody r (shown c.self.inside.threads l.objects l.sems.items l.events.items l.channels) (shown c.self.inside.threads l.objects (slice_set l.sems.items c.no.inside.0 c.release-answer.new.self) l.events.items l.channels) c.args.name.now c.release-answer.result w.in_default.not-Woke
          (kept-seen c.self.inside.threads l c.args.name.now c.no.inside.0 c.index_mut.result.now c.release-answer.new.self c.release-answer.result c.self.invariant.tied is at c.release-answer.ensures w.in_default.not-Woke))
    ])
