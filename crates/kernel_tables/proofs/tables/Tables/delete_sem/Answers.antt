use Rattle.std.proofs.Common.{◌++◌, map, ◌≡◌, ◌<◌, ◌∙◌, Some, is_some, refl, sym, subst, ap}
use Rattle.std.proofs.lemmas.Option.{none-some}
use Rattle.rt_base.specs.declared.codes.Code.{Code}
use Rattle.object_box.specs.Classes.{AllObjects}
use Rattle.kernel_tables.specs.Ready.{IsReady, row_for}
use Rattle.kernel_tables.specs.Tabled.{without_sem}
use Rattle.object_box.specs.Objects.{number_of, has_number}
use Rattle.kernel_tables.specs.declared.wait_list.WaitList.{WaitList}
use Rattle.kernel_tables.proofs.FoundLemmas.{found-has, found-below}
use Rattle.kernel_tables.proofs.SemLemmas.{shown, seen-none, seen-some, woken-seen, removed-seen, tied-removed}
use Rattle.kernel_tables.proofs.ReadyLemmas.{IsEntered, woken-entered, removed-with, more-threads}
use Rattle.kernel_tables.proofs.tables.Tables.delete_sem.Goals as goal

pub returns-in_default-clause-answer : goal.returns-in_default-clause-answer
returns-in_default-clause-answer c =
    let l = c.self.inside.lists in
    rw (← c.self.view_is) (sym (ap is_some (seen-none l.sems.items l.objects.sem.objects c.args.name.now (sym c.find.ensures ∙ c.in_default.is))))

pub returns-in_default-clause-woken : goal.returns-in_default-clause-woken
returns-in_default-clause-woken c =
    let l = c.self.inside.lists in
    rw (← c.self.view_is) (λ sem found. absurd (none-some sem (sym (seen-none l.sems.items l.objects.sem.objects c.args.name.now (sym c.find.ensures ∙ c.in_default.is)) ∙ found)))

pub wake_all-requires-clause-there : goal.wake_all-requires-clause-there
wake_all-requires-clause-there c =
    let l = c.self.inside.lists in
    let is : number_of l.objects.sem.objects c.args.name.now ≡ Some c.in-Some.no = sym c.find.ensures ∙ c.in-Some.is in
    subst (λ n. c.in-Some.no < n) (sym (c.self.invariant.tied.slots WaitList.Sem)) (found-below l.objects.sem c.args.name.now c.in-Some.no (c.self.invariant.tied.lists.sound WaitList.Sem) is)

entered : (c : goal.After-count) → IsEntered c.wake_all.new.threads c.self.inside.ready c.wake_all.new.woken
entered c =
    let l = c.self.inside.lists in
    let is : number_of l.objects.sem.objects c.args.name.now ≡ Some c.in-Some.no = sym c.find.ensures ∙ c.in-Some.is in
    woken-entered Code.Error c.self.inside.threads c.wake_all.new.threads l c.self.inside.ready WaitList.Sem c.in-Some.no c.wake_all.new.woken c.self.invariant
    (subst (λ n. c.in-Some.no < n) (sym (c.self.invariant.tied.slots WaitList.Sem)) (found-below l.objects.sem c.args.name.now c.in-Some.no (c.self.invariant.tied.lists.sound WaitList.Sem) is)) c.wake_all.ensures.woken c.wake_all.ensures.threads

pub enter_all-requires : goal.enter_all-requires
enter_all-requires c =
    let l = c.self.inside.lists in
    let is : number_of l.objects.sem.objects c.args.name.now ≡ Some c.in-Some.no = sym c.find.ensures ∙ c.in-Some.is in
    (woken-entered Code.Error c.self.inside.threads c.wake_all.new.threads l c.self.inside.ready WaitList.Sem c.in-Some.no c.wake_all.new.woken c.self.invariant
    (subst (λ n. c.in-Some.no < n) (sym (c.self.invariant.tied.slots WaitList.Sem)) (found-below l.objects.sem c.args.name.now c.in-Some.no (c.self.invariant.tied.lists.sound WaitList.Sem) is)) c.wake_all.ensures.woken c.wake_all.ensures.threads).may

pub remove-requires : goal.remove-requires
remove-requires c = ap (λ (a : AllObjects). has_number a.sem.objects c.in-Some.no) c.wake_all.ensures.shown.objects ∙ found-has c.self.inside.lists.objects.sem.objects c.args.name.now c.in-Some.no (sym c.find.ensures ∙ c.in-Some.is)

pub invariant_of-self : goal.invariant_of-self
invariant_of-self c = record {
  tied =
      let l = c.self.inside.lists in
      let w = c.wake_all.ensures in
      let is : number_of l.objects.sem.objects c.args.name.now ≡ Some c.in-Some.no = sym c.find.ensures ∙ c.in-Some.is in
      tied-removed c.wake_all.new.threads c.wake_all.new.lists _ c.args.name.now c.in-Some.no w.tied (ap (λ (a : AllObjects). number_of a.sem.objects c.args.name.now) w.shown.objects ∙ is) w.empty
      c.remove.ensures c.count.ensures.sound refl refl refl;
  ready = subst (IsReady c.wake_all.new.threads) (sym c.enter_all.ensures) (entered c).ready;
}

pub returns-clause-answer : goal.returns-clause-answer
returns-clause-answer c =
    let l = c.self.inside.lists in
    let is : number_of l.objects.sem.objects c.args.name.now ≡ Some c.in-Some.no = sym c.find.ensures ∙ c.in-Some.is in
    rw (← c.self.view_is) (sym (ap is_some (seen-some l.sems.items l.objects.sem.objects c.args.name.now c.in-Some.no is)))

pub returns-clause-woken : goal.returns-clause-woken
returns-clause-woken c =
    let l = c.self.inside.lists in
    let is : number_of l.objects.sem.objects c.args.name.now ≡ Some c.in-Some.no = sym c.find.ensures ∙ c.in-Some.is in
    rw (← c.self.view_is) (λ sem found. woken-seen c.self.inside.threads l c.args.name.now c.in-Some.no c.wake_all.new.woken sem c.self.invariant.tied is c.wake_all.ensures.woken found)

pub returns-clause-state : goal.returns-clause-state
returns-clause-state c =
    let l = c.self.inside.lists in
    let w = c.wake_all.ensures in
    let is : number_of l.objects.sem.objects c.args.name.now ≡ Some c.in-Some.no = sym c.find.ensures ∙ c.in-Some.is in
    let r = c.self.inside.ready in
    rw (← c.self.view_is, c.enter_all.ensures) (removed-with r (r.rows ++ map (row_for c.wake_all.new.threads) c.wake_all.new.woken) (shown c.wake_all.new.threads c.remove.new.self c.wake_all.new.lists.sems.items c.wake_all.new.lists.events.items c.wake_all.new.lists.channels) (without_sem (shown c.self.inside.threads l.objects l.sems.items l.events.items l.channels) c.args.name.now c.wake_all.new.woken) c.wake_all.new.woken (more-threads c.wake_all.new.threads r.rows c.wake_all.new.woken)
    (removed-seen c.self.inside.threads c.wake_all.new.threads l c.wake_all.new.lists c.remove.new.self c.args.name.now c.in-Some.no c.wake_all.new.woken (c.self.invariant.tied.lists.sound WaitList.Sem) is w.threads w.shown c.remove.ensures))

pub returns-clause-few : goal.returns-clause-few
returns-clause-few c = rw (← c.self.view_is) c.wake_all.ensures.few
