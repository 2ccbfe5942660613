use Rattle.std.proofs.Common.{arith, ◌≡◌, ◌∙◌, Bool, List, Some, None, sym, ap, nat_lt, refl}
use Rattle.std.specs.Option.{option_map}
use Rattle.rt_plain.specs.kernel.State.{Sem as PlainSem}
use Rattle.ipc_counts.specs.Counted.{Counted}
use Rattle.object_box.specs.Objects.{number_of}
use Rattle.kernel_tables.specs.Ready.{with_ready}
use Rattle.kernel_tables.specs.Tied.{tabled}
use Rattle.kernel_tables.specs.declared.wait_list.WaitList.{WaitList}
use Rattle.kernel_tables.proofs.MadeLemmas.{lists-kept}
use Rattle.kernel_tables.proofs.SemLemmas.{seen-none, seen-some, slot-there, slot-is, take-seen, taken-keeps}
use Rattle.kernel_tables.proofs.tables.Tables.take_sem.Goals as goal

pub returns-in_err-no-clause-answer : goal.returns-in_err-no-clause-answer
returns-in_err-no-clause-answer c =
    let none : number_of c.self.inside.lists.objects.sem.objects c.args.name.now ≡ None = sym c.find.ensures ∙ c.in_err-no.was in
    c.from_residual.ensures ∙ rw (← c.self.view_is) (ap (option_map (λ (sem : PlainSem). nat_lt 0 sem.value)) (sym (seen-none c.self.inside.lists.sems.items c.self.inside.lists.objects.sem.objects c.args.name.now none)))

pub returns-in_err-no-clause-state : goal.returns-in_err-no-clause-state
returns-in_err-no-clause-state c =
    let none : number_of c.self.inside.lists.objects.sem.objects c.args.name.now ≡ None = sym c.find.ensures ∙ c.in_err-no.was in
    rw (← c.self.view_is) (sym (rw (seen-none c.self.inside.lists.sems.items c.self.inside.lists.objects.sem.objects c.args.name.now none) refl))

pub index_mut-requires : goal.index_mut-requires
index_mut-requires c =
    let is : number_of c.self.inside.lists.objects.sem.objects c.args.name.now ≡ Some c.no.inside.0 = sym c.find.ensures ∙ c.in_ok-no.was ∙ ap (λ n. Some n) (sym c.no.view_is) in
    omega (arith, slot-there c.self.inside.threads c.self.inside.lists c.args.name.now c.no.inside.0 c.self.invariant.tied is)

pub returns-clause-answer : goal.returns-clause-answer
returns-clause-answer c =
    let is : number_of c.self.inside.lists.objects.sem.objects c.args.name.now ≡ Some c.no.inside.0 = sym c.find.ensures ∙ c.in_ok-no.was ∙ ap (λ n. Some n) (sym c.no.view_is) in
    let there = slot-there c.self.inside.threads c.self.inside.lists c.args.name.now c.no.inside.0 c.self.invariant.tied is in
    rw (← c.self.view_is) (ap (λ (b : Bool). Some b) c.try_take.ensures.exactly
    ∙ ap (λ (x : Counted). Some (nat_lt 0 x.value)) (slot-is c.self.inside.lists.sems.items c.no.inside.0 c.index_mut.result.now there c.index_mut.ensures.value)
    ∙ ap (option_map (λ (sem : PlainSem). nat_lt 0 sem.value)) (sym (seen-some c.self.inside.lists.sems.items c.self.inside.lists.objects.sem.objects c.args.name.now c.no.inside.0 is)))

pub returns-clause-state : goal.returns-clause-state
returns-clause-state c =
    let is : number_of c.self.inside.lists.objects.sem.objects c.args.name.now ≡ Some c.no.inside.0 = sym c.find.ensures ∙ c.in_ok-no.was ∙ ap (λ n. Some n) (sym c.no.view_is) in
    let there = slot-there c.self.inside.threads c.self.inside.lists c.args.name.now c.no.inside.0 c.self.invariant.tied is in
    let at = slot-is c.self.inside.lists.sems.items c.no.inside.0 c.index_mut.result.now there c.index_mut.ensures.value in
    rw (← c.self.view_is) (ap (λ (sems : List PlainSem). record (with_ready (tabled c.self.inside.threads c.self.inside.lists) c.self.inside.ready) { sems = sems })
    (take-seen c.self.inside.lists.objects.sem c.self.inside.lists.sems.items c.args.name.now c.no.inside.0 c.try_take.result c.index_mut.result.now c.try_take.new.self (c.self.invariant.tied.lists.sound WaitList.Sem) there is at c.try_take.ensures.exactly c.try_take.ensures.taken c.try_take.ensures.empty))

pub invariant_of-self : goal.invariant_of-self
invariant_of-self c = record {
  tied =
      let l = c.self.inside.lists in
      let is : number_of l.objects.sem.objects c.args.name.now ≡ Some c.no.inside.0 = sym c.find.ensures ∙ c.in_ok-no.was ∙ ap (λ n. Some n) (sym c.no.view_is) in
      let there = slot-there c.self.inside.threads l c.args.name.now c.no.inside.0 c.self.invariant.tied is in
      let at = slot-is l.sems.items c.no.inside.0 c.index_mut.result.now there c.index_mut.ensures.value in
      lists-kept c.self.inside.threads l _ c.self.invariant.tied refl (taken-keeps l _ c.no.inside.0 c.try_take.result c.index_mut.result.now c.try_take.new.self at c.try_take.ensures.taken c.try_take.ensures.empty refl refl refl);
  ready = c.self.invariant.ready;
}
