use Rattle.std.proofs.Common.{arith, ◌≡◌, ◌<◌, ◌∙◌, false, sym, ap, length, subst, refl}
use Rattle.std.specs.Prelude.{Result, Ok, slice_set}
use Rattle.rt_plain.specs.kernel.State.{Sem}
use Rattle.object_box.specs.Objects.{has_number}
use Rattle.object_box.specs.declared.fault.Make.{Make}
use Rattle.ipc_counts.specs.Counted.{Counted}
use Rattle.kernel_tables.specs.declared.wait_list.WaitList.{WaitList}
use Rattle.kernel_tables.specs.Tabled.{Tabled, CreatesSem}
use Rattle.kernel_tables.proofs.SemLemmas.{slot-is, tied-made, free-slot, made-seen, refused-seen, err-is, shown, made_sem}
use Rattle.kernel_tables.proofs.ReadyLemmas.{creates-sem}
use Rattle.kernel_tables.proofs.tables.Tables.create_sem.Goals as goal

pub returns-in_err-no : goal.returns-in_err-no
returns-in_err-no c =
    let l = c.self.inside.lists in
    let sem : Sem = record { name = c.args.name; value = c.args.value; order = c.args.order } in
    let old : Tabled = shown c.self.inside.threads l.objects l.sems.items l.events.items l.channels in
    let after : Tabled = shown c.self.inside.threads c.make.new.self l.sems.items l.events.items l.channels in
    rw (← c.self.view_is) (creates-sem c.self.inside.ready old after sem c.from_residual.result
    (subst (λ (r : Result Unit Make). CreatesSem old after sem r) (sym (err-is c.from_residual.result c.in_err-no.field-0.0 c.from_residual.ensures))
    (refused-seen c.self.inside.threads l.objects c.make.new.self l.sems.items l.events.items l.channels sem c.in_err-no.field-0.0 c.in_err-no.ensures.cause c.in_err-no.ensures.state)))

pub index_mut-requires : goal.index_mut-requires
index_mut-requires c =
    let cause = c.in_ok-no.ensures.cause in
    let slots : length c.self.inside.lists.sems.items ≡ c.self.inside.lists.objects.sem.limit = c.self.invariant.tied.slots WaitList.Sem in
    omega (arith, c.no.view_is, cause.1.1.1, slots)

pub reset-requires : goal.reset-requires
reset-requires c =
    let cause = c.in_ok-no.ensures.cause in
    let free : has_number c.self.inside.lists.objects.sem.objects c.no.inside.0 ≡ false = ap (has_number c.self.inside.lists.objects.sem.objects) c.no.view_is ∙ cause.1.1.0.free in
    let below : c.no.inside.0 < c.self.inside.lists.objects.sem.limit = omega (arith, c.no.view_is, cause.1.1.1) in
    let there : c.no.inside.0 < length c.self.inside.lists.sems.items = subst (λ n. c.no.inside.0 < n) (sym (c.self.invariant.tied.slots WaitList.Sem)) below in
    free-slot c.self.inside.threads c.self.inside.lists c.no.inside.0 c.index_mut.result.now c.self.invariant.tied below free (slot-is c.self.inside.lists.sems.items c.no.inside.0 c.index_mut.result.now there c.index_mut.ensures.value)

pub invariant_of-self-2 : goal.invariant_of-self-2
invariant_of-self-2 c = record {
  tied =
      let cause = c.in_ok-no.ensures.cause in
      let below : c.no.inside.0 < c.self.inside.lists.objects.sem.limit = omega (arith, c.no.view_is, cause.1.1.1) in
      let there : c.no.inside.0 < length c.self.inside.lists.sems.items = subst (λ n. c.no.inside.0 < n) (sym (c.self.invariant.tied.slots WaitList.Sem)) below in
      let made : c.make.new.self ≡ made_sem c.self.inside.lists.objects c.args.name c.no.inside.0 = c.in_ok-no.ensures.state ∙ ap (made_sem c.self.inside.lists.objects c.args.name) (sym c.no.view_is) in
      let at = slot-is c.self.inside.lists.sems.items c.no.inside.0 c.index_mut.result.now there c.index_mut.ensures.value in
      tied-made c.self.inside.threads c.self.inside.lists _ c.args.name c.no.inside.0 c.reset.new.self c.self.invariant.tied made cause.0 c.count.ensures.sound refl refl refl (ap (λ (x : Counted). x.waiters.rows) c.reset.ensures ∙ ap (λ (x : Counted). x.waiters.rows) at);
  ready = c.self.invariant.ready;
}

pub returns : goal.returns
returns c =
    let cause = c.in_ok-no.ensures.cause in
    let below : c.no.inside.0 < c.self.inside.lists.objects.sem.limit = omega (arith, c.no.view_is, cause.1.1.1) in
    let there : c.no.inside.0 < length c.self.inside.lists.sems.items = subst (λ n. c.no.inside.0 < n) (sym (c.self.invariant.tied.slots WaitList.Sem)) below in
    let free : has_number c.self.inside.lists.objects.sem.objects c.no.inside.0 ≡ false = ap (has_number c.self.inside.lists.objects.sem.objects) c.no.view_is ∙ cause.1.1.0.free in
    let made : c.make.new.self ≡ made_sem c.self.inside.lists.objects c.args.name c.no.inside.0 = c.in_ok-no.ensures.state ∙ ap (made_sem c.self.inside.lists.objects c.args.name) (sym c.no.view_is) in
    rw (← c.self.view_is, c.reset.ensures) (creates-sem c.self.inside.ready (shown c.self.inside.threads c.self.inside.lists.objects c.self.inside.lists.sems.items c.self.inside.lists.events.items c.self.inside.lists.channels)
    (shown c.self.inside.threads c.make.new.self (slice_set c.self.inside.lists.sems.items c.no.inside.0 (record { value = c.args.value; waiters = record { order = c.args.order; rows = c.index_mut.result.now.waiters.rows } })) c.self.inside.lists.events.items c.self.inside.lists.channels)
    (record { name = c.args.name; value = c.args.value; order = c.args.order }) (Ok tt)
    (made-seen c.self.inside.threads c.self.inside.lists.objects c.make.new.self c.self.inside.lists.sems.items c.self.inside.lists.events.items c.self.inside.lists.channels c.args.name c.args.value c.args.order c.no.inside.0 c.index_mut.result.now.waiters.rows there cause.0 cause.1.0 free made))
