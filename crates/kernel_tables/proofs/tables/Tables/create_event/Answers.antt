use Rattle.std.proofs.Common.{arith, ◌≡◌, ◌<◌, ◌∙◌, false, refl, sym, ap, length, subst}
use Rattle.std.specs.Prelude.{Result, Ok, slice_set}
use Rattle.std.proofs.lemmas.List.{get_or_read}
use Rattle.rt_plain.specs.kernel.State.{EventObj}
use Rattle.object_box.specs.Objects.{has_number}
use Rattle.object_box.specs.declared.fault.Make.{Make}
use Rattle.kernel_tables.specs.Listed.{event_at}
use Rattle.kernel_tables.specs.Tabled.{Tabled, CreatesEvent}
use Rattle.kernel_tables.specs.declared.wait_list.WaitList.{WaitList}
use Rattle.kernel_tables.proofs.ListChangeLemmas.{no_event}
use Rattle.kernel_tables.proofs.SemLemmas.{shown}
use Rattle.kernel_tables.proofs.EventLemmas.{tied-made, free-slot, made-seen, refused-seen, err-is, made_event}
use Rattle.kernel_tables.proofs.ReadyLemmas.{creates-event}
use Rattle.kernel_tables.proofs.tables.Tables.create_event.Goals as goal

pub returns-in_err-no : goal.returns-in_err-no
returns-in_err-no c =
    let l = c.self.inside.lists in
    let event : EventObj = record { name = c.args.name; flags = 0; order = c.args.order } in
    let old : Tabled = shown c.self.inside.threads l.objects l.sems.items l.events.items l.channels in
    let after : Tabled = shown c.self.inside.threads c.make.new.self l.sems.items l.events.items l.channels in
    rw (← c.self.view_is) (creates-event c.self.inside.ready old after event c.from_residual.result
    (subst (λ (r : Result Unit Make). CreatesEvent old after event r) (sym (err-is c.from_residual.result c.in_err-no.field-0.0 c.from_residual.ensures))
    (refused-seen c.self.inside.threads l.objects c.make.new.self l.sems.items l.events.items l.channels event c.in_err-no.field-0.0 c.in_err-no.ensures.cause c.in_err-no.ensures.state)))

pub index_mut-requires : goal.index_mut-requires
index_mut-requires c =
    let cause = c.in_ok-no.ensures.cause in
    let slots : length c.self.inside.lists.events.items ≡ c.self.inside.lists.objects.event.limit = c.self.invariant.tied.slots WaitList.Event in
    omega (arith, c.no.view_is, cause.1.1.1, slots)

pub reset-requires : goal.reset-requires
reset-requires c =
    let l = c.self.inside.lists in
    let cause = c.in_ok-no.ensures.cause in
    let free : has_number l.objects.event.objects c.no.inside.0 ≡ false = ap (has_number l.objects.event.objects) c.no.view_is ∙ cause.1.1.0.free in
    let below : c.no.inside.0 < l.objects.event.limit = omega (arith, c.no.view_is, cause.1.1.1) in
    let there : c.no.inside.0 < length l.events.items = subst (λ n. c.no.inside.0 < n) (sym (c.self.invariant.tied.slots WaitList.Event)) below in
    let read : c.index_mut.result.now ≡ event_at l.events.items c.no.inside.0 = get_or_read l.events.items _ _ there c.index_mut.ensures.value no_event in
    free-slot c.self.inside.threads l c.no.inside.0 c.index_mut.result.now c.self.invariant.tied below free read

pub invariant_of-self-2 : goal.invariant_of-self-2
invariant_of-self-2 c = record {
  tied =
      let l = c.self.inside.lists in
      let cause = c.in_ok-no.ensures.cause in
      let below : c.no.inside.0 < l.objects.event.limit = omega (arith, c.no.view_is, cause.1.1.1) in
      let there : c.no.inside.0 < length l.events.items = subst (λ n. c.no.inside.0 < n) (sym (c.self.invariant.tied.slots WaitList.Event)) below in
      let read : c.index_mut.result.now ≡ event_at l.events.items c.no.inside.0 = get_or_read l.events.items _ _ there c.index_mut.ensures.value no_event in
      let made : c.make.new.self ≡ made_event l.objects c.args.name c.no.inside.0 = c.in_ok-no.ensures.state ∙ ap (made_event l.objects c.args.name) (sym c.no.view_is) in
      tied-made c.self.inside.threads l _ c.args.name c.no.inside.0 c.args.order c.index_mut.result.now c.reset.new.self c.self.invariant.tied made cause.0 c.count.ensures.sound refl refl refl read c.reset.ensures;
  ready = c.self.invariant.ready;
}

pub returns : goal.returns
returns c =
    let l = c.self.inside.lists in
    let cause = c.in_ok-no.ensures.cause in
    let below : c.no.inside.0 < l.objects.event.limit = omega (arith, c.no.view_is, cause.1.1.1) in
    let there : c.no.inside.0 < length l.events.items = subst (λ n. c.no.inside.0 < n) (sym (c.self.invariant.tied.slots WaitList.Event)) below in
    let free : has_number l.objects.event.objects c.no.inside.0 ≡ false = ap (has_number l.objects.event.objects) c.no.view_is ∙ cause.1.1.0.free in
    let made : c.make.new.self ≡ made_event l.objects c.args.name c.no.inside.0 = c.in_ok-no.ensures.state ∙ ap (made_event l.objects c.args.name) (sym c.no.view_is) in
    rw (← c.self.view_is)
    (creates-event c.self.inside.ready (shown c.self.inside.threads l.objects l.sems.items l.events.items l.channels) (shown c.self.inside.threads c.make.new.self l.sems.items (slice_set l.events.items c.no.inside.0 c.reset.new.self) l.channels)
    (record { name = c.args.name; flags = 0; order = c.args.order }) (Ok tt)
    (made-seen c.self.inside.threads l.objects c.make.new.self l.sems.items l.events.items l.channels c.args.name c.args.order c.no.inside.0 c.index_mut.result.now c.reset.new.self there cause.0 cause.1.0 free made c.reset.ensures))
