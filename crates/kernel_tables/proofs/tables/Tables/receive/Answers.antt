use Rattle.std.proofs.Common.{arith, ◌≡◌, ◌<◌, List, Option, Some, None, length, refl, sym, ap, ◌∙◌}
use Rattle.std.specs.Option.{option_map}
use Rattle.std.proofs.lemmas.List.{get_or_read}
use Rattle.rt_plain.specs.kernel.State.{EventObj as PlainEvent}
use Rattle.object_box.specs.Objects.{number_of}
use Rattle.ipc_counts.specs.Flags.{Flagged, plain_want}
use Rattle.kernel_tables.specs.Listed.{event_at, plain_event, plain_events}
use Rattle.kernel_tables.specs.Tabled.{found_event, flags_got, events_received}
use Rattle.kernel_tables.specs.Ready.{with_ready}
use Rattle.kernel_tables.specs.Tied.{tabled}
use Rattle.kernel_tables.specs.declared.wait_list.WaitList.{WaitList}
use Rattle.kernel_tables.proofs.ListChangeLemmas.{no_event}
use Rattle.kernel_tables.proofs.MadeLemmas.{lists-kept}
use Rattle.kernel_tables.proofs.EventLemmas.{event-there, event-missing, event-below, event-keeps, received-answer, received-state, received-rows, received-wants}
use Rattle.kernel_tables.proofs.tables.Tables.receive.Goals as goal

pub returns-in_err-no-clause-answer : goal.returns-in_err-no-clause-answer
returns-in_err-no-clause-answer c =
    let l = c.self.inside.lists in
    let none : found_event (plain_events l) c.args.name.now ≡ None = event-missing l.objects.event l.events.items c.args.name.now (sym c.find.ensures ∙ c.in_err-no.was) in
    rw (← c.self.view_is) (c.from_residual.ensures ∙ sym (ap (option_map (flags_got (plain_want c.args.want))) none))

pub returns-in_err-no-clause-state : goal.returns-in_err-no-clause-state
returns-in_err-no-clause-state c =
    let l = c.self.inside.lists in
    let none : found_event (plain_events l) c.args.name.now ≡ None = event-missing l.objects.event l.events.items c.args.name.now (sym c.find.ensures ∙ c.in_err-no.was) in
    rw (← c.self.view_is) (ap (λ (o : Option PlainEvent). record (with_ready (tabled c.self.inside.threads l) c.self.inside.ready) { events = events_received (plain_events l) (plain_want c.args.want) o }) (sym none))

pub index_mut-requires : goal.index_mut-requires
index_mut-requires c =
    let l = c.self.inside.lists in
    let number : number_of l.objects.event.objects c.args.name.now ≡ Some c.no.inside.0 = sym c.find.ensures ∙ c.in_ok-no.was ∙ ap Some (sym c.no.view_is) in
    omega (arith, event-below c.self.inside.threads l c.args.name.now c.no.inside.0 c.self.invariant.tied number, l.events.ok.0)

pub returns-clause-answer : goal.returns-clause-answer
returns-clause-answer c =
    let l = c.self.inside.lists in
    let number : number_of l.objects.event.objects c.args.name.now ≡ Some c.no.inside.0 = sym c.find.ensures ∙ c.in_ok-no.was ∙ ap Some (sym c.no.view_is) in
    let there : c.no.inside.0 < length l.events.items = event-below c.self.inside.threads l c.args.name.now c.no.inside.0 c.self.invariant.tied number in
    let read : c.index_mut.result.now ≡ event_at l.events.items c.no.inside.0 = get_or_read l.events.items _ _ there c.index_mut.ensures.value no_event in
    let answer : c.try_recv.result ≡ flags_got (plain_want c.args.want) (plain_event l.events.items (record { no = c.no.inside.0; name = c.args.name.now })) = rw (← read) (received-answer c.index_mut.result.now.flags (plain_want c.args.want) c.try_recv.result c.try_recv.ensures.exactly c.try_recv.ensures.value) in
    rw (← c.self.view_is) (ap Some answer ∙ sym (ap (option_map (flags_got (plain_want c.args.want))) (event-there l.objects.event l.events.items c.args.name.now c.no.inside.0 number)))

pub returns-clause-state : goal.returns-clause-state
returns-clause-state c =
    let l = c.self.inside.lists in
    let number : number_of l.objects.event.objects c.args.name.now ≡ Some c.no.inside.0 = sym c.find.ensures ∙ c.in_ok-no.was ∙ ap Some (sym c.no.view_is) in
    let there : c.no.inside.0 < length l.events.items = event-below c.self.inside.threads l c.args.name.now c.no.inside.0 c.self.invariant.tied number in
    let read : c.index_mut.result.now ≡ event_at l.events.items c.no.inside.0 = get_or_read l.events.items _ _ there c.index_mut.ensures.value no_event in
    let events = received-state l.objects.event l.events.items c.args.name.now c.no.inside.0 (plain_want c.args.want) c.index_mut.result.now c.try_recv.new.self c.try_recv.result (c.self.invariant.tied.lists.sound WaitList.Event) number there read
    c.try_recv.ensures.exactly c.try_recv.ensures.cleared c.try_recv.ensures.none in
    let found : found_event (plain_events l) c.args.name.now ≡ Some (plain_event l.events.items (record { no = c.no.inside.0; name = c.args.name.now })) = event-there l.objects.event l.events.items c.args.name.now c.no.inside.0 number in
    rw (← c.self.view_is) (ap (λ (all : List PlainEvent). record (with_ready (tabled c.self.inside.threads l) c.self.inside.ready) { events = all }) (events ∙ ap (events_received (plain_events l) (plain_want c.args.want)) (sym found)))

pub invariant_of-self : goal.invariant_of-self
invariant_of-self c = record {
  tied =
      let l = c.self.inside.lists in
      let number : number_of l.objects.event.objects c.args.name.now ≡ Some c.no.inside.0 = sym c.find.ensures ∙ c.in_ok-no.was ∙ ap Some (sym c.no.view_is) in
      let there : c.no.inside.0 < length l.events.items = event-below c.self.inside.threads l c.args.name.now c.no.inside.0 c.self.invariant.tied number in
      let read : c.index_mut.result.now ≡ event_at l.events.items c.no.inside.0 = get_or_read l.events.items _ _ there c.index_mut.ensures.value no_event in
      let want = plain_want c.args.want in
      let e = c.try_recv.ensures in
      lists-kept c.self.inside.threads l _ c.self.invariant.tied refl (event-keeps l _ c.no.inside.0 c.try_recv.new.self refl refl refl
      (received-rows want c.index_mut.result.now c.try_recv.new.self c.try_recv.result e.cleared e.none ∙ ap (λ (x : Flagged). x.waiters.rows) read)
      (received-wants want c.index_mut.result.now c.try_recv.new.self c.try_recv.result e.cleared e.none ∙ ap (λ (x : Flagged). x.wants) read));
  ready = c.self.invariant.ready;
}
