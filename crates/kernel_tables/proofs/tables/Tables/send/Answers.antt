use Rattle.std.proofs.Common.{arith, ◌++◌, subst, ◌≡◌, ◌<◌, ℕ, List, Some, length, map, slice_get, slice_set, bit_or, is_some, refl, sym, ap, ◌∙◌}
use Rattle.std.proofs.lemmas.List.{get_or_read}
use Rattle.std.proofs.lemmas.Option.{none-some}
use Rattle.rt_plain.specs.kernel.State.{Thread}
use Rattle.object_box.specs.Objects.{number_of}
use Rattle.ipc_counts.specs.Flags.{Flagged}
use Rattle.ipc_counts.specs.Sent.{sent, wanting, woken_by}
use Rattle.kernel_tables.specs.declared.lists.Lists.{Lists}
use Rattle.kernel_tables.specs.declared.wait_list.WaitList.{WaitList}
use Rattle.kernel_tables.specs.Listed.{event_at, plain_event}
use Rattle.kernel_tables.specs.WaitLists.{calls_in}
use Rattle.ready_list.specs.Ordered.{ReadySeen, with_rows}
use Rattle.kernel_tables.specs.Ready.{IsReady, MayEnter, row_for, threads_in}
use Rattle.kernel_tables.specs.Tabled.{Tabled, all_given, sent_to, woken_on}
use Rattle.kernel_tables.specs.Tied.{tabled}
use Rattle.kernel_tables.proofs.ListChangeLemmas.{no_event}
use Rattle.kernel_tables.proofs.WokenLemmas.{InLine}
use Rattle.kernel_tables.proofs.EventLemmas.{event-wide, event-there, event-missing, event-below, tied-sent, sent-each, sent-few, sent-woken, sent-state, each-at, giving-more, giving-end}
use Rattle.kernel_tables.proofs.ReadyLemmas.{IsEntered, given-entered, removed-with, more-threads}
use Rattle.kernel_tables.proofs.tables.Tables.send.Goals as goal

pub returns-in_default-clause-answer : goal.returns-in_default-clause-answer
returns-in_default-clause-answer c =
    let l = c.self.inside.lists in
    rw (← c.self.view_is) (sym (ap is_some (event-missing l.objects.event l.events.items c.args.name.now (sym c.find.ensures ∙ c.in_default.is))))

pub returns-in_default-clause-woken : goal.returns-in_default-clause-woken
returns-in_default-clause-woken c =
    let l = c.self.inside.lists in
    rw (← c.self.view_is) (λ event found. absurd (none-some event (sym (event-missing l.objects.event l.events.items c.args.name.now (sym c.find.ensures ∙ c.in_default.is)) ∙ found)))

pub returns-in_default-clause-state : goal.returns-in_default-clause-state
returns-in_default-clause-state c =
    let l = c.self.inside.lists in
    rw (← c.self.view_is) (λ event found. absurd (none-some event (sym (event-missing l.objects.event l.events.items c.args.name.now (sym c.find.ensures ∙ c.in_default.is)) ∙ found)))

pub returns-in_default-clause-few : goal.returns-in_default-clause-few
returns-in_default-clause-few c =
    let l = c.self.inside.lists in
    rw (← c.self.view_is) (λ event found. absurd (none-some event (sym (event-missing l.objects.event l.events.items c.args.name.now (sym c.find.ensures ∙ c.in_default.is)) ∙ found)))

pub index_mut-requires : goal.index_mut-requires
index_mut-requires c =
    let l = c.self.inside.lists in
    let number : number_of l.objects.event.objects c.args.name.now ≡ Some c.no.inside.0 = sym c.find.ensures ∙ c.in-Some.is ∙ ap Some (sym c.no.view_is) in
    omega (arith, event-below c.self.inside.threads l c.args.name.now c.no.inside.0 c.self.invariant.tied number, l.events.ok.0)

pub send-requires : goal.send-requires
send-requires c =
    let l = c.self.inside.lists in
    let number : number_of l.objects.event.objects c.args.name.now ≡ Some c.no.inside.0 = sym c.find.ensures ∙ c.in-Some.is ∙ ap Some (sym c.no.view_is) in
    let there : c.no.inside.0 < length l.events.items = event-below c.self.inside.threads l c.args.name.now c.no.inside.0 c.self.invariant.tied number in
    let read : c.index_mut.result.now ≡ event_at l.events.items c.no.inside.0 = get_or_read l.events.items _ _ there c.index_mut.ensures.value no_event in
    omega (
      arith,
      ap (λ (e : Flagged). length e.waiters.rows) read,
      event-wide c.self.inside.threads l c.no.inside.0 c.self.invariant.tied there,
      c.len.ensures.len,
      c.len.ensures.few,
    )

pub loop-i-init : goal.loop-i-init
loop-i-init c = record { giving = record { given = refl; len = refl }; lists = refl; ready = refl }

entered : (c : goal.After-enter_given) → IsEntered c.loop-i.self-inside.threads c.self.inside.ready (map (λ (w : ℕ × ℕ). w.0) c.send.new.self)
entered c =
    let l = c.self.inside.lists in
    let number : number_of l.objects.event.objects c.args.name.now ≡ Some c.no.inside.0 = sym c.find.ensures ∙ c.in-Some.is ∙ ap Some (sym c.no.view_is) in
    let there : c.no.inside.0 < length l.events.items = event-below c.self.inside.threads l c.args.name.now c.no.inside.0 c.self.invariant.tied number in
    let read : c.index_mut.result.now ≡ event_at l.events.items c.no.inside.0 = get_or_read l.events.items _ _ there c.index_mut.ensures.value no_event in
    let woken : c.send.new.self ≡ woken_by (bit_or (event_at l.events.items c.no.inside.0).flags c.args.mask) (wanting (event_at l.events.items c.no.inside.0)) =
    c.send.ensures.woken ∙ ap (λ (e : Flagged). woken_by (bit_or e.flags c.args.mask) (wanting e)) read in
    let event_is : c.send.new.event ≡ sent (event_at l.events.items c.no.inside.0) c.args.mask = c.send.ensures.event ∙ ap (λ (e : Flagged). sent e c.args.mask) read in
    let rows : c.loop-i.self-inside.threads ≡ all_given c.self.inside.threads (woken_by (bit_or (event_at l.events.items c.no.inside.0).flags c.args.mask) (wanting (event_at l.events.items c.no.inside.0))) =
    giving-end c.self.inside.threads c.loop-i.self-inside.threads c.send.new.self c.loop-i.i c.loop-i.invariant.giving (omega (arith, c.loop-i-test.false, c.len-i-end.ensures)) ∙ ap (all_given c.self.inside.threads) woken in
    given-entered c.self.inside.threads c.loop-i.self-inside.threads l c.self.inside.ready c.no.inside.0 (bit_or (event_at l.events.items c.no.inside.0).flags c.args.mask) c.send.new.self c.self.invariant there woken
    (giving-end c.self.inside.threads c.loop-i.self-inside.threads c.send.new.self c.loop-i.i c.loop-i.invariant.giving (omega (arith, c.loop-i-test.false, c.len-i-end.ensures)))

pub enter_given-requires : goal.enter_given-requires
enter_given-requires c =
    let l = c.self.inside.lists in
    let number : number_of l.objects.event.objects c.args.name.now ≡ Some c.no.inside.0 = sym c.find.ensures ∙ c.in-Some.is ∙ ap Some (sym c.no.view_is) in
    let there : c.no.inside.0 < length l.events.items = event-below c.self.inside.threads l c.args.name.now c.no.inside.0 c.self.invariant.tied number in
    let read : c.index_mut.result.now ≡ event_at l.events.items c.no.inside.0 = get_or_read l.events.items _ _ there c.index_mut.ensures.value no_event in
    let woken : c.send.new.self ≡ woken_by (bit_or (event_at l.events.items c.no.inside.0).flags c.args.mask) (wanting (event_at l.events.items c.no.inside.0)) =
    c.send.ensures.woken ∙ ap (λ (e : Flagged). woken_by (bit_or e.flags c.args.mask) (wanting e)) read in
    let event_is : c.send.new.event ≡ sent (event_at l.events.items c.no.inside.0) c.args.mask = c.send.ensures.event ∙ ap (λ (e : Flagged). sent e c.args.mask) read in
    let rows : c.loop-i.self-inside.threads ≡ all_given c.self.inside.threads (woken_by (bit_or (event_at l.events.items c.no.inside.0).flags c.args.mask) (wanting (event_at l.events.items c.no.inside.0))) =
    giving-end c.self.inside.threads c.loop-i.self-inside.threads c.send.new.self c.loop-i.i c.loop-i.invariant.giving (omega (arith, c.loop-i-test.false, c.len-i-end.ensures)) ∙ ap (all_given c.self.inside.threads) woken in
    subst (λ (r : ReadySeen). MayEnter c.loop-i.self-inside.threads r (map (λ (w : ℕ × ℕ). w.0) c.send.new.self)) (sym c.loop-i.invariant.ready)
    (given-entered c.self.inside.threads c.loop-i.self-inside.threads l c.self.inside.ready c.no.inside.0 (bit_or (event_at l.events.items c.no.inside.0).flags c.args.mask) c.send.new.self c.self.invariant there woken
    (giving-end c.self.inside.threads c.loop-i.self-inside.threads c.send.new.self c.loop-i.i c.loop-i.invariant.giving (omega (arith, c.loop-i-test.false, c.len-i-end.ensures)))).may

next : (c : goal.After-enter_given) → c.enter_given.new.ready ≡ with_rows c.self.inside.ready (c.self.inside.ready.rows ++ map (row_for c.loop-i.self-inside.threads) (map (λ (w : ℕ × ℕ). w.0) c.send.new.self))
next c = c.enter_given.ensures ∙ ap (λ (r : ReadySeen). with_rows r (r.rows ++ map (row_for c.loop-i.self-inside.threads) (map (λ (w : ℕ × ℕ). w.0) c.send.new.self))) c.loop-i.invariant.ready

pub invariant_of-self : goal.invariant_of-self
invariant_of-self c = record {
  tied =
      let l = c.self.inside.lists in
      let number : number_of l.objects.event.objects c.args.name.now ≡ Some c.no.inside.0 = sym c.find.ensures ∙ c.in-Some.is ∙ ap Some (sym c.no.view_is) in
      let there : c.no.inside.0 < length l.events.items = event-below c.self.inside.threads l c.args.name.now c.no.inside.0 c.self.invariant.tied number in
      let read : c.index_mut.result.now ≡ event_at l.events.items c.no.inside.0 = get_or_read l.events.items _ _ there c.index_mut.ensures.value no_event in
      let woken : c.send.new.self ≡ woken_by (bit_or (event_at l.events.items c.no.inside.0).flags c.args.mask) (wanting (event_at l.events.items c.no.inside.0)) =
      c.send.ensures.woken ∙ ap (λ (e : Flagged). woken_by (bit_or e.flags c.args.mask) (wanting e)) read in
      let event_is : c.send.new.event ≡ sent (event_at l.events.items c.no.inside.0) c.args.mask = c.send.ensures.event ∙ ap (λ (e : Flagged). sent e c.args.mask) read in
      let rows : c.loop-i.self-inside.threads ≡ all_given c.self.inside.threads (woken_by (bit_or (event_at l.events.items c.no.inside.0).flags c.args.mask) (wanting (event_at l.events.items c.no.inside.0))) =
      giving-end c.self.inside.threads c.loop-i.self-inside.threads c.send.new.self c.loop-i.i c.loop-i.invariant.giving (omega (arith, c.loop-i-test.false, c.len-i-end.ensures)) ∙ ap (all_given c.self.inside.threads) woken in
      tied-sent c.self.inside.threads l c.no.inside.0 c.self.invariant.tied there c.args.mask c.loop-i.self-inside.threads c.loop-i.self-inside.lists rows (ap (λ (x : Lists). x.objects) c.loop-i.invariant.lists) (ap (λ (x : Lists). x.sems.items) c.loop-i.invariant.lists)
      (ap (λ (x : Lists). x.events.items) c.loop-i.invariant.lists ∙ ap (slice_set l.events.items c.no.inside.0) event_is) (ap (λ (x : Lists). x.channels) c.loop-i.invariant.lists);
  ready = subst (IsReady c.loop-i.self-inside.threads) (sym (next c)) (entered c).ready;
}

pub give-requires : goal.give-requires
give-requires c =
    let l = c.self.inside.lists in
    let number : number_of l.objects.event.objects c.args.name.now ≡ Some c.no.inside.0 = sym c.find.ensures ∙ c.in-Some.is ∙ ap Some (sym c.no.view_is) in
    let there : c.no.inside.0 < length l.events.items = event-below c.self.inside.threads l c.args.name.now c.no.inside.0 c.self.invariant.tied number in
    let read : c.index_mut.result.now ≡ event_at l.events.items c.no.inside.0 = get_or_read l.events.items _ _ there c.index_mut.ensures.value no_event in
    let woken : c.send.new.self ≡ woken_by (bit_or (event_at l.events.items c.no.inside.0).flags c.args.mask) (wanting (event_at l.events.items c.no.inside.0)) =
    c.send.ensures.woken ∙ ap (λ (e : Flagged). woken_by (bit_or e.flags c.args.mask) (wanting e)) read in
    let p = calls_in l.objects WaitList.Event c.no.inside.0 in
    let each = sent-each c.self.inside.threads l c.no.inside.0 c.self.invariant.tied there (bit_or (event_at l.events.items c.no.inside.0).flags c.args.mask) in
    let at : slice_get (woken_by (bit_or (event_at l.events.items c.no.inside.0).flags c.args.mask) (wanting (event_at l.events.items c.no.inside.0))) c.loop-i.i ≡ Some c.at-t.result = ap (λ (ws : List (ℕ × ℕ)). slice_get ws c.loop-i.i) (sym woken) ∙ c.at-t.ensures in
    omega (arith, (each-at (InLine c.self.inside.threads p) (λ (w : ℕ × ℕ). w.0) _ c.loop-i.i c.at-t.result each at).there, c.loop-i.invariant.giving.len)

pub loop-i-preserved : goal.loop-i-preserved
loop-i-preserved c = record {
  giving = giving-more c.self.inside.threads c.loop-i.self-inside.threads c.give.new.self c.send.new.self c.loop-i.i c.at-t.result c.loop-i.invariant.giving c.at-t.ensures c.give.ensures;
  lists = c.loop-i.invariant.lists;
  ready = c.loop-i.invariant.ready;
}

pub returns-clause-answer : goal.returns-clause-answer
returns-clause-answer c =
    let l = c.self.inside.lists in
    let number : number_of l.objects.event.objects c.args.name.now ≡ Some c.no.inside.0 = sym c.find.ensures ∙ c.in-Some.is ∙ ap Some (sym c.no.view_is) in
    rw (← c.self.view_is) (sym (ap is_some (event-there l.objects.event l.events.items c.args.name.now c.no.inside.0 number)))

pub returns-clause-woken : goal.returns-clause-woken
returns-clause-woken c =
    let l = c.self.inside.lists in
    let number : number_of l.objects.event.objects c.args.name.now ≡ Some c.no.inside.0 = sym c.find.ensures ∙ c.in-Some.is ∙ ap Some (sym c.no.view_is) in
    let there : c.no.inside.0 < length l.events.items = event-below c.self.inside.threads l c.args.name.now c.no.inside.0 c.self.invariant.tied number in
    let read : c.index_mut.result.now ≡ event_at l.events.items c.no.inside.0 = get_or_read l.events.items _ _ there c.index_mut.ensures.value no_event in
    let woken : c.send.new.self ≡ woken_by (bit_or (event_at l.events.items c.no.inside.0).flags c.args.mask) (wanting (event_at l.events.items c.no.inside.0)) =
    c.send.ensures.woken ∙ ap (λ (e : Flagged). woken_by (bit_or e.flags c.args.mask) (wanting e)) read in
    rw (← c.self.view_is) (λ event found. woken ∙ sent-woken c.self.inside.threads l c.no.inside.0 c.self.invariant.tied there c.args.name.now c.args.mask event number found)

pub returns-clause-state : goal.returns-clause-state
returns-clause-state c =
    let l = c.self.inside.lists in
    let number : number_of l.objects.event.objects c.args.name.now ≡ Some c.no.inside.0 = sym c.find.ensures ∙ c.in-Some.is ∙ ap Some (sym c.no.view_is) in
    let there : c.no.inside.0 < length l.events.items = event-below c.self.inside.threads l c.args.name.now c.no.inside.0 c.self.invariant.tied number in
    let read : c.index_mut.result.now ≡ event_at l.events.items c.no.inside.0 = get_or_read l.events.items _ _ there c.index_mut.ensures.value no_event in
    let woken : c.send.new.self ≡ woken_by (bit_or (event_at l.events.items c.no.inside.0).flags c.args.mask) (wanting (event_at l.events.items c.no.inside.0)) =
    c.send.ensures.woken ∙ ap (λ (e : Flagged). woken_by (bit_or e.flags c.args.mask) (wanting e)) read in
    let event_is : c.send.new.event ≡ sent (event_at l.events.items c.no.inside.0) c.args.mask = c.send.ensures.event ∙ ap (λ (e : Flagged). sent e c.args.mask) read in
    let rows : c.loop-i.self-inside.threads ≡ all_given c.self.inside.threads (woken_by (bit_or (event_at l.events.items c.no.inside.0).flags c.args.mask) (wanting (event_at l.events.items c.no.inside.0))) =
    giving-end c.self.inside.threads c.loop-i.self-inside.threads c.send.new.self c.loop-i.i c.loop-i.invariant.giving (omega (arith, c.loop-i-test.false, c.len-i-end.ensures)) ∙ ap (all_given c.self.inside.threads) woken in
    let seen : List Thread → Flagged → Tabled = λ all f. record (tabled all l) { events = map (plain_event (slice_set l.events.items c.no.inside.0 f)) l.objects.event.objects } in
    let now : tabled c.loop-i.self-inside.threads c.loop-i.self-inside.lists ≡ seen _ (sent (event_at l.events.items c.no.inside.0) c.args.mask) =
    ap (tabled c.loop-i.self-inside.threads) c.loop-i.invariant.lists ∙ ap (λ all. seen all c.send.new.event) rows ∙ ap (seen _) event_is in
    let r = c.self.inside.ready in
    let by_flags = woken_by (bit_or (event_at l.events.items c.no.inside.0).flags c.args.mask) (wanting (event_at l.events.items c.no.inside.0)) in
    let left : List ℕ → Tabled = λ ready. record (seen (all_given c.self.inside.threads by_flags) (sent (event_at l.events.items c.no.inside.0) c.args.mask)) { ready = ready } in
    rw (← c.self.view_is, next c) (λ event found.
    let ts : List ℕ = map (λ w. w.0) (woken_on c.self.inside.threads event c.args.mask) in
    let same : by_flags ≡ woken_on c.self.inside.threads event c.args.mask = sent-woken c.self.inside.threads l c.no.inside.0 c.self.invariant.tied there c.args.name.now c.args.mask event number found in
    removed-with r (r.rows ++ map (row_for c.loop-i.self-inside.threads) (map (λ (w : ℕ × ℕ). w.0) c.send.new.self)) (tabled c.loop-i.self-inside.threads c.loop-i.self-inside.lists) (sent_to (tabled c.self.inside.threads l) event c.args.mask) ts
    (more-threads c.loop-i.self-inside.threads r.rows (map (λ (w : ℕ × ℕ). w.0) c.send.new.self) ∙ ap (λ (ws : List (ℕ × ℕ)). threads_in r.rows ++ map (λ w. w.0) ws) (woken ∙ same))
    (ap (λ (k : Tabled). record k { ready = ts }) now ∙ ap (λ (ws : List (ℕ × ℕ)). left (map (λ w. w.0) ws)) (sym same) ∙ sent-state c.self.inside.threads l c.no.inside.0 c.self.invariant.tied there c.args.name.now c.args.mask event number found))

pub returns-clause-few : goal.returns-clause-few
returns-clause-few c =
    let l = c.self.inside.lists in
    let number : number_of l.objects.event.objects c.args.name.now ≡ Some c.no.inside.0 = sym c.find.ensures ∙ c.in-Some.is ∙ ap Some (sym c.no.view_is) in
    let there : c.no.inside.0 < length l.events.items = event-below c.self.inside.threads l c.args.name.now c.no.inside.0 c.self.invariant.tied number in
    let read : c.index_mut.result.now ≡ event_at l.events.items c.no.inside.0 = get_or_read l.events.items _ _ there c.index_mut.ensures.value no_event in
    let woken : c.send.new.self ≡ woken_by (bit_or (event_at l.events.items c.no.inside.0).flags c.args.mask) (wanting (event_at l.events.items c.no.inside.0)) =
    c.send.ensures.woken ∙ ap (λ (e : Flagged). woken_by (bit_or e.flags c.args.mask) (wanting e)) read in
    let few = sent-few c.self.inside.threads l c.no.inside.0 c.self.invariant.tied there (bit_or (event_at l.events.items c.no.inside.0).flags c.args.mask) in
    rw (← c.self.view_is) (λ event found. omega (arith, ap length woken, few))
