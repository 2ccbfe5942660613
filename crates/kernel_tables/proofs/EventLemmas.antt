-- The threads that wait for an event object, and those that it wakes.
use Rattle.std.proofs.Common.{ℕ, ◌≡◌, ◌+◌, ◌<◌, ◌≤◌, zero, suc, List, [], ◌∷◌, length, map, drop, Option, Some, None, Bool, true, false, cond, not, eqb, refl, sym, ap, subst, ◌∙◌, arith, slice_get, length-set, length-drop, add-one, drop-cons}
use Rattle.std.specs.Prelude.{filter, is_some, bit_and, bit_or, slice_set, IfSome, IfNone, if◌then◌else◌, Result, Ok, Err, IsErr, IsErrAnd}
use Rattle.std.specs.Str.{bytes_eq}
use Rattle.std.proofs.lemmas.Bool.{false≢true, eqb-true, eqb-false}
use Rattle.std.proofs.lemmas.List.{length-map, set-get_or, nil_from_length}
use Rattle.std.proofs.lemmas.Option.{none-some, same_Some, slice_get_within, get_or_from_slice_get}
use Rattle.rt_base.specs.declared.codes.Code.{Code}
use Rattle.rt_base.specs.declared.codes.WaitOrder.{WaitOrder}
use Rattle.rt_plain.specs.declared.stmt.Call.{Call}
use Rattle.rt_plain.specs.kernel.State.{Thread, EventObj as PlainEvent}
use Rattle.rt_plain.specs.kernel.Waiting.{receives_event}
use Rattle.rt_plain.specs.kernel.EventCalls.{Wanting, Want as PlainWant, want_of, is_satisfied, satisfied_waiters, flags_left, flags_after}
use Rattle.susp_list.specs.declared.row.Row.{Row as WaitRow}
use Rattle.susp_list.specs.Rows.{line}
use Rattle.object_box.specs.declared.fault.Make.{Make}
use Rattle.object_box.specs.declared.fault.Make.TheVariants.{Taken, ClassFull}
use Rattle.object_box.specs.Objects.{ClassObjects, IsSound, MakeCause, has_number, number_of, removed}
use Rattle.object_box.specs.Classes.{AllObjects}
use Rattle.ipc_counts.specs.Counted.{Counted}
use Rattle.ipc_counts.specs.Flags.{Flagged}
use Rattle.ipc_counts.specs.declared.want.Want.{Want}
use Rattle.ipc_counts.specs.Sent.{want_at, wanting_of, wanting, woken_by, rows_without, sent}
use Rattle.ipc_queues.specs.Channels.{PlainChannels, slots_of, waits_at}
use Rattle.ipc_queues.specs.declared.channels.ChannelKind.{ChannelKind}
use Rattle.ipc_queues.specs.declared.ends.End.{End}
use Rattle.kernel_tables.specs.declared.lists.Lists.{Lists}
use Rattle.kernel_tables.specs.declared.wait_list.WaitList.{WaitList}
use Rattle.kernel_tables.specs.Listed.{sem_at, event_at, plain_event, wait_row, waits_in, wants_in, slots_in, IsShownAs}
use Rattle.kernel_tables.specs.Tabled.{line_of, all_given, given_row, wanting_on, woken_on, found_event, put_event, events_received, sent_to, CreatesEvent, all_woken, event_line, without_event}
use Rattle.kernel_tables.specs.Threads.{row_at, with_row}
use Rattle.kernel_tables.specs.Tied.{AreTied, AreWanted, IsTied}
use Rattle.kernel_tables.specs.WaitLists.{is_at, objects_in, calls_in}
use Rattle.kernel_tables.proofs.TiedLemmas.{tied-line, line-same, set-here, set-there}
use Rattle.kernel_tables.proofs.FoundLemmas.{found-calls, found-put, found-below, some-plain, none-plain, free-line, free-same, found-removed}
use Rattle.kernel_tables.proofs.ListChangeLemmas.{no_event, set-part}
use Rattle.kernel_tables.proofs.MadeLemmas.{IsMade, IsDropped, KeepsWaits, lists-made, lists-dropped}
use Rattle.kernel_tables.proofs.SemLemmas.{shown}
use Rattle.kernel_tables.proofs.WokenLemmas.{InLine, EachOf, line-in, line-few, cleared, Wakes, wakes, tied-woken, wanted-woken}

length-filter_le : {A : Type 0} (p : A → Bool) (xs : List A) → length (filter p xs) ≤ length xs
length-filter_le p [] = omega arith
length-filter_le {A} p (x ∷ xs) = by_test (p x) (length-filter_le p xs)
  where
    by_test : (b : Bool) → length (filter p xs) ≤ length xs → length (cond b (x ∷ filter p xs) (filter p xs)) ≤ suc (length xs)
    by_test true h = omega (arith, h)
    by_test false h = omega (arith, h)

-- the event object of a name is the one with its number
pub event-there : (c : ClassObjects) (events : List Flagged) (name : List ℕ) (i : ℕ) → number_of c.objects name ≡ Some i → found_event (map (plain_event events) c.objects) name ≡ Some (plain_event events (record { no = i; name = name }))
event-there c events name i number = some-plain (plain_event events) (λ (o : PlainEvent). o.name) c.objects name i (λ o. refl) number

pub event-missing : (c : ClassObjects) (events : List Flagged) (name : List ℕ) → number_of c.objects name ≡ None → found_event (map (plain_event events) c.objects) name ≡ None
event-missing c events name none = none-plain (plain_event events) (λ (o : PlainEvent). o.name) c.objects name (λ o. refl) none

pub event-below : (threads : List Thread) (l : Lists) (name : List ℕ) (i : ℕ) → IsTied threads l → number_of l.objects.event.objects name ≡ Some i → i < length l.events.items
event-below threads l name i t number = subst (λ n. i < n) (sym (t.slots WaitList.Event)) (found-below l.objects.event name i (t.lists.sound WaitList.Event) number)

-- the rows of an event object's list by its number
event-rows : (threads : List Thread) (l : Lists) (i : ℕ) → IsTied threads l → i < length l.events.items → (event_at l.events.items i).waiters.rows ≡ map (wait_row (calls_in l.objects WaitList.Event i)) threads
event-rows threads l i t there = t.lists.rows WaitList.Event i (subst (λ n. i < n) (t.slots WaitList.Event) there)

pub event-wide : (threads : List Thread) (l : Lists) (i : ℕ) → IsTied threads l → i < length l.events.items → length (event_at l.events.items i).waiters.rows ≡ length threads
event-wide threads l i t there = ap length (event-rows threads l i t there) ∙ length-map threads (wait_row (calls_in l.objects WaitList.Event i))

-- another event object at a number, seen by its name
pub event-put : (c : ClassObjects) (events : List Flagged) (name : List ℕ) (i : ℕ) (new : Flagged) → IsSound c → number_of c.objects name ≡ Some i → i < length events
    → map (plain_event (slice_set events i new)) c.objects ≡ put_event (map (plain_event events) c.objects) (record { name = name; flags = new.flags; order = new.waiters.order })
event-put c events name i new sound number there =
    found-put (plain_event events) (plain_event (slice_set events i new)) (λ (o : PlainEvent). o.name) c name i (record { name = name; flags = new.flags; order = new.waiters.order }) sound number (λ o. refl)
    (λ o differ. ap (seen o.name) (set-there events o.no i new no_event differ)) (ap (seen name) (set-here events i new no_event there))
  where
    seen : List ℕ → Flagged → PlainEvent
    seen name e = record { name = name; flags = e.flags; order = e.waiters.order }

-- what a receive answers
pub received-answer : (flags : ℕ) (want : PlainWant) (result : Option ℕ) → is_some result ≡ is_satisfied flags want → IfSome result (λ got. got ≡ bit_and flags want.mask)
    → result ≡ (if is_satisfied flags want then Some (bit_and flags want.mask) else None)
received-answer flags want None exactly value = ap (λ c. if c then Some (bit_and flags want.mask) else None) exactly
received-answer flags want (Some got) exactly value = ap Some value ∙ ap (λ c. if c then Some (bit_and flags want.mask) else None) exactly

-- what a receive leaves
pub received-state : (c : ClassObjects) (events : List Flagged) (name : List ℕ) (i : ℕ) (want : PlainWant) (old new : Flagged) (result : Option ℕ) → IsSound c → number_of c.objects name ≡ Some i → i < length events
    → old ≡ event_at events i → is_some result ≡ is_satisfied old.flags want → IfSome result (λ _. new ≡ record old { flags = flags_after old.flags want }) → IfNone result (new ≡ old)
    → map (plain_event (slice_set events i new)) c.objects ≡ events_received (map (plain_event events) c.objects) want (Some (plain_event events (record { no = i; name = name })))
received-state c events name i want old new result sound number there read exactly some none = by_result result exactly some none ∙ ap left read
  where
    all : List PlainEvent
    all = map (plain_event events) c.objects

    left : Flagged → List PlainEvent
    left e = events_received all want (Some (record { name = name; flags = e.flags; order = e.waiters.order }))

    chosen : Bool → List PlainEvent
    chosen b = if b then put_event all (record { name = name; flags = flags_after old.flags want; order = old.waiters.order }) else all

    by_result : (result : Option ℕ) → is_some result ≡ is_satisfied old.flags want → IfSome result (λ _. new ≡ record old { flags = flags_after old.flags want }) → IfNone result (new ≡ old)
        → map (plain_event (slice_set events i new)) c.objects ≡ left old
    by_result None exactly some none = ap (λ (es : List Flagged). map (plain_event es) c.objects) (ap (slice_set events i) (none ∙ read) ∙ set-get_or events i no_event) ∙ ap chosen exactly
    by_result (Some got) exactly some none =
        event-put c events name i new sound number there
        ∙ ap (λ (e : Flagged). put_event all (record { name = name; flags = e.flags; order = e.waiters.order })) some
        ∙ ap chosen exactly

-- a slot with the same waiters keeps those of all
pub event-keeps : (l new : Lists) (i : ℕ) (slot : Flagged) → new.sems.items ≡ l.sems.items → new.events.items ≡ slice_set l.events.items i slot → new.channels ≡ l.channels → slot.waiters.rows ≡ (event_at l.events.items i).waiters.rows → slot.wants ≡ (event_at l.events.items i).wants → KeepsWaits l new
event-keeps l new i slot sems events channels rows wants = record {
  slots = by_list;
  rows = by_rows;
  wants = λ j. ap (λ (xs : List Flagged). (event_at xs j).wants) events ∙ set-part (λ (e : Flagged). e.wants) l.events.items j i slot no_event wants;
} where
  by_list : (list : WaitList) → slots_in new list ≡ slots_in l list
  by_list WaitList.Sem = ap length sems
  by_list WaitList.Event = ap length events ∙ length-set l.events.items i slot
  by_list (WaitList.Channel kind end) = ap (λ (c : PlainChannels). slots_of c kind) channels

  by_rows : (list : WaitList) (j : ℕ) → (waits_in new list j).rows ≡ (waits_in l list j).rows
  by_rows WaitList.Sem j = ap (λ (xs : List Counted). (sem_at xs j).waiters.rows) sems
  by_rows WaitList.Event j = ap (λ (xs : List Flagged). (event_at xs j).waiters.rows) events ∙ set-part (λ (e : Flagged). e.waiters.rows) l.events.items j i slot no_event rows
  by_rows (WaitList.Channel kind end) j = ap (λ (c : PlainChannels). (waits_at c kind end j).rows) channels

-- a receive keeps the waiters
pub received-rows : (want : PlainWant) (old new : Flagged) (result : Option ℕ) → IfSome result (λ _. new ≡ record old { flags = flags_after old.flags want }) → IfNone result (new ≡ old) → new.waiters.rows ≡ old.waiters.rows
received-rows want old new None some none = ap (λ (e : Flagged). e.waiters.rows) none
received-rows want old new (Some got) some none = ap (λ (e : Flagged). e.waiters.rows) some

pub received-wants : (want : PlainWant) (old new : Flagged) (result : Option ℕ) → IfSome result (λ _. new ≡ record old { flags = flags_after old.flags want }) → IfNone result (new ≡ old) → new.wants ≡ old.wants
received-wants want old new None some none = ap (λ (e : Flagged). e.wants) none
received-wants want old new (Some got) some none = ap (λ (e : Flagged). e.wants) some

without-cleared : (rows : List (Option WaitRow)) (flags : ℕ) (ws : List Wanting) → rows_without rows ws ≡ cleared rows (map (λ (w : ℕ × ℕ). w.0) (map (λ (w : Wanting). (w.thread, bit_and flags w.want.mask)) ws))
without-cleared rows flags [] = refl
without-cleared rows flags (w ∷ ws) = without-cleared (slice_set rows w.thread None) flags ws

woken-each : (P : ℕ → Type 0) (flags : ℕ) (wants : List Want) (ts : List ℕ) → EachOf P ts → EachOf P (map (λ (w : ℕ × ℕ). w.0) (woken_by flags (map (wanting_of wants) ts)))
woken-each P flags wants [] h = tt
woken-each P flags wants (t ∷ ts) h = by_test (is_satisfied flags (want_at (slice_get wants t))) (woken-each P flags wants ts h.1)
  where
    rest : List Wanting
    rest = satisfied_waiters flags (map (wanting_of wants) ts)

    got : Wanting → ℕ × ℕ
    got w = (w.thread, bit_and flags w.want.mask)

    by_test : (c : Bool) → EachOf P (map (λ (w : ℕ × ℕ). w.0) (map got rest)) → EachOf P (map (λ (w : ℕ × ℕ). w.0) (map got (cond c (wanting_of wants t ∷ rest) rest)))
    by_test true r = (h.0, r)
    by_test false r = r

pub each-at : {A : Type 0} (P : ℕ → Type 0) (at : A → ℕ) (xs : List A) (k : ℕ) (x : A) → EachOf P (map at xs) → slice_get xs k ≡ Some x → P (at x)
each-at P at [] k x h e = absurd (none-some x e)
each-at P at (y ∷ ys) zero x h e = subst (λ z. P (at z)) (same_Some y x e) h.0
each-at P at (y ∷ ys) (suc k) x h e = each-at P at ys k x h.1 e

drop-at : {A : Type 0} (xs : List A) (k : ℕ) (x : A) → slice_get xs k ≡ Some x → drop k xs ≡ x ∷ drop (k + 1) xs
drop-at xs k x e =
    drop-cons xs k x (slice_get_within xs k x e) ∙ ap (λ y. y ∷ drop (suc k) xs) (get_or_from_slice_get xs k x x e) ∙ ap (λ n. x ∷ drop n xs) (sym (add-one k))

drop-all : {A : Type 0} (xs : List A) (k : ℕ) → length xs ≤ k → drop k xs ≡ []
drop-all xs k h = nil_from_length (drop k xs) (omega (arith, h, length-drop k xs))

-- some of those whom a send woke are awake, and the others follow
pub record IsGiving (old now : List Thread) (woken : List (ℕ × ℕ)) (i : ℕ) : Type 0 where
  pub given : all_given now (drop i woken) ≡ all_given old woken
  pub len : length now ≡ length old

pub giving-more : (old now new : List Thread) (woken : List (ℕ × ℕ)) (i : ℕ) (w : ℕ × ℕ) → IsGiving old now woken i → slice_get woken i ≡ Some w → new ≡ with_row now w.0 (given_row w.1) → IsGiving old new woken (i + 1)
giving-more old now new woken i w g at is = record {
  given = ap (λ rows. all_given rows (drop (i + 1) woken)) is ∙ ap (all_given now) (sym (drop-at woken i w at)) ∙ g.given;
  len = ap length is ∙ length-set now w.0 (given_row w.1 (row_at now w.0)) ∙ g.len;
}

pub giving-end : (old now : List Thread) (woken : List (ℕ × ℕ)) (i : ℕ) → IsGiving old now woken i → length woken ≤ i → now ≡ all_given old woken
giving-end old now woken i g over = ap (all_given now) (sym (drop-all woken i over)) ∙ g.given

-- a send to the event object of a number
module _ (threads : List Thread) (l : Lists) (i : ℕ) (t : IsTied threads l) (there : i < length l.events.items) where
  abbrev pub event : Flagged
  event = event_at l.events.items i

  abbrev pub on : Call → Bool
  on = calls_in l.objects WaitList.Event i

  rows_are : event.waiters.rows ≡ map (wait_row on) threads
  rows_are = event-rows threads l i t there

  -- each whom it wakes waits for the event object
  pub sent-each : (flags : ℕ) → EachOf (InLine threads on) (map (λ (w : ℕ × ℕ). w.0) (woken_by flags (wanting event)))
  sent-each flags = woken-each (InLine threads on) flags event.wants (line event.waiters) (subst (EachOf (InLine threads on)) (sym (tied-line threads event.waiters on rows_are)) (line-in threads event.waiters.order on))

  -- no more wake than there are threads
  pub sent-few : (flags : ℕ) → length (woken_by flags (wanting event)) ≤ length threads
  sent-few flags = omega (
    arith,
    length-map {B = ℕ × ℕ} (satisfied_waiters flags (wanting event)) (λ (w : Wanting). (w.thread, bit_and flags w.want.mask)),
    length-filter_le (λ (w : Wanting). is_satisfied flags w.want) (wanting event),
    length-map (line event.waiters) (wanting_of event.wants),
    ap length (tied-line threads event.waiters on rows_are),
    line-few threads event.waiters.order on,
  )

  -- it keeps the tie, once those whom it woke are awake
  pub tied-sent : (mask : ℕ) (woken : List Thread) (new : Lists) → woken ≡ all_given threads (woken_by (bit_or event.flags mask) (wanting event)) → new.objects ≡ l.objects → new.sems.items ≡ l.sems.items → new.events.items ≡ slice_set l.events.items i (sent event mask) → new.channels ≡ l.channels → IsTied woken new
  tied-sent mask woken new woken_is objects sems events channels = record {
    slots = λ list. slots list ∙ t.slots list ∙ ap (λ (a : AllObjects). (objects_in a list).limit) (sym objects);
    lists = subst (λ (a : AllObjects). AreTied woken a (waits_in new)) (sym objects) (tied-woken threads woken ts l.objects (waits_in l) (waits_in new) WaitList.Event i t.lists (sent-each flags) awake after);
    wants = subst (λ (a : AllObjects). AreWanted woken a (wants_in new)) (sym objects) (wanted-woken threads woken ts l.objects (wants_in l) (wants_in new) t.wants awake (λ j. ap (λ (xs : List Flagged). (event_at xs j).wants) events ∙ set-part (λ (e : Flagged). e.wants) l.events.items j i (sent event mask) no_event refl));
  } where
    flags : ℕ
    flags = bit_or event.flags mask

    ts : List ℕ
    ts = map (λ (w : ℕ × ℕ). w.0) (woken_by flags (wanting event))

    awake : Wakes threads woken ts
    awake = subst (λ all. Wakes threads all ts) (sym woken_is) (wakes (λ (w : ℕ × ℕ). w.0) (λ w. given_row w.1) (λ w row. refl) threads (woken_by flags (wanting event)))

    slots : (list : WaitList) → slots_in new list ≡ slots_in l list
    slots WaitList.Sem = ap length sems
    slots WaitList.Event = ap length events ∙ length-set l.events.items i (sent event mask)
    slots (WaitList.Channel kind end) = ap (λ (c : PlainChannels). slots_of c kind) channels

    here : (j : ℕ) → (event_at (slice_set l.events.items i (sent event mask)) j).waiters.rows ≡ (if eqb j i then cleared (event_at l.events.items j).waiters.rows ts else (event_at l.events.items j).waiters.rows)
    here j = by_test (eqb j i) refl where
      by_test : (c : Bool) → eqb j i ≡ c → (event_at (slice_set l.events.items i (sent event mask)) j).waiters.rows ≡ (if c then cleared (event_at l.events.items j).waiters.rows ts else (event_at l.events.items j).waiters.rows)
      by_test true e =
          let at : j ≡ i = eqb-true j i e in
          ap (λ k. (event_at (slice_set l.events.items i (sent event mask)) k).waiters.rows) at
          ∙ ap (λ (f : Flagged). f.waiters.rows) (set-here l.events.items i (sent event mask) no_event there)
          ∙ without-cleared event.waiters.rows flags (satisfied_waiters flags (wanting event))
          ∙ ap (λ k. cleared (event_at l.events.items k).waiters.rows ts) (sym at)
      by_test false e = ap (λ (f : Flagged). f.waiters.rows) (set-there l.events.items j i (sent event mask) no_event (eqb-false j i e))

    after : (other : WaitList) (j : ℕ) → (waits_in new other j).rows ≡ (if is_at other j (Some (WaitList.Event, i)) then cleared (waits_in l other j).rows ts else (waits_in l other j).rows)
    after WaitList.Sem j = ap (λ (xs : List Counted). (sem_at xs j).waiters.rows) sems
    after WaitList.Event j = ap (λ (xs : List Flagged). (event_at xs j).waiters.rows) events ∙ here j
    after (WaitList.Channel ChannelKind.Mailbox End.Receivers) j = ap (λ (c : PlainChannels). (waits_at c ChannelKind.Mailbox End.Receivers j).rows) channels
    after (WaitList.Channel ChannelKind.Mailbox End.Senders) j = ap (λ (c : PlainChannels). (waits_at c ChannelKind.Mailbox End.Senders j).rows) channels
    after (WaitList.Channel ChannelKind.MsgQueue End.Receivers) j = ap (λ (c : PlainChannels). (waits_at c ChannelKind.MsgQueue End.Receivers j).rows) channels
    after (WaitList.Channel ChannelKind.MsgQueue End.Senders) j = ap (λ (c : PlainChannels). (waits_at c ChannelKind.MsgQueue End.Senders j).rows) channels

  -- the waiters with what they want, by the threads
  tied-wanting : (name : List ℕ) → number_of l.objects.event.objects name ≡ Some i → wanting event ≡ wanting_on threads (plain_event l.events.items (record { no = i; name = name }))
  tied-wanting name number =
      ap (map (wanting_of event.wants)) (tied-line threads event.waiters on rows_are)
      ∙ same_wants (line_of threads event.waiters.order on) (line-in threads event.waiters.order on)
      ∙ ap (map by_stage) (line-same threads event.waiters.order on (receives_event name) (found-calls l.objects.event receives_event name i (t.lists.sound WaitList.Event) number))
    where
      by_stage : ℕ → Wanting
      by_stage u = record { thread = u; want = want_of (row_at threads u).stage }

      same_wants : (ts : List ℕ) → EachOf (InLine threads on) ts → map (wanting_of event.wants) ts ≡ map by_stage ts
      same_wants [] h = refl
      same_wants (u ∷ us) h =
          ap (λ (want : PlainWant). record { thread = u; want = want } ∷ map (wanting_of event.wants) us) (t.wants i u (subst (λ n. i < n) (t.slots WaitList.Event) there) h.0.there h.0.waits)
          ∙ ap (λ ws. by_stage u ∷ ws) (same_wants us h.1)

  -- whom a send wakes, by the threads
  pub sent-woken : (name : List ℕ) (mask : ℕ) (plain : PlainEvent) → number_of l.objects.event.objects name ≡ Some i → found_event (map (plain_event l.events.items) l.objects.event.objects) name ≡ Some plain → woken_by (bit_or event.flags mask) (wanting event) ≡ woken_on threads plain mask
  sent-woken name mask plain number found =
      ap (woken_by (bit_or event.flags mask)) (tied-wanting name number)
      ∙ ap (λ o. woken_on threads o mask) (same_Some (plain_event l.events.items (record { no = i; name = name })) plain (sym (event-there l.objects.event l.events.items name i number) ∙ found))

  -- what it leaves
  pub sent-state : (name : List ℕ) (mask : ℕ) (plain : PlainEvent) → number_of l.objects.event.objects name ≡ Some i → found_event (map (plain_event l.events.items) l.objects.event.objects) name ≡ Some plain
      → record (shown threads l.objects l.sems.items l.events.items l.channels) { threads = all_given threads (woken_by (bit_or event.flags mask) (wanting event)); ready = map (λ w. w.0) (woken_by (bit_or event.flags mask) (wanting event)); events = map (plain_event (slice_set l.events.items i (sent event mask))) l.objects.event.objects } ≡ sent_to (shown threads l.objects l.sems.items l.events.items l.channels) plain mask
  sent-state name mask plain number found = λ k. record (shown threads l.objects l.sems.items l.events.items l.channels) {
    threads = all_given threads (sent-woken name mask plain number found k);
    ready = map (λ w. w.0) (sent-woken name mask plain number found k);
    events = flags k;
  }
    where
      all : List PlainEvent
      all = map (plain_event l.events.items) l.objects.event.objects

      own : PlainEvent
      own = plain_event l.events.items (record { no = i; name = name })

      flags : map (plain_event (slice_set l.events.items i (sent event mask))) l.objects.event.objects ≡ put_event all (record plain { flags = flags_left (bit_or plain.flags mask) (wanting_on threads plain) })
      flags =
          event-put l.objects.event l.events.items name i (sent event mask) (t.lists.sound WaitList.Event) number there
          ∙ ap (λ ws. put_event all (record own { flags = flags_left (bit_or own.flags mask) ws })) (tied-wanting name number)
          ∙ ap (λ (o : PlainEvent). put_event all (record o { flags = flags_left (bit_or o.flags mask) (wanting_on threads o) })) (same_Some own plain (sym (event-there l.objects.event l.events.items name i number) ∙ found))

-- the class with one event object more
abbrev pub made_event : AllObjects → List ℕ → ℕ → AllObjects
made_event a name i = record a { event = record a.event { objects = record { no = i; name = name } ∷ a.event.objects } }

-- the lists that an event object has
abbrev pub has_event : WaitList → Bool
has_event WaitList.Event = true
has_event _ = false

event-made : (a : AllObjects) (name : List ℕ) (i : ℕ) → IsMade a (made_event a name i) has_event name i
event-made a name i WaitList.Sem = refl
event-made a name i WaitList.Event = refl
event-made a name i (WaitList.Channel ChannelKind.Mailbox end) = refl
event-made a name i (WaitList.Channel ChannelKind.MsgQueue end) = refl

event-sound : (a b : AllObjects) → ((list : WaitList) → IsSound (objects_in a list)) → IsSound b.event → b.sem ≡ a.sem → b.mailbox ≡ a.mailbox → b.msgqueue ≡ a.msgqueue → (list : WaitList) → IsSound (objects_in b list)
event-sound a b sound own sem mailbox queue WaitList.Sem = subst IsSound (sym sem) (sound WaitList.Sem)
event-sound a b sound own sem mailbox queue WaitList.Event = own
event-sound a b sound own sem mailbox queue (WaitList.Channel ChannelKind.Mailbox end) = subst IsSound (sym mailbox) (sound (WaitList.Channel ChannelKind.Mailbox end))
event-sound a b sound own sem mailbox queue (WaitList.Channel ChannelKind.MsgQueue end) = subst IsSound (sym queue) (sound (WaitList.Channel ChannelKind.MsgQueue end))

-- the tables with one event object more, whose slot nobody waited in
pub tied-made : (threads : List Thread) (l new : Lists) (name : List ℕ) (i : ℕ) (order : WaitOrder) (old slot : Flagged) → IsTied threads l → new.objects ≡ made_event l.objects name i → number_of l.objects.event.objects name ≡ None → IsSound new.objects.event
    → new.sems.items ≡ l.sems.items → new.events.items ≡ slice_set l.events.items i slot → new.channels ≡ l.channels → old ≡ event_at l.events.items i → slot ≡ record old { flags = 0; waiters = record old.waiters { order = order } } → IsTied threads new
tied-made threads l new name i order old slot tied is none sound sems events channels read reset =
    lists-made threads l new has_event name i tied (λ list. ap (λ b. objects_in b list) is ∙ event-made l.objects name i list) by_list (event-sound l.objects new.objects tied.lists.sound sound (ap (λ b. b.sem) is) (ap (λ b. b.mailbox) is) (ap (λ b. b.msgqueue) is))
    (event-keeps l new i slot sems events channels (ap (λ (e : Flagged). e.waiters.rows) reset ∙ ap (λ (e : Flagged). e.waiters.rows) read) (ap (λ (e : Flagged). e.wants) reset ∙ ap (λ (e : Flagged). e.wants) read))
  where
    by_list : (list : WaitList) → has_event list ≡ true → number_of (objects_in l.objects list).objects name ≡ None
    by_list WaitList.Event own = none
    by_list WaitList.Sem own = absurd (false≢true own)
    by_list (WaitList.Channel kind end) own = absurd (false≢true own)

-- the list of a free slot is empty
pub free-slot : (threads : List Thread) (l : Lists) (i : ℕ) (old : Flagged) → IsTied threads l → i < l.objects.event.limit → has_number l.objects.event.objects i ≡ false → old ≡ event_at l.events.items i → length (line old.waiters) ≡ 0
free-slot threads l i old tied there free at = rw at (free-line receives_event l.objects.event.objects i threads (waits_in l WaitList.Event i) (tied.lists.rows WaitList.Event i there) free)

-- a creation
pub made-seen : (threads : List Thread) (a made : AllObjects) (sems : List Counted) (events : List Flagged) (channels : PlainChannels) (name : List ℕ) (order : WaitOrder) (i : ℕ) (old new : Flagged) → i < length events → number_of a.event.objects name ≡ None
    → length a.event.objects < a.event.limit → has_number a.event.objects i ≡ false → made ≡ made_event a name i → new ≡ record old { flags = 0; waiters = record old.waiters { order = order } }
    → CreatesEvent (shown threads a sems events channels) (shown threads made sems (slice_set events i new) channels) (record { name = name; flags = 0; order = order }) (Ok tt)
made-seen threads a made sems events channels name order i old new there none room free is reset = (
  event-missing a.event events name none,
  (
    omega (arith, room, length-map a.event.objects (plain_event events)),
    ap (λ (b : AllObjects). shown threads b sems (slice_set events i new) channels) is ∙ ap (λ (all : List PlainEvent). record (shown threads a sems events channels) { events = all }) seen,
  ),
)
  where
    seen_as : List ℕ → Flagged → PlainEvent
    seen_as name e = record { name = name; flags = e.flags; order = e.waiters.order }

    seen : map (plain_event (slice_set events i new)) (made_event a name i).event.objects ≡ record { name = name; flags = 0; order = order } ∷ map (plain_event events) a.event.objects
    seen =
        ap (λ (e : Flagged). seen_as name e ∷ map (plain_event (slice_set events i new)) a.event.objects) (set-here events i new no_event there ∙ reset)
        ∙ ap (λ l. record { name = name; flags = 0; order = order } ∷ l) (free-same (plain_event events) (plain_event (slice_set events i new)) a.event.objects i free (λ o other. ap (seen_as o.name) (set-there events o.no i new no_event other)))

-- no creation
pub refused-seen : (threads : List Thread) (a made : AllObjects) (sems : List Counted) (events : List Flagged) (channels : PlainChannels) (event : PlainEvent) (fault : Make) → MakeCause a.event event.name (Err fault) → made ≡ a
    → CreatesEvent (shown threads a sems events channels) (shown threads made sems events channels) event (Err fault)
refused-seen threads a made sems events channels event (Taken number) cause same = (ap is_some (event-there a.event events event.name number cause), ap (λ b. shown threads b sems events channels) same)
refused-seen threads a made sems events channels event (ClassFull limit) cause same =
    (event-missing a.event events event.name cause.0, (length-map a.event.objects (plain_event events) ∙ cause.1.0, ap (λ b. shown threads b sems events channels) same))

pub err-is : (r : Result Unit Make) (fault : Make) → IsErr r × IsErrAnd r (λ e. e ≡ fault) → r ≡ Err fault
err-is (Ok done) fault e = absurd e.1
err-is (Err f) fault e = ap (λ x. Err x) e.1

-- the class with one event object less
abbrev pub removed_event : AllObjects → ℕ → AllObjects
removed_event a i = record a { event = removed a.event i }

event-dropped : (a : AllObjects) (i : ℕ) → IsDropped a (removed_event a i) has_event i
event-dropped a i WaitList.Sem = refl
event-dropped a i WaitList.Event = refl
event-dropped a i (WaitList.Channel ChannelKind.Mailbox end) = refl
event-dropped a i (WaitList.Channel ChannelKind.MsgQueue end) = refl

-- an event object that nobody waits for is gone
pub tied-removed : (threads : List Thread) (l new : Lists) (name : List ℕ) (i : ℕ) → IsTied threads l → number_of l.objects.event.objects name ≡ Some i → line (waits_in l WaitList.Event i) ≡ [] → new.objects ≡ removed_event l.objects i → IsSound new.objects.event
    → new.sems.items ≡ l.sems.items → new.events.items ≡ l.events.items → new.channels ≡ l.channels → IsTied threads new
tied-removed threads l new name i tied e empty is sound sems events channels =
    lists-dropped threads l new has_event name i tied (λ list. ap (λ b. objects_in b list) is ∙ event-dropped l.objects i list) by_name by_line (event-sound l.objects new.objects tied.lists.sound sound (ap (λ b. b.sem) is) (ap (λ b. b.mailbox) is) (ap (λ b. b.msgqueue) is)) (record { slots = by_slots; rows = by_rows; wants = λ j. ap (λ (xs : List Flagged). (event_at xs j).wants) events })
  where
    by_name : (list : WaitList) → has_event list ≡ true → number_of (objects_in l.objects list).objects name ≡ Some i
    by_name WaitList.Event own = e
    by_name WaitList.Sem own = absurd (false≢true own)
    by_name (WaitList.Channel kind end) own = absurd (false≢true own)

    by_line : (list : WaitList) → has_event list ≡ true → line (waits_in l list i) ≡ []
    by_line WaitList.Event own = empty
    by_line WaitList.Sem own = absurd (false≢true own)
    by_line (WaitList.Channel kind end) own = absurd (false≢true own)

    by_slots : (list : WaitList) → slots_in new list ≡ slots_in l list
    by_slots WaitList.Sem = ap length sems
    by_slots WaitList.Event = ap length events
    by_slots (WaitList.Channel kind end) = ap (λ (c : PlainChannels). slots_of c kind) channels

    by_rows : (list : WaitList) (j : ℕ) → (waits_in new list j).rows ≡ (waits_in l list j).rows
    by_rows WaitList.Sem j = ap (λ (xs : List Counted). (sem_at xs j).waiters.rows) sems
    by_rows WaitList.Event j = ap (λ (xs : List Flagged). (event_at xs j).waiters.rows) events
    by_rows (WaitList.Channel kind end) j = ap (λ (c : PlainChannels). (waits_at c kind end j).rows) channels

-- the wait list of an event object, by its name
seen-line : (threads : List Thread) (l : Lists) (name : List ℕ) (i : ℕ) → IsTied threads l → number_of l.objects.event.objects name ≡ Some i → line (waits_in l WaitList.Event i) ≡ event_line threads (plain_event l.events.items (record { no = i; name = name }))
seen-line threads l name i tied e =
    tied-line threads (waits_in l WaitList.Event i) (calls_in l.objects WaitList.Event i) (tied.lists.rows WaitList.Event i (found-below l.objects.event name i (tied.lists.sound WaitList.Event) e))
    ∙ line-same threads (waits_in l WaitList.Event i).order (calls_in l.objects WaitList.Event i) (receives_event name) (found-calls l.objects.event receives_event name i (tied.lists.sound WaitList.Event) e)

-- whom a deletion wakes
pub woken-seen : (threads : List Thread) (l : Lists) (name : List ℕ) (i : ℕ) (woken : List ℕ) (event : PlainEvent) → IsTied threads l → number_of l.objects.event.objects name ≡ Some i → woken ≡ line (waits_in l WaitList.Event i) → found_event (map (plain_event l.events.items) l.objects.event.objects) name ≡ Some event → woken ≡ event_line threads event
woken-seen threads l name i woken event tied e all is = all ∙ seen-line threads l name i tied e ∙ ap (event_line threads) (same_Some _ event (sym (event-there l.objects.event l.events.items name i e) ∙ is))

-- what it leaves
pub removed-seen : (threads now : List Thread) (l left : Lists) (gone : AllObjects) (name : List ℕ) (i : ℕ) (woken : List ℕ) → IsSound l.objects.event → number_of l.objects.event.objects name ≡ Some i → now ≡ all_woken Code.Error threads woken → IsShownAs l left → gone ≡ removed_event left.objects i
    → record (shown now gone left.sems.items left.events.items left.channels) { ready = woken } ≡ without_event (shown threads l.objects l.sems.items l.events.items l.channels) name woken
removed-seen threads now l left gone name i woken sound e rows same is =
    ap (λ b. record (shown now b left.sems.items left.events.items left.channels) { ready = woken }) (is ∙ ap (λ b. removed_event b i) same.objects)
    ∙ (λ k. record (shown threads l.objects l.sems.items l.events.items l.channels) {
      threads = rows k;
      ready = woken;
      sems = same.sems k;
      mailboxes = same.mailboxes k;
      queues = same.queues k;
      events = (found-removed (plain_event left.events.items) (λ (x : PlainEvent). x.name) l.objects.event name i sound e (λ o. refl) ∙ ap (filter (λ (x : PlainEvent). not (bytes_eq x.name name))) same.events) k;
    })
