-- The tables before and after a call on a semaphore.
use Rattle.std.proofs.Common.{◌≡◌, ◌≢◌, ◌+◌, ◌-◌, ◌<◌, ℕ, List, [], ◌∷◌, Option, Some, None, Bool, true, false, not, refl, sym, ap, ◌∙◌, subst, arith, eqb, length, map, set, get_or, filter, is_some, nat_lt, length-set, zero, suc}
use Rattle.std.specs.Prelude.{if◌then◌else◌, Result, Ok, Err, IsErr, IsErrAnd}
use Rattle.std.specs.Bool.{OnTrue, OnFalse}
use Rattle.std.specs.Str.{bytes_eq}
use Rattle.std.proofs.lemmas.Bool.{false≢true, eqb-true, eqb-false, OnTrue_at, OnFalse_at}
use Rattle.std.proofs.lemmas.List.{get_or-set_other, length-map}
use Rattle.std.proofs.lemmas.Grind.{get_or-set_at}
use Rattle.std.proofs.lemmas.Option.{same_Some}
use Rattle.susp_list.specs.declared.row.Row.{Row as WaitRow}
use Rattle.rt_base.specs.declared.codes.Code.{Code}
use Rattle.rt_base.specs.declared.codes.WaitOrder.{WaitOrder}
use Rattle.rt_plain.specs.kernel.State.{Thread, Sem}
use Rattle.rt_plain.specs.kernel.Waiting.{takes_sem, head_of, first_of}
use Rattle.susp_list.specs.Rows.{line, waiters}
use Rattle.object_box.specs.declared.object.Object.{Object}
use Rattle.object_box.specs.Classes.{AllObjects}
use Rattle.object_box.specs.declared.fault.Make.{Make}
use Rattle.object_box.specs.declared.fault.Make.TheVariants.{Taken, ClassFull}
use Rattle.object_box.specs.Objects.{ClassObjects, IsSound, MakeCause, removed, has_number, number_of}
use Rattle.ipc_counts.specs.Counted.{Counted}
use Rattle.ipc_counts.specs.Flags.{Flagged}
use Rattle.ipc_counts.specs.Released.{without, Releases as ReleasedBy}
use Rattle.ipc_counts.specs.declared.sem.SemReleased.{SemReleased}
use Rattle.ipc_counts.specs.declared.sem.SemReleased.TheVariants.{Woke, Raised, Full}
use Rattle.ipc_queues.specs.Channels.{PlainChannels, slots_of, waits_at}
use Rattle.ipc_queues.specs.declared.channels.ChannelKind.{ChannelKind}
use Rattle.kernel_tables.specs.declared.lists.Lists.{Lists}
use Rattle.kernel_tables.specs.declared.wait_list.WaitList.{WaitList}
use Rattle.kernel_tables.specs.Listed.{sem_at, event_at, plain_sem, plain_event, plain_mailbox, plain_queue, waits_in, slots_in, taken, IsRelisted, IsShownAs}
use Rattle.kernel_tables.specs.Tabled.{Tabled, found_sem, put_sem, sems_taken, sem_line, Releases, ReleasesSem, CreatesSem, woken_row, all_woken, without_sem}
use Rattle.kernel_tables.specs.Threads.{with_row}
use Rattle.kernel_tables.specs.Tied.{IsTied}
use Rattle.kernel_tables.specs.WaitLists.{objects_in, calls_in}
use Rattle.kernel_tables.proofs.TiedLemmas.{tied-line, line-same}
use Rattle.kernel_tables.proofs.FoundLemmas.{found-calls, found-below, some-plain, none-plain, found-put, free-line, free-same, found-removed}
use Rattle.kernel_tables.proofs.ListChangeLemmas.{no_sem, set-part}
use Rattle.kernel_tables.proofs.MadeLemmas.{IsMade, IsDropped, KeepsWaits, lists-made, lists-dropped}
use Rattle.kernel_tables.proofs.WokenLemmas.{tied-taken, first-in}

-- the slot of a semaphore is there
pub slot-there : (threads : List Thread) (l : Lists) (name : List ℕ) (i : ℕ) → IsTied threads l → number_of l.objects.sem.objects name ≡ Some i → i < length l.sems.items
slot-there threads l name i tied e = subst (λ n. i < n) (sym (tied.slots WaitList.Sem)) (found-below l.objects.sem name i (tied.lists.sound WaitList.Sem) e)

get_or_within : {X : Type 0} (xs : List X) (i : ℕ) (d e : X) → i < length xs → get_or xs i d ≡ get_or xs i e
get_or_within [] i d e there = absurd (omega (arith, there))
get_or_within (x ∷ xs) zero d e there = refl
get_or_within (x ∷ xs) (suc i) d e there = get_or_within xs i d e (omega (arith, there))

-- the slot that was read
pub slot-is : (sems : List Counted) (i : ℕ) (read : Counted) → i < length sems → read ≡ get_or sems i read → read ≡ sem_at sems i
slot-is sems i read there e = e ∙ get_or_within sems i read _ there

-- a semaphore that is there, seen by its name
pub seen-some : (sems : List Counted) (objects : List Object) (name : List ℕ) (i : ℕ) → number_of objects name ≡ Some i → found_sem (map (plain_sem sems) objects) name ≡ Some (plain_sem sems (record { no = i; name = name }))
seen-some sems objects name i e = some-plain (plain_sem sems) (λ (x : Sem). x.name) objects name i (λ o. refl) e

pub seen-none : (sems : List Counted) (objects : List Object) (name : List ℕ) → number_of objects name ≡ None → found_sem (map (plain_sem sems) objects) name ≡ None
seen-none sems objects name e = none-plain (plain_sem sems) (λ (x : Sem). x.name) objects name (λ o. refl) e

-- a slot seen by the name of its object
abbrev seen_as : List ℕ → Counted → Sem
seen_as name x = record { name = name; value = x.value; order = x.waiters.order }

-- a change of the slot of a semaphore
pub seen-put : (c : ClassObjects) (sems : List Counted) (name : List ℕ) (i : ℕ) (new : Counted) → IsSound c → i < length sems → number_of c.objects name ≡ Some i
    → map (plain_sem (set sems i new)) c.objects ≡ put_sem (map (plain_sem sems) c.objects) (seen_as name new)
seen-put c sems name i new sound there e =
    found-put (plain_sem sems) (plain_sem (set sems i new)) (λ (x : Sem). x.name) c name i (seen_as name new) sound e (λ o. refl)
    (λ o other. ap (seen_as o.name) (get_or-set_other sems i o.no new _ other))
    (ap (seen_as name) (get_or-set_at sems i i new _ refl there))

-- a change of a slot that leaves its value and its order
pub seen-same : (sems : List Counted) (objects : List Object) (i : ℕ) (new : Counted) → i < length sems → new.value ≡ (sem_at sems i).value → new.waiters.order ≡ (sem_at sems i).waiters.order
    → map (plain_sem (set sems i new)) objects ≡ map (plain_sem sems) objects
seen-same sems objects i new there value order = ap (λ plain. map plain objects) (λ k o. same o (eqb o.no i) refl k)
  where
    same : (o : Object) (c : Bool) → eqb o.no i ≡ c → plain_sem (set sems i new) o ≡ plain_sem sems o
    same o true is =
        let at : o.no ≡ i = eqb-true o.no i is in
        let now : sem_at (set sems i new) o.no ≡ new = get_or-set_at sems i o.no new _ at there in
        ap (seen_as o.name) now ∙ (λ k. record { name = o.name; value = value k; order = order k }) ∙ ap (λ n. seen_as o.name (sem_at sems n)) (sym at)
    same o false is = ap (seen_as o.name) (get_or-set_other sems i o.no new _ (eqb-false o.no i is))

-- a take
pub take-seen : (c : ClassObjects) (sems : List Counted) (name : List ℕ) (i : ℕ) (result : Bool) (old new : Counted) → IsSound c → i < length sems → number_of c.objects name ≡ Some i → old ≡ sem_at sems i
    → result ≡ nat_lt 0 old.value → OnTrue result (new ≡ record old { value = old.value - 1 }) → OnFalse result (new ≡ old)
    → map (plain_sem (set sems i new)) c.objects ≡ sems_taken (map (plain_sem sems) c.objects) (found_sem (map (plain_sem sems) c.objects) name)
take-seen c sems name i result old new sound there e at exactly taken kept = by_test result refl exactly taken kept ∙ ap (sems_taken (map (plain_sem sems) c.objects)) (sym (seen-some sems c.objects name i e))
  where
    by_test : (r : Bool) → result ≡ r → r ≡ nat_lt 0 old.value → OnTrue r (new ≡ record old { value = old.value - 1 }) → OnFalse r (new ≡ old)
        → map (plain_sem (set sems i new)) c.objects ≡ sems_taken (map (plain_sem sems) c.objects) (Some (plain_sem sems (record { no = i; name = name })))
    by_test true is exactly taken kept =
        let test : nat_lt 0 (sem_at sems i).value ≡ true = ap (λ (x : Counted). nat_lt 0 x.value) (sym at) ∙ sym exactly in
        let now : seen_as name new ≡ record (plain_sem sems (record { no = i; name = name })) { value = (sem_at sems i).value - 1 } = ap (seen_as name) (OnTrue_at refl taken) ∙ ap (λ (x : Counted). seen_as name (record x { value = x.value - 1 })) at in
        seen-put c sems name i new sound there e ∙ ap (put_sem (map (plain_sem sems) c.objects)) now ∙ sym (ap (λ b. if b then put_sem (map (plain_sem sems) c.objects) (record (plain_sem sems (record { no = i; name = name })) { value = (sem_at sems i).value - 1 }) else map (plain_sem sems) c.objects) test)
    by_test false is exactly taken kept =
        let test : nat_lt 0 (sem_at sems i).value ≡ false = ap (λ (x : Counted). nat_lt 0 x.value) (sym at) ∙ sym exactly in
        let now : new ≡ sem_at sems i = OnFalse_at refl kept ∙ at in
        seen-same sems c.objects i new there (ap (λ (x : Counted). x.value) now) (ap (λ (x : Counted). x.waiters.order) now)
        ∙ sym (ap (λ b. if b then put_sem (map (plain_sem sems) c.objects) (record (plain_sem sems (record { no = i; name = name })) { value = (sem_at sems i).value - 1 }) else map (plain_sem sems) c.objects) test)

-- a slot with the same waiters keeps those of all
pub slot-keeps : (l new : Lists) (i : ℕ) (slot : Counted) → new.sems.items ≡ set l.sems.items i slot → new.events.items ≡ l.events.items → new.channels ≡ l.channels → slot.waiters.rows ≡ (sem_at l.sems.items i).waiters.rows → KeepsWaits l new
slot-keeps l new i slot sems events channels same = record {
  slots = by_list;
  rows = by_rows;
  wants = λ j. ap (λ (xs : List Flagged). (event_at xs j).wants) events;
} where
  by_list : (list : WaitList) → slots_in new list ≡ slots_in l list
  by_list WaitList.Sem = ap length sems ∙ length-set l.sems.items i slot
  by_list WaitList.Event = ap length events
  by_list (WaitList.Channel kind end) = ap (λ (c : PlainChannels). slots_of c kind) channels

  by_rows : (list : WaitList) (j : ℕ) → (waits_in new list j).rows ≡ (waits_in l list j).rows
  by_rows WaitList.Sem j = ap (λ (xs : List Counted). (sem_at xs j).waiters.rows) sems ∙ set-part (λ (c : Counted). c.waiters.rows) l.sems.items j i slot no_sem same
  by_rows WaitList.Event j = ap (λ (xs : List Flagged). (event_at xs j).waiters.rows) events
  by_rows (WaitList.Channel kind end) j = ap (λ (c : PlainChannels). (waits_at c kind end j).rows) channels

-- a take keeps the waiters
pub taken-keeps : (l new : Lists) (i : ℕ) (result : Bool) (old slot : Counted) → old ≡ sem_at l.sems.items i → OnTrue result (slot ≡ record old { value = old.value - 1 }) → OnFalse result (slot ≡ old)
    → new.sems.items ≡ set l.sems.items i slot → new.events.items ≡ l.events.items → new.channels ≡ l.channels → KeepsWaits l new
taken-keeps l new i result old slot at taken kept sems events channels = slot-keeps l new i slot sems events channels (by_test result refl ∙ ap (λ (c : Counted). c.waiters.rows) at) where
  by_test : (r : Bool) → result ≡ r → slot.waiters.rows ≡ old.waiters.rows
  by_test true is = ap (λ (c : Counted). c.waiters.rows) (OnTrue_at is taken)
  by_test false is = ap (λ (c : Counted). c.waiters.rows) (OnFalse_at is kept)

-- the tables, as contracts see them
abbrev pub shown : List Thread → AllObjects → List Counted → List Flagged → PlainChannels → Tabled
shown threads a sems events channels = record { threads = threads; ready = []; cores = 0; levels = 0; sems = map (plain_sem sems) a.sem.objects; events = map (plain_event events) a.event.objects; mailboxes = map (plain_mailbox channels) a.mailbox.objects; queues = map (plain_queue channels) a.msgqueue.objects; sem_limit = a.sem.limit; event_limit = a.event.limit; mailbox_limit = a.mailbox.limit; queue_limit = a.msgqueue.limit }

-- the wait list of a semaphore, by its name
pub seen-line : (threads : List Thread) (l : Lists) (name : List ℕ) (i : ℕ) → IsTied threads l → number_of l.objects.sem.objects name ≡ Some i → line (waits_in l WaitList.Sem i) ≡ sem_line threads (plain_sem l.sems.items (record { no = i; name = name }))
seen-line threads l name i tied e =
    tied-line threads (waits_in l WaitList.Sem i) (calls_in l.objects WaitList.Sem i) (tied.lists.rows WaitList.Sem i (found-below l.objects.sem name i (tied.lists.sound WaitList.Sem) e))
    ∙ line-same threads (waits_in l WaitList.Sem i).order (calls_in l.objects WaitList.Sem i) (takes_sem name) (λ call. found-calls l.objects.sem takes_sem name i (tied.lists.sound WaitList.Sem) e call)

-- a release that wakes a thread
module _ (threads woken : List Thread) (l new : Lists) (name : List ℕ) (i t : ℕ) (old slot : Counted) (tied : IsTied threads l) (e : number_of l.objects.sem.objects name ≡ Some i) (at : old ≡ sem_at l.sems.items i) (released : ReleasedBy old slot (Woke t))
    (objects : new.objects ≡ l.objects) (sems : new.sems.items ≡ set l.sems.items i slot) (events : new.events.items ≡ l.events.items) (channels : new.channels ≡ l.channels) (woken_is : woken ≡ with_row threads t (woken_row Code.Ok)) where
  there : i < length l.sems.items
  there = slot-there threads l name i tied e

  first : head_of (line (waits_in l WaitList.Sem i)) ≡ Some t
  first = ap (λ (x : Counted). first_of x.waiters.order (waiters x.waiters)) (sym at) ∙ released.0

  slot_is : slot ≡ record (sem_at l.sems.items i) { waiters = without (sem_at l.sems.items i).waiters t }
  slot_is = released.1 ∙ ap (λ (x : Counted). record x { waiters = without x.waiters t }) at

  relisted : IsRelisted l new (Some (WaitList.Sem, i)) (taken (Some t))
  relisted = record { objects = objects; sems = sems ∙ ap (set l.sems.items i) slot_is; events = events; channels = channels }

  pub woke-tied : IsTied woken new
  woke-tied = tied-taken threads woken l new WaitList.Sem i t (woken_row Code.Ok) (λ row. refl) tied there first relisted woken_is

-- the first waiter is there
pub woke-there : (threads : List Thread) (l : Lists) (name : List ℕ) (i t : ℕ) (old : Counted) → IsTied threads l → number_of l.objects.sem.objects name ≡ Some i → old ≡ sem_at l.sems.items i → first_of old.waiters.order (waiters old.waiters) ≡ Some t → t < length threads
woke-there threads l name i t old tied e at first =
    (first-in threads l.objects (waits_in l) WaitList.Sem i t tied.lists (found-below l.objects.sem name i (tied.lists.sound WaitList.Sem) e) (ap (λ (x : Counted). first_of x.waiters.order (waiters x.waiters)) (sym at) ∙ first)).there

-- what it leaves
pub woke-seen : (threads woken : List Thread) (l : Lists) (name : List ℕ) (i t : ℕ) (old slot : Counted) → IsTied threads l → number_of l.objects.sem.objects name ≡ Some i → old ≡ sem_at l.sems.items i → ReleasedBy old slot (Woke t) → woken ≡ with_row threads t (woken_row Code.Ok)
    → Releases (shown threads l.objects l.sems.items l.events.items l.channels) (record (shown woken l.objects (set l.sems.items i slot) l.events.items l.channels) { ready = t ∷ [] }) name (Some (Woke t))
woke-seen threads woken l name i t old slot tied e at released woken_is =
    let slot_is : slot ≡ record (sem_at l.sems.items i) { waiters = without (sem_at l.sems.items i).waiters t } = released.1 ∙ ap (λ (x : Counted). record x { waiters = without x.waiters t }) at in (
      plain_sem l.sems.items (record { no = i; name = name }),
      (
        seen-some l.sems.items l.objects.sem.objects name i e,
        (
          ap head_of (sym (seen-line threads l name i tied e)) ∙ ap (λ (x : Counted). first_of x.waiters.order (waiters x.waiters)) (sym at) ∙ released.0,
          (
            woke-there threads l name i t old tied e at released.0,
            λ k. record (shown threads l.objects l.sems.items l.events.items l.channels) {
              threads = woken_is k;
              ready = t ∷ [];
              sems = seen-same l.sems.items l.objects.sem.objects i slot (slot-there threads l name i tied e) (ap (λ (x : Counted). x.value) slot_is) (ap (λ (x : Counted). x.waiters.order) slot_is) k;
            },
          ),
        ),
      ),
    )

-- a release that wakes nobody
module _ (threads : List Thread) (l : Lists) (name : List ℕ) (i : ℕ) (old slot : Counted) (answer : SemReleased) (tied : IsTied threads l) (e : number_of l.objects.sem.objects name ≡ Some i) (at : old ≡ sem_at l.sems.items i)
    (released : ReleasedBy old slot answer) (other : (t : ℕ) → answer ≢ Woke t) where
  within : i < length l.sems.items
  within = slot-there threads l name i tied e

  nobody : first_of old.waiters.order (waiters old.waiters) ≡ None → head_of (sem_line threads (plain_sem l.sems.items (record { no = i; name = name }))) ≡ None
  nobody none = ap head_of (sym (seen-line threads l name i tied e)) ∙ ap (λ (x : Counted). first_of x.waiters.order (waiters x.waiters)) (sym at) ∙ none

  pub kept-waiters : slot.waiters ≡ (sem_at l.sems.items i).waiters
  kept-waiters = by_answer answer released other ∙ ap (λ (x : Counted). x.waiters) at where
    by_answer : (answer : SemReleased) → ReleasedBy old slot answer → ((t : ℕ) → answer ≢ Woke t) → slot.waiters ≡ old.waiters
    by_answer (Woke t) released other = absurd (other t refl)
    by_answer Full released other = ap (λ (x : Counted). x.waiters) released.1.1
    by_answer Raised released other = ap (λ (x : Counted). x.waiters) released.1.1

  pub kept-seen : Releases (shown threads l.objects l.sems.items l.events.items l.channels) (shown threads l.objects (set l.sems.items i slot) l.events.items l.channels) name (Some answer)
  kept-seen = (plain_sem l.sems.items (record { no = i; name = name }), (seen-some l.sems.items l.objects.sem.objects name i e, by_answer answer released other)) where
    by_answer : (answer : SemReleased) → ReleasedBy old slot answer → ((t : ℕ) → answer ≢ Woke t) → ReleasesSem (shown threads l.objects l.sems.items l.events.items l.channels) (shown threads l.objects (set l.sems.items i slot) l.events.items l.channels) (plain_sem l.sems.items (record { no = i; name = name })) answer
    by_answer (Woke t) released other = absurd (other t refl)
    by_answer Full released other =
        let slot_is : slot ≡ sem_at l.sems.items i = released.1.1 ∙ at in (
          nobody released.0,
          (
            ap (λ (x : Counted). x.value) (sym at) ∙ released.1.0,
            λ k. record (shown threads l.objects l.sems.items l.events.items l.channels) { sems = seen-same l.sems.items l.objects.sem.objects i slot within (ap (λ (x : Counted). x.value) slot_is) (ap (λ (x : Counted). x.waiters.order) slot_is) k },
          ),
        )
    by_answer Raised released other =
        let slot_is : slot ≡ record (sem_at l.sems.items i) { value = (sem_at l.sems.items i).value + 1 } = released.1.1 ∙ ap (λ (x : Counted). record x { value = x.value + 1 }) at in (
          nobody released.0,
          (
            λ full. released.1.0 (ap (λ (x : Counted). x.value) at ∙ full),
            λ k. record (shown threads l.objects l.sems.items l.events.items l.channels) { sems = (seen-put l.objects.sem l.sems.items name i slot (tied.lists.sound WaitList.Sem) within e ∙ ap (λ (x : Counted). put_sem (map (plain_sem l.sems.items) l.objects.sem.objects) (seen_as name x)) slot_is) k },
          ),
        )

-- the class with one semaphore more
abbrev pub made_sem : AllObjects → List ℕ → ℕ → AllObjects
made_sem a name i = record a { sem = record a.sem { objects = record { no = i; name = name } ∷ a.sem.objects } }

-- the lists that a semaphore has
abbrev pub has_sem : WaitList → Bool
has_sem WaitList.Sem = true
has_sem _ = false

sem-made : (a : AllObjects) (name : List ℕ) (i : ℕ) → IsMade a (made_sem a name i) has_sem name i
sem-made a name i WaitList.Sem = refl
sem-made a name i WaitList.Event = refl
sem-made a name i (WaitList.Channel ChannelKind.Mailbox end) = refl
sem-made a name i (WaitList.Channel ChannelKind.MsgQueue end) = refl

-- its objects alone are others
sem-sound : (a b : AllObjects) → ((list : WaitList) → IsSound (objects_in a list)) → IsSound b.sem → b.event ≡ a.event → b.mailbox ≡ a.mailbox → b.msgqueue ≡ a.msgqueue → (list : WaitList) → IsSound (objects_in b list)
sem-sound a b sound own event mailbox queue WaitList.Sem = own
sem-sound a b sound own event mailbox queue WaitList.Event = subst IsSound (sym event) (sound WaitList.Event)
sem-sound a b sound own event mailbox queue (WaitList.Channel ChannelKind.Mailbox end) = subst IsSound (sym mailbox) (sound (WaitList.Channel ChannelKind.Mailbox end))
sem-sound a b sound own event mailbox queue (WaitList.Channel ChannelKind.MsgQueue end) = subst IsSound (sym queue) (sound (WaitList.Channel ChannelKind.MsgQueue end))

-- the tables with one semaphore more, whose slot nobody waited in
pub tied-made : (threads : List Thread) (l new : Lists) (name : List ℕ) (i : ℕ) (slot : Counted) → IsTied threads l → new.objects ≡ made_sem l.objects name i → number_of l.objects.sem.objects name ≡ None → IsSound new.objects.sem
    → new.sems.items ≡ set l.sems.items i slot → new.events.items ≡ l.events.items → new.channels ≡ l.channels → slot.waiters.rows ≡ (sem_at l.sems.items i).waiters.rows → IsTied threads new
tied-made threads l new name i slot tied is none sound sems events channels rows =
    lists-made threads l new has_sem name i tied (λ list. ap (λ b. objects_in b list) is ∙ sem-made l.objects name i list) by_list (sem-sound l.objects new.objects tied.lists.sound sound (ap (λ b. b.event) is) (ap (λ b. b.mailbox) is) (ap (λ b. b.msgqueue) is)) (slot-keeps l new i slot sems events channels rows)
  where
    by_list : (list : WaitList) → has_sem list ≡ true → number_of (objects_in l.objects list).objects name ≡ None
    by_list WaitList.Sem own = none
    by_list WaitList.Event own = absurd (false≢true own)
    by_list (WaitList.Channel kind end) own = absurd (false≢true own)

-- the list of a free slot is empty
pub free-slot : (threads : List Thread) (l : Lists) (i : ℕ) (old : Counted) → IsTied threads l → i < l.objects.sem.limit → has_number l.objects.sem.objects i ≡ false → old ≡ sem_at l.sems.items i → length (line old.waiters) ≡ 0
free-slot threads l i old tied there free at = rw at (free-line takes_sem l.objects.sem.objects i threads (waits_in l WaitList.Sem i) (tied.lists.rows WaitList.Sem i there) free)

-- a creation
pub made-seen : (threads : List Thread) (a made : AllObjects) (sems : List Counted) (events : List Flagged) (channels : PlainChannels) (name : List ℕ) (value : ℕ) (order : WaitOrder) (i : ℕ) (rows : List (Option WaitRow)) → i < length sems → number_of a.sem.objects name ≡ None → length a.sem.objects < a.sem.limit
    → has_number a.sem.objects i ≡ false → made ≡ made_sem a name i
    → CreatesSem (shown threads a sems events channels) (shown threads made (set sems i (record { value = value; waiters = record { order = order; rows = rows } })) events channels) (record { name = name; value = value; order = order }) (Ok tt)
made-seen threads a made sems events channels name value order i rows there none room free is = (
  seen-none sems a.sem.objects name none,
  (
    omega (arith, room, length-map a.sem.objects (plain_sem sems)),
    rw is (λ k. record (shown threads a sems events channels) { sems = seen k }),
  ),
)
  where
    new : Counted
    new = record { value = value; waiters = record { order = order; rows = rows } }

    seen : map (plain_sem (set sems i new)) (made_sem a name i).sem.objects ≡ seen_as name new ∷ map (plain_sem sems) a.sem.objects
    seen =
        ap (λ (x : Counted). seen_as name x ∷ map (plain_sem (set sems i new)) a.sem.objects) (get_or-set_at sems i i new _ refl there)
        ∙ ap (λ l. seen_as name new ∷ l) (free-same (plain_sem sems) (plain_sem (set sems i new)) a.sem.objects i free (λ o other. ap (seen_as o.name) (get_or-set_other sems i o.no new _ other)))

-- no creation
pub refused-seen : (threads : List Thread) (a made : AllObjects) (sems : List Counted) (events : List Flagged) (channels : PlainChannels) (sem : Sem) (fault : Make) → MakeCause a.sem sem.name (Err fault) → made ≡ a → CreatesSem (shown threads a sems events channels) (shown threads made sems events channels) sem (Err fault)
refused-seen threads a made sems events channels sem (Taken number) cause same = (ap is_some (seen-some sems a.sem.objects sem.name number cause), ap (λ b. shown threads b sems events channels) same)
refused-seen threads a made sems events channels sem (ClassFull limit) cause same = (seen-none sems a.sem.objects sem.name cause.0, (length-map a.sem.objects (plain_sem sems) ∙ cause.1.0, ap (λ b. shown threads b sems events channels) same))

pub err-is : (r : Result Unit Make) (fault : Make) → IsErr r × IsErrAnd r (λ e. e ≡ fault) → r ≡ Err fault
err-is (Ok done) fault e = absurd e.1
err-is (Err f) fault e = ap (λ x. Err x) e.1

-- the class with one semaphore less
abbrev pub removed_sem : AllObjects → ℕ → AllObjects
removed_sem a i = record a { sem = removed a.sem i }

sem-dropped : (a : AllObjects) (i : ℕ) → IsDropped a (removed_sem a i) has_sem i
sem-dropped a i WaitList.Sem = refl
sem-dropped a i WaitList.Event = refl
sem-dropped a i (WaitList.Channel ChannelKind.Mailbox end) = refl
sem-dropped a i (WaitList.Channel ChannelKind.MsgQueue end) = refl

-- a semaphore that nobody waits for is gone
pub tied-removed : (threads : List Thread) (l new : Lists) (name : List ℕ) (i : ℕ) → IsTied threads l → number_of l.objects.sem.objects name ≡ Some i → line (waits_in l WaitList.Sem i) ≡ [] → new.objects ≡ removed_sem l.objects i → IsSound new.objects.sem
    → new.sems.items ≡ l.sems.items → new.events.items ≡ l.events.items → new.channels ≡ l.channels → IsTied threads new
tied-removed threads l new name i tied e empty is sound sems events channels =
    lists-dropped threads l new has_sem name i tied (λ list. ap (λ b. objects_in b list) is ∙ sem-dropped l.objects i list) by_name by_line (sem-sound l.objects new.objects tied.lists.sound sound (ap (λ b. b.event) is) (ap (λ b. b.mailbox) is) (ap (λ b. b.msgqueue) is)) (record { slots = by_slots; rows = by_rows; wants = λ j. ap (λ (xs : List Flagged). (event_at xs j).wants) events })
  where
    by_name : (list : WaitList) → has_sem list ≡ true → number_of (objects_in l.objects list).objects name ≡ Some i
    by_name WaitList.Sem own = e
    by_name WaitList.Event own = absurd (false≢true own)
    by_name (WaitList.Channel kind end) own = absurd (false≢true own)

    by_line : (list : WaitList) → has_sem list ≡ true → line (waits_in l list i) ≡ []
    by_line WaitList.Sem own = empty
    by_line WaitList.Event own = absurd (false≢true own)
    by_line (WaitList.Channel kind end) own = absurd (false≢true own)

    by_slots : (list : WaitList) → slots_in new list ≡ slots_in l list
    by_slots WaitList.Sem = ap length sems
    by_slots WaitList.Event = ap length events
    by_slots (WaitList.Channel kind end) = ap (λ (c : PlainChannels). slots_of c kind) channels

    by_rows : (list : WaitList) (j : ℕ) → (waits_in new list j).rows ≡ (waits_in l list j).rows
    by_rows WaitList.Sem j = ap (λ (xs : List Counted). (sem_at xs j).waiters.rows) sems
    by_rows WaitList.Event j = ap (λ (xs : List Flagged). (event_at xs j).waiters.rows) events
    by_rows (WaitList.Channel kind end) j = ap (λ (c : PlainChannels). (waits_at c kind end j).rows) channels

-- whom a deletion wakes
pub woken-seen : (threads : List Thread) (l : Lists) (name : List ℕ) (i : ℕ) (woken : List ℕ) (sem : Sem) → IsTied threads l → number_of l.objects.sem.objects name ≡ Some i → woken ≡ line (waits_in l WaitList.Sem i) → found_sem (map (plain_sem l.sems.items) l.objects.sem.objects) name ≡ Some sem → woken ≡ sem_line threads sem
woken-seen threads l name i woken sem tied e all is = all ∙ seen-line threads l name i tied e ∙ ap (sem_line threads) (same_Some _ sem (sym (seen-some l.sems.items l.objects.sem.objects name i e) ∙ is))

-- what it leaves
pub removed-seen : (threads now : List Thread) (l left : Lists) (gone : AllObjects) (name : List ℕ) (i : ℕ) (woken : List ℕ) → IsSound l.objects.sem → number_of l.objects.sem.objects name ≡ Some i → now ≡ all_woken Code.Error threads woken → IsShownAs l left → gone ≡ removed_sem left.objects i
    → record (shown now gone left.sems.items left.events.items left.channels) { ready = woken } ≡ without_sem (shown threads l.objects l.sems.items l.events.items l.channels) name woken
removed-seen threads now l left gone name i woken sound e rows same is =
    ap (λ b. record (shown now b left.sems.items left.events.items left.channels) { ready = woken }) (is ∙ ap (λ b. removed_sem b i) same.objects)
    ∙ (λ k. record (shown threads l.objects l.sems.items l.events.items l.channels) {
      threads = rows k;
      ready = woken;
      sems = (found-removed (plain_sem left.sems.items) (λ (x : Sem). x.name) l.objects.sem name i sound e (λ o. refl) ∙ ap (filter (λ (x : Sem). not (bytes_eq x.name name))) same.sems) k;
      events = same.events k;
      mailboxes = same.mailboxes k;
      queues = same.queues k;
    })
