-- The rows of the tables of the objects.
use Rattle.std.proofs.Common.{◌≡◌, ◌<◌, ◌||◌, ℕ, zero, suc, List, [], ◌∷◌, Some, Bool, true, false, cond, refl, sym, ap, ◌∙◌, subst, length, map, slice_get, slice_index_or, option_map}
use Rattle.std.specs.Prelude.{find}
use Rattle.std.specs.Str.{bytes_eq}
use Rattle.std.proofs.lemmas.Bool.{false≢true}
use Rattle.std.proofs.lemmas.List.{get_or_default}
use Rattle.std.proofs.lemmas.Option.{none-some, same_Some, slice_get-map, slice_get_within, get_or_from_slice_get}
use Rattle.rt_plain.specs.declared.row.Row.{Row}
use Rattle.rt_plain.specs.declared.stmt.Call.{Call}
use Rattle.rt_plain.specs.kernel.State.{Thread}
use Rattle.rt_plain.specs.kernel.Waiting.{takes_sem, receives_event}
use Rattle.susp_list.specs.Rows.{Waits, line}
use Rattle.object_box.specs.declared.object.Object.{Object}
use Rattle.object_box.specs.Objects.{ClassObjects, IsSound, number_of}
use Rattle.ipc_counts.specs.Counted.{Counted}
use Rattle.ipc_counts.specs.Flags.{Flagged}
use Rattle.kernel_tables.specs.declared.lists.Lists.{Lists}
use Rattle.kernel_tables.specs.Listed.{sem_at, event_at, plain_sem, plain_event, plain_sems, plain_events, plain_mailbox, plain_mailboxes, plain_queue, plain_queues, wait_row, no_waits}
use Rattle.kernel_tables.specs.WaitLists.{calls_on, is_there}
use Rattle.kernel_tables.specs.declared.wait_list.WaitList.{WaitList}
use Rattle.ipc_queues.specs.Channels.{mail_at, messages_at, slots_of, waits_at}
use Rattle.ipc_queues.specs.declared.channels.ChannelKind.{ChannelKind}
use Rattle.ipc_queues.specs.declared.ends.End.{End}
use Rattle.kernel_tables.specs.ObjectRows.{sem_shown, event_shown, mailbox_shown, queue_shown}
use Rattle.kernel_tables.specs.Tabled.{line_of, mail_line, message_line}
use Rattle.kernel_tables.specs.Tied.{IsTied}
use Rattle.kernel_tables.proofs.FoundLemmas.{AreApart, apart, same_name, name_same, found-calls}
use Rattle.kernel_tables.proofs.MailboxLemmas.{seen-line as mail-seen}
use Rattle.kernel_tables.proofs.QueueLemmas.{seen-line as message-seen}
use Rattle.kernel_tables.proofs.TiedLemmas.{tied-line, line-same}

-- an object at a place is there
placed_there : (objects : List Object) (place : ℕ) (o : Object) → slice_get objects place ≡ Some o → is_there objects o.name ≡ true
placed_there [] place o at = absurd (none-some o at)
placed_there (x ∷ xs) zero o at = ap (λ c. c || is_there xs o.name) (ap (λ (y : Object). bytes_eq y.name o.name) (same_Some x o at) ∙ same_name o.name)
placed_there (x ∷ xs) (suc place) o at = by_test (bytes_eq x.name o.name) (placed_there xs place o at)
  where
    by_test : (c : Bool) → is_there xs o.name ≡ true → c || is_there xs o.name ≡ true
    by_test true rest = refl
    by_test false rest = rest

-- its name stands for its number
placed_apart : (objects : List Object) (place : ℕ) (o : Object) → AreApart objects → slice_get objects place ≡ Some o → number_of objects o.name ≡ Some o.no
placed_apart [] place o differ at = absurd (none-some o at)
placed_apart (x ∷ xs) zero o differ at =
    ap (λ (y : Object). option_map (λ (z : Object). z.no) (cond (bytes_eq y.name o.name) (Some y) (find (λ z. bytes_eq z.name o.name) xs))) (same_Some x o at)
    ∙ ap (λ c. option_map (λ (z : Object). z.no) (cond c (Some o) (find (λ z. bytes_eq z.name o.name) xs))) (same_name o.name)
placed_apart (x ∷ xs) (suc place) o differ at = by_test (bytes_eq x.name o.name) refl (placed_apart xs place o differ.1.1 at)
  where
    by_test : (c : Bool) → bytes_eq x.name o.name ≡ c → number_of xs o.name ≡ Some o.no → option_map (λ (z : Object). z.no) (cond c (Some x) (find (λ z. bytes_eq z.name o.name) xs)) ≡ Some o.no
    by_test true is rest = absurd (false≢true (sym differ.1.0 ∙ ap (is_there xs) (name_same x.name o.name is) ∙ placed_there xs place o at))
    by_test false is rest = rest

-- its number is below the limit
pub placed_below : (c : ClassObjects) (place : ℕ) (o : Object) → IsSound c → slice_get c.objects place ≡ Some o → o.no < c.limit
placed_below c place o sound at = subst (λ (x : Object). x.no < c.limit) (get_or_from_slice_get c.objects place o o at) (sound.below place o (slice_get_within c.objects place o at))

-- its wait list is that of its name
placed_line : (threads : List Thread) (c : ClassObjects) (waits_for : List ℕ → Call → Bool) (w : Waits) (place : ℕ) (o : Object) → IsSound c → slice_get c.objects place ≡ Some o → w.rows ≡ map (wait_row (calls_on waits_for c.objects o.no)) threads
    → line w ≡ line_of threads w.order (waits_for o.name)
placed_line threads c waits_for w place o sound at rows =
    tied-line threads w (calls_on waits_for c.objects o.no) rows
    ∙ line-same threads w.order (calls_on waits_for c.objects o.no) (waits_for o.name) (found-calls c waits_for o.name o.no sound (placed_apart c.objects place o (apart c sound) at))

-- the row of a semaphore at a place
pub sem_row_is : (threads : List Thread) (l : Lists) (place : ℕ) (o : Object) (sem : Counted) → IsTied threads l → slice_get l.objects.sem.objects place ≡ Some o → sem ≡ slice_index_or l.sems.items o.no sem
    → option_map (sem_shown threads) (slice_get (plain_sems l) place) ≡ Some (Row.Sem o.name sem.value (length (line sem.waiters)))
sem_row_is threads l place o sem tied at is =
    let below : o.no < l.objects.sem.limit = placed_below l.objects.sem place o (tied.lists.sound WaitList.Sem) at in
    let within : o.no < length l.sems.items = subst (λ n. o.no < n) (sym (tied.slots WaitList.Sem)) below in
    let same : sem_at l.sems.items o.no ≡ sem = get_or_default l.sems.items o.no (record { value = 0; waiters = no_waits }) sem within ∙ sym is in
    let lined : line (sem_at l.sems.items o.no).waiters ≡ line_of threads (sem_at l.sems.items o.no).waiters.order (takes_sem o.name) = placed_line threads l.objects.sem takes_sem (sem_at l.sems.items o.no).waiters place o (tied.lists.sound WaitList.Sem) at (tied.lists.rows WaitList.Sem o.no below) in
    ap (option_map (sem_shown threads)) (slice_get-map (plain_sem l.sems.items) l.objects.sem.objects place ∙ ap (option_map (plain_sem l.sems.items)) at)
    ∙ ap (λ (ts : List ℕ). Some (Row.Sem o.name (sem_at l.sems.items o.no).value (length ts))) (sym lined)
    ∙ ap (λ (c : Counted). Some (Row.Sem o.name c.value (length (line c.waiters)))) same

-- the row of an event object at a place
pub event_row_is : (threads : List Thread) (l : Lists) (place : ℕ) (o : Object) (event : Flagged) → IsTied threads l → slice_get l.objects.event.objects place ≡ Some o → event ≡ slice_index_or l.events.items o.no event
    → option_map (event_shown threads) (slice_get (plain_events l) place) ≡ Some (Row.Event o.name event.flags (length (line event.waiters)))
event_row_is threads l place o event tied at is =
    let below : o.no < l.objects.event.limit = placed_below l.objects.event place o (tied.lists.sound WaitList.Event) at in
    let within : o.no < length l.events.items = subst (λ n. o.no < n) (sym (tied.slots WaitList.Event)) below in
    let same : event_at l.events.items o.no ≡ event = get_or_default l.events.items o.no (record { flags = 0; waiters = no_waits; wants = [] }) event within ∙ sym is in
    let lined : line (event_at l.events.items o.no).waiters ≡ line_of threads (event_at l.events.items o.no).waiters.order (receives_event o.name) = placed_line threads l.objects.event receives_event (event_at l.events.items o.no).waiters place o (tied.lists.sound WaitList.Event) at (tied.lists.rows WaitList.Event o.no below) in
    ap (option_map (event_shown threads)) (slice_get-map (plain_event l.events.items) l.objects.event.objects place ∙ ap (option_map (plain_event l.events.items)) at)
    ∙ ap (λ (ts : List ℕ). Some (Row.Event o.name (event_at l.events.items o.no).flags (length ts))) (sym lined)
    ∙ ap (λ (e : Flagged). Some (Row.Event o.name e.flags (length (line e.waiters)))) same

-- the slot of a mailbox at a place
pub mail_placed : (threads : List Thread) (l : Lists) (place : ℕ) (o : Object) → IsTied threads l → slice_get l.objects.mailbox.objects place ≡ Some o → o.no < slots_of l.channels ChannelKind.Mailbox
mail_placed threads l place o tied at =
    let list = WaitList.Channel ChannelKind.Mailbox End.Receivers in
    subst (λ n. o.no < n) (sym (tied.slots list)) (placed_below l.objects.mailbox place o (tied.lists.sound list) at)

-- the row of a mailbox at a place
pub mailbox_row_is : (threads : List Thread) (l : Lists) (place : ℕ) (o : Object) → IsTied threads l → slice_get l.objects.mailbox.objects place ≡ Some o
    → option_map (mailbox_shown threads) (slice_get (plain_mailboxes l) place)
    ≡ Some (Row.Mailbox o.name (length (mail_at l.channels.mails o.no).mailbox.words) (mail_at l.channels.mails o.no).mailbox.size (length (line (waits_at l.channels ChannelKind.Mailbox End.Receivers o.no))) (length (line (waits_at l.channels ChannelKind.Mailbox End.Senders o.no))))
mailbox_row_is threads l place o tied at =
    let m = plain_mailbox l.channels o in
    let number = placed_apart l.objects.mailbox.objects place o (apart l.objects.mailbox (tied.lists.sound (WaitList.Channel ChannelKind.Mailbox End.Receivers))) at in
    ap (option_map (mailbox_shown threads)) (slice_get-map (plain_mailbox l.channels) l.objects.mailbox.objects place ∙ ap (option_map (plain_mailbox l.channels)) at)
    ∙ ap (λ (ts : List ℕ). Some (Row.Mailbox o.name (length m.words) m.size (length ts) (length (mail_line threads m End.Senders)))) (sym (mail-seen threads l o.name o.no End.Receivers tied number))
    ∙ ap (λ (ts : List ℕ). Some (Row.Mailbox o.name (length m.words) m.size (length (line (waits_at l.channels ChannelKind.Mailbox End.Receivers o.no))) (length ts))) (sym (mail-seen threads l o.name o.no End.Senders tied number))

-- the slot of a message queue at a place
pub queue_placed : (threads : List Thread) (l : Lists) (place : ℕ) (o : Object) → IsTied threads l → slice_get l.objects.msgqueue.objects place ≡ Some o → o.no < slots_of l.channels ChannelKind.MsgQueue
queue_placed threads l place o tied at =
    let list = WaitList.Channel ChannelKind.MsgQueue End.Receivers in
    subst (λ n. o.no < n) (sym (tied.slots list)) (placed_below l.objects.msgqueue place o (tied.lists.sound list) at)

-- the row of a message queue at a place
pub queue_row_is : (threads : List Thread) (l : Lists) (place : ℕ) (o : Object) → IsTied threads l → slice_get l.objects.msgqueue.objects place ≡ Some o
    → option_map (queue_shown threads) (slice_get (plain_queues l) place)
    ≡ Some (Row.MsgQueue o.name (length (messages_at l.channels.messages o.no).queue.messages) (messages_at l.channels.messages o.no).queue.size (messages_at l.channels.messages o.no).queue.max (length (line (waits_at l.channels ChannelKind.MsgQueue End.Receivers o.no))) (length (line (waits_at l.channels ChannelKind.MsgQueue End.Senders o.no))))
queue_row_is threads l place o tied at =
    let q = plain_queue l.channels o in
    let number = placed_apart l.objects.msgqueue.objects place o (apart l.objects.msgqueue (tied.lists.sound (WaitList.Channel ChannelKind.MsgQueue End.Receivers))) at in
    ap (option_map (queue_shown threads)) (slice_get-map (plain_queue l.channels) l.objects.msgqueue.objects place ∙ ap (option_map (plain_queue l.channels)) at)
    ∙ ap (λ (ts : List ℕ). Some (Row.MsgQueue o.name (length q.messages) q.size q.max (length ts) (length (message_line threads q End.Senders)))) (sym (message-seen threads l o.name o.no End.Receivers tied number))
    ∙ ap (λ (ts : List ℕ). Some (Row.MsgQueue o.name (length q.messages) q.size q.max (length (line (waits_at l.channels ChannelKind.MsgQueue End.Receivers o.no))) (length ts))) (sym (message-seen threads l o.name o.no End.Senders tied number))
