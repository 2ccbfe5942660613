-- The tables before and after a call on a message queue.
use Rattle.std.proofs.Common.{◌≡◌, ◌<◌, ℕ, List, [], ◌∷◌, ◌++◌, Option, Some, None, Bool, true, false, not, refl, sym, ap, ◌∙◌, subst, arith, length, map, filter, drop, is_some, slice_get, IfSome}
use Rattle.std.specs.Prelude.{if◌then◌else◌, Result, Ok, Err, slice_set, nat_lt, IfNone, OnOk, OnErr}
use Rattle.std.specs.Str.{bytes_eq}
use Rattle.std.proofs.lemmas.Bool.{false≢true}
use Rattle.std.proofs.lemmas.List.{length-map}
use Rattle.std.proofs.lemmas.Option.{same_Some}
use Rattle.rt_base.specs.declared.codes.Code.{Code}
use Rattle.rt_base.specs.declared.codes.WaitOrder.{WaitOrder}
use Rattle.rt_plain.specs.kernel.State.{Thread, MsgQueue}
use Rattle.rt_plain.specs.kernel.Waiting.{head_of}
use Rattle.susp_list.specs.Rows.{line}
use Rattle.object_box.specs.declared.object.Object.{Object}
use Rattle.object_box.specs.Classes.{AllObjects}
use Rattle.object_box.specs.declared.fault.Make.{Make}
use Rattle.object_box.specs.declared.fault.Make.TheVariants.{Taken, ClassFull}
use Rattle.object_box.specs.Objects.{ClassObjects, IsSound, MakeCause, removed, has_number, number_of}
use Rattle.ipc_queues.specs.Queues.{PlainMsgQueue}
use Rattle.ipc_queues.specs.Channels.{PlainChannels, messages_at, no_messages, slots_of, waits_at, with_queue, put_answer}
use Rattle.ipc_queues.specs.declared.channels.ChannelKind.{ChannelKind}
use Rattle.ipc_queues.specs.declared.channels.MessageSlot.{MessageSlot}
use Rattle.ipc_queues.specs.declared.channels.MailSlot.{MailSlot}
use Rattle.ipc_queues.specs.declared.ends.End.{End}
use Rattle.ipc_queues.specs.declared.fault.PutFault.{PutFault}
use Rattle.kernel_tables.specs.declared.lists.Lists.{Lists}
use Rattle.kernel_tables.specs.declared.wait_list.WaitList.{WaitList}
use Rattle.kernel_tables.specs.Listed.{plain_queue, plain_queues, plain_mailbox, plain_mailboxes, wait_row, waits_in, IsShownAs}
use Rattle.kernel_tables.specs.Tabled.{found_queue, put_queue, messages_put, messages_taken, message_line, CreatesQueue, all_woken, without_queue}
use Rattle.kernel_tables.specs.Tied.{IsTied, tabled}
use Rattle.kernel_tables.specs.WaitLists.{objects_in, calls_in, waits_for}
use Rattle.kernel_tables.proofs.TiedLemmas.{tied-line, line-same, set-here, set-there}
use Rattle.kernel_tables.proofs.FoundLemmas.{found-calls, found-below, some-plain, none-plain, found-put, free-line, free-same, found-removed}
use Rattle.kernel_tables.proofs.MadeLemmas.{IsMade, IsDropped, lists-made, lists-dropped}
use Rattle.kernel_tables.proofs.ChannelLemmas.{KeepsEnds, ends-same, messages-kept, order-rows, channels-keep}
use Rattle.kernel_tables.proofs.SemLemmas.{shown}
use Rattle.kernel_tables.proofs.WokenLemmas.{first-in}

-- the slot of a queue is there
pub queue-there : (threads : List Thread) (l : Lists) (name : List ℕ) (i : ℕ) → IsTied threads l → number_of l.objects.msgqueue.objects name ≡ Some i → i < slots_of l.channels ChannelKind.MsgQueue
queue-there threads l name i tied e = subst (λ n. i < n) (sym (tied.slots (WaitList.Channel ChannelKind.MsgQueue End.Receivers))) (found-below l.objects.msgqueue name i (tied.lists.sound (WaitList.Channel ChannelKind.MsgQueue End.Receivers)) e)

-- a queue that is there, seen by its name
pub queue-some : (c : PlainChannels) (objects : List Object) (name : List ℕ) (i : ℕ) → number_of objects name ≡ Some i → found_queue (map (plain_queue c) objects) name ≡ Some (plain_queue c (record { no = i; name = name }))
queue-some c objects name i e = some-plain (plain_queue c) (λ (x : MsgQueue). x.name) objects name i (λ o. refl) e

pub queue-none : (c : PlainChannels) (objects : List Object) (name : List ℕ) → number_of objects name ≡ None → found_queue (map (plain_queue c) objects) name ≡ None
queue-none c objects name e = none-plain (plain_queue c) (λ (x : MsgQueue). x.name) objects name (λ o. refl) e

-- a slot seen by the name of its object
abbrev seen_as : List ℕ → MessageSlot → MsgQueue
seen_as name s = record { name = name; max = s.queue.max; size = s.queue.size; order = s.ends.order; messages = s.queue.messages }

-- another slot at the number of a queue
queue-put : (k : ClassObjects) (c : PlainChannels) (name : List ℕ) (i : ℕ) (new : MessageSlot) → IsSound k → i < length c.messages → number_of k.objects name ≡ Some i
    → map (plain_queue (record c { messages = slice_set c.messages i new })) k.objects ≡ put_queue (map (plain_queue c) k.objects) (seen_as name new)
queue-put k c name i new sound there e =
    found-put (plain_queue c) (plain_queue (record c { messages = slice_set c.messages i new })) (λ (x : MsgQueue). x.name) k name i (seen_as name new) sound e (λ o. refl)
    (λ o other. ap (seen_as o.name) (set-there c.messages o.no i new no_messages other))
    (ap (seen_as name) (set-here c.messages i new no_messages there))

-- whether an answer is that a message was taken
abbrev is_taken : Result Unit PutFault → Bool
is_taken (Ok done) = true
is_taken (Err fault) = false

taken-is : (message : List ℕ) (queue : PlainMsgQueue) → is_taken (put_answer queue message) ≡ (if nat_lt queue.max (length message) then false else nat_lt (length queue.messages) queue.size)
taken-is message queue = by_tests (nat_lt queue.max (length message)) (nat_lt (length queue.messages) queue.size) where
  by_tests : (long room : Bool) → is_taken (if long then Err (PutFault.TooLong (length message) queue.max) else if room then Ok tt else Err PutFault.Full) ≡ (if long then false else room)
  by_tests true room = refl
  by_tests false true = refl
  by_tests false false = refl

-- a message is put, where the queue takes it
pub put-state : (l : Lists) (name : List ℕ) (i : ℕ) (message : List ℕ) (put : List (List ℕ) → List (List ℕ)) (result : Result Unit PutFault) (after : PlainChannels) → IsSound l.objects.msgqueue → number_of l.objects.msgqueue.objects name ≡ Some i → i < length l.channels.messages
    → result ≡ put_answer (messages_at l.channels.messages i).queue message
    → OnOk result (after ≡ with_queue l.channels i (record (messages_at l.channels.messages i).queue { messages = put (messages_at l.channels.messages i).queue.messages })) → OnErr result (after ≡ l.channels)
    → map (plain_queue after) l.objects.msgqueue.objects ≡ messages_put (plain_queues l) message put (found_queue (plain_queues l) name)
put-state l name i message put result after sound e there exactly sent refused = by_result result exactly sent refused ∙ ap (messages_put (plain_queues l) message put) (sym (queue-some l.channels l.objects.msgqueue.objects name i e))
  where
    own : MsgQueue
    own = plain_queue l.channels (record { no = i; name = name })

    left : Bool → List MsgQueue
    left c = if c then put_queue (plain_queues l) (record own { messages = put own.messages }) else plain_queues l

    by_result : (r : Result Unit PutFault) → r ≡ put_answer (messages_at l.channels.messages i).queue message → OnOk r (after ≡ with_queue l.channels i (record (messages_at l.channels.messages i).queue { messages = put (messages_at l.channels.messages i).queue.messages })) → OnErr r (after ≡ l.channels)
        → map (plain_queue after) l.objects.msgqueue.objects ≡ messages_put (plain_queues l) message put (Some own)
    by_result (Ok done) exactly sent refused =
        ap (λ (c : PlainChannels). map (plain_queue c) l.objects.msgqueue.objects) sent
        ∙ queue-put l.objects.msgqueue l.channels name i (record (messages_at l.channels.messages i) { queue = record (messages_at l.channels.messages i).queue { messages = put (messages_at l.channels.messages i).queue.messages } }) sound there e
        ∙ ap left (ap is_taken exactly ∙ taken-is message (messages_at l.channels.messages i).queue)
    by_result (Err fault) exactly sent refused = ap (λ (c : PlainChannels). map (plain_queue c) l.objects.msgqueue.objects) refused ∙ ap left (ap is_taken exactly ∙ taken-is message (messages_at l.channels.messages i).queue)

pub put-keeps : (c after : PlainChannels) (i : ℕ) (m : PlainMsgQueue) (result : Result Unit PutFault) → OnOk result (after ≡ with_queue c i m) → OnErr result (after ≡ c) → KeepsEnds c after
put-keeps c after i m (Ok done) sent refused = messages-kept c after i (record (messages_at c.messages i) { queue = m }) sent (λ end. refl)
put-keeps c after i m (Err fault) sent refused = ends-same c after refused

-- mailboxes stay
pub put-others : (c after : PlainChannels) (i : ℕ) (m : PlainMsgQueue) (result : Result Unit PutFault) → OnOk result (after ≡ with_queue c i m) → OnErr result (after ≡ c) → after.mails ≡ c.mails
put-others c after i m (Ok done) sent refused = ap (λ (x : PlainChannels). x.mails) sent
put-others c after i m (Err fault) sent refused = ap (λ (x : PlainChannels). x.mails) refused

pub other-mailboxes : (l : Lists) (after : PlainChannels) → after.mails ≡ l.channels.mails → map (plain_mailbox after) l.objects.mailbox.objects ≡ plain_mailboxes l
other-mailboxes l after same = ap (λ (mails : List MailSlot). map (plain_mailbox (record l.channels { mails = mails })) l.objects.mailbox.objects) same

-- the front message is taken, where there is one
pub taken-state : (l : Lists) (name : List ℕ) (i : ℕ) (result : Option (List ℕ)) (after : PlainChannels) → IsSound l.objects.msgqueue → number_of l.objects.msgqueue.objects name ≡ Some i → i < length l.channels.messages
    → result ≡ slice_get (messages_at l.channels.messages i).queue.messages 0
    → IfSome result (λ _. after ≡ with_queue l.channels i (record (messages_at l.channels.messages i).queue { messages = drop 1 (messages_at l.channels.messages i).queue.messages })) → IfNone result (after ≡ l.channels)
    → map (plain_queue after) l.objects.msgqueue.objects ≡ messages_taken (plain_queues l) (found_queue (plain_queues l) name)
taken-state l name i result after sound e there exactly taken empty = by_result result exactly taken empty ∙ ap (messages_taken (plain_queues l)) (sym (queue-some l.channels l.objects.msgqueue.objects name i e))
  where
    own : MsgQueue
    own = plain_queue l.channels (record { no = i; name = name })

    left : Option (List ℕ) → List MsgQueue
    left o = if is_some o then put_queue (plain_queues l) (record own { messages = drop 1 own.messages }) else plain_queues l

    by_result : (r : Option (List ℕ)) → r ≡ slice_get (messages_at l.channels.messages i).queue.messages 0 → IfSome r (λ _. after ≡ with_queue l.channels i (record (messages_at l.channels.messages i).queue { messages = drop 1 (messages_at l.channels.messages i).queue.messages })) → IfNone r (after ≡ l.channels)
        → map (plain_queue after) l.objects.msgqueue.objects ≡ messages_taken (plain_queues l) (Some own)
    by_result (Some message) exactly taken empty =
        ap (λ (c : PlainChannels). map (plain_queue c) l.objects.msgqueue.objects) taken
        ∙ queue-put l.objects.msgqueue l.channels name i (record (messages_at l.channels.messages i) { queue = record (messages_at l.channels.messages i).queue { messages = drop 1 (messages_at l.channels.messages i).queue.messages } }) sound there e
        ∙ ap left exactly
    by_result None exactly taken empty = ap (λ (c : PlainChannels). map (plain_queue c) l.objects.msgqueue.objects) empty ∙ ap left exactly

pub taken-keeps : (c after : PlainChannels) (i : ℕ) (m : PlainMsgQueue) (result : Option (List ℕ)) → IfSome result (λ _. after ≡ with_queue c i m) → IfNone result (after ≡ c) → KeepsEnds c after
taken-keeps c after i m (Some message) taken empty = messages-kept c after i (record (messages_at c.messages i) { queue = m }) taken (λ end. refl)
taken-keeps c after i m None taken empty = ends-same c after empty

pub taken-others : (c after : PlainChannels) (i : ℕ) (m : PlainMsgQueue) (result : Option (List ℕ)) → IfSome result (λ _. after ≡ with_queue c i m) → IfNone result (after ≡ c) → after.mails ≡ c.mails
taken-others c after i m (Some message) taken empty = ap (λ (x : PlainChannels). x.mails) taken
taken-others c after i m None taken empty = ap (λ (x : PlainChannels). x.mails) empty

-- who waits at an end, by the name of the queue
pub seen-line : (threads : List Thread) (l : Lists) (name : List ℕ) (i : ℕ) (end : End) → IsTied threads l → number_of l.objects.msgqueue.objects name ≡ Some i → line (waits_at l.channels ChannelKind.MsgQueue end i) ≡ message_line threads (plain_queue l.channels (record { no = i; name = name })) end
seen-line threads l name i end tied e = by_end end where
  list : End → WaitList
  list end = WaitList.Channel ChannelKind.MsgQueue end

  rows : (end : End) → (waits_in l (list end) i).rows ≡ map (wait_row (calls_in l.objects (list end) i)) threads
  rows end = tied.lists.rows (list end) i (found-below l.objects.msgqueue name i (tied.lists.sound (list end)) e)

  by_end : (end : End) → line (waits_in l (list end) i) ≡ message_line threads (plain_queue l.channels (record { no = i; name = name })) end
  by_end End.Receivers =
      tied-line threads (waits_in l (list End.Receivers) i) (calls_in l.objects (list End.Receivers) i) (rows End.Receivers)
      ∙ line-same threads (waits_in l (list End.Receivers) i).order (calls_in l.objects (list End.Receivers) i) (waits_for (list End.Receivers) name) (λ call. found-calls l.objects.msgqueue (waits_for (list End.Receivers)) name i (tied.lists.sound (list End.Receivers)) e call)
  by_end End.Senders =
      tied-line threads (waits_in l (list End.Senders) i) (calls_in l.objects (list End.Senders) i) (rows End.Senders)
      ∙ line-same threads (waits_in l (list End.Senders) i).order (calls_in l.objects (list End.Senders) i) (waits_for (list End.Senders) name) (λ call. found-calls l.objects.msgqueue (waits_for (list End.Senders)) name i (tied.lists.sound (list End.Senders)) e call)

-- the first who waits there
pub first-seen : (threads : List Thread) (l : Lists) (name : List ℕ) (i : ℕ) (end : End) (queue : MsgQueue) → IsTied threads l → number_of l.objects.msgqueue.objects name ≡ Some i → found_queue (plain_queues l) name ≡ Some queue
    → head_of (line (waits_at l.channels ChannelKind.MsgQueue end i)) ≡ head_of (message_line threads queue end)
first-seen threads l name i end queue tied e is = ap head_of (seen-line threads l name i end tied e) ∙ ap (λ (m : MsgQueue). head_of (message_line threads m end)) (same_Some _ queue (sym (queue-some l.channels l.objects.msgqueue.objects name i e) ∙ is))

pub first-there : (threads : List Thread) (l : Lists) (name : List ℕ) (i : ℕ) (end : End) (o : Option ℕ) → IsTied threads l → number_of l.objects.msgqueue.objects name ≡ Some i → o ≡ head_of (line (waits_at l.channels ChannelKind.MsgQueue end i)) → IfSome o (λ t. t < length threads)
first-there threads l name i end None tied e is = tt
first-there threads l name i end (Some t) tied e is =
    (first-in threads l.objects (waits_in l) (WaitList.Channel ChannelKind.MsgQueue end) i t tied.lists (found-below l.objects.msgqueue name i (tied.lists.sound (WaitList.Channel ChannelKind.MsgQueue end)) e) (sym is)).there

-- the class with one queue more
abbrev pub made_queue : AllObjects → List ℕ → ℕ → AllObjects
made_queue a name i = record a { msgqueue = record a.msgqueue { objects = record { no = i; name = name } ∷ a.msgqueue.objects } }

-- the lists that a queue has
abbrev has_queue : WaitList → Bool
has_queue (WaitList.Channel ChannelKind.MsgQueue end) = true
has_queue _ = false

queue-made : (a : AllObjects) (name : List ℕ) (i : ℕ) → IsMade a (made_queue a name i) has_queue name i
queue-made a name i WaitList.Sem = refl
queue-made a name i WaitList.Event = refl
queue-made a name i (WaitList.Channel ChannelKind.MsgQueue end) = refl
queue-made a name i (WaitList.Channel ChannelKind.Mailbox end) = refl

queue-sound : (a b : AllObjects) → ((list : WaitList) → IsSound (objects_in a list)) → IsSound b.msgqueue → b.sem ≡ a.sem → b.event ≡ a.event → b.mailbox ≡ a.mailbox → (list : WaitList) → IsSound (objects_in b list)
queue-sound a b sound own sem event mailbox WaitList.Sem = subst IsSound (sym sem) (sound WaitList.Sem)
queue-sound a b sound own sem event mailbox WaitList.Event = subst IsSound (sym event) (sound WaitList.Event)
queue-sound a b sound own sem event mailbox (WaitList.Channel ChannelKind.MsgQueue end) = own
queue-sound a b sound own sem event mailbox (WaitList.Channel ChannelKind.Mailbox end) = subst IsSound (sym mailbox) (sound (WaitList.Channel ChannelKind.Mailbox end))

-- the tables with one queue more, at whose ends nobody waited
pub tied-made : (threads : List Thread) (l new : Lists) (name : List ℕ) (i : ℕ) (m : PlainMsgQueue) (order : WaitOrder) → IsTied threads l → new.objects ≡ made_queue l.objects name i → number_of l.objects.msgqueue.objects name ≡ None → IsSound new.objects.msgqueue
    → new.sems.items ≡ l.sems.items → new.events.items ≡ l.events.items → new.channels ≡ record l.channels { messages = slice_set l.channels.messages i (record { queue = m; ends = record (messages_at l.channels.messages i).ends { order = order } }) } → IsTied threads new
tied-made threads l new name i m order tied is none sound sems events channels =
    lists-made threads l new has_queue name i tied (λ list. ap (λ b. objects_in b list) is ∙ queue-made l.objects name i list) by_list (queue-sound l.objects new.objects tied.lists.sound sound (ap (λ b. b.sem) is) (ap (λ b. b.event) is) (ap (λ b. b.mailbox) is))
    (channels-keep l new sems events (messages-kept l.channels new.channels i (record { queue = m; ends = record (messages_at l.channels.messages i).ends { order = order } }) channels (order-rows (messages_at l.channels.messages i).ends order)))
  where
    by_list : (list : WaitList) → has_queue list ≡ true → number_of (objects_in l.objects list).objects name ≡ None
    by_list (WaitList.Channel ChannelKind.MsgQueue end) own = none
    by_list (WaitList.Channel ChannelKind.Mailbox end) own = absurd (false≢true own)
    by_list WaitList.Sem own = absurd (false≢true own)
    by_list WaitList.Event own = absurd (false≢true own)

-- nobody waits at the ends of a free slot
pub free-end : (threads : List Thread) (l : Lists) (i : ℕ) (end : End) → IsTied threads l → i < l.objects.msgqueue.limit → has_number l.objects.msgqueue.objects i ≡ false → length (line (waits_at l.channels ChannelKind.MsgQueue end i)) ≡ 0
free-end threads l i end tied there free =
    free-line (waits_for (WaitList.Channel ChannelKind.MsgQueue end)) l.objects.msgqueue.objects i threads (waits_in l (WaitList.Channel ChannelKind.MsgQueue end) i) (tied.lists.rows (WaitList.Channel ChannelKind.MsgQueue end) i there) free

-- a creation
pub made-seen : (threads : List Thread) (l : Lists) (made : AllObjects) (after : PlainChannels) (name : List ℕ) (m : PlainMsgQueue) (order : WaitOrder) (i : ℕ) → i < length l.channels.messages → number_of l.objects.msgqueue.objects name ≡ None → length l.objects.msgqueue.objects < l.objects.msgqueue.limit
    → has_number l.objects.msgqueue.objects i ≡ false → made ≡ made_queue l.objects name i → m.messages ≡ [] → after ≡ record l.channels { messages = slice_set l.channels.messages i (record { queue = m; ends = record (messages_at l.channels.messages i).ends { order = order } }) }
    → CreatesQueue (tabled threads l) (shown threads made l.sems.items l.events.items after) (record { name = name; max = m.max; size = m.size; order = order; messages = [] }) (Ok tt)
made-seen threads l made after name m order i there none room free is empty channels = (
  queue-none l.channels l.objects.msgqueue.objects name none,
  (
    omega (arith, room, length-map l.objects.msgqueue.objects (plain_queue l.channels)),
    ap (λ (b : AllObjects). shown threads b l.sems.items l.events.items after) is ∙ (λ k. record (tabled threads l) { queues = seen k; mailboxes = mailboxes k }),
  ),
)
  where
    slot : MessageSlot
    slot = record { queue = m; ends = record (messages_at l.channels.messages i).ends { order = order } }

    changed : PlainChannels
    changed = record l.channels { messages = slice_set l.channels.messages i slot }

    mailboxes : map (plain_mailbox after) l.objects.mailbox.objects ≡ map (plain_mailbox l.channels) l.objects.mailbox.objects
    mailboxes = ap (λ (c : PlainChannels). map (plain_mailbox c) l.objects.mailbox.objects) channels

    seen : map (plain_queue after) (made_queue l.objects name i).msgqueue.objects ≡ record { name = name; max = m.max; size = m.size; order = order; messages = [] } ∷ plain_queues l
    seen =
        ap (λ (c : PlainChannels). map (plain_queue c) (made_queue l.objects name i).msgqueue.objects) channels
        ∙ ap (λ (s : MessageSlot). seen_as name s ∷ map (plain_queue changed) l.objects.msgqueue.objects) (set-here l.channels.messages i slot no_messages there)
        ∙ ap (λ messages. record { name = name; max = m.max; size = m.size; order = order; messages = messages } ∷ map (plain_queue changed) l.objects.msgqueue.objects) empty
        ∙ ap (λ (rest : List MsgQueue). record { name = name; max = m.max; size = m.size; order = order; messages = [] } ∷ rest) (free-same (plain_queue l.channels) (plain_queue changed) l.objects.msgqueue.objects i free (λ o other. ap (seen_as o.name) (set-there l.channels.messages o.no i slot no_messages other)))

-- no creation
pub refused-seen : (threads : List Thread) (l : Lists) (made : AllObjects) (queue : MsgQueue) (fault : Make) → MakeCause l.objects.msgqueue queue.name (Err fault) → made ≡ l.objects → CreatesQueue (tabled threads l) (shown threads made l.sems.items l.events.items l.channels) queue (Err fault)
refused-seen threads l made queue (Taken number) cause same = (ap is_some (queue-some l.channels l.objects.msgqueue.objects queue.name number cause), ap (λ b. shown threads b l.sems.items l.events.items l.channels) same)
refused-seen threads l made queue (ClassFull limit) cause same = (queue-none l.channels l.objects.msgqueue.objects queue.name cause.0, (length-map l.objects.msgqueue.objects (plain_queue l.channels) ∙ cause.1.0, ap (λ b. shown threads b l.sems.items l.events.items l.channels) same))

-- the class with one queue less
abbrev pub removed_queue : AllObjects → ℕ → AllObjects
removed_queue a i = record a { msgqueue = removed a.msgqueue i }

queue-dropped : (a : AllObjects) (i : ℕ) → IsDropped a (removed_queue a i) has_queue i
queue-dropped a i WaitList.Sem = refl
queue-dropped a i WaitList.Event = refl
queue-dropped a i (WaitList.Channel ChannelKind.MsgQueue end) = refl
queue-dropped a i (WaitList.Channel ChannelKind.Mailbox end) = refl

-- a queue that nobody waits for is gone
pub tied-removed : (threads : List Thread) (l new : Lists) (name : List ℕ) (i : ℕ) → IsTied threads l → number_of l.objects.msgqueue.objects name ≡ Some i → ((end : End) → line (waits_at l.channels ChannelKind.MsgQueue end i) ≡ []) → new.objects ≡ removed_queue l.objects i → IsSound new.objects.msgqueue
    → new.sems.items ≡ l.sems.items → new.events.items ≡ l.events.items → new.channels ≡ l.channels → IsTied threads new
tied-removed threads l new name i tied e empty is sound sems events channels =
    lists-dropped threads l new has_queue name i tied (λ list. ap (λ b. objects_in b list) is ∙ queue-dropped l.objects i list) by_name by_line (queue-sound l.objects new.objects tied.lists.sound sound (ap (λ b. b.sem) is) (ap (λ b. b.event) is) (ap (λ b. b.mailbox) is))
    (channels-keep l new sems events (ends-same l.channels new.channels channels))
  where
    by_name : (list : WaitList) → has_queue list ≡ true → number_of (objects_in l.objects list).objects name ≡ Some i
    by_name (WaitList.Channel ChannelKind.MsgQueue end) own = e
    by_name (WaitList.Channel ChannelKind.Mailbox end) own = absurd (false≢true own)
    by_name WaitList.Sem own = absurd (false≢true own)
    by_name WaitList.Event own = absurd (false≢true own)

    by_line : (list : WaitList) → has_queue list ≡ true → line (waits_in l list i) ≡ []
    by_line (WaitList.Channel ChannelKind.MsgQueue end) own = empty end
    by_line (WaitList.Channel ChannelKind.Mailbox end) own = absurd (false≢true own)
    by_line WaitList.Sem own = absurd (false≢true own)
    by_line WaitList.Event own = absurd (false≢true own)

-- whom a deletion wakes
pub woken-seen : (threads : List Thread) (l : Lists) (name : List ℕ) (i : ℕ) (woken : List ℕ) (queue : MsgQueue) → IsTied threads l → number_of l.objects.msgqueue.objects name ≡ Some i
    → woken ≡ line (waits_at l.channels ChannelKind.MsgQueue End.Receivers i) ++ line (waits_at l.channels ChannelKind.MsgQueue End.Senders i) → found_queue (plain_queues l) name ≡ Some queue
    → woken ≡ message_line threads queue End.Receivers ++ message_line threads queue End.Senders
woken-seen threads l name i woken queue tied e all is =
    all
    ∙ ap (λ ts. ts ++ line (waits_at l.channels ChannelKind.MsgQueue End.Senders i)) (seen-line threads l name i End.Receivers tied e)
    ∙ ap (λ ts. message_line threads (plain_queue l.channels (record { no = i; name = name })) End.Receivers ++ ts) (seen-line threads l name i End.Senders tied e)
    ∙ ap (λ (m : MsgQueue). message_line threads m End.Receivers ++ message_line threads m End.Senders) (same_Some _ queue (sym (queue-some l.channels l.objects.msgqueue.objects name i e) ∙ is))

-- what it leaves
pub removed-seen : (threads now : List Thread) (l left : Lists) (gone : AllObjects) (name : List ℕ) (i : ℕ) (woken : List ℕ) → IsSound l.objects.msgqueue → number_of l.objects.msgqueue.objects name ≡ Some i → now ≡ all_woken Code.Error threads woken → IsShownAs l left → gone ≡ removed_queue left.objects i
    → record (shown now gone left.sems.items left.events.items left.channels) { ready = woken } ≡ without_queue (tabled threads l) name woken
removed-seen threads now l left gone name i woken sound e rows same is =
    ap (λ b. record (shown now b left.sems.items left.events.items left.channels) { ready = woken }) (is ∙ ap (λ b. removed_queue b i) same.objects)
    ∙ (λ k. record (tabled threads l) {
      threads = rows k;
      ready = woken;
      sems = same.sems k;
      events = same.events k;
      queues = (found-removed (plain_queue left.channels) (λ (x : MsgQueue). x.name) l.objects.msgqueue name i sound e (λ o. refl) ∙ ap (filter (λ (x : MsgQueue). not (bytes_eq x.name name))) same.queues) k;
      mailboxes = same.mailboxes k;
    })
