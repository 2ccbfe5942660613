-- What contracts see of the tables of threads and objects, and what is done with them.
use Rattle.std.specs.Prelude.{ℕ, Bool, true, false, ◌≡◌, ◌≢◌, ◌+◌, ◌-◌, ◌<◌, not, List, [], ◌∷◌, ◌++◌, Option, Some, None, Result, Ok, Err, map, filter, fold, drop, length, slice_get, is_some, bit_and, bit_or, nat_lt, if◌then◌else◌, ◌==◌}
use Rattle.std.specs.List.{find, filter_map, range_with_len}
use Rattle.std.specs.Str.{bytes_eq}
use Rattle.rt_base.specs.declared.codes.Code.{Code}
use Rattle.rt_base.specs.declared.codes.WaitOrder.{WaitOrder}
use Rattle.rt_plain.specs.declared.stmt.Call.{Call}
use Rattle.rt_plain.specs.kernel.State.{Thread, Stage, Active, Waiting, InCall, Sem, EventObj, Mailbox, MsgQueue, is_among}
use Rattle.rt_plain.specs.kernel.Waiting.{Waiter, number_in, threads_in_order, head_of, takes_sem, receives_event, sends_mail, receives_mail, sends_message, receives_message}
use Rattle.rt_plain.specs.kernel.EventCalls.{Want as PlainWant, Wanting, is_satisfied, flags_after, flags_left, satisfied_waiters, want_of}
use Rattle.rt_plain.specs.kernel.MailboxCalls.{has_mail_room}
use Rattle.rt_plain.specs.kernel.QueueCalls.{has_message_room, is_too_long}
use Rattle.ipc_queues.specs.declared.ends.End.{End}
use Rattle.ipc_queues.specs.declared.fault.PutFault.{PutFault}
use Rattle.object_box.specs.declared.fault.Make.{Make}
use Rattle.object_box.specs.declared.fault.Make.TheVariants.{Taken, ClassFull}
use Rattle.ipc_counts.specs.declared.sem.SemReleased.{SemReleased}
use Rattle.ipc_counts.specs.declared.sem.SemReleased.TheVariants.{Woke, Raised, Full}
use Rattle.kernel_tables.specs.Threads.{row_at, with_row}
use Rattle.kernel_tables.specs.WaitLists.{list_of}

-- the threads by number, those that are ready in order, and the objects of each class, newest first, of which there may be so many. Priorities lie below `levels`, and bindings below `cores`
pub record Tabled : Type 0 where
  pub threads : List Thread
  pub ready : List ℕ
  pub cores : ℕ
  pub levels : ℕ
  pub sems : List Sem
  pub events : List EventObj
  pub mailboxes : List Mailbox
  pub queues : List MsgQueue
  pub sem_limit : ℕ
  pub event_limit : ℕ
  pub mailbox_limit : ℕ
  pub queue_limit : ℕ

-- the semaphore of a name
abbrev pub found_sem : List Sem → List ℕ → Option Sem
found_sem sems name = find (λ o. bytes_eq o.name name) sems

-- the event object of a name
abbrev pub found_event : List EventObj → List ℕ → Option EventObj
found_event events name = find (λ o. bytes_eq o.name name) events

-- the mailbox of a name
abbrev pub found_mailbox : List Mailbox → List ℕ → Option Mailbox
found_mailbox mailboxes name = find (λ o. bytes_eq o.name name) mailboxes

-- the message queue of a name
abbrev pub found_queue : List MsgQueue → List ℕ → Option MsgQueue
found_queue queues name = find (λ o. bytes_eq o.name name) queues

-- with another row for the semaphore of its name
abbrev pub put_sem : List Sem → Sem → List Sem
put_sem sems sem = map (λ o. if bytes_eq o.name sem.name then sem else o) sems

-- with another row for the event object of its name
abbrev pub put_event : List EventObj → EventObj → List EventObj
put_event events event = map (λ o. if bytes_eq o.name event.name then event else o) events

-- with another row for the mailbox of its name
abbrev pub put_mailbox : List Mailbox → Mailbox → List Mailbox
put_mailbox mailboxes mailbox = map (λ o. if bytes_eq o.name mailbox.name then mailbox else o) mailboxes

-- with another row for the message queue of its name
abbrev pub put_queue : List MsgQueue → MsgQueue → List MsgQueue
put_queue queues queue = map (λ o. if bytes_eq o.name queue.name then queue else o) queues

-- whether a thread at this stage waits for no object
abbrev pub is_unlisted : Stage → Bool
is_unlisted (Waiting (InCall call) number) = not (is_some (list_of call))
is_unlisted _ = true

-- whether the object that a call waits for is there
abbrev pub knows : Tabled → Call → Bool
knows k (Call.SemTake name timeout) = is_some (found_sem k.sems name)
knows k (Call.EventRecv name mask all clear timeout) = is_some (found_event k.events name)
knows k (Call.MbSend name word timeout) = is_some (found_mailbox k.mailboxes name)
knows k (Call.MbRecv name timeout) = is_some (found_mailbox k.mailboxes name)
knows k (Call.MqSend name timeout message) = is_some (found_queue k.queues name)
knows k (Call.MqRecv name timeout) = is_some (found_queue k.queues name)
knows k _ = true

-- the waiter that a thread is, by its base priority, where it has an arrival number
abbrev pub waiter_with : ℕ → ℕ → Option ℕ → Option Waiter
waiter_with t prio None = None
waiter_with t prio (Some number) = Some (record { thread = t; prio = prio; number = number })

abbrev pub base_waiter : List Thread → (Call → Bool) → ℕ → Option Waiter
base_waiter threads in_list t = waiter_with t (row_at threads t).base (number_in in_list (row_at threads t).stage)

-- the threads that wait in a list, in its order
abbrev pub line_of : List Thread → WaitOrder → (Call → Bool) → List ℕ
line_of threads order in_list = threads_in_order order (filter_map (base_waiter threads in_list) (range_with_len 0 (length threads)))

-- the threads that wait for a semaphore
abbrev pub sem_line : List Thread → Sem → List ℕ
sem_line threads sem = line_of threads sem.order (takes_sem sem.name)

-- the threads that wait for an event object
abbrev pub event_line : List Thread → EventObj → List ℕ
event_line threads event = line_of threads event.order (receives_event event.name)

-- the threads that wait at an end of a mailbox
abbrev pub mail_line : List Thread → Mailbox → End → List ℕ
mail_line threads mailbox End.Receivers = line_of threads mailbox.order (receives_mail mailbox.name)
mail_line threads mailbox End.Senders = line_of threads mailbox.order (sends_mail mailbox.name)

-- the threads that wait at an end of a message queue
abbrev pub message_line : List Thread → MsgQueue → End → List ℕ
message_line threads queue End.Receivers = line_of threads queue.order (receives_message queue.name)
message_line threads queue End.Senders = line_of threads queue.order (sends_message queue.name)

-- a woken thread with a code
abbrev pub woken_row : Code → Thread → Thread
woken_row code row = record row { code = code; stage = Active }

-- a woken thread with the flags that it got
abbrev pub given_row : ℕ → Thread → Thread
given_row value row = record row { value = value; code = Code.Ok; stage = Active }

-- threads that wake with a code, one after the other
abbrev pub all_woken : Code → List Thread → List ℕ → List Thread
all_woken code threads ts = fold (λ rows t. with_row rows t (woken_row code)) threads ts

-- threads that wake with flags, one after the other
abbrev pub all_given : List Thread → List (ℕ × ℕ) → List Thread
all_given threads ws = fold (λ rows w. with_row rows w.0 (given_row w.1)) threads ws

-- the semaphores after a take
abbrev pub sems_taken : List Sem → Option Sem → List Sem
sems_taken sems None = sems
sems_taken sems (Some sem) = if nat_lt 0 sem.value then put_sem sems (record sem { value = sem.value - 1 }) else sems

-- a release of a semaphore that is there
abbrev pub ReleasesSem : Tabled → Tabled → Sem → SemReleased → Type 0
ReleasesSem old new sem (Woke t) = (head_of (sem_line old.threads sem) ≡ Some t) × ((t < length old.threads) × (new ≡ record old { threads = with_row old.threads t (woken_row Code.Ok); ready = old.ready ++ t ∷ [] }))
ReleasesSem old new sem Full = (head_of (sem_line old.threads sem) ≡ None) × ((sem.value ≡ 65535) × (new ≡ old))
ReleasesSem old new sem Raised = (head_of (sem_line old.threads sem) ≡ None) × ((sem.value ≢ 65535) × (new ≡ record old { sems = put_sem old.sems (record sem { value = sem.value + 1 }) }))

-- a release by name
abbrev pub Releases : Tabled → Tabled → List ℕ → Option SemReleased → Type 0
Releases old new name None = (found_sem old.sems name ≡ None) × (new ≡ old)
Releases old new name (Some answer) = (sem : Sem) × ((found_sem old.sems name ≡ Some sem) × ReleasesSem old new sem answer)

-- each answer of a creation, with its cause and what it leaves
abbrev pub CreatesSem : Tabled → Tabled → Sem → Result Unit Make → Type 0
CreatesSem old new sem (Ok done) = (found_sem old.sems sem.name ≡ None) × ((length old.sems < old.sem_limit) × (new ≡ record old { sems = sem ∷ old.sems }))
CreatesSem old new sem (Err (Taken number)) = (is_some (found_sem old.sems sem.name) ≡ true) × (new ≡ old)
CreatesSem old new sem (Err (ClassFull limit)) = (found_sem old.sems sem.name ≡ None) × ((length old.sems ≡ old.sem_limit) × (new ≡ old))

abbrev pub CreatesEvent : Tabled → Tabled → EventObj → Result Unit Make → Type 0
CreatesEvent old new event (Ok done) = (found_event old.events event.name ≡ None) × ((length old.events < old.event_limit) × (new ≡ record old { events = event ∷ old.events }))
CreatesEvent old new event (Err (Taken number)) = (is_some (found_event old.events event.name) ≡ true) × (new ≡ old)
CreatesEvent old new event (Err (ClassFull limit)) = (found_event old.events event.name ≡ None) × ((length old.events ≡ old.event_limit) × (new ≡ old))

-- what is left where a semaphore is deleted, whose waiters are these
abbrev pub without_sem : Tabled → List ℕ → List ℕ → Tabled
without_sem old name woken = record old { threads = all_woken Code.Error old.threads woken; ready = old.ready ++ woken; sems = filter (λ o. not (bytes_eq o.name name)) old.sems }

-- the same for an event object
abbrev pub without_event : Tabled → List ℕ → List ℕ → Tabled
without_event old name woken = record old { threads = all_woken Code.Error old.threads woken; ready = old.ready ++ woken; events = filter (λ o. not (bytes_eq o.name name)) old.events }

-- the flags that a receiver gets at once
abbrev pub flags_got : PlainWant → EventObj → Option ℕ
flags_got want event = if is_satisfied event.flags want then Some (bit_and event.flags want.mask) else None

-- the event objects after it got them
abbrev pub events_received : List EventObj → PlainWant → Option EventObj → List EventObj
events_received events want None = events
events_received events want (Some event) = if is_satisfied event.flags want then put_event events (record event { flags = flags_after event.flags want }) else events

-- the waiters of an event object in its order, with what they want
abbrev pub wanting_on : List Thread → EventObj → List Wanting
wanting_on threads event = map (λ t. record { thread = t; want = want_of (row_at threads t).stage }) (event_line threads event)

-- whom the flags of a mask wake, and what each gets
abbrev pub woken_on : List Thread → EventObj → ℕ → List (ℕ × ℕ)
woken_on threads event mask = let flags = bit_or event.flags mask in map (λ w. (w.thread, bit_and flags w.want.mask)) (satisfied_waiters flags (wanting_on threads event))

-- what is left after a mask is sent to an event object
abbrev pub sent_to : Tabled → EventObj → ℕ → Tabled
sent_to old event mask = let flags = bit_or event.flags mask in record old { threads = all_given old.threads (woken_on old.threads event mask); ready = old.ready ++ map (λ w. w.0) (woken_on old.threads event mask); events = put_event old.events (record event { flags = flags_left flags (wanting_on old.threads event) }) }

-- the ready threads after a thread got another base priority: where it is new, a ready thread goes to the end
abbrev pub moved_last : List ℕ → ℕ → List ℕ
moved_last ready t = if is_among ready t then filter (λ u. not (u == t)) ready ++ t ∷ [] else ready

abbrev pub rebased : Tabled → ℕ → ℕ → List ℕ
rebased old t base = if (row_at old.threads t).base == base then old.ready else moved_last old.ready t

-- the mailboxes after a word was put into one with room
abbrev pub mails_put : List Mailbox → (List ℕ → List ℕ) → Option Mailbox → List Mailbox
mails_put mailboxes put None = mailboxes
mails_put mailboxes put (Some mailbox) = if has_mail_room mailbox then put_mailbox mailboxes (record mailbox { words = put mailbox.words }) else mailboxes

-- after the front word of one was taken
abbrev pub mails_taken : List Mailbox → Option Mailbox → List Mailbox
mails_taken mailboxes None = mailboxes
mails_taken mailboxes (Some mailbox) = if is_some (slice_get mailbox.words 0) then put_mailbox mailboxes (record mailbox { words = drop 1 mailbox.words }) else mailboxes

-- what a message queue answers to a message
abbrev pub message_answer : List ℕ → MsgQueue → Result Unit PutFault
message_answer message queue =
    if is_too_long queue message then Err (PutFault.TooLong (length message) queue.max)
    else if has_message_room queue then Ok tt
    else Err PutFault.Full

-- whether it takes it
abbrev pub takes_message : List ℕ → MsgQueue → Bool
takes_message message queue = if is_too_long queue message then false else has_message_room queue

-- the message queues after a message was put into one that takes it
abbrev pub messages_put : List MsgQueue → List ℕ → (List (List ℕ) → List (List ℕ)) → Option MsgQueue → List MsgQueue
messages_put queues message put None = queues
messages_put queues message put (Some queue) = if takes_message message queue then put_queue queues (record queue { messages = put queue.messages }) else queues

-- after the front message of one was taken
abbrev pub messages_taken : List MsgQueue → Option MsgQueue → List MsgQueue
messages_taken queues None = queues
messages_taken queues (Some queue) = if is_some (slice_get queue.messages 0) then put_queue queues (record queue { messages = drop 1 queue.messages }) else queues

-- creations
abbrev pub CreatesMailbox : Tabled → Tabled → Mailbox → Result Unit Make → Type 0
CreatesMailbox old new mailbox (Ok done) = (found_mailbox old.mailboxes mailbox.name ≡ None) × ((length old.mailboxes < old.mailbox_limit) × (new ≡ record old { mailboxes = mailbox ∷ old.mailboxes }))
CreatesMailbox old new mailbox (Err (Taken number)) = (is_some (found_mailbox old.mailboxes mailbox.name) ≡ true) × (new ≡ old)
CreatesMailbox old new mailbox (Err (ClassFull limit)) = (found_mailbox old.mailboxes mailbox.name ≡ None) × ((length old.mailboxes ≡ old.mailbox_limit) × (new ≡ old))

abbrev pub CreatesQueue : Tabled → Tabled → MsgQueue → Result Unit Make → Type 0
CreatesQueue old new queue (Ok done) = (found_queue old.queues queue.name ≡ None) × ((length old.queues < old.queue_limit) × (new ≡ record old { queues = queue ∷ old.queues }))
CreatesQueue old new queue (Err (Taken number)) = (is_some (found_queue old.queues queue.name) ≡ true) × (new ≡ old)
CreatesQueue old new queue (Err (ClassFull limit)) = (found_queue old.queues queue.name ≡ None) × ((length old.queues ≡ old.queue_limit) × (new ≡ old))

-- deletions
abbrev pub without_mailbox : Tabled → List ℕ → List ℕ → Tabled
without_mailbox old name woken = record old { threads = all_woken Code.Error old.threads woken; ready = old.ready ++ woken; mailboxes = filter (λ o. not (bytes_eq o.name name)) old.mailboxes }

abbrev pub without_queue : Tabled → List ℕ → List ℕ → Tabled
without_queue old name woken = record old { threads = all_woken Code.Error old.threads woken; ready = old.ready ++ woken; queues = filter (λ o. not (bytes_eq o.name name)) old.queues }
