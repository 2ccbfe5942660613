-- The objects of the classes that threads wait for, with who waits.
use Rattle.std.specs.Prelude.{ℕ, ◌≡◌, ◌<◌, Bool, true, false, List, [], length, Option, Some, None, IfSome, IsTrue, map, slice_get, slice_set, slice_index_or, if◌then◌else◌}
use Rattle.rt_base.specs.declared.codes.WaitOrder.{WaitOrder}
use Rattle.rt_plain.specs.declared.stmt.Call.{Call}
use Rattle.rt_plain.specs.kernel.State.{Thread, Sem, EventObj, Mailbox, MsgQueue}
use Rattle.rt_plain.specs.kernel.Waiting.{number_in}
use Rattle.susp_list.specs.Rows.{Waits, holds, with_prio}
use Rattle.susp_list.specs.declared.row.Row.{Row as WaitRow}
use Rattle.object_box.specs.declared.object.Object.{Object}
use Rattle.ipc_counts.specs.Counted.{Counted}
use Rattle.ipc_counts.specs.Flags.{Flagged}
use Rattle.ipc_counts.specs.Released.{without}
use Rattle.ipc_counts.specs.declared.want.Want.{Want}
use Rattle.ipc_queues.specs.Channels.{PlainChannels, mail_at, messages_at, slots_of, waits_at, changed_at}
use Rattle.kernel_tables.specs.declared.lists.Lists.{Lists}
use Rattle.kernel_tables.specs.declared.wait_list.WaitList.{WaitList}
use Rattle.kernel_tables.specs.WaitLists.{is_at}

-- what stands where there is no wait list
abbrev pub no_waits : Waits
no_waits = record { order = WaitOrder.Fifo; rows = [] }

-- the semaphore of a number
abbrev pub sem_at : List Counted → ℕ → Counted
sem_at sems i = slice_index_or sems i (record { value = 0; waiters = no_waits })

-- the event object of a number
abbrev pub event_at : List Flagged → ℕ → Flagged
event_at events i = slice_index_or events i (record { flags = 0; waiters = no_waits; wants = [] })

-- an object of the class with its number, seen by its name
abbrev pub plain_sem : List Counted → Object → Sem
plain_sem sems o = record { name = o.name; value = (sem_at sems o.no).value; order = (sem_at sems o.no).waiters.order }

abbrev pub plain_event : List Flagged → Object → EventObj
plain_event events o = record { name = o.name; flags = (event_at events o.no).flags; order = (event_at events o.no).waiters.order }

abbrev pub plain_mailbox : PlainChannels → Object → Mailbox
plain_mailbox c o = record { name = o.name; size = (mail_at c.mails o.no).mailbox.size; order = (mail_at c.mails o.no).ends.order; words = (mail_at c.mails o.no).mailbox.words }

abbrev pub plain_queue : PlainChannels → Object → MsgQueue
plain_queue c o = record { name = o.name; max = (messages_at c.messages o.no).queue.max; size = (messages_at c.messages o.no).queue.size; order = (messages_at c.messages o.no).ends.order; messages = (messages_at c.messages o.no).queue.messages }

-- all of a class, newest first
abbrev pub plain_sems : Lists → List Sem
plain_sems l = map (plain_sem l.sems.items) l.objects.sem.objects

abbrev pub plain_events : Lists → List EventObj
plain_events l = map (plain_event l.events.items) l.objects.event.objects

abbrev pub plain_mailboxes : Lists → List Mailbox
plain_mailboxes l = map (plain_mailbox l.channels) l.objects.mailbox.objects

abbrev pub plain_queues : Lists → List MsgQueue
plain_queues l = map (plain_queue l.channels) l.objects.msgqueue.objects

-- the row of a thread in a wait list, by its base priority and the arrival number, if it waits there
abbrev pub row_with : ℕ → Option ℕ → Option WaitRow
row_with prio None = None
row_with prio (Some number) = Some (record { prio = prio; at = number })

abbrev pub wait_row : (Call → Bool) → Thread → Option WaitRow
wait_row in_list thread = row_with thread.base (number_in in_list thread.stage)

-- the flags that a call wants
abbrev pub want_in : Call → Want
want_in (Call.EventRecv name mask all clear timeout) = record { mask = mask; all = all; clear = clear }
want_in _ = record { mask = 0; all = true; clear = false }

-- the wait list of an object by its number
abbrev pub waits_in : Lists → WaitList → ℕ → Waits
waits_in l WaitList.Sem i = (sem_at l.sems.items i).waiters
waits_in l WaitList.Event i = (event_at l.events.items i).waiters
waits_in l (WaitList.Channel kind end) i = waits_at l.channels kind end i

-- how many objects there may be that have the list
abbrev pub slots_in : Lists → WaitList → ℕ
slots_in l WaitList.Sem = length l.sems.items
slots_in l WaitList.Event = length l.events.items
slots_in l (WaitList.Channel kind end) = slots_of l.channels kind

-- what the threads that wait for an event object want
abbrev pub wants_in : Lists → ℕ → List Want
wants_in l i = (event_at l.events.items i).wants

-- a change of the waiters of one object, if there is one
abbrev pub waits_with : Option (WaitList × ℕ) → (Waits → Waits) → (WaitList → ℕ → Waits) → WaitList → ℕ → Waits
waits_with at change waits list i = if is_at list i at then change (waits list i) else waits list i

abbrev pub sems_with : List Counted → Option (WaitList × ℕ) → (Waits → Waits) → List Counted
sems_with sems (Some (WaitList.Sem, i)) change = slice_set sems i (record (sem_at sems i) { waiters = change (sem_at sems i).waiters })
sems_with sems _ change = sems

abbrev pub events_with : List Flagged → Option (WaitList × ℕ) → (Waits → Waits) → List Flagged
events_with events (Some (WaitList.Event, i)) change = slice_set events i (record (event_at events i) { waiters = change (event_at events i).waiters })
events_with events _ change = events

abbrev pub channels_with : PlainChannels → Option (WaitList × ℕ) → (Waits → Waits) → PlainChannels
channels_with c (Some (WaitList.Channel kind end, i)) change = changed_at c kind end i change
channels_with c _ change = c

-- without a thread
abbrev pub left : ℕ → Waits → Waits
left t w = without w t

-- without the first one, where there is one
abbrev pub taken : Option ℕ → Waits → Waits
taken None w = w
taken (Some t) w = without w t

-- with a thread more
abbrev pub joined : ℕ → WaitRow → Waits → Waits
joined t row w = record w { rows = slice_set w.rows t (Some row) }

-- with another priority of a thread
abbrev pub moved : ℕ → ℕ → Waits → Waits
moved t prio w = record w { rows = slice_set w.rows t (with_prio (slice_get w.rows t) prio) }

-- with a thread more, and what it wants
abbrev pub events_joined : List Flagged → Option (WaitList × ℕ) → ℕ → WaitRow → Want → List Flagged
events_joined events (Some (WaitList.Event, i)) t row want = slice_set events i (record (event_at events i) { waiters = joined t row (event_at events i).waiters; wants = slice_set (event_at events i).wants t want })
events_joined events _ t row want = events

-- the lists after such a change
pub record IsRelisted (old new : Lists) (at : Option (WaitList × ℕ)) (change : Waits → Waits) : Type 0 where
  pub objects : new.objects ≡ old.objects
  pub sems : new.sems.items ≡ sems_with old.sems.items at change
  pub events : new.events.items ≡ events_with old.events.items at change
  pub channels : new.channels ≡ channels_with old.channels at change

-- the number of an event object in whose list this is
abbrev pub event_in : Option (WaitList × ℕ) → Option ℕ
event_in (Some (WaitList.Event, i)) = Some i
event_in _ = None

-- the lists after a thread went into one of them
pub record IsJoined (old new : Lists) (at : Option (WaitList × ℕ)) (t : ℕ) (row : WaitRow) (want : Want) : Type 0 where
  pub objects : new.objects ≡ old.objects
  pub sems : new.sems.items ≡ sems_with old.sems.items at (joined t row)
  pub events : new.events.items ≡ events_joined old.events.items at t row want
  pub channels : new.channels ≡ channels_with old.channels at (joined t row)
  pub wanted : IfSome (event_in at) (λ i. slice_get (event_at new.events.items i).wants t ≡ Some want)

-- the objects show the same
pub record IsShownAs (old new : Lists) : Type 0 where
  pub objects : new.objects ≡ old.objects
  pub sems : map (plain_sem new.sems.items) old.objects.sem.objects ≡ plain_sems old
  pub events : map (plain_event new.events.items) old.objects.event.objects ≡ plain_events old
  pub mailboxes : map (plain_mailbox new.channels) old.objects.mailbox.objects ≡ plain_mailboxes old
  pub queues : map (plain_queue new.channels) old.objects.msgqueue.objects ≡ plain_queues old

-- the list in which a thread stands, if there is one, holds it
abbrev pub Holds : Lists → Option (WaitList × ℕ) → ℕ → Type 0
Holds l at t = IfSome at (λ p. (p.1 < slots_in l p.0) × IsTrue (holds (waits_in l p.0 p.1) t))

-- the list of a call, if it has one, has room for a thread, which it doesn't hold
abbrev pub MayJoin : Lists → Option (WaitList × ℕ) → ℕ → Type 0
MayJoin l at t = IfSome at (λ p. (p.1 < slots_in l p.0) × ((t < length (waits_in l p.0 p.1).rows) × (holds (waits_in l p.0 p.1) t ≡ false)))
