-- What calls do to semaphores and event objects and those who wait for them.
use Rattle.std.specs.Prelude.{ℕ, true, ◌≡◌, ◌≢◌, ◌+◌, ◌<◌, not, List, [], ◌∷◌, ◌++◌, Option, Some, None, Result, Ok, Err, map, filter, length, is_some, bit_and, bit_or}
use Rattle.std.specs.Str.{bytes_eq}
use Rattle.rt_base.specs.declared.codes.Code.{Code}
use Rattle.rt_plain.specs.kernel.State.{Sem, EventObj, Mailbox, MsgQueue}
use Rattle.rt_plain.specs.kernel.Waiting.{first_waiter, waiters, takes_sem, receives_event, receives_mail, sends_mail, receives_message, sends_message}
use Rattle.rt_plain.specs.kernel.EventCalls.{flags_left, satisfied_waiters, wanting_threads}
use Rattle.object_box.specs.declared.fault.Make.{Make}
use Rattle.object_box.specs.declared.fault.Make.TheVariants.{Taken, ClassFull}
use Rattle.ipc_counts.specs.declared.sem.SemReleased.{SemReleased}
use Rattle.ipc_counts.specs.declared.sem.SemReleased.TheVariants.{Woke, Raised, Full}
use Rattle.ipc_queues.specs.declared.ends.End.{End}
use Rattle.kernel_tables.specs.Tabled.{all_given, all_woken, found_event, found_sem, put_event, put_sem, woken_row}
use Rattle.kernel_tables.specs.Threads.{with_row}
use Rattle.mutex_tables.specs.MutexTabled.{MutexTabled, plain_state}

-- the threads that wait for a semaphore
abbrev pub sem_waiters : MutexTabled → Sem → List ℕ
sem_waiters v sem = waiters (plain_state v) sem.order (takes_sem sem.name)

-- the threads that wait for an event object
abbrev pub event_waiters : MutexTabled → EventObj → List ℕ
event_waiters v event = waiters (plain_state v) event.order (receives_event event.name)

-- the threads that wait at an end of a mailbox
abbrev pub mail_waiters : MutexTabled → Mailbox → End → List ℕ
mail_waiters v mailbox End.Receivers = waiters (plain_state v) mailbox.order (receives_mail mailbox.name)
mail_waiters v mailbox End.Senders = waiters (plain_state v) mailbox.order (sends_mail mailbox.name)

-- the threads that wait at an end of a message queue
abbrev pub message_waiters : MutexTabled → MsgQueue → End → List ℕ
message_waiters v queue End.Receivers = waiters (plain_state v) queue.order (receives_message queue.name)
message_waiters v queue End.Senders = waiters (plain_state v) queue.order (sends_message queue.name)

-- a release of a semaphore that is there
abbrev pub ReleasesSem : MutexTabled → MutexTabled → Sem → SemReleased → Type 0
ReleasesSem old new sem (Woke t) = (first_waiter (plain_state old) sem.order (takes_sem sem.name) ≡ Some t) × ((t < length old.threads) × (new ≡ record old { threads = with_row old.threads t (woken_row Code.Ok); ready = old.ready ++ t ∷ [] }))
ReleasesSem old new sem Full = (first_waiter (plain_state old) sem.order (takes_sem sem.name) ≡ None) × ((sem.value ≡ 65535) × (new ≡ old))
ReleasesSem old new sem Raised = (first_waiter (plain_state old) sem.order (takes_sem sem.name) ≡ None) × ((sem.value ≢ 65535) × (new ≡ record old { sems = put_sem old.sems (record sem { value = sem.value + 1 }) }))

-- a release by name
abbrev pub Releases : MutexTabled → MutexTabled → List ℕ → Option SemReleased → Type 0
Releases old new name None = (found_sem old.sems name ≡ None) × (new ≡ old)
Releases old new name (Some answer) = (sem : Sem) × ((found_sem old.sems name ≡ Some sem) × ReleasesSem old new sem answer)

-- each answer of a creation, with its cause and what it leaves
abbrev pub CreatesSem : MutexTabled → MutexTabled → Sem → Result Unit Make → Type 0
CreatesSem old new sem (Ok done) = (found_sem old.sems sem.name ≡ None) × ((length old.sems < old.sem_limit) × (new ≡ record old { sems = sem ∷ old.sems }))
CreatesSem old new sem (Err (Taken number)) = (is_some (found_sem old.sems sem.name) ≡ true) × (new ≡ old)
CreatesSem old new sem (Err (ClassFull limit)) = (found_sem old.sems sem.name ≡ None) × ((length old.sems ≡ old.sem_limit) × (new ≡ old))

abbrev pub CreatesEvent : MutexTabled → MutexTabled → EventObj → Result Unit Make → Type 0
CreatesEvent old new event (Ok done) = (found_event old.events event.name ≡ None) × ((length old.events < old.event_limit) × (new ≡ record old { events = event ∷ old.events }))
CreatesEvent old new event (Err (Taken number)) = (is_some (found_event old.events event.name) ≡ true) × (new ≡ old)
CreatesEvent old new event (Err (ClassFull limit)) = (found_event old.events event.name ≡ None) × ((length old.events ≡ old.event_limit) × (new ≡ old))

-- what is left where a semaphore is deleted, whose waiters are these
abbrev pub without_sem : MutexTabled → List ℕ → List ℕ → MutexTabled
without_sem old name woken = record old { threads = all_woken Code.Error old.threads woken; ready = old.ready ++ woken; sems = filter (λ o. not (bytes_eq o.name name)) old.sems }

-- the same for an event object
abbrev pub without_event : MutexTabled → List ℕ → List ℕ → MutexTabled
without_event old name woken = record old { threads = all_woken Code.Error old.threads woken; ready = old.ready ++ woken; events = filter (λ o. not (bytes_eq o.name name)) old.events }

-- the same for a mailbox
abbrev pub without_mailbox : MutexTabled → List ℕ → List ℕ → MutexTabled
without_mailbox old name woken = record old { threads = all_woken Code.Error old.threads woken; ready = old.ready ++ woken; mailboxes = filter (λ o. not (bytes_eq o.name name)) old.mailboxes }

-- and for a message queue
abbrev pub without_queue : MutexTabled → List ℕ → List ℕ → MutexTabled
without_queue old name woken = record old { threads = all_woken Code.Error old.threads woken; ready = old.ready ++ woken; queues = filter (λ o. not (bytes_eq o.name name)) old.queues }

-- whom the flags of a mask wake, and what each gets
abbrev pub woken_on : MutexTabled → EventObj → ℕ → List (ℕ × ℕ)
woken_on v event mask = let flags = bit_or event.flags mask in map (λ w. (w.thread, bit_and flags w.want.mask)) (satisfied_waiters flags (wanting_threads (plain_state v) event))

-- what is left after a mask is sent to an event object
abbrev pub sent_to : MutexTabled → EventObj → ℕ → MutexTabled
sent_to old event mask = let flags = bit_or event.flags mask in record old { threads = all_given old.threads (woken_on old event mask); ready = old.ready ++ map (λ w. w.0) (woken_on old event mask); events = put_event old.events (record event { flags = flags_left flags (wanting_threads (plain_state old) event) }) }
