-- The deletion of objects.
use Rattle.std.specs.Prelude.{ℕ, not, List, ◌++◌, filter}
use Rattle.std.specs.Str.{bytes_eq}
use Rattle.rt_base.specs.declared.codes.Code.{Code}
use Rattle.rt_base.specs.declared.codes.Class.{Class}
use Rattle.rt_base.specs.declared.codes.WaitOrder.{WaitOrder}
use Rattle.rt_plain.specs.kernel.State.{State}
use Rattle.rt_plain.specs.kernel.Waiting.{waiters, takes_sem, receives_event, takes_mutex, sends_mail, receives_mail, sends_message, receives_message}
use Rattle.rt_plain.specs.kernel.Owners.{without_owner}
use Rattle.rt_plain.specs.kernel.Effects.{each_effect, wake_effect}
use Rattle.rt_plain.specs.kernel.SemCalls.{find_sem}
use Rattle.rt_plain.specs.kernel.EventCalls.{find_event}
use Rattle.rt_plain.specs.kernel.MutexCalls.{find_mutex}
use Rattle.rt_plain.specs.kernel.MailboxCalls.{find_mailbox}
use Rattle.rt_plain.specs.kernel.QueueCalls.{find_queue}
use Rattle.rt_plain.specs.kernel.Outcome.{Outcome, refusal, success, found_outcome}

-- the object is gone, and those who waited for it wake with an error, in the order before
abbrev pub deletion_outcome : State → List ℕ → Outcome
deletion_outcome s waited = success (each_effect (wake_effect Code.Error) waited s)

-- a semaphore is gone
abbrev pub sem_deletion : List ℕ → State → Outcome
sem_deletion name s = found_outcome (find_sem s name) (refusal s Code.Inval) (λ sem. deletion_outcome (record s { sems = filter (λ o. not (bytes_eq o.name name)) s.sems }) (waiters s sem.order (takes_sem name)))

-- an event object is gone
abbrev pub event_deletion : List ℕ → State → Outcome
event_deletion name s = found_outcome (find_event s name) (refusal s Code.Inval) (λ event. deletion_outcome (record s { events = filter (λ o. not (bytes_eq o.name name)) s.events }) (waiters s event.order (receives_event name)))

-- a mutex is gone, and nobody owns it
abbrev pub mutex_deletion : List ℕ → State → Outcome
mutex_deletion name s =
    found_outcome (find_mutex s name) (refusal s Code.Inval) (λ mutex.
    let free = without_owner s name in
    deletion_outcome (record free { mutexes = filter (λ o. not (bytes_eq o.name name)) free.mutexes }) (waiters s WaitOrder.Prio (takes_mutex name)))

-- a mailbox is gone; its receivers wake before its senders
abbrev pub mailbox_deletion : List ℕ → State → Outcome
mailbox_deletion name s = found_outcome (find_mailbox s name) (refusal s Code.Inval) (λ mailbox. deletion_outcome (record s { mailboxes = filter (λ o. not (bytes_eq o.name name)) s.mailboxes }) (waiters s mailbox.order (receives_mail name) ++ waiters s mailbox.order (sends_mail name)))

-- a queue is gone; its receivers wake before its senders
abbrev pub queue_deletion : List ℕ → State → Outcome
queue_deletion name s = found_outcome (find_queue s name) (refusal s Code.Inval) (λ queue. deletion_outcome (record s { queues = filter (λ o. not (bytes_eq o.name name)) s.queues }) (waiters s queue.order (receives_message name) ++ waiters s queue.order (sends_message name)))

-- delete: of the five classes that allow it
abbrev pub delete : Class → List ℕ → State → Outcome
delete Class.Sem name s = sem_deletion name s
delete Class.Event name s = event_deletion name s
delete Class.Mutex name s = mutex_deletion name s
delete Class.Mailbox name s = mailbox_deletion name s
delete Class.MsgQueue name s = queue_deletion name s
delete _ name s = refusal s Code.Inval
