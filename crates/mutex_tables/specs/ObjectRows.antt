-- What the tables of the objects show.
use Rattle.std.specs.Prelude.{length}
use Rattle.rt_plain.specs.declared.row.Row.{Row}
use Rattle.rt_plain.specs.kernel.State.{EventObj, Mailbox, MsgQueue, Sem}
use Rattle.ipc_queues.specs.declared.ends.End.{End}
use Rattle.mutex_tables.specs.MutexTabled.{MutexTabled}
use Rattle.mutex_tables.specs.Woken.{event_waiters, mail_waiters, message_waiters, sem_waiters}

-- the row of a semaphore
abbrev pub sem_shown : MutexTabled → Sem → Row
sem_shown v sem = Row.Sem sem.name sem.value (length (sem_waiters v sem))

-- the row of an event object
abbrev pub event_shown : MutexTabled → EventObj → Row
event_shown v event = Row.Event event.name event.flags (length (event_waiters v event))

-- the row of a mailbox
abbrev pub mailbox_shown : MutexTabled → Mailbox → Row
mailbox_shown v mailbox = Row.Mailbox mailbox.name (length mailbox.words) mailbox.size (length (mail_waiters v mailbox End.Receivers)) (length (mail_waiters v mailbox End.Senders))

-- the row of a message queue
abbrev pub queue_shown : MutexTabled → MsgQueue → Row
queue_shown v queue = Row.MsgQueue queue.name (length queue.messages) queue.size queue.max (length (message_waiters v queue End.Receivers)) (length (message_waiters v queue End.Senders))
