-- What the tables of the objects show.
use Rattle.std.specs.Prelude.{List, length}
use Rattle.rt_plain.specs.declared.row.Row.{Row}
use Rattle.rt_plain.specs.kernel.State.{Thread, Sem, EventObj, Mailbox, MsgQueue}
use Rattle.ipc_queues.specs.declared.ends.End.{End}
use Rattle.kernel_tables.specs.Tabled.{sem_line, event_line, mail_line, message_line}

-- the row of a semaphore
abbrev pub sem_shown : List Thread → Sem → Row
sem_shown threads sem = Row.Sem sem.name sem.value (length (sem_line threads sem))

-- the row of an event object
abbrev pub event_shown : List Thread → EventObj → Row
event_shown threads event = Row.Event event.name event.flags (length (event_line threads event))

-- the row of a mailbox
abbrev pub mailbox_shown : List Thread → Mailbox → Row
mailbox_shown threads mailbox = Row.Mailbox mailbox.name (length mailbox.words) mailbox.size (length (mail_line threads mailbox End.Receivers)) (length (mail_line threads mailbox End.Senders))

-- the row of a message queue
abbrev pub queue_shown : List Thread → MsgQueue → Row
queue_shown threads queue = Row.MsgQueue queue.name (length queue.messages) queue.size queue.max (length (message_line threads queue End.Receivers)) (length (message_line threads queue End.Senders))
