-- The families of classes whose rows are written alike.
use Rattle.std.specs.Prelude.{Bool, true, false}
use Rattle.rt_plain.specs.declared.row.Row.{Row}

abbrev pub is_thread : Row → Bool
is_thread (Row.Thread name cur base state core left code) = true
is_thread _ = false

-- semaphores, events and mutexes: threads wait for them in one list
abbrev pub is_sync : Row → Bool
is_sync (Row.Sem name value waiters) = true
is_sync (Row.Event name flags waiters) = true
is_sync (Row.Mutex name owner hold ceiling waiters) = true
is_sync _ = false

-- mailboxes and message queues: receivers and senders wait for them
abbrev pub is_queue : Row → Bool
is_queue (Row.Mailbox name used size receivers senders) = true
is_queue (Row.MsgQueue name used size max receivers senders) = true
is_queue _ = false

-- timers and devices: nobody waits for them
abbrev pub is_driven : Row → Bool
is_driven (Row.Timer name periodic soft time due) = true
is_driven (Row.Device name console opened rx tx) = true
is_driven _ = false
