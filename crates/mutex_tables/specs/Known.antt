-- The objects that calls wait for.
use Rattle.std.specs.Prelude.{Bool, true, is_some}
use Rattle.rt_plain.specs.declared.stmt.Call.{Call}
use Rattle.kernel_tables.specs.Tabled.{found_sem, found_event, found_mailbox, found_queue}
use Rattle.mutex_tables.specs.MutexTabled.{MutexTabled}

-- whether the object that a call waits for is there, where that isn't a mutex
abbrev pub knows : MutexTabled → Call → Bool
knows v (Call.SemTake name timeout) = is_some (found_sem v.sems name)
knows v (Call.EventRecv name mask all clear timeout) = is_some (found_event v.events name)
knows v (Call.MbSend name word timeout) = is_some (found_mailbox v.mailboxes name)
knows v (Call.MbRecv name timeout) = is_some (found_mailbox v.mailboxes name)
knows v (Call.MqSend name timeout message) = is_some (found_queue v.queues name)
knows v (Call.MqRecv name timeout) = is_some (found_queue v.queues name)
knows v _ = true
