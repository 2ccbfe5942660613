-- The rows of the shell's tables: what a view of the state shows of each class, newest first.
use Rattle.std.specs.Prelude.{ℕ, Bool, not, List, Option, Some, None, map, filter, reverse, length, if◌then◌else◌}
use Rattle.std.specs.Option.{option_map}
use Rattle.rt_base.specs.declared.codes.Class.{Class}
use Rattle.rt_plain.specs.declared.row.Row.{Row}
use Rattle.rt_plain.specs.declared.row.ThreadState.{ThreadState}
use Rattle.rt_base.specs.declared.codes.WaitOrder.{WaitOrder}
use Rattle.rt_plain.specs.PlainBoard.{PlainBoard}
use Rattle.rt_plain.specs.kernel.Shown.{shown}
use Rattle.rt_plain.specs.kernel.TimerKinds.{is_periodic, is_soft}
use Rattle.rt_plain.specs.kernel.State.{State, Stage, Initial, Active, Sem, EventObj, Mutex, Holding, Mailbox, MsgQueue, Timer, Device, OfTimer, thread_at, thread_numbers, is_closed, is_running}
use Rattle.rt_plain.specs.kernel.Priority.{cur, holding_of}
use Rattle.rt_plain.specs.kernel.Waiting.{waiters, takes_sem, receives_event, takes_mutex, sends_mail, receives_mail, sends_message, receives_message}
use Rattle.rt_plain.specs.kernel.Effects.{name_of, due_of}

-- what a thread at this stage does, as the table says it
abbrev pub state_at : Bool → Stage → ThreadState
state_at running Initial = ThreadState.Initial
state_at running Active = if running then ThreadState.Running else ThreadState.Ready
state_at running _ = ThreadState.Suspended

-- the row of a thread
abbrev pub thread_row : State → ℕ → Row
thread_row s t = let row = thread_at s t in Row.Thread row.name (cur s t) row.base (state_at (is_running s t) row.stage) row.core row.left row.code

-- the rows of all threads that aren't closed
abbrev pub thread_rows : State → List Row
thread_rows s = map (thread_row s) (reverse (filter (λ t. not (is_closed (thread_at s t).stage)) (thread_numbers s)))

-- the row of a semaphore
abbrev pub sem_row : State → Sem → Row
sem_row s o = Row.Sem o.name o.value (length (waiters s o.order (takes_sem o.name)))

-- the row of an event object
abbrev pub event_row : State → EventObj → Row
event_row s o = Row.Event o.name o.flags (length (waiters s o.order (receives_event o.name)))

-- how often a mutex was taken, 0 where nobody owns it
abbrev pub hold_of : Option Holding → ℕ
hold_of None = 0
hold_of (Some h) = h.hold

-- the row of a mutex
abbrev pub mutex_row : State → Mutex → Row
mutex_row s o = Row.Mutex o.name (option_map (λ h. name_of s h.owner) (holding_of s o.name)) (hold_of (holding_of s o.name)) o.ceiling (length (waiters s WaitOrder.Prio (takes_mutex o.name)))

-- the row of a mailbox
abbrev pub mailbox_row : State → Mailbox → Row
mailbox_row s o = Row.Mailbox o.name (length o.words) o.size (length (waiters s o.order (receives_mail o.name))) (length (waiters s o.order (sends_mail o.name)))

-- the row of a message queue
abbrev pub queue_row : State → MsgQueue → Row
queue_row s o = Row.MsgQueue o.name (length o.messages) o.size o.max (length (waiters s o.order (receives_message o.name))) (length (waiters s o.order (sends_message o.name)))

-- the row of a timer
abbrev pub timer_row : PlainBoard → State → Timer → Row
timer_row b s o = Row.Timer o.name (is_periodic o.kind) (is_soft o.kind) o.time (option_map (shown b) (due_of s (OfTimer o.name)))

-- the row of a device
abbrev pub device_row : Device → Row
device_row o = Row.Device o.name o.console o.opened (length o.rx) (length o.tx)

-- the rows of a class
abbrev pub rows : PlainBoard → State → Class → List Row
rows b s Class.Thread = thread_rows s
rows b s Class.Sem = map (sem_row s) s.sems
rows b s Class.Event = map (event_row s) s.events
rows b s Class.Mutex = map (mutex_row s) s.mutexes
rows b s Class.Mailbox = map (mailbox_row s) s.mailboxes
rows b s Class.MsgQueue = map (queue_row s) s.queues
rows b s Class.Timer = map (timer_row b s) s.timers
rows b s Class.Device = map device_row s.devices
