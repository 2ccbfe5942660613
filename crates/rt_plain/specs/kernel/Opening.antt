-- The state in which a board opens.
use Rattle.std.specs.Prelude.{ℕ, Bool, true, false, not, List, [], ◌∷◌, ◌++◌, Option, Some, None, map, filter, reverse, fold, replicate, codes, if◌then◌else◌}
use Rattle.rt_base.specs.declared.codes.Code.{Code}
use Rattle.rt_base.specs.declared.codes.RunMode.{RunMode}
use Rattle.rt_plain.specs.declared.board.SemDef.{SemDef}
use Rattle.rt_plain.specs.declared.board.EventDef.{EventDef}
use Rattle.rt_plain.specs.declared.board.MutexDef.{MutexDef}
use Rattle.rt_plain.specs.declared.board.MailboxDef.{MailboxDef}
use Rattle.rt_plain.specs.declared.board.QueueDef.{QueueDef}
use Rattle.rt_plain.specs.declared.board.PoolDef.{PoolDef}
use Rattle.rt_plain.specs.declared.board.DeviceDef.{DeviceDef}
use Rattle.rt_plain.specs.declared.board.Arrival.{Arrival}
use Rattle.rt_plain.specs.declared.board.TimerDef.{TimerDef}
use Rattle.rt_plain.specs.declared.board.ThreadDef.{ThreadDef}
use Rattle.rt_plain.specs.PlainBoard.{PlainBoard}
use Rattle.rt_plain.specs.kernel.State.{State, Thread, Initial, Active, Sem, EventObj, Mutex, Mailbox, MsgQueue, Pool, Timer, Device, Arriving, OfTimer, thread_at, thread_numbers, is_initial}
use Rattle.rt_plain.specs.kernel.Effects.{with_alarm}
use Rattle.rt_plain.specs.kernel.LpClock.{moment_after_counts}
use Rattle.rt_plain.specs.kernel.Shell.{console_name}

-- a semaphore of the board
abbrev pub new_sem : SemDef → Sem
new_sem def = record { name = def.name; value = def.value; order = def.order }

-- an event object of the board, without flags
abbrev pub new_event : EventDef → EventObj
new_event def = record { name = def.name; flags = 0; order = def.order }

-- a mutex of the board, which nobody owns
abbrev pub new_mutex : MutexDef → Mutex
new_mutex def = record { name = def.name; ceiling = def.ceiling }

-- an empty mailbox of the board
abbrev pub new_mailbox : MailboxDef → Mailbox
new_mailbox def = record { name = def.name; size = def.size; order = def.order; words = [] }

-- an empty queue of the board
abbrev pub new_queue : QueueDef → MsgQueue
new_queue def = record { name = def.name; max = def.max; size = def.size; order = def.order; messages = [] }

-- a pool of the board, whose blocks are all free
abbrev pub new_pool : PoolDef → Pool
new_pool def = record { name = def.name; size = def.size; order = def.order; blocks = replicate def.blocks None; held = [] }

-- a timer of the board
abbrev pub new_timer : TimerDef → Timer
new_timer def = record { name = def.name; kind = def.kind; time = def.time; call = def.call }

-- a closed device of the board, with empty rings
abbrev pub new_device : DeviceDef → Device
new_device def = record { name = def.name; console = false; opened = 0; rate = def.rate; rx_size = def.rx; rx = []; tx_size = def.tx; tx = []; pm = def.pm; ind = def.ind }

-- the console is open once, receives up to 128 bytes and sends none
abbrev pub new_console : Device
new_console = record { name = console_name; console = true; opened = 1; rate = 1; rx_size = 128; rx = []; tx_size = 0; tx = []; pm = false; ind = None }

-- a thread before its first statement, active from the start or initial
abbrev pub new_thread : List ℕ → ℕ → ℕ → Option ℕ → Bool → Thread
new_thread name base slice core started = record {
  name = name;
  base = base;
  slice = slice;
  left = slice;
  core = core;
  stage = if started then Active else Initial;
  next = 1;
  code = Code.Ok;
  value = 0;
  text = [];
  counter = 0;
  locks = 0;
  marked = false;
  retry = None;
}

-- a thread of the board
abbrev pub new_script_thread : ThreadDef → Thread
new_script_thread def = new_thread def.name def.prio def.slice def.core def.started

-- a thread without a script, where it has a base priority
abbrev pub own_threads : List ℕ → Option ℕ → List Thread
own_threads name None = []
own_threads name (Some prio) = new_thread name prio 10 None true ∷ []

-- the shell's thread and that of soft timers first, then those of the board
abbrev pub new_threads : PlainBoard → List Thread
new_threads b = own_threads (codes "tshell") b.shell ++ own_threads (codes "tsoft") b.soft ++ map new_script_thread b.threads

-- the moment of an arrival, by the counts of the low-power clock
abbrev pub arrival_moment : PlainBoard → Arrival → ℕ
arrival_moment b a = moment_after_counts b.lp_h b.lp_q a.count

-- what is to arrive
abbrev pub new_arriving : PlainBoard → Arrival → Arriving
new_arriving b a = record { moment = arrival_moment b a; device = a.device; text = a.text }

-- the board's objects and threads, with nothing armed and nobody ready
abbrev pub unstarted_state : PlainBoard → State
unstarted_state b = record {
  moment = 0;
  numbers = 0;
  threads = new_threads b;
  sems = reverse (map new_sem b.sems);
  events = reverse (map new_event b.events);
  mutexes = reverse (map new_mutex b.mutexes);
  holdings = [];
  mailboxes = reverse (map new_mailbox b.mailboxes);
  queues = reverse (map new_queue b.queues);
  pools = reverse (map new_pool b.pools);
  timers = reverse (map new_timer b.timers);
  devices = reverse (new_console ∷ map new_device b.devices);
  ready = [];
  running = replicate b.cores None;
  armed = [];
  works = [];
  votes = replicate 6 0;
  run_mode = RunMode.Normal;
  nest = None;
  shell_line = [];
  arrivals = map (new_arriving b) b.arrivals;
  halt = None;
}

-- a timer that starts at opening is armed
abbrev pub with_auto_timer : State → TimerDef → State
with_auto_timer s def = if def.started then with_alarm s (OfTimer def.name) (Some def.time) else s

-- timers start in board order, and the active threads are ready in thread order
unfoldable pub open_state : PlainBoard → State
open_state b =
    let s = fold with_auto_timer (unstarted_state b) b.timers in
    record s { ready = filter (λ t. not (is_initial (thread_at s t).stage)) (thread_numbers s) }
