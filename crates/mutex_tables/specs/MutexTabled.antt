-- What contracts see of the tables with their mutexes.
use Rattle.std.specs.Prelude.{ℕ, List, [], ◌∷◌, None}
use Rattle.rt_base.specs.declared.codes.RunMode.{RunMode}
use Rattle.rt_plain.specs.kernel.State.{State, Thread, Sem, EventObj, Mutex, Holding, Mailbox, MsgQueue}
use Rattle.rt_plain.specs.kernel.Ownership.{Ownership}
use Rattle.object_box.specs.Objects.{ClassObjects}
use Rattle.kernel_tables.specs.Tabled.{Tabled}
use Rattle.mutex_tie.specs.Tie.{plain_mutexes, plain_holdings}

-- the threads by number, those that are ready in order, the objects of each class, newest first, of which there may be so many, and who owns the mutexes, last got first. Priorities lie below `levels`, and bindings below `cores`
pub record MutexTabled : Type 0 where
  pub threads : List Thread
  pub ready : List ℕ
  pub cores : ℕ
  pub levels : ℕ
  pub sems : List Sem
  pub events : List EventObj
  pub mailboxes : List Mailbox
  pub queues : List MsgQueue
  pub mutexes : List Mutex
  pub holdings : List Holding
  pub sem_limit : ℕ
  pub event_limit : ℕ
  pub mailbox_limit : ℕ
  pub queue_limit : ℕ
  pub mutex_limit : ℕ

-- the state that they make up, in which nothing runs and nothing is armed: current priorities and wait lists depend on no more of a state
abbrev pub plain_state : MutexTabled → State
plain_state v = record {
  moment = 0;
  numbers = 0;
  threads = v.threads;
  sems = v.sems;
  events = v.events;
  mutexes = v.mutexes;
  holdings = v.holdings;
  mailboxes = v.mailboxes;
  queues = v.queues;
  pools = [];
  timers = [];
  devices = [];
  ready = v.ready;
  running = [];
  armed = [];
  works = [];
  votes = [];
  run_mode = RunMode.Normal;
  nest = None;
  shell_line = [];
  arrivals = [];
  halt = None;
}

-- the threads with these base priorities, each at the place of its number
abbrev pub based : List ℕ → List Thread → List Thread
based [] rows = rows
based (base ∷ bases) [] = []
based (base ∷ bases) (row ∷ rows) = record row { base = base } ∷ based bases rows

-- the tables with these base priorities, mutexes and owners
abbrev pub seen_with : Tabled → List ℕ → List Mutex → List Holding → ℕ → MutexTabled
seen_with k bases mutexes holdings limit = record {
  threads = based bases k.threads;
  ready = k.ready;
  cores = k.cores;
  levels = k.levels;
  sems = k.sems;
  events = k.events;
  mailboxes = k.mailboxes;
  queues = k.queues;
  mutexes = mutexes;
  holdings = holdings;
  sem_limit = k.sem_limit;
  event_limit = k.event_limit;
  mailbox_limit = k.mailbox_limit;
  queue_limit = k.queue_limit;
  mutex_limit = limit;
}

-- the same, with the mutexes and owners of a graph, seen by their names
abbrev pub seen : Tabled → List ℕ → ClassObjects → Ownership → MutexTabled
seen k bases c o = seen_with k bases (plain_mutexes c.objects o) (plain_holdings c.objects o) c.limit
