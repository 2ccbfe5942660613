-- The tables as a board opens.
use Rattle.std.specs.Prelude.{◌≡◌, ◌≢◌, ◌≤◌, List, [], map, reverse, length}
use Rattle.std.specs.List.{AllPairs}
use Rattle.rt_plain.specs.declared.board.MutexDef.{MutexDef}
use Rattle.rt_plain.specs.PlainBoard.{PlainBoard}
use Rattle.rt_plain.specs.kernel.Opening.{new_mutex}
use Rattle.kernel_tables.specs.Opened.{MayOpen, first_tables}
use Rattle.mutex_tables.specs.MutexTabled.{MutexTabled}

-- a board whose tables may be opened: there is room for its mutexes, whose names are distinct
pub record MayOpenAll (b : PlainBoard) : Type 0 where
  pub tables : MayOpen b
  pub room : length b.mutexes ≤ b.limits.mutex
  pub names : AllPairs (λ a c. a.name ≢ c.name) b.mutexes

-- what contracts see of the tables before the first mutex
abbrev pub bare : PlainBoard → MutexTabled
bare b = let k = first_tables b in record {
  threads = k.threads;
  ready = k.ready;
  cores = k.cores;
  levels = k.levels;
  sems = k.sems;
  events = k.events;
  mailboxes = k.mailboxes;
  queues = k.queues;
  mutexes = [];
  holdings = [];
  sem_limit = k.sem_limit;
  event_limit = k.event_limit;
  mailbox_limit = k.mailbox_limit;
  queue_limit = k.queue_limit;
  mutex_limit = b.limits.mutex;
}

-- what contracts see of the tables before the first statement: nobody owns a mutex
abbrev pub opened : PlainBoard → MutexTabled
opened b = record (bare b) { mutexes = reverse (map new_mutex b.mutexes) }

-- mutexes with names of their own, for which there is room
pub record MayCreate (v : MutexTabled) (defs : List MutexDef) : Type 0 where
  pub none : v.mutexes ≡ []
  pub room : length defs ≤ v.mutex_limit
  pub names : AllPairs (λ a c. a.name ≢ c.name) defs
