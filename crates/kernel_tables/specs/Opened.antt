-- The tables as a board opens.
use Rattle.std.specs.Prelude.{ℕ, ◌≡◌, ◌≢◌, ◌<◌, ◌≤◌, true, List, [], map, reverse, replicate, length, None}
use Rattle.std.specs.List.{All, AllPairs, AllByRecursion}
use Rattle.rt_base.specs.declared.codes.WaitOrder.{WaitOrder}
use Rattle.rt_plain.specs.declared.board.SemDef.{SemDef}
use Rattle.rt_plain.specs.declared.board.EventDef.{EventDef}
use Rattle.rt_plain.specs.declared.board.MailboxDef.{MailboxDef}
use Rattle.rt_plain.specs.declared.board.QueueDef.{QueueDef}
use Rattle.rt_plain.specs.declared.board.ThreadDef.{ThreadDef}
use Rattle.rt_plain.specs.PlainBoard.{PlainBoard}
use Rattle.rt_plain.specs.kernel.Opening.{new_script_thread, new_sem, new_event, new_mailbox, new_queue}
use Rattle.object_box.specs.Objects.{IsSound}
use Rattle.susp_list.specs.Rows.{Waits}
use Rattle.ipc_counts.specs.Counted.{Counted}
use Rattle.ipc_counts.specs.Flags.{Flagged}
use Rattle.ipc_queues.specs.Channels.{slots_of, ends_at}
use Rattle.ipc_queues.specs.Ends.{empty_ends}
use Rattle.ipc_queues.specs.declared.channels.ChannelKind.{ChannelKind}
use Rattle.kernel_tables.specs.declared.lists.Lists.{Lists}
use Rattle.ready_set.specs.ReadyLists.{IsBinding}
use Rattle.ready_list.specs.Depths.{is_depth}
use Rattle.kernel_tables.specs.Ready.{started}
use Rattle.kernel_tables.specs.Tabled.{Tabled}

-- there is room for the objects of each class, and their names are distinct
pub record HasFittingObjects (b : PlainBoard) : Type 0 where
  pub sem_room : length b.sems ≤ b.limits.sem
  pub event_room : length b.events ≤ b.limits.event
  pub mailbox_room : length b.mailboxes ≤ 64
  pub queue_room : length b.queues ≤ 64
  pub sem_names : AllPairs (λ a c. a.name ≢ c.name) b.sems
  pub event_names : AllPairs (λ a c. a.name ≢ c.name) b.events
  pub mailbox_names : AllPairs (λ a c. a.name ≢ c.name) b.mailboxes
  pub queue_names : AllPairs (λ a c. a.name ≢ c.name) b.queues

-- a board whose tables may be opened
pub record MayOpen (b : PlainBoard) : Type 0 where
  pub few : length b.threads ≤ 256
  pub depth : is_depth b.levels ≡ true
  pub threads : AllByRecursion (λ (def : ThreadDef). (def.prio < b.levels) × IsBinding b.cores def.core) b.threads
  pub objects : HasFittingObjects b

-- what contracts see of the tables before the first statement
abbrev pub first_tables : PlainBoard → Tabled
first_tables b = record {
  threads = map new_script_thread b.threads;
  ready = started (map new_script_thread b.threads) (length (map new_script_thread b.threads));
  cores = b.cores;
  levels = b.levels;
  sems = reverse (map new_sem b.sems);
  events = reverse (map new_event b.events);
  mailboxes = reverse (map new_mailbox b.mailboxes);
  queues = reverse (map new_queue b.queues);
  sem_limit = b.limits.sem;
  event_limit = b.limits.event;
  mailbox_limit = length b.mailboxes;
  queue_limit = length b.queues;
}

-- without its objects
abbrev pub bare_tables : PlainBoard → Tabled
bare_tables b = record (first_tables b) { sems = []; events = []; mailboxes = []; queues = [] }

-- a wait list of so many threads in which nobody waits
abbrev pub empty_waits : ℕ → Waits
empty_waits threads = record { order = WaitOrder.Fifo; rows = replicate threads None }

-- so many semaphores that nobody waits for
pub record AreFreeSems (sems : List Counted) (count threads : ℕ) : Type 0 where
  pub len : length sems ≡ count
  pub free : All (λ sem. sem.waiters ≡ empty_waits threads) sems

-- so many event objects that nobody waits for
pub record AreFreeEvents (events : List Flagged) (count threads : ℕ) : Type 0 where
  pub len : length events ≡ count
  pub free : All (λ event. event.waiters ≡ empty_waits threads) events

-- no objects, with room for so many, and nobody waits
pub record AreEmpty (l : Lists) (sems events mailboxes queues threads : ℕ) : Type 0 where
  pub sem_objects : l.objects.sem.objects ≡ []
  pub event_objects : l.objects.event.objects ≡ []
  pub mailbox_objects : l.objects.mailbox.objects ≡ []
  pub queue_objects : l.objects.msgqueue.objects ≡ []
  pub sem_limit : l.objects.sem.limit ≡ sems
  pub event_limit : l.objects.event.limit ≡ events
  pub mailbox_limit : l.objects.mailbox.limit ≡ mailboxes
  pub queue_limit : l.objects.msgqueue.limit ≡ queues
  pub sems_sound : IsSound l.objects.sem
  pub events_sound : IsSound l.objects.event
  pub mailboxes_sound : IsSound l.objects.mailbox
  pub queues_sound : IsSound l.objects.msgqueue
  pub free_sems : AreFreeSems l.sems.items sems threads
  pub free_events : AreFreeEvents l.events.items events threads
  pub mailbox_slots : slots_of l.channels ChannelKind.Mailbox ≡ mailboxes
  pub queue_slots : slots_of l.channels ChannelKind.MsgQueue ≡ queues
  pub free_channels : (kind : ChannelKind) (i : ℕ) → i < slots_of l.channels kind → ends_at l.channels kind i ≡ empty_ends threads

-- semaphores with names of their own, for which there is room
pub record MayCreateSems (k : Tabled) (defs : List SemDef) : Type 0 where
  pub none : k.sems ≡ []
  pub room : length defs ≤ k.sem_limit
  pub names : AllPairs (λ a b. a.name ≢ b.name) defs

-- the same for event objects
pub record MayCreateEvents (k : Tabled) (defs : List EventDef) : Type 0 where
  pub none : k.events ≡ []
  pub room : length defs ≤ k.event_limit
  pub names : AllPairs (λ a b. a.name ≢ b.name) defs

-- for mailboxes
pub record MayCreateMailboxes (k : Tabled) (defs : List MailboxDef) : Type 0 where
  pub none : k.mailboxes ≡ []
  pub room : length defs ≤ k.mailbox_limit
  pub names : AllPairs (λ a b. a.name ≢ b.name) defs

-- and for message queues
pub record MayCreateQueues (k : Tabled) (defs : List QueueDef) : Type 0 where
  pub none : k.queues ≡ []
  pub room : length defs ≤ k.queue_limit
  pub names : AllPairs (λ a b. a.name ≢ b.name) defs
