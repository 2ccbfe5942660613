-- The wait lists hold exactly the threads that wait for their objects.
use Rattle.std.specs.Prelude.{ℕ, ◌≡◌, ◌<◌, true, List, [], length, map, is_some, slice_get}
use Rattle.rt_plain.specs.kernel.State.{Thread}
use Rattle.rt_plain.specs.kernel.EventCalls.{want_of}
use Rattle.susp_list.specs.Rows.{Waits}
use Rattle.object_box.specs.Classes.{AllObjects}
use Rattle.object_box.specs.Objects.{IsSound}
use Rattle.ipc_counts.specs.Sent.{want_at}
use Rattle.ipc_counts.specs.declared.want.Want.{Want}
use Rattle.kernel_tables.specs.declared.lists.Lists.{Lists}
use Rattle.kernel_tables.specs.declared.wait_list.WaitList.{WaitList}
use Rattle.kernel_tables.specs.Listed.{plain_sems, plain_events, plain_mailboxes, plain_queues, wait_row, waits_in, wants_in, slots_in}
use Rattle.kernel_tables.specs.Tabled.{Tabled}
use Rattle.kernel_tables.specs.Threads.{row_at}
use Rattle.kernel_tables.specs.WaitLists.{objects_in, calls_in, is_known}

-- the threads and the objects, as contracts see them where nobody is ready
abbrev pub tabled : List Thread → Lists → Tabled
tabled threads l = record { threads = threads; ready = []; cores = 0; levels = 0; sems = plain_sems l; events = plain_events l; mailboxes = plain_mailboxes l; queues = plain_queues l; sem_limit = l.objects.sem.limit; event_limit = l.objects.event.limit; mailbox_limit = l.objects.mailbox.limit; queue_limit = l.objects.msgqueue.limit }

-- each wait list holds the threads whose stage names it, with their priority and arrival number, and nobody where there is no such object; each thread waits for an object that is there
pub record AreTied (threads : List Thread) (a : AllObjects) (waits : WaitList → ℕ → Waits) : Type 0 where
  pub sound : (list : WaitList) → IsSound (objects_in a list)
  pub rows : (list : WaitList) (i : ℕ) → i < (objects_in a list).limit → (waits list i).rows ≡ map (wait_row (calls_in a list i)) threads
  pub known : (t : ℕ) → is_known a (row_at threads t).stage ≡ true

-- what those who wait for an event object want is what their stages say
abbrev pub AreWanted : List Thread → AllObjects → (ℕ → List Want) → Type 0
AreWanted threads a wants = (i t : ℕ) → i < a.event.limit → t < length threads → is_some (wait_row (calls_in a WaitList.Event i) (row_at threads t)) ≡ true → want_at (slice_get (wants i) t) ≡ want_of (row_at threads t).stage

-- what the tables keep
pub record IsTied (threads : List Thread) (l : Lists) : Type 0 where
  pub slots : (list : WaitList) → slots_in l list ≡ (objects_in l.objects list).limit
  pub lists : AreTied threads l.objects (waits_in l)
  pub wants : AreWanted threads l.objects (wants_in l)
