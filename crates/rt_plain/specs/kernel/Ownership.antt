-- Owners and waiters of mutexes by number, apart from the kernel, and the edits of them.
use Rattle.std.specs.Prelude.{ℕ, ◌+◌, ◌-◌, Bool, true, false, not, ◌&&◌, List, [], ◌∷◌, Option, Some, None, map, filter, length, slice_set, slice_index_or, nat_lt, if◌then◌else◌, ◌==◌}
use Rattle.std.specs.List.{find, filter_map, range_with_len}
use Rattle.std.specs.Option.{option_map, option_and_then}
use Rattle.rt_base.specs.declared.codes.WaitOrder.{WaitOrder}
use Rattle.rt_plain.specs.kernel.Priority.{Graph, least, cur_of}
use Rattle.rt_plain.specs.kernel.Waiting.{Waiter, first_of, threads_in_order}

-- a wait on a mutex, with its arrival number
pub record MutexWait : Type 0 where
  pub mutex : ℕ
  pub number : ℕ

-- a thread that is there: its base, and what it waits on
pub record Member : Type 0 where
  pub base : ℕ
  pub wait : Option MutexWait

-- a thread owns a mutex, and has taken it so many times
pub record Taken : Type 0 where
  pub mutex : ℕ
  pub owner : ℕ
  pub hold : ℕ

-- the threads and the ceilings of the mutexes that are there, each at the place of its number, and who owns what, last got first
pub record Ownership : Type 0 where
  pub members : List (Option Member)
  pub ceilings : List (Option ℕ)
  pub taken : List Taken

-- the thread of a number, if it is there
abbrev pub member_at : Ownership → ℕ → Option Member
member_at o t = slice_index_or o.members t None

-- who owns a mutex, and how often it was taken
abbrev pub taken_of : Ownership → ℕ → Option Taken
taken_of o mutex = find (λ h. h.mutex == mutex) o.taken

-- the owner of a mutex, if it has one
abbrev pub owner_in : Ownership → ℕ → Option ℕ
owner_in o mutex = option_map (λ h. h.owner) (taken_of o mutex)

-- the mutexes that a thread owns, the last got first
abbrev pub owned_in : Ownership → ℕ → List ℕ
owned_in o t = map (λ h. h.mutex) (filter (λ h. h.owner == t) o.taken)

-- the wait of a thread, if it waits
abbrev pub wait_of : Ownership → ℕ → Option MutexWait
wait_of o t = option_and_then (λ m. m.wait) (member_at o t)

-- the mutex that a thread waits on
abbrev pub awaited_in : Ownership → ℕ → Option ℕ
awaited_in o t = option_map (λ w. w.mutex) (wait_of o t)

-- the base of a thread. One that isn't there is taken as least urgent
abbrev pub base_of : Option Member → ℕ
base_of None = 256
base_of (Some m) = m.base

-- a thread's own urgency: the least of its base and the ceilings of the mutexes that it owns
abbrev pub member_urgency : Ownership → ℕ → ℕ
member_urgency o t = least (base_of (member_at o t)) (filter_map (λ mutex. slice_index_or o.ceilings mutex None) (owned_in o t))

-- who waits on whom, and how urgent each is by itself
abbrev pub graph_in : Ownership → Graph
graph_in o = let numbers = range_with_len 0 (length o.members) in record { blockers = map (λ t. option_and_then (owner_in o) (awaited_in o t)) numbers; urgencies = map (member_urgency o) numbers }

-- the current priority of a thread
abbrev pub cur_in : Ownership → ℕ → ℕ
cur_in o t = cur_of (graph_in o) t

-- a thread in a mutex's wait list, where it waits there
abbrev pub wait_row : Ownership → ℕ → ℕ → Option MutexWait → Option Waiter
wait_row o mutex t None = None
wait_row o mutex t (Some w) = if w.mutex == mutex then Some (record { thread = t; prio = cur_in o t; number = w.number }) else None

-- the threads in a mutex's wait list
abbrev pub wait_rows_in : Ownership → ℕ → List Waiter
wait_rows_in o mutex = filter_map (λ t. wait_row o mutex t (wait_of o t)) (range_with_len 0 (length o.members))

-- the waiters of a mutex, the most urgent first and equals by arrival
abbrev pub waiters_in : Ownership → ℕ → List ℕ
waiters_in o mutex = threads_in_order WaitOrder.Prio (wait_rows_in o mutex)

-- the first waiter of a mutex
abbrev pub first_in : Ownership → ℕ → Option ℕ
first_in o mutex = first_of WaitOrder.Prio (wait_rows_in o mutex)

-- another row for a thread
abbrev pub with_member : Ownership → ℕ → Option Member → Ownership
with_member o t m = record o { members = slice_set o.members t m }

-- a thread with this base
abbrev pub with_base : ℕ → Member → Member
with_base base m = record m { base = base }

-- a thread that waits so
abbrev pub with_wait : Option MutexWait → Member → Member
with_wait wait m = record m { wait = wait }

-- a change of a thread that is there
abbrev pub member_edit : (Member → Member) → ℕ → Ownership → Ownership
member_edit change t o = with_member o t (option_map change (member_at o t))

-- another base
abbrev pub base_edit : ℕ → ℕ → Ownership → Ownership
base_edit t base o = member_edit (with_base base) t o

-- another ceiling
abbrev pub ceiling_edit : ℕ → ℕ → Ownership → Ownership
ceiling_edit mutex ceiling o = record o { ceilings = slice_set o.ceilings mutex (Some ceiling) }

-- nobody owns the mutex
abbrev pub with_mutex_free : ℕ → Ownership → Ownership
with_mutex_free mutex o = record o { taken = filter (λ h. not (h.mutex == mutex)) o.taken }

-- a thread owns the mutex, got last
abbrev pub with_mutex_got : ℕ → ℕ → Ownership → Ownership
with_mutex_got mutex t o = let free = with_mutex_free mutex o in record free { taken = record { mutex = mutex; owner = t; hold = 1 } ∷ free.taken }

-- its owner has taken the mutex so many times
abbrev pub with_taken_times : ℕ → ℕ → Ownership → Ownership
with_taken_times mutex hold o = record o { taken = map (λ h. if h.mutex == mutex then record { mutex = mutex; owner = h.owner; hold = hold } else h) o.taken }

-- a free mutex is got, its own is taken once more up to 255, and nothing changes at that of another thread
abbrev pub take_edit_of : ℕ → ℕ → Option Taken → Ownership → Ownership
take_edit_of t mutex None o = with_mutex_got mutex t o
take_edit_of t mutex (Some h) o = if (h.owner == t) && nat_lt h.hold 255 then with_taken_times mutex (h.hold + 1) o else o

-- take: by a thread, of a mutex
abbrev pub take_edit : ℕ → ℕ → Ownership → Ownership
take_edit t mutex o = take_edit_of t mutex (taken_of o mutex) o

-- wait: a thread waits on a mutex
abbrev pub wait_edit : ℕ → ℕ → ℕ → Ownership → Ownership
wait_edit t mutex number o = member_edit (with_wait (Some (record { mutex = mutex; number = number }))) t o

-- leave: a thread waits no more
abbrev pub leave_edit : ℕ → Ownership → Ownership
leave_edit t o = member_edit (with_wait None) t o

-- the mutex passes to this waiter, or to nobody
abbrev pub pass_edit_to : ℕ → Option ℕ → Ownership → Ownership
pass_edit_to mutex None o = with_mutex_free mutex o
pass_edit_to mutex (Some t) o = with_mutex_got mutex t (leave_edit t o)

-- the mutex passes to its first waiter, or to nobody
abbrev pub pass_edit : ℕ → Ownership → Ownership
pass_edit mutex o = pass_edit_to mutex (first_in o mutex) o

-- its owner holds the mutex once less, or at the last time passes it; nothing changes for another thread
abbrev pub release_edit_of : ℕ → ℕ → Option Taken → Ownership → Ownership
release_edit_of t mutex None o = o
release_edit_of t mutex (Some h) o = if h.owner == t then (if nat_lt 1 h.hold then with_taken_times mutex (h.hold - 1) o else pass_edit mutex o) else o

-- release: by a thread, of a mutex
abbrev pub release_edit : ℕ → ℕ → Ownership → Ownership
release_edit t mutex o = release_edit_of t mutex (taken_of o mutex) o

-- all these threads wait no more
abbrev pub leave_edits : List ℕ → Ownership → Ownership
leave_edits [] o = o
leave_edits (t ∷ ts) o = leave_edits ts (leave_edit t o)

-- the end of a mutex: nobody owns it or waits on it, and it is there no more
abbrev pub kill_mutex_edit : ℕ → Ownership → Ownership
kill_mutex_edit mutex o = let rest = leave_edits (waiters_in o mutex) (with_mutex_free mutex o) in record rest { ceilings = slice_set rest.ceilings mutex None }

-- these mutexes pass one after the other, each judged in the state that the one before left
abbrev pub pass_edits : List ℕ → Ownership → Ownership
pass_edits [] o = o
pass_edits (mutex ∷ mutexes) o = pass_edits mutexes (pass_edit mutex o)

-- the end of a thread: it leaves its wait, and then passes its mutexes, the last got first
abbrev pub kill_thread_edit : ℕ → Ownership → Ownership
kill_thread_edit t o = pass_edits (owned_in o t) (with_member o t None)

-- a mutex that passed, and the thread that got it
pub record Pass : Type 0 where
  pub mutex : ℕ
  pub thread : ℕ

-- whom each of these mutexes passes to, one after the other
abbrev pub passes_from : List ℕ → Ownership → List (Option Pass)
passes_from [] o = []
passes_from (mutex ∷ mutexes) o = option_map (λ t. record { mutex = mutex; thread = t }) (first_in o mutex) ∷ passes_from mutexes (pass_edit mutex o)

-- the passes that the end of a thread makes
abbrev pub passes_of : ℕ → Ownership → List Pass
passes_of t o = filter_map (λ p. p) (passes_from (owned_in o t) (with_member o t None))

-- a thread whose current priority changed, with both numbers
pub record CurChange : Type 0 where
  pub thread : ℕ
  pub old : ℕ
  pub new : ℕ

-- whether a thread is there
abbrev pub is_there : Option Member → Bool
is_there None = false
is_there (Some m) = true

-- the change of a thread that is there before and after, where its current priority differs
abbrev pub change_at : Ownership → Ownership → ℕ → Option CurChange
change_at before after t =
    if is_there (member_at before t) && (is_there (member_at after t) && not (cur_in before t == cur_in after t))
    then Some (record { thread = t; old = cur_in before t; new = cur_in after t })
    else None

-- all changes between two moments, in thread order
abbrev pub changes : Ownership → Ownership → List CurChange
changes before after = filter_map (change_at before after) (range_with_len 0 (length after.members))
