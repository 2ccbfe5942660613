-- Current priorities, computed from the owners and waiters of mutexes.
use Rattle.std.specs.Prelude.{ℕ, zero, suc, min, Bool, false, ◌&&◌, ◌||◌, List, [], ◌∷◌, Option, Some, None, map, filter, length, fold, slice_index, slice_index_or, ◌==◌}
use Rattle.std.specs.List.{find, list_any, range_with_len}
use Rattle.std.specs.Option.{option_map, option_and_then}
use Rattle.std.specs.Str.{bytes_eq}
use Rattle.rt_plain.specs.declared.stmt.Call.{Call}
use Rattle.rt_plain.specs.kernel.State.{State, Stage, Waiting, InCall, Mutex, Holding, thread_at, thread_numbers, is_among}

-- for each thread by its number: the owner of the mutex that it waits on, and its own urgency
pub record Graph : Type 0 where
  pub blockers : List (Option ℕ)
  pub urgencies : List ℕ

-- the thread that a thread waits for
abbrev pub blocker_of : Graph → ℕ → Option ℕ
blocker_of g t = slice_index_or g.blockers t None

-- a thread's own urgency, by its number
abbrev pub urgency_of : Graph → ℕ → ℕ
urgency_of g t = slice_index g.urgencies t

-- whether there is a thread, and it is one of these
abbrev pub is_one_of : List ℕ → Option ℕ → Bool
is_one_of threads None = false
is_one_of threads (Some t) = is_among threads t

-- one round: the members, and every thread that waits on a mutex owned by a member
abbrev pub round_of : Graph → List ℕ → List ℕ
round_of g members = filter (λ t. is_among members t || is_one_of members (blocker_of g t)) (range_with_len 0 (length g.blockers))

-- so many rounds
abbrev pub rounds_of : ℕ → Graph → List ℕ → List ℕ
rounds_of zero g members = members
rounds_of (suc n) g members = rounds_of n g (round_of g members)

-- the thread with all that wait on it, directly or through others: as many rounds as there are threads
abbrev pub reach : Graph → ℕ → List ℕ
reach g t = rounds_of (length g.blockers) g (t ∷ [])

-- the least number among n and the others
abbrev pub least : ℕ → List ℕ → ℕ
least n ns = fold min n ns

-- the current priority: the least urgency among those in the reach of the thread
abbrev pub cur_of : Graph → ℕ → ℕ
cur_of g t = least (urgency_of g t) (map (urgency_of g) (reach g t))

-- the mutex that a call waits for
abbrev pub mutex_of_call : Call → Option (List ℕ)
mutex_of_call (Call.MutexTake mutex timeout) = Some mutex
mutex_of_call _ = None

-- the mutex that a thread at this stage waits on
abbrev pub awaited_mutex : Stage → Option (List ℕ)
awaited_mutex (Waiting (InCall call) number) = mutex_of_call call
awaited_mutex _ = None

-- who owns a mutex, and how often it was taken
abbrev pub holding_of : State → List ℕ → Option Holding
holding_of s mutex = find (λ h. bytes_eq h.mutex mutex) s.holdings

-- the owner of a mutex, if it has one
abbrev pub owner_of : State → List ℕ → Option ℕ
owner_of s mutex = option_map (λ h. h.owner) (holding_of s mutex)

-- whether a thread owns the mutex
abbrev pub is_owned_by : State → ℕ → Mutex → Bool
is_owned_by s t mutex = list_any (λ h. bytes_eq h.mutex mutex.name && (h.owner == t)) s.holdings

-- the ceilings of the mutexes that a thread owns
abbrev pub ceilings_of : State → ℕ → List ℕ
ceilings_of s t = map (λ m. m.ceiling) (filter (is_owned_by s t) s.mutexes)

-- a thread's own urgency: the least of its base and the ceilings of the mutexes that it owns
abbrev pub own_urgency : State → ℕ → ℕ
own_urgency s t = least (thread_at s t).base (ceilings_of s t)

-- who waits on whom, and how urgent each is by itself
abbrev pub graph_of : State → Graph
graph_of s = record { blockers = map (λ row. option_and_then (owner_of s) (awaited_mutex row.stage)) s.threads; urgencies = map (own_urgency s) (thread_numbers s) }

-- the current priority of a thread
abbrev pub cur : State → ℕ → ℕ
cur s t = cur_of (graph_of s) t
