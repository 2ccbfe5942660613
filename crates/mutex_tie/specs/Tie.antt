-- How the mutexes of the plain state, which have names, are those of the graph, which have numbers.
use Rattle.std.specs.Prelude.{ℕ, ◌≡◌, ◌≢◌, true, Bool, List, [], length, Option, Some, None, map, find, All, slice_index_or, replicate, is_some, if◌then◌else◌, ◌==◌}
use Rattle.std.specs.List.{AllPairs}
use Rattle.std.specs.Option.{option_map}
use Rattle.rt_plain.specs.declared.stmt.Call.{Call}
use Rattle.rt_plain.specs.kernel.State.{State, Thread, Stage, Waiting, InCall, Mutex, Holding, no_thread, is_closed}
use Rattle.rt_plain.specs.kernel.Ownership.{Ownership, Member, MutexWait, Taken}
use Rattle.object_box.specs.declared.object.Object.{Object}
use Rattle.object_box.specs.Objects.{ClassObjects, IsSound, has_number, number_of}
use Rattle.mutex_chain.specs.Owners.{has_mutex}

abbrev pub name_or : Option Object → List ℕ
name_or None = []
name_or (Some x) = x.name

-- the name of the object with a number
abbrev pub name_at : List Object → ℕ → List ℕ
name_at objects i = name_or (find (λ x. x.no == i) objects)

abbrev pub ceiling_or : Option ℕ → ℕ
ceiling_or None = 0
ceiling_or (Some c) = c

-- a mutex of a name, with this ceiling
abbrev pub named : List ℕ → Option ℕ → Mutex
named name ceiling = record { name = name; ceiling = ceiling_or ceiling }

-- a mutex of the graph, seen by its name
abbrev pub plain_mutex : List (Option ℕ) → Object → Mutex
plain_mutex ceilings x = named x.name (slice_index_or ceilings x.no None)

-- who owns a mutex of a name
abbrev pub held_as : Taken → List ℕ → Holding
held_as h name = record { mutex = name; owner = h.owner; hold = h.hold }

-- who owns a mutex, seen by its name
abbrev pub plain_holding : List Object → Taken → Holding
plain_holding objects h = held_as h (name_at objects h.mutex)

-- all mutexes, newest first, and who owns them, last got first
abbrev pub plain_mutexes : List Object → Ownership → List Mutex
plain_mutexes objects o = map (plain_mutex o.ceilings) objects

abbrev pub plain_holdings : List Object → Ownership → List Holding
plain_holdings objects o = map (plain_holding objects) o.taken

abbrev pub wait_for : ℕ → Option ℕ → Option MutexWait
wait_for number o = option_map (λ no. record { mutex = no; number = number }) o

-- the wait of a thread at this stage, if it waits on a mutex
abbrev pub wait_in : List Object → Stage → Option MutexWait
wait_in objects (Waiting (InCall (Call.MutexTake name timeout)) number) = wait_for number (number_of objects name)
wait_in objects _ = None

-- a thread in the graph. One that has ended isn't there
abbrev pub member_of : List Object → Thread → Option Member
member_of objects row = if is_closed row.stage then None else Some (record { base = row.base; wait = wait_in objects row.stage })

-- whether nobody but this thread owns a mutex
abbrev pub is_own_or_free : ℕ → Option Taken → Bool
is_own_or_free t None = true
is_own_or_free t (Some h) = h.owner == t

-- whether the mutex that a thread at this stage waits for is there
abbrev pub knows_mutex : List Object → Stage → Bool
knows_mutex objects (Waiting (InCall (Call.MutexTake name timeout)) number) = is_some (number_of objects name)
knows_mutex objects _ = true

-- the graph stands for the threads and the mutexes: each thread is there till it ends, the mutexes of the class are there and no others, and each awaited mutex is among them
pub record IsGraphOf (threads : List Thread) (c : ClassObjects) (o : Ownership) : Type 0 where
  pub members : o.members ≡ map (member_of c.objects) threads
  pub places : length o.ceilings ≡ c.limit
  pub sound : IsSound c
  pub there : (i : ℕ) → has_mutex o i ≡ has_number c.objects i
  pub taken : All (λ h. has_number c.objects h.mutex ≡ true) o.taken
  pub once : AllPairs (λ a b. a.mutex ≢ b.mutex) o.taken
  pub known : (t : ℕ) → knows_mutex c.objects (slice_index_or threads t no_thread).stage ≡ true

-- the same of a state
pub record StandsFor (s : State) (c : ClassObjects) (o : Ownership) : Type 0 where
  pub owned : IsGraphOf s.threads c o
  pub mutexes : s.mutexes ≡ plain_mutexes c.objects o
  pub holdings : s.holdings ≡ plain_holdings c.objects o

-- a graph of threads alone, with room for so many mutexes
abbrev pub graph_of_threads : List Thread → ℕ → Ownership
graph_of_threads threads limit = record { members = map (member_of []) threads; ceilings = replicate limit None; taken = [] }
