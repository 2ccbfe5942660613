-- How much of the owners and waiters an edit may have to look at.
use Rattle.std.specs.Prelude.{ℕ, zero, suc, ◌+◌, ◌*◌, not, ◌&&◌, List, [], ◌∷◌, ◌++◌, Option, Some, None, map, filter, length, sum_by, nat_lt, if◌then◌else◌, ◌==◌}
use Rattle.std.specs.List.{list_any, range_with_len}
use Rattle.std.specs.Option.{option_to_list}
use Rattle.rt_plain.specs.kernel.State.{is_among}
use Rattle.rt_plain.specs.kernel.Priority.{Graph, blocker_of}
use Rattle.rt_plain.specs.kernel.Ownership.{Ownership, Taken, graph_in, taken_of, owner_in, owned_in, awaited_in, waiters_in, passes_of, first_in}

-- the thread, the owner of the mutex that it waits on, and so on, until there is none or a thread comes twice
abbrev pub chain_from : ℕ → Graph → List ℕ → Option ℕ → List ℕ
chain_from zero g seen next = seen
chain_from (suc n) g seen None = seen
chain_from (suc n) g seen (Some t) = if is_among seen t then seen else chain_from n g (seen ++ t ∷ []) (blocker_of g t)

-- the chain of a thread
abbrev pub chain : Graph → ℕ → List ℕ
chain g t = chain_from (length g.blockers) g [] (Some t)

-- how many wait on the mutex that a thread waits on
abbrev pub fellow_count : Ownership → Option ℕ → ℕ
fellow_count o None = 0
fellow_count o (Some mutex) = length (waiters_in o mutex)

-- the weight of a thread: itself, the mutexes that it owns, and the waiters of the one that it waits on
abbrev pub weight_of : Ownership → ℕ → ℕ
weight_of o t = 1 + length (owned_in o t) + fellow_count o (awaited_in o t)

-- the threads that stand in a chain of one of these
abbrev pub concerned_threads : Ownership → List ℕ → List ℕ
concerned_threads o touched = filter (λ t. list_any (λ u. is_among (chain (graph_in o) u) t) touched) (range_with_len 0 (length o.members))

-- the weight of a moment: that of all threads in a chain of a touched one, each once
abbrev pub moment_weight : Ownership → List ℕ → ℕ
moment_weight o touched = sum_by (weight_of o) (concerned_threads o touched)

-- the size of an edit: 1, and the weight of the moments before and after it
abbrev pub edit_size : Ownership → Ownership → List ℕ → ℕ
edit_size before after touched = 1 + moment_weight before touched + moment_weight after touched

-- another ceiling touches the owner of the mutex
abbrev pub ceiling_touches : Ownership → ℕ → List ℕ
ceiling_touches o mutex = option_to_list (owner_in o mutex)

-- whom a release by a thread passes the mutex to: its first waiter, where the thread holds it for the last time
abbrev pub passed_by : Ownership → ℕ → ℕ → Option Taken → Option ℕ
passed_by o t mutex None = None
passed_by o t mutex (Some h) = if (h.owner == t) && not (nat_lt 1 h.hold) then first_in o mutex else None

-- a release touches its thread, and the one passed to
abbrev pub release_touches : Ownership → ℕ → ℕ → List ℕ
release_touches o t mutex = t ∷ option_to_list (passed_by o t mutex (taken_of o mutex))

-- the end of a thread touches it, and those passed to
abbrev pub end_touches : Ownership → ℕ → List ℕ
end_touches o t = t ∷ map (λ p. p.thread) (passes_of t o)

-- the end of a mutex touches its owner and its waiters
abbrev pub mutex_end_touches : Ownership → ℕ → List ℕ
mutex_end_touches o mutex = option_to_list (owner_in o mutex) ++ waiters_in o mutex

-- at least eight times the size of each edit that a fired row makes, by the numbers of threads and of mutexes
abbrev pub fired_bound : ℕ → ℕ → ℕ
fired_bound threads mutexes = 8 * (1 + 2 * (threads + mutexes + threads * threads))
