-- What the walks along a chain of owners count.
use Rattle.std.specs.Prelude.{ℕ, zero, suc, ◌+◌, ◌*◌, length, filter, min, Option, Some, None}
use Rattle.std.specs.List.{sum_by, range_with_len}
use Rattle.rt_plain.specs.kernel.State.{is_among}
use Rattle.rt_plain.specs.kernel.Priority.{reach}
use Rattle.rt_plain.specs.kernel.Ownership.{Ownership, graph_in, awaited_in, owned_in}
use Rattle.rt_plain.specs.kernel.Weight.{weight_of}
use Rattle.mutex_chain.specs.Owners.{blocker_in}

-- 1 where somebody waits
abbrev pub one_wait : Option ℕ → ℕ
one_wait None = 0
one_wait (Some mutex) = 1

-- at a thread that gets a number carried on: its number and its row, and if it waits a call on its wait list and the row of the mutex
abbrev pub step_cost : Ownership → ℕ → ℕ
step_cost o t = 2 + 2 * one_wait (awaited_in o t)

-- at a thread whose number is computed anew: its row twice in place of the number, and up to four for each of its mutexes
abbrev pub renew_cost : Ownership → ℕ → ℕ
renew_cost o t = 2 + 2 * one_wait (awaited_in o t) + 4 * length (owned_in o t)

-- the sum over so many threads of a chain, from here on
abbrev pub walk_sum : (ℕ → ℕ) → Ownership → ℕ → Option ℕ → ℕ
walk_sum f o zero at = 0
walk_sum f o (suc n) None = 0
walk_sum f o (suc n) (Some x) = f x + walk_sum f o n (blocker_in o x)

-- the sum over all whom the chain of a thread leads to
abbrev pub chain_sum : (ℕ → ℕ) → Ownership → ℕ → ℕ
chain_sum f o u = sum_by f (filter (λ t. is_among (reach (graph_in o) t) u) (range_with_len 0 (length o.members)))

-- the least of a number and another one, if there is one
abbrev pub least_of : ℕ → Option ℕ → ℕ
least_of least None = least
least_of least (Some ceiling) = min least ceiling

-- the weight of all whom the chain of a thread leads to, if there is one
abbrev pub first_weight : Ownership → Option ℕ → ℕ
first_weight o None = 0
first_weight o (Some u) = chain_sum (weight_of o) o u
