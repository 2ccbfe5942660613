-- Which ready thread a core takes.
use Rattle.std.specs.Prelude.{ℕ, Bool, true, false, not, ◌&&◌, ◌||◌, List, Option, Some, None, map, filter, is_some, nat_lt, ◌==◌}
use Rattle.std.specs.List.{find, list_any}
use Rattle.std.specs.Option.{option_map}
use Rattle.rt_plain.specs.kernel.State.{State, thread_at}
use Rattle.rt_plain.specs.kernel.Priority.{cur}

-- a ready thread, with what its turn depends on besides its place
pub record ReadyRow : Type 0 where
  pub thread : ℕ
  pub prio : ℕ
  pub core : Option ℕ

-- whether it may run on a core: it is unbound, or bound to it
abbrev pub is_free_for : ℕ → Option ℕ → Bool
is_free_for core None = true
is_free_for core (Some bound) = bound == core

-- whether a goes before b wherever they stand: it is more urgent, or as urgent where it alone is bound
abbrev pub goes_before : ReadyRow → ReadyRow → Bool
goes_before a b = nat_lt a.prio b.prio || ((a.prio == b.prio) && (is_some a.core && not (is_some b.core)))

-- the first of the rows that none of them goes before
abbrev pub first_best : List ReadyRow → Option ReadyRow
first_best rows = find (λ a. not (list_any (λ b. goes_before b a) rows)) rows

-- the thread that a core takes from a ready list
abbrev pub pick_among : List ReadyRow → ℕ → Option ℕ
pick_among rows core = option_map (λ row. row.thread) (first_best (filter (λ row. is_free_for core row.core) rows))

-- whether two bindings are the same
abbrev pub is_bound_so : Option ℕ → Option ℕ → Bool
is_bound_so None None = true
is_bound_so (Some a) (Some b) = a == b
is_bound_so None (Some b) = false
is_bound_so (Some a) None = false

-- whether a row has this priority and binding
abbrev pub is_in_queue : ℕ → Option ℕ → ReadyRow → Bool
is_in_queue prio core row = (row.prio == prio) && is_bound_so row.core core

-- the ready threads of one priority and binding, in the order of the ready list
abbrev pub ready_queue : List ReadyRow → ℕ → Option ℕ → List ℕ
ready_queue rows prio core = map (λ row. row.thread) (filter (is_in_queue prio core) rows)

-- a thread of the ready list, with its current priority and its binding
abbrev pub ready_row : State → ℕ → ReadyRow
ready_row s t = record { thread = t; prio = cur s t; core = (thread_at s t).core }

-- the ready list of the state
abbrev pub ready_rows : State → List ReadyRow
ready_rows s = map (ready_row s) s.ready

-- the thread that a core takes next
abbrev pub pick : State → ℕ → Option ℕ
pick s core = pick_among (ready_rows s) core
