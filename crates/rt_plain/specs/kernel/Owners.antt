-- How mutexes pass, and how threads end.
use Rattle.std.specs.Prelude.{ℕ, not, List, ◌∷◌, Option, Some, None, map, filter, if◌then◌else◌, ◌==◌}
use Rattle.std.specs.Str.{bytes_eq}
use Rattle.rt_base.specs.declared.codes.Code.{Code}
use Rattle.rt_base.specs.declared.codes.WaitOrder.{WaitOrder}
use Rattle.rt_plain.specs.declared.line.Line.{Line}
use Rattle.rt_plain.specs.kernel.State.{State, Closed, Nest, OfThread, thread_at, with_thread, running_on, is_number}
use Rattle.rt_plain.specs.kernel.Waiting.{first_waiter, takes_mutex}
use Rattle.rt_plain.specs.kernel.Effects.{Effect, no_effect, line_effect, and_then, each_effect, name_of, without_ready, without_core, without_alarm, wake_effect}

-- nobody owns the mutex
abbrev pub without_owner : State → List ℕ → State
without_owner s mutex = record s { holdings = filter (λ h. not (bytes_eq h.mutex mutex)) s.holdings }

-- the thread owns the mutex, got last and taken once
abbrev pub with_owner : State → List ℕ → ℕ → State
with_owner s mutex t = let free = without_owner s mutex in record free { holdings = record { mutex = mutex; owner = t; hold = 1 } ∷ free.holdings }

-- the mutex passes to this waiter, or to nobody
abbrev pub pass_effect : List ℕ → Option ℕ → State → Effect
pass_effect mutex None s = no_effect (without_owner s mutex)
pass_effect mutex (Some t) s = and_then (line_effect (with_owner s mutex t) (Line.Own mutex (name_of s t))) (wake_effect Code.Ok t)

-- its owner gives the mutex to its first waiter or to nobody
abbrev pub give_back_effect : List ℕ → State → Effect
give_back_effect mutex s = pass_effect mutex (first_waiter s WaitOrder.Prio (takes_mutex mutex)) s

-- the mutexes that a thread owns, the last got first
abbrev pub mutexes_of : State → ℕ → List (List ℕ)
mutexes_of s t = map (λ h. h.mutex) (filter (λ h. h.owner == t) s.holdings)

-- the lock over all cores after this thread has ended: free where its core held it
abbrev pub nest_without : State → ℕ → Option Nest → Option Nest
nest_without s t None = None
nest_without s t (Some n) = if is_number t (running_on s n.core) then None else Some n

-- a closed thread: it leaves its core, the ready list and its wait, and its core gives up the lock over all cores
abbrev pub withdrawn_state : State → ℕ → State
withdrawn_state s t =
    let row = thread_at s t in
    let free = record s { nest = nest_without s t s.nest } in
    without_alarm (without_ready (without_core (with_thread free t (record row { stage = Closed; retry = None })) t) t) (OfThread t)

-- the thread ends, and gives back its mutexes
abbrev pub close_effect : ℕ → State → Effect
close_effect t s = and_then (line_effect (withdrawn_state s t) (Line.Close (name_of s t))) (each_effect give_back_effect (mutexes_of s t))
