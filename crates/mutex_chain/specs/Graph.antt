-- What the calls of the graph answer, and the lists that they fill.
use Rattle.std.specs.Prelude.{ℕ, [], ◌∷◌, ◌++◌, ◌≡◌, ◌≢◌, ◌-◌, Bool, true, false, not, ◌&&◌, List, length, Option, Some, None, nat_lt, if◌then◌else◌, ◌==◌}
use Rattle.rt_base.specs.declared.codes.WaitOrder.{WaitOrder}
use Rattle.rt_plain.specs.kernel.Waiting.{Waiter, stands_before}
use Rattle.rt_plain.specs.kernel.Ownership.{Ownership, Taken, CurChange, Pass, wait_of, wait_row}
use Rattle.mutex_chain.specs.declared.answers.Took.{Took}
use Rattle.mutex_chain.specs.declared.answers.Released.{Released}
use Rattle.mutex_chain.specs.Owners.{has_thread}

-- a list of changes, and for how many threads it has room
pub record ChangeList : Type 0 where
  pub threads : ℕ
  pub changes : List CurChange

-- a list of threads, and for how many it has room
pub record WokenList : Type 0 where
  pub threads : ℕ
  pub woken : List ℕ

-- a list of mutexes with threads, and for how many threads it has room
pub record PassList : Type 0 where
  pub threads : ℕ
  pub passes : List (ℕ × ℕ)

-- a pass as a pair
abbrev pub pair_of : Pass → ℕ × ℕ
pair_of p = (p.mutex, p.thread)

-- a list with one pass more, where the mutex passes to somebody
abbrev pub passed_to : ℕ → Option ℕ → PassList → PassList
passed_to mutex None p = p
passed_to mutex (Some t) p = record p { passes = p.passes ++ (mutex, t) ∷ [] }

-- the answer of `take` of a thread, by who owns the mutex
abbrev pub took_of : ℕ → Option Taken → Took
took_of t None = Took.Free
took_of t (Some h) = if h.owner == t then (if nat_lt h.hold 255 then Took.Again else Took.HoldFull) else Took.Owned h.owner

abbrev pub passed_of : Option ℕ → Released
passed_of None = Released.Free
passed_of (Some t) = Released.Passed t

-- the answer of `release` of a thread, by who owns the mutex and its first waiter
abbrev pub released_of : ℕ → Option Taken → Option ℕ → Released
released_of t None first = Released.NotOwner None
released_of t (Some h) first = if h.owner == t then (if nat_lt 1 h.hold then Released.Held (h.hold - 1) else passed_of first) else Released.NotOwner (Some h.owner)

-- whether a thread has taken the mutex just once
abbrev pub is_last : ℕ → Option Taken → Bool
is_last t None = false
is_last t (Some h) = (h.owner == t) && not (nat_lt 1 h.hold)

-- another thread owns the mutex
abbrev pub IsOther : ℕ → Option ℕ → Type 0
IsOther t None = ⊥
IsOther t (Some owner) = owner ≢ t

-- how often a mutex was taken
abbrev pub hold_of : Option Taken → ℕ
hold_of None = 0
hold_of (Some h) = h.hold

-- after an edit there are as many places, and nobody who wasn't there before
pub record Keeps (before after : Ownership) : Type 0 where
  pub size : length before.members ≡ length after.members
  pub there : (t : ℕ) → has_thread after t ≡ true → has_thread before t ≡ true

-- the row of a thread in a mutex's wait list, where it waits there
abbrev pub row_in : Ownership → ℕ → ℕ → Option Waiter
row_in o mutex t = wait_row o mutex t (wait_of o t)

-- a waiter, or another one that it doesn't stand before
abbrev pub sooner_of : Waiter → Option Waiter → Waiter
sooner_of w None = w
sooner_of w (Some v) = if stands_before WaitOrder.Prio w v then w else v
