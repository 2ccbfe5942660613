-- The waiters of a mutex in their order are the rows of their threads.
use Rattle.std.proofs.Common.{ℕ, ◌≡◌, ◌+◌, ◌<◌, ◌≤◌, zero, suc, List, [], ◌∷◌, length, map, Bool, true, false, cond, Option, Some, None, refl, sym, ap, ◌∙◌, ◌⊎◌, inl, inr}
use Rattle.std.specs.Prelude.{◌==◌, All}
use Rattle.std.specs.List.{filter_map, range_with_len, cons_option}
use Rattle.std.specs.Option.{option_and_then}
use Rattle.std.proofs.lemmas.Option.{none-some}
use Rattle.std.proofs.lemmas.Bool.{cases_lt}
use Rattle.std.proofs.lemmas.List.{get_or_past}
use Rattle.std.proofs.lemmas.List.Elements.{All-nil, All-cons}
use Rattle.rt_base.specs.declared.codes.WaitOrder.{WaitOrder}
use Rattle.rt_plain.specs.kernel.Waiting.{Waiter, stands_before, put_in_order, in_order}
use Rattle.rt_plain.specs.kernel.Ownership.{Ownership, Member, MutexWait, wait_of, wait_row, waiters_in, wait_rows_in, cur_in}
use Rattle.mutex_chain.specs.Graph.{row_in}

-- each of these waiters is the row of its thread
abbrev pub AreRows : Ownership → ℕ → List Waiter → Type 0
AreRows o mutex [] = Unit {0}
AreRows o mutex (w ∷ ws) = (row_in o mutex w.thread ≡ Some w) × AreRows o mutex ws

rows_put : (o : Ownership) (mutex : ℕ) (w : Waiter) (ws : List Waiter) → row_in o mutex w.thread ≡ Some w → AreRows o mutex ws → AreRows o mutex (put_in_order WaitOrder.Prio w ws)
rows_put o mutex w [] e rs = (e, tt)
rows_put o mutex w (v ∷ vs) e rs = by_test (stands_before WaitOrder.Prio w v) (rows_put o mutex w vs e rs.1)
  where
    by_test : (b : Bool) → AreRows o mutex (put_in_order WaitOrder.Prio w vs) → AreRows o mutex (cond b (w ∷ v ∷ vs) (v ∷ put_in_order WaitOrder.Prio w vs))
    by_test true r = (e, rs)
    by_test false r = (rs.0, r)

pub row_thread : (o : Ownership) (mutex t : ℕ) (w : Waiter) → row_in o mutex t ≡ Some w → w.thread ≡ t
row_thread o mutex t w e = by_wait (wait_of o t) e
  where
    by_test : (number : ℕ) (b : Bool) → cond b (Some (record { thread = t; prio = cur_in o t; number = number })) None ≡ Some w → w.thread ≡ t
    by_test number true at = let row : record { thread = t; prio = cur_in o t; number = number } ≡ w = cc in sym (ap (λ (x : Waiter). x.thread) row)
    by_test number false at = absurd (none-some w at)

    by_wait : (wait : Option MutexWait) → wait_row o mutex t wait ≡ Some w → w.thread ≡ t
    by_wait None at = absurd (none-some w at)
    by_wait (Some wait) at = by_test wait.number (wait.mutex == mutex) at

row_within : (o : Ownership) (mutex t : ℕ) (w : Waiter) → row_in o mutex t ≡ Some w → t < length o.members
row_within o mutex t w e = by_size (cases_lt t (length o.members))
  where
    by_size : (t < length o.members) ⊎ (length o.members ≤ t) → t < length o.members
    by_size (inl h) = h
    by_size (inr h) = absurd (none-some w (sym (ap (λ m. wait_row o mutex t (option_and_then (λ (m : Member). m.wait) m)) (get_or_past o.members t None h)) ∙ e))

pub rows_are : (o : Ownership) (mutex t n : ℕ) → AreRows o mutex (in_order WaitOrder.Prio (filter_map (row_in o mutex) (range_with_len t n)))
rows_are o mutex t zero = tt
rows_are o mutex t (suc n) = by_row (row_in o mutex t) refl (rows_are o mutex (t + 1) n)
  where
    by_row : (r : Option Waiter) → row_in o mutex t ≡ r → AreRows o mutex (in_order WaitOrder.Prio (filter_map (row_in o mutex) (range_with_len (t + 1) n)))
        → AreRows o mutex (in_order WaitOrder.Prio (cons_option r (filter_map (row_in o mutex) (range_with_len (t + 1) n))))
    by_row None e rs = rs
    by_row (Some w) e rs =
        rows_put o mutex w (in_order WaitOrder.Prio (filter_map (row_in o mutex) (range_with_len (t + 1) n))) (ap (row_in o mutex) (row_thread o mutex t w e) ∙ e) rs

threads_within : (o : Ownership) (mutex : ℕ) (ws : List Waiter) → AreRows o mutex ws → All (λ t. t < length o.members) (map (λ w. w.thread) ws)
threads_within o mutex [] rs = All-nil (λ (t : ℕ). t < length o.members)
threads_within o mutex (w ∷ ws) rs =
    All-cons (λ (t : ℕ). t < length o.members) w.thread (map (λ w. w.thread) ws) (row_within o mutex w.thread w rs.0) (threads_within o mutex ws rs.1)

pub waiters_within : (o : Ownership) (mutex : ℕ) → All (λ t. t < length o.members) (waiters_in o mutex)
waiters_within o mutex = threads_within o mutex (in_order WaitOrder.Prio (wait_rows_in o mutex)) (rows_are o mutex 0 (length o.members))
