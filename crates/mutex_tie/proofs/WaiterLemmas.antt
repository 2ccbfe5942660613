-- Who waits on a mutex, and in which order, by names as by numbers.
use Rattle.std.proofs.Common.{ℕ, ◌≡◌, ◌+◌, ◌<◌, zero, suc, List, Option, Some, None, Bool, true, false, refl, sym, ap, ◌∙◌, arith, eqb, length, ◌⊎◌, inl, inr}
use Rattle.std.specs.Prelude.{◌==◌, if◌then◌else◌}
use Rattle.std.specs.List.{range_with_len, filter_map, cons_option}
use Rattle.std.proofs.lemmas.Bool.{false≢true, cases_Bool}
use Rattle.rt_base.specs.declared.codes.WaitOrder.{WaitOrder}
use Rattle.rt_plain.specs.declared.stmt.Call.{Call}
use Rattle.rt_plain.specs.kernel.State.{State, Stage, Waiting, InCall, thread_at, is_closed, is_number}
use Rattle.rt_plain.specs.kernel.Priority.{cur}
use Rattle.rt_plain.specs.kernel.Waiting.{Waiter, waiters, first_waiter, first_of, threads_in_order, wait_rows, waiter_of, number_in, takes_mutex}
use Rattle.rt_plain.specs.kernel.Ownership.{Ownership, MutexWait, wait_of, cur_in, wait_row, wait_rows_in, waiters_in, first_in}
use Rattle.object_box.specs.declared.object.Object.{Object}
use Rattle.object_box.specs.Objects.{ClassObjects, number_of}
use Rattle.mutex_tie.specs.Tie.{wait_in, wait_for, StandsFor}
use Rattle.mutex_tie.proofs.NameLemmas.{NamesApart, NumbersApart, same-name}
use Rattle.mutex_tie.proofs.HoldingLemmas.{wait-tied}
use Rattle.mutex_tie.proofs.CurLemmas.{cur-tied, is_ended, closed-waits, members-length}

-- who waits on a mutex, in which order

pub filter_map-below : {B : Type 0} (f g : ℕ → Option B) (a n : ℕ) → ((t : ℕ) → t < a + n → f t ≡ g t) → filter_map f (range_with_len a n) ≡ filter_map g (range_with_len a n)
filter_map-below f g a zero same = refl
filter_map-below f g a (suc n) same = ap (λ o. cons_option o (filter_map f (range_with_len (a + 1) n))) (same a (omega arith)) ∙ ap (cons_option (g a)) (filter_map-below f g (a + 1) n (λ t below. same t (omega (arith, below))))

abbrev waiter_by : ℕ → ℕ → Option ℕ → Option Waiter
waiter_by t prio None = None
waiter_by t prio (Some number) = Some (record { thread = t; prio = prio; number = number })

by-prio : (s : State) (t : ℕ) (n : Option ℕ) → waiter_of s t n ≡ waiter_by t (cur s t) n
by-prio s t None = refl
by-prio s t (Some n) = refl

abbrev wait_with : ℕ → ℕ → ℕ → Option MutexWait → Option Waiter
wait_with mutex t prio None = None
wait_with mutex t prio (Some w) = if w.mutex == mutex then Some (record { thread = t; prio = prio; number = w.number }) else None

by-wait : (o : Ownership) (mutex t : ℕ) (w : Option MutexWait) → wait_row o mutex t w ≡ wait_with mutex t (cur_in o t) w
by-wait o mutex t None = refl
by-wait o mutex t (Some w) = refl

turn-number : (i : ℕ) (o : Option ℕ) (t prio number : ℕ) → waiter_by t prio (if is_number i o then Some number else None) ≡ wait_with i t prio (wait_for number o)
turn-number i None t prio number = refl
turn-number i (Some j) t prio number = ap (λ d. waiter_by t prio (if d then Some number else None)) (turn i j) ∙ by_test (eqb j i)
  where
    turn : (m n : ℕ) → eqb m n ≡ eqb n m
    turn m n = grind arith

    by_test : (d : Bool) → waiter_by t prio (if d then Some number else None) ≡ (if d then Some (record { thread = t; prio = prio; number = number }) else None)
    by_test true = refl
    by_test false = refl

stage-waits : (xs : List Object) (name : List ℕ) (i t prio : ℕ) (stage : Stage) → NamesApart xs → NumbersApart xs → number_of xs name ≡ Some i → waiter_by t prio (number_in (takes_mutex name) stage) ≡ wait_with i t prio (wait_in xs stage)
stage-waits xs name i t prio (Waiting (InCall (Call.MutexTake other timeout)) number) names numbers is =
    ap (λ d. waiter_by t prio (if d then Some number else None)) (same-name xs other name i names numbers is) ∙ turn-number i (number_of xs other) t prio number
stage-waits xs name i t prio _ names numbers is = refl

pub waiting-none : (in_list : Call → Bool) (stage : Stage) → (is_closed stage ≡ true) → number_in in_list stage ≡ None
waiting-none in_list (Waiting what number) is = absurd (false≢true is)
waiting-none in_list _ is = refl

pub rows-tied : (s : State) (c : ClassObjects) (o : Ownership) (name : List ℕ) (i : ℕ) → StandsFor s c o → number_of c.objects name ≡ Some i → wait_rows s (takes_mutex name) ≡ wait_rows_in o i
rows-tied s c o name i tie is =
    filter_map-below (λ t. waiter_of s t (number_in (takes_mutex name) (thread_at s t).stage)) (λ t. wait_row o i t (wait_of o t)) 0 (length s.threads) (λ t below. at t (omega (arith, below)) (cases_Bool (is_ended s t)))
    ∙ ap (λ n. filter_map (λ t. wait_row o i t (wait_of o t)) (range_with_len 0 n)) (sym (members-length s c o tie))
  where
    stays : (t prio : ℕ) → waiter_by t prio (number_in (takes_mutex name) (thread_at s t).stage) ≡ wait_with i t prio (wait_of o t)
    stays t prio = stage-waits c.objects name i t prio (thread_at s t).stage tie.owned.sound.names tie.owned.sound.numbers is ∙ ap (wait_with i t prio) (sym (wait-tied s c o t tie))

    at : (t : ℕ) → t < length s.threads → (is_ended s t ≡ true) ⊎ (is_ended s t ≡ false) → waiter_of s t (number_in (takes_mutex name) (thread_at s t).stage) ≡ wait_row o i t (wait_of o t)
    at t low (inl gone) =
        ap (waiter_of s t) (waiting-none (takes_mutex name) (thread_at s t).stage gone)
        ∙ sym (ap (wait_row o i t) (wait-tied s c o t tie ∙ closed-waits c.objects (thread_at s t).stage gone))
    at t low (inr live) =
        by-prio s t (number_in (takes_mutex name) (thread_at s t).stage)
        ∙ ap (λ prio. waiter_by t prio (number_in (takes_mutex name) (thread_at s t).stage)) (cur-tied s c o t tie low live)
        ∙ stays t (cur_in o t)
        ∙ sym (by-wait o i t (wait_of o t))

-- the waiters of a mutex are those of the graph, in its order
pub waiters-tied : (s : State) (c : ClassObjects) (o : Ownership) (name : List ℕ) (i : ℕ) → StandsFor s c o → number_of c.objects name ≡ Some i → waiters s WaitOrder.Prio (takes_mutex name) ≡ waiters_in o i
waiters-tied s c o name i tie is = ap (threads_in_order WaitOrder.Prio) (rows-tied s c o name i tie is)

pub first-tied : (s : State) (c : ClassObjects) (o : Ownership) (name : List ℕ) (i : ℕ) → StandsFor s c o → number_of c.objects name ≡ Some i → first_waiter s WaitOrder.Prio (takes_mutex name) ≡ first_in o i
first-tied s c o name i tie is = ap (first_of WaitOrder.Prio) (rows-tied s c o name i tie is)
