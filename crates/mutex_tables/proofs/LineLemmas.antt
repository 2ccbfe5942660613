-- The wait lists stand in the order of current priorities.
use Rattle.std.proofs.Common.{ℕ, zero, suc, ◌≡◌, ◌<◌, ◌+◌, arith, List, [], ◌∷◌, Option, Some, None, Bool, true, false, refl, sym, ap, ◌∙◌, subst, length, map, is_some}
use Rattle.std.specs.Prelude.{if◌then◌else◌}
use Rattle.std.specs.List.{AllByRecursion, range_with_len, filter_map, cons_option}
use Rattle.std.proofs.lemmas.Bool.{false≢true}
use Rattle.rt_base.specs.declared.codes.WaitOrder.{WaitOrder}
use Rattle.rt_plain.specs.declared.stmt.Call.{Call}
use Rattle.rt_plain.specs.kernel.State.{State, Thread, Stage, Waiting, InCall, thread_at, is_closed}
use Rattle.rt_plain.specs.kernel.Priority.{awaited_mutex, cur}
use Rattle.rt_plain.specs.kernel.Waiting.{Waiter, number_in, stands_before, put_in_order, in_order, threads_in_order, waiter_of, waiters}
use Rattle.kernel_tables.specs.Tabled.{waiter_with, base_waiter, line_of}
use Rattle.kernel_tables.specs.Threads.{row_at}
use Rattle.mutex_tie.proofs.WaiterLemmas.{filter_map-below}
use Rattle.mutex_tables.specs.declared.tables.MutexTables.TheInside.{Inside}
use Rattle.mutex_tables.specs.MutexTabled.{MutexTabled, plain_state}
use Rattle.mutex_tables.proofs.BaseLemmas.{length-based, based-stage}
use Rattle.mutex_tables.proofs.SeenLemmas.{view_of, Keeps, inside-cur}

waiter-cur : (s : State) (t prio : ℕ) (n : Option ℕ) → (is_some n ≡ true → prio ≡ cur s t) → waiter_with t prio n ≡ waiter_of s t n
waiter-cur s t prio None same = refl
waiter-cur s t prio (Some number) same = ap (λ p. Some (record { thread = t; prio = p; number = number })) (same refl)

number-open : (p : Call → Bool) (stage : Stage) → is_some (number_in p stage) ≡ true → is_closed stage ≡ false
number-open p (Waiting what number) is = refl
number-open p _ is = absurd (false≢true is)

-- a wait list, as the definitions have it
pub line-seen : (k : Inside) (v : MutexTabled) (order : WaitOrder) (p : Call → Bool) → view_of k ≡ v → Keeps k → line_of k.tables.threads order p ≡ waiters (plain_state v) order p
line-seen k v order p is keeps =
    ap (threads_in_order order) (filter_map-below (base_waiter k.tables.threads p) waiter 0 (length k.tables.threads) (λ t below. at t (omega (arith, below))))
    ∙ ap (λ n. threads_in_order order (filter_map waiter (range_with_len 0 n))) (sym (length-based k.bases.items k.tables.threads))
    ∙ ap (λ (x : MutexTabled). waiters (plain_state x) order p) is
  where
    s : State
    s = plain_state (view_of k)

    waiter : ℕ → Option Waiter
    waiter t = waiter_of s t (number_in p (thread_at s t).stage)

    at : (t : ℕ) → t < length k.tables.threads → base_waiter k.tables.threads p t ≡ waiter t
    at t there =
        let same : (row_at k.tables.threads t).stage ≡ (thread_at s t).stage = sym (based-stage k.bases.items k.tables.threads t) in
        ap (λ (x : Stage). waiter_with t (row_at k.tables.threads t).base (number_in p x)) same
        ∙ waiter-cur s t (row_at k.tables.threads t).base (number_in p (thread_at s t).stage)
        (λ some. inside-cur k (view_of k) t refl keeps (subst (λ n. t < n) (sym (length-based k.bases.items k.tables.threads)) there) (number-open p (thread_at s t).stage some))

-- who stands in a wait list waits in it

all-put : (P : Waiter → Type 0) (order : WaitOrder) (a : Waiter) (ws : List Waiter) → P a → AllByRecursion P ws → AllByRecursion P (put_in_order order a ws)
all-put P order a [] this all = (this, tt)
all-put P order a (b ∷ bs) this (that, all) = by_test (stands_before order a b) (all-put P order a bs this all)
  where
    by_test : (c : Bool) → AllByRecursion P (put_in_order order a bs) → AllByRecursion P (if c then a ∷ b ∷ bs else b ∷ put_in_order order a bs)
    by_test true rest = (this, (that, all))
    by_test false rest = (that, rest)

all-ordered : (P : Waiter → Type 0) (order : WaitOrder) (ws : List Waiter) → AllByRecursion P ws → AllByRecursion P (in_order order ws)
all-ordered P order [] all = tt
all-ordered P order (w ∷ ws) (this, all) = all-put P order w (in_order order ws) this (all-ordered P order ws all)

all-threads : (Q : ℕ → Type 0) (ws : List Waiter) → AllByRecursion (λ (w : Waiter). Q w.thread) ws → AllByRecursion Q (map (λ (w : Waiter). w.thread) ws)
all-threads Q [] all = tt
all-threads Q (w ∷ ws) (this, all) = (this, all-threads Q ws all)

-- a thread waits in a list
abbrev pub WaitsIn : List Thread → (Call → Bool) → ℕ → Type 0
WaitsIn threads p t = is_some (number_in p (row_at threads t).stage) ≡ true

all-waiting : (threads : List Thread) (p : Call → Bool) (a n : ℕ) → AllByRecursion (λ (w : Waiter). WaitsIn threads p w.thread) (filter_map (base_waiter threads p) (range_with_len a n))
all-waiting threads p a zero = tt
all-waiting threads p a (suc n) = by_number (number_in p (row_at threads a).stage) refl (all-waiting threads p (a + 1) n)
  where
    rest : List Waiter
    rest = filter_map (base_waiter threads p) (range_with_len (a + 1) n)

    by_number : (r : Option ℕ) → number_in p (row_at threads a).stage ≡ r → AllByRecursion (λ (w : Waiter). WaitsIn threads p w.thread) rest → AllByRecursion (λ (w : Waiter). WaitsIn threads p w.thread) (cons_option (waiter_with a (row_at threads a).base r) rest)
    by_number None is all = all
    by_number (Some number) is all = (ap is_some is, all)

pub line-waits : (threads : List Thread) (order : WaitOrder) (p : Call → Bool) → AllByRecursion (WaitsIn threads p) (line_of threads order p)
line-waits threads order p = all-threads (WaitsIn threads p) (in_order order rows) (all-ordered (λ (w : Waiter). WaitsIn threads p w.thread) order rows (all-waiting threads p 0 (length threads)))
  where
    rows : List Waiter
    rows = filter_map (base_waiter threads p) (range_with_len 0 (length threads))

-- a list in which nobody waits for a mutex
abbrev pub TakesNoMutex : (Call → Bool) → Type 0
TakesNoMutex p = (name : List ℕ) (timeout : Option ℕ) → p (Call.MutexTake name timeout) ≡ false

pub waits-apart : (p : Call → Bool) (stage : Stage) → TakesNoMutex p → is_some (number_in p stage) ≡ true → (is_closed stage ≡ false) × (awaited_mutex stage ≡ None)
waits-apart p (Waiting (InCall (Call.MutexTake name timeout)) number) none is = absurd (false≢true (ap (λ b. is_some (if b then Some number else None)) (sym (none name timeout)) ∙ is))
waits-apart p (Waiting what number) none is = (refl, refl)
waits-apart p _ none is = absurd (false≢true is)
