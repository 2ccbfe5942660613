-- A mutex is deleted, and its waiters wake one after the other.
use Rattle.std.proofs.Common.{ℕ, zero, suc, ◌≡◌, ◌≢◌, ◌<◌, ◌+◌, ◌++◌, ◌∷◌, [], arith, List, Option, Some, None, IfSome, Bool, true, false, not, ◌||◌, refl, sym, ap, ◌∙◌, subst, length, map, slice_index, eqb, ◌⊎◌, inl, inr}
use Rattle.std.specs.Prelude.{filter, find, ◌==◌, if◌then◌else◌}
use Rattle.std.specs.Option.{option_map}
use Rattle.std.specs.Str.{bytes_eq}
use Rattle.std.specs.List.{AllByRecursion, range_with_len, filter_map, cons_option}
use Rattle.std.proofs.lemmas.Bool.{eqb-true, eqb-false, ne_eqb, false≢true}
use Rattle.std.proofs.lemmas.List.{length-set}
use Rattle.std.proofs.lemmas.Option.{none-some}
use Rattle.rt_base.specs.declared.codes.Code.{Code}
use Rattle.rt_base.specs.declared.codes.WaitOrder.{WaitOrder}
use Rattle.rt_plain.specs.kernel.State.{State, Thread, Active, Mutex, is_closed, is_among}
use Rattle.rt_plain.specs.kernel.Sound.{is_active}
use Rattle.rt_plain.specs.kernel.Effects.{each_effect, wake_effect}
use Rattle.rt_plain.specs.kernel.Waiting.{Waiter, in_order, put_in_order, stands_before, takes_mutex, waiters}
use Rattle.rt_plain.specs.kernel.Priority.{awaited_mutex}
use Rattle.rt_plain.specs.kernel.DeleteCall.{deletion_outcome, mutex_deletion}
use Rattle.rt_plain.specs.kernel.Outcome.{found_outcome, refusal}
use Rattle.rt_plain.specs.kernel.Owners.{without_owner}
use Rattle.rt_plain.specs.kernel.Ownership.{MutexWait, Ownership, changes, cur_in, is_there, kill_mutex_edit, member_at, wait_of, wait_row, wait_rows_in, waiters_in}
use Rattle.object_box.specs.declared.object.Object.{Object}
use Rattle.object_box.specs.Objects.{ClassObjects, number_of, removed}
use Rattle.kernel_tables.specs.Tabled.{Tabled, woken_row}
use Rattle.kernel_tables.specs.Threads.{row_at, with_row}
use Rattle.mutex_chain.specs.Owners.{AreOwned}
use Rattle.mutex_chain.proofs.EditLemmas.{waiter_awaits}
use Rattle.mutex_tie.specs.Tie.{IsGraphOf, StandsFor, plain_mutex}
use Rattle.mutex_tie.specs.Changes.{new_curs}
use Rattle.mutex_tie.proofs.DeleteLemmas.{deletion-stands}
use Rattle.mutex_tie.proofs.TakeLemmas.{seen-mutex}
use Rattle.mutex_tie.proofs.WaiterLemmas.{waiters-tied}
use Rattle.mutex_tables.specs.declared.tables.MutexTables.TheInside.{Inside}
use Rattle.mutex_tables.specs.MutexTabled.{MutexTabled, based, plain_state, seen}
use Rattle.mutex_tables.specs.Moved.{moved_behind, renewed, roused}
use Rattle.mutex_tables.specs.Mutexes.{AreApart, AreOut, MayWake, MayWakeAll, followed, roused_all}
use Rattle.mutex_tables.proofs.BaseLemmas.{based-row, based-stage, length-based}
use Rattle.mutex_tables.proofs.SeenLemmas.{view_of, Keeps, inside-stands}
use Rattle.mutex_tables.proofs.RenewLemmas.{cur-below}
use Rattle.mutex_tables.proofs.FollowLemmas.{MayFollow, graph-there, follow-changes, follow-seen}
use Rattle.mutex_tables.proofs.RouseLemmas.{among-last, roused-based, roused-here, roused-other}
use Rattle.mutex_tables.proofs.WokenLemmas.{live-there}
use Rattle.mutex_tables.proofs.StopLemmas.{waiting-open}
use Rattle.mutex_tables.proofs.ReleaseLemmas.{awaits-stage, code-stage}

-- the waiters of a mutex are each listed once

abbrev threads_of : List Waiter → List ℕ
threads_of ws = map (λ (w : Waiter). w.thread) ws

or-swap : (a b c : Bool) → a || (b || c) ≡ b || (a || c)
or-swap true true c = refl
or-swap true false c = refl
or-swap false b c = refl

pub or-left : (a b : Bool) → a || b ≡ false → a ≡ false
or-left true b e = e
or-left false b e = refl

pub or-right : (a b : Bool) → a || b ≡ false → b ≡ false
or-right true b e = absurd (false≢true (sym e))
or-right false b e = e

among-put : (order : WaitOrder) (a : Waiter) (ws : List Waiter) (x : ℕ) → is_among (threads_of (put_in_order order a ws)) x ≡ eqb a.thread x || is_among (threads_of ws) x
among-put order a [] x = refl
among-put order a (b ∷ bs) x = by_test (stands_before order a b) (among-put order a bs x)
  where
    by_test : (c : Bool) → is_among (threads_of (put_in_order order a bs)) x ≡ eqb a.thread x || is_among (threads_of bs) x → is_among (threads_of (if c then a ∷ b ∷ bs else b ∷ put_in_order order a bs)) x ≡ eqb a.thread x || (eqb b.thread x || is_among (threads_of bs) x)
    by_test true rest = refl
    by_test false rest = ap (λ d. eqb b.thread x || d) rest ∙ or-swap (eqb b.thread x) (eqb a.thread x) (is_among (threads_of bs) x)

among-order : (order : WaitOrder) (ws : List Waiter) (x : ℕ) → is_among (threads_of (in_order order ws)) x ≡ is_among (threads_of ws) x
among-order order [] x = refl
among-order order (w ∷ ws) x = among-put order w (in_order order ws) x ∙ ap (λ d. eqb w.thread x || d) (among-order order ws x)

turned : (m n : ℕ) → eqb m n ≡ eqb n m
turned m n = grind arith

apart-put : (order : WaitOrder) (a : Waiter) (ws : List Waiter) → is_among (threads_of ws) a.thread ≡ false → AreApart (threads_of ws) → AreApart (threads_of (put_in_order order a ws))
apart-put order a [] out apart = (refl, tt)
apart-put order a (b ∷ bs) out (this, apart) = by_test (stands_before order a b) (apart-put order a bs (or-right (eqb b.thread a.thread) (is_among (threads_of bs) a.thread) out) apart)
  where
    by_test : (c : Bool) → AreApart (threads_of (put_in_order order a bs)) → AreApart (threads_of (if c then a ∷ b ∷ bs else b ∷ put_in_order order a bs))
    by_test true rest = (out, (this, apart))
    by_test false rest = (
      among-put order a bs b.thread
          ∙ ap (λ d. d || is_among (threads_of bs) b.thread) (turned a.thread b.thread ∙ or-left (eqb b.thread a.thread) (is_among (threads_of bs) a.thread) out)
          ∙ this,
      rest,
    )

apart-order : (order : WaitOrder) (ws : List Waiter) → AreApart (threads_of ws) → AreApart (threads_of (in_order order ws))
apart-order order [] apart = tt
apart-order order (w ∷ ws) (this, apart) = apart-put order w (in_order order ws) (among-order order ws w.thread ∙ this) (apart-order order ws apart)

abbrev OwnRows : (ℕ → Option Waiter) → Type 0
OwnRows h = (t : ℕ) → IfSome (h t) (λ (w : Waiter). w.thread ≡ t)

rows-later : (h : ℕ → Option Waiter) → OwnRows h → (a n x : ℕ) → x < a → is_among (threads_of (filter_map h (range_with_len a n))) x ≡ false
rows-later h own a zero x low = refl
rows-later h own a (suc n) x low = by_row (h a) (own a) (rows-later h own (a + 1) n x (omega (arith, low)))
  where
    by_row : (r : Option Waiter) → IfSome r (λ (w : Waiter). w.thread ≡ a) → is_among (threads_of (filter_map h (range_with_len (a + 1) n))) x ≡ false → is_among (threads_of (cons_option r (filter_map h (range_with_len (a + 1) n)))) x ≡ false
    by_row None is rest = rest
    by_row (Some w) is rest = ap (λ d. d || is_among (threads_of (filter_map h (range_with_len (a + 1) n))) x) (ne_eqb w.thread x (λ e. omega (arith, e, is, low))) ∙ rest

rows-apart : (h : ℕ → Option Waiter) → OwnRows h → (a n : ℕ) → AreApart (threads_of (filter_map h (range_with_len a n)))
rows-apart h own a zero = tt
rows-apart h own a (suc n) = by_row (h a) (own a) (rows-apart h own (a + 1) n)
  where
    by_row : (r : Option Waiter) → IfSome r (λ (w : Waiter). w.thread ≡ a) → AreApart (threads_of (filter_map h (range_with_len (a + 1) n))) → AreApart (threads_of (cons_option r (filter_map h (range_with_len (a + 1) n))))
    by_row None is rest = rest
    by_row (Some w) is rest = (rows-later h own (a + 1) n w.thread (omega (arith, is)), rest)

own-row : (o : Ownership) (i t : ℕ) → IfSome (wait_row o i t (wait_of o t)) (λ (w : Waiter). w.thread ≡ t)
own-row o i t = by_wait (wait_of o t)
  where
    by_test : (c : Bool) (number : ℕ) → IfSome (if c then Some (record { thread = t; prio = cur_in o t; number = number }) else None) (λ (w : Waiter). w.thread ≡ t)
    by_test true number = refl
    by_test false number = tt

    by_wait : (w : Option MutexWait) → IfSome (wait_row o i t w) (λ (x : Waiter). x.thread ≡ t)
    by_wait None = tt
    by_wait (Some w) = by_test (w.mutex == i) w.number

waiters-apart : (o : Ownership) (i : ℕ) → AreApart (waiters_in o i)
waiters-apart o i = apart-order WaitOrder.Prio (wait_rows_in o i) (rows-apart (λ t. wait_row o i t (wait_of o t)) (own-row o i) 0 (length o.members))

-- threads wake one after the other

pub all-among : (P : ℕ → Type 0) (ts : List ℕ) → ((t : ℕ) → is_among ts t ≡ true → P t) → AllByRecursion P ts
all-among P [] each = tt
all-among P (t ∷ ts) each = (each t here, all-among P ts (λ u among. each u (later u among)))
  where
    or-true : (b : Bool) → b || true ≡ true
    or-true true = refl
    or-true false = refl

    here : eqb t t || is_among ts t ≡ true
    here = let same : eqb t t ≡ true = grind arith in ap (λ b. b || is_among ts t) same

    later : (u : ℕ) → is_among ts u ≡ true → eqb t u || is_among ts u ≡ true
    later u among = ap (λ b. eqb t u || b) among ∙ or-true (eqb t u)

later-wakes : (k : Tabled) (p : Ownership) (code : Code) (t : ℕ) (ts : List ℕ) → is_among ts t ≡ false → AllByRecursion (MayWake k p) ts → AllByRecursion (MayWake (roused k t code (cur_in p t)) p) ts
later-wakes k p code t [] out all = tt
later-wakes k p code t (u ∷ us) out (this, all) = (
  record {
    there = omega (arith, this.there, length-set k.threads t (record (row_at k.threads t) { base = cur_in p t; code = code; stage = Active }));
    live = ap (λ (r : Thread). is_closed r.stage) (roused-other k t (cur_in p t) u code apart) ∙ this.live;
    idle = ap (λ (r : Thread). is_active r.stage) (roused-other k t (cur_in p t) u code apart) ∙ this.idle;
    unready = among-last k.ready t u (λ e. apart (sym e)) ∙ this.unready;
    level = this.level;
    member = this.member;
  },
  later-wakes k p code t us (or-right (eqb u t) (is_among us t) out) all,
)
  where
    apart : u ≢ t
    apart = eqb-false u t (or-left (eqb u t) (is_among us t) out)

-- whoever is left may wake
pub later-may : (k : Tabled) (p : Ownership) (code : Code) (t : ℕ) (ts : List ℕ) → MayWakeAll k p (t ∷ ts) → MayWakeAll (roused k t code (cur_in p t)) p ts
later-may k p code t ts may = record { all = later-wakes k p code t ts may.apart.0 may.all.1; apart = may.apart.1 }

pub roused-count : (k : Tabled) (p : Ownership) (code : Code) (ts : List ℕ) → length (roused_all k p code ts).threads ≡ length k.threads
roused-count k p code [] = refl
roused-count k p code (t ∷ ts) = roused-count (roused k t code (cur_in p t)) p code ts ∙ length-set k.threads t (record (row_at k.threads t) { base = cur_in p t; code = code; stage = Active })

pub roused-levels : (k : Tabled) (p : Ownership) (code : Code) (ts : List ℕ) → (roused_all k p code ts).levels ≡ k.levels
roused-levels k p code [] = refl
roused-levels k p code (t ∷ ts) = roused-levels (roused k t code (cur_in p t)) p code ts

-- nothing else changes
pub roused-rest : (k : Tabled) (p : Ownership) (code : Code) (ts : List ℕ) → roused_all k p code ts ≡ record k { threads = (roused_all k p code ts).threads; ready = (roused_all k p code ts).ready }
roused-rest k p code [] = refl
roused-rest k p code (t ∷ ts) = roused-rest (roused k t code (cur_in p t)) p code ts

-- nobody ends
one-lives : (k : Tabled) (p : Ownership) (code : Code) (t u : ℕ) → is_closed (row_at k.threads u).stage ≡ false → is_closed (row_at (roused k t code (cur_in p t)).threads u).stage ≡ false
one-lives k p code t u live = by_case (eqb u t) refl
  where
    by_case : (d : Bool) → eqb u t ≡ d → is_closed (row_at (roused k t code (cur_in p t)).threads u).stage ≡ false
    by_case true is = ap (λ x. is_closed (row_at (roused k t code (cur_in p t)).threads x).stage) (eqb-true u t is) ∙ ap (λ (r : Thread). is_closed r.stage) (roused-here k t (cur_in p t) code (live-there k.threads t (subst (λ x. is_closed (row_at k.threads x).stage ≡ false) (eqb-true u t is) live)))
    by_case false is = ap (λ (r : Thread). is_closed r.stage) (roused-other k t (cur_in p t) u code (eqb-false u t is)) ∙ live

pub all-live : (k : Tabled) (p : Ownership) (code : Code) (ts : List ℕ) (u : ℕ) → is_closed (row_at k.threads u).stage ≡ false → is_closed (row_at (roused_all k p code ts).threads u).stage ≡ false
all-live k p code [] u live = live
all-live k p code (t ∷ ts) u live = all-live (roused k t code (cur_in p t)) p code ts u (one-lives k p code t u live)

-- nobody that had ended is back
one-lived : (k : Tabled) (p : Ownership) (code : Code) (t u : ℕ) → is_closed (row_at k.threads t).stage ≡ false → is_closed (row_at (roused k t code (cur_in p t)).threads u).stage ≡ false → is_closed (row_at k.threads u).stage ≡ false
one-lived k p code t u this opens = by_case (eqb u t) refl
  where
    by_case : (d : Bool) → eqb u t ≡ d → is_closed (row_at k.threads u).stage ≡ false
    by_case true is = ap (λ x. is_closed (row_at k.threads x).stage) (eqb-true u t is) ∙ this
    by_case false is = ap (λ (r : Thread). is_closed r.stage) (sym (roused-other k t (cur_in p t) u code (eqb-false u t is))) ∙ opens

pub all-lived : (k : Tabled) (p : Ownership) (code : Code) (ts : List ℕ) (u : ℕ) → MayWakeAll k p ts → is_closed (row_at (roused_all k p code ts).threads u).stage ≡ false → is_closed (row_at k.threads u).stage ≡ false
all-lived k p code [] u may opens = opens
all-lived k p code (t ∷ ts) u may opens = one-lived k p code t u may.all.0.live (all-lived (roused k t code (cur_in p t)) p code ts u (later-may k p code t ts may) opens)

-- the threads and the ready list, as the definitions have them
abbrev pub AreThere : Tabled → List ℕ → Type 0
AreThere k ts = AllByRecursion (λ t. t < length k.threads) ts

pub later-there : (k : Tabled) (p : Ownership) (code : Code) (t : ℕ) (ts : List ℕ) → AreThere k ts → AreThere (roused k t code (cur_in p t)) ts
later-there k p code t [] all = tt
later-there k p code t (u ∷ us) (this, all) = (omega (arith, this, length-set k.threads t (record (row_at k.threads t) { base = cur_in p t; code = code; stage = Active })), later-there k p code t us all)

pub roused-rows : (bases : List ℕ) (k : Tabled) (p : Ownership) (code : Code) (ts : List ℕ) (s : State) → length bases ≡ length k.threads → AreThere k ts → based bases k.threads ≡ s.threads → based bases (roused_all k p code ts).threads ≡ (each_effect (wake_effect code) ts s).state.threads
roused-rows bases k p code [] s sized there rows = rows
roused-rows bases k p code (t ∷ ts) s sized (this, there) rows =
    roused-rows bases (roused k t code (cur_in p t)) p code ts (wake_effect code t s).state
    (sized ∙ sym (length-set k.threads t (record (row_at k.threads t) { base = cur_in p t; code = code; stage = Active })))
    (later-there k p code t ts there)
    (roused-based bases k t (cur_in p t) code sized this ∙ ap (λ (rs : List Thread). with_row rs t (woken_row code)) rows ∙ sym (code-stage s.threads t code))

pub roused-ready : (k : Tabled) (p : Ownership) (code : Code) (ts : List ℕ) (s : State) → k.ready ≡ s.ready → (roused_all k p code ts).ready ≡ (each_effect (wake_effect code) ts s).state.ready
roused-ready k p code [] s ready = ready
roused-ready k p code (t ∷ ts) s ready = roused-ready (roused k t code (cur_in p t)) p code ts (wake_effect code t s).state (ap (λ (xs : List ℕ). xs ++ t ∷ []) ready)

-- the priorities of the lists
abbrev pub Near : List ℕ → Tabled → Ownership → Ownership → Type 0
Near before k o p = (u : ℕ) → u < length k.threads → is_closed (row_at k.threads u).stage ≡ false
    → (((row_at k.threads u).base ≡ cur_in o u) × (is_among k.ready u ≡ is_among before u)) ⊎ (((row_at k.threads u).base ≡ cur_in p u) × (is_among before u ≡ false))

one-near : (before : List ℕ) (k : Tabled) (o p : Ownership) (code : Code) (t : ℕ) → Near before k o p → MayWake k p t → is_among before t ≡ false → Near before (roused k t code (cur_in p t)) o p
one-near before k o p code t near may out u low opens = by_case (eqb u t) refl
  where
    new : Tabled
    new = roused k t code (cur_in p t)

    size : length (roused k t code (cur_in p t)).threads ≡ length k.threads
    size = length-set k.threads t (record (row_at k.threads t) { base = cur_in p t; code = code; stage = Active })

    moved : u ≢ t → (((row_at k.threads u).base ≡ cur_in o u) × (is_among k.ready u ≡ is_among before u)) ⊎ (((row_at k.threads u).base ≡ cur_in p u) × (is_among before u ≡ false))
        → (((row_at (roused k t code (cur_in p t)).threads u).base ≡ cur_in o u) × (is_among (roused k t code (cur_in p t)).ready u ≡ is_among before u)) ⊎ (((row_at (roused k t code (cur_in p t)).threads u).base ≡ cur_in p u) × (is_among before u ≡ false))
    moved apart (inl (base, among)) = inl (ap (λ (r : Thread). r.base) (roused-other k t (cur_in p t) u code apart) ∙ base, among-last k.ready t u (λ e. apart (sym e)) ∙ among)
    moved apart (inr (base, among)) = inr (ap (λ (r : Thread). r.base) (roused-other k t (cur_in p t) u code apart) ∙ base, among)

    by_case : (d : Bool) → eqb u t ≡ d
        → (((row_at (roused k t code (cur_in p t)).threads u).base ≡ cur_in o u) × (is_among (roused k t code (cur_in p t)).ready u ≡ is_among before u)) ⊎ (((row_at (roused k t code (cur_in p t)).threads u).base ≡ cur_in p u) × (is_among before u ≡ false))
    by_case true is =
        let same : t ≡ u = sym (eqb-true u t is) in
        inr (subst (λ x. (row_at (roused k t code (cur_in p t)).threads x).base ≡ cur_in p x) same (ap (λ (r : Thread). r.base) (roused-here k t (cur_in p t) code may.there)), subst (λ x. is_among before x ≡ false) same out)
    by_case false is = moved (eqb-false u t is) (near u (omega (arith, low, size)) (one-lived k p code t u may.live opens))

pub all-near : (before : List ℕ) (k : Tabled) (o p : Ownership) (code : Code) (ts : List ℕ) → Near before k o p → MayWakeAll k p ts → AllByRecursion (λ t. is_among before t ≡ false) ts → Near before (roused_all k p code ts) o p
all-near before k o p code [] near may out = near
all-near before k o p code (t ∷ ts) near may (this, out) = all-near before (roused k t code (cur_in p t)) o p code ts (one-near before k o p code t near may.all.0 this) (later-may k p code t ts may) out

pub unready-all : (k : Tabled) (p : Ownership) (ts : List ℕ) → AllByRecursion (MayWake k p) ts → AllByRecursion (λ t. is_among k.ready t ≡ false) ts
unready-all k p [] all = tt
unready-all k p (t ∷ ts) (this, all) = (this.unready, unready-all k p ts all)

-- the lists may follow where threads have woken
pub woken-follows : (k : Inside) (c : ClassObjects) (p : Ownership) (code : Code) (ts : List ℕ) → Keeps k → MayWakeAll k.tables p ts → IsGraphOf (based k.bases.items (roused_all k.tables p code ts).threads) c p
    → MayFollow k.tables.ready (roused_all k.tables p code ts) k.bases.items c k.graph p
woken-follows k c p code ts keeps may graph = record {
  sized = keeps.sized ∙ sym (roused-count k.tables p code ts);
  levels = λ u low. subst (λ n. slice_index k.bases.items u < n) (sym (roused-levels k.tables p code ts)) (keeps.levels u low);
  graph = graph;
  near = all-near k.tables.ready k.tables k.graph p code ts (λ u low opens. inl (keeps.current u low opens, refl)) may (unready-all k.tables p ts may.all);
  was = λ u low opens. graph-there k.tables k.bases.items k.names.mutex k.graph u keeps.graph ∙ ap not (all-lived k.tables p code ts u may opens);
}

-- a mutex is deleted

module _ (k : Inside) (v : MutexTabled) (name : List ℕ) (i : ℕ) (is : view_of k ≡ v) (keeps : Keeps k) (out : AreOut v) (owned : AreOwned k.graph) (found : number_of k.names.mutex.objects name ≡ Some i) where
  abbrev pub deleted : State
  deleted = (mutex_deletion name (plain_state (view_of k))).effect.state

  abbrev pub killed : Ownership
  killed = kill_mutex_edit i k.graph

  abbrev pub waking : List ℕ
  waking = waiters_in k.graph i

  abbrev pub awake : Tabled
  awake = roused_all k.tables killed Code.Error waking

  stands : StandsFor deleted (removed k.names.mutex i) killed
  stands = deletion-stands (plain_state (view_of k)) k.names.mutex k.graph name i (inside-stands k keeps) owned found

  pub waking-is : waiters (plain_state v) WaitOrder.Prio (takes_mutex name) ≡ waking
  waking-is = ap (λ (x : MutexTabled). waiters (plain_state x) WaitOrder.Prio (takes_mutex name)) (sym is) ∙ waiters-tied (plain_state (view_of k)) k.names.mutex k.graph name i (inside-stands k keeps) found

  -- the state without the mutex and its owner, in which the waiters wake
  abbrev gone : State
  gone = record (without_owner (plain_state (view_of k)) name) { mutexes = filter (λ (m : Mutex). not (bytes_eq m.name name)) (plain_state (view_of k)).mutexes }

  deleted-is : deleted ≡ (each_effect (wake_effect Code.Error) waking gone).state
  deleted-is =
      ap (λ (r : Option Mutex). (found_outcome r (refusal (plain_state (view_of k)) Code.Inval) (λ mutex. deletion_outcome (record (without_owner (plain_state (view_of k)) name) { mutexes = filter (λ (m : Mutex). not (bytes_eq m.name name)) (plain_state (view_of k)).mutexes }) (waiters (plain_state (view_of k)) WaitOrder.Prio (takes_mutex name)))).effect.state) (seen-mutex k.graph.ceilings k.names.mutex.objects name)
      ∙ by_found (find (λ (x : Object). bytes_eq x.name name) k.names.mutex.objects) found
      ∙ ap (λ (ts : List ℕ). (each_effect (wake_effect Code.Error) ts (record (without_owner (plain_state (view_of k)) name) { mutexes = filter (λ (m : Mutex). not (bytes_eq m.name name)) (plain_state (view_of k)).mutexes })).state) (waiters-tied (plain_state (view_of k)) k.names.mutex k.graph name i (inside-stands k keeps) found)
    where
      by_found : (r : Option Object) → option_map (λ (x : Object). x.no) r ≡ Some i
          → (found_outcome (option_map (plain_mutex k.graph.ceilings) r) (refusal (plain_state (view_of k)) Code.Inval) (λ mutex. deletion_outcome (record (without_owner (plain_state (view_of k)) name) { mutexes = filter (λ (m : Mutex). not (bytes_eq m.name name)) (plain_state (view_of k)).mutexes }) (waiters (plain_state (view_of k)) WaitOrder.Prio (takes_mutex name)))).effect.state
          ≡ (each_effect (wake_effect Code.Error) (waiters (plain_state (view_of k)) WaitOrder.Prio (takes_mutex name)) (record (without_owner (plain_state (view_of k)) name) { mutexes = filter (λ (m : Mutex). not (bytes_eq m.name name)) (plain_state (view_of k)).mutexes })).state
      by_found None e = absurd (none-some i e)
      by_found (Some x) e = refl

  -- each waiter is there, hasn't ended, and is neither active nor ready
  some : (t : ℕ) → is_among waking t ≡ true → awaited_mutex (row_at (view_of k).threads t).stage ≢ None
  some t among = awaits-stage k t i keeps (waiter_awaits k.graph i t among)

  stage : (t : ℕ) → (row_at (view_of k).threads t).stage ≡ (row_at k.tables.threads t).stage
  stage t = based-stage k.bases.items k.tables.threads t

  live : (t : ℕ) → is_among waking t ≡ true → is_closed (row_at k.tables.threads t).stage ≡ false
  live t among = ap is_closed (sym (stage t)) ∙ (waiting-open (row_at (view_of k).threads t).stage (some t among)).0

  there : (t : ℕ) → is_among waking t ≡ true → t < length k.tables.threads
  there t among = live-there k.tables.threads t (live t among)

  rows : based k.bases.items awake.threads ≡ deleted.threads
  rows = roused-rows k.bases.items k.tables killed Code.Error waking gone keeps.sized (all-among (λ t. t < length k.tables.threads) waking there) refl ∙ sym (ap (λ (s : State). s.threads) deleted-is)

  ready : awake.ready ≡ deleted.ready
  ready = roused-ready k.tables killed Code.Error waking gone refl ∙ sym (ap (λ (s : State). s.ready) deleted-is)

  graph : IsGraphOf (based k.bases.items awake.threads) (removed k.names.mutex i) killed
  graph = subst (λ (rs : List Thread). IsGraphOf rs (removed k.names.mutex i) killed) (sym rows) stands.owned

  size : length awake.threads ≡ length k.tables.threads
  size = roused-count k.tables killed Code.Error waking

  member : (t : ℕ) → is_among waking t ≡ true → is_there (member_at killed t) ≡ true
  member t among = graph-there awake k.bases.items (removed k.names.mutex i) killed t graph ∙ ap not (all-live k.tables killed Code.Error waking t (live t among))

  level : (t : ℕ) → is_among waking t ≡ true → cur_in killed t < k.tables.levels
  level t among =
      let low : t < length awake.threads = omega (arith, there t among, size) in
      let base : (row_at (based k.bases.items awake.threads) t).base < k.tables.levels = subst (λ (r : Thread). r.base < k.tables.levels) (sym (based-row k.bases.items awake.threads t (keeps.sized ∙ sym size) low)) (keeps.levels t (omega (arith, there t among, keeps.sized))) in
      cur-below (based k.bases.items awake.threads) (removed k.names.mutex i) killed t k.tables.levels graph (omega (arith, low, length-based k.bases.items awake.threads)) (member t among) base

  may_one : (t : ℕ) → is_among waking t ≡ true → MayWake k.tables killed t
  may_one t among = record {
    there = there t among;
    live = live t among;
    idle = ap is_active (sym (stage t)) ∙ (waiting-open (row_at (view_of k).threads t).stage (some t among)).1;
    unready = subst (λ (x : MutexTabled). AreOut x) (sym is) out t (some t among);
    level = level t among;
    member = member t among;
  }

  pub deleted-may : MayWakeAll k.tables killed waking
  deleted-may = record { all = all-among (MayWake k.tables killed) waking may_one; apart = waiters-apart k.graph i }

  pub deleted-follows : MayFollow k.tables.ready awake k.bases.items (removed k.names.mutex i) k.graph killed
  deleted-follows = woken-follows k (removed k.names.mutex i) killed Code.Error waking keeps deleted-may graph

  pub deleted-seen : seen (renewed awake (changes k.graph killed)) k.bases.items (removed k.names.mutex i) killed ≡ followed v (mutex_deletion name (plain_state v)).effect.state (changes k.graph killed)
  deleted-seen =
      follow-seen k.tables.ready awake k.bases.items (removed k.names.mutex i) k.graph killed deleted-follows
      ∙ ap (λ (x : Tabled). record (seen x k.bases.items (removed k.names.mutex i) killed) { ready = moved_behind k.tables.ready (changes k.graph killed) x.ready }) (roused-rest k.tables killed Code.Error waking)
      ∙ (λ j. record (view_of k) { threads = rows j; mutexes = sym stands.mutexes j; holdings = sym stands.holdings j; ready = moved_behind k.tables.ready (changes k.graph killed) (ready j) })
      ∙ ap (λ (x : MutexTabled). followed x (mutex_deletion name (plain_state x)).effect.state (changes k.graph killed)) is

  pub deleted-changes : changes k.graph killed ≡ new_curs (plain_state v) (plain_state (seen (renewed awake (changes k.graph killed)) k.bases.items (removed k.names.mutex i) killed))
  deleted-changes =
      follow-changes k v awake k.bases.items (removed k.names.mutex i) killed is keeps
      (subst (λ (xs : List ℕ). MayFollow xs awake k.bases.items (removed k.names.mutex i) k.graph killed) (ap (λ (x : MutexTabled). x.ready) is) deleted-follows)
      size (λ u opens. all-lived k.tables killed Code.Error waking u deleted-may opens)
