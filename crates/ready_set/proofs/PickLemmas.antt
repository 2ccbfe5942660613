-- The thread to run next, by the least level with a thread of each binding.
use Rattle.std.proofs.Common.{ℕ, ◌≡◌, ◌+◌, ◌*◌, ◌<◌, ◌≤◌, zero, suc, Bool, true, false, cond, eqb, ltb, not, ◌&&◌, ◌||◌, List, [], ◌∷◌, length, filter, Option, Some, None, is_some, slice_get, get_or, sym, refl, ap, ◌∙◌, subst, inl, inr, ◌⊎◌, arith}
use Rattle.std.specs.List.{All, list_any, find}
use Rattle.std.specs.Option.{option_map, IfSome, IfNone}
use Rattle.std.proofs.lemmas.List.Elements.{All-head, All-tail, All-filter, filter_passes}
use Rattle.std.proofs.lemmas.Bool.{false≢true, or_left, or_right, and_from, and_left, and_right, eqb-true, eq-eqb, ne_eqb, lt-ltb, le-ltb, ltb-true, ltb-false, cond-true, cond-false, cases_lt, cases_Bool, false_from_ne_true}
use Rattle.rt_plain.specs.kernel.Pick.{ReadyRow, is_free_for, goes_before, first_best, pick_among, is_bound_so, is_in_queue, ready_queue}
use Rattle.rt_base.specs.Chains.{is_among}
use Rattle.ready_set.specs.Links.{is_queued, occupied, Queued}
use Rattle.ready_set.specs.Levels.{Bitmaps, IsLeastLevel, HasNoLevel}
use Rattle.ready_set.specs.ReadyLists.{ReadyView, binding_place, queue_place, queue_of, IsBinding, StandsForRows, chosen, IsReadySet}
use Rattle.ready_set.proofs.RowLemmas.{threads_of, bound_same, from_in_queue, binding_below, filter_yes, filter_no}

-- ---- the first best of rows

-- how a row compares with those of priority p that are bound (kb) or not
abbrev pub Follows : ℕ → Bool → ReadyRow → Type 0
Follows p kb r = (p < r.prio) ⊎ ((p ≡ r.prio) × ((kb ≡ true) ⊎ (is_some r.core ≡ kb)))

and_not_self : (b : Bool) → (b && not b) ≡ false
and_not_self true = refl
and_not_self false = refl

or_from_false : (x y : Bool) → x ≡ false → y ≡ false → (x || y) ≡ false
or_from_false x y ex ey = ap (λ b. b || y) ex ∙ ey

-- what follows doesn't go before
not_before : (p : ℕ) (kb : Bool) (a r : ReadyRow) → a.prio ≡ p → is_some a.core ≡ kb → Follows p kb r → goes_before r a ≡ false
not_before p kb a r ep ek (inl less) =
    or_from_false (ltb r.prio a.prio) (eqb r.prio a.prio && (is_some r.core && not (is_some a.core)))
    (le-ltb r.prio a.prio (omega (arith, ep, less)))
    (and_left (eqb r.prio a.prio) (is_some r.core && not (is_some a.core)) (ne_eqb r.prio a.prio (λ e. omega (arith, e, ep, less))))
not_before p kb a r ep ek (inr (same, inl bound)) =
    or_from_false (ltb r.prio a.prio) (eqb r.prio a.prio && (is_some r.core && not (is_some a.core)))
    (le-ltb r.prio a.prio (omega (arith, ep, same)))
    (and_right (eqb r.prio a.prio) (is_some r.core && not (is_some a.core)) (and_right (is_some r.core) (not (is_some a.core)) (ap not (ek ∙ bound))))
not_before p kb a r ep ek (inr (same, inr alike)) =
    or_from_false (ltb r.prio a.prio) (eqb r.prio a.prio && (is_some r.core && not (is_some a.core)))
    (le-ltb r.prio a.prio (omega (arith, ep, same)))
    (and_right (eqb r.prio a.prio) (is_some r.core && not (is_some a.core)) (ap (λ b. is_some r.core && not b) (ek ∙ sym alike) ∙ and_not_self (is_some r.core)))

-- and unless it is alike, it is gone before
gone_before : (p : ℕ) (kb : Bool) (a r : ReadyRow) → a.prio ≡ p → is_some a.core ≡ kb → Follows p kb r → ((r.prio ≡ p) × (is_some r.core ≡ kb) → ⊥) → goes_before a r ≡ true
gone_before p kb a r ep ek (inl less) apart =
    or_left (ltb a.prio r.prio) (eqb a.prio r.prio && (is_some a.core && not (is_some r.core))) (lt-ltb a.prio r.prio (omega (arith, ep, less)))
gone_before p kb a r ep ek (inr (same, inl bound)) apart =
    or_right (ltb a.prio r.prio) (eqb a.prio r.prio && (is_some a.core && not (is_some r.core)))
    (and_from (eqb a.prio r.prio) (is_some a.core && not (is_some r.core)) (eq-eqb a.prio r.prio (ep ∙ same))
    (and_from (is_some a.core) (not (is_some r.core)) (ek ∙ bound)
    (ap not (false_from_ne_true (is_some r.core) (λ e. apart (sym same, e ∙ sym bound))))))
gone_before p kb a r ep ek (inr (same, inr alike)) apart = absurd (apart (sym same, alike))

-- ---- finding

find_agree : (P Q : ReadyRow → Bool) (rows : List ReadyRow) → All (λ r. P r ≡ Q r) rows → find P rows ≡ find Q rows
find_agree P Q [] h = refl
find_agree P Q (r ∷ rows) h =
    ap (λ b. cond b (Some r) (find P rows)) (All-head (λ a. P a ≡ Q a) r rows h)
    ∙ ap (λ o. cond (Q r) (Some r) o) (find_agree P Q rows (All-tail (λ a. P a ≡ Q a) r rows h))

any_none : (P : ReadyRow → Bool) (rows : List ReadyRow) → All (λ r. P r ≡ false) rows → list_any P rows ≡ false
any_none P [] h = refl
any_none P (r ∷ rows) h =
    or_from_false (P r) (list_any P rows) (All-head (λ a. P a ≡ false) r rows h) (any_none P rows (All-tail (λ a. P a ≡ false) r rows h))

any_by : (P Q : ReadyRow → Bool) (rows : List ReadyRow) → ((r : ReadyRow) → Q r ≡ true → P r ≡ true) → list_any Q rows ≡ true → list_any P rows ≡ true
any_by P Q [] h is = absurd (false≢true is)
any_by P Q (r ∷ rows) h is =
    elim (cases_Bool (Q r)) [
      | inl here ↦ or_left (P r) (list_any P rows) (h r here)
      | inr off ↦ or_right (P r) (list_any P rows) (any_by P Q rows h (sym (ap (λ b. b || list_any Q rows) off) ∙ is))
    ]

find_first : (F Q : ReadyRow → Bool) (rows : List ReadyRow) → ((r : ReadyRow) → Q r ≡ true → F r ≡ true)
    → option_map (λ (r : ReadyRow). r.thread) (find Q (filter F rows)) ≡ slice_get (threads_of (filter Q rows)) 0
find_first F Q [] h = refl
find_first F Q (r ∷ rows) h =
    elim (cases_Bool (Q r)) as (λ _. option_map (λ (a : ReadyRow). a.thread) (find Q (filter F (r ∷ rows))) ≡ slice_get (threads_of (filter Q (r ∷ rows))) 0) [
      | inl here ↦
          ap (λ l. option_map (λ (a : ReadyRow). a.thread) (find Q l)) (filter_yes F r rows (h r here))
          ∙ ap (option_map (λ (a : ReadyRow). a.thread)) (cond-true (Q r) (Some r) (find Q (filter F rows)) here)
          ∙ sym (ap (λ l. slice_get (threads_of l) 0) (filter_yes Q r rows here))
      | inr off ↦
          elim (cases_Bool (F r)) as (λ _. option_map (λ (a : ReadyRow). a.thread) (find Q (filter F (r ∷ rows))) ≡ slice_get (threads_of (filter Q (r ∷ rows))) 0) [
            | inl free ↦
                ap (λ l. option_map (λ (a : ReadyRow). a.thread) (find Q l)) (filter_yes F r rows free)
                ∙ ap (option_map (λ (a : ReadyRow). a.thread)) (cond-false (Q r) (Some r) (find Q (filter F rows)) off)
                ∙ find_first F Q rows h ∙ sym (ap (λ l. slice_get (threads_of l) 0) (filter_no Q r rows off))
            | inr bound ↦
                ap (λ l. option_map (λ (a : ReadyRow). a.thread) (find Q l)) (filter_no F r rows bound)
                ∙ find_first F Q rows h ∙ sym (ap (λ l. slice_get (threads_of l) 0) (filter_no Q r rows off))
          ]
    ]

any_filtered : (F Q : ReadyRow → Bool) (rows : List ReadyRow) → ((r : ReadyRow) → Q r ≡ true → F r ≡ true) → (threads_of (filter Q rows) ≡ [] → ⊥) → list_any Q (filter F rows) ≡ true
any_filtered F Q [] h some_row = absurd (some_row refl)
any_filtered F Q (r ∷ rows) h some_row =
    elim (cases_Bool (Q r)) [
      | inl here ↦ ap (list_any Q) (filter_yes F r rows (h r here)) ∙ or_left (Q r) (list_any Q (filter F rows)) here
      | inr off ↦
          let rest = any_filtered F Q rows h (λ e. some_row (ap threads_of (filter_no Q r rows off) ∙ e)) in
          elim (cases_Bool (F r)) [
            | inl free ↦ ap (list_any Q) (filter_yes F r rows free) ∙ or_right (Q r) (list_any Q (filter F rows)) rest
            | inr bound ↦ ap (list_any Q) (filter_no F r rows bound) ∙ rest
          ]
    ]

-- ---- the queue to take from

free_alike : (core : ℕ) (k j : Option ℕ) → is_free_for core k ≡ true → is_free_for core j ≡ true → is_some j ≡ is_some k → j ≡ k
free_alike core None None hk hj e = refl
free_alike core None (Some y) hk hj e = absurd (false≢true (sym e))
free_alike core (Some x) None hk hj e = absurd (false≢true e)
free_alike core (Some x) (Some y) hk hj e = ap Some (eqb-true y core hj ∙ sym (eqb-true x core hk))

-- where every row that may run follows those of a queue, and the queue has one, its first is picked
picked : (rows : List ReadyRow) (core p : ℕ) (k : Option ℕ) → is_free_for core k ≡ true
    → All (λ r. is_free_for core r.core ≡ true → Follows p (is_some k) r) rows → (ready_queue rows p k ≡ [] → ⊥)
    → pick_among rows core ≡ slice_get (ready_queue rows p k) 0
picked rows core p k free follows some_row =
    let F : ReadyRow → Bool = λ r. is_free_for core r.core in
    let Q : ReadyRow → Bool = is_in_queue p k in
    let inside : (r : ReadyRow) → Q r ≡ true → F r ≡ true = λ r e. ap (is_free_for core) (from_in_queue p k r e).1 ∙ free in
    let frees : All (λ r. F r ≡ true) (filter F rows) = filter_passes F rows in
    let after : All (λ r. F r ≡ true → Follows p (is_some k) r) (filter F rows) = All-filter F (λ r. F r ≡ true → Follows p (is_some k) r) rows follows in
    let best : ReadyRow → Bool = λ a. not (list_any (λ b. goes_before b a) (filter F rows)) in
    let any_in = any_filtered F Q rows inside some_row in
    let same : All (λ r. best r ≡ Q r) (filter F rows) = λ i d low.
    let r = get_or (filter F rows) i d in
    elim (cases_Bool (Q r)) as (λ _. best r ≡ Q r) [
      | inl here ↦
          let at = from_in_queue p k r here in
          ap not (any_none (λ b. goes_before b r) (filter F rows) (λ j e below. not_before p (is_some k) r (get_or (filter F rows) j e) at.0 (ap is_some at.1) (after j e below (frees j e below)))) ∙ sym here
      | inr off ↦
          ap not (any_by (λ b. goes_before b r) Q (filter F rows)
          (λ b in_it. let at = from_in_queue p k b in_it in
          gone_before p (is_some k) b r at.0 (ap is_some at.1) (after i d low (frees i d low))
          (λ alike. false≢true (sym off ∙ and_from (eqb r.prio p) (is_bound_so r.core k) (eq-eqb r.prio p alike.0)
          (ap (λ o. is_bound_so o k) (free_alike core k r.core free (frees i d low) alike.1) ∙ bound_same k))))
          any_in) ∙ sym off
    ] in
    ap (option_map (λ (r : ReadyRow). r.thread)) (find_agree best Q (filter F rows) same) ∙ find_first F Q rows inside

filter_nothing : (P : ReadyRow → Bool) (rows : List ReadyRow) → All (λ r. P r ≡ false) rows → filter P rows ≡ []
filter_nothing P [] h = refl
filter_nothing P (r ∷ rows) h = filter_no P r rows (All-head (λ a. P a ≡ false) r rows h) ∙ filter_nothing P rows (All-tail (λ a. P a ≡ false) r rows h)

-- a row stands in the queue of its priority and binding
stands_there : (rows : List ReadyRow) (i : ℕ) (d : ReadyRow) (p : ℕ) (k : Option ℕ) → i < length rows → is_in_queue p k (get_or rows i d) ≡ true → ready_queue rows p k ≡ [] → ⊥
stands_there [] i d p k low e none_there = omega (arith, low)
stands_there (r ∷ rows) zero d p k low e none_there =
    let here : threads_of (r ∷ filter (is_in_queue p k) rows) ≡ [] = sym (ap threads_of (filter_yes (is_in_queue p k) r rows e)) ∙ none_there in cc
stands_there (r ∷ rows) (suc i) d p k low e none_there =
    elim (cases_Bool (is_in_queue p k r)) [
      | inl here ↦ (let first : threads_of (r ∷ filter (is_in_queue p k) rows) ≡ [] = sym (ap threads_of (filter_yes (is_in_queue p k) r rows here)) ∙ none_there in cc)
      | inr off ↦ stands_there rows i d p k (omega (arith, low)) e (sym (ap threads_of (filter_no (is_in_queue p k) r rows off)) ∙ none_there)
    ]

-- ---- the least levels, by the queues

-- the least level whose queue has a thread of a binding, if any
abbrev pub IsLowestAt : ReadyView → Option ℕ → Option ℕ → Type 0
IsLowestAt v k None = (p : ℕ) → p < v.levels → queue_of v p k ≡ []
IsLowestAt v k (Some l) = (l < v.levels) × (queue_of v l k ≡ [] → ⊥) × ((p : ℕ) → p < l → queue_of v p k ≡ [])

from_occupied_none : (q : List ℕ) → occupied q ≡ 0 → q ≡ []
from_occupied_none [] e = refl
from_occupied_none (x ∷ xs) e = absurd (omega (arith, e))

from_occupied_one : (q : List ℕ) → occupied q ≡ 1 → q ≡ [] → ⊥
from_occupied_one q one e = omega (arith, one, ap occupied e)

lowest_in : (n cores : ℕ) (bits : Bitmaps) (queued : Queued) (k o : Option ℕ) → IsReadySet n cores bits queued → IsBinding cores k
    → IfSome o (IsLeastLevel n bits.groups (binding_place k)) → IfNone o (HasNoLevel n bits.groups (binding_place k))
    → (threads : ℕ) → IsLowestAt (record { threads = threads; cores = cores; levels = 8 * n; queues = queued.queues }) k o
lowest_in n cores bits queued k None h inside least none_set threads =
    λ p low. from_occupied_none (get_or queued.queues (queue_place (8 * n) p k) []) (sym (h.bits_are (binding_place k) p (binding_below cores k inside) low) ∙ none_set p low)
lowest_in n cores bits queued k (Some l) h inside least none_set threads = (
  least.within,
  from_occupied_one (get_or queued.queues (queue_place (8 * n) l k) []) (sym (h.bits_are (binding_place k) l (binding_below cores k inside) least.within) ∙ least.is_set),
  λ p low. from_occupied_none (get_or queued.queues (queue_place (8 * n) p k) []) (sym (h.bits_are (binding_place k) p (binding_below cores k inside) (omega (arith, low, least.within))) ∙ least.least p low),
)

pub lowest_seen : (n threads cores : ℕ) (bits : Bitmaps) (queued : Queued) (v : ReadyView) (k o : Option ℕ) (number : ℕ) → IsReadySet n cores bits queued
    → record { threads = threads; cores = cores; levels = 8 * n; queues = queued.queues } ≡ v → IsBinding v.cores k → number ≡ binding_place k
    → IfSome o (IsLeastLevel n bits.groups number) → IfNone o (HasNoLevel n bits.groups number) → IsLowestAt v k o
lowest_seen n threads cores bits queued v k o number h e inside is least none_set =
    subst (λ w. IsLowestAt w k o) e
    (lowest_in n cores bits queued k o h (subst (λ (w : ReadyView). IsBinding w.cores k) (sym e) inside)
    (subst (λ i. IfSome o (IsLeastLevel n bits.groups i)) is least) (subst (λ i. IfNone o (HasNoLevel n bits.groups i)) is none_set) threads)

-- no row that a set stands for has a level below the least one of its binding
row_level : (v : ReadyView) (rows : List ReadyRow) (i : ℕ) (d : ReadyRow) (k o : Option ℕ) → StandsForRows v rows → IsLowestAt v k o → i < length rows
    → (get_or rows i d).core ≡ k → IsBinding v.cores k → (l : ℕ) × (o ≡ Some l) × (l ≤ (get_or rows i d).prio)
row_level v rows i d k None st lowest low e inside =
    let r = get_or rows i d in
    absurd (stands_there rows i d r.prio k low (and_from (eqb r.prio r.prio) (is_bound_so r.core k) (eq-eqb r.prio r.prio refl) (ap (λ b. is_bound_so b k) e ∙ bound_same k))
    (sym (st.queues r.prio k (st.within i d low).0 inside) ∙ lowest r.prio (st.within i d low).0))
row_level v rows i d k (Some l) st lowest low e inside =
    let r = get_or rows i d in
    elim (cases_lt r.prio l) [
      | inl below ↦
          absurd (stands_there rows i d r.prio k low (and_from (eqb r.prio r.prio) (is_bound_so r.core k) (eq-eqb r.prio r.prio refl) (ap (λ b. is_bound_so b k) e ∙ bound_same k))
          (sym (st.queues r.prio k (st.within i d low).0 inside) ∙ lowest.2 r.prio below))
      | inr above ↦ (l, refl, above)
    ]

-- a row that a core may run is unbound or bound to it
free_cases : (core : ℕ) (k : Option ℕ) → is_free_for core k ≡ true → (k ≡ None) ⊎ (k ≡ Some core)
free_cases core None e = inl refl
free_cases core (Some x) e = inr (ap Some (eqb-true x core e))

none_free : (v : ReadyView) (rows : List ReadyRow) (core : ℕ) → StandsForRows v rows → core < v.cores → IsLowestAt v (Some core) None → IsLowestAt v None None
    → pick_among rows core ≡ None
none_free v rows core st inside bound unbound =
    let F : ReadyRow → Bool = λ r. is_free_for core r.core in
    let bound_all : All (λ r. F r ≡ false) rows = λ i d low.
    false_from_ne_true (F (get_or rows i d)) (λ e. elim (free_cases core (get_or rows i d).core e) [
      | inl is ↦ (let found = row_level v rows i d None None st unbound low is tt in let never : None ≡ Some found.0 = found.1 in cc)
      | inr is ↦ (let found = row_level v rows i d (Some core) None st bound low is inside in let never : None ≡ Some found.0 = found.1 in cc)
    ]) in
    ap (λ l. option_map (λ (r : ReadyRow). r.thread) (first_best l)) (filter_nothing F rows bound_all)

some_same : (a b : ℕ) → Some a ≡ Some b → a ≡ b
some_same a b e = cc

-- what the choice of a queue tells
pub record IsToTake (v : ReadyView) (core p : ℕ) (k : Option ℕ) : Type 0 where
  pub low : p < v.levels
  pub inside : IsBinding v.cores k
  pub some_thread : queue_of v p k ≡ [] → ⊥
  pub picks : (rows : List ReadyRow) → StandsForRows v rows → pick_among rows core ≡ slice_get (queue_of v p k) 0

to_take : (v : ReadyView) (core p : ℕ) (k : Option ℕ) → p < v.levels → IsBinding v.cores k → (queue_of v p k ≡ [] → ⊥) → is_free_for core k ≡ true
    → ((rows : List ReadyRow) → StandsForRows v rows → All (λ r. is_free_for core r.core ≡ true → Follows p (is_some k) r) rows)
    → IsToTake v core p k
to_take v core p k low inside some_thread free follows = record {
  low = low;
  inside = inside;
  some_thread = some_thread;
  picks = λ rows st. picked rows core p k free (follows rows st) (λ e. some_thread (st.queues p k low inside ∙ e)) ∙ ap (λ q. slice_get q 0) (sym (st.queues p k low inside));
}

take_unbound : (v : ReadyView) (core u : ℕ) (bound : Option ℕ) → core < v.cores → IsLowestAt v (Some core) bound → IsLowestAt v None (Some u)
    → ((b : ℕ) → bound ≡ Some b → u < b) → IsToTake v core u None
take_unbound v core u bound inside bounds unbounds less =
    to_take v core u None unbounds.0 tt unbounds.1 refl
    (λ rows st i d low free. elim (free_cases core (get_or rows i d).core free) [
      | inl is ↦
          let found = row_level v rows i d None (Some u) st unbounds low is tt in
          let level : u ≡ found.0 = some_same u found.0 found.1 in
          elim (cases_lt u (get_or rows i d).prio) [
            | inl above ↦ inl above
            | inr here ↦ inr (omega (arith, here, level, found.2), inr (ap is_some is))
          ]
      | inr is ↦
          let found = row_level v rows i d (Some core) bound st bounds low is inside in
          inl (omega (arith, less found.0 found.1, found.2))
    ])

take_bound : (v : ReadyView) (core b : ℕ) (unbound : Option ℕ) → core < v.cores → IsLowestAt v (Some core) (Some b) → IsLowestAt v None unbound
    → ((u : ℕ) → unbound ≡ Some u → b ≤ u) → IsToTake v core b (Some core)
take_bound v core b unbound inside bounds unbounds less =
    to_take v core b (Some core) bounds.0 inside bounds.1 (eq-eqb core core refl)
    (λ rows st i d low free. elim (free_cases core (get_or rows i d).core free) [
      | inl is ↦
          let found = row_level v rows i d None unbound st unbounds low is tt in
          elim (cases_lt b (get_or rows i d).prio) [
            | inl above ↦ inl above
            | inr here ↦ inr (omega (arith, here, less found.0 found.1, found.2), inl refl)
          ]
      | inr is ↦
          let found = row_level v rows i d (Some core) (Some b) st bounds low is inside in
          let level : b ≡ found.0 = some_same b found.0 found.1 in
          elim (cases_lt b (get_or rows i d).prio) [
            | inl above ↦ inl above
            | inr here ↦ inr (omega (arith, here, level, found.2), inl refl)
          ]
    ])

-- what a choice says
abbrev pub IsChoice : ReadyView → ℕ → Option (Option ℕ × ℕ) → Type 0
IsChoice v core None = ((rows : List ReadyRow) → StandsForRows v rows → pick_among rows core ≡ None)
IsChoice v core (Some choice) = IsToTake v core choice.1 choice.0

pub choice_is : (v : ReadyView) (core : ℕ) (bound unbound : Option ℕ) → core < v.cores → IsLowestAt v (Some core) bound → IsLowestAt v None unbound
    → IsChoice v core (chosen core bound unbound)
choice_is v core None None inside bounds unbounds = λ rows st. none_free v rows core st inside bounds unbounds
choice_is v core None (Some u) inside bounds unbounds = take_unbound v core u None inside bounds unbounds (λ b e. absurd (let never : None ≡ Some b = e in cc))
choice_is v core (Some b) None inside bounds unbounds = take_bound v core b None inside bounds unbounds (λ u e. absurd (let never : None ≡ Some u = e in cc))
choice_is v core (Some b) (Some u) inside bounds unbounds =
    elim (cases_Bool (ltb u b)) [
      | inl less ↦
          subst (IsChoice v core) (sym (cond-true (ltb u b) (Some (None, u)) (Some (Some core, b)) less))
          (take_unbound v core u (Some b) inside bounds unbounds (λ b' e. omega (arith, ltb-true u b less, some_same b b' e)))
      | inr more ↦
          subst (IsChoice v core) (sym (cond-false (ltb u b) (Some (None, u)) (Some (Some core, b)) more))
          (take_bound v core b (Some u) inside bounds unbounds (λ u' e. omega (arith, ltb-false u b more, some_same u u' e)))
    ]

pub queued_at : (qs : List (List ℕ)) (place t : ℕ) → is_among t (get_or qs place []) ≡ true → is_queued qs t ≡ true
queued_at [] place t is = absurd (false≢true is)
queued_at (q ∷ qs) zero t is = or_left (is_among t q) (is_queued qs t) is
queued_at (q ∷ qs) (suc place) t is = or_right (is_among t q) (is_queued qs t) (queued_at qs place t is)

pub first_there : (q : List ℕ) → (q ≡ [] → ⊥) → None ≡ slice_get q 0 → ⊥
first_there [] some_thread e = some_thread refl
first_there (x ∷ xs) some_thread e = let never : None ≡ Some x = e in cc

-- ---- as the code uses it

pub nothing_to_take : (v : ReadyView) (core : ℕ) (bound unbound : Option ℕ) (o : Option (Option ℕ × ℕ)) → core < v.cores → IsLowestAt v (Some core) bound → IsLowestAt v None unbound
    → o ≡ chosen core bound unbound → o ≡ None → (rows : List ReadyRow) → StandsForRows v rows → pick_among rows core ≡ None
nothing_to_take v core bound unbound o inside bounds unbounds e none_is = subst (IsChoice v core) (sym e ∙ none_is) (choice_is v core bound unbound inside bounds unbounds)

pub one_to_take : (v : ReadyView) (core p : ℕ) (k bound unbound : Option ℕ) (o : Option (Option ℕ × ℕ)) → core < v.cores → IsLowestAt v (Some core) bound → IsLowestAt v None unbound
    → o ≡ chosen core bound unbound → o ≡ Some (k, p) → IsToTake v core p k
one_to_take v core p k bound unbound o inside bounds unbounds e some_is = subst (IsChoice v core) (sym e ∙ some_is) (choice_is v core bound unbound inside bounds unbounds)

pub queue_seen : (n threads cores : ℕ) (queued : Queued) (v : ReadyView) (p : ℕ) (k : Option ℕ) (number : ℕ)
    → record { threads = threads; cores = cores; levels = 8 * n; queues = queued.queues } ≡ v → number ≡ binding_place k
    → get_or queued.queues (number * (8 * n) + p) [] ≡ queue_of v p k
queue_seen n threads cores queued v p k number e is =
    ap (λ i. get_or queued.queues (i * (8 * n) + p) []) is ∙ ap (λ (w : ReadyView). queue_of w p k) e
