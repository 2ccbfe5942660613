-- What a set's queues tell of the ready lists that it stands for.
use Rattle.std.proofs.Common.{ℕ, ◌≡◌, ◌+◌, ◌*◌, ◌<◌, Bool, true, false, eqb, not, List, [], ◌∷◌, ◌++◌, length, filter, map, Option, Some, None, get_or, set, sym, refl, ap, ◌∙◌, subst, inl, inr, arith, get_or-set_same, get_or-set_other}
use Rattle.std.specs.List.{All}
use Rattle.std.proofs.lemmas.List.{map-append, get_or-map}
use Rattle.std.proofs.lemmas.List.Elements.{All-push, All-cons, All-filter, filter-append}
use Rattle.std.proofs.lemmas.Nat.{same_from_place, mul-add-lt}
use Rattle.std.proofs.lemmas.Bool.{false≢true, and_from, and_parts, eqb-true, eq-eqb, cond-true, cond-false, cases_eq, cases_Bool, false_from_ne_true}
use Rattle.rt_plain.specs.kernel.Pick.{ReadyRow, is_bound_so, is_in_queue, ready_queue}
use Rattle.rt_base.specs.Chains.{without}
use Rattle.ready_set.specs.Links.{Queued}
use Rattle.ready_set.specs.Levels.{Bitmaps}
use Rattle.ready_set.specs.ReadyLists.{ReadyView, binding_place, queue_place, queue_of, IsBinding, with_queue, without_thread, StandsForRows, row_of, rows_without, IsReadySet}

-- ---- places of queues

pub bound_same : (a : Option ℕ) → is_bound_so a a ≡ true
bound_same None = refl
bound_same (Some x) = eq-eqb x x refl

from_bound : (a b : Option ℕ) → is_bound_so a b ≡ true → a ≡ b
from_bound None None e = refl
from_bound None (Some y) e = absurd (false≢true e)
from_bound (Some x) None e = absurd (false≢true e)
from_bound (Some x) (Some y) e = ap Some (eqb-true x y e)

from_binding : (a b : Option ℕ) → binding_place a ≡ binding_place b → a ≡ b
from_binding None None e = refl
from_binding None (Some y) e = absurd (omega (arith, e))
from_binding (Some x) None e = absurd (omega (arith, e))
from_binding (Some x) (Some y) e = let same : x ≡ y = omega (arith, e) in ap Some same

pub binding_below : (cores : ℕ) (k : Option ℕ) → IsBinding cores k → binding_place k < cores + 1
binding_below cores None h = omega arith
binding_below cores (Some x) h = omega (arith, h)

pub place_below : (cores levels prio : ℕ) (k : Option ℕ) → prio < levels → IsBinding cores k → queue_place levels prio k < (cores + 1) * levels
place_below cores levels prio k low h = omega (arith, mul-add-lt (binding_place k) levels prio (cores + 1) (binding_below cores k h) low)

from_place : (levels prio prio' : ℕ) (k k' : Option ℕ) → prio < levels → prio' < levels → queue_place levels prio k ≡ queue_place levels prio' k' → (prio ≡ prio') × (k ≡ k')
from_place levels prio prio' k k' low low' e =
    let both = same_from_place (binding_place k) prio (binding_place k') prio' levels low low' e in
    (both.1, from_binding k k' both.0)

in_queue_same : (t prio : ℕ) (k : Option ℕ) → is_in_queue prio k (row_of t prio k) ≡ true
in_queue_same t prio k = and_from (eqb prio prio) (is_bound_so k k) (eq-eqb prio prio refl) (bound_same k)

pub from_in_queue : (prio : ℕ) (k : Option ℕ) (r : ReadyRow) → is_in_queue prio k r ≡ true → (r.prio ≡ prio) × (r.core ≡ k)
from_in_queue prio k r e = let both = and_parts (eqb r.prio prio) (is_bound_so r.core k) e in (eqb-true r.prio prio both.0, from_bound r.core k both.1)

-- ---- what an edit does to each queue

queue_append : (rows more : List ReadyRow) (prio : ℕ) (k : Option ℕ) → ready_queue (rows ++ more) prio k ≡ ready_queue rows prio k ++ ready_queue more prio k
queue_append rows more prio k =
    ap (map (λ (r : ReadyRow). r.thread)) (filter-append (is_in_queue prio k) rows more)
    ∙ map-append (λ (r : ReadyRow). r.thread) (filter (is_in_queue prio k) rows) (filter (is_in_queue prio k) more)

one_same : (t prio : ℕ) (k : Option ℕ) → ready_queue (row_of t prio k ∷ []) prio k ≡ t ∷ []
one_same t prio k = ap (map (λ (r : ReadyRow). r.thread)) (cond-true (is_in_queue prio k (row_of t prio k)) (row_of t prio k ∷ []) [] (in_queue_same t prio k))

one_other : (t prio p : ℕ) (k j : Option ℕ) → ((p ≡ prio) × (j ≡ k) → ⊥) → ready_queue (row_of t prio k ∷ []) p j ≡ []
one_other t prio p k j apart =
    ap (map (λ (r : ReadyRow). r.thread))
    (cond-false (is_in_queue p j (row_of t prio k)) (row_of t prio k ∷ []) []
    (false_from_ne_true (is_in_queue p j (row_of t prio k)) (λ e. let both = from_in_queue p j (row_of t prio k) e in apart (sym both.0, sym both.1))))

append_nothing : (xs : List ℕ) → xs ++ [] ≡ xs
append_nothing [] = refl
append_nothing (x ∷ xs) = ap (λ r. x ∷ r) (append_nothing xs)

-- one queue is replaced
stands_changed : (v : ReadyView) (rows rows' : List ReadyRow) (prio : ℕ) (k : Option ℕ) (q : List ℕ) → length v.queues ≡ (v.cores + 1) * v.levels
    → prio < v.levels → IsBinding v.cores k → StandsForRows v rows → All (λ row. (row.prio < v.levels) × IsBinding v.cores row.core) rows'
    → q ≡ ready_queue rows' prio k → ((p : ℕ) (j : Option ℕ) → ((p ≡ prio) × (j ≡ k) → ⊥) → ready_queue rows' p j ≡ ready_queue rows p j)
    → StandsForRows (with_queue v prio k q) rows'
stands_changed v rows rows' prio k q long low inside st all here there =
    let place = queue_place v.levels prio k in
    let below : place < length v.queues = omega (arith, place_below v.cores v.levels prio k low inside, long) in
    record {
      within = all;
      queues = λ p j low' inside'.
          elim (cases_eq (queue_place v.levels p j) place) as (λ _. get_or (set v.queues place q) (queue_place v.levels p j) [] ≡ ready_queue rows' p j) [
            | inl e ↦
                let both = from_place v.levels p prio j k low' low e in
                ap (λ i. get_or (set v.queues place q) i []) e ∙ get_or-set_same v.queues place q [] below ∙ here
                ∙ ap (λ i. ready_queue rows' i k) (sym both.0) ∙ ap (ready_queue rows' p) (sym both.1)
            | inr e ↦
                get_or-set_other v.queues place (queue_place v.levels p j) q [] e ∙ st.queues p j low' inside'
                ∙ sym (there p j (λ both. e (ap (λ i. queue_place v.levels i j) both.0 ∙ ap (queue_place v.levels prio) both.1)))
          ];
    }

pub stands_pushed : (v v' : ReadyView) (t prio : ℕ) (k : Option ℕ) → length v.queues ≡ (v.cores + 1) * v.levels → prio < v.levels → IsBinding v.cores k
    → v' ≡ with_queue v prio k (queue_of v prio k ++ t ∷ []) → (rows : List ReadyRow) → StandsForRows v rows → StandsForRows v' (rows ++ row_of t prio k ∷ [])
stands_pushed v v' t prio k long low inside e rows st =
    let row = row_of t prio k in
    let Within : ReadyRow → Type 0 = λ r. (r.prio < v.levels) × IsBinding v.cores r.core in
    subst (λ w. StandsForRows w (rows ++ row ∷ [])) (sym e)
    (stands_changed v rows (rows ++ row ∷ []) prio k (queue_of v prio k ++ t ∷ []) long low inside st (All-push Within rows row st.within (low, inside))
    (ap (λ q. q ++ t ∷ []) (st.queues prio k low inside) ∙ ap (λ q. ready_queue rows prio k ++ q) (sym (one_same t prio k)) ∙ sym (queue_append rows (row ∷ []) prio k))
    (λ p j apart. queue_append rows (row ∷ []) p j ∙ ap (λ q. ready_queue rows p j ++ q) (one_other t prio p k j apart) ∙ append_nothing (ready_queue rows p j)))

pub stands_fronted : (v v' : ReadyView) (t prio : ℕ) (k : Option ℕ) → length v.queues ≡ (v.cores + 1) * v.levels → prio < v.levels → IsBinding v.cores k
    → v' ≡ with_queue v prio k (t ∷ queue_of v prio k) → (rows : List ReadyRow) → StandsForRows v rows → StandsForRows v' (row_of t prio k ∷ rows)
stands_fronted v v' t prio k long low inside e rows st =
    let row = row_of t prio k in
    let Within : ReadyRow → Type 0 = λ r. (r.prio < v.levels) × IsBinding v.cores r.core in
    subst (λ w. StandsForRows w (row ∷ rows)) (sym e)
    (stands_changed v rows (row ∷ rows) prio k (t ∷ queue_of v prio k) long low inside st (All-cons Within row rows (low, inside) st.within)
    (ap (λ q. t ∷ q) (st.queues prio k low inside) ∙ ap (λ q. q ++ ready_queue rows prio k) (sym (one_same t prio k)) ∙ sym (queue_append (row ∷ []) rows prio k))
    (λ p j apart. queue_append (row ∷ []) rows p j ∙ ap (λ q. q ++ ready_queue rows p j) (one_other t prio p k j apart)))

pub filter_yes : {X : Type 0} (p : X → Bool) (x : X) (xs : List X) → p x ≡ true → filter p (x ∷ xs) ≡ x ∷ filter p xs
filter_yes p x xs e = cond-true (p x) (x ∷ filter p xs) (filter p xs) e

pub filter_no : {X : Type 0} (p : X → Bool) (x : X) (xs : List X) → p x ≡ false → filter p (x ∷ xs) ≡ filter p xs
filter_no p x xs e = cond-false (p x) (x ∷ filter p xs) (filter p xs) e

abbrev pub threads_of : List ReadyRow → List ℕ
threads_of rows = map (λ (r : ReadyRow). r.thread) rows

abbrev is_other : ℕ → ReadyRow → Bool
is_other t row = not (eqb row.thread t)

-- a queue loses a thread as the ready list does
queue_without : (Q : ReadyRow → Bool) (t : ℕ) (rows : List ReadyRow) → without t (threads_of (filter Q rows)) ≡ threads_of (filter Q (filter (is_other t) rows))
queue_without Q t [] = refl
queue_without Q t (r ∷ rows) =
    elim (cases_Bool (Q r)) [
      | inl in_it ↦
          ap (λ q. without t (threads_of q)) (filter_yes Q r rows in_it)
          ∙ elim (cases_Bool (is_other t r)) as (λ _. without t (r.thread ∷ threads_of (filter Q rows)) ≡ threads_of (filter Q (filter (is_other t) (r ∷ rows)))) [
            | inl stays ↦
                filter_yes (λ o. not (eqb o t)) r.thread (threads_of (filter Q rows)) stays
                ∙ ap (λ q. r.thread ∷ q) (queue_without Q t rows)
                ∙ ap threads_of (sym (ap (filter Q) (filter_yes (is_other t) r rows stays) ∙ filter_yes Q r (filter (is_other t) rows) in_it))
            | inr goes ↦
                filter_no (λ o. not (eqb o t)) r.thread (threads_of (filter Q rows)) goes
                ∙ queue_without Q t rows
                ∙ ap (λ q. threads_of (filter Q q)) (sym (filter_no (is_other t) r rows goes))
          ]
      | inr off ↦
          ap (λ q. without t (threads_of q)) (filter_no Q r rows off) ∙ queue_without Q t rows
          ∙ elim (cases_Bool (is_other t r)) as (λ _. threads_of (filter Q (filter (is_other t) rows)) ≡ threads_of (filter Q (filter (is_other t) (r ∷ rows)))) [
            | inl stays ↦ ap threads_of (sym (ap (filter Q) (filter_yes (is_other t) r rows stays) ∙ filter_no Q r (filter (is_other t) rows) off))
            | inr goes ↦ ap (λ q. threads_of (filter Q q)) (sym (filter_no (is_other t) r rows goes))
          ]
    ]

pub stands_without : (v v' : ReadyView) (t : ℕ) → length v.queues ≡ (v.cores + 1) * v.levels → v' ≡ without_thread v t
    → (rows : List ReadyRow) → StandsForRows v rows → StandsForRows v' (rows_without rows t)
stands_without v v' t long e rows st =
    let Within : ReadyRow → Type 0 = λ r. (r.prio < v.levels) × IsBinding v.cores r.core in
    subst (λ w. StandsForRows w (rows_without rows t)) (sym e) (record {
      within = All-filter (is_other t) Within rows st.within;
      queues = λ p j low inside.
          let below : queue_place v.levels p j < length v.queues = omega (arith, place_below v.cores v.levels p j low inside, long) in
          get_or-map (without t) v.queues (queue_place v.levels p j) [] [] below ∙ ap (without t) (st.queues p j low inside) ∙ queue_without (is_in_queue p j) t rows;
    })

-- the fields, as the value is seen
pub ready_seen : (n threads cores : ℕ) (bits : Bitmaps) (queued : Queued) (v : ReadyView) → IsReadySet n cores bits queued
    → record { threads = threads; cores = cores; levels = 8 * n; queues = queued.queues } ≡ v → length v.queues ≡ (v.cores + 1) * v.levels
ready_seen n threads cores bits queued v h e = subst (λ (w : ReadyView). length w.queues ≡ (w.cores + 1) * w.levels) e h.places
