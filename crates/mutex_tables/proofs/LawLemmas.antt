-- What follows from an action, by the tables.
use Rattle.std.proofs.Common.{ℕ, zero, suc, ◌≡◌, ◌≢◌, ◌<◌, ◌≤◌, ◌+◌, ◌++◌, ◌∷◌, [], arith, List, Option, Some, None, IfSome, Bool, true, false, not, ◌||◌, ◌&&◌, cond, refl, sym, ap, ◌∙◌, subst, length, map, is_some, eqb, ◌⊎◌, inl, inr}
use Rattle.std.specs.Prelude.{filter, ◌==◌, if◌then◌else◌}
use Rattle.std.specs.List.{AllByRecursion, cons_option, filter_map, range_with_len}
use Rattle.std.proofs.lemmas.Bool.{cases_lt, eqb-true, eqb-false, eq-eqb, ne_eqb, false≢true}
use Rattle.rt_plain.specs.PlainBoard.{PlainBoard}
use Rattle.rt_plain.specs.declared.line.Line.{Line}
use Rattle.rt_plain.specs.kernel.Calls.{has_new_cur, is_moved, mode_lines, prio_lines, reordered_state, settled_effect}
use Rattle.rt_plain.specs.kernel.Effects.{Effect}
use Rattle.rt_plain.specs.kernel.Priority.{cur}
use Rattle.rt_plain.specs.kernel.Ownership.{CurChange}
use Rattle.rt_plain.specs.kernel.State.{State, thread_at, is_among, is_closed}
use Rattle.kernel_tables.specs.Tabled.{moved_last}
use Rattle.mutex_chain.proofs.TouchLemmas.{among_append}
use Rattle.mutex_tie.specs.Changes.{AreLive, change_line, is_changed, moves_in, new_cur_of, new_curs}
use Rattle.mutex_tie.proofs.ChangeLemmas.{Own, made_if}
use Rattle.mutex_tie.proofs.NewCurLemmas.{prio-lines-new}
use Rattle.mutex_tables.specs.Moved.{AreOnce, MovesOne, moved_behind, settled_by}

-- lists by a test

filter-agree : (p q : ℕ → Bool) (xs : List ℕ) → AllByRecursion (λ x. p x ≡ q x) xs → filter p xs ≡ filter q xs
filter-agree p q [] same = refl
filter-agree p q (x ∷ xs) (this, same) = ap (λ c. cond c (x ∷ filter p xs) (filter p xs)) this ∙ ap (λ ys. cond (q x) (x ∷ ys) ys) (filter-agree p q xs same)

filter-all : (p q : ℕ → Bool) (xs : List ℕ) → ((x : ℕ) → p x ≡ q x) → filter p xs ≡ filter q xs
filter-all p q [] same = refl
filter-all p q (x ∷ xs) same = ap (λ c. cond c (x ∷ filter p xs) (filter p xs)) (same x) ∙ ap (λ ys. cond (q x) (x ∷ ys) ys) (filter-all p q xs same)

filter-append : (p : ℕ → Bool) (xs ys : List ℕ) → filter p (xs ++ ys) ≡ filter p xs ++ filter p ys
filter-append p [] ys = refl
filter-append p (x ∷ xs) ys = by_test (p x) (filter-append p xs ys)
  where
    by_test : (d : Bool) → filter p (xs ++ ys) ≡ filter p xs ++ filter p ys → cond d (x ∷ filter p (xs ++ ys)) (filter p (xs ++ ys)) ≡ cond d (x ∷ filter p xs) (filter p xs) ++ filter p ys
    by_test true rest = ap (λ zs. x ∷ zs) rest
    by_test false rest = rest

filter-twice : (p : ℕ → Bool) (xs : List ℕ) → filter p (filter p xs) ≡ filter p xs
filter-twice p [] = refl
filter-twice p (x ∷ xs) = by_test (p x) refl (filter-twice p xs)
  where
    by_test : (d : Bool) → p x ≡ d → filter p (filter p xs) ≡ filter p xs → filter p (cond d (x ∷ filter p xs) (filter p xs)) ≡ cond d (x ∷ filter p xs) (filter p xs)
    by_test true is rest = ap (λ c. cond c (x ∷ filter p (filter p xs)) (filter p (filter p xs))) is ∙ ap (λ zs. x ∷ zs) rest
    by_test false is rest = rest

filter-none : (xs : List ℕ) → filter (λ x. false) xs ≡ []
filter-none [] = refl
filter-none (x ∷ xs) = filter-none xs

filter-every : (xs : List ℕ) → filter (λ x. true) xs ≡ xs
filter-every [] = refl
filter-every (x ∷ xs) = ap (λ zs. x ∷ zs) (filter-every xs)

append-none : (xs : List ℕ) → xs ++ [] ≡ xs
append-none [] = refl
append-none (x ∷ xs) = ap (λ zs. x ∷ zs) (append-none xs)

no-length : (xs : List ℕ) → length xs ≤ 0 → xs ≡ []
no-length [] few = refl
no-length (x ∷ xs) few = absurd (omega (arith, few))

-- a thread that is listed once at most
single : (m : ℕ) (xs : List ℕ) → length (filter (λ v. v == m) xs) ≤ 1 → filter (λ v. v == m) xs ≡ (if is_among xs m then m ∷ [] else [])
single m [] few = refl
single m (x ∷ xs) few = by_test (x == m) refl few (single m xs)
  where
    by_test : (d : Bool) → (x == m) ≡ d → length (cond d (x ∷ filter (λ v. v == m) xs) (filter (λ v. v == m) xs)) ≤ 1 → (length (filter (λ v. v == m) xs) ≤ 1 → filter (λ v. v == m) xs ≡ (if is_among xs m then m ∷ [] else []))
        → cond d (x ∷ filter (λ v. v == m) xs) (filter (λ v. v == m) xs) ≡ (if d || is_among xs m then m ∷ [] else [])
    by_test true same low rest = ap (λ zs. x ∷ zs) (no-length (filter (λ v. v == m) xs) (omega (arith, low))) ∙ ap (λ y. y ∷ []) (eqb-true x m same)
    by_test false other low rest = rest low

filter-out : (m : ℕ) (xs : List ℕ) → is_among xs m ≡ false → filter (λ u. not (u == m)) xs ≡ xs
filter-out m [] out = refl
filter-out m (x ∷ xs) out = by_test (x == m) out (filter-out m xs)
  where
    by_test : (d : Bool) → d || is_among xs m ≡ false → (is_among xs m ≡ false → filter (λ u. not (u == m)) xs ≡ xs) → cond (not d) (x ∷ filter (λ u. not (u == m)) xs) (filter (λ u. not (u == m)) xs) ≡ x ∷ xs
    by_test true off rest = absurd (false≢true (sym off))
    by_test false off rest = ap (λ zs. x ∷ zs) (rest off)

-- moves of one thread

itself : (m : ℕ) → eqb m m ≡ true
itself m = eq-eqb m m refl

-- moved twice it stands where it stood
again : (ready : List ℕ) (m : ℕ) → moved_last (moved_last ready m) m ≡ moved_last ready m
again ready m = by_test (is_among ready m) refl
  where
    kept : List ℕ
    kept = filter (λ u. not (u == m)) ready

    there : is_among (kept ++ m ∷ []) m ≡ true
    there = among_append kept (m ∷ []) m ∙ ap (λ d. is_among kept m || (d || false)) (itself m) ∙ or-true (is_among kept m)
      where
        or-true : (b : Bool) → b || true ≡ true
        or-true true = refl
        or-true false = refl

    last : filter (λ u. not (u == m)) (kept ++ m ∷ []) ≡ kept
    last =
        filter-append (λ u. not (u == m)) kept (m ∷ [])
        ∙ ap (λ zs. zs ++ filter (λ u. not (u == m)) (m ∷ [])) (filter-twice (λ u. not (u == m)) ready)
        ∙ ap (λ d. kept ++ cond (not d) (m ∷ []) []) (itself m)
        ∙ append-none kept

    by_test : (d : Bool) → is_among ready m ≡ d → moved_last (if d then filter (λ u. not (u == m)) ready ++ m ∷ [] else ready) m ≡ (if d then filter (λ u. not (u == m)) ready ++ m ∷ [] else ready)
    by_test true is = ap (λ c. if c then filter (λ u. not (u == m)) (filter (λ u. not (u == m)) ready ++ m ∷ []) ++ m ∷ [] else (filter (λ u. not (u == m)) ready ++ m ∷ [])) there ∙ ap (λ zs. zs ++ m ∷ []) last
    by_test false is = ap (λ c. if c then filter (λ u. not (u == m)) ready ++ m ∷ [] else ready) is

-- the changed threads that were ready are this one alone
abbrev IsOnly : List ℕ → List CurChange → ℕ → Type 0
IsOnly before cs m = (u : ℕ) → is_among before u ≡ true → is_changed cs u ≡ true → u ≡ m

moved-only : (before : List ℕ) (cs : List CurChange) (m : ℕ) (ready : List ℕ) → is_among before m ≡ true → IsOnly before cs m → moved_behind before cs ready ≡ (if is_changed cs m then moved_last ready m else ready)
moved-only before [] m ready was only = refl
moved-only before (c ∷ cs) m ready was only = by_test (eqb c.thread m) refl (λ zs. moved-only before cs m zs was (λ u among changed. only u among (later u changed)))
  where
    later : (u : ℕ) → is_changed cs u ≡ true → eqb c.thread u || is_changed cs u ≡ true
    later u changed = ap (λ d. eqb c.thread u || d) changed ∙ or-true (eqb c.thread u)
      where
        or-true : (b : Bool) → b || true ≡ true
        or-true true = refl
        or-true false = refl

    same-last : (d : Bool) → (if d then moved_last (moved_last ready m) m else moved_last ready m) ≡ moved_last ready m
    same-last true = again ready m
    same-last false = refl

    out : eqb c.thread m ≡ false → (d : Bool) → is_among before c.thread ≡ d → d ≡ false
    out other true among = absurd (eqb-false c.thread m other (only c.thread among (ap (λ d. d || is_changed cs c.thread) (itself c.thread))))
    out other false among = refl

    by_test : (d : Bool) → eqb c.thread m ≡ d → ((zs : List ℕ) → moved_behind before cs zs ≡ (if is_changed cs m then moved_last zs m else zs)) → moved_behind before cs (if is_among before c.thread then moved_last ready c.thread else ready) ≡ (if d || is_changed cs m then moved_last ready m else ready)
    by_test true same rest =
        ap (λ t. moved_behind before cs (if is_among before t then moved_last ready t else ready)) (eqb-true c.thread m same)
        ∙ ap (λ d. moved_behind before cs (if d then moved_last ready m else ready)) was
        ∙ rest (moved_last ready m)
        ∙ same-last (is_changed cs m)
    by_test false other rest = ap (λ d. moved_behind before cs (if d then moved_last ready c.thread else ready)) (out other (is_among before c.thread) refl) ∙ rest ready

-- either a changed thread was ready, or none moves
abbrev Mover : List ℕ → List CurChange → Type 0
Mover before cs = (m : ℕ) × ((is_among before m ≡ true) × (is_changed cs m ≡ true))

record Stays (before : List ℕ) (cs : List CurChange) : Type 0 where
  order : (ready : List ℕ) → moved_behind before cs ready ≡ ready
  nobody : (t : ℕ) → is_among before t && is_changed cs t ≡ false

find-mover : (before : List ℕ) (cs : List CurChange) → Mover before cs ⊎ Stays before cs
find-mover before [] = inr (record { order = λ ready. refl; nobody = λ t. by_test (is_among before t) })
  where
    by_test : (d : Bool) → d && false ≡ false
    by_test true = refl
    by_test false = refl
find-mover before (c ∷ cs) = by_test (is_among before c.thread) refl (find-mover before cs)
  where
    or-true : (b : Bool) → b || true ≡ true
    or-true true = refl
    or-true false = refl

    and-false : (b : Bool) → b && false ≡ false
    and-false true = refl
    and-false false = refl

    nobody : is_among before c.thread ≡ false → Stays before cs → (t : ℕ) → (d : Bool) → eqb c.thread t ≡ d → is_among before t && (d || is_changed cs t) ≡ false
    nobody out rest t true same = ap (λ x. is_among before x && true) (sym (eqb-true c.thread t same)) ∙ ap (λ b. b && true) out
    nobody out rest t false other = rest.nobody t

    by_test : (d : Bool) → is_among before c.thread ≡ d → Mover before cs ⊎ Stays before cs → Mover before (c ∷ cs) ⊎ Stays before (c ∷ cs)
    by_test true is rest = inl (c.thread, (is, ap (λ d. d || is_changed cs c.thread) (itself c.thread)))
    by_test false is (inl (m, (was, changed))) = inl (m, (was, ap (λ d. eqb c.thread m || d) changed ∙ or-true (eqb c.thread m)))
    by_test false is (inr rest) = inr (record {
      order = λ ready. ap (λ d. moved_behind before cs (if d then moved_last ready c.thread else ready)) is ∙ rest.order ready;
      nobody = λ t. nobody is rest t (eqb c.thread t) refl;
    })

-- where at most one changed thread was ready, those that move are a part of the ready list, in its order
pub moved-part : (before : List ℕ) (cs : List CurChange) (ready : List ℕ) → MovesOne before cs → AreOnce ready
    → moved_behind before cs ready ≡ filter (λ t. not (is_among before t && is_changed cs t)) ready ++ filter (λ t. is_among before t && is_changed cs t) ready
moved-part before cs ready one once = by_mover (find-mover before cs)
  where
    Goal : Type 0
    Goal = moved_behind before cs ready ≡ filter (λ t. not (is_among before t && is_changed cs t)) ready ++ filter (λ t. is_among before t && is_changed cs t) ready

    is-it : (m : ℕ) → is_among before m ≡ true → is_changed cs m ≡ true → (t : ℕ) → (is_among before t && is_changed cs t) ≡ (t == m)
    is-it m was changed t = by_tests (is_among before t) refl (is_changed cs t) refl
      where
        off : (is_among before t && is_changed cs t) ≡ false → t ≢ m
        off none same = false≢true (sym none ∙ ap (λ x. is_among before x && is_changed cs x) same ∙ ap (λ b. b && is_changed cs m) was ∙ changed)

        by_tests : (b : Bool) → is_among before t ≡ b → (d : Bool) → is_changed cs t ≡ d → (b && d) ≡ (t == m)
        by_tests true is true does = sym (eq-eqb t m (one t m is was does changed))
        by_tests true is false does = sym (ne_eqb t m (off (ap (λ b. b && is_changed cs t) is ∙ does)))
        by_tests false is d does = sym (ne_eqb t m (off (ap (λ b. b && is_changed cs t) is)))

    parts : (m : ℕ) (d : Bool) → is_among ready m ≡ d → (if d then filter (λ u. not (u == m)) ready ++ m ∷ [] else ready) ≡ filter (λ u. not (u == m)) ready ++ (if d then m ∷ [] else [])
    parts m true is = refl
    parts m false is = sym (append-none (filter (λ u. not (u == m)) ready) ∙ filter-out m ready is)

    by_mover : Mover before cs ⊎ Stays before cs → Goal
    by_mover (inl (m, (was, changed))) =
        moved-only before cs m ready was (λ u among does. one u m among was does changed)
        ∙ ap (λ d. if d then moved_last ready m else ready) changed
        ∙ parts m (is_among ready m) refl
        ∙ ap (λ zs. filter (λ u. not (u == m)) ready ++ zs) (sym (single m ready (once m)))
        ∙ ap (λ zs. zs ++ filter (λ u. u == m) ready) (filter-all (λ u. not (u == m)) (λ t. not (is_among before t && is_changed cs t)) ready (λ t. ap not (sym (is-it m was changed t))))
        ∙ ap (λ zs. filter (λ t. not (is_among before t && is_changed cs t)) ready ++ zs) (filter-all (λ u. u == m) (λ t. is_among before t && is_changed cs t) ready (λ t. sym (is-it m was changed t)))
    by_mover (inr stays) =
        stays.order ready
        ∙ sym (ap (λ zs. zs ++ filter (λ t. is_among before t && is_changed cs t) ready) (filter-all (λ t. not (is_among before t && is_changed cs t)) (λ t. true) ready (λ t. ap not (stays.nobody t)) ∙ filter-every ready)
        ∙ ap (λ zs. ready ++ zs) (filter-all (λ t. is_among before t && is_changed cs t) (λ t. false) ready stays.nobody ∙ filter-none ready)
        ∙ append-none ready)

-- who is among the changes by the plain states alone

and-off : (b : Bool) → b && false ≡ false
and-off true = refl
and-off false = refl

one-step : (r : Option CurChange) (a t : ℕ) (rest : List CurChange) → IfSome r (λ c. c.thread ≡ a) → is_changed (cons_option r rest) t ≡ (is_some r && eqb a t) || is_changed rest t
one-step None a t rest own = refl
one-step (Some c) a t rest own = ap (λ n. eqb n t || is_changed rest t) own

changed-later : (h : ℕ → Option CurChange) → Own h → (a n t : ℕ) → t < a → is_changed (filter_map h (range_with_len a n)) t ≡ false
changed-later h own a zero t low = refl
changed-later h own a (suc n) t low =
    one-step (h a) a t (filter_map h (range_with_len (a + 1) n)) (own a)
    ∙ ap (λ e. (is_some (h a) && e) || is_changed (filter_map h (range_with_len (a + 1) n)) t) (ne_eqb a t (λ same. omega (arith, same, low)))
    ∙ ap (λ e. e || is_changed (filter_map h (range_with_len (a + 1) n)) t) (and-off (is_some (h a)))
    ∙ changed-later h own (a + 1) n t (omega (arith, low))

changed-at : (h : ℕ → Option CurChange) → Own h → (a n t : ℕ) → a ≤ t → t < a + n → is_changed (filter_map h (range_with_len a n)) t ≡ is_some (h t)
changed-at h own a zero t from to = absurd (omega (arith, from, to))
changed-at h own a (suc n) t from to = one-step (h a) a t (filter_map h (range_with_len (a + 1) n)) (own a) ∙ by_case (cases_lt a t) (λ later. changed-at h own (a + 1) n t (omega (arith, later)) (omega (arith, to)))
  where
    on : (b : Bool) → (b && true) || false ≡ b
    on true = refl
    on false = refl

    by_case : (a < t) ⊎ (t ≤ a) → (a < t → is_changed (filter_map h (range_with_len (a + 1) n)) t ≡ is_some (h t)) → (is_some (h a) && eqb a t) || is_changed (filter_map h (range_with_len (a + 1) n)) t ≡ is_some (h t)
    by_case (inl later) rest =
        ap (λ e. (is_some (h a) && e) || is_changed (filter_map h (range_with_len (a + 1) n)) t) (ne_eqb a t (λ same. omega (arith, same, later)))
        ∙ ap (λ e. e || is_changed (filter_map h (range_with_len (a + 1) n)) t) (and-off (is_some (h a)))
        ∙ rest later
    by_case (inr here) rest =
        let same : a ≡ t = omega (arith, from, here) in
        ap (λ e. (is_some (h a) && eqb a t) || e) (changed-later h own (a + 1) n t (omega (arith, here)))
        ∙ ap (λ m. (is_some (h m) && eqb m t) || false) same
        ∙ ap (λ e. (is_some (h t) && e) || false) (itself t)
        ∙ on (is_some (h t))

new-own : (before after : State) → Own (new_cur_of before after)
new-own before after t = by_test (not (is_closed (thread_at after t).stage) && has_new_cur before after t)
  where
    by_test : (e : Bool) → IfSome (made_if e t (cur before t) (cur after t)) (λ (c : CurChange). c.thread ≡ t)
    by_test true = refl
    by_test false = tt

live-changed : (before after : State) (t : ℕ) → t < length after.threads → is_closed (thread_at after t).stage ≡ false → is_changed (new_curs before after) t ≡ has_new_cur before after t
live-changed before after t low live =
    changed-at (new_cur_of before after) (new-own before after) 0 (length after.threads) t (omega arith) (omega (arith, low))
    ∙ ap (λ d. is_some (made_if (not d && has_new_cur before after t) t (cur before t) (cur after t))) live
    ∙ by_test (has_new_cur before after t)
  where
    by_test : (e : Bool) → is_some (made_if e t (cur before t) (cur after t)) ≡ e
    by_test true = refl
    by_test false = refl

all-moved : (before after : State) (xs : List ℕ) → AllByRecursion (λ t. (t < length after.threads) × (is_closed (thread_at after t).stage ≡ false)) xs → AllByRecursion (λ t. (is_among before.ready t && is_changed (new_curs before after) t) ≡ is_moved before after t) xs
all-moved before after [] live = tt
all-moved before after (t ∷ ts) (this, live) = (ap (λ e. is_among before.ready t && e) (live-changed before after t this.0 this.1), all-moved before after ts live)

all-not : (p q : ℕ → Bool) (xs : List ℕ) → AllByRecursion (λ x. p x ≡ q x) xs → AllByRecursion (λ x. not (p x) ≡ not (q x)) xs
all-not p q [] same = tt
all-not p q (x ∷ xs) (this, same) = (ap not this, all-not p q xs same)

pub settles : (b : PlainBoard) (before : State) (e : Effect) → AreLive e.state → AreOnce e.state.ready → MovesOne before.ready (new_curs before e.state) → settled_effect b before e ≡ settled_by b before (new_curs before e.state) e
settles b before e live once one =
    ap (λ xs. record { state = reordered_state before e.state; lines = e.lines ++ xs ++ mode_lines b before e.state }) (prio-lines-new before e.state)
    ∙ ap (λ xs. record { state = record (e.state) { ready = xs }; lines = e.lines ++ map (change_line e.state) (new_curs before e.state) ++ mode_lines b before e.state }) (sym ready)
  where
    cs : List CurChange
    cs = new_curs before e.state

    same : AllByRecursion (λ t. (is_among before.ready t && is_changed (new_curs before e.state) t) ≡ is_moved before e.state t) e.state.ready
    same = all-moved before e.state e.state.ready live

    ready : moved_behind before.ready cs e.state.ready ≡ (reordered_state before e.state).ready
    ready =
        moved-part before.ready cs e.state.ready one once
        ∙ ap (λ xs. xs ++ filter (λ t. is_among before.ready t && is_changed (new_curs before e.state) t) e.state.ready)
        (filter-agree (λ t. not (is_among before.ready t && is_changed (new_curs before e.state) t)) (λ t. not (is_moved before e.state t)) e.state.ready (all-not (λ t. is_among before.ready t && is_changed (new_curs before e.state) t) (is_moved before e.state) e.state.ready same))
        ∙ ap (λ xs. filter (λ t. not (is_moved before e.state t)) e.state.ready ++ xs) (filter-agree (λ t. is_among before.ready t && is_changed (new_curs before e.state) t) (is_moved before e.state) e.state.ready same)
