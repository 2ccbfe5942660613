-- The least number of those that wait for a thread stands at the first waiters of its mutexes.
use Rattle.std.proofs.Common.{ℕ, ◌≡◌, ◌≢◌, ◌+◌, ◌<◌, ◌≤◌, zero, suc, List, [], ◌∷◌, length, map, Bool, true, false, cond, ◌||◌, ◌&&◌, Option, Some, None, refl, sym, ap, subst, ◌∙◌, arith, ◌⊎◌, inl, inr, ⊎_elim}
use Rattle.std.specs.Prelude.{filter, fold, min, slice_index, slice_get, slice_index_or, nat_lt, ◌==◌}
use Rattle.std.specs.List.{filter_map, range_with_len, cons_option, find, AllPairs}
use Rattle.std.specs.Option.{option_map, option_and_then}
use Rattle.std.proofs.lemmas.Bool.{cases_lt, cases_Bool, eqb-true, eq-eqb, false≢true, or_cases, or_left, or_right, ltb-true, ltb-false, cases_eq}
use Rattle.std.proofs.lemmas.Option.{none-some}
use Rattle.std.proofs.lemmas.List.Elements.{All-get_or}
use Rattle.rt_base.specs.declared.codes.WaitOrder.{WaitOrder}
use Rattle.rt_plain.specs.kernel.State.{is_among}
use Rattle.rt_plain.specs.kernel.Waiting.{Waiter, stands_before, comes_before, in_order, first_of}
use Rattle.rt_plain.specs.kernel.Ownership.{Ownership, Member, Taken, MutexWait, member_at, is_there, base_of, wait_of, awaited_in, owner_in, owned_in, member_urgency}
use Rattle.susp_list.specs.Rows.{waiter_of, waiters}
use Rattle.mutex_chain.specs.Owners.{IsSound, IsSmall, has_thread, blocker_in}
use Rattle.mutex_chain.specs.Graph.{sooner_of}
use Rattle.mutex_chain.specs.Lines.{line_row, line_of, first_number}
use Rattle.mutex_chain.specs.Renewing.{IsLeast, IsRenewing, IsAhead}
use Rattle.mutex_chain.proofs.FirstLemmas.{first_waiter, first_put, first_head}
use Rattle.mutex_chain.proofs.OwnerLemmas.{Apart, apart_head, apart_tail}
use Rattle.mutex_chain.proofs.CurLemmas.{found, awaited_by}
use Rattle.mutex_chain.proofs.StoredLemmas.{row_at, length-line_rows}
use Rattle.mutex_chain.proofs.StrongLemmas.{waiter_within}

abbrev Each : (Waiter → Type 0) → List Waiter → Type 0
Each P [] = Unit {0}
Each P (w ∷ ws) = P w × Each P ws

stands_low : (v w : Waiter) (b : Bool) → stands_before WaitOrder.Prio v w ≡ b → cond b v.prio w.prio ≤ v.prio × cond b v.prio w.prio ≤ w.prio
stands_low v w b e = by_tests (nat_lt v.prio w.prio) refl (v.prio == w.prio) refl b e
  where
    by_tests : (c : Bool) → nat_lt v.prio w.prio ≡ c → (d : Bool) → (v.prio == w.prio) ≡ d → (b : Bool) → stands_before WaitOrder.Prio v w ≡ b → cond b v.prio w.prio ≤ v.prio × cond b v.prio w.prio ≤ w.prio
    by_tests true f d g true k = let low : v.prio < w.prio = ltb-true v.prio w.prio f in (omega arith, omega arith)
    by_tests true f d g false k = absurd (false≢true (sym k ∙ or_left (nat_lt v.prio w.prio) _ f))
    by_tests false f true g b k = let same : v.prio ≡ w.prio = eqb-true v.prio w.prio g in both b same
      where
        both : (b : Bool) → v.prio ≡ w.prio → cond b v.prio w.prio ≤ v.prio × cond b v.prio w.prio ≤ w.prio
        both true same = (omega arith, omega arith)
        both false same = (omega arith, omega arith)
    by_tests false f false g true k = absurd (false≢true (sym (ap (λ x. x || ((v.prio == w.prio) && comes_before v w)) f ∙ ap (λ x. x && comes_before v w) g) ∙ k))
    by_tests false f false g false k = let low : w.prio ≤ v.prio = ltb-false v.prio w.prio f in (omega arith, omega arith)

-- the first of some waiters is one of them, and at most as urgent as each
first_least : (P : Waiter → Type 0) (ws : List Waiter) (v : Waiter) → Each P ws → first_waiter (in_order WaitOrder.Prio ws) ≡ Some v → P v × Each (λ w. v.prio ≤ w.prio) ws
first_least P [] v each e = absurd (none-some v e)
first_least P (w ∷ ws) v each e = by_first (λ u f. first_least P ws u each.1 f) (first_waiter (in_order WaitOrder.Prio ws)) refl (sym (first_put w (in_order WaitOrder.Prio ws)) ∙ e)
  where
    lower : (a b : ℕ) (us : List Waiter) → a ≤ b → Each (λ w. b ≤ w.prio) us → Each (λ w. a ≤ w.prio) us
    lower a b [] h rs = tt
    lower a b (u ∷ us) h rs = (omega (arith, rs.0), lower a b us h rs.1)

    none_first : (us : List Waiter) → first_waiter us ≡ None → us ≡ []
    none_first [] f = refl
    none_first (u ∷ us) f = absurd (none-some u (sym f))

    nobody : (us : List Waiter) → first_waiter (in_order WaitOrder.Prio us) ≡ None → (a : ℕ) → Each (λ w. a ≤ w.prio) us
    nobody [] f a = tt
    nobody (u ∷ us) f a = absurd (none-some (sooner_of u (first_waiter (in_order WaitOrder.Prio us))) (sym (sym (first_put u (in_order WaitOrder.Prio us)) ∙ f)))

    by_test : (u : Waiter) → (b : Bool) → stands_before WaitOrder.Prio w u ≡ b → P u × Each (λ w. u.prio ≤ w.prio) ws → Some (cond b w u) ≡ Some v → P v × Each (λ w. v.prio ≤ w.prio) (w ∷ ws)
    by_test u true h rest g =
        let same : w ≡ v = cc in
        let low = (stands_low w u true h).1 in
        let prio : w.prio ≡ v.prio = ap (λ (x : Waiter). x.prio) same in
        (subst P same each.0, (omega (arith, prio), lower v.prio u.prio ws (omega (arith, low, prio)) rest.1))
    by_test u false h rest g =
        let same : u ≡ v = cc in
        let low = (stands_low w u false h).0 in
        let prio : u.prio ≡ v.prio = ap (λ (x : Waiter). x.prio) same in
        (subst P same rest.0, (omega (arith, low, prio), lower v.prio u.prio ws (omega (arith, prio)) rest.1))

    by_first : ((u : Waiter) → first_waiter (in_order WaitOrder.Prio ws) ≡ Some u → P u × Each (λ w. u.prio ≤ w.prio) ws)
        → (r : Option Waiter) → first_waiter (in_order WaitOrder.Prio ws) ≡ r → Some (sooner_of w r) ≡ Some v → P v × Each (λ w. v.prio ≤ w.prio) (w ∷ ws)
    by_first again None f g =
        let same : w ≡ v = cc in
        (subst P same each.0, (let low : v.prio ≤ w.prio = omega (arith, ap (λ (x : Waiter). x.prio) same) in low, nobody ws f v.prio))
    by_first again (Some u) f g = by_test u (stands_before WaitOrder.Prio w u) refl (again u f) g

each_row : (P : Waiter → Type 0) (f : ℕ → Option Waiter) (a n : ℕ) → ((t : ℕ) (w : Waiter) → a ≤ t → t < a + n → f t ≡ Some w → P w) → Each P (filter_map f (range_with_len a n))
each_row P f a zero all = tt
each_row P f a (suc n) all = by_row (f a) refl (each_row P f (a + 1) n (λ t w low high e. all t w (omega arith) (omega arith) e))
  where
    by_row : (r : Option Waiter) → f a ≡ r → Each P (filter_map f (range_with_len (a + 1) n)) → Each P (cons_option r (filter_map f (range_with_len (a + 1) n)))
    by_row None e rest = rest
    by_row (Some w) e rest = (all a w (omega arith) (omega arith) e, rest)

row_of_each : (P : Waiter → Type 0) (f : ℕ → Option Waiter) (a n : ℕ) → Each P (filter_map f (range_with_len a n)) → (t : ℕ) (w : Waiter) → a ≤ t → t < a + n → f t ≡ Some w → P w
row_of_each P f a zero each t w low high e = absurd (omega arith)
row_of_each P f a (suc n) each t w low high e = by_row (λ r h. row_of_each P f (a + 1) n r t w h (omega arith) e) (f a) refl each (cases_eq t a)
  where
    some_is : (v w : Waiter) → Some v ≡ Some w → v ≡ w
    some_is v w e = cc

    by_row : (Each P (filter_map f (range_with_len (a + 1) n)) → a + 1 ≤ t → P w) → (r : Option Waiter) → f a ≡ r → Each P (cons_option r (filter_map f (range_with_len (a + 1) n))) → (t ≡ a) ⊎ (t ≢ a) → P w
    by_row again None g rest (inl same) = absurd (none-some w (sym g ∙ ap f (sym same) ∙ e))
    by_row again None g rest (inr ne) = again rest (omega arith)
    by_row again (Some v) g rest (inl same) = subst P (some_is v w (sym g ∙ ap f (sym same) ∙ e)) rest.0
    by_row again (Some v) g rest (inr ne) = again rest.1 (omega arith)

-- what the waiters of a list are
abbrev IsRowOf : Ownership → List ℕ → ℕ → Waiter → Type 0
IsRowOf o ns m w = (awaited_in o w.thread ≡ Some m) × (w.prio ≡ min (slice_index ns w.thread) 255)

rows_have : (o : Ownership) (ns : List ℕ) (m t : ℕ) (w : Waiter) → t < length o.members → waiter_of t (slice_get (line_of o ns m).rows t) ≡ Some w → IsRowOf o ns m w
rows_have o ns m t w h e = by_wait (wait_of o t) refl (sym (ap (waiter_of t) (row_at o ns m t h)) ∙ e)
  where
    by_test : (v : MutexWait) → wait_of o t ≡ Some v → (b : Bool) → (v.mutex == m) ≡ b → waiter_of t (Some (cond b (Some (record { prio = min (slice_index ns t) 255; at = v.number })) None)) ≡ Some w → IsRowOf o ns m w
    by_test v f true g k =
        let row : record { thread = t; prio = min (slice_index ns t) 255; number = v.number } ≡ w = cc in
        let thread : t ≡ w.thread = ap (λ (x : Waiter). x.thread) row in (
          ap (awaited_in o) (sym thread) ∙ ap (option_map (λ (x : MutexWait). x.mutex)) f ∙ ap Some (eqb-true v.mutex m g),
          sym (ap (λ (x : Waiter). x.prio) row) ∙ ap (λ i. min (slice_index ns i) 255) thread,
        )
    by_test v f false g k = absurd (none-some w k)

    by_wait : (r : Option MutexWait) → wait_of o t ≡ r → waiter_of t (Some (line_row (slice_index ns t) m r)) ≡ Some w → IsRowOf o ns m w
    by_wait None f k = absurd (none-some w k)
    by_wait (Some v) f k = by_test v f (v.mutex == m) refl k

all_rows : (o : Ownership) (ns : List ℕ) (m : ℕ) → Each (IsRowOf o ns m) (waiters (line_of o ns m))
all_rows o ns m =
    each_row (IsRowOf o ns m) (λ t. waiter_of t (slice_get (line_of o ns m).rows t)) 0 (length (line_of o ns m).rows)
    (λ t w low high e. rows_have o ns m t w (omega (arith, length-line_rows o ns m)) e)

thread_first : (ws : List Waiter) (t : ℕ) → option_map (λ (w : Waiter). w.thread) (first_waiter (in_order WaitOrder.Prio ws)) ≡ Some t → (w : Waiter) × (first_waiter (in_order WaitOrder.Prio ws) ≡ Some w) × (w.thread ≡ t)
thread_first ws t e = by_first (first_waiter (in_order WaitOrder.Prio ws)) refl e
  where
    by_first : (r : Option Waiter) → first_waiter (in_order WaitOrder.Prio ws) ≡ r → option_map (λ (w : Waiter). w.thread) r ≡ Some t → (w : Waiter) × (first_waiter (in_order WaitOrder.Prio ws) ≡ Some w) × (w.thread ≡ t)
    by_first None f g = absurd (none-some t g)
    by_first (Some w) f g = let same : w.thread ≡ t = cc in (w, f, same)

-- the first number is that of a waiter
first_from : (o : Ownership) (ns : List ℕ) (m n : ℕ) → first_number o ns m ≡ Some n → (x : ℕ) × (awaited_in o x ≡ Some m) × (n ≡ min (slice_index ns x) 255)
first_from o ns m n e = by_first (first_of WaitOrder.Prio (waiters (line_of o ns m))) refl e
  where
    by_first : (r : Option ℕ) → first_of WaitOrder.Prio (waiters (line_of o ns m)) ≡ r → option_map (λ t. min (slice_index ns t) 255) r ≡ Some n → (x : ℕ) × (awaited_in o x ≡ Some m) × (n ≡ min (slice_index ns x) 255)
    by_first None f g = absurd (none-some n g)
    by_first (Some t) f g =
        let v = thread_first (waiters (line_of o ns m)) t (first_head (in_order WaitOrder.Prio (waiters (line_of o ns m))) ∙ f) in
        let row : IsRowOf o ns m v.0 = (first_least (IsRowOf o ns m) (waiters (line_of o ns m)) v.0 (all_rows o ns m) v.1).0 in
        let number : min (slice_index ns t) 255 ≡ n = cc in
        (t, ap (awaited_in o) (sym v.2) ∙ row.0, sym number)

-- and at most that of each
first_below : (o : Ownership) (ns : List ℕ) (m y : ℕ) → y < length o.members → awaited_in o y ≡ Some m → (n : ℕ) × (first_number o ns m ≡ Some n) × (n ≤ min (slice_index ns y) 255)
first_below o ns m y h e = by_first (first_waiter (in_order WaitOrder.Prio (waiters (line_of o ns m)))) refl
  where
    waits : (r : Option MutexWait) → wait_of o y ≡ r → option_map (λ (w : MutexWait). w.mutex) r ≡ Some m → (w : Waiter) × (waiter_of y (slice_get (line_of o ns m).rows y) ≡ Some w) × (w.prio ≡ min (slice_index ns y) 255)
    waits None f g = absurd (none-some m g)
    waits (Some v) f g =
        let same : v.mutex ≡ m = cc in (
          record { thread = y; prio = min (slice_index ns y) 255; number = v.number },
          ap (waiter_of y) (row_at o ns m y h ∙ ap (λ r. Some (line_row (slice_index ns y) m r)) f
              ∙ ap (λ b. Some (cond b (Some (record { prio = min (slice_index ns y) 255; at = v.number })) None)) (eq-eqb v.mutex m same)),
          refl,
        )

    mine : (w : Waiter) × (waiter_of y (slice_get (line_of o ns m).rows y) ≡ Some w) × (w.prio ≡ min (slice_index ns y) 255)
    mine = waits (wait_of o y) refl e

    by_first : (r : Option Waiter) → first_waiter (in_order WaitOrder.Prio (waiters (line_of o ns m))) ≡ r → (n : ℕ) × (first_number o ns m ≡ Some n) × (n ≤ min (slice_index ns y) 255)
    by_first None f =
        absurd (row_of_each (λ w. ⊥) (λ t. waiter_of t (slice_get (line_of o ns m).rows t)) 0 (length (line_of o ns m).rows) (nobody (waiters (line_of o ns m)) f) y mine.0 (omega arith)
        (omega (arith, length-line_rows o ns m)) mine.1)
      where
        nobody : (us : List Waiter) → first_waiter (in_order WaitOrder.Prio us) ≡ None → Each (λ w. ⊥) us
        nobody [] f = tt
        nobody (u ∷ us) f = absurd (none-some (sooner_of u (first_waiter (in_order WaitOrder.Prio us))) (sym (sym (first_put u (in_order WaitOrder.Prio us)) ∙ f)))
    by_first (Some v) f =
        let least = first_least (IsRowOf o ns m) (waiters (line_of o ns m)) v (all_rows o ns m) f in
        let low : v.prio ≤ mine.0.prio =
        row_of_each (λ w. v.prio ≤ w.prio) (λ t. waiter_of t (slice_get (line_of o ns m).rows t)) 0 (length (line_of o ns m).rows) least.1 y mine.0 (omega arith) (omega (arith, length-line_rows o ns m)) mine.1 in
        let prio : mine.0.prio ≡ min (slice_index ns y) 255 = mine.2 in
        let number : v.prio ≡ min (slice_index ns v.thread) 255 = least.0.1 in (
          min (slice_index ns v.thread) 255,
          ap (option_map (λ t. min (slice_index ns t) 255)) (sym (first_head (in_order WaitOrder.Prio (waiters (line_of o ns m)))) ∙ ap (option_map (λ (w : Waiter). w.thread)) f),
          omega arith,
        )

-- the least of a number and some others
fold_low : (a : ℕ) (xs : List ℕ) → fold min a xs ≤ a
fold_low a [] = omega arith
fold_low a (x ∷ xs) = omega (arith, fold_low (min a x) xs)

fold_each : (f : ℕ → Option ℕ) (ms : List ℕ) (a m n : ℕ) → is_among ms m ≡ true → f m ≡ Some n → fold min a (filter_map f ms) ≤ n
fold_each f [] a m n h e = absurd (false≢true h)
fold_each f (k ∷ ms) a m n h e = by_row (λ b later. fold_each f ms b m n later e) (f k) refl (or_cases (k == m) (is_among ms m) h)
  where
    some_is : (x n : ℕ) → Some x ≡ Some n → x ≡ n
    some_is x n e = cc

    by_row : ((b : ℕ) → is_among ms m ≡ true → fold min b (filter_map f ms) ≤ n) → (r : Option ℕ) → f k ≡ r → ((k == m) ≡ true) ⊎ (is_among ms m ≡ true) → fold min a (cons_option r (filter_map f ms)) ≤ n
    by_row again None g (inl s) = absurd (none-some n (sym g ∙ ap f (eqb-true k m s) ∙ e))
    by_row again None g (inr later) = again a later
    by_row again (Some x) g (inl s) =
        let same : x ≡ n = some_is x n (sym g ∙ ap f (eqb-true k m s) ∙ e) in
        omega (arith, fold_low (min a x) (filter_map f ms))
    by_row again (Some x) g (inr later) = again (min a x) later

fold_from : (f : ℕ → Option ℕ) (ms : List ℕ) (a : ℕ) → (fold min a (filter_map f ms) ≡ a) ⊎ ((m : ℕ) × (is_among ms m ≡ true) × (f m ≡ Some (fold min a (filter_map f ms))))
fold_from f [] a = inl refl
fold_from f (k ∷ ms) a = by_row (λ b. fold_from f ms b) (f k) refl
  where
    later : (b : ℕ) → ((m : ℕ) × (is_among ms m ≡ true) × (f m ≡ Some (fold min b (filter_map f ms)))) → (m : ℕ) × (is_among (k ∷ ms) m ≡ true) × (f m ≡ Some (fold min b (filter_map f ms)))
    later b w = (w.0, or_right (k == w.0) (is_among ms w.0) w.1, w.2)

    here : (x : ℕ) → f k ≡ Some x → (x < a) ⊎ (a ≤ x) → fold min (min a x) (filter_map f ms) ≡ min a x
        → (fold min (min a x) (filter_map f ms) ≡ a) ⊎ ((m : ℕ) × (is_among (k ∷ ms) m ≡ true) × (f m ≡ Some (fold min (min a x) (filter_map f ms))))
    here x g (inl less) e =
        let is : x ≡ fold min (min a x) (filter_map f ms) = omega arith in
        inr (k, or_left (k == k) (is_among ms k) (eq-eqb k k refl), g ∙ ap Some is)
    here x g (inr more) e = inl (omega arith)

    by_row : ((b : ℕ) → (fold min b (filter_map f ms) ≡ b) ⊎ ((m : ℕ) × (is_among ms m ≡ true) × (f m ≡ Some (fold min b (filter_map f ms))))) → (r : Option ℕ) → f k ≡ r
        → (fold min a (cons_option r (filter_map f ms)) ≡ a) ⊎ ((m : ℕ) × (is_among (k ∷ ms) m ≡ true) × (f m ≡ Some (fold min a (cons_option r (filter_map f ms)))))
    by_row again None g = ⊎_elim inl (λ w. inr (later a w)) (again a)
    by_row again (Some x) g = ⊎_elim (λ e. here x g (cases_lt x a) e) (λ w. inr (later (min a x) w)) (again (min a x))

-- a thread owns a mutex exactly where that is one of its mutexes
owns_among : (t m : ℕ) (hs : List Taken) → option_map (λ (h : Taken). h.owner) (find (λ h. h.mutex == m) hs) ≡ Some t → is_among (map (λ h. h.mutex) (filter (λ h. h.owner == t) hs)) m ≡ true
owns_among t m [] e = absurd (none-some t e)
owns_among t m (h ∷ hs) e = by_tests (λ k. owns_among t m hs k) (h.mutex == m) refl (h.owner == t) refl e
  where
    by_tests : (option_map (λ (h : Taken). h.owner) (find (λ h. h.mutex == m) hs) ≡ Some t → is_among (map (λ h. h.mutex) (filter (λ h. h.owner == t) hs)) m ≡ true)
        → (b : Bool) → (h.mutex == m) ≡ b → (c : Bool) → (h.owner == t) ≡ c → option_map (λ (h : Taken). h.owner) (cond b (Some h) (find (λ h. h.mutex == m) hs)) ≡ Some t
        → is_among (map (λ h. h.mutex) (cond c (h ∷ filter (λ h. h.owner == t) hs) (filter (λ h. h.owner == t) hs))) m ≡ true
    by_tests again true f true g k = or_left (h.mutex == m) (is_among (map (λ h. h.mutex) (filter (λ h. h.owner == t) hs)) m) f
    by_tests again true f false g k = let same : h.owner ≡ t = cc in absurd (false≢true (sym g ∙ eq-eqb h.owner t same))
    by_tests again false f true g k = or_right (h.mutex == m) (is_among (map (λ h. h.mutex) (filter (λ h. h.owner == t) hs)) m) (again k)
    by_tests again false f false g k = again k

found_mutex : (m : ℕ) (hs : List Taken) (k : Taken) → find (λ h. h.mutex == m) hs ≡ Some k → k.mutex ≡ m
found_mutex m [] k at = absurd (none-some k at)
found_mutex m (g ∷ gs) k at = by_test (λ e. found_mutex m gs k e) (g.mutex == m) refl at
  where
    by_test : (find (λ h. h.mutex == m) gs ≡ Some k → k.mutex ≡ m) → (b : Bool) → (g.mutex == m) ≡ b → cond b (Some g) (find (λ h. h.mutex == m) gs) ≡ Some k → k.mutex ≡ m
    by_test again true f at = let same : g ≡ k = cc in sym (ap (λ (x : Taken). x.mutex) same) ∙ eqb-true g.mutex m f
    by_test again false f at = again at

among_owns : (t m : ℕ) (hs : List Taken) → AllPairs Apart hs → is_among (map (λ h. h.mutex) (filter (λ h. h.owner == t) hs)) m ≡ true → option_map (λ (h : Taken). h.owner) (find (λ h. h.mutex == m) hs) ≡ Some t
among_owns t m [] once e = absurd (false≢true e)
among_owns t m (h ∷ hs) once e = by_tests (λ k. among_owns t m hs (apart_tail h hs once) k) (h.mutex == m) refl (h.owner == t) refl e
  where
    found_later : (r : Option Taken) → find (λ h. h.mutex == m) hs ≡ r → option_map (λ (h : Taken). h.owner) r ≡ Some t → h.mutex ≡ m → ⊥
    found_later None at k same = none-some t k
    found_later (Some v) at k same =
        let far : h.mutex ≢ v.mutex = found (Apart h) (λ (h : Taken). h.mutex == m) hs v (apart_head h hs once) at in
        far (same ∙ sym (found_mutex m hs v at))

    by_tests : (is_among (map (λ h. h.mutex) (filter (λ h. h.owner == t) hs)) m ≡ true → option_map (λ (h : Taken). h.owner) (find (λ h. h.mutex == m) hs) ≡ Some t)
        → (b : Bool) → (h.mutex == m) ≡ b → (c : Bool) → (h.owner == t) ≡ c → is_among (map (λ h. h.mutex) (cond c (h ∷ filter (λ h. h.owner == t) hs) (filter (λ h. h.owner == t) hs))) m ≡ true
        → option_map (λ (h : Taken). h.owner) (cond b (Some h) (find (λ h. h.mutex == m) hs)) ≡ Some t
    by_tests again true f true g k = ap Some (eqb-true h.owner t g)
    by_tests again true f false g k = absurd (found_later (find (λ h. h.mutex == m) hs) refl (again k) (eqb-true h.mutex m f))
    by_tests again false f true g k = again (⊎_elim (λ s. absurd (false≢true (sym f ∙ s))) (λ later. later) (or_cases (h.mutex == m) (is_among (map (λ h. h.mutex) (filter (λ h. h.owner == t) hs)) m) k))
    by_tests again false f false g k = again k

-- the least of the own urgency and the numbers of the first waiters
pub least_is : (o : Ownership) (ns : List ℕ) (t least : ℕ) → IsSound o → (member_urgency o t ≤ 255) ⊎ ((x : ℕ) → blocker_in o x ≡ Some t → slice_index ns x ≤ 255)
    → least ≡ fold min (member_urgency o t) (filter_map (first_number o ns) (owned_in o t)) → IsLeast o ns t least
least_is o ns t least s fits is = record {
  own = omega (arith, is, fold_low (member_urgency o t) (filter_map (first_number o ns) (owned_in o t)));
  edges = λ x e. edges x e;
  reached = rw is (reached (fold_from (first_number o ns) (owned_in o t) (member_urgency o t)));
}
  where
    blocked : (x : ℕ) (r : Option ℕ) → awaited_in o x ≡ r → option_and_then (owner_in o) r ≡ Some t → (m : ℕ) × (awaited_in o x ≡ Some m) × (is_among (owned_in o t) m ≡ true)
    blocked x None f e = absurd (none-some t e)
    blocked x (Some m) f e = (m, f, owns_among t m o.taken e)

    edges : (x : ℕ) → blocker_in o x ≡ Some t → least ≤ slice_index ns x
    edges x e =
        let w = blocked x (awaited_in o x) refl e in
        let v = first_below o ns w.0 x (waiter_within o x t e) w.1 in
        let low : v.0 ≤ min (slice_index ns x) 255 = v.2 in
        omega (arith, is, fold_each (first_number o ns) (owned_in o t) (member_urgency o t) w.0 v.0 w.2 v.1)

    by_size : (x : ℕ) → blocker_in o x ≡ Some t → fold min (member_urgency o t) (filter_map (first_number o ns) (owned_in o t)) ≡ min (slice_index ns x) 255 → (255 < slice_index ns x) ⊎ (slice_index ns x ≤ 255)
        → (member_urgency o t ≤ 255) ⊎ ((x : ℕ) → blocker_in o x ≡ Some t → slice_index ns x ≤ 255)
        → (fold min (member_urgency o t) (filter_map (first_number o ns) (owned_in o t)) ≡ member_urgency o t)
        ⊎ ((x : ℕ) × (blocker_in o x ≡ Some t) × (fold min (member_urgency o t) (filter_map (first_number o ns) (owned_in o t)) ≡ slice_index ns x))
    by_size x e k (inr small) f = inr (x, e, omega arith)
    by_size x e k (inl big) (inl own) = inl (omega (arith, fold_low (member_urgency o t) (filter_map (first_number o ns) (owned_in o t))))
    by_size x e k (inl big) (inr all) = let low : slice_index ns x ≤ 255 = all x e in absurd (omega arith)

    reached : (fold min (member_urgency o t) (filter_map (first_number o ns) (owned_in o t)) ≡ member_urgency o t)
        ⊎ ((m : ℕ) × (is_among (owned_in o t) m ≡ true) × (first_number o ns m ≡ Some (fold min (member_urgency o t) (filter_map (first_number o ns) (owned_in o t)))))
        → (fold min (member_urgency o t) (filter_map (first_number o ns) (owned_in o t)) ≡ member_urgency o t)
        ⊎ ((x : ℕ) × (blocker_in o x ≡ Some t) × (fold min (member_urgency o t) (filter_map (first_number o ns) (owned_in o t)) ≡ slice_index ns x))
    reached (inl e) = inl e
    reached (inr w) =
        let v = first_from o ns w.0 (fold min (member_urgency o t) (filter_map (first_number o ns) (owned_in o t))) w.2 in
        let waits : blocker_in o v.0 ≡ Some t = ap (option_and_then (owner_in o)) v.1 ∙ among_owns t w.0 o.taken s.once w.1 in
        let number : fold min (member_urgency o t) (filter_map (first_number o ns) (owned_in o t)) ≡ min (slice_index ns v.0) 255 = v.2 in
        by_size v.0 waits number (cases_lt 255 (slice_index ns v.0)) fits

own_small : (o : Ownership) (t : ℕ) → IsSound o → t < length o.members → has_thread o t ≡ true → member_urgency o t ≤ 255
own_small o t s h there =
    let base : base_of (member_at o t) ≤ 255 = by_row (member_at o t) there (All-get_or IsSmall o.members t None h s.small) in
    omega (arith, fold_low (base_of (member_at o t)) (filter_map (λ mutex. slice_index_or o.ceilings mutex None) (owned_in o t)))
  where
    by_row : (m : Option Member) → is_there m ≡ true → IsSmall m → base_of m ≤ 255
    by_row None e r = absurd (false≢true e)
    by_row (Some m) e r = omega (arith, r)

gone_waits : (o : Ownership) (x : ℕ) → has_thread o x ≡ false → blocker_in o x ≡ None
gone_waits o x e = ap (λ m. option_and_then (owner_in o) (awaited_by m)) (by_row (member_at o x) e)
  where
    by_row : (m : Option Member) → is_there m ≡ false → m ≡ None
    by_row None e = refl
    by_row (Some m) e = absurd (false≢true (sym e))

pub blocked_there : (o : Ownership) (y x : ℕ) → blocker_in o y ≡ Some x → has_thread o y ≡ true
blocked_there o y x e = ⊎_elim (λ f. f) (λ f. absurd (none-some x (sym (gone_waits o y f) ∙ e))) (cases_Bool (has_thread o y))

-- a thread that is there has a byte's urgency, and who waits for one that is gone has a byte's number
pub least_fits : (o : Ownership) (ns : List ℕ) (left x number : ℕ) → IsSound o → IsRenewing o ns left (Some x) number → (member_urgency o x ≤ 255) ⊎ ((y : ℕ) → blocker_in o y ≡ Some x → slice_index ns y ≤ 255)
least_fits o ns left x number s r = by_there (cases_Bool (has_thread o x))
  where
    nobody : (n : ℕ) (y : ℕ) → IsAhead o n None y → ⊥
    nobody zero y a = a
    nobody (suc n) y a = a

    ahead : has_thread o x ≡ false → (n : ℕ) (y : ℕ) → has_thread o y ≡ true → IsAhead o n (Some x) y → ⊥
    ahead gone zero y there a = a
    ahead gone (suc n) y there (inl e) = false≢true (sym gone ∙ ap (has_thread o) e ∙ there)
    ahead gone (suc n) y there (inr a) = nobody n y (subst (λ b. IsAhead o n b y) (gone_waits o x gone) a)

    low : has_thread o x ≡ false → (y : ℕ) → blocker_in o y ≡ Some x → slice_index ns y ≤ 255
    low gone y e =
        let there : has_thread o y ≡ true = blocked_there o y x e in
        let inside : y < length o.members = waiter_within o y x e in
        ⊎_elim (λ (small : slice_index ns y ≤ member_urgency o y). let own : member_urgency o y ≤ 255 = own_small o y s inside there in let both : slice_index ns y ≤ 255 = omega arith in both)
        (λ a. absurd (ahead gone left y there a)) (r.own y inside)

    by_there : (has_thread o x ≡ true) ⊎ (has_thread o x ≡ false) → (member_urgency o x ≤ 255) ⊎ ((y : ℕ) → blocker_in o y ≡ Some x → slice_index ns y ≤ 255)
    by_there (inl there) = inl (own_small o x s (r.low x refl).0 there)
    by_there (inr gone) = inr (low gone)

-- the least of a number and those of the first waiters of those of these mutexes that a thread owns
abbrev pub firsts_with : Ownership → List ℕ → ℕ → ℕ → List Taken → ℕ
firsts_with o ns t n hs = fold min n (filter_map (first_number o ns) (map (λ h. h.mutex) (filter (λ h. h.owner == t) hs)))
