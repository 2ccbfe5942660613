-- Which threads an edit touches.
use Rattle.std.proofs.Common.{ℕ, ◌≡◌, ◌≢◌, ◌<◌, ◌≤◌, List, [], ◌∷◌, length, map, Bool, true, false, not, cond, ◌||◌, ◌&&◌, eqb, Option, Some, None, refl, sym, ap, ◌∙◌, arith, ◌⊎◌, inl, inr, get_or-set_other, ◌++◌, ⊎_elim}
use Rattle.std.specs.Prelude.{filter, slice_index_or, nat_lt, ◌==◌, ◌+◌, ◌-◌, slice_set, All}
use Rattle.std.specs.List.{AllPairs, find, filter_map, cons_option}
use Rattle.std.specs.Option.{option_map, option_and_then, option_to_list}
use Rattle.std.proofs.Math.ListN.{length-set}
use Rattle.std.proofs.lemmas.Bool.{eqb-true, eqb-false, ne_eqb, eq-eqb, cases_eq, cases_lt, or_parts, or_right, or_left, or_cases, false_from_ne_true, false≢true}
use Rattle.std.proofs.lemmas.List.{get_or_past}
use Rattle.std.proofs.lemmas.Option.{none-some}
use Rattle.std.proofs.lemmas.List.Elements.{All-head, All-tail}
use Rattle.std.proofs.lemmas.List.Kept.{AllPairs-filter, AllPairs-cons}
use Rattle.rt_plain.specs.kernel.State.{is_among}
use Rattle.rt_plain.specs.kernel.Priority.{blocker_of, urgency_of, least}
use Rattle.rt_plain.specs.kernel.Ownership.{Ownership, Member, Taken, member_at, base_of, taken_of, owner_in, owned_in, awaited_in, member_urgency, graph_in, cur_in, member_edit, take_edit, take_edit_of, with_taken_times, with_mutex_got, with_wait, leave_edit, first_in, pass_edit, pass_edit_to, release_edit, release_edit_of, ceiling_edit, kill_mutex_edit, leave_edits, with_mutex_free, waiters_in, with_member, passes_from, passes_of, pass_edits, kill_thread_edit}
use Rattle.rt_plain.specs.kernel.Weight.{passed_by, release_touches, ceiling_touches, mutex_end_touches, end_touches}
use Rattle.mutex_chain.specs.Owners.{blocker_in, with_hold, has_thread}
use Rattle.mutex_chain.specs.Equations.{SameBut, IsAway, Touches, IsTouched}
use Rattle.mutex_chain.proofs.OwnerLemmas.{Apart, others, others_same, apart_head, apart_tail, others_apart}
use Rattle.mutex_chain.proofs.HolderLemmas.{owner_among, others_none, others_other, same_owner}
use Rattle.mutex_chain.proofs.CurLemmas.{awaited_by, blocker_same, graph_urgency, length-map_range, found}
use Rattle.mutex_chain.proofs.KeepLemmas.{gone}
use Rattle.mutex_chain.proofs.PassLemmas.{owned_passed, still_gone}
use Rattle.mutex_chain.proofs.LawLemmas.{same_away}

touched_at : (touched : List ℕ) (a b : Option ℕ) → a ≡ b → IsTouched touched b → IsTouched touched a
touched_at touched a b e h = rw e h

-- the graphs of two moments differ at the touched threads alone
touched_graph : (touched : List ℕ) (o p : Ownership) → Touches touched o p → SameBut touched (graph_in o) (graph_in p)
touched_graph touched o p s = record {
  size = length-map_range (blocker_in o) 0 (length o.members) ∙ s.size ∙ sym (length-map_range (blocker_in p) 0 (length p.members));
  blockers = λ x e. by_case x (s.blockers x e);
  urgencies = λ x e. by_size x e (cases_lt x (length o.members));
}
  where
    by_case : (x : ℕ) → (blocker_in o x ≡ blocker_in p x) ⊎ (IsTouched touched (blocker_in o x) × IsTouched touched (blocker_in p x))
        → (blocker_of (graph_in o) x ≡ blocker_of (graph_in p) x) ⊎ (IsTouched touched (blocker_of (graph_in o) x) × IsTouched touched (blocker_of (graph_in p) x))
    by_case x (inl e) = inl (blocker_same o x ∙ e ∙ sym (blocker_same p x))
    by_case x (inr w) = inr (touched_at touched (blocker_of (graph_in o) x) (blocker_in o x) (blocker_same o x) w.0, touched_at touched (blocker_of (graph_in p) x) (blocker_in p x) (blocker_same p x) w.1)

    by_size : (x : ℕ) → is_among touched x ≡ false → (x < length o.members) ⊎ (length o.members ≤ x) → urgency_of (graph_in o) x ≡ urgency_of (graph_in p) x
    by_size x e (inl h) = graph_urgency o x h ∙ s.urgencies x e ∙ sym (graph_urgency p x (omega (arith, s.size)))
    by_size x e (inr h) =
        get_or_past (graph_in o).urgencies x 0 (omega (arith, length-map_range (member_urgency o) 0 (length o.members)))
        ∙ sym (get_or_past (graph_in p).urgencies x 0 (omega (arith, length-map_range (member_urgency p) 0 (length p.members), s.size)))

pub touched_cur : (touched : List ℕ) (o p : Ownership) (t : ℕ) → Touches touched o p → t < length o.members → IsAway touched (graph_in o) t → IsAway touched (graph_in p) t → cur_in o t ≡ cur_in p t
touched_cur touched o p t s h a b =
    same_away touched (graph_in o) (graph_in p) t (touched_graph touched o p s) (omega (arith, length-map_range (blocker_in o) 0 (length o.members))) a b

-- who isn't the one touched thread
other : (t x : ℕ) → is_among (t ∷ []) x ≡ false → x ≢ t
other t x e = λ s. eqb-false t x (or_parts (eqb t x) false e).0 (sym s)

-- another row of a thread
pub touches_member : (change : Member → Member) (t : ℕ) (o : Ownership) → Touches (t ∷ []) o (member_edit change t o)
touches_member change t o = record {
  size = sym (length-set o.members t (option_map change (member_at o t)));
  blockers = λ x e. inl (ap (λ m. option_and_then (owner_in o) (awaited_by m)) (sym (same x e)));
  urgencies = λ x e. ap (λ m. least (base_of m) (filter_map (λ mutex. slice_index_or o.ceilings mutex None) (owned_in o x))) (sym (same x e));
}
  where
    same : (x : ℕ) → is_among (t ∷ []) x ≡ false → member_at (member_edit change t o) x ≡ member_at o x
    same x e = get_or-set_other o.members t x (option_map change (member_at o t)) None (other t x e)

-- nothing changes
pub touches_nothing : (touched : List ℕ) (o : Ownership) → Touches touched o o
touches_nothing touched o = record { size = refl; blockers = λ x e. inl refl; urgencies = λ x e. refl }

-- a mutex that nobody owns has no row
pub none_free : (m : ℕ) (hs : List Taken) → find (λ h. h.mutex == m) hs ≡ None → others m hs ≡ hs
none_free m [] e = refl
none_free m (h ∷ hs) e = by_test (h.mutex == m) refl e (none_free m hs)
  where
    by_test : (b : Bool) → (h.mutex == m) ≡ b → cond b (Some h) (find (λ h. h.mutex == m) hs) ≡ None → (find (λ h. h.mutex == m) hs ≡ None → others m hs ≡ hs) → cond (not b) (h ∷ others m hs) (others m hs) ≡ h ∷ hs
    by_test true f k r = absurd (none-some h (sym k))
    by_test false f k r = ap (λ l. h ∷ l) (r k)

held_owned : (m hold x : ℕ) (hs : List Taken) → map (λ h. h.mutex) (filter (λ h. h.owner == x) (map (with_hold m hold) hs)) ≡ map (λ h. h.mutex) (filter (λ h. h.owner == x) hs)
held_owned m hold x [] = refl
held_owned m hold x (h ∷ hs) = by_test (h.mutex == m) refl (held_owned m hold x hs)
  where
    keep : (i j : Taken) (b : Bool) → i.mutex ≡ j.mutex → map (λ h. h.mutex) (filter (λ h. h.owner == x) (map (with_hold m hold) hs)) ≡ map (λ h. h.mutex) (filter (λ h. h.owner == x) hs)
        → map (λ (h : Taken). h.mutex) (cond b (i ∷ filter (λ h. h.owner == x) (map (with_hold m hold) hs)) (filter (λ h. h.owner == x) (map (with_hold m hold) hs)))
        ≡ map (λ (h : Taken). h.mutex) (cond b (j ∷ filter (λ h. h.owner == x) hs) (filter (λ h. h.owner == x) hs))
    keep i j true e r = ap (λ k. k ∷ map (λ (h : Taken). h.mutex) (filter (λ h. h.owner == x) (map (with_hold m hold) hs))) e ∙ ap (λ l. j.mutex ∷ l) r
    keep i j false e r = r

    by_test : (b : Bool) → (h.mutex == m) ≡ b → map (λ h. h.mutex) (filter (λ h. h.owner == x) (map (with_hold m hold) hs)) ≡ map (λ h. h.mutex) (filter (λ h. h.owner == x) hs)
        → map (λ (h : Taken). h.mutex) (filter (λ h. h.owner == x) (cond b (record { mutex = m; owner = h.owner; hold = hold }) h ∷ map (with_hold m hold) hs))
        ≡ map (λ (h : Taken). h.mutex) (filter (λ h. h.owner == x) (h ∷ hs))
    by_test true e r = keep (record { mutex = m; owner = h.owner; hold = hold }) h (h.owner == x) (sym (eqb-true h.mutex m e)) r
    by_test false e r = keep h h (h.owner == x) refl r

-- another hold touches nobody
pub touches_hold : (touched : List ℕ) (m hold : ℕ) (o : Ownership) → Touches touched o (with_taken_times m hold o)
touches_hold touched m hold o = record {
  size = refl;
  blockers = λ x e. inl (by_mutex (awaited_in o x));
  urgencies = λ x e. ap (λ l. least (base_of (member_at o x)) (filter_map (λ mutex. slice_index_or o.ceilings mutex None) l)) (sym (held_owned m hold x o.taken));
}
  where
    by_mutex : (a : Option ℕ) → option_and_then (owner_in o) a ≡ option_and_then (owner_in (with_taken_times m hold o)) a
    by_mutex None = refl
    by_mutex (Some k) = sym (same_owner m hold k o.taken)

-- a free mutex is got
touches_got : (t m : ℕ) (o : Ownership) → taken_of o m ≡ None → Touches (t ∷ []) o (with_mutex_got m t o)
touches_got t m o free = record {
  size = refl;
  blockers = λ x e. by_mutex (awaited_in o x);
  urgencies = λ x e. ap (λ l. least (base_of (member_at o x)) (filter_map (λ mutex. slice_index_or o.ceilings mutex None) l)) (sym (owned x e));
}
  where
    rows : others m o.taken ≡ o.taken
    rows = none_free m o.taken free

    owned : (x : ℕ) → is_among (t ∷ []) x ≡ false → owned_in (with_mutex_got m t o) x ≡ owned_in o x
    owned x e =
        ap (λ b. map (λ (h : Taken). h.mutex) (cond b (record { mutex = m; owner = t; hold = 1 } ∷ filter (λ h. h.owner == x) (others m o.taken)) (filter (λ h. h.owner == x) (others m o.taken))))
        (ne_eqb t x (λ s. other t x e (sym s)))
        ∙ ap (λ l. map (λ (h : Taken). h.mutex) (filter (λ h. h.owner == x) l)) (none_free m o.taken free)

    by_same : (k : ℕ) → (k ≡ m) ⊎ (k ≡ m → ⊥)
        → (owner_in o k ≡ owner_in (with_mutex_got m t o) k) ⊎ (IsTouched (t ∷ []) (owner_in o k) × IsTouched (t ∷ []) (owner_in (with_mutex_got m t o) k))
    by_same k (inl e) =
        let before : owner_in o k ≡ None = ap (λ j. option_map (λ (h : Taken). h.owner) (taken_of o j)) e ∙ ap (option_map (λ (h : Taken). h.owner)) free in
        let after : owner_in (with_mutex_got m t o) k ≡ Some t =
        ap (λ c. option_map (λ (h : Taken). h.owner) (cond c (Some (record { mutex = m; owner = t; hold = 1 })) (find (λ h. h.mutex == k) (others m o.taken)))) (eq-eqb m k (sym e)) in
        inr (touched_at (t ∷ []) (owner_in o k) None before tt, touched_at (t ∷ []) (owner_in (with_mutex_got m t o) k) (Some t) after (ap (λ b. b || false) (eq-eqb t t refl)))
    by_same k (inr ne) =
        inl (sym (
        ap (λ c. option_map (λ (h : Taken). h.owner) (cond c (Some (record { mutex = m; owner = t; hold = 1 })) (find (λ h. h.mutex == k) (others m o.taken)))) (ne_eqb m k (λ s. ne (sym s)))
        ∙ others_other m k o.taken ne
        ))

    by_mutex : (a : Option ℕ) → (option_and_then (owner_in o) a ≡ option_and_then (owner_in (with_mutex_got m t o)) a)
        ⊎ (IsTouched (t ∷ []) (option_and_then (owner_in o) a) × IsTouched (t ∷ []) (option_and_then (owner_in (with_mutex_got m t o)) a))
    by_mutex None = inl refl
    by_mutex (Some k) = by_same k (cases_eq k m)

pub touches_take : (t m : ℕ) (o : Ownership) → Touches (t ∷ []) o (take_edit t m o)
touches_take t m o = by_row (taken_of o m) refl
  where
    by_tests : (h : Taken) (b c : Bool) → Touches (t ∷ []) o (cond (b && c) (with_taken_times m (h.hold + 1) o) o)
    by_tests h true true = touches_hold (t ∷ []) m (h.hold + 1) o
    by_tests h true false = touches_nothing (t ∷ []) o
    by_tests h false c = touches_nothing (t ∷ []) o

    by_row : (r : Option Taken) → taken_of o m ≡ r → Touches (t ∷ []) o (take_edit_of t m r o)
    by_row None e = touches_got t m o e
    by_row (Some h) e = by_tests h (h.owner == t) (nat_lt h.hold 255)

-- the mutexes of another thread than the owner of a mutex, which no more is owned
pub free_owned : (m x : ℕ) (h : Taken) (hs : List Taken) → AllPairs Apart hs → find (λ h. h.mutex == m) hs ≡ Some h → h.owner ≢ x
    → map (λ h. h.mutex) (filter (λ h. h.owner == x) (others m hs)) ≡ map (λ h. h.mutex) (filter (λ h. h.owner == x) hs)
free_owned m x h [] p e ne = refl
free_owned m x h (k ∷ ks) p e ne = by_test (k.mutex == m) refl e (free_owned m x h ks (apart_tail k ks p))
  where
    keep : (b : Bool) → map (λ h. h.mutex) (filter (λ h. h.owner == x) (others m ks)) ≡ map (λ h. h.mutex) (filter (λ h. h.owner == x) ks)
        → map (λ (h : Taken). h.mutex) (cond b (k ∷ filter (λ h. h.owner == x) (others m ks)) (filter (λ h. h.owner == x) (others m ks)))
        ≡ map (λ (h : Taken). h.mutex) (cond b (k ∷ filter (λ h. h.owner == x) ks) (filter (λ h. h.owner == x) ks))
    keep true r = ap (λ l. k.mutex ∷ l) r
    keep false r = r

    by_test : (b : Bool) → (k.mutex == m) ≡ b → cond b (Some k) (find (λ h. h.mutex == m) ks) ≡ Some h
        → (find (λ h. h.mutex == m) ks ≡ Some h → h.owner ≢ x → map (λ h. h.mutex) (filter (λ h. h.owner == x) (others m ks)) ≡ map (λ h. h.mutex) (filter (λ h. h.owner == x) ks))
        → map (λ (h : Taken). h.mutex) (filter (λ h. h.owner == x) (cond (not b) (k ∷ others m ks) (others m ks))) ≡ map (λ (h : Taken). h.mutex) (filter (λ h. h.owner == x) (k ∷ ks))
    by_test true f at r =
        let same : k ≡ h = cc in
        let mutex : k.mutex ≡ m = eqb-true k.mutex m f in
        ap (λ j. map (λ (h : Taken). h.mutex) (filter (λ h. h.owner == x) (others j ks))) (sym mutex)
        ∙ ap (λ l. map (λ (h : Taken). h.mutex) (filter (λ h. h.owner == x) l)) (others_same k.mutex ks (apart_head k ks p))
        ∙ sym (ap (λ b. map (λ (h : Taken). h.mutex) (cond b (k ∷ filter (λ h. h.owner == x) ks) (filter (λ h. h.owner == x) ks))) (ne_eqb k.owner x (λ s. ne (sym (ap (λ (j : Taken). j.owner) same) ∙ s))))
    by_test false f at r = keep (k.owner == x) (r at ne)

among_first : (t : ℕ) (ts : List ℕ) → is_among (t ∷ ts) t ≡ true
among_first t ts = ap (λ b. b || is_among ts t) (eq-eqb t t refl)

-- a mutex passes to a waiter, or to nobody
pub touches_pass : (t m : ℕ) (first : Option ℕ) (h : Taken) (o : Ownership) → AllPairs Apart o.taken → taken_of o m ≡ Some h → h.owner ≡ t
    → Touches (t ∷ option_to_list first) o (pass_edit_to m first o)
touches_pass t m None h o once at owner = record {
  size = refl;
  blockers = λ x e. by_mutex (awaited_in o x);
  urgencies = λ x e. ap (λ l. least (base_of (member_at o x)) (filter_map (λ mutex. slice_index_or o.ceilings mutex None) l)) (sym (free_owned m x h o.taken once at (λ s. other t x e (sym s ∙ owner))));
}
  where
    by_same : (k : ℕ) → (k ≡ m) ⊎ (k ≡ m → ⊥)
        → (owner_in o k ≡ owner_among (others m o.taken) k) ⊎ (IsTouched (t ∷ []) (owner_in o k) × IsTouched (t ∷ []) (owner_among (others m o.taken) k))
    by_same k (inl e) =
        let before : owner_in o k ≡ Some t = ap (λ j. option_map (λ (h : Taken). h.owner) (taken_of o j)) e ∙ ap (option_map (λ (h : Taken). h.owner)) at ∙ ap Some owner in
        let after : owner_among (others m o.taken) k ≡ None = ap (owner_among (others m o.taken)) e ∙ others_none m o.taken in
        inr (touched_at (t ∷ []) (owner_in o k) (Some t) before (among_first t []), touched_at (t ∷ []) (owner_among (others m o.taken) k) None after tt)
    by_same k (inr ne) = inl (sym (others_other m k o.taken ne))

    by_mutex : (a : Option ℕ) → (option_and_then (owner_in o) a ≡ option_and_then (owner_in (pass_edit_to m None o)) a)
        ⊎ (IsTouched (t ∷ []) (option_and_then (owner_in o) a) × IsTouched (t ∷ []) (option_and_then (owner_in (pass_edit_to m None o)) a))
    by_mutex None = inl refl
    by_mutex (Some k) = by_same k (cases_eq k m)
touches_pass t m (Some u) h o once at owner = record {
  size = sym (length-set o.members u (option_map (with_wait None) (member_at o u)));
  blockers = λ x e. by_member x (same x e) (by_mutex (awaited_in o x));
  urgencies = λ x e. ap (λ m. least (base_of m) (filter_map (λ mutex. slice_index_or o.ceilings mutex None) (owned_in o x))) (sym (same x e))
      ∙ ap (λ l. least (base_of (member_at (leave_edit u o) x)) (filter_map (λ mutex. slice_index_or o.ceilings mutex None) l)) (sym (owned x e));
}
  where
    not_first : (x : ℕ) → is_among (t ∷ u ∷ []) x ≡ false → x ≢ t
    not_first x e = λ s. eqb-false t x (or_parts (eqb t x) (is_among (u ∷ []) x) e).0 (sym s)

    not_second : (x : ℕ) → is_among (t ∷ u ∷ []) x ≡ false → x ≢ u
    not_second x e = other u x (or_parts (eqb t x) (is_among (u ∷ []) x) e).1

    same : (x : ℕ) → is_among (t ∷ u ∷ []) x ≡ false → member_at (leave_edit u o) x ≡ member_at o x
    same x e = get_or-set_other o.members u x (option_map (with_wait None) (member_at o u)) None (not_second x e)

    owned : (x : ℕ) → is_among (t ∷ u ∷ []) x ≡ false → owned_in (pass_edit_to m (Some u) o) x ≡ owned_in o x
    owned x e =
        ap (λ b. map (λ (h : Taken). h.mutex) (cond b (record { mutex = m; owner = u; hold = 1 } ∷ filter (λ h. h.owner == x) (others m o.taken)) (filter (λ h. h.owner == x) (others m o.taken))))
        (ne_eqb u x (λ s. not_second x e (sym s)))
        ∙ free_owned m x h o.taken once at (λ s. not_first x e (sym s ∙ owner))

    by_same : (k : ℕ) → (k ≡ m) ⊎ (k ≡ m → ⊥)
        → (owner_in o k ≡ owner_in (pass_edit_to m (Some u) o) k) ⊎ (IsTouched (t ∷ u ∷ []) (owner_in o k) × IsTouched (t ∷ u ∷ []) (owner_in (pass_edit_to m (Some u) o) k))
    by_same k (inl e) =
        let before : owner_in o k ≡ Some t = ap (λ j. option_map (λ (h : Taken). h.owner) (taken_of o j)) e ∙ ap (option_map (λ (h : Taken). h.owner)) at ∙ ap Some owner in
        let after : owner_in (pass_edit_to m (Some u) o) k ≡ Some u =
        ap (λ c. option_map (λ (h : Taken). h.owner) (cond c (Some (record { mutex = m; owner = u; hold = 1 })) (find (λ h. h.mutex == k) (others m o.taken)))) (eq-eqb m k (sym e)) in
        inr (
          touched_at (t ∷ u ∷ []) (owner_in o k) (Some t) before (among_first t (u ∷ [])),
          touched_at (t ∷ u ∷ []) (owner_in (pass_edit_to m (Some u) o) k) (Some u) after (or_right (eqb t u) (is_among (u ∷ []) u) (among_first u [])),
        )
    by_same k (inr ne) =
        inl (sym (
        ap (λ c. option_map (λ (h : Taken). h.owner) (cond c (Some (record { mutex = m; owner = u; hold = 1 })) (find (λ h. h.mutex == k) (others m o.taken)))) (ne_eqb m k (λ s. ne (sym s)))
        ∙ others_other m k o.taken ne
        ))

    by_mutex : (a : Option ℕ) → (option_and_then (owner_in o) a ≡ option_and_then (owner_in (pass_edit_to m (Some u) o)) a)
        ⊎ (IsTouched (t ∷ u ∷ []) (option_and_then (owner_in o) a) × IsTouched (t ∷ u ∷ []) (option_and_then (owner_in (pass_edit_to m (Some u) o)) a))
    by_mutex None = inl refl
    by_mutex (Some k) = by_same k (cases_eq k m)

    by_member : (x : ℕ) → member_at (leave_edit u o) x ≡ member_at o x
        → (blocker_in o x ≡ option_and_then (owner_in (pass_edit_to m (Some u) o)) (awaited_in o x)) ⊎ (IsTouched (t ∷ u ∷ []) (blocker_in o x) × IsTouched (t ∷ u ∷ []) (option_and_then (owner_in (pass_edit_to m (Some u) o)) (awaited_in o x)))
        → (blocker_in o x ≡ blocker_in (pass_edit_to m (Some u) o) x) ⊎ (IsTouched (t ∷ u ∷ []) (blocker_in o x) × IsTouched (t ∷ u ∷ []) (blocker_in (pass_edit_to m (Some u) o) x))
    by_member x e (inl s) = inl (s ∙ sym (ap (λ m'. option_and_then (owner_in (pass_edit_to m (Some u) o)) (awaited_by m')) e))
    by_member x e (inr w) =
        inr (w.0, touched_at (t ∷ u ∷ []) (blocker_in (pass_edit_to m (Some u) o) x) (option_and_then (owner_in (pass_edit_to m (Some u) o)) (awaited_in o x)) (ap (λ m'. option_and_then (owner_in (pass_edit_to m (Some u) o)) (awaited_by m')) e) w.1)

pub touches_release : (t m : ℕ) (o : Ownership) → AllPairs Apart o.taken → Touches (release_touches o t m) o (release_edit t m o)
touches_release t m o once = by_row (taken_of o m) refl
  where
    by_tests : (h : Taken) (b : Bool) → (h.owner == t) ≡ b → (c : Bool) → taken_of o m ≡ Some h
        → Touches (t ∷ option_to_list (cond (b && not c) (first_in o m) None)) o (cond b (cond c (with_taken_times m (h.hold - 1) o) (pass_edit m o)) o)
    by_tests h true e true at = touches_hold (t ∷ []) m (h.hold - 1) o
    by_tests h true e false at = touches_pass t m (first_in o m) h o once at (eqb-true h.owner t e)
    by_tests h false e c at = touches_nothing (t ∷ []) o

    by_row : (r : Option Taken) → taken_of o m ≡ r → Touches (t ∷ option_to_list (passed_by o t m r)) o (release_edit_of t m r o)
    by_row None at = touches_nothing (t ∷ []) o
    by_row (Some h) at = by_tests h (h.owner == t) refl (nat_lt 1 h.hold) at

-- more threads are touched
touches_more : (ts us : List ℕ) (o p : Ownership) → ((x : ℕ) → is_among ts x ≡ true → is_among us x ≡ true) → Touches ts o p → Touches us o p
touches_more ts us o p f s = record {
  size = s.size;
  blockers = λ x e. by_case x (s.blockers x (less x e));
  urgencies = λ x e. s.urgencies x (less x e);
}
  where
    less : (x : ℕ) → is_among us x ≡ false → is_among ts x ≡ false
    less x e = false_from_ne_true (is_among ts x) (λ h. false≢true (sym e ∙ f x h))

    wider : (a : Option ℕ) → IsTouched ts a → IsTouched us a
    wider None h = tt
    wider (Some t) h = f t h

    by_case : (x : ℕ) → (blocker_in o x ≡ blocker_in p x) ⊎ (IsTouched ts (blocker_in o x) × IsTouched ts (blocker_in p x))
        → (blocker_in o x ≡ blocker_in p x) ⊎ (IsTouched us (blocker_in o x) × IsTouched us (blocker_in p x))
    by_case x (inl e) = inl e
    by_case x (inr w) = inr (wider (blocker_in o x) w.0, wider (blocker_in p x) w.1)

-- one edit after another
touches_both : (ts : List ℕ) (o p q : Ownership) → Touches ts o p → Touches ts p q → Touches ts o q
touches_both ts o p q a b = record {
  size = a.size ∙ b.size;
  blockers = λ x e. by_cases x (a.blockers x e) (b.blockers x e);
  urgencies = λ x e. a.urgencies x e ∙ b.urgencies x e;
}
  where
    by_cases : (x : ℕ) → (blocker_in o x ≡ blocker_in p x) ⊎ (IsTouched ts (blocker_in o x) × IsTouched ts (blocker_in p x))
        → (blocker_in p x ≡ blocker_in q x) ⊎ (IsTouched ts (blocker_in p x) × IsTouched ts (blocker_in q x))
        → (blocker_in o x ≡ blocker_in q x) ⊎ (IsTouched ts (blocker_in o x) × IsTouched ts (blocker_in q x))
    by_cases x (inl e) (inl f) = inl (e ∙ f)
    by_cases x (inl e) (inr w) = inr (touched_at ts (blocker_in o x) (blocker_in p x) e w.0, w.1)
    by_cases x (inr w) (inl f) = inr (w.0, touched_at ts (blocker_in q x) (blocker_in p x) (sym f) w.1)
    by_cases x (inr w) (inr v) = inr (w.0, v.1)

-- the ceilings of mutexes but for one
ceilings_apart : (m x : ℕ) (c : Option ℕ) (cs : List (Option ℕ)) (hs : List Taken) → All (λ h. m ≢ h.mutex) hs
    → filter_map (λ k. slice_index_or cs k None) (map (λ h. h.mutex) (filter (λ h. h.owner == x) hs)) ≡ filter_map (λ k. slice_index_or (slice_set cs m c) k None) (map (λ h. h.mutex) (filter (λ h. h.owner == x) hs))
ceilings_apart m x c cs [] a = refl
ceilings_apart m x c cs (k ∷ ks) a =
    by_test (k.owner == x) (ceilings_apart m x c cs ks (All-tail (λ (h : Taken). m ≢ h.mutex) k ks a))
    (get_or-set_other cs m k.mutex c None (λ s. All-head (λ (h : Taken). m ≢ h.mutex) k ks a (sym s)))
  where
    by_test : (b : Bool)
        → filter_map (λ k. slice_index_or cs k None) (map (λ h. h.mutex) (filter (λ h. h.owner == x) ks)) ≡ filter_map (λ k. slice_index_or (slice_set cs m c) k None) (map (λ h. h.mutex) (filter (λ h. h.owner == x) ks))
        → slice_index_or (slice_set cs m c) k.mutex None ≡ slice_index_or cs k.mutex None
        → filter_map (λ k. slice_index_or cs k None) (map (λ (h : Taken). h.mutex) (cond b (k ∷ filter (λ h. h.owner == x) ks) (filter (λ h. h.owner == x) ks)))
        ≡ filter_map (λ k. slice_index_or (slice_set cs m c) k None) (map (λ (h : Taken). h.mutex) (cond b (k ∷ filter (λ h. h.owner == x) ks) (filter (λ h. h.owner == x) ks)))
    by_test true r e =
        ap (cons_option (slice_index_or cs k.mutex None)) r
        ∙ ap (λ v. cons_option v (filter_map (λ k. slice_index_or (slice_set cs m c) k None) (map (λ (h : Taken). h.mutex) (filter (λ h. h.owner == x) ks)))) (sym e)
    by_test false r e = r

ceilings_owned : (m x : ℕ) (c : Option ℕ) (cs : List (Option ℕ)) (hs : List Taken) → AllPairs Apart hs → ((h : Taken) → find (λ h. h.mutex == m) hs ≡ Some h → h.owner ≢ x)
    → filter_map (λ k. slice_index_or cs k None) (map (λ h. h.mutex) (filter (λ h. h.owner == x) hs)) ≡ filter_map (λ k. slice_index_or (slice_set cs m c) k None) (map (λ h. h.mutex) (filter (λ h. h.owner == x) hs))
ceilings_owned m x c cs [] p f = refl
ceilings_owned m x c cs (k ∷ ks) p f = by_tests (k.mutex == m) refl (k.owner == x) refl f (ceilings_owned m x c cs ks (apart_tail k ks p))
  where
    by_tests : (a : Bool) → (k.mutex == m) ≡ a → (b : Bool) → (k.owner == x) ≡ b → ((h : Taken) → cond a (Some k) (find (λ h. h.mutex == m) ks) ≡ Some h → h.owner ≢ x)
        → (((h : Taken) → find (λ h. h.mutex == m) ks ≡ Some h → h.owner ≢ x)
        → filter_map (λ k. slice_index_or cs k None) (map (λ h. h.mutex) (filter (λ h. h.owner == x) ks)) ≡ filter_map (λ k. slice_index_or (slice_set cs m c) k None) (map (λ h. h.mutex) (filter (λ h. h.owner == x) ks)))
        → filter_map (λ k. slice_index_or cs k None) (map (λ (h : Taken). h.mutex) (cond b (k ∷ filter (λ h. h.owner == x) ks) (filter (λ h. h.owner == x) ks)))
        ≡ filter_map (λ k. slice_index_or (slice_set cs m c) k None) (map (λ (h : Taken). h.mutex) (cond b (k ∷ filter (λ h. h.owner == x) ks) (filter (λ h. h.owner == x) ks)))
    by_tests true e true g f r = absurd (f k refl (eqb-true k.owner x g))
    by_tests true e false g f r = let same : k.mutex ≡ m = eqb-true k.mutex m e in ceilings_apart m x c cs ks (rw (← same) (apart_head k ks p))
    by_tests false e true g f r =
        let apart : slice_index_or (slice_set cs m c) k.mutex None ≡ slice_index_or cs k.mutex None = get_or-set_other cs m k.mutex c None (eqb-false k.mutex m e) in
        ap (cons_option (slice_index_or cs k.mutex None)) (r f)
        ∙ ap (λ v. cons_option v (filter_map (λ k. slice_index_or (slice_set cs m c) k None) (map (λ (h : Taken). h.mutex) (filter (λ h. h.owner == x) ks)))) (sym apart)
    by_tests false e false g f r = r f

-- another ceiling, or none
pub touches_ceiling_at : (m : ℕ) (c : Option ℕ) (o : Ownership) → AllPairs Apart o.taken → Touches (option_to_list (owner_in o m)) o (record o { ceilings = slice_set o.ceilings m c })
touches_ceiling_at m c o once = record {
  size = refl;
  blockers = λ x e. inl refl;
  urgencies = λ x e. ap (least (base_of (member_at o x))) (ceilings_owned m x c o.ceilings o.taken once (not_owner x e));
}
  where
    not_owner : (x : ℕ) → is_among (option_to_list (owner_in o m)) x ≡ false → (h : Taken) → taken_of o m ≡ Some h → h.owner ≢ x
    not_owner x e h at =
        let alone : is_among (h.owner ∷ []) x ≡ false = sym (ap (λ r. is_among (option_to_list (option_map (λ (h : Taken). h.owner) r)) x) at) ∙ e in
        λ s. other h.owner x alone (sym s)

pub touches_ceiling : (m c : ℕ) (o : Ownership) → AllPairs Apart o.taken → Touches (ceiling_touches o m) o (ceiling_edit m c o)
touches_ceiling m c o once = touches_ceiling_at m (Some c) o once

pub among_append : (ts us : List ℕ) (x : ℕ) → is_among (ts ++ us) x ≡ is_among ts x || is_among us x
among_append [] us x = refl
among_append (t ∷ ts) us x = ap (λ b. eqb t x || b) (among_append ts us x) ∙ by_test (eqb t x)
  where
    by_test : (b : Bool) → b || (is_among ts x || is_among us x) ≡ (b || is_among ts x) || is_among us x
    by_test true = refl
    by_test false = refl

alone : (t x : ℕ) → is_among (t ∷ []) x ≡ true → eqb t x ≡ true
alone t x h = ⊎_elim (λ e. e) (λ e. absurd (false≢true e)) (or_cases (eqb t x) false h)

touches_leaves : (ts : List ℕ) (o : Ownership) → Touches ts o (leave_edits ts o)
touches_leaves [] o = touches_nothing [] o
touches_leaves (t ∷ ts) o =
    touches_both (t ∷ ts) o (leave_edit t o) (leave_edits ts (leave_edit t o))
    (touches_more (t ∷ []) (t ∷ ts) o (leave_edit t o) (λ x h. or_left (eqb t x) (is_among ts x) (alone t x h)) (touches_member (with_wait None) t o))
    (touches_more ts (t ∷ ts) (leave_edit t o) (leave_edits ts (leave_edit t o)) (λ x h. or_right (eqb t x) (is_among ts x) h) (touches_leaves ts (leave_edit t o)))

pub leaves_taken : (ts : List ℕ) (o : Ownership) → (leave_edits ts o).taken ≡ o.taken
leaves_taken [] o = refl
leaves_taken (t ∷ ts) o = leaves_taken ts (leave_edit t o)

pub touches_free : (m : ℕ) (o : Ownership) → AllPairs Apart o.taken → Touches (option_to_list (owner_in o m)) o (with_mutex_free m o)
touches_free m o once = by_row (taken_of o m) refl
  where
    by_row : (r : Option Taken) → taken_of o m ≡ r → Touches (option_to_list (option_map (λ (h : Taken). h.owner) r)) o (with_mutex_free m o)
    by_row None e = rw (none_free m o.taken e) (touches_nothing [] o)
    by_row (Some h) e = touches_pass h.owner m None h o once e refl

pub touches_mutex_end : (m : ℕ) (o : Ownership) → AllPairs Apart o.taken → Touches (mutex_end_touches o m) o (kill_mutex_edit m o)
touches_mutex_end m o once =
    let free : Ownership = with_mutex_free m o in
    let rest : Ownership = leave_edits (waiters_in o m) (with_mutex_free m o) in
    let owner : List ℕ = option_to_list (owner_in o m) in
    let first : Touches (mutex_end_touches o m) o free =
    touches_more (option_to_list (owner_in o m)) (mutex_end_touches o m) o (with_mutex_free m o)
    (λ x h. among_append (option_to_list (owner_in o m)) (waiters_in o m) x ∙ or_left (is_among (option_to_list (owner_in o m)) x) (is_among (waiters_in o m) x) h) (touches_free m o once) in
    let second : Touches (mutex_end_touches o m) free rest =
    touches_more (waiters_in o m) (mutex_end_touches o m) (with_mutex_free m o) (leave_edits (waiters_in o m) (with_mutex_free m o))
    (λ x h. among_append (option_to_list (owner_in o m)) (waiters_in o m) x ∙ or_right (is_among (option_to_list (owner_in o m)) x) (is_among (waiters_in o m) x) h)
    (touches_leaves (waiters_in o m) (with_mutex_free m o)) in
    let rows : rest.taken ≡ others m o.taken = leaves_taken (waiters_in o m) (with_mutex_free m o) in
    let nobody : owner_in rest m ≡ None = ap (λ hs. owner_among hs m) rows ∙ others_none m o.taken in
    let still_once : AllPairs Apart rest.taken = rw rows (AllPairs-filter Apart (λ (h : Taken). not (h.mutex == m)) o.taken once) in
    let third : Touches (mutex_end_touches o m) rest (kill_mutex_edit m o) =
    touches_more (option_to_list (owner_in rest m)) (mutex_end_touches o m) rest (kill_mutex_edit m o)
    (λ x h. absurd (false≢true (sym (ap (λ a. is_among (option_to_list a) x) nobody) ∙ h))) (touches_ceiling_at m None rest still_once) in
    touches_both (mutex_end_touches o m) o rest (kill_mutex_edit m o) (touches_both (mutex_end_touches o m) o free rest first second) third

found_of : (m : ℕ) (hs : List Taken) (h : Taken) → find (λ h. h.mutex == m) hs ≡ Some h → h.mutex ≡ m
found_of m [] h at = absurd (none-some h at)
found_of m (k ∷ ks) h at = by_test (k.mutex == m) refl at (found_of m ks h)
  where
    by_test : (b : Bool) → (k.mutex == m) ≡ b → cond b (Some k) (find (λ h. h.mutex == m) ks) ≡ Some h → (find (λ h. h.mutex == m) ks ≡ Some h → h.mutex ≡ m) → h.mutex ≡ m
    by_test true e f r = let same : k ≡ h = cc in sym (ap (λ (j : Taken). j.mutex) same) ∙ eqb-true k.mutex m e
    by_test false e f r = r f

-- a mutex that a thread owns has a row of that thread
pub owned_row : (t m : ℕ) (ms : List ℕ) (hs : List Taken) → AllPairs Apart hs → map (λ h. h.mutex) (filter (λ h. h.owner == t) hs) ≡ m ∷ ms → (h : Taken) × (find (λ h. h.mutex == m) hs ≡ Some h) × (h.owner ≡ t)
owned_row t m ms [] p e = absurd (no_cons e)
  where
    no_cons : {x : ℕ} {xs : List ℕ} → [] ≡ x ∷ xs → ⊥
    no_cons e = cc
owned_row t m ms (k ∷ ks) p e = by_test (k.owner == t) refl e (owned_row t m ms ks (apart_tail k ks p))
  where
    apart_from : (h : Taken) → find (λ h. h.mutex == m) ks ≡ Some h → (k.mutex == m) ≡ false
    apart_from h at =
        let far : k.mutex ≢ h.mutex = found (Apart k) (λ (h : Taken). h.mutex == m) ks h (apart_head k ks p) at in
        let of : h.mutex ≡ m = found_of m ks h at in
        ne_eqb k.mutex m (λ s. far (s ∙ sym of))

    by_test : (b : Bool) → (k.owner == t) ≡ b → map (λ (h : Taken). h.mutex) (cond b (k ∷ filter (λ h. h.owner == t) ks) (filter (λ h. h.owner == t) ks)) ≡ m ∷ ms
        → (map (λ h. h.mutex) (filter (λ h. h.owner == t) ks) ≡ m ∷ ms → (h : Taken) × (find (λ h. h.mutex == m) ks ≡ Some h) × (h.owner ≡ t))
        → (h : Taken) × (cond (k.mutex == m) (Some k) (find (λ h. h.mutex == m) ks) ≡ Some h) × (h.owner ≡ t)
    by_test true f at r = let same : k.mutex ≡ m = cc in (k, ap (λ b. cond b (Some k) (find (λ h. h.mutex == m) ks)) (eq-eqb k.mutex m same), eqb-true k.owner t f)
    by_test false f at r =
        let w = r at in
        (w.0, ap (λ b. cond b (Some k) (find (λ h. h.mutex == m) ks)) (apart_from w.0 w.1) ∙ w.1, w.2)

once_passed : (m : ℕ) (first : Option ℕ) (o : Ownership) → AllPairs Apart o.taken → AllPairs Apart (pass_edit_to m first o).taken
once_passed m None o once = AllPairs-filter Apart (λ (h : Taken). not (h.mutex == m)) o.taken once
once_passed m (Some u) o once =
    AllPairs-cons Apart (record { mutex = m; owner = u; hold = 1 }) (others m o.taken) (others_apart m o.taken) (AllPairs-filter Apart (λ (h : Taken). not (h.mutex == m)) o.taken once)

-- the mutexes of a thread that is gone pass
touches_passes : (t : ℕ) (ms : List ℕ) (o : Ownership) → AllPairs Apart o.taken → has_thread o t ≡ false → owned_in o t ≡ ms
    → Touches (t ∷ map (λ p. p.thread) (filter_map (λ p. p) (passes_from ms o))) o (pass_edits ms o)
touches_passes t [] o once gone e = touches_nothing (t ∷ []) o
touches_passes t (m ∷ ms) o once gone e =
    let row = owned_row t m ms o.taken once e in
    touches_on (first_in o m) refl (touches_pass t m (first_in o m) row.0 o once row.1 row.2)
    (touches_passes t ms (pass_edit m o) (once_passed m (first_in o m) o once) (still_gone o t m (first_in o m) gone) (owned_passed o t m ms (first_in o m) once gone refl e))
  where
    touches_on : (r : Option ℕ) → first_in o m ≡ r → Touches (t ∷ option_to_list r) o (pass_edit m o)
        → Touches (t ∷ map (λ p. p.thread) (filter_map (λ p. p) (passes_from ms (pass_edit m o)))) (pass_edit m o) (pass_edits ms (pass_edit m o))
        → Touches (t ∷ map (λ p. p.thread) (filter_map (λ p. p) (option_map (λ u. record { mutex = m; thread = u }) r ∷ passes_from ms (pass_edit m o)))) o (pass_edits ms (pass_edit m o))
    touches_on None f a b =
        touches_both (t ∷ map (λ p. p.thread) (filter_map (λ p. p) (passes_from ms (pass_edit m o)))) o (pass_edit m o) (pass_edits ms (pass_edit m o))
        (touches_more (t ∷ []) (t ∷ map (λ p. p.thread) (filter_map (λ p. p) (passes_from ms (pass_edit m o)))) o (pass_edit m o)
        (λ x h. or_left (eqb t x) (is_among (map (λ p. p.thread) (filter_map (λ p. p) (passes_from ms (pass_edit m o)))) x) (alone t x h)) a)
        b
    touches_on (Some u) f a b =
        touches_both (t ∷ u ∷ map (λ p. p.thread) (filter_map (λ p. p) (passes_from ms (pass_edit m o)))) o (pass_edit m o) (pass_edits ms (pass_edit m o))
        (touches_more (t ∷ u ∷ []) (t ∷ u ∷ map (λ p. p.thread) (filter_map (λ p. p) (passes_from ms (pass_edit m o)))) o (pass_edit m o) (λ x h. by_tests (eqb t x) (eqb u x) (is_among (map (λ p. p.thread) (filter_map (λ p. p) (passes_from ms (pass_edit m o)))) x) h) a)
        (touches_more (t ∷ map (λ p. p.thread) (filter_map (λ p. p) (passes_from ms (pass_edit m o)))) (t ∷ u ∷ map (λ p. p.thread) (filter_map (λ p. p) (passes_from ms (pass_edit m o)))) (pass_edit m o) (pass_edits ms (pass_edit m o))
        (λ x h. by_more (eqb t x) (eqb u x) (is_among (map (λ p. p.thread) (filter_map (λ p. p) (passes_from ms (pass_edit m o)))) x) h) b)
      where
        by_tests : (b c d : Bool) → b || (c || false) ≡ true → b || (c || d) ≡ true
        by_tests true c d h = refl
        by_tests false true d h = refl
        by_tests false false d h = absurd (false≢true h)

        by_more : (b c d : Bool) → b || d ≡ true → b || (c || d) ≡ true
        by_more true c d h = refl
        by_more false true d h = refl
        by_more false false d h = h

touches_gone : (t : ℕ) (o : Ownership) → Touches (t ∷ []) o (with_member o t None)
touches_gone t o = record {
  size = sym (length-set o.members t None);
  blockers = λ x e. inl (ap (λ m. option_and_then (owner_in o) (awaited_by m)) (sym (same x e)));
  urgencies = λ x e. ap (λ m. least (base_of m) (filter_map (λ mutex. slice_index_or o.ceilings mutex None) (owned_in o x))) (sym (same x e));
}
  where
    same : (x : ℕ) → is_among (t ∷ []) x ≡ false → member_at (with_member o t None) x ≡ member_at o x
    same x e = get_or-set_other o.members t x None None (other t x e)

pub touches_thread_end : (t : ℕ) (o : Ownership) → AllPairs Apart o.taken → Touches (end_touches o t) o (kill_thread_edit t o)
touches_thread_end t o once =
    touches_both (end_touches o t) o (with_member o t None) (kill_thread_edit t o)
    (touches_more (t ∷ []) (end_touches o t) o (with_member o t None) (λ x h. or_left (eqb t x) (is_among (map (λ p. p.thread) (passes_of t o)) x) (alone t x h)) (touches_gone t o))
    (touches_passes t (owned_in o t) (with_member o t None) once (gone o t) refl)
