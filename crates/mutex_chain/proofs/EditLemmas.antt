-- Edits by which only who one thread is by itself and who waits for it differs.
use Rattle.std.proofs.Common.{ℕ, ◌≡◌, ◌≢◌, ◌+◌, ◌<◌, zero, suc, List, [], ◌∷◌, length, map, Bool, true, false, not, cond, ◌||◌, ◌&&◌, eqb, Option, Some, None, refl, sym, ap, ◌∙◌, arith, ◌⊎◌, inl, inr, ⊎_elim, get_or-set_same, get_or-set_other}
use Rattle.std.specs.Prelude.{slice_set, slice_index_or, filter, drop, nat_lt, ◌==◌}
use Rattle.std.specs.List.{AllPairs, filter_map, range_with_len, cons_option, find}
use Rattle.std.specs.Option.{option_map, option_and_then, option_to_list}
use Rattle.std.proofs.Math.ListN.{length-set}
use Rattle.std.proofs.lemmas.Option.{none-some}
use Rattle.std.proofs.lemmas.Bool.{cases_eq, eqb-true, eq-eqb, ne_eqb, false≢true, or_cases, or_left, or_right}
use Rattle.std.proofs.lemmas.List.Kept.{AllPairs-filter}
use Rattle.rt_plain.specs.kernel.State.{is_among}
use Rattle.rt_plain.specs.kernel.Priority.{least}
use Rattle.rt_plain.specs.kernel.Waiting.{Waiter, head_of}
use Rattle.rt_plain.specs.kernel.Ownership.{Ownership, Member, MutexWait, Taken, member_at, base_of, wait_of, awaited_in, taken_of, owner_in, owned_in, member_urgency, wait_row, wait_rows_in, waiters_in, first_in, with_member, with_base, with_wait, base_edit, ceiling_edit, leave_edit, leave_edits, with_mutex_free, pass_edit_to, kill_mutex_edit}
use Rattle.mutex_chain.specs.Owners.{IsSound, blocker_in}
use Rattle.mutex_chain.specs.Graph.{row_in, is_last}
use Rattle.mutex_chain.specs.Equations.{Touches}
use Rattle.mutex_chain.specs.Renewing.{DiffersAt, AreAside}
use Rattle.mutex_chain.specs.Walks.{curs_of}
use Rattle.mutex_chain.proofs.CurLemmas.{awaited_by, owner_within, blocker_within}
use Rattle.mutex_chain.proofs.OwnerLemmas.{Apart, others, others_same, others_apart}
use Rattle.mutex_chain.proofs.HolderLemmas.{owner_among, others_none, others_other}
use Rattle.mutex_chain.proofs.OwnedLemmas.{based_awaits, left_awaits, got_other, among_order, awaited_within}
use Rattle.mutex_chain.proofs.PassLemmas.{head_split}
use Rattle.mutex_chain.proofs.LineLemmas.{row_thread}
use Rattle.mutex_chain.proofs.RenewLemmas.{differs_aside}
use Rattle.mutex_chain.proofs.TouchLemmas.{touches_ceiling, touches_ceiling_at, touches_free, owned_row, leaves_taken}

-- another row of a thread
differs_row : (o : Ownership) (t : ℕ) (row : Option Member) (from : Option ℕ) → t < length o.members → ((u : ℕ) → from ≡ Some u → u < length o.members)
    → (from ≡ Some t) ⊎ (base_of (member_at o t) ≡ base_of row)
    → ((u : ℕ) → blocker_in o t ≡ Some u → (from ≡ Some u) ⊎ (option_and_then (owner_in o) (awaited_by row) ≡ Some u))
    → ((u : ℕ) → option_and_then (owner_in o) (awaited_by row) ≡ Some u → (from ≡ Some u) ⊎ (blocker_in o t ≡ Some u))
    → DiffersAt o (with_member o t row) from
differs_row o t row from h within base kept more = record {
  size = sym (length-set o.members t row);
  within = λ u e. omega (arith, within u e, length-set o.members t row);
  urgencies = λ u. urgency u (cases_eq u t) base;
  kept = λ x u e. kept_at x u e (cases_eq x t);
  more = λ x u e. more_at x u e (cases_eq x t);
}
  where
    here : member_at (with_member o t row) t ≡ row
    here = get_or-set_same o.members t row None h

    elsewhere : (x : ℕ) → x ≢ t → member_at (with_member o t row) x ≡ member_at o x
    elsewhere x ne = get_or-set_other o.members t x row None ne

    blocker_here : (x : ℕ) → x ≡ t → blocker_in (with_member o t row) x ≡ option_and_then (owner_in o) (awaited_by row)
    blocker_here x e = ap (blocker_in (with_member o t row)) e ∙ ap (λ m. option_and_then (owner_in o) (awaited_by m)) here

    blocker_else : (x : ℕ) → x ≢ t → blocker_in (with_member o t row) x ≡ blocker_in o x
    blocker_else x ne = ap (λ m. option_and_then (owner_in o) (awaited_by m)) (elsewhere x ne)

    urgency : (u : ℕ) → (u ≡ t) ⊎ (u ≢ t) → (from ≡ Some t) ⊎ (base_of (member_at o t) ≡ base_of row) → (from ≡ Some u) ⊎ (member_urgency o u ≡ member_urgency (with_member o t row) u)
    urgency u (inl e) (inl f) = inl (f ∙ ap Some (sym e))
    urgency u (inl e) (inr f) =
        let same : base_of (member_at o u) ≡ base_of (member_at (with_member o t row) u) =
        ap (λ x. base_of (member_at o x)) e ∙ f ∙ sym (ap base_of here) ∙ sym (ap (λ x. base_of (member_at (with_member o t row) x)) e) in
        inr (ap (λ b. least b (filter_map (λ mutex. slice_index_or o.ceilings mutex None) (owned_in o u))) same)
    urgency u (inr ne) w = inr (ap (λ m. least (base_of m) (filter_map (λ mutex. slice_index_or o.ceilings mutex None) (owned_in o u))) (sym (elsewhere u ne)))

    kept_at : (x u : ℕ) → blocker_in o x ≡ Some u → (x ≡ t) ⊎ (x ≢ t) → (from ≡ Some u) ⊎ (blocker_in (with_member o t row) x ≡ Some u)
    kept_at x u e (inl f) = ⊎_elim inl (λ k. inr (blocker_here x f ∙ k)) (kept u (sym (ap (blocker_in o) f) ∙ e))
    kept_at x u e (inr ne) = inr (blocker_else x ne ∙ e)

    more_at : (x u : ℕ) → blocker_in (with_member o t row) x ≡ Some u → (x ≡ t) ⊎ (x ≢ t) → (from ≡ Some u) ⊎ (blocker_in o x ≡ Some u)
    more_at x u e (inl f) = ⊎_elim inl (λ k. inr (ap (blocker_in o) f ∙ k)) (more u (sym (blocker_here x f) ∙ e))
    more_at x u e (inr ne) = inr (sym (blocker_else x ne) ∙ e)

left_base : (m : Option Member) → base_of m ≡ base_of (option_map (with_wait None) m)
left_base None = refl
left_base (Some m) = refl

this_within : (n t u : ℕ) → t < n → Some t ≡ Some u → u < n
this_within n t u h e = let same : t ≡ u = cc in omega arith

pub differs_base : (o : Ownership) (t base : ℕ) → t < length o.members → DiffersAt o (base_edit t base o) (Some t)
differs_base o t base h =
    differs_row o t (option_map (with_base base) (member_at o t)) (Some t) h (λ u e. this_within (length o.members) t u h e) (inl refl)
    (λ u e. inr (ap (option_and_then (owner_in o)) (based_awaits base (member_at o t)) ∙ e)) (λ u e. inr (sym (ap (option_and_then (owner_in o)) (based_awaits base (member_at o t))) ∙ e))

-- who waits no more differs at whom it waited for
pub differs_leave : (o : Ownership) (t : ℕ) → IsSound o → t < length o.members → DiffersAt o (leave_edit t o) (blocker_in o t)
differs_leave o t s h =
    differs_row o t (option_map (with_wait None) (member_at o t)) (blocker_in o t) h (λ u e. blocker_within o t u s e) (inr (left_base (member_at o t))) (λ u e. inl e)
    (λ u e. absurd (none-some u (sym (ap (option_and_then (owner_in o)) (left_awaits (member_at o t))) ∙ e)))

-- who is gone and waited for nobody differs alone
pub differs_gone : (o : Ownership) (t : ℕ) → t < length o.members → blocker_in o t ≡ None → DiffersAt o (with_member o t None) (Some t)
differs_gone o t h none =
    differs_row o t None (Some t) h (λ u e. this_within (length o.members) t u h e) (inl refl) (λ u e. absurd (none-some u (sym none ∙ e))) (λ u e. absurd (none-some u e))

among_or : (from : Option ℕ) (u : ℕ) → (from ≡ Some u) ⊎ (is_among (option_to_list from) u ≡ false)
among_or None u = inr refl
among_or (Some t) u = ⊎_elim (λ e. inl (ap Some e)) (λ ne. inr (ap (λ b. b || false) (ne_eqb t u ne))) (cases_eq t u)

touched_urgency : (from : Option ℕ) (o p : Ownership) (u : ℕ) → Touches (option_to_list from) o p → (from ≡ Some u) ⊎ (member_urgency o u ≡ member_urgency p u)
touched_urgency from o p u s = ⊎_elim inl (λ e. inr (s.urgencies u e)) (among_or from u)

-- another ceiling differs at the owner
pub differs_ceiling : (o : Ownership) (m c : ℕ) → IsSound o → DiffersAt o (ceiling_edit m c o) (owner_in o m)
differs_ceiling o m c s = record {
  size = refl;
  within = λ u e. owner_within o m u s e;
  urgencies = λ u. touched_urgency (owner_in o m) o (ceiling_edit m c o) u (touches_ceiling m c o s.once);
  kept = λ x u e. inr e;
  more = λ x u e. inr e;
}

-- a mutex that nobody owns any more differs at who owned it
pub differs_free : (o : Ownership) (m : ℕ) → IsSound o → DiffersAt o (with_mutex_free m o) (owner_in o m)
differs_free o m s = record {
  size = refl;
  within = λ u e. owner_within o m u s e;
  urgencies = λ u. touched_urgency (owner_in o m) o (with_mutex_free m o) u (touches_free m o s.once);
  kept = λ x u e. kept (awaited_in o x) u e;
  more = λ x u e. more (awaited_in o x) u e;
}
  where
    kept : (a : Option ℕ) (u : ℕ) → option_and_then (owner_in o) a ≡ Some u → (owner_in o m ≡ Some u) ⊎ (option_and_then (owner_in (with_mutex_free m o)) a ≡ Some u)
    kept None u e = absurd (none-some u e)
    kept (Some k) u e = ⊎_elim (λ f. inl (sym (ap (owner_in o) f) ∙ e)) (λ ne. inr (others_other m k o.taken ne ∙ e)) (cases_eq k m)

    more : (a : Option ℕ) (u : ℕ) → option_and_then (owner_in (with_mutex_free m o)) a ≡ Some u → (owner_in o m ≡ Some u) ⊎ (option_and_then (owner_in o) a ≡ Some u)
    more None u e = absurd (none-some u e)
    more (Some k) u e =
        ⊎_elim (λ f. absurd (none-some u (sym (others_none m o.taken) ∙ sym (ap (owner_among (others m o.taken)) f) ∙ e))) (λ ne. inr (sym (others_other m k o.taken ne) ∙ e)) (cases_eq k m)

pub awaits_row : (o : Ownership) (m t : ℕ) (w : Waiter) → row_in o m t ≡ Some w → awaited_in o t ≡ Some m
awaits_row o m t w e = by_wait (wait_of o t) e
  where
    by_test : (v : MutexWait) (x : Waiter) (b : Bool) → (v.mutex == m) ≡ b → cond b (Some x) None ≡ Some w → Some v.mutex ≡ Some m
    by_test v x true f k = ap Some (eqb-true v.mutex m f)
    by_test v x false f k = absurd (none-some w k)

    by_wait : (wait : Option MutexWait) → wait_row o m t wait ≡ Some w → option_map (λ (v : MutexWait). v.mutex) wait ≡ Some m
    by_wait None f = absurd (none-some w f)
    by_wait (Some v) f = by_test v _ (v.mutex == m) refl f

awaits_among : (o : Ownership) (m t a n : ℕ) → is_among (map (λ (w : Waiter). w.thread) (filter_map (row_in o m) (range_with_len a n))) t ≡ true → awaited_in o t ≡ Some m
awaits_among o m t a zero h = absurd (false≢true h)
awaits_among o m t a (suc n) h = by_row (row_in o m a) refl h (awaits_among o m t (a + 1) n)
  where
    by_row : (r : Option Waiter) → row_in o m a ≡ r → is_among (map (λ (w : Waiter). w.thread) (cons_option r (filter_map (row_in o m) (range_with_len (a + 1) n)))) t ≡ true
        → (is_among (map (λ (w : Waiter). w.thread) (filter_map (row_in o m) (range_with_len (a + 1) n))) t ≡ true → awaited_in o t ≡ Some m) → awaited_in o t ≡ Some m
    by_row None e k again = again k
    by_row (Some w) e k again =
        ⊎_elim (λ f. let same : a ≡ t = sym (row_thread o m a w e) ∙ eqb-true w.thread t f in sym (ap (awaited_in o) same) ∙ awaits_row o m a w e) again
        (or_cases (eqb w.thread t) (is_among (map (λ (w : Waiter). w.thread) (filter_map (row_in o m) (range_with_len (a + 1) n))) t) k)

-- who is among the waiters of a mutex waits on it
pub waiter_awaits : (o : Ownership) (m t : ℕ) → is_among (waiters_in o m) t ≡ true → awaited_in o t ≡ Some m
waiter_awaits o m t h = awaits_among o m t 0 (length o.members) (sym (among_order (wait_rows_in o m) t) ∙ h)

pub first_awaits : (o : Ownership) (m t : ℕ) → first_in o m ≡ Some t → awaited_in o t ≡ Some m
first_awaits o m t e =
    waiter_awaits o m t (ap (λ ts. is_among ts t) (head_split (waiters_in o m) t e) ∙ or_left (eqb t t) (is_among (drop 1 (waiters_in o m)) t) (eq-eqb t t refl))

-- a mutex that nobody owns and that its waiter gets differs at the waiter
pub differs_got : (o : Ownership) (m w : ℕ) → w < length o.members → awaited_in o w ≡ Some m → DiffersAt (with_mutex_free m o) (pass_edit_to m (Some w) o) (Some w)
differs_got o m w h waits = record {
  size = sym (length-set o.members w row);
  within = λ u e. let small = this_within (length o.members) w u h e in omega (arith, small, length-set o.members w row);
  urgencies = λ u. urgency u (cases_eq u w);
  kept = λ x u e. kept x u e (cases_eq x w);
  more = λ x u e. more x u e (cases_eq x w);
}
  where
    row : Option Member
    row = option_map (with_wait None) (member_at o w)

    elsewhere : (x : ℕ) → x ≢ w → member_at (leave_edit w o) x ≡ member_at o x
    elsewhere x ne = get_or-set_other o.members w x (option_map (with_wait None) (member_at o w)) None ne

    urgency : (u : ℕ) → (u ≡ w) ⊎ (u ≢ w) → (Some w ≡ Some u) ⊎ (member_urgency (with_mutex_free m o) u ≡ member_urgency (pass_edit_to m (Some w) o) u)
    urgency u (inl e) = inl (ap Some (sym e))
    urgency u (inr ne) =
        inr (ap (λ n. least (base_of n) (filter_map (λ mutex. slice_index_or o.ceilings mutex None) (owned_in (with_mutex_free m o) u))) (sym (elsewhere u ne))
        ∙ ap (λ c. least (base_of (member_at (leave_edit w o) u)) (filter_map (λ mutex. slice_index_or o.ceilings mutex None) (map (λ (t : Taken). t.mutex) (cond c (record { mutex = m; owner = w; hold = 1 } ∷ filter (λ t. t.owner == u) (others m o.taken)) (filter (λ t. t.owner == u) (others m o.taken))))))
        (sym (ne_eqb w u (λ e. ne (sym e)))))

    got : owner_in (pass_edit_to m (Some w) o) m ≡ Some w
    got = ap (λ c. option_map (λ (t : Taken). t.owner) (cond c (Some (record { mutex = m; owner = w; hold = 1 })) (find (λ t. t.mutex == m) (others m o.taken)))) (eq-eqb m m refl)

    kept_by : (a : Option ℕ) (u : ℕ) → option_and_then (owner_in (with_mutex_free m o)) a ≡ Some u → option_and_then (owner_in (pass_edit_to m (Some w) o)) a ≡ Some u
    kept_by None u e = absurd (none-some u e)
    kept_by (Some k) u e =
        ⊎_elim (λ f. absurd (none-some u (sym (others_none m o.taken) ∙ sym (ap (owner_among (others m o.taken)) f) ∙ e))) (λ ne. got_other (leave_edit w o) m w k ne ∙ sym (others_other m k o.taken ne) ∙ e) (cases_eq k m)

    kept : (x u : ℕ) → blocker_in (with_mutex_free m o) x ≡ Some u → (x ≡ w) ⊎ (x ≢ w) → (Some w ≡ Some u) ⊎ (blocker_in (pass_edit_to m (Some w) o) x ≡ Some u)
    kept x u e (inl f) =
        absurd (none-some u (sym (others_none m o.taken) ∙ sym (ap (option_and_then (owner_in (with_mutex_free m o))) waits) ∙ sym (ap (blocker_in (with_mutex_free m o)) f) ∙ e))
    kept x u e (inr ne) = inr (ap (λ n. option_and_then (owner_in (pass_edit_to m (Some w) o)) (awaited_by n)) (elsewhere x ne) ∙ kept_by (awaited_in o x) u e)

    more_by : (a : Option ℕ) (u : ℕ) → option_and_then (owner_in (pass_edit_to m (Some w) o)) a ≡ Some u → (Some w ≡ Some u) ⊎ (option_and_then (owner_in (with_mutex_free m o)) a ≡ Some u)
    more_by None u e = absurd (none-some u e)
    more_by (Some k) u e =
        ⊎_elim (λ f. inl (sym got ∙ sym (ap (owner_in (pass_edit_to m (Some w) o)) f) ∙ e)) (λ ne. inr (others_other m k o.taken ne ∙ sym (got_other (leave_edit w o) m w k ne) ∙ e)) (cases_eq k m)

    more : (x u : ℕ) → blocker_in (pass_edit_to m (Some w) o) x ≡ Some u → (x ≡ w) ⊎ (x ≢ w) → (Some w ≡ Some u) ⊎ (blocker_in (with_mutex_free m o) x ≡ Some u)
    more x u e (inl f) =
        let nobody : blocker_in (pass_edit_to m (Some w) o) w ≡ None =
        ap (λ n. option_and_then (owner_in (pass_edit_to m (Some w) o)) (awaited_by n)) (get_or-set_same o.members w (option_map (with_wait None) (member_at o w)) None h)
        ∙ ap (option_and_then (owner_in (pass_edit_to m (Some w) o))) (left_awaits (member_at o w)) in
        absurd (none-some u (sym nobody ∙ sym (ap (blocker_in (pass_edit_to m (Some w) o)) f) ∙ e))
    more x u e (inr ne) = more_by (awaited_in o x) u (sym (ap (λ n. option_and_then (owner_in (pass_edit_to m (Some w) o)) (awaited_by n)) (elsewhere x ne)) ∙ e)

-- a mutex that is free already passes as one that isn't
pub passed_free : (o : Ownership) (m w : ℕ) → pass_edit_to m (Some w) (with_mutex_free m o) ≡ pass_edit_to m (Some w) o
passed_free o m w =
    ap (λ hs. record { members = (leave_edit w o).members; ceilings = o.ceilings; taken = record { mutex = m; owner = w; hold = 1 } ∷ hs }) (others_same m (others m o.taken) (others_apart m o.taken))

-- one edit after another
differs_both : (o p q : Ownership) (from : Option ℕ) → DiffersAt o p from → DiffersAt p q from → DiffersAt o q from
differs_both o p q from a b = record {
  size = a.size ∙ b.size;
  within = b.within;
  urgencies = λ u. ⊎_elim inl (λ e. ⊎_elim inl (λ f. inr (e ∙ f)) (b.urgencies u)) (a.urgencies u);
  kept = λ x u e. ⊎_elim inl (λ f. b.kept x u f) (a.kept x u e);
  more = λ x u e. ⊎_elim inl (λ f. a.more x u f) (b.more x u e);
}

-- who differs nowhere differs at a thread at most
differs_less : (o p : Ownership) (from : Option ℕ) → DiffersAt o p None → ((u : ℕ) → from ≡ Some u → u < length p.members) → DiffersAt o p from
differs_less o p from d within = record {
  size = d.size;
  within = within;
  urgencies = λ u. ⊎_elim (λ e. absurd (none-some u e)) inr (d.urgencies u);
  kept = λ x u e. ⊎_elim (λ f. absurd (none-some u f)) inr (d.kept x u e);
  more = λ x u e. ⊎_elim (λ f. absurd (none-some u f)) inr (d.more x u e);
}

-- who waited for nobody and waits no more differs nowhere
differs_left : (o : Ownership) (t : ℕ) → t < length o.members → blocker_in o t ≡ None → DiffersAt o (leave_edit t o) None
differs_left o t h none =
    differs_row o t (option_map (with_wait None) (member_at o t)) None h (λ u e. absurd (none-some u e)) (inr (left_base (member_at o t))) (λ u e. absurd (none-some u (sym none ∙ e)))
    (λ u e. absurd (none-some u (sym (ap (option_and_then (owner_in o)) (left_awaits (member_at o t))) ∙ e)))

nobody : (b : Option ℕ) → ((u : ℕ) → b ≢ Some u) → b ≡ None
nobody None f = refl
nobody (Some u) f = absurd (f u refl)

differs_leaves : (ts : List ℕ) (o : Ownership) → ((t : ℕ) → is_among ts t ≡ true → (t < length o.members) × (blocker_in o t ≡ None)) → DiffersAt o (leave_edits ts o) None
differs_leaves [] o f = record { size = refl; within = λ u e. absurd (none-some u e); urgencies = λ u. inr refl; kept = λ x u e. inr e; more = λ x u e. inr e }
differs_leaves (t ∷ ts) o f =
    let first = f t (or_left (eqb t t) (is_among ts t) (eq-eqb t t refl)) in
    let left : DiffersAt o (leave_edit t o) None = differs_left o t first.0 first.1 in
    differs_both o (leave_edit t o) (leave_edits ts (leave_edit t o)) None left
    (differs_leaves ts (leave_edit t o) (λ u h.
    let then = f u (or_right (eqb t u) (is_among ts u) h) in (
      omega (arith, then.0, left.size),
      nobody (blocker_in (leave_edit t o) u) (λ v e. ⊎_elim (λ k. none-some v k) (λ k. none-some v (sym then.1 ∙ k)) (left.more u v e)),
    )))

-- the end of a mutex differs at its owner
pub differs_mutex_end : (o : Ownership) (m : ℕ) → IsSound o → DiffersAt o (kill_mutex_edit m o) (owner_in o m)
differs_mutex_end o m s =
    let rest : Ownership = leave_edits (waiters_in o m) (with_mutex_free m o) in
    let waits : DiffersAt (with_mutex_free m o) rest None =
    differs_leaves (waiters_in o m) (with_mutex_free m o)
    (λ t h. (awaited_within o t m (waiter_awaits o m t h), ap (option_and_then (owner_in (with_mutex_free m o))) (waiter_awaits o m t h) ∙ others_none m o.taken)) in
    let rows : rest.taken ≡ others m o.taken = leaves_taken (waiters_in o m) (with_mutex_free m o) in
    let once : AllPairs Apart rest.taken = rw rows (AllPairs-filter Apart (λ (h : Taken). not (h.mutex == m)) o.taken s.once) in
    let none : owner_in rest m ≡ None = ap (λ hs. owner_among hs m) rows ∙ others_none m o.taken in
    let last : DiffersAt rest (kill_mutex_edit m o) None = record {
      size = refl;
      within = λ u e. absurd (none-some u e);
      urgencies = λ u. inr ((touches_ceiling_at m None rest once).urgencies u (ap (λ r. is_among (option_to_list r) u) none));
      kept = λ x u e. inr e;
      more = λ x u e. inr e;
    } in
    let end : DiffersAt (with_mutex_free m o) (kill_mutex_edit m o) None = differs_both (with_mutex_free m o) rest (kill_mutex_edit m o) None waits last in
    differs_both o (with_mutex_free m o) (kill_mutex_edit m o) (owner_in o m) (differs_free o m s)
    (differs_less (with_mutex_free m o) (kill_mutex_edit m o) (owner_in o m) end (λ u e. omega (arith, owner_within o m u s e, end.size)))

-- who has a mutex for the last time owns it
pub last_owner : (o : Ownership) (t m : ℕ) → is_last t (taken_of o m) ≡ true → owner_in o m ≡ Some t
last_owner o t m e = by_row (taken_of o m) e
  where
    by_test : (h : Taken) (b c : Bool) → eqb h.owner t ≡ b → (b && c) ≡ true → Some h.owner ≡ Some t
    by_test h true c f k = ap Some (eqb-true h.owner t f)
    by_test h false c f k = absurd (false≢true k)

    by_row : (r : Option Taken) → is_last t r ≡ true → option_map (λ (h : Taken). h.owner) r ≡ Some t
    by_row None f = absurd (false≢true f)
    by_row (Some h) f = by_test h (h.owner == t) (not (nat_lt 1 h.hold)) refl f

-- a thread owns the first of its mutexes
pub first_owner : (o : Ownership) (t m : ℕ) → IsSound o → head_of (owned_in o t) ≡ Some m → owner_in o m ≡ Some t
first_owner o t m s e =
    let w = owned_row t m (drop 1 (owned_in o t)) o.taken s.once (head_split (owned_in o t) m e) in
    ap (option_map (λ (h : Taken). h.owner)) w.1 ∙ ap Some w.2

-- the numbers before an edit at one thread are right after it but along its chain
pub aside_by : (o p q : Ownership) (curs : List ℕ) (from : Option ℕ) → IsSound o → IsSound p → curs ≡ curs_of o → p ≡ q → DiffersAt o q from → AreAside p curs from
aside_by o p q curs from s k at e d = differs_aside o p curs from s k at (rw e d)

pub got_aside : (o q p : Ownership) (curs : List ℕ) (m w : ℕ) → IsSound q → IsSound p → curs ≡ curs_of q → q ≡ with_mutex_free m o → p ≡ pass_edit_to m (Some w) q → first_in o m ≡ Some w
    → AreAside p curs (Some w)
got_aside o q p curs m w s k at free got first =
    let waits : awaited_in o w ≡ Some m = first_awaits o m w first in
    aside_by q p (pass_edit_to m (Some w) o) curs (Some w) s k at (got ∙ ap (pass_edit_to m (Some w)) free ∙ passed_free o m w) (rw free (differs_got o m w (awaited_within o w m waits) waits))

set_twice : (ms : List (Option Member)) (t : ℕ) (a b : Option Member) → slice_set (slice_set ms t a) t b ≡ slice_set ms t b
set_twice [] t a b = refl
set_twice (m ∷ ms) zero a b = refl
set_twice (m ∷ ms) (suc t) a b = ap (λ l. m ∷ l) (set_twice ms t a b)

-- a thread that leaves first is gone as one that doesn't
pub left_gone : (o : Ownership) (t : ℕ) → with_member (leave_edit t o) t None ≡ with_member o t None
left_gone o t = ap (λ l. record o { members = l }) (set_twice o.members t (option_map (with_wait None) (member_at o t)) None)

-- the numbers of a thread that left its wait are right but for its own after it is gone
pub gone_aside : (o q p : Ownership) (curs : List ℕ) (t : ℕ) → IsSound q → IsSound p → curs ≡ curs_of q → q ≡ leave_edit t o → p ≡ with_member q t None → t < length o.members → AreAside p curs (Some t)
gone_aside o q p curs t s k at left gone h =
    let size : length q.members ≡ length o.members = ap (λ (r : Ownership). length r.members) left ∙ length-set o.members t (option_map (with_wait None) (member_at o t)) in
    let none : blocker_in q t ≡ None =
    ap (λ (r : Ownership). blocker_in r t) left
    ∙ ap (λ m. option_and_then (owner_in o) (awaited_by m)) (get_or-set_same o.members t (option_map (with_wait None) (member_at o t)) None h)
    ∙ ap (option_and_then (owner_in o)) (left_awaits (member_at o t)) in
    aside_by q p (with_member q t None) curs (Some t) s k at gone (differs_gone q t (omega arith) none)
