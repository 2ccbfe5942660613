-- Each awaited mutex has an owner, after each edit.
use Rattle.std.proofs.Common.{ℕ, ◌≡◌, ◌≢◌, ◌+◌, ◌<◌, ◌≤◌, zero, suc, List, [], ◌∷◌, length, map, Bool, true, false, cond, ◌||◌, ◌&&◌, eqb, Option, Some, None, refl, sym, ap, ◌∙◌, arith, ◌⊎◌, inl, inr, ⊎_elim, get_or-set_same, get_or-set_other}
use Rattle.std.specs.Prelude.{slice_set, nat_lt, ◌-◌, ◌==◌}
use Rattle.std.specs.List.{filter_map, range_with_len, cons_option, find}
use Rattle.std.specs.Option.{option_map}
use Rattle.std.proofs.Math.ListN.{length-set}
use Rattle.std.proofs.lemmas.Option.{none-some}
use Rattle.std.proofs.lemmas.Bool.{cases_eq, cases_lt, eq-eqb, ne_eqb, false≢true, or_left, or_right}
use Rattle.std.proofs.lemmas.List.{get_or_past}
use Rattle.rt_base.specs.declared.codes.WaitOrder.{WaitOrder}
use Rattle.rt_plain.specs.kernel.State.{is_among}
use Rattle.rt_plain.specs.kernel.Waiting.{Waiter, stands_before, put_in_order, in_order}
use Rattle.rt_plain.specs.kernel.Ownership.{Ownership, Member, MutexWait, Taken, member_at, wait_of, awaited_in, taken_of, owner_in, owned_in, wait_row, waiters_in, wait_rows_in, first_in, with_member, with_base, base_edit, with_wait, leave_edit, leave_edits, with_mutex_free, with_mutex_got, with_taken_times, take_edit, take_edit_of, pass_edit_to, pass_edit, pass_edits, release_edit, release_edit_of, kill_mutex_edit, kill_thread_edit}
use Rattle.mutex_chain.specs.Owners.{AreOwned}
use Rattle.mutex_chain.specs.Graph.{row_in}
use Rattle.mutex_chain.proofs.OwnerLemmas.{others}
use Rattle.mutex_chain.proofs.HolderLemmas.{owner_among, others_other, same_owner}
use Rattle.mutex_chain.proofs.CurLemmas.{awaited_by}
use Rattle.mutex_chain.proofs.LineLemmas.{row_thread}
use Rattle.mutex_chain.proofs.PassLemmas.{head_none}
use Rattle.mutex_chain.proofs.TouchLemmas.{leaves_taken}

-- nobody waits for a mutex anew, and no awaited mutex loses its owner
kept_owned : (o p : Ownership) → ((t m : ℕ) → awaited_in p t ≡ Some m → (awaited_in o t ≡ Some m) × (owner_in o m ≢ None → owner_in p m ≢ None)) → AreOwned o → AreOwned p
kept_owned o p f a t m e = (f t m e).1 (a t m (f t m e).0)

-- another row of a thread, which waits on nothing new
owned_row : (o : Ownership) (t : ℕ) (row : Option Member) → ((m : ℕ) → awaited_by row ≡ Some m → awaited_in o t ≡ Some m) → AreOwned o → AreOwned (with_member o t row)
owned_row o t row f a = kept_owned o (with_member o t row) (λ x m e. (by_place x m e (cases_eq x t) (cases_lt t (length o.members)), λ h. h)) a
  where
    by_place : (x m : ℕ) → awaited_in (with_member o t row) x ≡ Some m → (x ≡ t) ⊎ (x ≢ t) → (t < length o.members) ⊎ (length o.members ≤ t) → awaited_in o x ≡ Some m
    by_place x m e (inl same) (inl h) =
        ap (awaited_in o) same ∙ f m (sym (ap awaited_by (get_or-set_same o.members t row None h)) ∙ sym (ap (awaited_in (with_member o t row)) same) ∙ e)
    by_place x m e (inl same) (inr h) =
        let long : length (slice_set o.members t row) ≤ x = omega (arith, length-set o.members t row) in
        absurd (none-some m (sym (ap awaited_by (get_or_past (slice_set o.members t row) x None long)) ∙ e))
    by_place x m e (inr ne) h = sym (ap awaited_by (get_or-set_other o.members t x row None ne)) ∙ e

owned_gone : (o : Ownership) (t : ℕ) → AreOwned o → AreOwned (with_member o t None)
owned_gone o t a = owned_row o t None (λ m e. absurd (none-some m e)) a

pub left_awaits : (m : Option Member) → awaited_by (option_map (with_wait None) m) ≡ None
left_awaits None = refl
left_awaits (Some m) = refl

pub owned_leave : (o : Ownership) (t : ℕ) → AreOwned o → AreOwned (leave_edit t o)
owned_leave o t a = owned_row o t (option_map (with_wait None) (member_at o t)) (λ m e. absurd (none-some m (sym (left_awaits (member_at o t)) ∙ e))) a

pub based_awaits : (base : ℕ) (m : Option Member) → awaited_by (option_map (with_base base) m) ≡ awaited_by m
based_awaits base None = refl
based_awaits base (Some m) = refl

pub owned_base : (o : Ownership) (t base : ℕ) → AreOwned o → AreOwned (base_edit t base o)
owned_base o t base a = owned_row o t (option_map (with_base base) (member_at o t)) (λ m e. sym (based_awaits base (member_at o t)) ∙ e) a

-- the owner of another mutex than the one that is got
pub got_other : (o : Ownership) (m t k : ℕ) → k ≢ m → owner_in (with_mutex_got m t o) k ≡ owner_in o k
got_other o m t k ne =
    ap (λ c. option_map (λ (h : Taken). h.owner) (cond c (Some (record { mutex = m; owner = t; hold = 1 })) (find (λ h. h.mutex == k) (others m o.taken)))) (ne_eqb m k (λ s. ne (sym s)))
    ∙ others_other m k o.taken ne

got_owner : (o : Ownership) (m t k : ℕ) → (k ≡ m) ⊎ (k ≢ m) → owner_in o k ≢ None → owner_in (with_mutex_got m t o) k ≢ None
got_owner o m t k (inl e) h =
    let after : owner_in (with_mutex_got m t o) k ≡ Some t =
    ap (λ c. option_map (λ (h : Taken). h.owner) (cond c (Some (record { mutex = m; owner = t; hold = 1 })) (find (λ h. h.mutex == k) (others m o.taken)))) (eq-eqb m k (sym e)) in
    λ n. none-some t (sym n ∙ after)
got_owner o m t k (inr ne) h = λ n. h (sym (got_other o m t k ne) ∙ n)

owned_got : (o : Ownership) (m t : ℕ) → AreOwned o → AreOwned (with_mutex_got m t o)
owned_got o m t a = kept_owned o (with_mutex_got m t o) (λ x k e. (e, got_owner o m t k (cases_eq k m))) a

owned_times : (o : Ownership) (m hold : ℕ) → AreOwned o → AreOwned (with_taken_times m hold o)
owned_times o m hold a = kept_owned o (with_taken_times m hold o) (λ x k e. (e, λ h n. h (sym (same_owner m hold k o.taken) ∙ n))) a

pub owned_take : (o : Ownership) (t m : ℕ) → AreOwned o → AreOwned (take_edit t m o)
owned_take o t m a = by_row (taken_of o m)
  where
    by_tests : (hold : ℕ) (b : Bool) → AreOwned (cond b (with_taken_times m (hold + 1) o) o)
    by_tests hold true = owned_times o m (hold + 1) a
    by_tests hold false = a

    by_row : (r : Option Taken) → AreOwned (take_edit_of t m r o)
    by_row None = owned_got o m t a
    by_row (Some h) = by_tests h.hold ((h.owner == t) && nat_lt h.hold 255)

-- the threads of a list of waiters
or_swap : (a b c : Bool) → b || (a || c) ≡ a || (b || c)
or_swap true true c = refl
or_swap true false c = refl
or_swap false true c = refl
or_swap false false c = refl

among_put : (w : Waiter) (ws : List Waiter) (t : ℕ) → is_among (map (λ (w : Waiter). w.thread) (put_in_order WaitOrder.Prio w ws)) t ≡ eqb w.thread t || is_among (map (λ (w : Waiter). w.thread) ws) t
among_put w [] t = refl
among_put w (v ∷ vs) t = by_test (stands_before WaitOrder.Prio w v) (among_put w vs t)
  where
    by_test : (b : Bool) → is_among (map (λ (w : Waiter). w.thread) (put_in_order WaitOrder.Prio w vs)) t ≡ eqb w.thread t || is_among (map (λ (w : Waiter). w.thread) vs) t
        → is_among (map (λ (w : Waiter). w.thread) (cond b (w ∷ v ∷ vs) (v ∷ put_in_order WaitOrder.Prio w vs))) t ≡ eqb w.thread t || (eqb v.thread t || is_among (map (λ (w : Waiter). w.thread) vs) t)
    by_test true e = refl
    by_test false e = ap (λ b. eqb v.thread t || b) e ∙ or_swap (eqb w.thread t) (eqb v.thread t) (is_among (map (λ (w : Waiter). w.thread) vs) t)

pub among_order : (ws : List Waiter) (t : ℕ) → is_among (map (λ (w : Waiter). w.thread) (in_order WaitOrder.Prio ws)) t ≡ is_among (map (λ (w : Waiter). w.thread) ws) t
among_order [] t = refl
among_order (w ∷ ws) t = among_put w (in_order WaitOrder.Prio ws) t ∙ ap (λ b. eqb w.thread t || b) (among_order ws t)

among_rows : (o : Ownership) (m t : ℕ) (w : Waiter) (a n : ℕ) → row_in o m t ≡ Some w → a ≤ t → t < a + n → is_among (map (λ (w : Waiter). w.thread) (filter_map (row_in o m) (range_with_len a n))) t ≡ true
among_rows o m t w a zero e low high = absurd (omega arith)
among_rows o m t w a (suc n) e low high = by_place (cases_eq t a) (λ k. among_rows o m t w (a + 1) n e k (omega arith))
  where
    by_row : (r : Option Waiter) → is_among (map (λ (w : Waiter). w.thread) (filter_map (row_in o m) (range_with_len (a + 1) n))) t ≡ true
        → is_among (map (λ (w : Waiter). w.thread) (cons_option r (filter_map (row_in o m) (range_with_len (a + 1) n)))) t ≡ true
    by_row None h = h
    by_row (Some v) h = or_right (eqb v.thread t) (is_among (map (λ (w : Waiter). w.thread) (filter_map (row_in o m) (range_with_len (a + 1) n))) t) h

    by_place : (t ≡ a) ⊎ (t ≢ a) → (a + 1 ≤ t → is_among (map (λ (w : Waiter). w.thread) (filter_map (row_in o m) (range_with_len (a + 1) n))) t ≡ true)
        → is_among (map (λ (w : Waiter). w.thread) (filter_map (row_in o m) (range_with_len a (suc n)))) t ≡ true
    by_place (inl same) again =
        ap (λ r. is_among (map (λ (w : Waiter). w.thread) (cons_option r (filter_map (row_in o m) (range_with_len (a + 1) n)))) t) (ap (row_in o m) (sym same) ∙ e)
        ∙ or_left (eqb w.thread t) (is_among (map (λ (w : Waiter). w.thread) (filter_map (row_in o m) (range_with_len (a + 1) n))) t) (eq-eqb w.thread t (row_thread o m t w e))
    by_place (inr ne) again = by_row (row_in o m a) (again (omega arith))

awaited_row : (o : Ownership) (t m : ℕ) → awaited_in o t ≡ Some m → (w : Waiter) × (row_in o m t ≡ Some w)
awaited_row o t m e = by_wait (wait_of o t) e
  where
    by_test : (w : Waiter) (b : Bool) → b ≡ true → (v : Waiter) × (cond b (Some w) None ≡ Some v)
    by_test w true e = (w, refl)
    by_test w false e = absurd (false≢true e)

    by_wait : (wait : Option MutexWait) → option_map (λ (w : MutexWait). w.mutex) wait ≡ Some m → (w : Waiter) × (wait_row o m t wait ≡ Some w)
    by_wait None f = absurd (none-some m f)
    by_wait (Some w) f = let same : w.mutex ≡ m = cc in by_test _ (w.mutex == m) (eq-eqb w.mutex m same)

pub awaited_within : (o : Ownership) (t m : ℕ) → awaited_in o t ≡ Some m → t < length o.members
awaited_within o t m e = ⊎_elim (λ low. low) (λ high. absurd (none-some m (sym (ap awaited_by (get_or_past o.members t None high)) ∙ e))) (cases_lt t (length o.members))

-- who waits on a mutex is among its waiters
among_waiters : (o : Ownership) (t m : ℕ) → awaited_in o t ≡ Some m → is_among (waiters_in o m) t ≡ true
among_waiters o t m e =
    let w = awaited_row o t m e in
    among_order (wait_rows_in o m) t ∙ among_rows o m t w.0 0 (length o.members) w.1 (omega arith) (omega (arith, awaited_within o t m e))

-- nobody waits on a mutex without a first waiter
nobody_waits : (o : Ownership) (t m : ℕ) → first_in o m ≡ None → awaited_in o t ≢ Some m
nobody_waits o t m none e = false≢true (sym (ap (λ ts. is_among ts t) (head_none (waiters_in o m) none)) ∙ among_waiters o t m e)

pub owned_pass : (o : Ownership) (m : ℕ) (first : Option ℕ) → first ≡ first_in o m → AreOwned o → AreOwned (pass_edit_to m first o)
owned_pass o m None e a =
    kept_owned o (with_mutex_free m o) (λ x k f. (f, λ h n. h (sym (others_other m k o.taken (λ same. nobody_waits o x m (sym e) (f ∙ ap Some same))) ∙ n))) a
owned_pass o m (Some u) e a = owned_got (leave_edit u o) m u (owned_leave o u a)

pub owned_release : (o : Ownership) (t m : ℕ) → AreOwned o → AreOwned (release_edit t m o)
owned_release o t m a = by_row (taken_of o m)
  where
    by_tests : (hold : ℕ) (b c : Bool) → AreOwned (cond b (cond c (with_taken_times m (hold - 1) o) (pass_edit m o)) o)
    by_tests hold true true = owned_times o m (hold - 1) a
    by_tests hold true false = owned_pass o m (first_in o m) refl a
    by_tests hold false c = a

    by_row : (r : Option Taken) → AreOwned (release_edit_of t m r o)
    by_row None = a
    by_row (Some h) = by_tests h.hold (h.owner == t) (nat_lt 1 h.hold)

owned_passes : (ms : List ℕ) (o : Ownership) → AreOwned o → AreOwned (pass_edits ms o)
owned_passes [] o a = a
owned_passes (m ∷ ms) o a = owned_passes ms (pass_edit m o) (owned_pass o m (first_in o m) refl a)

pub owned_thread_end : (o : Ownership) (t : ℕ) → AreOwned o → AreOwned (kill_thread_edit t o)
owned_thread_end o t a = owned_passes (owned_in o t) (with_member o t None) (owned_gone o t a)

-- who still waits after threads left
left_by : (t x m : ℕ) (o : Ownership) → awaited_in (leave_edit t o) x ≡ Some m → (awaited_in o x ≡ Some m) × (x ≢ t)
left_by t x m o e = by_place (cases_eq x t) (cases_lt t (length o.members))
  where
    row : Option Member
    row = option_map (with_wait None) (member_at o t)

    by_place : (x ≡ t) ⊎ (x ≢ t) → (t < length o.members) ⊎ (length o.members ≤ t) → (awaited_in o x ≡ Some m) × (x ≢ t)
    by_place (inl same) (inl h) =
        absurd (none-some m (sym (left_awaits (member_at o t)) ∙ sym (ap awaited_by (get_or-set_same o.members t row None h)) ∙ sym (ap (awaited_in (leave_edit t o)) same) ∙ e))
    by_place (inl same) (inr h) =
        let long : length (slice_set o.members t row) ≤ x = omega (arith, length-set o.members t row) in
        absurd (none-some m (sym (ap awaited_by (get_or_past (slice_set o.members t row) x None long)) ∙ e))
    by_place (inr ne) h = (sym (ap awaited_by (get_or-set_other o.members t x row None ne)) ∙ e, ne)

left_all : (ts : List ℕ) (x m : ℕ) (o : Ownership) → awaited_in (leave_edits ts o) x ≡ Some m → (awaited_in o x ≡ Some m) × (is_among ts x ≡ false)
left_all [] x m o e = (e, refl)
left_all (t ∷ ts) x m o e =
    let rest = left_all ts x m (leave_edit t o) e in
    let first = left_by t x m o rest.0 in
    (first.0, ap (λ b. b || is_among ts x) (ne_eqb t x (λ s. first.1 (sym s))) ∙ rest.1)

pub owned_mutex_end : (o : Ownership) (m : ℕ) → AreOwned o → AreOwned (kill_mutex_edit m o)
owned_mutex_end o m a x k e =
    let left = left_all (waiters_in o m) x k (with_mutex_free m o) e in
    let other : k ≢ m = λ s. false≢true (sym left.1 ∙ among_waiters o x m (left.0 ∙ ap Some s)) in
    let owner : owner_in (leave_edits (waiters_in o m) (with_mutex_free m o)) k ≡ owner_in o k =
    ap (λ hs. owner_among hs k) (leaves_taken (waiters_in o m) (with_mutex_free m o)) ∙ others_other m k o.taken other in
    λ n. a x k left.0 (sym owner ∙ n)
