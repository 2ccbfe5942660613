-- What an edit counts, by the weights of the chains before and after it.
use Rattle.std.proofs.Common.{ℕ, ◌≡◌, ◌+◌, ◌*◌, ◌<◌, ◌≤◌, zero, suc, List, [], ◌∷◌, length, map, Bool, true, false, not, cond, eqb, Option, Some, None, refl, sym, ap, ◌∙◌, arith, ⊎_elim, subst}
use Rattle.std.specs.Prelude.{filter, ◌==◌}
use Rattle.std.specs.List.{sum_by, filter_map, range_with_len, cons_option, list_any}
use Rattle.std.specs.Option.{option_map, option_and_then, option_to_list}
use Rattle.std.proofs.lemmas.Bool.{cases_eq, eq-eqb, false≢true, or_cases, or_left, or_right}
use Rattle.std.proofs.lemmas.Option.{none-some}
use Rattle.std.proofs.Math.ListN.{length-set}
use Rattle.rt_base.specs.declared.codes.WaitOrder.{WaitOrder}
use Rattle.rt_plain.specs.kernel.State.{is_among}
use Rattle.rt_plain.specs.kernel.Priority.{reach, blocker_of}
use Rattle.rt_plain.specs.kernel.Waiting.{Waiter, in_order}
use Rattle.rt_plain.specs.kernel.Ownership.{Ownership, Taken, MutexWait, member_at, with_wait, graph_in, awaited_in, wait_of, wait_row, wait_rows_in, waiters_in, owned_in, owner_in, taken_of, first_in, cur_in, leave_edit, with_mutex_free}
use Rattle.rt_plain.specs.kernel.Weight.{chain, weight_of, fellow_count, moment_weight, edit_size, release_touches, passed_by, mutex_end_touches}
use Rattle.susp_list.proofs.OrderLemmas.{length-in_order}
use Rattle.mutex_chain.specs.Graph.{row_in, is_last}
use Rattle.mutex_chain.specs.Owners.{IsSound, blocker_in}
use Rattle.mutex_chain.specs.Raising.{LeadsTo}
use Rattle.mutex_chain.specs.Costs.{chain_sum, first_weight}
use Rattle.mutex_chain.proofs.LawLemmas.{meets_in, reach_among, itself, only, went_on}
use Rattle.mutex_chain.proofs.ReachLemmas.{hits_on}
use Rattle.mutex_chain.proofs.CurLemmas.{blocker_same, blocker_within, owner_within}
use Rattle.mutex_chain.proofs.ChainLemmas.{any_of, in_chain, leads, leads_itself, leads_on, leads_here, graph_size}
use Rattle.mutex_chain.proofs.CostLemmas.{sum_le, sum_less, length-threads}
use Rattle.mutex_chain.proofs.EditLemmas.{awaits_row, waiter_awaits, first_awaits}
use Rattle.mutex_chain.proofs.HolderLemmas.{owner_among, others_none, others_other}
use Rattle.mutex_chain.proofs.OwnedLemmas.{awaited_within}
use Rattle.mutex_chain.proofs.OwnerLemmas.{others}
use Rattle.mutex_chain.proofs.StoredLemmas.{leave_here, leave_other}
use Rattle.mutex_chain.proofs.TouchLemmas.{among_append}

-- the chain of a thread leads to itself
pub chain_one : (f : ℕ → ℕ) (o : Ownership) (u : ℕ) → u < length o.members → f u ≤ chain_sum f o u
chain_one f o u h =
    omega (
      arith,
      sum_less f (λ y. false) (λ t. is_among (reach (graph_in o) t) u) u 0 (length o.members) (omega arith) (omega arith) refl
          (reach_among (graph_in o) u u (omega (arith, graph_size o)) (omega (arith, graph_size o)) ∙ leads_itself o u) (λ y e. absurd (false≢true e)),
    )

-- whom the chain of a touched thread leads to weighs in the moment
pub chain_moment : (o : Ownership) (touched : List ℕ) (u : ℕ) → IsSound o → is_among touched u ≡ true → u < length o.members → chain_sum (weight_of o) o u ≤ moment_weight o touched
chain_moment o touched u s among h =
    sum_le (weight_of o) (weight_of o) (λ t. is_among (reach (graph_in o) t) u) (λ t. list_any (λ u. is_among (chain (graph_in o) u) t) touched) 0 (length o.members)
    (λ x low high e. (stands x (omega arith) e, omega arith))
  where
    small : u < length (graph_in o).blockers
    small = omega (arith, graph_size o)

    within : (x t : ℕ) → blocker_of (graph_in o) x ≡ Some t → t < length (graph_in o).blockers
    within x t e = omega (arith, graph_size o, blocker_within o x t s (sym (blocker_same o x) ∙ e))

    stands : (x : ℕ) → x < length o.members → is_among (reach (graph_in o) x) u ≡ true → list_any (λ u. is_among (chain (graph_in o) u) x) touched ≡ true
    stands x inside e =
        any_of (λ v. is_among (chain (graph_in o) v) x) touched u among
        (in_chain (graph_in o) u x within small (sym (reach_among (graph_in o) x u (omega (arith, graph_size o)) small) ∙ e))

-- where fewer wait, a chain leads to no more than it did
leads_within : (k : ℕ) (o p : Ownership) (u x y : ℕ) → IsSound o → ((x t : ℕ) → blocker_in p x ≡ Some t → blocker_in o x ≡ Some t) → meets_in k (graph_in p) x y ≡ true → leads o u y ≡ true
    → leads o u x ≡ true
leads_within zero o p u x y s kept m h = let same : x ≡ y = only x y m in ap (leads o u) same ∙ h
leads_within (suc k) o p u x y s kept m h =
    ⊎_elim (λ e. let same : x ≡ y = only x y e in ap (leads o u) same ∙ h) (further (λ v n l. leads_within k o p u x v s kept n l))
    (or_cases (is_among (x ∷ []) y) (hits_on (λ v. meets_in k (graph_in p) x v) (blocker_of (graph_in p) y)) m)
  where
    further : ((v : ℕ) → meets_in k (graph_in p) x v ≡ true → leads o u v ≡ true → leads o u x ≡ true) → hits_on (λ v. meets_in k (graph_in p) x v) (blocker_of (graph_in p) y) ≡ true → leads o u x ≡ true
    further again n =
        let w = went_on (λ v. meets_in k (graph_in p) x v) (blocker_of (graph_in p) y) n in
        again w.0 w.2 (leads_on o u y w.0 s h (kept y w.0 (sym (blocker_same p y) ∙ w.1)))

pub chain_within : (o p : Ownership) (u v : ℕ) → IsSound o → length o.members ≡ length p.members → ((x t : ℕ) → blocker_in p x ≡ Some t → blocker_in o x ≡ Some t)
    → ((x : ℕ) → weight_of p x ≤ weight_of o x) → leads o u v ≡ true → u < length o.members → v < length o.members → chain_sum (weight_of p) p v ≤ chain_sum (weight_of o) o u
chain_within o p u v s size kept less h inside within =
    let some : chain_sum (weight_of p) p v ≡ sum_by (weight_of p) (filter (λ t. is_among (reach (graph_in p) t) v) (range_with_len 0 (length o.members))) =
    ap (λ n. sum_by (weight_of p) (filter (λ t. is_among (reach (graph_in p) t) v) (range_with_len 0 n))) (sym size) in
    omega (
      arith,
      some,
      sum_le (weight_of p) (weight_of o) (λ t. is_among (reach (graph_in p) t) v) (λ t. is_among (reach (graph_in o) t) u) 0 (length o.members) (λ x low high e. (on x (omega arith) e, less x)),
    )
  where
    on : (x : ℕ) → x < length o.members → is_among (reach (graph_in p) x) v ≡ true → is_among (reach (graph_in o) x) u ≡ true
    on x k e =
        let met : meets_in (length (graph_in p).blockers) (graph_in p) x v ≡ true =
        sym (reach_among (graph_in p) x v (omega (arith, graph_size p, size)) (omega (arith, graph_size p, size))) ∙ e in
        reach_among (graph_in o) x u (omega (arith, graph_size o)) (omega (arith, graph_size o)) ∙ leads_within (length (graph_in p).blockers) o p u x v s kept met h

-- as many rows or more
rows_le : (f g : ℕ → Option Waiter) (a n : ℕ) → ((x : ℕ) (w : Waiter) → f x ≡ Some w → (v : Waiter) × (g x ≡ Some v)) → length (filter_map f (range_with_len a n)) ≤ length (filter_map g (range_with_len a n))
rows_le f g a zero h = omega arith
rows_le f g a (suc n) h = by_rows (f a) refl (g a) refl (rows_le f g (a + 1) n h)
  where
    by_rows : (r : Option Waiter) → f a ≡ r → (s : Option Waiter) → g a ≡ s → length (filter_map f (range_with_len (a + 1) n)) ≤ length (filter_map g (range_with_len (a + 1) n))
        → length (cons_option r (filter_map f (range_with_len (a + 1) n))) ≤ length (cons_option s (filter_map g (range_with_len (a + 1) n)))
    by_rows None e None k le = le
    by_rows None e (Some v) k le = omega arith
    by_rows (Some w) e None k le = let other = h a w e in absurd (none-some other.0 (sym k ∙ other.1))
    by_rows (Some w) e (Some v) k le = omega arith

has_row : (o : Ownership) (m y : ℕ) → awaited_in o y ≡ Some m → (v : Waiter) × (row_in o m y ≡ Some v)
has_row o m y e = by_wait (wait_of o y) refl e
  where
    by_wait : (r : Option MutexWait) → wait_of o y ≡ r → option_map (λ (w : MutexWait). w.mutex) r ≡ Some m → (v : Waiter) × (row_in o m y ≡ Some v)
    by_wait None f k = absurd (none-some m k)
    by_wait (Some w) f k =
        let same : w.mutex ≡ m = cc in
        (record { thread = y; prio = cur_in o y; number = w.number }, ap (wait_row o m y) f ∙ ap (λ b. cond b (Some (record { thread = y; prio = cur_in o y; number = w.number })) None) (eq-eqb w.mutex m same))

length-waiters : (o : Ownership) (m : ℕ) → length (waiters_in o m) ≡ length (wait_rows_in o m)
length-waiters o m = length-threads (in_order WaitOrder.Prio (wait_rows_in o m)) ∙ length-in_order WaitOrder.Prio (wait_rows_in o m)

waiters_le : (o p : Ownership) (m : ℕ) → length o.members ≡ length p.members → ((y : ℕ) → awaited_in p y ≡ Some m → awaited_in o y ≡ Some m) → length (waiters_in p m) ≤ length (waiters_in o m)
waiters_le o p m size waits =
    let rows : length (filter_map (row_in p m) (range_with_len 0 (length p.members))) ≤ length (filter_map (row_in o m) (range_with_len 0 (length o.members))) =
    rw size (rows_le (row_in p m) (row_in o m) 0 (length p.members) (λ y w e. has_row o m y (waits y (awaits_row p m y w e)))) in
    omega (arith, rows, length-waiters o m, length-waiters p m)

-- who owns no more and waits with no more weighs no more
weight_le : (o p : Ownership) (x : ℕ) → length o.members ≡ length p.members → length (owned_in p x) ≤ length (owned_in o x) → ((y m : ℕ) → awaited_in p y ≡ Some m → awaited_in o y ≡ Some m)
    → weight_of p x ≤ weight_of o x
weight_le o p x size owned waits = omega (arith, owned, by_wait (awaited_in p x) refl)
  where
    by_wait : (r : Option ℕ) → awaited_in p x ≡ r → fellow_count p r ≤ fellow_count o (awaited_in o x)
    by_wait None e = omega arith
    by_wait (Some m) e = let here : awaited_in o x ≡ Some m = waits x m e in rw here (waiters_le o p m size (λ y f. waits y m f))

-- a thread that waits no more
left_waits : (o : Ownership) (t : ℕ) → t < length o.members → (y m : ℕ) → awaited_in (leave_edit t o) y ≡ Some m → awaited_in o y ≡ Some m
left_waits o t h y m e = ⊎_elim here (λ ne. sym (ap (option_map (λ (w : MutexWait). w.mutex)) (leave_other o t y ne)) ∙ e) (cases_eq y t)
  where
    here : y ≡ t → awaited_in o y ≡ Some m
    here same = absurd (none-some m (sym (ap (option_map (λ (w : MutexWait). w.mutex)) (ap (wait_of (leave_edit t o)) same ∙ leave_here o t h)) ∙ e))

left_blockers : (o : Ownership) (t : ℕ) → t < length o.members → (x v : ℕ) → blocker_in (leave_edit t o) x ≡ Some v → blocker_in o x ≡ Some v
left_blockers o t h x v e = by_wait (awaited_in (leave_edit t o) x) refl e
  where
    by_wait : (r : Option ℕ) → awaited_in (leave_edit t o) x ≡ r → option_and_then (owner_in o) r ≡ Some v → blocker_in o x ≡ Some v
    by_wait None f k = absurd (none-some v k)
    by_wait (Some m) f k = ap (option_and_then (owner_in o)) (left_waits o t h x m f) ∙ k

pub left_chain : (o : Ownership) (t v : ℕ) → IsSound o → t < length o.members → blocker_in o t ≡ Some v → chain_sum (weight_of (leave_edit t o)) (leave_edit t o) v ≤ chain_sum (weight_of o) o t
left_chain o t v s h e =
    let size : length o.members ≡ length (leave_edit t o).members = sym (length-set o.members t (option_map (with_wait None) (member_at o t))) in
    chain_within o (leave_edit t o) t v s size (left_blockers o t h) (λ x. weight_le o (leave_edit t o) x size (omega arith) (left_waits o t h)) (leads_on o t t v s (leads_itself o t) e) h (blocker_within o t v s e)

pub leave_bound : (o : Ownership) (t : ℕ) (from : Option ℕ) (old new : ℕ) → IsSound o → t < length o.members → from ≡ blocker_in o t → (from ≡ None → new ≡ old)
    → ((u : ℕ) → u < length (leave_edit t o).members → LeadsTo (leave_edit t o) u from → new ≤ old + (6 * chain_sum (weight_of (leave_edit t o)) (leave_edit t o) u + 2))
    → new + 6 ≤ old + 8 * edit_size o (leave_edit t o) (t ∷ [])
leave_bound o t None old new s h at nobody cost = omega (arith, nobody refl)
leave_bound o t (Some v) old new s h at nobody cost =
    let size : length o.members ≡ length (leave_edit t o).members = sym (length-set o.members t (option_map (with_wait None) (member_at o t))) in
    let inside : v < length o.members = blocker_within o t v s (sym at) in
    let after : v < length (leave_edit t o).members = omega (arith, size) in
    omega (
      arith,
      cost v after (leads_here (leave_edit t o) v after),
      left_chain o t v s h (sym at),
      chain_moment o (t ∷ []) t s (itself t) h,
    )

-- a mutex that nobody owns any more
fewer_owned : (m x : ℕ) (hs : List Taken) → length (map (λ h. h.mutex) (filter (λ h. h.owner == x) (others m hs))) ≤ length (map (λ h. h.mutex) (filter (λ h. h.owner == x) hs))
fewer_owned m x [] = omega arith
fewer_owned m x (h ∷ hs) = by_tests (h.mutex == m) (h.owner == x) refl (fewer_owned m x hs)
  where
    by_tests : (b c : Bool) → (h.owner == x) ≡ c → length (map (λ h. h.mutex) (filter (λ h. h.owner == x) (others m hs))) ≤ length (map (λ h. h.mutex) (filter (λ h. h.owner == x) hs))
        → length (map (λ h. h.mutex) (filter (λ h. h.owner == x) (cond (not b) (h ∷ others m hs) (others m hs)))) ≤ length (map (λ h. h.mutex) (cond c (h ∷ filter (λ h. h.owner == x) hs) (filter (λ h. h.owner == x) hs)))
    by_tests true true e r = omega arith
    by_tests true false e r = r
    by_tests false true e r = rw e (omega arith)
    by_tests false false e r = rw e r

free_blockers : (o : Ownership) (m : ℕ) → (x v : ℕ) → blocker_in (with_mutex_free m o) x ≡ Some v → blocker_in o x ≡ Some v
free_blockers o m x v e = by_wait (awaited_in o x) e
  where
    by_wait : (r : Option ℕ) → option_and_then (owner_in (with_mutex_free m o)) r ≡ Some v → option_and_then (owner_in o) r ≡ Some v
    by_wait None k = absurd (none-some v k)
    by_wait (Some n) k =
        ⊎_elim (λ f. absurd (none-some v (sym (others_none m o.taken) ∙ sym (ap (owner_among (others m o.taken)) f) ∙ k))) (λ ne. sym (others_other m n o.taken ne) ∙ k) (cases_eq n m)

pub free_bound : (o : Ownership) (m t : ℕ) → IsSound o → t < length o.members → chain_sum (weight_of (with_mutex_free m o)) (with_mutex_free m o) t ≤ chain_sum (weight_of o) o t
free_bound o m t s h =
    chain_within o (with_mutex_free m o) t t s refl (free_blockers o m) (λ x. weight_le o (with_mutex_free m o) x refl (fewer_owned m x o.taken) (λ y k e. e)) (leads_itself o t) h h

last_touches : (t : ℕ) (r : Option Taken) (o : Ownership) (m : ℕ) → is_last t r ≡ true → passed_by o t m r ≡ first_in o m
last_touches t None o m e = absurd (false≢true e)
last_touches t (Some h) o m e = ap (λ b. cond b (first_in o m) None) e

pub release_bound : (o p : Ownership) (t m : ℕ) (first : Option ℕ) (old new : ℕ) → IsSound o → IsSound p → length p.members ≡ length o.members → t < length o.members → is_last t (taken_of o m) ≡ true
    → first ≡ first_in o m → new ≤ old + (6 * chain_sum (weight_of o) o t + 6 * first_weight p first + 7) → new + 3 ≤ old + 8 * edit_size o p (release_touches o t m)
release_bound o p t m first old new s k size h last at cost =
    let touches : release_touches o t m ≡ t ∷ option_to_list first = ap (λ r. t ∷ option_to_list r) (last_touches t (taken_of o m) o m last ∙ sym at) in
    subst (λ ts. new + 3 ≤ old + 8 * edit_size o p ts) (sym touches)
    (omega (
      arith,
      cost,
      chain_one (weight_of o) o t h,
      chain_moment o (t ∷ option_to_list first) t s (or_left (eqb t t) (is_among (option_to_list first) t) (eq-eqb t t refl)) h,
      by_first first refl,
    ))
  where
    by_first : (r : Option ℕ) → first ≡ r → first_weight p r ≤ moment_weight p (t ∷ option_to_list r)
    by_first None e = omega arith
    by_first (Some w) e =
        let inside : w < length p.members = omega (arith, size, awaited_within o w m (first_awaits o m w (sym at ∙ e))) in
        chain_moment p (t ∷ w ∷ []) w k (or_right (eqb t w) (is_among (w ∷ []) w) (itself w)) inside

-- the waiters of a mutex weigh in the moment before its end
waiters_weight : (o : Ownership) (m : ℕ) → IsSound o → length (waiters_in o m) ≤ moment_weight o (mutex_end_touches o m)
waiters_weight o m s = by_waiters (waiters_in o m) refl
  where
    by_waiters : (ts : List ℕ) → waiters_in o m ≡ ts → length ts ≤ moment_weight o (mutex_end_touches o m)
    by_waiters [] e = omega arith
    by_waiters (w ∷ ws) e =
        let among : is_among (waiters_in o m) w ≡ true = ap (λ ts. is_among ts w) e ∙ or_left (eqb w w) (is_among ws w) (eq-eqb w w refl) in
        let waits : awaited_in o w ≡ Some m = waiter_awaits o m w among in
        let inside : w < length o.members = awaited_within o w m waits in
        let touched : is_among (mutex_end_touches o m) w ≡ true = among_append (option_to_list (owner_in o m)) (waiters_in o m) w ∙ or_right (is_among (option_to_list (owner_in o m)) w) (is_among (waiters_in o m) w) among in
        omega (arith, ap (fellow_count o) waits, ap length e, chain_one (weight_of o) o w inside, chain_moment o (mutex_end_touches o m) w s touched inside)

pub mutex_end_bound : (o p : Ownership) (m : ℕ) (from : Option ℕ) (old new : ℕ) → IsSound o → IsSound p → length p.members ≡ length o.members → from ≡ owner_in o m → (from ≡ None → new ≡ old)
    → ((u : ℕ) → u < length p.members → LeadsTo p u from → new ≤ old + (6 * chain_sum (weight_of p) p u + 2))
    → new + (3 * length (waiters_in o m) + 6) ≤ old + 8 * edit_size o p (mutex_end_touches o m)
mutex_end_bound o p m None old new s k size at nobody cost = omega (arith, nobody refl, waiters_weight o m s)
mutex_end_bound o p m (Some v) old new s k size at nobody cost =
    let inside : v < length p.members = omega (arith, size, owner_within o m v s (sym at)) in
    let first : is_among (option_to_list (owner_in o m)) v ≡ true = rw (← at) (itself v) in
    let touched : is_among (mutex_end_touches o m) v ≡ true = among_append (option_to_list (owner_in o m)) (waiters_in o m) v ∙ or_left (is_among (option_to_list (owner_in o m)) v) (is_among (waiters_in o m) v) first in
    omega (arith, cost v inside (leads_here p v inside), chain_moment p (mutex_end_touches o m) v k touched inside, waiters_weight o m s)

-- an edit at one thread, which stays in its chain after it
pub here_bound : (o p : Ownership) (t old new : ℕ) → IsSound p → t < length p.members → ((u : ℕ) → u < length p.members → LeadsTo p u (Some t) → new ≤ old + (6 * chain_sum (weight_of p) p u + 2))
    → new + 6 ≤ old + 8 * edit_size o p (t ∷ [])
here_bound o p t old new s h cost = omega (arith, cost t h (leads_here p t h), chain_moment p (t ∷ []) t s (itself t) h)

pub owner_bound : (o p : Ownership) (from : Option ℕ) (old new : ℕ) → IsSound p → ((t : ℕ) → from ≡ Some t → t < length p.members) → (from ≡ None → new ≡ old)
    → ((u : ℕ) → u < length p.members → LeadsTo p u from → new ≤ old + (6 * chain_sum (weight_of p) p u + 2)) → new + 6 ≤ old + 8 * edit_size o p (option_to_list from)
owner_bound o p None old new s within nobody cost = omega (arith, nobody refl)
owner_bound o p (Some t) old new s within nobody cost = here_bound o p t old new s (within t refl) cost
