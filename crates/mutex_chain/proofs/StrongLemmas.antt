-- Which edits make threads more urgent, along one chain of owners.
use Rattle.std.proofs.Common.{ℕ, ◌≡◌, ◌≢◌, ◌<◌, ◌≤◌, List, [], ◌∷◌, length, map, Bool, true, false, cond, ◌||◌, eqb, Option, Some, None, refl, sym, ap, subst, ◌∙◌, arith, ◌⊎◌, inl, inr, get_or-set_same, get_or-set_other, ⊎_elim}
use Rattle.std.specs.Prelude.{slice_set, slice_index, slice_index_or, replicate, min, fold, filter, ◌==◌}
use Rattle.std.specs.List.{filter_map, cons_option, find}
use Rattle.std.specs.Option.{option_map, option_and_then, option_to_list}
use Rattle.std.proofs.Math.ListN.{length-set}
use Rattle.std.proofs.lemmas.Bool.{cases_eq, cases_lt, eqb-true, ne_eqb, eq-eqb, false≢true, or_left, or_right}
use Rattle.std.proofs.lemmas.Option.{none-some}
use Rattle.std.proofs.lemmas.List.{get_or_past, get_or-replicate, length-replicate}
use Rattle.rt_plain.specs.kernel.State.{is_among}
use Rattle.rt_plain.specs.kernel.Priority.{urgency_of, reach}
use Rattle.rt_plain.specs.kernel.Ownership.{Ownership, Member, Taken, member_at, base_of, is_there, awaited_in, owner_in, owned_in, member_urgency, graph_in, cur_in, with_member, with_base, with_wait, wait_edit, base_edit, ceiling_edit}
use Rattle.mutex_chain.specs.Owners.{IsSound, has_thread, has_mutex, is_ceiling, blocker_in, ceiling_at}
use Rattle.mutex_chain.specs.Walks.{curs_of}
use Rattle.mutex_chain.specs.Raising.{IsRaising, Strengthens}
use Rattle.mutex_chain.proofs.CurLemmas.{awaited_by, cur_at, length-curs, graph_urgency, owner_within, blocker_within}
use Rattle.mutex_chain.proofs.ChangeLemmas.{fold_le, thread_within}
use Rattle.mutex_chain.proofs.OwnedLemmas.{based_awaits}
use Rattle.mutex_chain.proofs.RaiseLemmas.{below_cur_in, owner_more}
use Rattle.mutex_chain.proofs.TouchLemmas.{touches_ceiling}

-- a thread is at least as urgent as by itself
pub own_more : (o : Ownership) (t : ℕ) → t < length o.members → cur_in o t ≤ member_urgency o t
own_more o t h = omega (arith, graph_urgency o t h, fold_le (urgency_of (graph_in o) t) (map (urgency_of (graph_in o)) (reach (graph_in o) t)))

-- a thread that waits has a number of the table
pub waiter_within : (o : Ownership) (x t : ℕ) → blocker_in o x ≡ Some t → x < length o.members
waiter_within o x t e = ⊎_elim (λ low. low) (λ high. absurd (none-some t (sym (ap (λ m. option_and_then (owner_in o) (awaited_by m)) (get_or_past o.members x None high)) ∙ e))) (cases_lt x (length o.members))

trans : (a b c : ℕ) → a ≤ b → b ≤ c → a ≤ c
trans a b c x y = omega arith

pub raises : (o p : Ownership) (curs : List ℕ) (from : Option ℕ) (number : ℕ) → IsSound o → IsSound p → curs ≡ curs_of o → Strengthens o p from number → IsRaising p curs from number
raises o p curs from number s k at e = rw at (record {
  places = length-curs o ∙ e.size;
  high = λ t h. let small : t < length o.members = omega (arith, e.size) in omega (arith, cur_at o t small, high t small);
  low = λ t f. (omega (arith, (e.reached t f).0, e.size), low t (e.reached t f));
  own = λ t h. let small : t < length o.members = omega (arith, e.size) in own t small (e.itself t small);
  edges = λ x t f. edges x t (waiter_within p x t f) (e.more x t f);
})
  where
    high : (t : ℕ) → t < length o.members → cur_in p t ≤ cur_in o t
    high t h =
        below_cur_in o (cur_in p) (λ u l. let inside : u < length p.members = omega (arith, e.size) in trans (cur_in p u) (member_urgency p u) (member_urgency o u) (own_more p u inside) (e.lower u l))
        (λ x u f. owner_more p x u k (waiter_within p x u (e.kept x u f)) (e.kept x u f)) t h

    low : (t : ℕ) → (t < length o.members) × ((member_urgency p t ≤ number) ⊎ ((x : ℕ) × (blocker_in p x ≡ Some t) × (cur_in o x ≤ number))) → cur_in p t ≤ number
    low t w = by_case w.0 w.1
      where
        by_case : t < length o.members → (member_urgency p t ≤ number) ⊎ ((x : ℕ) × (blocker_in p x ≡ Some t) × (cur_in o x ≤ number)) → cur_in p t ≤ number
        by_case h (inl less) = let inside : t < length p.members = omega (arith, e.size) in omega (arith, own_more p t inside)
        by_case h (inr v) =
            let within : v.0 < length p.members = waiter_within p v.0 t v.1 in
            let inside : v.0 < length o.members = omega (arith, e.size) in
            let first : cur_in p t ≤ cur_in p v.0 = owner_more p v.0 t k within v.1 in
            let second : cur_in p v.0 ≤ cur_in o v.0 = high v.0 inside in
            let third : cur_in o v.0 ≤ number = v.2 in
            omega arith

    own : (t : ℕ) → t < length o.members → (member_urgency o t ≤ member_urgency p t) ⊎ ((from ≡ Some t) × (number ≤ member_urgency p t))
        → (slice_index (curs_of o) t ≤ member_urgency p t) ⊎ ((from ≡ Some t) × (number ≤ member_urgency p t))
    own t h (inl less) = inl (omega (arith, cur_at o t h, own_more o t h))
    own t h (inr w) = inr w

    edges : (x t : ℕ) → x < length p.members → (blocker_in o x ≡ Some t) ⊎ ((from ≡ Some t) × (number ≤ cur_in o x))
        → (slice_index (curs_of o) t ≤ slice_index (curs_of o) x) ⊎ ((from ≡ Some t) × (number ≤ slice_index (curs_of o) x))
    edges x t h (inl f) =
        let inside : x < length o.members = omega (arith, e.size) in
        inl (omega (arith, cur_at o x inside, cur_at o t (blocker_within o x t s f), owner_more o x t s inside f))
    edges x t h (inr w) =
        let inside : x < length o.members = omega (arith, e.size) in
        inr (w.0, omega (arith, cur_at o x inside, w.1))

awaits : (mutex at : ℕ) (m : Option Member) → is_there m ≡ true → awaited_by (option_map (with_wait (Some (record { mutex = mutex; number = at }))) m) ≡ Some mutex
awaits mutex at None h = absurd (false≢true h)
awaits mutex at (Some m) h = refl

-- a thread that begins to wait waits for the owner of the mutex
pub wait_blocker : (o : Ownership) (t mutex at : ℕ) → has_thread o t ≡ true → blocker_in (wait_edit t mutex at o) t ≡ owner_in o mutex
wait_blocker o t mutex at there =
    ap (λ m. option_and_then (owner_in o) (awaited_by m)) (get_or-set_same o.members t (option_map (with_wait (Some (record { mutex = mutex; number = at }))) (member_at o t)) None (thread_within o t there))
    ∙ ap (option_and_then (owner_in o)) (awaits mutex at (member_at o t) there)

-- a thread begins to wait
wait_strengthens : (o : Ownership) (t mutex at : ℕ) → IsSound (wait_edit t mutex at o) → has_thread o t ≡ true → awaited_in o t ≡ None
    → Strengthens o (wait_edit t mutex at o) (owner_in o mutex) (cur_in o t)
wait_strengthens o t mutex at s there idle = record {
  size = sym (length-set o.members t (option_map (with_wait (Some (record { mutex = mutex; number = at }))) (member_at o t)));
  kept = λ x y e. kept x y e (cases_eq x t);
  more = λ x y e. more x y e (cases_eq x t);
  lower = λ u h. omega (arith, same_urgency u);
  itself = λ u h. inl (omega (arith, same_urgency u));
  reached = λ u e. (
    (let inside : u < length (wait_edit t mutex at o).members = blocker_within (wait_edit t mutex at o) t u s (waits ∙ e) in
        omega (arith, length-set o.members t (option_map (with_wait (Some (record { mutex = mutex; number = at }))) (member_at o t)))),
    inr (t, waits ∙ e, omega arith),
  );
}
  where
    row : Option Member
    row = option_map (with_wait (Some (record { mutex = mutex; number = at }))) (member_at o t)

    here : member_at (wait_edit t mutex at o) t ≡ option_map (with_wait (Some (record { mutex = mutex; number = at }))) (member_at o t)
    here = get_or-set_same o.members t (option_map (with_wait (Some (record { mutex = mutex; number = at }))) (member_at o t)) None (thread_within o t there)

    elsewhere : (x : ℕ) → x ≢ t → member_at (wait_edit t mutex at o) x ≡ member_at o x
    elsewhere x ne = get_or-set_other o.members t x (option_map (with_wait (Some (record { mutex = mutex; number = at }))) (member_at o t)) None ne

    waits : blocker_in (wait_edit t mutex at o) t ≡ owner_in o mutex
    waits = wait_blocker o t mutex at there

    others : (x : ℕ) → x ≢ t → blocker_in (wait_edit t mutex at o) x ≡ blocker_in o x
    others x ne = ap (λ m. option_and_then (owner_in o) (awaited_by m)) (elsewhere x ne)

    waits_not : blocker_in o t ≡ None
    waits_not = ap (option_and_then (owner_in o)) idle

    kept : (x y : ℕ) → blocker_in o x ≡ Some y → (x ≡ t) ⊎ (x ≢ t) → blocker_in (wait_edit t mutex at o) x ≡ Some y
    kept x y e (inl f) = absurd (none-some y (sym waits_not ∙ sym (ap (blocker_in o) f) ∙ e))
    kept x y e (inr ne) = others x ne ∙ e

    more : (x y : ℕ) → blocker_in (wait_edit t mutex at o) x ≡ Some y → (x ≡ t) ⊎ (x ≢ t) → (blocker_in o x ≡ Some y) ⊎ ((owner_in o mutex ≡ Some y) × (cur_in o t ≤ cur_in o x))
    more x y e (inl f) =
        let same : cur_in o x ≡ cur_in o t = ap (cur_in o) f in
        inr (sym waits ∙ sym (ap (blocker_in (wait_edit t mutex at o)) f) ∙ e, omega arith)
    more x y e (inr ne) = inl (sym (others x ne) ∙ e)

    base_same : (m : Option Member) → base_of (option_map (with_wait (Some (record { mutex = mutex; number = at }))) m) ≡ base_of m
    base_same None = refl
    base_same (Some m) = refl

    same_urgency : (u : ℕ) → member_urgency (wait_edit t mutex at o) u ≡ member_urgency o u
    same_urgency u = ap (λ b. fold min b (filter_map (λ mutex. slice_index_or o.ceilings mutex None) (owned_in o u))) (by_place (cases_eq u t))
      where
        by_place : (u ≡ t) ⊎ (u ≢ t) → base_of (member_at (wait_edit t mutex at o) u) ≡ base_of (member_at o u)
        by_place (inl e) = ap (λ v. base_of (member_at (wait_edit t mutex at o) v)) e ∙ ap base_of here ∙ base_same (member_at o t) ∙ sym (ap (λ v. base_of (member_at o v)) e)
        by_place (inr ne) = ap base_of (elsewhere u ne)

pub wait_raises : (o p : Ownership) (curs : List ℕ) (from : Option ℕ) (t mutex at number : ℕ) → IsSound o → IsSound p → curs ≡ curs_of o → p ≡ wait_edit t mutex at o → from ≡ owner_in p mutex
    → has_thread o t ≡ true → awaited_in o t ≡ None → number ≡ slice_index curs t → IsRaising p curs from number
wait_raises o p curs from t mutex at number s k now e owner there idle is =
    let sound : IsSound (wait_edit t mutex at o) = rw (← e) k in
    let number_is : number ≡ cur_in o t = is ∙ ap (λ ns. slice_index ns t) now ∙ cur_at o t (thread_within o t there) in
    let from_is : from ≡ owner_in o mutex = owner ∙ ap (λ q. owner_in q mutex) e in
    rw (e, from_is, number_is) (raises o (wait_edit t mutex at o) curs (owner_in o mutex) (cur_in o t) s sound now (wait_strengthens o t mutex at sound there idle))

pub fold_min : (a b : ℕ) (xs : List ℕ) → fold min (min a b) xs ≡ min (fold min a xs) b
fold_min a b [] = refl
fold_min a b (x ∷ xs) = let swap : min (min a b) x ≡ min (min a x) b = omega arith in ap (λ c. fold min c xs) swap ∙ fold_min (min a x) b xs

fold_from : (a b : ℕ) (xs : List ℕ) → b ≤ a → fold min b xs ≡ min (fold min a xs) b
fold_from a b xs h = let low : b ≡ min a b = omega arith in ap (λ c. fold min c xs) low ∙ fold_min a b xs

-- a thread gets a row with a base that is at least as urgent, and waits as before
row_strengthens : (o : Ownership) (t base : ℕ) (row : Option Member) → t < length o.members → awaited_by row ≡ awaited_by (member_at o t) → base_of row ≡ base → base ≤ base_of (member_at o t)
    → Strengthens o (with_member o t row) (Some t) base
row_strengthens o t base row within awaits based less = record {
  size = sym (length-set o.members t row);
  kept = λ x y e. same_blocker x ∙ e;
  more = λ x y e. inl (sym (same_blocker x) ∙ e);
  lower = λ u h. lower u (cases_eq u t);
  itself = λ u h. itself u (cases_eq u t);
  reached = λ u e. let same : t ≡ u = cc in rw (← same) (within, inl (omega (arith, here_urgency)));
}
  where
    here : member_at (with_member o t row) t ≡ row
    here = get_or-set_same o.members t row None within

    elsewhere : (x : ℕ) → x ≢ t → member_at (with_member o t row) x ≡ member_at o x
    elsewhere x ne = get_or-set_other o.members t x row None ne

    same_blocker : (x : ℕ) → blocker_in (with_member o t row) x ≡ blocker_in o x
    same_blocker x = ap (option_and_then (owner_in o)) (by_place (cases_eq x t))
      where
        by_place : (x ≡ t) ⊎ (x ≢ t) → awaited_by (member_at (with_member o t row) x) ≡ awaited_by (member_at o x)
        by_place (inl e) = ap (λ v. awaited_by (member_at (with_member o t row) v)) e ∙ ap awaited_by here ∙ awaits ∙ sym (ap (λ v. awaited_by (member_at o v)) e)
        by_place (inr ne) = ap awaited_by (elsewhere x ne)

    here_urgency : member_urgency (with_member o t row) t ≡ min (member_urgency o t) base
    here_urgency =
        ap (λ b. fold min b (filter_map (λ mutex. slice_index_or o.ceilings mutex None) (owned_in o t))) (ap base_of here ∙ based)
        ∙ fold_from (base_of (member_at o t)) base (filter_map (λ mutex. slice_index_or o.ceilings mutex None) (owned_in o t)) less

    other_urgency : (u : ℕ) → u ≢ t → member_urgency (with_member o t row) u ≡ member_urgency o u
    other_urgency u ne = ap (λ m. fold min (base_of m) (filter_map (λ mutex. slice_index_or o.ceilings mutex None) (owned_in o u))) (elsewhere u ne)

    at_t : (u : ℕ) → u ≡ t → member_urgency (with_member o t row) u ≡ min (member_urgency o u) base
    at_t u e = ap (member_urgency (with_member o t row)) e ∙ here_urgency ∙ sym (ap (λ v. min (member_urgency o v) base) e)

    lower : (u : ℕ) → (u ≡ t) ⊎ (u ≢ t) → member_urgency (with_member o t row) u ≤ member_urgency o u
    lower u (inl e) = omega (arith, at_t u e)
    lower u (inr ne) = omega (arith, other_urgency u ne)

    itself : (u : ℕ) → (u ≡ t) ⊎ (u ≢ t) → (member_urgency o u ≤ member_urgency (with_member o t row) u) ⊎ ((Some t ≡ Some u) × (base ≤ member_urgency (with_member o t row) u))
    itself u (inl e) = by_size (cases_lt base (member_urgency o u))
      where
        by_size : (base < member_urgency o u) ⊎ (member_urgency o u ≤ base) → (member_urgency o u ≤ member_urgency (with_member o t row) u) ⊎ ((Some t ≡ Some u) × (base ≤ member_urgency (with_member o t row) u))
        by_size (inl h) = inr (ap Some (sym e), omega (arith, at_t u e))
        by_size (inr h) = inl (omega (arith, at_t u e))
    itself u (inr ne) = inl (omega (arith, other_urgency u ne))

pub member_raises : (o p : Ownership) (curs : List ℕ) (t base : ℕ) (row : Option Member) → IsSound o → IsSound p → curs ≡ curs_of o → p ≡ with_member o t row → t < length o.members
    → awaited_by row ≡ awaited_by (member_at o t) → base_of row ≡ base → base ≤ base_of (member_at o t) → IsRaising p curs (Some t) base
member_raises o p curs t base row s k now e within awaits based less =
    let sound : IsSound (with_member o t row) = rw (← e) k in
    rw e (raises o (with_member o t row) curs (Some t) base s sound now (row_strengthens o t base row within awaits based less))

pub base_raises : (o p : Ownership) (curs : List ℕ) (t base : ℕ) → IsSound o → IsSound p → curs ≡ curs_of o → p ≡ base_edit t base o → has_thread o t ≡ true → base ≤ base_of (member_at o t)
    → IsRaising p curs (Some t) base
base_raises o p curs t base s k now e there less =
    member_raises o p curs t base (option_map (with_base base) (member_at o t)) s k now e (thread_within o t there) (based_awaits base (member_at o t)) (base_is (member_at o t) there) less
  where
    base_is : (m : Option Member) → is_there m ≡ true → base_of (option_map (with_base base) m) ≡ base
    base_is None h = absurd (false≢true h)
    base_is (Some m) h = refl

-- a number that isn't less urgent than a ceiling, if there is one
abbrev AtLeast : ℕ → Option ℕ → Type 0
AtLeast k None = Unit {0}
AtLeast k (Some v) = k ≤ v

-- two tables of ceilings are the same, but that one mutex has this ceiling in the first, and none or a less urgent one in the second
abbrev Differ : (ℕ → Option ℕ) → (ℕ → Option ℕ) → ℕ → Type 0
Differ c d k = (m : ℕ) → (c m ≡ d m) ⊎ ((c m ≡ Some k) × AtLeast k (d m))

lower_all : (c d : ℕ → Option ℕ) (k : ℕ) (ms : List ℕ) (a b : ℕ) → Differ c d k → a ≤ b → fold min a (filter_map c ms) ≤ fold min b (filter_map d ms)
lower_all c d k [] a b differ less = less
lower_all c d k (m ∷ ms) a b differ less = by_case (c m) (d m) (differ m) (λ x y e. lower_all c d k ms x y differ e)
  where
    by_case : (p q : Option ℕ) → (p ≡ q) ⊎ ((p ≡ Some k) × AtLeast k q) → ((x y : ℕ) → x ≤ y → fold min x (filter_map c ms) ≤ fold min y (filter_map d ms))
        → fold min a (cons_option p (filter_map c ms)) ≤ fold min b (cons_option q (filter_map d ms))
    by_case p q (inl e) again = rw e (by_row q)
      where
        by_row : (r : Option ℕ) → fold min a (cons_option r (filter_map c ms)) ≤ fold min b (cons_option r (filter_map d ms))
        by_row None = again a b less
        by_row (Some v) = again (min a v) (min b v) (omega arith)
    by_case p q (inr w) again = rw w.0 (by_old q w.1)
      where
        by_old : (r : Option ℕ) → AtLeast k r → fold min (min a k) (filter_map c ms) ≤ fold min b (cons_option r (filter_map d ms))
        by_old None h = again (min a k) b (omega arith)
        by_old (Some v) h = again (min a k) (min b v) (omega (arith, h))

lower_most : (c d : ℕ → Option ℕ) (k : ℕ) (ms : List ℕ) (a b : ℕ) → Differ c d k → min b k ≤ a → min (fold min b (filter_map d ms)) k ≤ fold min a (filter_map c ms)
lower_most c d k [] a b differ less = less
lower_most c d k (m ∷ ms) a b differ less = by_case (c m) (d m) (differ m) (λ x y e. lower_most c d k ms x y differ e)
  where
    by_case : (p q : Option ℕ) → (p ≡ q) ⊎ ((p ≡ Some k) × AtLeast k q) → ((x y : ℕ) → min y k ≤ x → min (fold min y (filter_map d ms)) k ≤ fold min x (filter_map c ms))
        → min (fold min b (cons_option q (filter_map d ms))) k ≤ fold min a (cons_option p (filter_map c ms))
    by_case p q (inl e) again = rw e (by_row q)
      where
        by_row : (r : Option ℕ) → min (fold min b (cons_option r (filter_map d ms))) k ≤ fold min a (cons_option r (filter_map c ms))
        by_row None = again a b less
        by_row (Some v) = again (min a v) (min b v) (omega arith)
    by_case p q (inr w) again = rw w.0 (by_old q w.1)
      where
        by_old : (r : Option ℕ) → AtLeast k r → min (fold min b (cons_option r (filter_map d ms))) k ≤ fold min (min a k) (filter_map c ms)
        by_old None h = again (min a k) b (omega arith)
        by_old (Some v) h = again (min a k) (min b v) (omega (arith, h))

least_of : (c : ℕ → Option ℕ) (ms : List ℕ) (m k a : ℕ) → is_among ms m ≡ true → c m ≡ Some k → fold min a (filter_map c ms) ≤ k
least_of c [] m k a h e = absurd (false≢true h)
least_of c (n ∷ ms) m k a h e = by_test (eqb n m) refl h (λ r b. least_of c ms m k b r e)
  where
    by_row : (r : Option ℕ) → is_among ms m ≡ true → (is_among ms m ≡ true → (b : ℕ) → fold min b (filter_map c ms) ≤ k) → fold min a (cons_option r (filter_map c ms)) ≤ k
    by_row None f again = again f a
    by_row (Some v) f again = again f (min a v)

    by_test : (b : Bool) → eqb n m ≡ b → (b || is_among ms m) ≡ true → (is_among ms m ≡ true → (b : ℕ) → fold min b (filter_map c ms) ≤ k) → fold min a (cons_option (c n) (filter_map c ms)) ≤ k
    by_test true f r again =
        let row : c n ≡ Some k = ap c (eqb-true n m f) ∙ e in
        rw row (omega (arith, fold_le (min a k) (filter_map c ms)))
    by_test false f r again = by_row (c n) r again

-- who owns a mutex has it among those that it owns
owns_it : (hs : List Taken) (m t : ℕ) → option_map (λ (h : Taken). h.owner) (find (λ (h : Taken). h.mutex == m) hs) ≡ Some t → is_among (map (λ (h : Taken). h.mutex) (filter (λ (h : Taken). h.owner == t) hs)) m ≡ true
owns_it [] m t e = absurd (none-some t e)
owns_it (k ∷ ks) m t e = by_test (k.mutex == m) refl e (owns_it ks m t)
  where
    keep : (b : Bool) → is_among (map (λ (h : Taken). h.mutex) (filter (λ (h : Taken). h.owner == t) ks)) m ≡ true
        → is_among (map (λ (h : Taken). h.mutex) (cond b (k ∷ filter (λ (h : Taken). h.owner == t) ks) (filter (λ (h : Taken). h.owner == t) ks))) m ≡ true
    keep true r = or_right (eqb k.mutex m) (is_among (map (λ (h : Taken). h.mutex) (filter (λ (h : Taken). h.owner == t) ks)) m) r
    keep false r = r

    by_test : (b : Bool) → (k.mutex == m) ≡ b → option_map (λ (h : Taken). h.owner) (cond b (Some k) (find (λ (h : Taken). h.mutex == m) ks)) ≡ Some t
        → (option_map (λ (h : Taken). h.owner) (find (λ (h : Taken). h.mutex == m) ks) ≡ Some t → is_among (map (λ (h : Taken). h.mutex) (filter (λ (h : Taken). h.owner == t) ks)) m ≡ true)
        → is_among (map (λ (h : Taken). h.mutex) (filter (λ (h : Taken). h.owner == t) (k ∷ ks))) m ≡ true
    by_test true f at again =
        let owner : k.owner ≡ t = cc in
        ap (λ b. is_among (map (λ (h : Taken). h.mutex) (cond b (k ∷ filter (λ (h : Taken). h.owner == t) ks) (filter (λ (h : Taken). h.owner == t) ks))) m) (eq-eqb k.owner t owner)
        ∙ or_left (eqb k.mutex m) (is_among (map (λ (h : Taken). h.mutex) (filter (λ (h : Taken). h.owner == t) ks)) m) f
    by_test false f at again = keep (k.owner == t) (again at)

-- a mutex gets a ceiling that is at least as urgent
ceiling_strengthens : (o : Ownership) (mutex ceiling : ℕ) → IsSound o → mutex < length o.ceilings → AtLeast ceiling (ceiling_at o mutex) → Strengthens o (ceiling_edit mutex ceiling o) (owner_in o mutex) ceiling
ceiling_strengthens o mutex ceiling s inside less = record {
  size = refl;
  kept = λ x y e. e;
  more = λ x y e. inl e;
  lower = λ t h. lower_all news olds ceiling (owned_in o t) (base_of (member_at o t)) (base_of (member_at o t)) differ (omega arith);
  itself = λ t h. itself t (owner_in o mutex) refl;
  reached = λ t e. (owner_within o mutex t s e, inl (least_of news (owned_in o t) mutex ceiling (base_of (member_at o t)) (owns_it o.taken mutex t e) here));
}
  where
    news : ℕ → Option ℕ
    news m = slice_index_or (slice_set o.ceilings mutex (Some ceiling)) m None

    olds : ℕ → Option ℕ
    olds m = slice_index_or o.ceilings m None

    here : news mutex ≡ Some ceiling
    here = get_or-set_same o.ceilings mutex (Some ceiling) None inside

    differ : Differ news olds ceiling
    differ m = by_place (cases_eq m mutex)
      where
        by_place : (m ≡ mutex) ⊎ (m ≢ mutex) → (news m ≡ olds m) ⊎ ((news m ≡ Some ceiling) × AtLeast ceiling (olds m))
        by_place (inl e) = inr (ap news e ∙ here, subst (λ i. AtLeast ceiling (olds i)) (sym e) less)
        by_place (inr ne) = inl (get_or-set_other o.ceilings mutex m (Some ceiling) None ne)

    itself : (t : ℕ) (owner : Option ℕ) → owner_in o mutex ≡ owner → (member_urgency o t ≤ member_urgency (ceiling_edit mutex ceiling o) t) ⊎ ((owner ≡ Some t) × (ceiling ≤ member_urgency (ceiling_edit mutex ceiling o) t))
    itself t owner e = by_owner owner (λ f. (touches_ceiling mutex ceiling o s.once).urgencies t (ap (λ r. is_among (option_to_list r) t) e ∙ f))
      where
        most : min (member_urgency o t) ceiling ≤ member_urgency (ceiling_edit mutex ceiling o) t
        most = lower_most news olds ceiling (owned_in o t) (base_of (member_at o t)) (base_of (member_at o t)) differ (omega arith)

        by_owner : (r : Option ℕ) → (is_among (option_to_list r) t ≡ false → member_urgency o t ≡ member_urgency (ceiling_edit mutex ceiling o) t)
            → (member_urgency o t ≤ member_urgency (ceiling_edit mutex ceiling o) t) ⊎ ((r ≡ Some t) × (ceiling ≤ member_urgency (ceiling_edit mutex ceiling o) t))
        by_owner None same = let e : member_urgency o t ≡ member_urgency (ceiling_edit mutex ceiling o) t = same refl in inl (omega arith)
        by_owner (Some u) same = by_place (cases_eq u t) (cases_lt ceiling (member_urgency o t))
          where
            by_place : (u ≡ t) ⊎ (u ≢ t) → (ceiling < member_urgency o t) ⊎ (member_urgency o t ≤ ceiling)
                → (member_urgency o t ≤ member_urgency (ceiling_edit mutex ceiling o) t) ⊎ ((Some u ≡ Some t) × (ceiling ≤ member_urgency (ceiling_edit mutex ceiling o) t))
            by_place (inl e) (inl h) = inr (ap Some e, omega (arith, most))
            by_place (inl e) (inr h) = inl (omega (arith, most))
            by_place (inr ne) h =
                let e : member_urgency o t ≡ member_urgency (ceiling_edit mutex ceiling o) t = same (ap (λ b. b || false) (ne_eqb u t ne)) in
                inl (omega arith)

ceiling_raised : (o p : Ownership) (curs : List ℕ) (from : Option ℕ) (mutex ceiling : ℕ) → IsSound o → IsSound p → curs ≡ curs_of o → p ≡ ceiling_edit mutex ceiling o → from ≡ owner_in p mutex
    → mutex < length o.ceilings → AtLeast ceiling (ceiling_at o mutex) → IsRaising p curs from ceiling
ceiling_raised o p curs from mutex ceiling s k now e owner inside less =
    let sound : IsSound (ceiling_edit mutex ceiling o) = rw (← e) k in
    let from_is : from ≡ owner_in o mutex = owner ∙ ap (λ q. owner_in q mutex) e in
    rw (e, from_is) (raises o (ceiling_edit mutex ceiling o) curs (owner_in o mutex) ceiling s sound now (ceiling_strengthens o mutex ceiling s inside less))

pub ceiling_raises : (o p : Ownership) (curs : List ℕ) (from : Option ℕ) (mutex ceiling old : ℕ) → IsSound o → IsSound p → curs ≡ curs_of o → p ≡ ceiling_edit mutex ceiling o → from ≡ owner_in p mutex
    → ceiling_at o mutex ≡ Some old → ceiling ≤ old → IsRaising p curs from ceiling
ceiling_raises o p curs from mutex ceiling old s k now e owner at less =
    ceiling_raised o p curs from mutex ceiling s k now e owner inside (subst (AtLeast ceiling) (sym at) less)
  where
    inside : mutex < length o.ceilings
    inside = ⊎_elim (λ low. low) (λ high. absurd (none-some old (sym (get_or_past o.ceilings mutex None high) ∙ at))) (cases_lt mutex (length o.ceilings))

-- a mutex comes
pub ceiling_comes : (o p : Ownership) (curs : List ℕ) (from : Option ℕ) (mutex ceiling : ℕ) → IsSound o → IsSound p → curs ≡ curs_of o → p ≡ ceiling_edit mutex ceiling o → from ≡ owner_in p mutex
    → mutex < length o.ceilings → has_mutex o mutex ≡ false → IsRaising p curs from ceiling
ceiling_comes o p curs from mutex ceiling s k now e owner inside absent =
    ceiling_raised o p curs from mutex ceiling s k now e owner inside (by_row (ceiling_at o mutex) absent)
  where
    by_row : (r : Option ℕ) → is_ceiling r ≡ false → AtLeast ceiling r
    by_row None f = tt
    by_row (Some v) f = absurd (false≢true (sym f))

-- with no thread all have the least urgent number
pub empty_raises : (threads mutexes : ℕ) (o : Ownership) → IsSound o → o ≡ record { members = replicate threads None; ceilings = replicate mutexes None; taken = [] } → IsRaising o (replicate threads 256) None 256
empty_raises threads mutexes o s e = record {
  places = length-replicate threads 256 ∙ sym size;
  high = λ t h. omega (arith, number t h, cur_in_small t h);
  low = λ t f. absurd (none-some t f);
  own = λ t h. inl (omega (arith, number t h, urgency t h));
  edges = λ x t f. absurd (none-some t (sym (nobody x) ∙ f));
}
  where
    size : length o.members ≡ threads
    size = ap (λ (q : Ownership). length q.members) e ∙ length-replicate threads None

    number : (t : ℕ) → t < length o.members → slice_index (replicate threads 256) t ≡ 256
    number t h = get_or-replicate threads t 256 0 (omega (arith, size))

    urgency : (t : ℕ) → t < length o.members → member_urgency o t ≡ 256
    urgency t h = ap (λ q. member_urgency q t) e ∙ ap base_of (get_or-replicate threads t None None (omega (arith, size)))

    cur_in_small : (t : ℕ) → t < length o.members → cur_in o t ≤ 256
    cur_in_small t h = omega (arith, own_more o t h, urgency t h)

    nobody : (x : ℕ) → blocker_in o x ≡ None
    nobody x = by_wait (awaited_in o x)
      where
        none : (m : ℕ) → owner_in o m ≡ None
        none m = ap (λ q. owner_in q m) e

        by_wait : (r : Option ℕ) → option_and_then (owner_in o) r ≡ None
        by_wait None = refl
        by_wait (Some m) = none m

pub empty_awaits : (threads mutexes : ℕ) (o : Ownership) (t : ℕ) → o ≡ record { members = replicate threads None; ceilings = replicate mutexes None; taken = [] } → awaited_in o t ≡ None
empty_awaits threads mutexes o t e = ap (λ q. awaited_in q t) e ∙ ap awaited_by (by_size (cases_lt t threads))
  where
    by_size : (t < threads) ⊎ (threads ≤ t) → slice_index_or (replicate {A = Option Member} threads None) t None ≡ None
    by_size (inl h) = get_or-replicate threads t None None h
    by_size (inr h) = get_or_past (replicate threads None) t None (omega (arith, length-replicate {A = Option Member} threads None))
