-- Current priorities computed anew along a chain of owners.
use Rattle.std.proofs.Common.{ℕ, ◌≡◌, ◌≢◌, ◌+◌, ◌<◌, ◌≤◌, zero, suc, List, [], ◌∷◌, length, get_or, Bool, true, false, cond, eqb, Option, Some, None, refl, sym, ap, ◌∙◌, arith, ◌⊎◌, inl, inr, get_or-set_same, get_or-set_other, ⊎_elim}
use Rattle.std.specs.Prelude.{slice_set, slice_index, slice_index_or, ◌-◌}
use Rattle.std.specs.List.{sum_by, filter_map}
use Rattle.std.proofs.Math.ListN.{length-set}
use Rattle.std.proofs.lemmas.Bool.{cases_eq, cases_lt, cases_Bool, eqb-true, eq-eqb, ne_eqb, false≢true}
use Rattle.std.proofs.lemmas.Option.{none-some}
use Rattle.std.proofs.lemmas.List.{get_or_past}
use Rattle.std.proofs.lemmas.List.Elements.{All-get_or}
use Rattle.std.proofs.lemmas.List.Sums.{sum_by-cons, sum_by-set}
use Rattle.rt_plain.specs.kernel.Ownership.{Ownership, Member, member_at, base_of, owned_in, member_urgency, cur_in}
use Rattle.mutex_chain.specs.Owners.{IsSound, IsSmall, blocker_in}
use Rattle.mutex_chain.specs.Walks.{curs_of}
use Rattle.mutex_chain.specs.Raising.{IsRaising}
use Rattle.mutex_chain.specs.Renewing.{IsAhead, IsChainSet, AreAside, IsMarking, IsLeast, IsRenewing, DiffersAt, fresh}
use Rattle.mutex_chain.proofs.ChangeLemmas.{fold_le}
use Rattle.mutex_chain.proofs.CurLemmas.{blocker_within, cur_at, length-curs}
use Rattle.mutex_chain.proofs.RaiseLemmas.{below_cur_in, owner_more}
use Rattle.mutex_chain.proofs.StrongLemmas.{own_more, waiter_within}

ahead_more : (o : Ownership) (n : ℕ) (at : Option ℕ) (t : ℕ) → IsAhead o n at t → IsAhead o (suc n) at t
ahead_more o zero at t h = absurd h
ahead_more o (suc n) None t h = absurd h
ahead_more o (suc n) (Some x) t (inl e) = inl e
ahead_more o (suc n) (Some x) t (inr h) = inr (ahead_more o n (blocker_in o x) t h)

ahead_next : (o : Ownership) (n : ℕ) (at : Option ℕ) (x t : ℕ) → IsAhead o n at x → blocker_in o x ≡ Some t → IsAhead o (suc n) at t
ahead_next o zero at x t h e = absurd h
ahead_next o (suc n) None x t h e = absurd h
ahead_next o (suc n) (Some y) x t (inl same) e =
    let here : blocker_in o y ≡ Some t = ap (blocker_in o) same ∙ e in
    inr (rw here (inl refl))
ahead_next o (suc n) (Some y) x t (inr h) e = inr (ahead_next o n (blocker_in o y) x t h e)

some_is : (x t : ℕ) → Some x ≡ Some t → x ≡ t
some_is x t e = cc

fresh_few : (ns : List ℕ) → sum_by fresh ns ≤ length ns
fresh_few [] = omega arith
fresh_few (n ∷ ns) = omega (arith, sum_by-cons fresh n ns, one (eqb n 257), fresh_few ns)
  where
    one : (b : Bool) → cond b 0 1 ≤ 1
    one true = omega arith
    one false = omega arith

-- the walk that marks a chain begins
pub marking_begins : (o : Ownership) (numbers : List ℕ) (from : Option ℕ) → AreAside o numbers from → IsMarking o numbers numbers from 0 from
marking_begins o numbers from a = record {
  places = a.places;
  room = omega (arith, fresh_few numbers, a.places);
  kept = λ t. inr refl;
  behind = λ t e. absurd (unmarked t e);
  next = λ t e. (a.within t e, rw e (inl refl));
  first = λ t e. inr e;
  on = λ x t e f. absurd (unmarked x e);
}
  where
    unmarked : (t : ℕ) → slice_index numbers t ≢ 257
    unmarked t e = by_place (cases_lt t (length numbers))
      where
        by_place : (t < length numbers) ⊎ (length numbers ≤ t) → ⊥
        by_place (inl h) = let low : slice_index numbers t ≤ 256 = a.small t (omega (arith, a.places)) in omega arith
        by_place (inr h) = let past : slice_index numbers t ≡ 0 = get_or_past numbers t 0 h in omega arith

-- one thread more is marked
pub marking_step : (o : Ownership) (olds numbers : List ℕ) (from : Option ℕ) (count x : ℕ) → IsSound o → IsMarking o olds numbers from count (Some x) → slice_index numbers x ≢ 257
    → IsMarking o olds (slice_set numbers x 257) from (count + 1) (blocker_in o x)
marking_step o olds numbers from count x s m ne =
    let more : count + 1 ≡ suc count = omega arith in
    rw more (record {
      places = length-set numbers x 257 ∙ m.places;
      room = omega (arith, m.room, sum_by-set fresh numbers x 257 0 place, ap (λ b. cond {A = ℕ} b 0 1) (ne_eqb (get_or numbers x 0) 257 ne));
      kept = λ t. kept t (cases_eq t x) (m.kept t);
      behind = λ t e. behind t e (cases_eq t x);
      next = λ t e. (blocker_within o x t s e, ahead_next o (suc count) from x t (m.next x refl).1 e);
      first = λ t e. first t (cases_eq t x) (m.first t e);
      on = λ y t e f. on y t e f (cases_eq y x);
    })
  where
    place : x < length numbers
    place = omega (arith, m.places, (m.next x refl).0)

    here : get_or (slice_set numbers x 257) x 0 ≡ 257
    here = get_or-set_same numbers x 257 0 place

    there : (t : ℕ) → t ≢ x → get_or (slice_set numbers x 257) t 0 ≡ get_or numbers t 0
    there t other = get_or-set_other numbers x t 257 0 other

    at_x : (t : ℕ) → t ≡ x → get_or (slice_set numbers x 257) t 0 ≡ 257
    at_x t e = ap (λ i. get_or (slice_set numbers x 257) i 0) e ∙ here

    kept : (t : ℕ) → (t ≡ x) ⊎ (t ≢ x) → (slice_index numbers t ≡ 257) ⊎ (slice_index numbers t ≡ slice_index olds t)
        → (get_or (slice_set numbers x 257) t 0 ≡ 257) ⊎ (get_or (slice_set numbers x 257) t 0 ≡ slice_index olds t)
    kept t (inl e) w = inl (at_x t e)
    kept t (inr other) (inl f) = inl (there t other ∙ f)
    kept t (inr other) (inr f) = inr (there t other ∙ f)

    behind : (t : ℕ) → get_or (slice_set numbers x 257) t 0 ≡ 257 → (t ≡ x) ⊎ (t ≢ x) → IsAhead o (suc count) from t
    behind t f (inl e) = rw e (m.next x refl).1
    behind t f (inr other) = ahead_more o count from t (m.behind t (sym (there t other) ∙ f))

    still : (t : ℕ) → (t ≡ x) ⊎ (t ≢ x) → (slice_index numbers t ≡ 257) ⊎ (Some x ≡ Some t) → get_or (slice_set numbers x 257) t 0 ≡ 257
    still t (inl e) w = at_x t e
    still t (inr other) (inl f) = there t other ∙ f
    still t (inr other) (inr f) = absurd (other (sym (some_is x t f)))

    first : (t : ℕ) → (t ≡ x) ⊎ (t ≢ x) → (slice_index numbers t ≡ 257) ⊎ (Some x ≡ Some t) → (get_or (slice_set numbers x 257) t 0 ≡ 257) ⊎ (blocker_in o x ≡ Some t)
    first t c w = inl (still t c w)

    on : (y t : ℕ) → get_or (slice_set numbers x 257) y 0 ≡ 257 → blocker_in o y ≡ Some t → (y ≡ x) ⊎ (y ≢ x) → (get_or (slice_set numbers x 257) t 0 ≡ 257) ⊎ (blocker_in o x ≡ Some t)
    on y t e f (inl same) = inr (sym (ap (blocker_in o) same) ∙ f)
    on y t e f (inr other) = inl (still t (cases_eq t x) (m.on y t (sym (there y other) ∙ e) f))

pub small_cur : (o : Ownership) (t : ℕ) → IsSound o → t < length o.members → cur_in o t ≤ 256
small_cur o t s h =
    let base : base_of (member_at o t) ≤ 256 = by_row (member_at o t) (All-get_or IsSmall o.members t None h s.small) in
    omega (arith, own_more o t h, fold_le (base_of (member_at o t)) (filter_map (λ mutex. slice_index_or o.ceilings mutex None) (owned_in o t)))
  where
    by_row : (m : Option Member) → IsSmall m → base_of m ≤ 256
    by_row None r = omega arith
    by_row (Some m) r = omega arith

-- all of the chain is marked: its threads are to get their numbers anew
pub marking_ends : (o : Ownership) (olds numbers : List ℕ) (from : Option ℕ) (count : ℕ) (at : Option ℕ) → IsSound o → AreAside o olds from → IsMarking o olds numbers from count at
    → ((t : ℕ) → at ≡ Some t → slice_index numbers t ≡ 257) → IsRenewing o numbers count from 257
marking_ends o olds numbers from count at s a m end = record {
  places = m.places;
  high = λ t h. high t h (marked t);
  low = λ t e. let h : t < length o.members = a.within t e in let small : cur_in o t ≤ 256 = small_cur o t s h in (h, omega arith);
  own = λ t h. own t h (marked t);
  edges = λ x t e. edges x t e (marked t) (marked x);
}
  where
    set : ℕ → Bool
    set t = eqb (slice_index numbers t) 257

    stays : (t : ℕ) → (slice_index numbers t ≡ 257) ⊎ (at ≡ Some t) → slice_index numbers t ≡ 257
    stays t (inl e) = e
    stays t (inr e) = end t e

    closed : IsChainSet o from (λ t. eqb (slice_index numbers t) 257)
    closed = record {
      first = λ t e. eq-eqb (slice_index numbers t) 257 (stays t (m.first t e));
      on = λ x t e f. eq-eqb (slice_index numbers t) 257 (stays t (m.on x t (eqb-true (slice_index numbers x) 257 e) f));
    }

    marked : (t : ℕ) → (slice_index numbers t ≡ 257) ⊎ (slice_index numbers t ≢ 257)
    marked t = cases_eq (slice_index numbers t) 257

    is_cur : (t : ℕ) → t < length o.members → slice_index numbers t ≢ 257 → slice_index numbers t ≡ cur_in o t
    is_cur t h ne =
        ⊎_elim (λ e. absurd (ne e)) (λ e. e) (m.kept t)
        ∙ a.right (λ u. eqb (slice_index numbers u) 257) closed t h (ne_eqb (slice_index numbers t) 257 ne)

    high : (t : ℕ) → t < length o.members → (slice_index numbers t ≡ 257) ⊎ (slice_index numbers t ≢ 257) → cur_in o t ≤ slice_index numbers t
    high t h (inl e) = let small : cur_in o t ≤ 256 = small_cur o t s h in omega arith
    high t h (inr ne) = let same : slice_index numbers t ≡ cur_in o t = is_cur t h ne in omega arith

    own : (t : ℕ) → t < length o.members → (slice_index numbers t ≡ 257) ⊎ (slice_index numbers t ≢ 257) → (slice_index numbers t ≤ member_urgency o t) ⊎ IsAhead o count from t
    own t h (inl e) = inr (m.behind t e)
    own t h (inr ne) = let same : slice_index numbers t ≡ cur_in o t = is_cur t h ne in inl (omega (arith, own_more o t h))

    edges : (x t : ℕ) → blocker_in o x ≡ Some t → (slice_index numbers t ≡ 257) ⊎ (slice_index numbers t ≢ 257) → (slice_index numbers x ≡ 257) ⊎ (slice_index numbers x ≢ 257)
        → (slice_index numbers t ≤ slice_index numbers x) ⊎ (((from ≡ Some t) × (257 ≤ slice_index numbers x)) ⊎ IsAhead o count from t)
    edges x t e (inl f) w = inr (inr (m.behind t f))
    edges x t e (inr ne) (inl f) = absurd (ne (stays t (m.on x t f e)))
    edges x t e (inr ne) (inr other) =
        let inside : x < length o.members = waiter_within o x t e in
        let this : slice_index numbers t ≡ cur_in o t = is_cur t (blocker_within o x t s e) ne in
        let that : slice_index numbers x ≡ cur_in o x = is_cur x inside other in
        inl (omega (arith, owner_more o x t s inside e))

-- one thread of the chain gets its number anew
renewing_step : (o : Ownership) (numbers : List ℕ) (left x number least : ℕ) → IsSound o → IsRenewing o numbers (suc left) (Some x) number → IsLeast o numbers x least
    → IsRenewing o (slice_set numbers x least) left (blocker_in o x) least
renewing_step o numbers left x number least s r l = record {
  places = length-set numbers x least ∙ r.places;
  high = λ t h. high t h (cases_eq t x);
  low = λ t e.
      let less : cur_in o t ≤ cur_in o x = owner_more o x t s inside e in
      (blocker_within o x t s e, omega (arith, cur_low));
  own = λ t h. own t h (cases_eq t x) (r.own t h);
  edges = λ y t e. edges y t e (cases_eq y x) (cases_eq t x) (r.edges y t e);
}
  where
    inside : x < length o.members
    inside = (r.low x refl).0

    here : get_or (slice_set numbers x least) x 0 ≡ least
    here = let place : x < length numbers = omega (arith, r.places, inside) in get_or-set_same numbers x least 0 place

    there : (t : ℕ) → t ≢ x → get_or (slice_set numbers x least) t 0 ≡ get_or numbers t 0
    there t ne = get_or-set_other numbers x t least 0 ne

    at_x : (t : ℕ) → t ≡ x → get_or (slice_set numbers x least) t 0 ≡ least
    at_x t e = ap (λ i. get_or (slice_set numbers x least) i 0) e ∙ here

    cur_low : cur_in o x ≤ least
    cur_low = by_case l.reached
      where
        by_case : (least ≡ member_urgency o x) ⊎ ((y : ℕ) × (blocker_in o y ≡ Some x) × (least ≡ slice_index numbers y)) → cur_in o x ≤ least
        by_case (inl e) = omega (arith, own_more o x inside)
        by_case (inr w) =
            let small : w.0 < length o.members = waiter_within o w.0 x w.1 in
            let is : least ≡ slice_index numbers w.0 = w.2 in
            omega (arith, owner_more o w.0 x s small w.1, r.high w.0 small)

    high : (t : ℕ) → t < length o.members → (t ≡ x) ⊎ (t ≢ x) → cur_in o t ≤ get_or (slice_set numbers x least) t 0
    high t h (inl e) =
        let same : cur_in o t ≡ cur_in o x = ap (cur_in o) e in
        omega (arith, at_x t e, cur_low)
    high t h (inr ne) = omega (arith, there t ne, r.high t h)

    own : (t : ℕ) → t < length o.members → (t ≡ x) ⊎ (t ≢ x) → (slice_index numbers t ≤ member_urgency o t) ⊎ ((x ≡ t) ⊎ IsAhead o left (blocker_in o x) t)
        → (get_or (slice_set numbers x least) t 0 ≤ member_urgency o t) ⊎ IsAhead o left (blocker_in o x) t
    own t h (inl e) w =
        let same : member_urgency o t ≡ member_urgency o x = ap (member_urgency o) e in
        inl (omega (arith, at_x t e, l.own))
    own t h (inr ne) (inl low) = inl (omega (arith, there t ne))
    own t h (inr ne) (inr (inl e)) = absurd (ne (sym e))
    own t h (inr ne) (inr (inr a)) = inr a

    edges : (y t : ℕ) → blocker_in o y ≡ Some t → (y ≡ x) ⊎ (y ≢ x) → (t ≡ x) ⊎ (t ≢ x)
        → (slice_index numbers t ≤ slice_index numbers y) ⊎ (((Some x ≡ Some t) × (number ≤ slice_index numbers y)) ⊎ ((x ≡ t) ⊎ IsAhead o left (blocker_in o x) t))
        → (get_or (slice_set numbers x least) t 0 ≤ get_or (slice_set numbers x least) y 0)
        ⊎ (((blocker_in o x ≡ Some t) × (least ≤ get_or (slice_set numbers x least) y 0)) ⊎ IsAhead o left (blocker_in o x) t)
    edges y t e (inl from) to w = inr (inl (ap (blocker_in o) (sym from) ∙ e, omega (arith, at_x y from)))
    edges y t e (inr ne) (inl to) w =
        let low : least ≤ slice_index numbers y = l.edges y (e ∙ ap Some to) in
        inl (omega (arith, there y ne, at_x t to))
    edges y t e (inr ne) (inr other) (inl low) = inl (omega (arith, there y ne, there t other))
    edges y t e (inr ne) (inr other) (inr (inl w)) = absurd (other (sym (some_is x t w.0)))
    edges y t e (inr ne) (inr other) (inr (inr (inl f))) = absurd (other (sym f))
    edges y t e (inr ne) (inr other) (inr (inr (inr a))) = inr (inr a)

pub renewing_on : (o : Ownership) (numbers : List ℕ) (left x number least : ℕ) → IsSound o → 0 < left → IsRenewing o numbers left (Some x) number → IsLeast o numbers x least
    → IsRenewing o (slice_set numbers x least) (left - 1) (blocker_in o x) least
renewing_on o numbers zero x number least s h r l = absurd (omega arith)
renewing_on o numbers (suc left) x number least s h r l = let one : suc left - 1 ≡ left = omega arith in rw one (renewing_step o numbers left x number least s r l)

nobody_left : (o : Ownership) (n : ℕ) (a : Option ℕ) (t : ℕ) → (n ≡ 0) ⊎ (a ≡ None) → IsAhead o n a t → ⊥
nobody_left o zero a t e h = h
nobody_left o (suc n) None t e h = h
nobody_left o (suc n) (Some x) t (inl e) h = absurd (omega arith)
nobody_left o (suc n) (Some x) t (inr e) h = none-some x (sym e)

-- nobody is left: the number is carried on
pub renewing_ends : (o : Ownership) (numbers : List ℕ) (left : ℕ) (at : Option ℕ) (number : ℕ) → IsRenewing o numbers left at number → (left ≡ 0) ⊎ (at ≡ None) → IsRaising o numbers at number
renewing_ends o numbers left at number r end = record {
  places = r.places;
  high = r.high;
  low = r.low;
  own = λ t h. ⊎_elim inl (λ a. absurd (nobody_left o left at t end a)) (r.own t h);
  edges = λ x t e. ⊎_elim inl (λ w. ⊎_elim inr (λ a. absurd (nobody_left o left at t end a)) w) (r.edges x t e);
}

-- where no thread of a set waits for one outside, those outside are at least as urgent in the one as in the other if their edges are there
less_outside : (o p : Ownership) (set : ℕ → Bool) → IsSound o → length o.members ≡ length p.members → ((t : ℕ) → set t ≡ false → member_urgency o t ≡ member_urgency p t)
    → ((x t : ℕ) → blocker_in p x ≡ Some t → set t ≡ false → (set x ≡ false) × (blocker_in o x ≡ Some t)) → (t : ℕ) → t < length o.members → set t ≡ false → cur_in o t ≤ cur_in p t
less_outside o p set s size urgencies edges t h off =
    let low : number t ≤ cur_in p t = below_cur_in p number (λ u k. own u (omega (arith, size)) (set u) refl) (λ x u e. edge x u e (set u) refl) t (omega (arith, size)) in
    let same : number t ≡ cur_in o t = ap (λ b. cond b 0 (cur_in o t)) off in
    omega arith
  where
    number : ℕ → ℕ
    number u = cond (set u) 0 (cur_in o u)

    own : (u : ℕ) → u < length o.members → (b : Bool) → set u ≡ b → cond b 0 (cur_in o u) ≤ member_urgency p u
    own u k true e = omega arith
    own u k false e = let same : member_urgency o u ≡ member_urgency p u = urgencies u e in omega (arith, own_more o u k)

    edge : (x u : ℕ) → blocker_in p x ≡ Some u → (b : Bool) → set u ≡ b → cond b 0 (cur_in o u) ≤ cond (set x) 0 (cur_in o x)
    edge x u e true f = omega arith
    edge x u e false f =
        let w = edges x u e f in
        rw w.0 (owner_more o x u s (waiter_within o x u w.1) w.1)

-- after an edit at one thread the numbers are right but along its chain
pub differs_aside : (o p : Ownership) (curs : List ℕ) (from : Option ℕ) → IsSound o → IsSound p → curs ≡ curs_of o → DiffersAt o p from → AreAside p curs from
differs_aside o p curs from s k at d = rw at (record {
  places = length-curs o ∙ d.size;
  within = d.within;
  small = λ t h. let inside : t < length o.members = omega (arith, d.size) in omega (arith, cur_at o t inside, small_cur o t s inside);
  right = λ set c t h off.
      let inside : t < length o.members = omega (arith, d.size) in
      cur_at o t inside
      ∙ antisym (cur_in o t) (cur_in p t)
      (less_outside o p set s d.size (λ u e. same set c u e (d.urgencies u)) (λ x u e f. onward set c x u e f (d.more x u e)) t inside off)
      (less_outside p o set k (sym d.size) (λ u e. sym (same set c u e (d.urgencies u))) (λ x u e f. backward set c x u e f (d.kept x u e)) t h off);
})
  where
    antisym : (a b : ℕ) → a ≤ b → b ≤ a → a ≡ b
    antisym a b x y = omega arith

    same : (set : ℕ → Bool) → IsChainSet p from set → (u : ℕ) → set u ≡ false → (from ≡ Some u) ⊎ (member_urgency o u ≡ member_urgency p u) → member_urgency o u ≡ member_urgency p u
    same set c u e (inl f) = absurd (false≢true (sym e ∙ c.first u f))
    same set c u e (inr f) = f

    outside : (set : ℕ → Bool) → IsChainSet p from set → (x u : ℕ) → blocker_in p x ≡ Some u → set u ≡ false → set x ≡ false
    outside set c x u e f = ⊎_elim (λ k. absurd (false≢true (sym f ∙ c.on x u k e))) (λ k. k) (cases_Bool (set x))

    onward : (set : ℕ → Bool) → IsChainSet p from set → (x u : ℕ) → blocker_in p x ≡ Some u → set u ≡ false → (from ≡ Some u) ⊎ (blocker_in o x ≡ Some u) → (set x ≡ false) × (blocker_in o x ≡ Some u)
    onward set c x u e f (inl k) = absurd (false≢true (sym f ∙ c.first u k))
    onward set c x u e f (inr k) = (outside set c x u e f, k)

    backward : (set : ℕ → Bool) → IsChainSet p from set → (x u : ℕ) → blocker_in o x ≡ Some u → set u ≡ false → (from ≡ Some u) ⊎ (blocker_in p x ≡ Some u) → (set x ≡ false) × (blocker_in p x ≡ Some u)
    backward set c x u e f (inl k) = absurd (false≢true (sym f ∙ c.first u k))
    backward set c x u e f (inr k) = (outside set c x u k f, k)

-- a mark lets one fewer be unmarked
pub fewer_fresh : (numbers : List ℕ) (x : ℕ) → x < length numbers → slice_index numbers x ≢ 257 → sum_by fresh (slice_set numbers x 257) + 1 ≡ sum_by fresh numbers
fewer_fresh numbers x h ne = omega (arith, sum_by-set fresh numbers x 257 0 h, ap (λ b. cond {A = ℕ} b 0 1) (ne_eqb (get_or numbers x 0) 257 ne))

-- the numbers that no walk marked are right already
pub marking_rest : (o : Ownership) (olds numbers : List ℕ) (from : Option ℕ) (count : ℕ) (at : Option ℕ) → AreAside o olds from → IsMarking o olds numbers from count at
    → ((t : ℕ) → at ≡ Some t → slice_index numbers t ≡ 257) → (t : ℕ) → t < length o.members → (slice_index numbers t ≡ 257) ⊎ (slice_index numbers t ≡ cur_in o t)
marking_rest o olds numbers from count at a m end t h = by_mark (cases_eq (slice_index numbers t) 257)
  where
    stays : (u : ℕ) → (slice_index numbers u ≡ 257) ⊎ (at ≡ Some u) → slice_index numbers u ≡ 257
    stays u (inl e) = e
    stays u (inr e) = end u e

    closed : IsChainSet o from (λ u. eqb (slice_index numbers u) 257)
    closed = record {
      first = λ u e. eq-eqb (slice_index numbers u) 257 (stays u (m.first u e));
      on = λ x u e f. eq-eqb (slice_index numbers u) 257 (stays u (m.on x u (eqb-true (slice_index numbers x) 257 e) f));
    }

    by_mark : (slice_index numbers t ≡ 257) ⊎ (slice_index numbers t ≢ 257) → (slice_index numbers t ≡ 257) ⊎ (slice_index numbers t ≡ cur_in o t)
    by_mark (inl e) = inl e
    by_mark (inr ne) = ⊎_elim inl (λ e. inr (e ∙ a.right (λ u. eqb (slice_index numbers u) 257) closed t h (ne_eqb (slice_index numbers t) 257 ne))) (m.kept t)
