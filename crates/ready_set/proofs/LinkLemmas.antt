-- What the links and marks hold, after one queue of them has changed.
use Rattle.std.proofs.Common.{ℕ, ◌≡◌, ◌+◌, ◌-◌, ◌<◌, ◌≤◌, zero, suc, Bool, true, false, cond, List, [], ◌∷◌, ◌++◌, length, slice_index, filter, map, replicate, Option, Some, None, count_by, is_some, slice_get, get_or, set, sym, refl, ap, ◌∙◌, subst, inl, inr, ◌⊎◌, arith, length-set, get_or-set_same, get_or-set_other}
use Rattle.std.proofs.lemmas.List.{length-map, length-replicate, get_or-map, get_or_default, get_or_read, length_push, same_lists}
use Rattle.std.proofs.lemmas.List.FromFn.{fill_by_all}
use Rattle.std.proofs.lemmas.List.Sums.{length-filter, count_by-le-length, sum_by-set}
use Rattle.std.proofs.lemmas.Option.{slice_get_within, slice_get-get_or, get_or_from_slice_get}
use Rattle.std.proofs.lemmas.Bool.{false≢true, or_cases, or_left, or_right, eq-eqb, ne_eqb, cases_eq, cases_Bool}
use Rattle.rt_base.specs.Chains.{is_among, without, IsChain, IsAmong, IsApart}
use Rattle.ready_set.specs.Links.{queue_at, queues_of, is_queued, occupied, IsEmptied, is_place, IsLinked, Queued}
use Rattle.rt_base.proofs.Chains.{among_from_true, true_from_among, among_push, among_pushed_old, among_pushed_new, apart_push, without_absent, among_without, among_kept, apart_without, length_without, walk_is, last_among, first_among, prev_among, next_among, IsPutIn, IsTakenOut, chain_kept, chain_pushed, chain_fronted, chain_without, alone, one_neighbour}

-- who stands in a queue is a thread
pub thread_below : (t : ℕ) (n p : List ℕ) (pl : List (Option ℕ)) (qs : List (List ℕ)) → IsLinked t n p pl qs → (k x : ℕ) → IsAmong x (get_or qs k []) → x < t
thread_below t n p pl qs h k x is = omega (arith, slice_get_within pl x (Some k) (h.marked k x is), h.marks)

pub queue_below : (t : ℕ) (n p : List ℕ) (pl : List (Option ℕ)) (qs : List (List ℕ)) → IsLinked t n p pl qs → (k : ℕ) → length (get_or qs k []) ≤ t
queue_below t n p pl qs h k = omega (arith, h.counted k, count_by-le-length (is_place k) pl, h.marks)

-- no thread stands in two queues
pub one_queue : (t : ℕ) (n p : List ℕ) (pl : List (Option ℕ)) (qs : List (List ℕ)) → IsLinked t n p pl qs → (k k' x : ℕ) → IsAmong x (get_or qs k []) → IsAmong x (get_or qs k' []) → k ≡ k'
one_queue t n p pl qs h k k' x is is' = let both : Some (Some k) ≡ Some (Some k') = sym (h.marked k x is) ∙ h.marked k' x is' in cc

-- the walks read the queues back
pub queues_are : (t : ℕ) (n p : List ℕ) (pl : List (Option ℕ)) (qs : List (List ℕ)) → IsLinked t n p pl qs → queues_of t n ≡ qs
queues_are t n p pl qs h =
    let count : length qs ≡ length n - t = omega (arith, h.nodes) in
    sym (fill_by_all (queue_at t n) qs (length n - t) [] count
    (λ k below. let inside : k < length qs = omega (arith, below, count) in
    sym (walk_is t t n p (t + k) (get_or qs k []) (t + k) (h.chained k inside) (omega arith) (λ x is. thread_below t n p pl qs h k x is) (queue_below t n p pl qs h k))))

-- what is held of each queue, where one was replaced by another
pub record IsOneChanged (t : ℕ) (n p n' p' : List ℕ) (pl pl' : List (Option ℕ)) (qs : List (List ℕ)) (k : ℕ) (q' : List ℕ) : Type 0 where
  pub inside : k < length qs
  pub length_next : length n' ≡ length n
  pub length_prev : length p' ≡ length p
  pub length_marks : length pl' ≡ length pl
  pub chain : IsChain n' p' (t + k) q' (t + k)
  pub apart : IsApart q'
  pub next_other : (j y : ℕ) → (j ≡ k → ⊥) → j < length qs → (y ≡ t + j) ⊎ IsAmong y (get_or qs j []) → slice_index n' y ≡ slice_index n y
  pub prev_other : (j y : ℕ) → (j ≡ k → ⊥) → j < length qs → (y ≡ t + j) ⊎ IsAmong y (get_or qs j []) → slice_index p' y ≡ slice_index p y
  pub marked : (x : ℕ) → IsAmong x q' → slice_get pl' x ≡ Some (Some k)
  pub listed : (x : ℕ) → slice_get pl' x ≡ Some (Some k) → IsAmong x q'
  pub marked_other : (j x : ℕ) → (j ≡ k → ⊥) → slice_get pl x ≡ Some (Some j) → slice_get pl' x ≡ Some (Some j)
  pub listed_other : (j x : ℕ) → (j ≡ k → ⊥) → slice_get pl' x ≡ Some (Some j) → slice_get pl x ≡ Some (Some j)
  pub counted : length q' ≡ count_by (is_place k) pl'
  pub counted_other : (j : ℕ) → (j ≡ k → ⊥) → count_by (is_place j) pl' ≡ count_by (is_place j) pl

pub linked_changed : (t : ℕ) (n p n' p' : List ℕ) (pl pl' : List (Option ℕ)) (qs : List (List ℕ)) (k : ℕ) (q' : List ℕ)
    → IsLinked t n p pl qs → IsOneChanged t n p n' p' pl pl' qs k q' → IsLinked t n' p' pl' (set qs k q')
linked_changed t n p n' p' pl pl' qs k q' h d =
    let here : (j : ℕ) → j ≡ k → get_or (set qs k q') j [] ≡ q' = λ j e. ap (λ i. get_or (set qs k q') i []) e ∙ get_or-set_same qs k q' [] d.inside in
    let there : (j : ℕ) → (j ≡ k → ⊥) → get_or (set qs k q') j [] ≡ get_or qs j [] = λ j e. get_or-set_other qs k j q' [] e in
    let long : length (set qs k q') ≡ length qs = length-set qs k q' in
    record {
      few = omega (arith, h.few, long);
      nodes = d.length_next ∙ h.nodes ∙ ap (λ i. t + i) (sym long);
      nodes_back = d.length_prev ∙ h.nodes_back ∙ ap (λ i. t + i) (sym long);
      marks = d.length_marks ∙ h.marks;
      chained = λ j below. elim (cases_eq j k) [
        | inl e ↦ subst (λ q. IsChain n' p' (t + j) q (t + j)) (sym (here j e)) (subst (λ i. IsChain n' p' (t + i) q' (t + i)) (sym e) d.chain)
        | inr e ↦
            let inside : j < length qs = omega (arith, below, long) in
            subst (λ q. IsChain n' p' (t + j) q (t + j)) (sym (there j e))
            (chain_kept n p n' p' (t + j) (get_or qs j []) (t + j) (h.chained j inside)
            (d.next_other j (t + j) e inside (inl refl)) (λ y is. d.next_other j y e inside (inr is))
            (λ y is. d.prev_other j y e inside (inr is)) (d.prev_other j (t + j) e inside (inl refl)))
      ];
      marked = λ j x is. elim (cases_eq j k) [
        | inl e ↦ d.marked x (subst (IsAmong x) (here j e) is) ∙ ap (λ i. Some (Some i)) (sym e)
        | inr e ↦ d.marked_other j x e (h.marked j x (subst (IsAmong x) (there j e) is))
      ];
      listed = λ j x is. elim (cases_eq j k) [
        | inl e ↦ (omega (arith, e, d.inside, long), subst (IsAmong x) (sym (here j e)) (d.listed x (is ∙ ap (λ i. Some (Some i)) e)))
        | inr e ↦ let was = h.listed j x (d.listed_other j x e is) in (omega (arith, was.0, long), subst (IsAmong x) (sym (there j e)) was.1)
      ];
      counted = λ j. elim (cases_eq j k) [
        | inl e ↦ ap length (here j e) ∙ d.counted ∙ ap (λ i. count_by (is_place i) pl') (sym e)
        | inr e ↦ ap length (there j e) ∙ h.counted j ∙ sym (d.counted_other j e)
      ];
      apart = λ j. elim (cases_eq j k) [
        | inl e ↦ subst IsApart (sym (here j e)) d.apart
        | inr e ↦ subst IsApart (sym (there j e)) (h.apart j)
      ];
    }

-- marks, after a write
get_set_same : {X : Type 0} (xs : List X) (i : ℕ) (y : X) → i < length xs → slice_get (set xs i y) i ≡ Some y
get_set_same xs i y below = slice_get-get_or (set xs i y) i y (omega (arith, length-set xs i y, below)) ∙ ap Some (get_or-set_same xs i y y below)

get_set_other : {X : Type 0} (xs : List X) (i j : ℕ) (y : X) → (j ≡ i → ⊥) → slice_get (set xs i y) j ≡ slice_get xs j
get_set_other [] i j y apart = refl
get_set_other (x ∷ xs) zero zero y apart = absurd (apart refl)
get_set_other (x ∷ xs) zero (suc j) y apart = refl
get_set_other (x ∷ xs) (suc i) zero y apart = refl
get_set_other (x ∷ xs) (suc i) (suc j) y apart = get_set_other xs i j y (λ e. apart (ap suc e))

place_same : (k : ℕ) → is_place k (Some k) ≡ true
place_same k = eq-eqb k k refl

place_other : (j k : ℕ) → (j ≡ k → ⊥) → is_place j (Some k) ≡ false
place_other j k apart = ne_eqb k j (λ e. apart (sym e))

-- a queue of a thread that is in one
pub found_in : (qs : List (List ℕ)) (x : ℕ) → is_queued qs x ≡ true → (k : ℕ) × (k < length qs) × IsAmong x (get_or qs k [])
found_in [] x is = absurd (false≢true is)
found_in (q ∷ qs) x is =
    elim (or_cases (is_among x q) (is_queued qs x) is) [
      | inl here ↦ (0, omega arith, among_from_true x q here)
      | inr later ↦ let rest = found_in qs x later in (suc rest.0, omega (arith, rest.1), rest.2)
    ]

queued_in : (qs : List (List ℕ)) (x k : ℕ) → IsAmong x (get_or qs k []) → is_queued qs x ≡ true
queued_in [] x k is = absurd is
queued_in (q ∷ qs) x zero is = or_left (is_among x q) (is_queued qs x) (true_from_among x q is)
queued_in (q ∷ qs) x (suc k) is = or_right (is_among x q) (is_queued qs x) (queued_in qs x k is)

slice_get_some : {X : Type 0} (xs : List X) (i : ℕ) → i < length xs → (x : X) × (slice_get xs i ≡ Some x)
slice_get_some [] i below = absurd (omega arith)
slice_get_some (x ∷ xs) zero below = (x, refl)
slice_get_some (x ∷ xs) (suc i) below = slice_get_some xs i (omega arith)

-- what a thread's mark says of the queues
pub mark_of_queued : (t : ℕ) (n p : List ℕ) (pl : List (Option ℕ)) (qs : List (List ℕ)) → IsLinked t n p pl qs → (x : ℕ) → is_queued qs x ≡ true → (k : ℕ) × (k < length qs) × IsAmong x (get_or qs k []) × (slice_get pl x ≡ Some (Some k))
mark_of_queued t n p pl qs h x is = let found = found_in qs x is in (found.0, found.1, found.2, h.marked found.0 x found.2)

absent_mark : (t : ℕ) (n p : List ℕ) (pl : List (Option ℕ)) (qs : List (List ℕ)) → IsLinked t n p pl qs → (x : ℕ) → is_queued qs x ≡ false → (o : Option ℕ) → slice_get pl x ≡ Some o → slice_get pl x ≡ Some None
absent_mark t n p pl qs h x is None e = e
absent_mark t n p pl qs h x is (Some k) e = absurd (false≢true (sym is ∙ queued_in qs x k (h.listed k x e).1))

pub mark_of_absent : (t : ℕ) (n p : List ℕ) (pl : List (Option ℕ)) (qs : List (List ℕ)) → IsLinked t n p pl qs → (x : ℕ) → x < t → is_queued qs x ≡ false → slice_get pl x ≡ Some None
mark_of_absent t n p pl qs h x below is =
    let at = slice_get_some pl x (omega (arith, below, h.marks)) in
    absent_mark t n p pl qs h x is at.0 at.1

-- the head of a queue, or a thread of it
abbrev pub IsNode : ℕ → List (List ℕ) → ℕ → ℕ → Type 0
IsNode t qs k y = (y ≡ t + k) ⊎ IsAmong y (get_or qs k [])

nodes_apart : (t : ℕ) (n p : List ℕ) (pl : List (Option ℕ)) (qs : List (List ℕ)) → IsLinked t n p pl qs → (j k y z : ℕ) → (j ≡ k → ⊥) → IsNode t qs j y → IsNode t qs k z → y ≡ z → ⊥
nodes_apart t n p pl qs h j k y z apart (inl a) (inl b) same = apart (omega (arith, a, b, same))
nodes_apart t n p pl qs h j k y z apart (inl a) (inr b) same = omega (arith, a, same, thread_below t n p pl qs h k z b)
nodes_apart t n p pl qs h j k y z apart (inr a) (inl b) same = omega (arith, b, same, thread_below t n p pl qs h j y a)
nodes_apart t n p pl qs h j k y z apart (inr a) (inr b) same =
    apart (one_queue t n p pl qs h j k z (subst (λ w. IsAmong w (get_or qs j [])) same a) b)

-- a thread that stands nowhere is no node of a queue
absent_apart : (t : ℕ) (n p : List ℕ) (pl : List (Option ℕ)) (qs : List (List ℕ)) → IsLinked t n p pl qs → (x j y : ℕ) → x < t → slice_get pl x ≡ Some None → IsNode t qs j y → y ≡ x → ⊥
absent_apart t n p pl qs h x j y below absent (inl a) same = omega (arith, a, same, below)
absent_apart t n p pl qs h x j y below absent (inr a) same =
    let both : Some None ≡ Some (Some j) = sym absent ∙ ap (slice_get pl) (sym same) ∙ h.marked j y a in cc

node_below : (t : ℕ) (n p : List ℕ) (pl : List (Option ℕ)) (qs : List (List ℕ)) → IsLinked t n p pl qs → (k y : ℕ) → k < length qs → IsNode t qs k y → (y < length n) × (y < length p)
node_below t n p pl qs h k y inside (inl a) = (omega (arith, a, inside, h.nodes), omega (arith, a, inside, h.nodes_back))
node_below t n p pl qs h k y inside (inr a) = let low = thread_below t n p pl qs h k y a in (omega (arith, low, h.nodes), omega (arith, low, h.nodes_back))

put_in : (n p : List ℕ) (before x after : ℕ) → before < length n → x < length n → after < length p → x < length p → (before ≡ x → ⊥) → (after ≡ x → ⊥)
    → IsPutIn n p (set (set n before x) x after) (set (set p after x) x before) before x after
put_in n p before x after b xn a xp bx ax = record {
  next_before = get_or-set_other (set n before x) x before after 0 bx ∙ get_or-set_same n before x 0 b;
  next_node = get_or-set_same (set n before x) x after 0 (omega (arith, xn, length-set n before x));
  prev_after = get_or-set_other (set p after x) x after before 0 ax ∙ get_or-set_same p after x 0 a;
  prev_node = get_or-set_same (set p after x) x before 0 (omega (arith, xp, length-set p after x));
  next_other = λ y yb yx. get_or-set_other (set n before x) x y after 0 yx ∙ get_or-set_other n before y x 0 yb;
  prev_other = λ y ya yx. get_or-set_other (set p after x) x y before 0 yx ∙ get_or-set_other p after y x 0 ya;
}

taken_out : (n p : List ℕ) (before after : ℕ) → before < length n → after < length p → IsTakenOut n p (set n before after) (set p after before) before after
taken_out n p before after b a = record {
  next_before = get_or-set_same n before after 0 b;
  prev_after = get_or-set_same p after before 0 a;
  next_other = λ y yb. get_or-set_other n before y after 0 yb;
  prev_other = λ y ya. get_or-set_other p after y before 0 ya;
}

-- how the counts of marks go
count_set : (j x : ℕ) (pl : List (Option ℕ)) (was now : Option ℕ) → slice_get pl x ≡ Some was
    → count_by (is_place j) (set pl x now) + cond (is_place j was) 1 0 ≡ count_by (is_place j) pl + cond (is_place j now) 1 0
count_set j x pl was now e =
    ap (λ o. count_by (is_place j) (set pl x now) + cond (is_place j o) 1 0) (sym (get_or_from_slice_get pl x was was e))
    ∙ sum_by-set (λ o. cond (is_place j o) 1 0) pl x now was (slice_get_within pl x was e)

one_if : (b : Bool) → b ≡ true → ◌≡◌ {A = ℕ} (cond b 1 0) 1
one_if true e = refl
one_if false e = absurd (false≢true e)

none_if : (b : Bool) → b ≡ false → ◌≡◌ {A = ℕ} (cond b 1 0) 0
none_if false e = refl
none_if true e = absurd (false≢true (sym e))

-- a thread put into one queue
added : (t : ℕ) (n p n' p' : List ℕ) (pl : List (Option ℕ)) (qs : List (List ℕ)) (k x before after : ℕ) (q' : List ℕ) → IsLinked t n p pl qs
    → k < length qs → x < t → slice_get pl x ≡ Some None → length n' ≡ length n → length p' ≡ length p
    → IsPutIn n p n' p' before x after → IsNode t qs k before → IsNode t qs k after
    → IsChain n' p' (t + k) q' (t + k) → IsApart q'
    → ((y : ℕ) → IsAmong y q' → (y ≡ x) ⊎ IsAmong y (get_or qs k [])) → IsAmong x q' → ((y : ℕ) → IsAmong y (get_or qs k []) → IsAmong y q')
    → length q' ≡ length (get_or qs k []) + 1
    → IsOneChanged t n p n' p' pl (set pl x (Some k)) qs k q'
added t n p n' p' pl qs k x before after q' h inside below absent ln lp put nb na chain apart split new old long =
    let within = slice_get_within pl x None absent in record {
      inside = inside;
      length_next = ln;
      length_prev = lp;
      length_marks = length-set pl x (Some k);
      chain = chain;
      apart = apart;
      next_other = λ j y e _ is. put.next_other y (nodes_apart t n p pl qs h j k y before e is nb) (absent_apart t n p pl qs h x j y below absent is);
      prev_other = λ j y e _ is. put.prev_other y (nodes_apart t n p pl qs h j k y after e is na) (absent_apart t n p pl qs h x j y below absent is);
      marked = λ y is. elim (cases_eq y x) [
        | inl e ↦ ap (slice_get (set pl x (Some k))) e ∙ get_set_same pl x (Some k) within
        | inr e ↦ get_set_other pl x y (Some k) e ∙ h.marked k y (elim (split y is) [ inl same ↦ absurd (e same) | inr was ↦ was ])
      ];
      listed = λ y is. elim (cases_eq y x) [
        | inl e ↦ subst (λ w. IsAmong w q') (sym e) new
        | inr e ↦ old y (h.listed k y (sym (get_set_other pl x y (Some k) e) ∙ is)).1
      ];
      marked_other = λ j y e is. elim (cases_eq y x) [
        | inl same ↦ (let both : Some None ≡ Some (Some j) = sym absent ∙ ap (slice_get pl) (sym same) ∙ is in cc)
        | inr other ↦ get_set_other pl x y (Some k) other ∙ is
      ];
      listed_other = λ j y e is. elim (cases_eq y x) [
        | inl same ↦
            let both : Some (Some k) ≡ Some (Some j) = sym (get_set_same pl x (Some k) within) ∙ ap (slice_get (set pl x (Some k))) (sym same) ∙ is in
            let one : j ≡ k = cc in
            absurd (e one)
        | inr other ↦ sym (get_set_other pl x y (Some k) other) ∙ is
      ];
      counted = omega (arith, long, h.counted k, count_set k x pl None (Some k) absent, one_if (is_place k (Some k)) (place_same k));
      counted_other = λ j e. omega (arith, count_set j x pl None (Some k) absent, none_if (is_place j (Some k)) (place_other j k e));
    }

-- the new links and marks hold the queue with the thread at its end
pub linked_pushed : (t : ℕ) (n p : List ℕ) (pl : List (Option ℕ)) (qs : List (List ℕ)) (k x before : ℕ) → IsLinked t n p pl qs
    → k < length qs → x < t → is_queued qs x ≡ false → before ≡ get_or p (t + k) 0
    → IsLinked t (set (set n before x) x (t + k)) (set (set p (t + k) x) x before) (set pl x (Some k)) (set qs k (get_or qs k [] ++ x ∷ []))
linked_pushed t n p pl qs k x before h inside below is e =
    let q = get_or qs k [] in
    let absent = mark_of_absent t n p pl qs h x below is in
    let chain = h.chained k inside in
    let nb : IsNode t qs k before = subst (IsNode t qs k) (sym e) (last_among n p (t + k) q (t + k) chain) in
    let na : IsNode t qs k (t + k) = inl refl in
    let b = node_below t n p pl qs h k before inside nb in
    let a = node_below t n p pl qs h k (t + k) inside na in
    let no_head : (IsAmong (t + k) q → ⊥) = λ again. omega (arith, thread_below t n p pl qs h k (t + k) again) in
    let no_x : (IsAmong x q → ⊥) = λ again. absent_apart t n p pl qs h x k x below absent (inr again) refl in
    let put = put_in n p before x (t + k) b.0 (omega (arith, below, h.nodes)) a.1 (omega (arith, below, h.nodes_back)) (absent_apart t n p pl qs h x k before below absent nb) (absent_apart t n p pl qs h x k (t + k) below absent na) in
    let n' = set (set n before x) x (t + k) in
    let p' = set (set p (t + k) x) x before in
    linked_changed t n p n' p' pl (set pl x (Some k)) qs k (q ++ x ∷ []) h
    (added t n p n' p' pl qs k x before (t + k) (q ++ x ∷ []) h inside below absent
    (length-set (set n before x) x (t + k) ∙ length-set n before x) (length-set (set p (t + k) x) x before ∙ length-set p (t + k) x)
    put nb na
    (chain_pushed n p n' p' (t + k) q (t + k) x before chain e put (h.apart k) no_head no_head no_x (absent_apart t n p pl qs h x k (t + k) below absent na))
    (apart_push x q (h.apart k) no_x) (λ y among. among_push y x q among) (among_pushed_new x q) (λ y among. among_pushed_old y x q among)
    (length_push q x))

pub linked_fronted : (t : ℕ) (n p : List ℕ) (pl : List (Option ℕ)) (qs : List (List ℕ)) (k x after : ℕ) → IsLinked t n p pl qs
    → k < length qs → x < t → is_queued qs x ≡ false → after ≡ get_or n (t + k) 0
    → IsLinked t (set (set n (t + k) x) x after) (set (set p after x) x (t + k)) (set pl x (Some k)) (set qs k (x ∷ get_or qs k []))
linked_fronted t n p pl qs k x after h inside below is e =
    let q = get_or qs k [] in
    let absent = mark_of_absent t n p pl qs h x below is in
    let chain = h.chained k inside in
    let na : IsNode t qs k after = subst (IsNode t qs k) (sym e) (first_among n p (t + k) q (t + k) chain) in
    let nb : IsNode t qs k (t + k) = inl refl in
    let a = node_below t n p pl qs h k after inside na in
    let b = node_below t n p pl qs h k (t + k) inside nb in
    let no_head : (IsAmong (t + k) q → ⊥) = λ again. omega (arith, thread_below t n p pl qs h k (t + k) again) in
    let no_x : (IsAmong x q → ⊥) = λ again. absent_apart t n p pl qs h x k x below absent (inr again) refl in
    let put = put_in n p (t + k) x after b.0 (omega (arith, below, h.nodes)) a.1 (omega (arith, below, h.nodes_back)) (absent_apart t n p pl qs h x k (t + k) below absent nb) (absent_apart t n p pl qs h x k after below absent na) in
    let n' = set (set n (t + k) x) x after in
    let p' = set (set p after x) x (t + k) in
    linked_changed t n p n' p' pl (set pl x (Some k)) qs k (x ∷ q) h
    (added t n p n' p' pl qs k x (t + k) after (x ∷ q) h inside below absent
    (length-set (set n (t + k) x) x after ∙ length-set n (t + k) x) (length-set (set p after x) x (t + k) ∙ length-set p after x)
    put nb na
    (chain_fronted n p n' p' (t + k) q (t + k) x after chain e put (h.apart k) no_head no_head no_x (absent_apart t n p pl qs h x k (t + k) below absent nb))
    (no_x, h.apart k) (λ y among. among) (inl refl) (λ y among. inr among)
    (omega arith))

-- each other queue has nothing to lose
pub without_is_set : (t : ℕ) (n p : List ℕ) (pl : List (Option ℕ)) (qs : List (List ℕ)) (k x : ℕ) → IsLinked t n p pl qs → k < length qs → IsAmong x (get_or qs k [])
    → map (without x) qs ≡ set qs k (without x (get_or qs k []))
without_is_set t n p pl qs k x h inside is =
    same_lists (map (without x) qs) (set qs k (without x (get_or qs k []))) (length-map qs (without x) ∙ sym (length-set qs k (without x (get_or qs k []))))
    (λ j d below.
    let low : j < length qs = omega (arith, below, length-map qs (without x)) in
    get_or-map (without x) qs j [] d low ∙ elim (cases_eq j k) as (λ _. without x (get_or qs j []) ≡ get_or (set qs k (without x (get_or qs k []))) j d) [
      | inl e ↦
          ap (λ i. without x (get_or qs i [])) e
          ∙ sym (ap (λ i. get_or (set qs k (without x (get_or qs k []))) i d) e ∙ get_or-set_same qs k (without x (get_or qs k [])) d inside)
      | inr e ↦
          without_absent x (get_or qs j []) (λ again. e (one_queue t n p pl qs h j k x again is))
          ∙ get_or_default qs j [] d low ∙ sym (get_or-set_other qs k j (without x (get_or qs k [])) d e)
    ])

pub linked_without : (t : ℕ) (n p : List ℕ) (pl : List (Option ℕ)) (qs : List (List ℕ)) (k x before after : ℕ) → IsLinked t n p pl qs
    → k < length qs → IsAmong x (get_or qs k []) → before ≡ get_or p x 0 → after ≡ get_or n x 0
    → IsLinked t (set n before after) (set p after before) (set pl x None) (map (without x) qs)
linked_without t n p pl qs k x before after h inside is eb ea =
    let q = get_or qs k [] in
    let mark = h.marked k x is in
    let within = slice_get_within pl x (Some k) mark in
    let chain = h.chained k inside in
    let nb : IsNode t qs k before = subst (IsNode t qs k) (sym eb) (prev_among n p (t + k) q (t + k) x chain is) in
    let na : IsNode t qs k after = subst (IsNode t qs k) (sym ea) (next_among n p (t + k) q (t + k) x chain is) in
    let b = node_below t n p pl qs h k before inside nb in
    let a = node_below t n p pl qs h k after inside na in
    let no_head : (IsAmong (t + k) q → ⊥) = λ again. omega (arith, thread_below t n p pl qs h k (t + k) again) in
    let taken = taken_out n p before after b.0 a.1 in
    let n' = set n before after in
    let p' = set p after before in
    let less = length_without x q (h.apart k) is in
    subst (IsLinked t n' p' (set pl x None)) (sym (without_is_set t n p pl qs k x h inside is))
    (linked_changed t n p n' p' pl (set pl x None) qs k (without x q) h (record {
      inside = inside;
      length_next = length-set n before after;
      length_prev = length-set p after before;
      length_marks = length-set pl x None;
      chain = chain_without n p n' p' (t + k) q (t + k) x before after chain is eb ea taken (h.apart k) no_head no_head;
      apart = apart_without x q (h.apart k);
      next_other = λ j y e _ node. taken.next_other y (nodes_apart t n p pl qs h j k y before e node nb);
      prev_other = λ j y e _ node. taken.prev_other y (nodes_apart t n p pl qs h j k y after e node na);
      marked = λ y among. let both = among_without y x q among in get_set_other pl x y None both.1 ∙ h.marked k y both.0;
      listed = λ y mark_is. elim (cases_eq y x) [
        | inl e ↦ absurd (let both : Some None ≡ Some (Some k) = sym (get_set_same pl x None within) ∙ ap (slice_get (set pl x None)) (sym e) ∙ mark_is in cc)
        | inr e ↦ among_kept y x q (h.listed k y (sym (get_set_other pl x y None e) ∙ mark_is)).1 e
      ];
      marked_other = λ j y e mark_is. elim (cases_eq y x) [
        | inl same ↦ absurd (e (let both : Some (Some j) ≡ Some (Some k) = sym mark_is ∙ ap (slice_get pl) same ∙ mark in cc))
        | inr other ↦ get_set_other pl x y None other ∙ mark_is
      ];
      listed_other = λ j y e mark_is. elim (cases_eq y x) [
        | inl same ↦ absurd (let both : Some None ≡ Some (Some j) = sym (get_set_same pl x None within) ∙ ap (slice_get (set pl x None)) (sym same) ∙ mark_is in cc)
        | inr other ↦ sym (get_set_other pl x y None other) ∙ mark_is
      ];
      counted = omega (arith, less, h.counted k, count_set k x pl (Some k) None mark, one_if (is_place k (Some k)) (place_same k));
      counted_other = λ j e. omega (arith, count_set j x pl (Some k) None mark, none_if (is_place j (Some k)) (place_other j k e));
    }))

-- ---- as the code uses it

at_zero : (xs : List ℕ) (i x : ℕ) → i < length xs → x ≡ get_or xs i x → x ≡ get_or xs i 0
at_zero xs i x below e = get_or_read xs i x below e 0

head_below : (t : ℕ) (n p : List ℕ) (pl : List (Option ℕ)) (qs : List (List ℕ)) → IsLinked t n p pl qs → (k : ℕ) → k < length qs → (t + k < length n) × (t + k < length p)
head_below t n p pl qs h k inside = node_below t n p pl qs h k (t + k) inside (inl refl)

-- the links, read at a head or a thread of a queue, lead to a head or a thread of it
pub last_below : (t : ℕ) (n p : List ℕ) (pl : List (Option ℕ)) (qs : List (List ℕ)) → IsLinked t n p pl qs → (k last : ℕ) → k < length qs → last ≡ get_or p (t + k) last → last < length n
last_below t n p pl qs h k last inside e =
    let e0 = at_zero p (t + k) last (head_below t n p pl qs h k inside).1 e in
    (node_below t n p pl qs h k last inside (subst (IsNode t qs k) (sym e0) (last_among n p (t + k) (get_or qs k []) (t + k) (h.chained k inside)))).0

pub front_below : (t : ℕ) (n p : List ℕ) (pl : List (Option ℕ)) (qs : List (List ℕ)) → IsLinked t n p pl qs → (k front : ℕ) → k < length qs → front ≡ get_or n (t + k) front → front < length p
front_below t n p pl qs h k front inside e =
    let e0 = at_zero n (t + k) front (head_below t n p pl qs h k inside).0 e in
    (node_below t n p pl qs h k front inside (subst (IsNode t qs k) (sym e0) (first_among n p (t + k) (get_or qs k []) (t + k) (h.chained k inside)))).1

first_some : (t : ℕ) (n p : List ℕ) (from : ℕ) (q : List ℕ) (to node : ℕ) → IsChain n p from q to → t ≤ to → node ≡ get_or n from 0 → node < t → Some node ≡ slice_get q 0
first_some t n p from [] to node c high e low = absurd (omega (arith, e, c.0, high, low))
first_some t n p from (x ∷ xs) to node c high e low = ap Some (e ∙ c.0)

first_none : (t : ℕ) (n p : List ℕ) (from : ℕ) (q : List ℕ) (to node : ℕ) → IsChain n p from q to → ((y : ℕ) → IsAmong y q → y < t) → node ≡ get_or n from 0 → t ≤ node → None ≡ slice_get q 0
first_none t n p from [] to node c low e high = refl
first_none t n p from (x ∷ xs) to node c low e high = absurd (omega (arith, low x (inl refl), e, c.0, high))

-- the node after a head is the queue's first thread, or a head
pub first_thread : (t : ℕ) (n p : List ℕ) (pl : List (Option ℕ)) (qs : List (List ℕ)) → IsLinked t n p pl qs → (k node : ℕ) → k < length qs → node ≡ get_or n (t + k) node → node < t → Some node ≡ slice_get (get_or qs k []) 0
first_thread t n p pl qs h k node inside e low =
    first_some t n p (t + k) (get_or qs k []) (t + k) node (h.chained k inside) (omega arith) (at_zero n (t + k) node (head_below t n p pl qs h k inside).0 e) low

pub no_thread : (t : ℕ) (n p : List ℕ) (pl : List (Option ℕ)) (qs : List (List ℕ)) → IsLinked t n p pl qs → (k node : ℕ) → k < length qs → node ≡ get_or n (t + k) node → t ≤ node → None ≡ slice_get (get_or qs k []) 0
no_thread t n p pl qs h k node inside e high =
    first_none t n p (t + k) (get_or qs k []) (t + k) node (h.chained k inside) (λ y is. thread_below t n p pl qs h k y is) (at_zero n (t + k) node (head_below t n p pl qs h k inside).0 e) high

-- the marks say which threads are queued
pub marks_are : (t : ℕ) (n p : List ℕ) (pl : List (Option ℕ)) (qs : List (List ℕ)) → IsLinked t n p pl qs → (x : ℕ) → x < t → is_some (get_or pl x None) ≡ is_queued qs x
marks_are t n p pl qs h x below =
    elim (cases_Bool (is_queued qs x)) [
      | inl found_there ↦ let found = mark_of_queued t n p pl qs h x found_there in ap is_some (get_or_from_slice_get pl x (Some found.0) None found.3) ∙ sym found_there
      | inr not_there ↦ ap is_some (get_or_from_slice_get pl x None None (mark_of_absent t n p pl qs h x below not_there)) ∙ sym not_there
    ]

-- the links that are there hold what they read
again : (t : ℕ) (n p : List ℕ) (pl : List (Option ℕ)) (qs : List (List ℕ)) → IsLinked t n p pl qs → IsLinked t n p pl (queues_of t n) × (queues_of t n ≡ qs)
again t n p pl qs h = let e = queues_are t n p pl qs h in (subst (IsLinked t n p pl) (sym e) h, e)

pub pushed_links : (t : ℕ) (n p : List ℕ) (pl : List (Option ℕ)) (qs : List (List ℕ)) → IsLinked t n p pl qs → (k x last : ℕ) (n' p1 p' : List ℕ) (pl' : List (Option ℕ))
    → k < length qs → x < t → is_queued qs x ≡ false → last ≡ get_or p (t + k) last → p1 ≡ p
    → n' ≡ set (set n last x) x (t + k) → p' ≡ set (set p1 (t + k) x) x last → pl' ≡ set pl x (Some k)
    → IsLinked t n' p' pl' (queues_of t n') × (queues_of t n' ≡ set qs k (get_or qs k [] ++ x ∷ []))
pushed_links t n p pl qs h k x last n' p1 p' pl' inside below absent e e1 en ep em =
    let e0 = at_zero p (t + k) last (head_below t n p pl qs h k inside).1 e in
    rw (en, ep, em, e1) (again t (set (set n last x) x (t + k)) (set (set p (t + k) x) x last) (set pl x (Some k)) (set qs k (get_or qs k [] ++ x ∷ [])) (linked_pushed t n p pl qs k x last h inside below absent e0))

pub fronted_links : (t : ℕ) (n p : List ℕ) (pl : List (Option ℕ)) (qs : List (List ℕ)) → IsLinked t n p pl qs → (k x front : ℕ) (n1 n' p' : List ℕ) (pl' : List (Option ℕ))
    → k < length qs → x < t → is_queued qs x ≡ false → front ≡ get_or n (t + k) front → n1 ≡ n
    → n' ≡ set (set n1 (t + k) x) x front → p' ≡ set (set p front x) x (t + k) → pl' ≡ set pl x (Some k)
    → IsLinked t n' p' pl' (queues_of t n') × (queues_of t n' ≡ set qs k (x ∷ get_or qs k []))
fronted_links t n p pl qs h k x front n1 n' p' pl' inside below absent e e1 en ep em =
    let e0 = at_zero n (t + k) front (head_below t n p pl qs h k inside).0 e in
    rw (en, ep, em, e1) (again t (set (set n (t + k) x) x front) (set (set p front x) x (t + k)) (set pl x (Some k)) (set qs k (x ∷ get_or qs k [])) (linked_fronted t n p pl qs k x front h inside below absent e0))

-- the fields, as the value is seen
pub seen : (t : ℕ) (n p : List ℕ) (pl : List (Option ℕ)) (v : Queued) → IsLinked t n p pl (queues_of t n) → record { threads = t; queues = queues_of t n } ≡ v → (t ≡ v.threads) × IsLinked t n p pl v.queues
seen t n p pl v h e = (ap (λ (w : Queued). w.threads) e, subst (IsLinked t n p pl) (ap (λ (w : Queued). w.queues) e) h)

pub same_view : (t t' : ℕ) (qs qs' : List (List ℕ)) → t ≡ t' → qs ≡ qs' → ◌≡◌ {A = Queued} (record { threads = t; queues = qs }) (record { threads = t'; queues = qs' })
same_view t t' qs qs' e e' = cc

-- ---- no thread at first

empty_at : (count k : ℕ) → get_or (replicate {A = List ℕ} count []) k [] ≡ []
empty_at zero k = refl
empty_at (suc count) zero = refl
empty_at (suc count) (suc k) = empty_at count k

no_mark : (t x k : ℕ) → slice_get (replicate {A = Option ℕ} t None) x ≡ Some (Some k) → ⊥
no_mark zero x k is = cc
no_mark (suc t) zero k is = cc
no_mark (suc t) (suc x) k is = no_mark t x k is

none_marked : (k t : ℕ) → filter (is_place k) (replicate t None) ≡ []
none_marked k zero = refl
none_marked k (suc t) = none_marked k t

pub linked_empty : (t count : ℕ) (n p : List ℕ) → count ≤ 65536 → length n ≡ t + count → length p ≡ t + count
    → ((k : ℕ) → k < length n → get_or n k 0 ≡ k) → ((k : ℕ) → k < length p → get_or p k 0 ≡ k)
    → IsLinked t n p (replicate t None) (replicate count [])
linked_empty t count n p few ln lp nexts prevs =
    let long : length (replicate {A = List ℕ} count []) ≡ count = length-replicate {A = List ℕ} count [] in
    record {
      few = omega (arith, few, long);
      nodes = omega (arith, ln, long);
      nodes_back = omega (arith, lp, long);
      marks = length-replicate {A = Option ℕ} t None;
      chained = λ k below.
          subst (λ q. IsChain n p (t + k) q (t + k)) (sym (empty_at count k))
          (nexts (t + k) (omega (arith, ln, below, long)), prevs (t + k) (omega (arith, lp, below, long)));
      marked = λ k x is. absurd (subst (IsAmong x) (empty_at count k) is);
      listed = λ k x is. absurd (no_mark t x k is);
      counted = λ k. ap length (empty_at count k) ∙ sym (ap length (none_marked k t)) ∙ length-filter (is_place k) (replicate t None);
      apart = λ k. subst IsApart (sym (empty_at count k)) tt;
    }

pub empty_links : (t count : ℕ) (n p : List ℕ) (pl : List (Option ℕ)) → count ≤ 65536 → length n ≡ t + count → length p ≡ t + count
    → ((k : ℕ) → k < length n → get_or n k 0 ≡ k) → ((k : ℕ) → k < length p → get_or p k 0 ≡ k) → pl ≡ replicate t None
    → IsLinked t n p pl (queues_of t n) × (queues_of t n ≡ replicate count [])
empty_links t count n p pl few ln lp nexts prevs e = rw e (again t n p (replicate t None) (replicate count []) (linked_empty t count n p few ln lp nexts prevs))

-- ---- taking out

pub neighbours_below : (t : ℕ) (n p : List ℕ) (pl : List (Option ℕ)) (qs : List (List ℕ)) → IsLinked t n p pl qs → (x before after : ℕ) → x < t → is_queued qs x ≡ true
    → before ≡ get_or p x before → after ≡ get_or n x after → (before < length n) × (after < length p)
neighbours_below t n p pl qs h x before after below is eb ea =
    let found = mark_of_queued t n p pl qs h x is in
    let k = found.0 in
    let chain = h.chained k found.1 in
    let eb0 = at_zero p x before (omega (arith, below, h.nodes_back)) eb in
    let ea0 = at_zero n x after (omega (arith, below, h.nodes)) ea in (
      (node_below t n p pl qs h k before found.1 (subst (IsNode t qs k) (sym eb0) (prev_among n p (t + k) (get_or qs k []) (t + k) x chain found.2))).0,
      (node_below t n p pl qs h k after found.1 (subst (IsNode t qs k) (sym ea0) (next_among n p (t + k) (get_or qs k []) (t + k) x chain found.2))).1,
    )

pub removed_links : (t : ℕ) (n p : List ℕ) (pl : List (Option ℕ)) (qs : List (List ℕ)) → IsLinked t n p pl qs → (x before after : ℕ) (n1 n' p1 p' : List ℕ) (pl1 pl' : List (Option ℕ))
    → x < t → is_queued qs x ≡ true → before ≡ get_or p x before → after ≡ get_or n x after → n1 ≡ n → p1 ≡ p → pl1 ≡ pl
    → n' ≡ set n1 before after → p' ≡ set p1 after before → pl' ≡ set pl1 x None
    → IsLinked t n' p' pl' (queues_of t n') × (queues_of t n' ≡ map (without x) qs)
removed_links t n p pl qs h x before after n1 n' p1 p' pl1 pl' below is eb ea e1 e2 e3 en ep em =
    let found = mark_of_queued t n p pl qs h x is in
    let eb0 = at_zero p x before (omega (arith, below, h.nodes_back)) eb in
    let ea0 = at_zero n x after (omega (arith, below, h.nodes)) ea in
    rw (en, ep, em, e1, e2, e3) (again t (set n before after) (set p after before) (set pl x None) (map (without x) qs) (linked_without t n p pl qs found.0 x before after h found.1 found.2 eb0 ea0))

occupied_among : (x : ℕ) (q : List ℕ) → IsAmong x q → occupied q ≡ 1
occupied_among x [] is = absurd is
occupied_among x (y ∷ ys) is = refl

occupied_long : (q : List ℕ) → (length q ≡ 0 → ⊥) → occupied q ≡ 1
occupied_long [] long = absurd (long refl)
occupied_long (y ∷ ys) long = refl

-- the queues that a thread wasn't in are as they were
others_stay : (t : ℕ) (n p : List ℕ) (pl : List (Option ℕ)) (qs : List (List ℕ)) → IsLinked t n p pl qs → (k x : ℕ) → k < length qs → IsAmong x (get_or qs k [])
    → (j : ℕ) → (j ≡ k → ⊥) → occupied (get_or (map (without x) qs) j []) ≡ occupied (get_or qs j [])
others_stay t n p pl qs h k x inside is j e =
    ap occupied (ap (λ w. get_or w j []) (without_is_set t n p pl qs k x h inside is) ∙ get_or-set_other qs k j (without x (get_or qs k [])) [] e)

-- where both neighbours of the thread are one, its queue is empty without it
pub emptied_some : (t : ℕ) (n p : List ℕ) (pl : List (Option ℕ)) (qs : List (List ℕ)) → IsLinked t n p pl qs → (x before after : ℕ) (o : Option ℕ)
    → x < t → is_queued qs x ≡ true → before ≡ get_or p x before → after ≡ get_or n x after → o ≡ get_or pl x o → before ≡ after
    → IsEmptied o qs (map (without x) qs)
emptied_some t n p pl qs h x before after o below is eb ea eo same =
    let found = mark_of_queued t n p pl qs h x is in
    let k = found.0 in
    let eb0 = at_zero p x before (omega (arith, below, h.nodes_back)) eb in
    let ea0 = at_zero n x after (omega (arith, below, h.nodes)) ea in
    let no_head : (IsAmong (t + k) (get_or qs k []) → ⊥) = λ in_it. omega (arith, thread_below t n p pl qs h k (t + k) in_it) in
    let mark : o ≡ Some k = eo ∙ get_or_from_slice_get pl x (Some k) o found.3 in
    let empty = alone n p (t + k) (get_or qs k []) x (h.chained k found.1) found.2 no_head (h.apart k) (sym eb0 ∙ same ∙ ea0) in
    rw mark (
      found.1,
      get_or-map (without x) qs k [] [] found.1 ∙ empty,
      λ j e. others_stay t n p pl qs h k x found.1 found.2 j e,
    )

pub emptied_none : (t : ℕ) (n p : List ℕ) (pl : List (Option ℕ)) (qs : List (List ℕ)) → IsLinked t n p pl qs → (x before after : ℕ)
    → x < t → is_queued qs x ≡ true → before ≡ get_or p x before → after ≡ get_or n x after → (before ≡ after → ⊥)
    → IsEmptied None qs (map (without x) qs)
emptied_none t n p pl qs h x before after below is eb ea differ =
    let found = mark_of_queued t n p pl qs h x is in
    let k = found.0 in
    let q = get_or qs k [] in
    let eb0 = at_zero p x before (omega (arith, below, h.nodes_back)) eb in
    let ea0 = at_zero n x after (omega (arith, below, h.nodes)) ea in
    let less = length_without x q (h.apart k) found.2 in
    let some_left : (length (without x q) ≡ 0 → ⊥) = λ none_left.
    differ (eb0 ∙ one_neighbour n p (t + k) q x (h.chained k found.1) found.2 (omega (arith, less, none_left)) ∙ sym ea0) in
    λ j. elim (cases_eq j k) [
      | inl e ↦
          ap (λ i. occupied (get_or (map (without x) qs) i [])) e ∙ ap occupied (get_or-map (without x) qs k [] [] found.1)
          ∙ occupied_long (without x q) some_left ∙ sym (occupied_among x q found.2) ∙ ap (λ i. occupied (get_or qs i [])) (sym e)
      | inr e ↦ others_stay t n p pl qs h k x found.1 found.2 j e
    ]
