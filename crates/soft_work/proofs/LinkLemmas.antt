-- What the links and marks hold, after the works have changed.
use Rattle.std.proofs.Common.{ℕ, ◌≡◌, ◌<◌, Bool, true, false, cond, List, [], ◌∷◌, ◌++◌, length, drop, Some, slice_get, get_or, set, sym, refl, ap, ◌∙◌, subst, inl, inr, ◌⊎◌, arith, length-set, get_or-set_same, get_or-set_other}
use Rattle.std.proofs.lemmas.List.{length_push, get_or_past, get_or_read}
use Rattle.std.proofs.lemmas.List.Sums.{count_by-le-length, sum_by-set}
use Rattle.std.proofs.lemmas.Bool.{false≢true, cases_eq, cases_lt}
use Rattle.rt_base.specs.Chains.{is_among, without, IsAmong}
use Rattle.soft_work.specs.WorkLists.{WorkList, IsSound}
use Rattle.soft_work.specs.Links.{ring_of, IsLinked}
use Rattle.rt_base.proofs.Chains.{among_from_true, true_from_among, among_push, among_pushed_old, among_pushed_new, apart_push, without_cons_same, without_absent, among_without, among_kept, apart_without, length_without, walk_is, last_among, prev_among, next_among, IsPutIn, IsTakenOut, chain_pushed, chain_without}

same_test : (a b : Bool) → (a ≡ true → b ≡ true) → (b ≡ true → a ≡ true) → a ≡ b
same_test true true f g = refl
same_test true false f g = absurd (false≢true (f refl))
same_test false true f g = absurd (false≢true (g refl))
same_test false false f g = refl

not_among : (x : ℕ) (xs : List ℕ) → is_among x xs ≡ false → IsAmong x xs → ⊥
not_among x xs e is = false≢true (sym e ∙ true_from_among x xs is)

marked_below : (m : List Bool) (x : ℕ) → get_or m x false ≡ true → x < length m
marked_below m x e =
    elim (cases_lt x (length m)) [
      | inl less ↦ less
      | inr more ↦ absurd (false≢true (sym (get_or_past m x false more) ∙ e))
    ]

-- who stands among the works is a timer
pub work_below : (t : ℕ) (n p : List ℕ) (m : List Bool) (xs : List ℕ) → IsLinked t n p m xs → (x : ℕ) → IsAmong x xs → x < t
work_below t n p m xs h x is = omega (arith, marked_below m x (h.marked x ∙ true_from_among x xs is), h.marks)

-- the walk reads the works back
pub works_are : (t : ℕ) (n p : List ℕ) (m : List Bool) (xs : List ℕ) → IsLinked t n p m xs → ring_of t n ≡ xs
works_are t n p m xs h =
    walk_is t t n p t xs t h.chained (omega arith) (work_below t n p m xs h)
    (omega (arith, h.counted, count_by-le-length (λ (mark : Bool). mark) m, h.marks))

-- links and marks that hold some works, as the walk reads them
pub read_back : (t : ℕ) (n p : List ℕ) (m : List Bool) (xs : List ℕ) → IsLinked t n p m xs → IsLinked t n p m (ring_of t n) × (ring_of t n ≡ xs)
read_back t n p m xs h = let same = works_are t n p m xs h in (subst (IsLinked t n p m) (sym same) h, same)

put_in : (n p : List ℕ) (before x after : ℕ) → before < length n → x < length n → after < length p → x < length p → (before ≡ x → ⊥) → (after ≡ x → ⊥)
    → IsPutIn n p (set (set n before x) x after) (set (set p after x) x before) before x after
put_in n p before x after b xn a xp bx ax = record {
  next_before = get_or-set_other (set n before x) x before after 0 bx ∙ get_or-set_same n before x 0 b;
  next_node = get_or-set_same (set n before x) x after 0 (omega (arith, xn, length-set n before x));
  prev_after = get_or-set_other (set p after x) x after before 0 ax ∙ get_or-set_same p after x 0 a;
  prev_node = get_or-set_same (set p after x) x before 0 (omega (arith, xp, length-set p after x));
  next_other = λ y yb yx. get_or-set_other (set n before x) x y after 0 yx ∙ get_or-set_other n before y x 0 yb;
  prev_other = λ y ya yx. get_or-set_other (set p after x) x y before 0 yx ∙ get_or-set_other p after y x 0 ya;
}

taken_out : (n p : List ℕ) (before after : ℕ) → before < length n → after < length p → IsTakenOut n p (set n before after) (set p after before) before after
taken_out n p before after b a = record {
  next_before = get_or-set_same n before after 0 b;
  prev_after = get_or-set_same p after before 0 a;
  next_other = λ y yb. get_or-set_other n before y after 0 yb;
  prev_other = λ y ya. get_or-set_other p after y before 0 ya;
}

-- the last of the works, or the root
pub last_below : (t : ℕ) (n p : List ℕ) (m : List Bool) (xs : List ℕ) → IsLinked t n p m xs → (last : ℕ) → last ≡ get_or p t 0 → (last ≡ t) ⊎ IsAmong last xs
last_below t n p m xs h last e =
    elim (last_among n p t xs t h.chained) [
      | inl ends ↦ inl (e ∙ ends)
      | inr goes ↦ inr (subst (λ w. IsAmong w xs) (sym e) goes)
    ]

-- a number that is the root or a timer has links
pub node_below : (t : ℕ) (n p : List ℕ) (m : List Bool) (xs : List ℕ) → IsLinked t n p m xs → (y : ℕ) → (y ≡ t) ⊎ IsAmong y xs → (y < length n) × (y < length p)
node_below t n p m xs h y (inl a) = (omega (arith, a, h.nodes), omega (arith, a, h.nodes_back))
node_below t n p m xs h y (inr a) = let low = work_below t n p m xs h y a in (omega (arith, low, h.nodes), omega (arith, low, h.nodes_back))

marked_pushed : (m : List Bool) (xs : List ℕ) (x : ℕ) → x < length m → ((y : ℕ) → get_or m y false ≡ is_among y xs)
    → (y : ℕ) → get_or (set m x true) y false ≡ is_among y (xs ++ x ∷ [])
marked_pushed m xs x below were y =
    elim (cases_eq y x) [
      | inl e ↦
          ap (λ i. get_or (set m x true) i false) e ∙ get_or-set_same m x true false below
          ∙ sym (ap (λ i. is_among i (xs ++ x ∷ [])) e ∙ true_from_among x (xs ++ x ∷ []) (among_pushed_new x xs))
      | inr e ↦
          get_or-set_other m x y true false e ∙ were y
          ∙ same_test (is_among y xs) (is_among y (xs ++ x ∷ []))
          (λ is. true_from_among y (xs ++ x ∷ []) (among_pushed_old y x xs (among_from_true y xs is)))
          (λ is. elim (among_push y x xs (among_from_true y (xs ++ x ∷ []) is)) [ inl same ↦ absurd (e same) | inr was ↦ true_from_among y xs was ])
    ]

marked_without : (m : List Bool) (xs : List ℕ) (x : ℕ) → x < length m → ((y : ℕ) → get_or m y false ≡ is_among y xs)
    → (y : ℕ) → get_or (set m x false) y false ≡ is_among y (without x xs)
marked_without m xs x below were y =
    elim (cases_eq y x) [
      | inl e ↦
          ap (λ i. get_or (set m x false) i false) e ∙ get_or-set_same m x false false below
          ∙ same_test false (is_among y (without x xs)) (λ is. absurd (false≢true is))
          (λ is. absurd ((among_without y x xs (among_from_true y (without x xs) is)).1 e))
      | inr e ↦
          get_or-set_other m x y false false e ∙ were y
          ∙ same_test (is_among y xs) (is_among y (without x xs))
          (λ is. true_from_among y (without x xs) (among_kept y x xs (among_from_true y xs is) e))
          (λ is. true_from_among y xs (among_without y x xs (among_from_true y (without x xs) is)).0)
    ]

-- the new links and marks hold the works with the timer at their end
pub linked_pushed : (t : ℕ) (n p : List ℕ) (m : List Bool) (xs : List ℕ) (x last : ℕ) → IsLinked t n p m xs
    → x < t → is_among x xs ≡ false → last ≡ get_or p t 0
    → IsLinked t (set (set n last x) x t) (set (set p t x) x last) (set m x true) (xs ++ x ∷ [])
linked_pushed t n p m xs x last h below absent e =
    let nb : (last ≡ t) ⊎ IsAmong last xs = last_below t n p m xs h last e in
    let b = node_below t n p m xs h last nb in
    let no_root : (IsAmong t xs → ⊥) = λ again. omega (arith, work_below t n p m xs h t again) in
    let no_x : (IsAmong x xs → ⊥) = not_among x xs absent in
    let root_other : (t ≡ x → ⊥) = λ same. omega (arith, same, below) in
    let last_other : (last ≡ x → ⊥) = λ same. elim nb [ inl root ↦ omega (arith, root, same, below) | inr is ↦ no_x (subst (λ w. IsAmong w xs) same is) ] in
    let put = put_in n p last x t b.0 (omega (arith, below, h.nodes)) (omega (arith, h.nodes_back)) (omega (arith, below, h.nodes_back)) last_other root_other in
    let within : x < length m = omega (arith, below, h.marks) in
    record {
      nodes = length-set (set n last x) x t ∙ length-set n last x ∙ h.nodes;
      nodes_back = length-set (set p t x) x last ∙ length-set p t x ∙ h.nodes_back;
      marks = length-set m x true ∙ h.marks;
      chained = chain_pushed n p (set (set n last x) x t) (set (set p t x) x last) t xs t x last h.chained e put h.apart no_root no_root no_x root_other;
      marked = marked_pushed m xs x within h.marked;
      counted =
          let was : ◌≡◌ {A = ℕ} (cond (get_or m x false) 1 0) 0 = ap (λ (b : Bool). cond b 1 0) (h.marked x ∙ absent) in
          omega (arith, length_push xs x, h.counted, sum_by-set (λ (mark : Bool). cond mark 1 0) m x true false within, was);
      apart = apart_push x xs h.apart no_x;
    }

-- a timer among the works has neighbours
pub neighbours_below : (t : ℕ) (n p : List ℕ) (m : List Bool) (xs : List ℕ) (x before after : ℕ) → IsLinked t n p m xs → IsAmong x xs
    → before ≡ get_or p x 0 → after ≡ get_or n x 0 → (before < length n) × (after < length p)
neighbours_below t n p m xs x before after h is eb ea =
    let nb : (before ≡ t) ⊎ IsAmong before xs = subst (λ w. (w ≡ t) ⊎ IsAmong w xs) (sym eb) (prev_among n p t xs t x h.chained is) in
    let na : (after ≡ t) ⊎ IsAmong after xs = subst (λ w. (w ≡ t) ⊎ IsAmong w xs) (sym ea) (next_among n p t xs t x h.chained is) in
    ((node_below t n p m xs h before nb).0, (node_below t n p m xs h after na).1)

-- the new links and marks hold the works without the timer
pub linked_without : (t : ℕ) (n p : List ℕ) (m : List Bool) (xs : List ℕ) (x before after : ℕ) → IsLinked t n p m xs → IsAmong x xs
    → before ≡ get_or p x 0 → after ≡ get_or n x 0
    → IsLinked t (set n before after) (set p after before) (set m x false) (without x xs)
linked_without t n p m xs x before after h is eb ea =
    let both = neighbours_below t n p m xs x before after h is eb ea in
    let no_root : (IsAmong t xs → ⊥) = λ again. omega (arith, work_below t n p m xs h t again) in
    let taken = taken_out n p before after both.0 both.1 in
    let within : x < length m = omega (arith, work_below t n p m xs h x is, h.marks) in
    record {
      nodes = length-set n before after ∙ h.nodes;
      nodes_back = length-set p after before ∙ h.nodes_back;
      marks = length-set m x false ∙ h.marks;
      chained = chain_without n p (set n before after) (set p after before) t xs t x before after h.chained is eb ea taken h.apart no_root no_root;
      marked = marked_without m xs x within h.marked;
      counted =
          let was : ◌≡◌ {A = ℕ} (cond (get_or m x false) 1 0) 1 = ap (λ (b : Bool). cond b 1 0) (h.marked x ∙ true_from_among x xs is) in
          omega (arith, length_without x xs h.apart is, h.counted, sum_by-set (λ (mark : Bool). cond mark 1 0) m x false false within, was);
      apart = apart_without x xs h.apart;
    }

-- what stands behind the root
pub record IsFirst (t first : ℕ) (xs : List ℕ) : Type 0 where
  pub among : is_among first xs ≡ true
  pub first_is : Some first ≡ slice_get xs 0
  pub rest_is : without first xs ≡ drop 1 xs
  pub below : first < t

pub first_work : (t : ℕ) (n p : List ℕ) (m : List Bool) (xs : List ℕ) (first : ℕ) → IsLinked t n p m xs → first ≡ get_or n t 0 → (first ≡ t → ⊥) → IsFirst t first xs
first_work t n p m [] first h e other = absurd (other (e ∙ h.chained.0))
first_work t n p m (x ∷ xs) first h e other =
    let same : first ≡ x = e ∙ h.chained.0 in
    record {
      among = true_from_among first (x ∷ xs) (inl same);
      first_is = ap Some same;
      rest_is = without_cons_same first x xs same ∙ without_absent first xs (λ later. h.apart.0 (subst (λ w. IsAmong w xs) same later));
      below = work_below t n p m (x ∷ xs) h first (inl same);
    }

-- ---- as the code uses it

pub is_sound : (t : ℕ) (n p : List ℕ) (m : List Bool) (xs : List ℕ) (v : WorkList) → IsLinked t n p m xs → record { timers = t; works = xs } ≡ v → IsSound v
is_sound t n p m xs v h e = subst IsSound e (record { apart = h.apart; below = work_below t n p m xs h })

-- what an edit of the links leaves, and what contracts see of it
pub record IsNow (t : ℕ) (n p : List ℕ) (m : List Bool) (v : WorkList) : Type 0 where
  pub linked : IsLinked t n p m (ring_of t n)
  pub seen : record { timers = t; works = ring_of t n } ≡ v

now : (t : ℕ) (n p : List ℕ) (m : List Bool) (xs : List ℕ) → IsLinked t n p m xs → IsNow t n p m (record { timers = t; works = xs })
now t n p m xs h =
    let back = read_back t n p m xs h in
    record { linked = back.0; seen = ap (λ (ys : List ℕ). record { timers = t; works = ys }) back.1 }

read_number : (xs : List ℕ) (i x : ℕ) → i < length xs → x ≡ get_or xs i x → x ≡ get_or xs i 0
read_number xs i x below e = get_or_read xs i x below e 0

-- a timer was put at the end
pub put_below : (t : ℕ) (n p : List ℕ) (m : List Bool) (xs : List ℕ) (last : ℕ) → IsLinked t n p m xs → last ≡ get_or p t last → last < length n
put_below t n p m xs last h e =
    (node_below t n p m xs h last (last_below t n p m xs h last (read_number p t last (omega (arith, h.nodes_back)) e))).0

pub put_now : (t : ℕ) (n p : List ℕ) (m : List Bool) (xs : List ℕ) (x last : ℕ) (v : WorkList) → IsLinked t n p m xs → record { timers = t; works = xs } ≡ v
    → x < v.timers → is_among x v.works ≡ false → last ≡ get_or p t last
    → IsNow t (set (set n last x) x t) (set (set p t x) x last) (set m x true) (record v { works = v.works ++ x ∷ [] })
put_now t n p m xs x last v h e below absent read =
    subst (λ (w : WorkList). x < w.timers → is_among x w.works ≡ false → IsNow t (set (set n last x) x t) (set (set p t x) x last) (set m x true) (record w { works = w.works ++ x ∷ [] })) e
    (λ low off. now t (set (set n last x) x t) (set (set p t x) x last) (set m x true) (xs ++ x ∷ [])
    (linked_pushed t n p m xs x last h low off (read_number p t last (omega (arith, h.nodes_back)) read)))
    below absent

-- a timer was taken out
pub unlink_below : (t : ℕ) (n p : List ℕ) (m : List Bool) (xs : List ℕ) (x : ℕ) (v : WorkList) → IsLinked t n p m xs → record { timers = t; works = xs } ≡ v
    → is_among x v.works ≡ true → (x < length n) × (x < length p) × (x < length m)
unlink_below t n p m xs x v h e is =
    let among : is_among x xs ≡ true = ap (λ (w : WorkList). is_among x w.works) e ∙ is in
    let low = work_below t n p m xs h x (among_from_true x xs among) in
    (omega (arith, low, h.nodes), omega (arith, low, h.nodes_back), omega (arith, low, h.marks))

pub unlink_neighbours : (t : ℕ) (n p : List ℕ) (m : List Bool) (xs : List ℕ) (x before after : ℕ) (v : WorkList) → IsLinked t n p m xs → record { timers = t; works = xs } ≡ v
    → is_among x v.works ≡ true → before ≡ get_or p x before → after ≡ get_or n x after → (before < length n) × (after < length p)
unlink_neighbours t n p m xs x before after v h e is eb ea =
    let low = unlink_below t n p m xs x v h e is in
    neighbours_below t n p m xs x before after h (among_from_true x xs (ap (λ (w : WorkList). is_among x w.works) e ∙ is))
    (read_number p x before low.1 eb) (read_number n x after low.0 ea)

pub unlink_now : (t : ℕ) (n p : List ℕ) (m : List Bool) (xs : List ℕ) (x before after : ℕ) (v : WorkList) → IsLinked t n p m xs → record { timers = t; works = xs } ≡ v
    → is_among x v.works ≡ true → before ≡ get_or p x before → after ≡ get_or n x after
    → IsNow t (set n before after) (set p after before) (set m x false) (record v { works = without x v.works })
unlink_now t n p m xs x before after v h e is eb ea =
    let low = unlink_below t n p m xs x v h e is in
    subst (λ (w : WorkList). IsNow t (set n before after) (set p after before) (set m x false) (record w { works = without x w.works })) e
    (now t (set n before after) (set p after before) (set m x false) (without x xs)
    (linked_without t n p m xs x before after h (among_from_true x xs (ap (λ (w : WorkList). is_among x w.works) e ∙ is))
    (read_number p x before low.1 eb) (read_number n x after low.0 ea)))

-- nothing is lost where the timer isn't there
pub nothing_dropped : (x : ℕ) (v : WorkList) → is_among x v.works ≡ false → v ≡ record v { works = without x v.works }
nothing_dropped x v off = ap (λ (ys : List ℕ). record v { works = ys }) (sym (without_absent x v.works (not_among x v.works off)))

-- the first of the works, as contracts see them
pub first_seen : (t : ℕ) (n p : List ℕ) (m : List Bool) (xs : List ℕ) (first : ℕ) (v : WorkList) → IsLinked t n p m xs → record { timers = t; works = xs } ≡ v
    → first ≡ get_or n t first → (first ≡ t → ⊥) → IsFirst v.timers first v.works
first_seen t n p m xs first v h e read other =
    subst (λ (w : WorkList). IsFirst w.timers first w.works) e
    (first_work t n p m xs first h (read_number n t first (omega (arith, h.nodes)) read) other)
