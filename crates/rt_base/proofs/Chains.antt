-- Chains of linked nodes, and what an edit of the links makes of them.
use Rattle.std.proofs.Common.{ℕ, ◌≡◌, ◌+◌, ◌<◌, ◌≤◌, zero, suc, true, eqb, ltb, not, List, [], ◌∷◌, ◌++◌, length, slice_index, sym, refl, ap, ◌∙◌, subst, inl, inr, ◌⊎◌, arith}
use Rattle.std.proofs.lemmas.Bool.{false≢true, or_cases, or_left, or_right, eqb-true, eq-eqb, ne_eqb, cond-true, cond-false, lt-ltb, le-ltb, cases_eq}
use Rattle.rt_base.specs.Chains.{walk, is_among, without, IsChain, IsAmong, IsApart}

pub among_from_true : (x : ℕ) (xs : List ℕ) → is_among x xs ≡ true → IsAmong x xs
among_from_true x [] h = absurd (false≢true h)
among_from_true x (y ∷ ys) h =
    elim (or_cases (eqb y x) (is_among x ys) h) [
      | inl here ↦ inl (sym (eqb-true y x here))
      | inr later ↦ inr (among_from_true x ys later)
    ]

pub true_from_among : (x : ℕ) (xs : List ℕ) → IsAmong x xs → is_among x xs ≡ true
true_from_among x [] h = absurd h
true_from_among x (y ∷ ys) (inl here) = or_left (eqb y x) (is_among x ys) (eq-eqb y x (sym here))
true_from_among x (y ∷ ys) (inr later) = or_right (eqb y x) (is_among x ys) (true_from_among x ys later)

pub among_push : (y x : ℕ) (xs : List ℕ) → IsAmong y (xs ++ x ∷ []) → (y ≡ x) ⊎ IsAmong y xs
among_push y x [] (inl here) = inl here
among_push y x [] (inr never) = absurd never
among_push y x (z ∷ zs) (inl here) = inr (inl here)
among_push y x (z ∷ zs) (inr later) =
    elim (among_push y x zs later) [ inl same ↦ inl same | inr in_zs ↦ inr (inr in_zs) ]

pub among_pushed_old : (y x : ℕ) (xs : List ℕ) → IsAmong y xs → IsAmong y (xs ++ x ∷ [])
among_pushed_old y x [] h = absurd h
among_pushed_old y x (z ∷ zs) (inl here) = inl here
among_pushed_old y x (z ∷ zs) (inr later) = inr (among_pushed_old y x zs later)

pub among_pushed_new : (x : ℕ) (xs : List ℕ) → IsAmong x (xs ++ x ∷ [])
among_pushed_new x [] = inl refl
among_pushed_new x (z ∷ zs) = inr (among_pushed_new x zs)

pub apart_push : (x : ℕ) (xs : List ℕ) → IsApart xs → (IsAmong x xs → ⊥) → IsApart (xs ++ x ∷ [])
apart_push x [] h new = (λ never. never, tt)
apart_push x (z ∷ zs) h new = (
  λ again. elim (among_push z x zs again) [
    | inl same ↦ new (inl (sym same))
    | inr in_zs ↦ h.0 in_zs
  ],
  apart_push x zs h.1 (λ later. new (inr later)),
)

-- what stays without a number
pub without_cons_same : (x y : ℕ) (ys : List ℕ) → x ≡ y → without x (y ∷ ys) ≡ without x ys
without_cons_same x y ys same = cond-false (not (eqb y x)) (y ∷ without x ys) (without x ys) (ap not (eq-eqb y x (sym same)))

without_cons_other : (x y : ℕ) (ys : List ℕ) → (x ≡ y → ⊥) → without x (y ∷ ys) ≡ y ∷ without x ys
without_cons_other x y ys other = cond-true (not (eqb y x)) (y ∷ without x ys) (without x ys) (ap not (ne_eqb y x (λ e. other (sym e))))

pub without_absent : (x : ℕ) (xs : List ℕ) → (IsAmong x xs → ⊥) → without x xs ≡ xs
without_absent x [] h = refl
without_absent x (y ∷ ys) h =
    without_cons_other x y ys (λ e. h (inl e)) ∙ ap (λ r. y ∷ r) (without_absent x ys (λ later. h (inr later)))

pub among_without : (y x : ℕ) (xs : List ℕ) → IsAmong y (without x xs) → IsAmong y xs × (y ≡ x → ⊥)
among_without y x [] h = absurd h
among_without y x (z ∷ zs) h =
    elim (cases_eq x z) [
      | inl same ↦
          let less = among_without y x zs (subst (IsAmong y) (without_cons_same x z zs same) h) in
          (inr less.0, less.1)
      | inr other ↦
          let more : IsAmong y (z ∷ without x zs) = subst (IsAmong y) (without_cons_other x z zs other) h in
          elim more [
            | inl here ↦ (inl here, λ e. other (sym e ∙ here))
            | inr later ↦ let less = among_without y x zs later in (inr less.0, less.1)
          ]
    ]

pub among_kept : (y x : ℕ) (xs : List ℕ) → IsAmong y xs → (y ≡ x → ⊥) → IsAmong y (without x xs)
among_kept y x [] h other = absurd h
among_kept y x (z ∷ zs) h other =
    elim (cases_eq x z) [
      | inl same ↦
          subst (IsAmong y) (sym (without_cons_same x z zs same))
          (elim h [ inl here ↦ absurd (other (here ∙ sym same)) | inr later ↦ among_kept y x zs later other ])
      | inr apart ↦
          subst (IsAmong y) (sym (without_cons_other x z zs apart))
          (elim h as (λ _. IsAmong y (z ∷ without x zs)) [ inl here ↦ inl here | inr later ↦ inr (among_kept y x zs later other) ])
    ]

pub apart_without : (x : ℕ) (xs : List ℕ) → IsApart xs → IsApart (without x xs)
apart_without x [] h = tt
apart_without x (z ∷ zs) h =
    elim (cases_eq x z) [
      | inl same ↦ subst IsApart (sym (without_cons_same x z zs same)) (apart_without x zs h.1)
      | inr other ↦
          let both : IsApart (z ∷ without x zs) = (λ again. h.0 (among_without z x zs again).0, apart_without x zs h.1) in
          subst IsApart (sym (without_cons_other x z zs other)) both
    ]

pub length_without : (x : ℕ) (xs : List ℕ) → IsApart xs → IsAmong x xs → length (without x xs) + 1 ≡ length xs
length_without x [] h is = absurd is
length_without x (z ∷ zs) h is =
    elim (cases_eq x z) [
      | inl same ↦
          let less = without_absent x zs (λ later. h.0 (subst (λ w. IsAmong w zs) same later)) in
          omega (arith, ap length (without_cons_same x z zs same ∙ less))
      | inr other ↦
          let later : IsAmong x zs = elim is [ inl here ↦ absurd (other here) | inr rest ↦ rest ] in
          omega (arith, ap length (without_cons_other x z zs other), length_without x zs h.1 later)
    ]

-- a chain is read by the links of its nodes alone
pub chain_kept : (n p n' p' : List ℕ) (from : ℕ) (xs : List ℕ) (to : ℕ) → IsChain n p from xs to
    → slice_index n' from ≡ slice_index n from
    → ((y : ℕ) → IsAmong y xs → slice_index n' y ≡ slice_index n y)
    → ((y : ℕ) → IsAmong y xs → slice_index p' y ≡ slice_index p y)
    → slice_index p' to ≡ slice_index p to
    → IsChain n' p' from xs to
chain_kept n p n' p' from [] to c first nexts prevs last = (first ∙ c.0, last ∙ c.1)
chain_kept n p n' p' from (x ∷ xs) to c first nexts prevs last = (
  first ∙ c.0,
  prevs x (inl refl) ∙ c.1,
  chain_kept n p n' p' x xs to c.2 (nexts x (inl refl)) (λ y h. nexts y (inr h)) (λ y h. prevs y (inr h)) last,
)

-- the walk over a chain gives its nodes
pub walk_is : (fuel bound : ℕ) (n p : List ℕ) (from : ℕ) (xs : List ℕ) (to : ℕ) → IsChain n p from xs to → bound ≤ to
    → ((y : ℕ) → IsAmong y xs → y < bound) → length xs ≤ fuel → walk fuel bound n (slice_index n from) ≡ xs
walk_is zero bound n p from [] to c high low short = refl
walk_is zero bound n p from (x ∷ xs) to c high low short = absurd (omega (arith, short))
walk_is (suc fuel) bound n p from [] to c high low short =
    ap (λ node. walk (suc fuel) bound n node) c.0
    ∙ cond-false (ltb to bound) (to ∷ walk fuel bound n (slice_index n to)) [] (le-ltb to bound high)
walk_is (suc fuel) bound n p from (x ∷ xs) to c high low short =
    ap (λ node. walk (suc fuel) bound n node) c.0
    ∙ cond-true (ltb x bound) (x ∷ walk fuel bound n (slice_index n x)) [] (lt-ltb x bound (low x (inl refl)))
    ∙ ap (λ r. x ∷ r) (walk_is fuel bound n p x xs to c.2 high (λ y h. low y (inr h)) (omega (arith, short)))

-- the neighbours of a chain's nodes are in it, or its ends
pub last_among : (n p : List ℕ) (from : ℕ) (xs : List ℕ) (to : ℕ) → IsChain n p from xs to → (slice_index p to ≡ from) ⊎ IsAmong (slice_index p to) xs
last_among n p from [] to c = inl c.1
last_among n p from (x ∷ xs) to c = inr (last_among n p x xs to c.2)

pub first_among : (n p : List ℕ) (from : ℕ) (xs : List ℕ) (to : ℕ) → IsChain n p from xs to → (slice_index n from ≡ to) ⊎ IsAmong (slice_index n from) xs
first_among n p from [] to c = inl c.0
first_among n p from (x ∷ xs) to c = inr (inl c.0)

pub prev_among : (n p : List ℕ) (from : ℕ) (xs : List ℕ) (to x : ℕ) → IsChain n p from xs to → IsAmong x xs → (slice_index p x ≡ from) ⊎ IsAmong (slice_index p x) xs
prev_among n p from [] to x c is = absurd is
prev_among n p from (y ∷ ys) to x c (inl here) = inl (ap (slice_index p) here ∙ c.1)
prev_among n p from (y ∷ ys) to x c (inr later) = inr (prev_among n p y ys to x c.2 later)

pub next_among : (n p : List ℕ) (from : ℕ) (xs : List ℕ) (to x : ℕ) → IsChain n p from xs to → IsAmong x xs → (slice_index n x ≡ to) ⊎ IsAmong (slice_index n x) xs
next_among n p from [] to x c is = absurd is
next_among n p from (y ∷ ys) to x c (inl here) =
    elim (first_among n p y ys to c.2) [
      | inl ends ↦ inl (ap (slice_index n) here ∙ ends)
      | inr goes ↦ inr (inr (subst (λ w. IsAmong w ys) (ap (slice_index n) (sym here)) goes))
    ]
next_among n p from (y ∷ ys) to x c (inr later) =
    elim (next_among n p y ys to x c.2 later) [ inl ends ↦ inl ends | inr goes ↦ inr (inr goes) ]

-- a node was linked in between two
pub record IsPutIn (n p n' p' : List ℕ) (before node after : ℕ) : Type 0 where
  pub next_before : slice_index n' before ≡ node
  pub next_node : slice_index n' node ≡ after
  pub prev_after : slice_index p' after ≡ node
  pub prev_node : slice_index p' node ≡ before
  pub next_other : (y : ℕ) → (y ≡ before → ⊥) → (y ≡ node → ⊥) → slice_index n' y ≡ slice_index n y
  pub prev_other : (y : ℕ) → (y ≡ after → ⊥) → (y ≡ node → ⊥) → slice_index p' y ≡ slice_index p y

-- a node was linked out
pub record IsTakenOut (n p n' p' : List ℕ) (before after : ℕ) : Type 0 where
  pub next_before : slice_index n' before ≡ after
  pub prev_after : slice_index p' after ≡ before
  pub next_other : (y : ℕ) → (y ≡ before → ⊥) → slice_index n' y ≡ slice_index n y
  pub prev_other : (y : ℕ) → (y ≡ after → ⊥) → slice_index p' y ≡ slice_index p y

apart_from : (y x : ℕ) (xs : List ℕ) → IsAmong y xs → (IsAmong x xs → ⊥) → y ≡ x → ⊥
apart_from y x xs is not_in e = not_in (subst (λ w. IsAmong w xs) e is)

-- put in at the end
pub chain_pushed : (n p n' p' : List ℕ) (from : ℕ) (xs : List ℕ) (to x before : ℕ) → IsChain n p from xs to → before ≡ slice_index p to
    → IsPutIn n p n' p' before x to → IsApart xs → (IsAmong from xs → ⊥) → (IsAmong to xs → ⊥) → (IsAmong x xs → ⊥) → (from ≡ x → ⊥)
    → IsChain n' p' from (xs ++ x ∷ []) to
chain_pushed n p n' p' from [] to x before c e put apart no_from no_to no_x other =
    let same : before ≡ from = e ∙ c.1 in
    (subst (λ w. slice_index n' w ≡ x) same put.next_before, put.prev_node ∙ same, (put.next_node, put.prev_after))
chain_pushed n p n' p' from (z ∷ zs) to x before c e put apart no_from no_to no_x other =
    let last : IsAmong before (z ∷ zs) = subst (λ w. IsAmong w (z ∷ zs)) (sym e) (last_among n p z zs to c.2) in (
      put.next_other from (λ same. no_from (subst (λ w. IsAmong w (z ∷ zs)) (sym same) last)) other ∙ c.0,
      put.prev_other z (λ same. no_to (inl (sym same))) (λ same. no_x (inl (sym same))) ∙ c.1,
      chain_pushed n p n' p' z zs to x before c.2 e put apart.1 apart.0 (λ h. no_to (inr h)) (λ h. no_x (inr h)) (λ same. no_x (inl (sym same))),
    )

-- a node in place of the one that a chain came from
chain_after : (n p n' p' : List ℕ) (from x : ℕ) (xs : List ℕ) (to after : ℕ) → IsChain n p from xs to → after ≡ slice_index n from
    → slice_index n' x ≡ after → slice_index p' after ≡ x
    → ((y : ℕ) → IsAmong y xs → slice_index n' y ≡ slice_index n y)
    → ((y : ℕ) → (y ≡ after → ⊥) → IsAmong y xs ⊎ (y ≡ to) → slice_index p' y ≡ slice_index p y)
    → IsApart xs → (IsAmong to xs → ⊥)
    → IsChain n' p' x xs to
chain_after n p n' p' from x [] to after c e goes comes nexts prevs apart no_to =
    let same : after ≡ to = e ∙ c.0 in
    (goes ∙ same, subst (λ w. slice_index p' w ≡ x) same comes)
chain_after n p n' p' from x (z ∷ zs) to after c e goes comes nexts prevs apart no_to =
    let same : after ≡ z = e ∙ c.0 in (
      goes ∙ same,
      subst (λ w. slice_index p' w ≡ x) same comes,
      chain_kept n p n' p' z zs to c.2 (nexts z (inl refl)) (λ y h. nexts y (inr h))
          (λ y h. prevs y (λ is. apart.0 (subst (λ w. IsAmong w zs) (is ∙ same) h)) (inl (inr h)))
          (prevs to (λ is. no_to (inl (is ∙ same))) (inr refl)),
    )

-- put in at the front
pub chain_fronted : (n p n' p' : List ℕ) (from : ℕ) (xs : List ℕ) (to x after : ℕ) → IsChain n p from xs to → after ≡ slice_index n from
    → IsPutIn n p n' p' from x after → IsApart xs → (IsAmong from xs → ⊥) → (IsAmong to xs → ⊥) → (IsAmong x xs → ⊥) → (to ≡ x → ⊥)
    → IsChain n' p' from (x ∷ xs) to
chain_fronted n p n' p' from xs to x after c e put apart no_from no_to no_x other = (
  put.next_before,
  put.prev_node,
  chain_after n p n' p' from x xs to after c e put.next_node put.prev_after
      (λ y h. put.next_other y (apart_from y from xs h no_from) (apart_from y x xs h no_x))
      (λ y not_after h. put.prev_other y not_after (elim h [ inl is ↦ apart_from y x xs is no_x | inr is ↦ λ same. other (sym is ∙ same) ]))
      apart no_to,
)

-- taken out from anywhere
pub chain_without : (n p n' p' : List ℕ) (from : ℕ) (xs : List ℕ) (to x before after : ℕ) → IsChain n p from xs to → IsAmong x xs
    → before ≡ slice_index p x → after ≡ slice_index n x
    → IsTakenOut n p n' p' before after → IsApart xs → (IsAmong from xs → ⊥) → (IsAmong to xs → ⊥)
    → IsChain n' p' from (without x xs) to
chain_without n p n' p' from [] to x before after c is b a taken apart no_from no_to = absurd is
chain_without n p n' p' from (y ∷ ys) to x before after c is b a taken apart no_from no_to =
    elim (cases_eq x y) [
      | inl same ↦
          let rest : without x (y ∷ ys) ≡ ys = without_cons_same x y ys same ∙ without_absent x ys (λ later. apart.0 (subst (λ w. IsAmong w ys) same later)) in
          let came : before ≡ from = b ∙ ap (slice_index p) same ∙ c.1 in
          subst (λ w. IsChain n' p' from w to) (sym rest)
          (chain_after n p n' p' y from ys to after c.2 (a ∙ ap (slice_index n) same)
          (subst (λ w. slice_index n' w ≡ after) came taken.next_before) (taken.prev_after ∙ came)
          (λ z h. taken.next_other z (λ e. apart_from z from (y ∷ ys) (inr h) no_from (e ∙ came)))
          (λ z not_after h. taken.prev_other z not_after)
          apart.1 (λ h. no_to (inr h)))
      | inr other ↦
          let later : IsAmong x ys = elim is [ inl here ↦ absurd (other here) | inr rest ↦ rest ] in
          let far : (from ≡ before → ⊥) = λ e. no_from (subst (λ w. IsAmong w (y ∷ ys)) (sym (e ∙ b)) (prev_among n p y ys to x c.2 later)) in
          let near : (y ≡ after → ⊥) = λ e. elim (next_among n p y ys to x c.2 later) [
            | inl ends ↦ no_to (inl (sym (e ∙ a ∙ ends)))
            | inr goes ↦ apart.0 (subst (λ w. IsAmong w ys) (sym (e ∙ a)) goes)
          ] in
          let both : IsChain n' p' from (y ∷ without x ys) to = (
            taken.next_other from far ∙ c.0,
            taken.prev_other y near ∙ c.1,
            chain_without n p n' p' y ys to x before after c.2 later b a taken apart.1 apart.0 (λ h. no_to (inr h)),
          ) in
          subst (λ w. IsChain n' p' from w to) (sym (without_cons_other x y ys other)) both
    ]

-- in a chain between two ends that differ, no node has one neighbour alone
neighbours_differ : (n p : List ℕ) (from : ℕ) (xs : List ℕ) (to x : ℕ) → IsChain n p from xs to → IsAmong x xs → (IsAmong from xs → ⊥) → (IsAmong to xs → ⊥) → (from ≡ to → ⊥) → IsApart xs
    → slice_index p x ≡ slice_index n x → ⊥
neighbours_differ n p from [] to x c is no_from no_to ends apart same = is
neighbours_differ n p from (y ∷ ys) to x c (inl here) no_from no_to ends apart same =
    let one : slice_index n y ≡ from = ap (slice_index n) (sym here) ∙ sym same ∙ ap (slice_index p) here ∙ c.1 in
    elim (first_among n p y ys to c.2) [
      | inl last ↦ ends (sym one ∙ last)
      | inr goes ↦ no_from (inr (subst (λ w. IsAmong w ys) one goes))
    ]
neighbours_differ n p from (y ∷ ys) to x c (inr later) no_from no_to ends apart same =
    neighbours_differ n p y ys to x c.2 later apart.0 (λ h. no_to (inr h)) (λ e. no_to (inl (sym e))) apart.1 same

-- in a ring a node whose neighbours are one is alone
pub alone : (n p : List ℕ) (head : ℕ) (xs : List ℕ) (x : ℕ) → IsChain n p head xs head → IsAmong x xs → (IsAmong head xs → ⊥) → IsApart xs
    → slice_index p x ≡ slice_index n x → without x xs ≡ []
alone n p head [] x c is no_head apart same = refl
alone n p head (y ∷ []) x c (inl here) no_head apart same = without_cons_same x y [] here
alone n p head (y ∷ z ∷ zs) x c (inl here) no_head apart same =
    let one : slice_index n y ≡ head = ap (slice_index n) (sym here) ∙ sym same ∙ ap (slice_index p) here ∙ c.1 in
    absurd (no_head (inr (inl (sym one ∙ c.2.0))))
alone n p head (y ∷ ys) x c (inr later) no_head apart same =
    absurd (neighbours_differ n p y ys head x c.2 later apart.0 (λ h. no_head (inr h)) (λ e. no_head (inl (sym e))) apart.1 same)

-- and one that is alone has one neighbour
pub one_neighbour : (n p : List ℕ) (head : ℕ) (xs : List ℕ) (x : ℕ) → IsChain n p head xs head → IsAmong x xs → length xs ≡ 1 → slice_index p x ≡ slice_index n x
one_neighbour n p head [] x c is one = absurd is
one_neighbour n p head (y ∷ []) x c (inl here) one = ap (slice_index p) here ∙ c.1 ∙ sym c.2.0 ∙ ap (slice_index n) (sym here)
one_neighbour n p head (y ∷ []) x c (inr never) one = absurd never
one_neighbour n p head (y ∷ z ∷ zs) x c is one = absurd (omega (arith, one))
