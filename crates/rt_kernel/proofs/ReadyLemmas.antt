-- Threads that are ready: each is active, and stands once in the list.
use Rattle.std.proofs.Common.{◌≡◌, ℕ, ◌+◌, ◌<◌, ◌≤◌, ◌||◌, not, arith, List, [], ◌∷◌, ◌++◌, Bool, true, false, refl, sym, ap, ◌∙◌, length, filter, cond, subst, T, eqb, eqb→eq, eq-eqb, slice_set}
use Rattle.std.specs.Prelude.{◌==◌}
use Rattle.std.proofs.lemmas.List.{append-nil}
use Rattle.std.proofs.lemmas.List.Elements.{filter-append}
use Rattle.rt_plain.specs.kernel.State.{Thread, no_thread, is_among}
use Rattle.rt_plain.specs.kernel.Sound.{is_active}
use Rattle.rt_plain.proofs.kernel.TallyLemmas.{here-set, other-set}
use Rattle.kernel_tables.specs.Threads.{row_at}
use Rattle.mutex_tables.specs.Moved.{AreOnce}

-- what is so of threads and a ready list
pub record AreBright (threads : List Thread) (ready : List ℕ) : Type 0 where
  pub active : (u : ℕ) → is_among ready u ≡ true → is_active (row_at threads u).stage ≡ true
  pub once : AreOnce ready

or-false : (c d : Bool) → c || d ≡ false → (c ≡ false) × (d ≡ false)
or-false true d is = absurd cc
or-false false d is = (refl, is)

-- a thread that isn't there stands nowhere
away : (t : ℕ) (xs : List ℕ) → is_among xs t ≡ false → filter (λ u. u == t) xs ≡ []
away t [] is = refl
away t (x ∷ xs) is = let both = or-false (x == t) (is_among xs t) is in ap (λ c. cond c (x ∷ filter (λ u. u == t) xs) (filter (λ u. u == t) xs)) both.0 ∙ away t xs both.1

among-behind : (t u : ℕ) (xs : List ℕ) → is_among (xs ++ t ∷ []) u ≡ true → (eqb t u ≡ false) → is_among xs u ≡ true
among-behind t u [] among off = absurd (clash (sym among ∙ ap (λ c. c || false) off)) where
  clash : true ≡ false → ⊥
  clash e = cc
among-behind t u (x ∷ xs) among off = by_test (eqb x u) among (λ rest. among-behind t u xs rest off) where
  by_test : (c : Bool) → c || is_among (xs ++ t ∷ []) u ≡ true → (is_among (xs ++ t ∷ []) u ≡ true → is_among xs u ≡ true) → c || is_among xs u ≡ true
  by_test true among later = refl
  by_test false among later = later among

last-few : (t v : ℕ) → length (filter (λ u. u == v) (t ∷ [])) ≤ 1
last-few t v = by_test (t == v) where
  by_test : (c : Bool) → length (cond c (t ∷ []) []) ≤ 1
  by_test true = omega arith
  by_test false = omega arith

-- one more at the end
pub once-behind : (t : ℕ) (xs : List ℕ) → is_among xs t ≡ false → AreOnce xs → AreOnce (xs ++ t ∷ [])
once-behind t xs off once v = by_test (t == v) refl where
  by_test : (c : Bool) → (t == v) ≡ c → length (filter (λ u. u == v) (xs ++ t ∷ [])) ≤ 1
  by_test true is =
      let same : t ≡ v = eqb→eq t v (subst T (sym is) tt) in
      let none : filter (λ u. u == v) xs ≡ [] = subst (λ n. filter (λ u. u == n) xs ≡ []) same (away t xs off) in
      subst (λ ys. length ys ≤ 1) (sym (filter-append (λ u. u == v) xs (t ∷ []))) (subst (λ ys. length (ys ++ filter (λ u. u == v) (t ∷ [])) ≤ 1) (sym none) (last-few t v))
  by_test false is =
      let none : filter (λ u. u == v) (t ∷ []) ≡ [] = ap (λ c. cond c (t ∷ []) []) is in
      subst (λ ys. length ys ≤ 1) (sym (filter-append (λ u. u == v) xs (t ∷ []) ∙ ap (λ ys. filter (λ u. u == v) xs ++ ys) none)) (subst (λ ys. length ys ≤ 1) (sym (append-nil (filter (λ u. u == v) xs))) (once v))

-- a thread that becomes active enters
pub bright-enters : (threads : List Thread) (ready : List ℕ) (t : ℕ) (row : Thread) → t < length threads → is_active row.stage ≡ true → is_among ready t ≡ false → AreBright threads ready → AreBright (slice_set threads t row) (ready ++ t ∷ [])
bright-enters threads ready t row there on off bright = record { active = active; once = once-behind t ready off bright.once } where
  active : (u : ℕ) → is_among (ready ++ t ∷ []) u ≡ true → is_active (row_at (slice_set threads t row) u).stage ≡ true
  active u among = by_test (eqb t u) refl where
    by_test : (c : Bool) → eqb t u ≡ c → is_active (row_at (slice_set threads t row) u).stage ≡ true
    by_test true is = subst (λ v. is_active (row_at (slice_set threads t row) v).stage ≡ true) (eqb→eq t u (subst T (sym is) tt)) (ap (λ (r : Thread). is_active r.stage) (here-set threads t row no_thread there) ∙ on)
    by_test false is = ap (λ (r : Thread). is_active r.stage) (other-set threads t u row no_thread (λ same. apart is (eq-eqb t u (sym same)))) ∙ bright.active u (among-behind t u ready among is) where
      apart : eqb t u ≡ false → eqb t u ≡ true → ⊥
      apart no_case yes_case = cc

-- who isn't active isn't ready
pub idle-unready : (threads : List Thread) (ready : List ℕ) (t : ℕ) → AreBright threads ready → is_active (row_at threads t).stage ≡ false → is_among ready t ≡ false
idle-unready threads ready t bright idle = by_test (is_among ready t) refl where
  by_test : (c : Bool) → is_among ready t ≡ c → c ≡ false
  by_test true is = sym (bright.active t is) ∙ idle
  by_test false is = refl

-- fewer are left where some go
few-left : (p q : ℕ → Bool) (xs : List ℕ) → length (filter p (filter q xs)) ≤ length (filter p xs)
few-left p q [] = omega arith
few-left p q (x ∷ xs) = kept (q x) (p x) refl (few-left p q xs) where
  kept : (c d : Bool) → p x ≡ d → length (filter p (filter q xs)) ≤ length (filter p xs) → length (filter p (cond c (x ∷ filter q xs) (filter q xs))) ≤ length (cond d (x ∷ filter p xs) (filter p xs))
  kept true d is le = subst (λ e. length (cond e (x ∷ filter p (filter q xs)) (filter p (filter q xs))) ≤ length (cond d (x ∷ filter p xs) (filter p xs))) (sym is) (by_d d) where
    by_d : (e : Bool) → length (cond e (x ∷ filter p (filter q xs)) (filter p (filter q xs))) ≤ length (cond e (x ∷ filter p xs) (filter p xs))
    by_d true = omega (arith, le)
    by_d false = le
  kept false true is le = omega (arith, le)
  kept false false is le = le

among-kept : (t u : ℕ) (xs : List ℕ) → is_among (filter (λ v. not (v == t)) xs) u ≡ true → (is_among xs u ≡ true) × (eqb t u ≡ false)
among-kept t u [] among = absurd cc
among-kept t u (x ∷ xs) among = by_test (x == t) refl (among-kept t u xs) among where
  by_test : (c : Bool) → (x == t) ≡ c → (is_among (filter (λ v. not (v == t)) xs) u ≡ true → (is_among xs u ≡ true) × (eqb t u ≡ false)) → is_among (cond (not c) (x ∷ filter (λ v. not (v == t)) xs) (filter (λ v. not (v == t)) xs)) u ≡ true → (is_among (x ∷ xs) u ≡ true) × (eqb t u ≡ false)
  by_test true is rest among = (or-true (eqb x u) (is_among xs u) (rest among).0, (rest among).1) where
    or-true : (c d : Bool) → d ≡ true → c || d ≡ true
    or-true true d e = refl
    or-true false d e = e
  by_test false is rest among = by_here (eqb x u) refl among where
    by_here : (d : Bool) → eqb x u ≡ d → d || is_among (filter (λ v. not (v == t)) xs) u ≡ true → (d || is_among xs u ≡ true) × (eqb t u ≡ false)
    by_here true here among = (refl, turned t u (subst (λ y. eqb y t ≡ false) (eqb→eq x u (subst T (sym here) tt)) is)) where
      turned : (t u : ℕ) → eqb u t ≡ false → eqb t u ≡ false
      turned t u e = grind (arith, e)
    by_here false here among = rest among

-- a thread that isn't active any more leaves
pub bright-leaves : (threads : List Thread) (ready : List ℕ) (t : ℕ) (row : Thread) → AreBright threads ready → AreBright (slice_set threads t row) (filter (λ u. not (u == t)) ready)
bright-leaves threads ready t row bright = record { active = active; once = λ v. omega (arith, few-left (λ u. u == v) (λ u. not (u == t)) ready, bright.once v) } where
  active : (u : ℕ) → is_among (filter (λ v. not (v == t)) ready) u ≡ true → is_active (row_at (slice_set threads t row) u).stage ≡ true
  active u among =
      let both = among-kept t u ready among in
      ap (λ (r : Thread). is_active r.stage) (other-set threads t u row no_thread (λ same. apart both.1 (eq-eqb t u (sym same)))) ∙ bright.active u both.0 where
        apart : eqb t u ≡ false → eqb t u ≡ true → ⊥
        apart no_case yes_case = cc
