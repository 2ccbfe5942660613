-- Reach, thread by thread: a thread is in the reach of another one exactly where its chain meets that one.
use Rattle.std.proofs.Common.{ℕ, ◌≡◌, ◌≢◌, ◌+◌, ◌<◌, ◌≤◌, zero, suc, List, [], ◌∷◌, length, Bool, true, false, cond, ◌||◌, eqb, Option, Some, None, refl, sym, ap, ◌∙◌, arith, ⊎_elim}
use Rattle.std.specs.Prelude.{filter}
use Rattle.std.specs.List.{range_with_len}
use Rattle.std.proofs.lemmas.Bool.{eqb-true, eqb-false, ne_eqb, cases_lt}
use Rattle.std.proofs.lemmas.List.{get_or_past}
use Rattle.std.proofs.lemmas.List.Elements.{filter_agree}
use Rattle.rt_plain.specs.kernel.State.{is_among}
use Rattle.rt_plain.specs.kernel.Priority.{Graph, blocker_of, is_one_of, round_of, rounds_of, reach}

abbrev pub hits_on : (ℕ → Bool) → Option ℕ → Bool
hits_on further None = false
hits_on further (Some t) = further t

-- whether a thread is a member, or its chain meets one within so many steps
abbrev pub hits : ℕ → (ℕ → Option ℕ) → List ℕ → ℕ → Bool
hits zero next ms x = is_among ms x
hits (suc k) next ms x = is_among ms x || hits_on (λ v. hits k next ms v) (next x)

-- equal tests keep the same numbers of a range
pub filter_range : (p q : ℕ → Bool) (a n : ℕ) → ((x : ℕ) → a ≤ x → x < a + n → p x ≡ q x) → filter p (range_with_len a n) ≡ filter q (range_with_len a n)
filter_range p q a zero e = refl
filter_range p q a (suc n) e =
    ap (λ b. cond b (a ∷ filter p (range_with_len (a + 1) n)) (filter p (range_with_len (a + 1) n))) (e a (omega arith) (omega arith))
    ∙ ap (λ l. cond (q a) (a ∷ l) l) (filter_range p q (a + 1) n (λ x low high. e x (omega arith) (omega arith)))

not_among : (p : ℕ → Bool) (a n x : ℕ) → x < a → is_among (filter p (range_with_len a n)) x ≡ false
not_among p a zero x h = refl
not_among p a (suc n) x h = by_test (p a) (not_among p (a + 1) n x (omega arith)) (ne_eqb a x (λ e. omega arith))
  where
    by_test : (b : Bool) → is_among (filter p (range_with_len (a + 1) n)) x ≡ false → eqb a x ≡ false
        → is_among (cond b (a ∷ filter p (range_with_len (a + 1) n)) (filter p (range_with_len (a + 1) n))) x ≡ false
    by_test true r ne = ap (λ c. c || is_among (filter p (range_with_len (a + 1) n)) x) ne ∙ r
    by_test false r ne = r

-- the numbers of a range that pass a test
pub among_range : (p : ℕ → Bool) (a n x : ℕ) → a ≤ x → x < a + n → is_among (filter p (range_with_len a n)) x ≡ p x
among_range p a zero x low high = absurd (omega arith)
among_range p a (suc n) x low high =
    by_test (eqb a x) refl (p a) refl (λ k. among_range p (a + 1) n x k (omega arith)) (not_among p (a + 1) n x)
  where
    rest : List ℕ
    rest = filter p (range_with_len (a + 1) n)

    by_test : (b : Bool) → eqb a x ≡ b → (c : Bool) → p a ≡ c → (a + 1 ≤ x → is_among (filter p (range_with_len (a + 1) n)) x ≡ p x)
        → (x < a + 1 → is_among (filter p (range_with_len (a + 1) n)) x ≡ false)
        → is_among (cond c (a ∷ filter p (range_with_len (a + 1) n)) (filter p (range_with_len (a + 1) n))) x ≡ p x
    by_test true e true h r none =
        let same : a ≡ x = eqb-true a x e in
        ap (λ c. c || is_among (filter p (range_with_len (a + 1) n)) x) e ∙ sym h ∙ ap p same
    by_test true e false h r none =
        let same : a ≡ x = eqb-true a x e in
        none (omega arith) ∙ sym h ∙ ap p same
    by_test false e true h r none =
        let other : a ≢ x = eqb-false a x e in
        ap (λ c. c || is_among (filter p (range_with_len (a + 1) n)) x) e ∙ r (omega arith)
    by_test false e false h r none =
        let other : a ≢ x = eqb-false a x e in
        r (omega arith)

not_above : (p : ℕ → Bool) (a n x : ℕ) → a + n ≤ x → is_among (filter p (range_with_len a n)) x ≡ false
not_above p a zero x h = refl
not_above p a (suc n) x h = by_test (p a) (not_above p (a + 1) n x (omega arith)) (ne_eqb a x (λ e. omega arith))
  where
    by_test : (b : Bool) → is_among (filter p (range_with_len (a + 1) n)) x ≡ false → eqb a x ≡ false
        → is_among (cond b (a ∷ filter p (range_with_len (a + 1) n)) (filter p (range_with_len (a + 1) n))) x ≡ false
    by_test true r ne = ap (λ c. c || is_among (filter p (range_with_len (a + 1) n)) x) ne ∙ r
    by_test false r ne = r

-- no member stands outside a graph
abbrev pub IsWithin : Graph → List ℕ → Type 0
IsWithin g ms = (v : ℕ) → length g.blockers ≤ v → is_among ms v ≡ false

round_within : (g : Graph) (ms : List ℕ) → IsWithin g (round_of g ms)
round_within g ms = λ v h. not_above (λ t. is_among ms t || is_one_of ms (blocker_of g t)) 0 (length g.blockers) v (omega arith)

-- a thread that waits for nobody is hit only as a member
pub hits_end : (k : ℕ) (next : ℕ → Option ℕ) (ms : List ℕ) (x : ℕ) → next x ≡ None → hits k next ms x ≡ is_among ms x
hits_end zero next ms x e = refl
hits_end (suc k) next ms x e = ap (λ o. is_among ms x || hits_on (λ v. hits k next ms v) o) e ∙ by_test (is_among ms x)
  where
    by_test : (b : Bool) → b || false ≡ b
    by_test true = refl
    by_test false = refl

one_hit : (ms : List ℕ) (o : Option ℕ) → is_one_of ms o ≡ hits_on (is_among ms) o
one_hit ms None = refl
one_hit ms (Some t) = refl

or_same : (p a r s : Bool) → (a || r ≡ s) → (p || a) || r ≡ p || s
or_same true a r s e = refl
or_same false a r s e = e

absorbed : (a r : Bool) → a || (a || r) ≡ a || r
absorbed true r = refl
absorbed false r = refl

hits_first : (k : ℕ) (next : ℕ → Option ℕ) (ms : List ℕ) (x : ℕ) → is_among ms x || hits k next ms x ≡ hits k next ms x
hits_first zero next ms x = by_test (is_among ms x)
  where
    by_test : (b : Bool) → b || b ≡ b
    by_test true = refl
    by_test false = refl
hits_first (suc k) next ms x = absorbed (is_among ms x) (hits_on (λ v. hits k next ms v) (next x))

more_next : (j : ℕ) (g : Graph) (ms : List ℕ) → ((v : ℕ) → hits j (blocker_of g) (round_of g ms) v ≡ hits (suc j) (blocker_of g) ms v) → (o : Option ℕ)
    → is_one_of ms o || hits_on (λ v. hits j (blocker_of g) (round_of g ms) v) o ≡ hits_on (λ v. hits (suc j) (blocker_of g) ms v) o
more_next j g ms r None = refl
more_next j g ms r (Some v) = ap (λ b. is_among ms v || b) (r v) ∙ hits_first (suc j) (blocker_of g) ms v

past_round : (k : ℕ) (g : Graph) (ms : List ℕ) (x : ℕ) → IsWithin g ms → length g.blockers ≤ x → hits k (blocker_of g) (round_of g ms) x ≡ hits (suc k) (blocker_of g) ms x
past_round k g ms x within h =
    let none : blocker_of g x ≡ None = get_or_past g.blockers x None h in
    hits_end k (blocker_of g) (round_of g ms) x none ∙ round_within g ms x h ∙ sym (hits_end (suc k) (blocker_of g) ms x none ∙ within x h)

-- one round more at the start is one step more
hits_round : (k : ℕ) (g : Graph) (ms : List ℕ) (x : ℕ) → IsWithin g ms → hits k (blocker_of g) (round_of g ms) x ≡ hits (suc k) (blocker_of g) ms x
hits_round zero g ms x within = ⊎_elim below (past_round zero g ms x within) (cases_lt x (length g.blockers))
  where
    below : x < length g.blockers → hits zero (blocker_of g) (round_of g ms) x ≡ hits 1 (blocker_of g) ms x
    below h =
        among_range (λ t. is_among ms t || is_one_of ms (blocker_of g t)) 0 (length g.blockers) x (omega arith) (omega arith)
        ∙ ap (λ b. is_among ms x || b) (one_hit ms (blocker_of g x))
hits_round (suc k) g ms x within = ⊎_elim (below (λ v. hits_round k g ms v within)) (past_round (suc k) g ms x within) (cases_lt x (length g.blockers))
  where
    below : ((v : ℕ) → hits k (blocker_of g) (round_of g ms) v ≡ hits (suc k) (blocker_of g) ms v) → x < length g.blockers
        → hits (suc k) (blocker_of g) (round_of g ms) x ≡ hits (suc (suc k)) (blocker_of g) ms x
    below r h =
        ap (λ b. b || hits_on (λ v. hits k (blocker_of g) (round_of g ms) v) (blocker_of g x))
        (among_range (λ t. is_among ms t || is_one_of ms (blocker_of g t)) 0 (length g.blockers) x (omega arith) (omega arith))
        ∙ or_same (is_among ms x) (is_one_of ms (blocker_of g x)) (hits_on (λ v. hits k (blocker_of g) (round_of g ms) v) (blocker_of g x)) (hits_on (λ v. hits (suc k) (blocker_of g) ms v) (blocker_of g x))
        (more_next k g ms r (blocker_of g x))

rounds_filter : (k : ℕ) (g : Graph) (ms : List ℕ) → IsWithin g ms
    → rounds_of (suc k) g ms ≡ filter (λ x. hits (suc k) (blocker_of g) ms x) (range_with_len 0 (length g.blockers))
rounds_filter zero g ms within =
    filter_agree (λ t. is_among ms t || is_one_of ms (blocker_of g t)) (λ x. hits 1 (blocker_of g) ms x)
    (λ x. ap (λ b. is_among ms x || b) (one_hit ms (blocker_of g x))) (range_with_len 0 (length g.blockers))
rounds_filter (suc k) g ms within =
    rounds_filter k g (round_of g ms) (round_within g ms)
    ∙ filter_agree (λ x. hits (suc k) (blocker_of g) (round_of g ms) x) (λ x. hits (suc (suc k)) (blocker_of g) ms x)
    (λ x. hits_round (suc k) g ms x within) (range_with_len 0 (length g.blockers))

-- the reach of a thread, by hits
pub reach_hits : (g : Graph) (t : ℕ) → t < length g.blockers
    → reach g t ≡ filter (λ x. hits (length g.blockers) (blocker_of g) (t ∷ []) x) (range_with_len 0 (length g.blockers))
reach_hits g t h = by_length (length g.blockers) refl
  where
    by_length : (n : ℕ) → length g.blockers ≡ n → rounds_of n g (t ∷ []) ≡ filter (λ x. hits n (blocker_of g) (t ∷ []) x) (range_with_len 0 (length g.blockers))
    by_length zero e = absurd (omega arith)
    by_length (suc n) e = rounds_filter n g (t ∷ []) (λ v k. ap (λ b. b || false) (ne_eqb t v (λ s. omega arith)))
