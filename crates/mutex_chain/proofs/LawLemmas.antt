-- Current priorities as solutions of the equations of owners and waiters.
use Rattle.std.proofs.Common.{ℕ, ◌≡◌, ◌≢◌, ◌+◌, ◌<◌, ◌≤◌, zero, suc, List, [], ◌∷◌, length, map, Bool, true, false, cond, ◌||◌, eqb, Option, Some, None, refl, sym, ap, ◌∙◌, arith, ◌⊎◌, inl, inr, ⊎_elim}
use Rattle.std.specs.Prelude.{filter, fold, min}
use Rattle.std.specs.List.{range_with_len}
use Rattle.std.proofs.lemmas.Bool.{eqb-true, eq-eqb, false≢true, cases_lt, cases_Bool, or_cases, or_left, or_right}
use Rattle.std.proofs.lemmas.Option.{none-some}
use Rattle.std.proofs.lemmas.List.{get_or_past}
use Rattle.rt_plain.specs.kernel.State.{is_among}
use Rattle.rt_plain.specs.kernel.Priority.{Graph, blocker_of, urgency_of, is_one_of, reach, least, cur_of}
use Rattle.mutex_chain.specs.Equations.{waits_for, IsSolution, SameBut, IsAway, IsTouched}
use Rattle.mutex_chain.proofs.ReachLemmas.{hits, hits_on, hits_end, reach_hits, among_range}

-- whether the chain of a thread meets another one within so many steps, or is that one
abbrev pub meets_in : ℕ → Graph → ℕ → ℕ → Bool
meets_in k g t x = hits k (blocker_of g) (t ∷ []) x

pub itself : (t : ℕ) → is_among (t ∷ []) t ≡ true
itself t = ap (λ b. b || false) (eq-eqb t t refl)

pub only : (t x : ℕ) → is_among (t ∷ []) x ≡ true → t ≡ x
only t x h = ⊎_elim (eqb-true t x) (λ e. absurd (false≢true e)) (or_cases (eqb t x) false h)

member : (k : ℕ) (next : ℕ → Option ℕ) (ms : List ℕ) (x : ℕ) → is_among ms x ≡ true → hits k next ms x ≡ true
member zero next ms x h = h
member (suc k) next ms x h = or_left (is_among ms x) (hits_on (λ v. hits k next ms v) (next x)) h

-- what follows where the walk goes on
go_on : (f : ℕ → Bool) (o : Option ℕ) (v : ℕ) → o ≡ Some v → f v ≡ true → hits_on f o ≡ true
go_on f o v e h = ap (hits_on f) e ∙ h

pub went_on : (f : ℕ → Bool) (o : Option ℕ) → hits_on f o ≡ true → (v : ℕ) × (o ≡ Some v) × (f v ≡ true)
went_on f None h = absurd (false≢true h)
went_on f (Some v) h = (v, refl, h)

more : (k : ℕ) (g : Graph) (t x : ℕ) → meets_in k g t x ≡ true → meets_in (suc k) g t x ≡ true
more zero g t x h = or_left (is_among (t ∷ []) x) (hits_on (λ v. meets_in zero g t v) (blocker_of g x)) h
more (suc k) g t x h = ⊎_elim (member (suc (suc k)) (blocker_of g) (t ∷ []) x) (further (more k g t)) (or_cases (is_among (t ∷ []) x) (hits_on (λ v. meets_in k g t v) (blocker_of g x)) h)
  where
    further : ((v : ℕ) → meets_in k g t v ≡ true → meets_in (suc k) g t v ≡ true) → hits_on (λ v. meets_in k g t v) (blocker_of g x) ≡ true → meets_in (suc (suc k)) g t x ≡ true
    further again e =
        let w = went_on (λ v. meets_in k g t v) (blocker_of g x) e in
        or_right (is_among (t ∷ []) x) (hits_on (λ v. meets_in (suc k) g t v) (blocker_of g x)) (go_on (λ v. meets_in (suc k) g t v) (blocker_of g x) w.0 w.1 (again w.0 w.2))

pub filter_le : (p q : ℕ → Bool) (a n : ℕ) → ((x : ℕ) → p x ≡ true → q x ≡ true) → length (filter p (range_with_len a n)) ≤ length (filter q (range_with_len a n))
filter_le p q a zero f = omega arith
filter_le p q a (suc n) f = by_tests (p a) (q a) (f a) (filter_le p q (a + 1) n f)
  where
    by_tests : (b c : Bool) → (b ≡ true → c ≡ true) → length (filter p (range_with_len (a + 1) n)) ≤ length (filter q (range_with_len (a + 1) n))
        → length (cond b (a ∷ filter p (range_with_len (a + 1) n)) (filter p (range_with_len (a + 1) n))) ≤ length (cond c (a ∷ filter q (range_with_len (a + 1) n)) (filter q (range_with_len (a + 1) n)))
    by_tests true true e h = omega arith
    by_tests true false e h = absurd (false≢true (e refl))
    by_tests false true e h = omega arith
    by_tests false false e h = h

-- a weaker test passes the same numbers of a range, or more of them
pub grows : (p q : ℕ → Bool) (a n : ℕ) → ((x : ℕ) → p x ≡ true → q x ≡ true)
    → ((x : ℕ) → a ≤ x → x < a + n → q x ≡ p x) ⊎ (length (filter p (range_with_len a n)) < length (filter q (range_with_len a n)))
grows p q a zero f = inl (λ x low high. absurd (omega arith))
grows p q a (suc n) f = by_tests (p a) refl (q a) refl (grows p q (a + 1) n f) (filter_le p q (a + 1) n f)
  where
    same : q a ≡ p a → ((x : ℕ) → a + 1 ≤ x → x < a + 1 + n → q x ≡ p x) → (x : ℕ) → a ≤ x → x < a + suc n → q x ≡ p x
    same e r x low high = ⊎_elim (λ (k : a < x). r x (omega arith) (omega arith)) (λ (k : x ≤ a). let at : a ≡ x = omega arith in sym (ap q at) ∙ e ∙ ap p at) (cases_lt a x)

    by_tests : (b : Bool) → p a ≡ b → (c : Bool) → q a ≡ c
        → ((x : ℕ) → a + 1 ≤ x → x < a + 1 + n → q x ≡ p x) ⊎ (length (filter p (range_with_len (a + 1) n)) < length (filter q (range_with_len (a + 1) n)))
        → length (filter p (range_with_len (a + 1) n)) ≤ length (filter q (range_with_len (a + 1) n))
        → ((x : ℕ) → a ≤ x → x < a + suc n → q x ≡ p x)
        ⊎ (length (cond b (a ∷ filter p (range_with_len (a + 1) n)) (filter p (range_with_len (a + 1) n))) < length (cond c (a ∷ filter q (range_with_len (a + 1) n)) (filter q (range_with_len (a + 1) n))))
    by_tests true e true k (inl r) le = inl (same (k ∙ sym e) r)
    by_tests true e true k (inr lt) le = inr (omega arith)
    by_tests true e false k r le = absurd (false≢true (sym k ∙ f a e))
    by_tests false e true k r le = inr (omega arith)
    by_tests false e false k (inl r) le = inl (same (k ∙ sym e) r)
    by_tests false e false k (inr lt) le = inr lt

length-filter_range : (p : ℕ → Bool) (a n : ℕ) → length (filter p (range_with_len a n)) ≤ n
length-filter_range p a zero = omega arith
length-filter_range p a (suc n) = by_test (p a) (length-filter_range p (a + 1) n)
  where
    by_test : (b : Bool) → length (filter p (range_with_len (a + 1) n)) ≤ n → length (cond b (a ∷ filter p (range_with_len (a + 1) n)) (filter p (range_with_len (a + 1) n))) ≤ suc n
    by_test true h = omega arith
    by_test false h = omega arith

-- one step more meets nobody else
abbrev IsStable : ℕ → Graph → ℕ → Type 0
IsStable k g t = (x : ℕ) → meets_in (suc k) g t x ≡ meets_in k g t x

still : (k : ℕ) (g : Graph) (t : ℕ) → IsStable k g t → IsStable (suc k) g t
still k g t s x = ap (λ b. is_among (t ∷ []) x || b) (by_next (blocker_of g x))
  where
    by_next : (o : Option ℕ) → hits_on (λ v. meets_in (suc k) g t v) o ≡ hits_on (λ v. meets_in k g t v) o
    by_next None = refl
    by_next (Some v) = s v

past : (k : ℕ) (g : Graph) (t x : ℕ) → length g.blockers ≤ x → meets_in k g t x ≡ is_among (t ∷ []) x
past k g t x h = hits_end k (blocker_of g) (t ∷ []) x (get_or_past g.blockers x None h)

some_among : (ns : List ℕ) (x : ℕ) → is_among ns x ≡ true → 0 < length ns
some_among [] x h = absurd (false≢true h)
some_among (n ∷ ns) x h = omega arith

many : (k : ℕ) (g : Graph) (t : ℕ) → t < length g.blockers → IsStable k g t ⊎ (k < length (filter (meets_in k g t) (range_with_len 0 (length g.blockers))))
many zero g t h =
    inr (some_among (filter (meets_in 0 g t) (range_with_len 0 (length g.blockers))) t (among_range (meets_in 0 g t) 0 (length g.blockers) t (omega arith) (omega arith) ∙ itself t))
many (suc k) g t h = by_before (many k g t h)
  where
    everywhere : ((x : ℕ) → 0 ≤ x → x < 0 + length g.blockers → meets_in (suc k) g t x ≡ meets_in k g t x) → IsStable k g t
    everywhere f x = ⊎_elim (λ (low : x < length g.blockers). f x (omega arith) (omega arith)) (λ high. past (suc k) g t x high ∙ sym (past k g t x high)) (cases_lt x (length g.blockers))

    by_before : IsStable k g t ⊎ (k < length (filter (meets_in k g t) (range_with_len 0 (length g.blockers))))
        → IsStable (suc k) g t ⊎ (suc k < length (filter (meets_in (suc k) g t) (range_with_len 0 (length g.blockers))))
    by_before (inl s) = inl (still k g t s)
    by_before (inr lt) =
        ⊎_elim (λ f. inl (still k g t (everywhere f)))
        (λ (less : length (filter (meets_in k g t) (range_with_len 0 (length g.blockers))) < length (filter (meets_in (suc k) g t) (range_with_len 0 (length g.blockers)))). inr (omega arith))
        (grows (meets_in k g t) (meets_in (suc k) g t) 0 (length g.blockers) (more k g t))

-- whether a thread is in the reach of another one
abbrev pub reaches : Graph → ℕ → ℕ → Bool
reaches g t x = meets_in (length g.blockers) g t x

pub stable : (g : Graph) (t : ℕ) → t < length g.blockers → IsStable (length g.blockers) g t
stable g t h =
    ⊎_elim (λ s. s) (λ lt. absurd (omega (arith, length-filter_range (meets_in (length g.blockers) g t) 0 (length g.blockers)))) (many (length g.blockers) g t h)

pub reach_among : (g : Graph) (t x : ℕ) → t < length g.blockers → x < length g.blockers → is_among (reach g t) x ≡ reaches g t x
reach_among g t x h k = ap (λ l. is_among l x) (reach_hits g t h) ∙ among_range (reaches g t) 0 (length g.blockers) x (omega arith) (omega arith)

pub reaches_itself : (g : Graph) (t : ℕ) → reaches g t t ≡ true
reaches_itself g t = member (length g.blockers) (blocker_of g) (t ∷ []) t (itself t)

reach_within : (k : ℕ) (g : Graph) (t x : ℕ) → t < length g.blockers → meets_in k g t x ≡ true → x < length g.blockers
reach_within k g t x h r = ⊎_elim (λ low. low) (λ high. let same : t ≡ x = only t x (sym (past k g t x high) ∙ r) in absurd (omega arith)) (cases_lt x (length g.blockers))

-- who meets a thread in any number of steps is in its reach
any_steps : (k : ℕ) (g : Graph) (t x : ℕ) → t < length g.blockers → meets_in k g t x ≡ true → reaches g t x ≡ true
any_steps zero g t x h r = member (length g.blockers) (blocker_of g) (t ∷ []) x r
any_steps (suc k) g t x h r =
    ⊎_elim (member (length g.blockers) (blocker_of g) (t ∷ []) x) (further (λ v m. any_steps k g t v h m)) (or_cases (is_among (t ∷ []) x) (hits_on (λ v. meets_in k g t v) (blocker_of g x)) r)
  where
    further : ((v : ℕ) → meets_in k g t v ≡ true → reaches g t v ≡ true) → hits_on (λ v. meets_in k g t v) (blocker_of g x) ≡ true → reaches g t x ≡ true
    further again e =
        let w = went_on (λ v. meets_in k g t v) (blocker_of g x) e in
        sym (stable g t h x)
        ∙ or_right (is_among (t ∷ []) x) (hits_on (λ v. reaches g t v) (blocker_of g x)) (go_on (λ v. reaches g t v) (blocker_of g x) w.0 w.1 (again w.0 w.2))

-- who meets a waiter meets the one that it waits for
pub one_more : (k : ℕ) (g : Graph) (x t y : ℕ) → blocker_of g x ≡ Some t → meets_in k g x y ≡ true → meets_in (suc k) g t y ≡ true
one_more zero g x t y e r =
    let same : x ≡ y = only x y r in
    or_right (is_among (t ∷ []) y) (hits_on (λ v. meets_in zero g t v) (blocker_of g y)) (go_on (λ v. meets_in zero g t v) (blocker_of g y) t (ap (blocker_of g) (sym same) ∙ e) (itself t))
one_more (suc k) g x t y e r = ⊎_elim here (further (λ v m. one_more k g x t v e m)) (or_cases (is_among (x ∷ []) y) (hits_on (λ v. meets_in k g x v) (blocker_of g y)) r)
  where
    here : is_among (x ∷ []) y ≡ true → meets_in (suc (suc k)) g t y ≡ true
    here h =
        let same : x ≡ y = only x y h in
        or_right (is_among (t ∷ []) y) (hits_on (λ v. meets_in (suc k) g t v) (blocker_of g y))
        (go_on (λ v. meets_in (suc k) g t v) (blocker_of g y) t (ap (blocker_of g) (sym same) ∙ e) (member (suc k) (blocker_of g) (t ∷ []) t (itself t)))

    further : ((v : ℕ) → meets_in k g x v ≡ true → meets_in (suc k) g t v ≡ true) → hits_on (λ v. meets_in k g x v) (blocker_of g y) ≡ true → meets_in (suc (suc k)) g t y ≡ true
    further again h =
        let w = went_on (λ v. meets_in k g x v) (blocker_of g y) h in
        or_right (is_among (t ∷ []) y) (hits_on (λ v. meets_in (suc k) g t v) (blocker_of g y)) (go_on (λ v. meets_in (suc k) g t v) (blocker_of g y) w.0 w.1 (again w.0 w.2))

-- who meets a thread is that one, or meets one that waits for it
last_step : (k : ℕ) (g : Graph) (t y : ℕ) → meets_in k g t y ≡ true → (t ≡ y) ⊎ ((x : ℕ) × (blocker_of g x ≡ Some t) × (meets_in k g x y ≡ true))
last_step zero g t y r = inl (only t y r)
last_step (suc k) g t y r = ⊎_elim (λ h. inl (only t y h)) (further (last_step k g t)) (or_cases (is_among (t ∷ []) y) (hits_on (λ v. meets_in k g t v) (blocker_of g y)) r)
  where
    further : ((v : ℕ) → meets_in k g t v ≡ true → (t ≡ v) ⊎ ((x : ℕ) × (blocker_of g x ≡ Some t) × (meets_in k g x v ≡ true)))
        → hits_on (λ v. meets_in k g t v) (blocker_of g y) ≡ true → (t ≡ y) ⊎ ((x : ℕ) × (blocker_of g x ≡ Some t) × (meets_in (suc k) g x y ≡ true))
    further again h =
        let w = went_on (λ v. meets_in k g t v) (blocker_of g y) h in
        by_rest w.0 w.1 (again w.0 w.2)
      where
        by_rest : (v : ℕ) → blocker_of g y ≡ Some v → (t ≡ v) ⊎ ((x : ℕ) × (blocker_of g x ≡ Some t) × (meets_in k g x v ≡ true))
            → (t ≡ y) ⊎ ((x : ℕ) × (blocker_of g x ≡ Some t) × (meets_in (suc k) g x y ≡ true))
        by_rest v e (inl same) = inr (y, e ∙ ap Some (sym same), member (suc k) (blocker_of g) (y ∷ []) y (itself y))
        by_rest v e (inr w) = inr (w.0, w.1, or_right (is_among (w.0 ∷ []) y) (hits_on (λ u. meets_in k g w.0 u) (blocker_of g y)) (go_on (λ u. meets_in k g w.0 u) (blocker_of g y) v e w.2))

-- the least of a number and of those in a range that pass a test
min_first : (a : ℕ) (xs : List ℕ) → fold min a xs ≤ a
min_first a [] = omega arith
min_first a (x ∷ xs) = omega (arith, min_first (min a x) xs)

min_le : (f : ℕ → ℕ) (p : ℕ → Bool) (s n a x : ℕ) → s ≤ x → x < s + n → p x ≡ true → fold min a (map f (filter p (range_with_len s n))) ≤ f x
min_le f p s zero a x low high h = absurd (omega arith)
min_le f p s (suc n) a x low high h = by_test (p s) refl (cases_lt s x) (λ b k. min_le f p (s + 1) n b x k (omega arith) h)
  where
    rest : List ℕ
    rest = filter p (range_with_len (s + 1) n)

    by_test : (b : Bool) → p s ≡ b → (s < x) ⊎ (x ≤ s) → ((b : ℕ) → s + 1 ≤ x → fold min b (map f (filter p (range_with_len (s + 1) n))) ≤ f x)
        → fold min a (map f (cond b (s ∷ filter p (range_with_len (s + 1) n)) (filter p (range_with_len (s + 1) n)))) ≤ f x
    by_test true e (inl k) r = r (min a (f s)) (omega arith)
    by_test true e (inr k) r =
        let same : f s ≡ f x = let at : s ≡ x = omega arith in ap f at in
        omega (arith, min_first (min a (f s)) (map f (filter p (range_with_len (s + 1) n))))
    by_test false e (inl k) r = r a (omega arith)
    by_test false e (inr k) r = let at : s ≡ x = omega arith in absurd (false≢true (sym e ∙ ap p at ∙ h))

min_glb : (f : ℕ → ℕ) (p : ℕ → Bool) (s n a c : ℕ) → c ≤ a → ((x : ℕ) → s ≤ x → x < s + n → p x ≡ true → c ≤ f x) → c ≤ fold min a (map f (filter p (range_with_len s n)))
min_glb f p s zero a c h each = h
min_glb f p s (suc n) a c h each = by_test (p s) refl (λ b k. min_glb f p (s + 1) n b c k (λ x low high e. each x (omega arith) (omega arith) e))
  where
    by_test : (b : Bool) → p s ≡ b → ((b : ℕ) → c ≤ b → c ≤ fold min b (map f (filter p (range_with_len (s + 1) n))))
        → c ≤ fold min a (map f (cond b (s ∷ filter p (range_with_len (s + 1) n)) (filter p (range_with_len (s + 1) n))))
    by_test true e r = let low : c ≤ f s = each s (omega arith) (omega arith) e in r (min a (f s)) (omega arith)
    by_test false e r = r a h

cur_is_min : (g : Graph) (t : ℕ) → t < length g.blockers → cur_of g t ≡ fold min (urgency_of g t) (map (urgency_of g) (filter (reaches g t) (range_with_len 0 (length g.blockers))))
cur_is_min g t h = ap (λ l. fold min (urgency_of g t) (map (urgency_of g) l)) (reach_hits g t h)

cur_le : (g : Graph) (t y : ℕ) → t < length g.blockers → reaches g t y ≡ true → cur_of g t ≤ urgency_of g y
cur_le g t y h r =
    let within : y < length g.blockers = reach_within (length g.blockers) g t y h r in
    let low : fold min (urgency_of g t) (map (urgency_of g) (filter (reaches g t) (range_with_len 0 (length g.blockers)))) ≤ urgency_of g y =
    min_le (urgency_of g) (reaches g t) 0 (length g.blockers) (urgency_of g t) y (omega arith) (omega arith) r in
    rw (cur_is_min g t h) low

cur_glb : (g : Graph) (t c : ℕ) → t < length g.blockers → ((y : ℕ) → reaches g t y ≡ true → c ≤ urgency_of g y) → c ≤ cur_of g t
cur_glb g t c h each =
    rw (cur_is_min g t h) (min_glb (urgency_of g) (reaches g t) 0 (length g.blockers) (urgency_of g t) c (each t (reaches_itself g t)) (λ y low high r. each y r))

-- a waiter is at most as urgent as the one that it waits for
pub waiter_less : (g : Graph) (x t : ℕ) → t < length g.blockers → x < length g.blockers → blocker_of g x ≡ Some t → cur_of g t ≤ cur_of g x
waiter_less g x t h k e = cur_glb g x (cur_of g t) k (λ y r. cur_le g t y h (sym (stable g t h y) ∙ one_more (length g.blockers) g x t y e r))

is_waiter : (t : ℕ) (o : Option ℕ) → is_one_of (t ∷ []) o ≡ true → o ≡ Some t
is_waiter t None h = absurd (false≢true h)
is_waiter t (Some v) h = ap Some (sym (only t v h))

pub cur_solves : (g : Graph) → IsSolution g (cur_of g)
cur_solves g t h =
    let low : cur_of g t ≤ least (urgency_of g t) (map (cur_of g) (waits_for g t)) =
    min_glb (cur_of g) (λ x. is_one_of (t ∷ []) (blocker_of g x)) 0 (length g.blockers) (urgency_of g t) (cur_of g t) (cur_le g t t h (reaches_itself g t))
    (λ x k l e. waiter_less g x t h (omega arith) (is_waiter t (blocker_of g x) e)) in
    let high : least (urgency_of g t) (map (cur_of g) (waits_for g t)) ≤ cur_of g t = cur_glb g t (least (urgency_of g t) (map (cur_of g) (waits_for g t))) h (λ y r. by_last y (last_step (length g.blockers) g t y r)) in
    antisym (cur_of g t) (least (urgency_of g t) (map (cur_of g) (waits_for g t))) low high
  where
    antisym : (a b : ℕ) → a ≤ b → b ≤ a → a ≡ b
    antisym a b x y = omega arith

    within : (x : ℕ) (o : ℕ) → blocker_of g x ≡ Some o → x < length g.blockers
    within x o e = ⊎_elim (λ low. low) (λ high. absurd (none-some o (sym (get_or_past g.blockers x None high) ∙ e))) (cases_lt x (length g.blockers))

    by_last : (y : ℕ) → (t ≡ y) ⊎ ((x : ℕ) × (blocker_of g x ≡ Some t) × (reaches g x y ≡ true)) → least (urgency_of g t) (map (cur_of g) (waits_for g t)) ≤ urgency_of g y
    by_last y (inl e) = rw (← e) (min_first (urgency_of g t) (map (cur_of g) (waits_for g t)))
    by_last y (inr w) =
        let small : w.0 < length g.blockers = within w.0 t w.1 in
        let first : least (urgency_of g t) (map (cur_of g) (waits_for g t)) ≤ cur_of g w.0 =
        min_le (cur_of g) (λ x. is_one_of (t ∷ []) (blocker_of g x)) 0 (length g.blockers) (urgency_of g t) w.0 (omega arith) (omega arith) (ap (is_one_of (t ∷ [])) w.1 ∙ itself t) in
        let second : cur_of g w.0 ≤ urgency_of g y = cur_le g w.0 y small w.2 in
        trans (least (urgency_of g t) (map (cur_of g) (waits_for g t))) (cur_of g w.0) (urgency_of g y) first second
      where
        trans : (a b c : ℕ) → a ≤ b → b ≤ c → a ≤ c
        trans a b c x y = omega arith

trans : (a b c : ℕ) → a ≤ b → b ≤ c → a ≤ c
trans a b c x y = omega arith

-- along a chain no solution gets less urgent
along : (k : ℕ) (g : Graph) (f : ℕ → ℕ) (t y : ℕ) → IsSolution g f → t < length g.blockers → meets_in k g t y ≡ true → f t ≤ f y
along zero g f t y s h r = let same : f t ≡ f y = ap f (only t y r) in omega arith
along (suc k) g f t y s h r = ⊎_elim (λ m. let same : f t ≡ f y = ap f (only t y m) in omega arith) (further (λ v m. along k g f t v s h m)) (or_cases (is_among (t ∷ []) y) (hits_on (λ v. meets_in k g t v) (blocker_of g y)) r)
  where
    further : ((v : ℕ) → meets_in k g t v ≡ true → f t ≤ f v) → hits_on (λ v. meets_in k g t v) (blocker_of g y) ≡ true → f t ≤ f y
    further again m =
        let w = went_on (λ v. meets_in k g t v) (blocker_of g y) m in
        let inside : y < length g.blockers = reach_within (suc k) g t y h r in
        let small : w.0 < length g.blockers = reach_within k g t w.0 h w.2 in
        let next : f w.0 ≤ f y =
        rw (s w.0 small) (min_le f (λ x. is_one_of (w.0 ∷ []) (blocker_of g x)) 0 (length g.blockers) (urgency_of g w.0) y (omega arith) (omega arith) (ap (is_one_of (w.0 ∷ [])) w.1 ∙ itself w.0)) in
        trans (f t) (f w.0) (f y) (again w.0 w.2) next

-- along a chain numbers that are no less urgent than a waiter's don't get less urgent
down : (k : ℕ) (g : Graph) (f : ℕ → ℕ) (t y : ℕ) → ((x b : ℕ) → blocker_of g x ≡ Some b → f b ≤ f x) → meets_in k g t y ≡ true → f t ≤ f y
down zero g f t y edges r = let same : f t ≡ f y = ap f (only t y r) in omega arith
down (suc k) g f t y edges r = ⊎_elim (λ m. let same : f t ≡ f y = ap f (only t y m) in omega arith) (further (λ v m. down k g f t v edges m)) (or_cases (is_among (t ∷ []) y) (hits_on (λ v. meets_in k g t v) (blocker_of g y)) r)
  where
    further : ((v : ℕ) → meets_in k g t v ≡ true → f t ≤ f v) → hits_on (λ v. meets_in k g t v) (blocker_of g y) ≡ true → f t ≤ f y
    further again m =
        let w = went_on (λ v. meets_in k g t v) (blocker_of g y) m in
        trans (f t) (f w.0) (f y) (again w.0 w.2) (edges y w.0 w.1)

-- numbers that are no less urgent than the own urgencies and than a waiter's are no less urgent than the current priorities
pub below_cur : (g : Graph) (f : ℕ → ℕ) → ((t : ℕ) → t < length g.blockers → f t ≤ urgency_of g t) → ((x b : ℕ) → blocker_of g x ≡ Some b → f b ≤ f x)
    → (t : ℕ) → t < length g.blockers → f t ≤ cur_of g t
below_cur g f own edges t h =
    cur_glb g t (f t) h (λ y r.
    trans (f t) (f y) (urgency_of g y) (down (length g.blockers) g f t y edges r) (own y (reach_within (length g.blockers) g t y h r)))

pub cur_is_least_urgent : (g : Graph) (f : ℕ → ℕ) → IsSolution g f → (t : ℕ) → t < length g.blockers → f t ≤ cur_of g t
cur_is_least_urgent g f s t h =
    cur_glb g t (f t) h (λ y r.
    let small : y < length g.blockers = reach_within (length g.blockers) g t y h r in
    let own : f y ≤ urgency_of g y = rw (s y small) (min_first (urgency_of g y) (map f (waits_for g y))) in
    trans (f t) (f y) (urgency_of g y) (along (length g.blockers) g f t y s h r) own)

pub one_cur : (g : Graph) (t u : ℕ) → t < length g.blockers → u < length g.blockers → is_among (reach g t) u ≡ true → is_among (reach g u) t ≡ true → cur_of g t ≡ cur_of g u
one_cur g t u h k a b =
    antisym (cur_of g t) (cur_of g u) (along (length g.blockers) g (cur_of g) t u (cur_solves g) h (sym (reach_among g t u h k) ∙ a))
    (along (length g.blockers) g (cur_of g) u t (cur_solves g) k (sym (reach_among g u t k h) ∙ b))
  where
    antisym : (a b : ℕ) → a ≤ b → b ≤ a → a ≡ b
    antisym a b x y = omega arith

pub own_cur : (g : Graph) (t : ℕ) → t < length g.blockers → ((x : ℕ) → blocker_of g x ≢ Some t) → cur_of g t ≡ urgency_of g t
own_cur g t h nobody =
    antisym (cur_of g t) (urgency_of g t) (cur_le g t t h (reaches_itself g t)) (cur_glb g t (urgency_of g t) h (λ y r. by_last y (last_step (length g.blockers) g t y r)))
  where
    antisym : (a b : ℕ) → a ≤ b → b ≤ a → a ≡ b
    antisym a b x y = omega arith

    refl_le : (a b : ℕ) → a ≡ b → a ≤ b
    refl_le a b e = omega arith

    by_last : (y : ℕ) → (t ≡ y) ⊎ ((x : ℕ) × (blocker_of g x ≡ Some t) × (reaches g x y ≡ true)) → urgency_of g t ≤ urgency_of g y
    by_last y (inl e) = refl_le (urgency_of g t) (urgency_of g y) (ap (urgency_of g) e)
    by_last y (inr w) = absurd (nobody w.0 w.1)

untouched : (touched : List ℕ) (h : Graph) (t y : ℕ) → IsAway touched h t → t < length h.blockers → reaches h t y ≡ true → is_among touched y ≡ false
untouched touched h t y away small r =
    let inside : y < length h.blockers = reach_within (length h.blockers) h t y small r in
    ⊎_elim (λ e. absurd (false≢true (sym (away y e) ∙ reach_among h t y small inside ∙ r))) (λ e. e) (cases_Bool (is_among touched y))

touched_some : (touched : List ℕ) (o : Option ℕ) (v : ℕ) → o ≡ Some v → IsTouched touched o → is_among touched v ≡ true
touched_some touched o v e h = rw e at h

-- the reach in one graph is in the reach in the other, away from what differs
same_reach : (k : ℕ) (touched : List ℕ) (g h : Graph) (t y : ℕ) → SameBut touched g h → IsAway touched h t → t < length h.blockers → meets_in k h t y ≡ true → meets_in k g t y ≡ true
same_reach zero touched g h t y s away small r = r
same_reach (suc k) touched g h t y s away small r =
    ⊎_elim (member (suc k) (blocker_of g) (t ∷ []) y) (further (λ v m. same_reach k touched g h t v s away small m)) (or_cases (is_among (t ∷ []) y) (hits_on (λ v. meets_in k h t v) (blocker_of h y)) r)
  where
    further : ((v : ℕ) → meets_in k h t v ≡ true → meets_in k g t v ≡ true) → hits_on (λ v. meets_in k h t v) (blocker_of h y) ≡ true → meets_in (suc k) g t y ≡ true
    further again m =
        let w = went_on (λ v. meets_in k h t v) (blocker_of h y) m in
        or_right (is_among (t ∷ []) y) (hits_on (λ v. meets_in k g t v) (blocker_of g y))
        (go_on (λ v. meets_in k g t v) (blocker_of g y) w.0 (by_case w.0 w.1 w.2 (s.blockers y (untouched touched h t y away small (any_steps (suc k) h t y small r)))) (again w.0 w.2))
      where
        by_case : (v : ℕ) → blocker_of h y ≡ Some v → meets_in k h t v ≡ true
            → (blocker_of g y ≡ blocker_of h y) ⊎ (IsTouched touched (blocker_of g y) × IsTouched touched (blocker_of h y)) → blocker_of g y ≡ Some v
        by_case v e there (inl same) = same ∙ e
        by_case v e there (inr both) = absurd (false≢true (sym (untouched touched h t v away small (any_steps k h t v small there)) ∙ touched_some touched (blocker_of h y) v e both.1))

pub less_away : (touched : List ℕ) (g h : Graph) (t : ℕ) → SameBut touched g h → IsAway touched h t → t < length g.blockers → cur_of g t ≤ cur_of h t
less_away touched g h t s away small =
    let inside : t < length h.blockers = omega (arith, s.size) in
    cur_glb h t (cur_of g t) inside (λ y r.
    let there : reaches g t y ≡ true = any_steps (length h.blockers) g t y small (same_reach (length h.blockers) touched g h t y s away inside r) in
    let low : cur_of g t ≤ urgency_of g y = cur_le g t y small there in
    let same : urgency_of g y ≡ urgency_of h y = s.urgencies y (untouched touched h t y away inside r) in
    follows (cur_of g t) (urgency_of g y) (urgency_of h y) low same)
  where
    follows : (a b c : ℕ) → a ≤ b → b ≡ c → a ≤ c
    follows a b c x y = omega arith

turned : (touched : List ℕ) (g h : Graph) → SameBut touched g h → SameBut touched h g
turned touched g h s = record { size = sym s.size; blockers = λ x e. by_case x (s.blockers x e); urgencies = λ x e. sym (s.urgencies x e) }
  where
    by_case : (x : ℕ) → (blocker_of g x ≡ blocker_of h x) ⊎ (IsTouched touched (blocker_of g x) × IsTouched touched (blocker_of h x))
        → (blocker_of h x ≡ blocker_of g x) ⊎ (IsTouched touched (blocker_of h x) × IsTouched touched (blocker_of g x))
    by_case x (inl e) = inl (sym e)
    by_case x (inr both) = inr (both.1, both.0)

pub same_away : (touched : List ℕ) (g h : Graph) (t : ℕ) → SameBut touched g h → t < length g.blockers → IsAway touched g t → IsAway touched h t → cur_of g t ≡ cur_of h t
same_away touched g h t s small a b =
    antisym (cur_of g t) (cur_of h t) (less_away touched g h t s b small) (less_away touched h g t (turned touched g h s) a (omega (arith, s.size)))
  where
    antisym : (a b : ℕ) → a ≤ b → b ≤ a → a ≡ b
    antisym a b x y = omega arith
