-- How many elements of a list pass a test, by recursion, and what changes it.
use Rattle.std.proofs.Common.{◌≡◌, ◌≢◌, ◌⊎◌, inl, inr, leb, leb-true, leb-false, ◌+◌, ◌≤◌, ◌<◌, ◌∷◌, [], ◌++◌, ℕ, zero, suc, List, Option, Some, None, Bool, true, false, not, ◌||◌, cond, length, eqb, refl, sym, ap, ◌∙◌, subst, arith, eq-eqb, eqb-true, ne_eqb, slice_index_or, slice_set, filter, map, count_by, if◌then◌else◌, find}
use Rattle.std.specs.List.{AllByRecursion}
use Rattle.std.proofs.lemmas.List.Recursion.{is_count_by}
use Rattle.rt_plain.specs.kernel.Tally.{one_if, tally}
use Rattle.rt_plain.specs.kernel.State.{is_number, is_among}
use Rattle.rt_plain.proofs.TestLemmas.{some-is}

one_if-cond : (c : Bool) (n : ℕ) → one_if c + n ≡ cond c (1 + n) n
one_if-cond true n = refl
one_if-cond false n = omega arith

pub tally-count : {X : Type 0} (p : X → Bool) (xs : List X) → tally p xs ≡ count_by p xs
tally-count p xs = is_count_by (tally p) p refl (λ y ys. one_if-cond (p y) (tally p ys)) xs

pub tally-append : {X : Type 0} (p : X → Bool) (xs ys : List X) → tally p (xs ++ ys) ≡ tally p xs + tally p ys
tally-append p [] ys = omega arith
tally-append p (x ∷ xs) ys = omega (arith, tally-append p xs ys)

pub tally-last : {X : Type 0} (p : X → Bool) (xs : List X) (y : X) → tally p (xs ++ y ∷ []) ≡ tally p xs + one_if (p y)
tally-last p xs y = omega (arith, tally-append p xs (y ∷ []))

pub tally-map : {X Y : Type 0} (p : Y → Bool) (f : X → Y) (xs : List X) → tally p (map f xs) ≡ tally (λ x. p (f x)) xs
tally-map p f [] = refl
tally-map p f (x ∷ xs) = ap (λ n. one_if (p (f x)) + n) (tally-map p f xs)

-- a list split by a test and joined again
pub tally-split : {X : Type 0} (p q : X → Bool) (xs : List X) → tally p (filter (λ x. not (q x)) xs ++ filter q xs) ≡ tally p xs
tally-split p q [] = refl
tally-split p q (x ∷ xs) = by_test (q x) (tally-split p q xs) where
  by_test : (c : Bool) → tally p (filter (λ y. not (q y)) xs ++ filter q xs) ≡ tally p xs → tally p (cond (not c) (x ∷ filter (λ y. not (q y)) xs) (filter (λ y. not (q y)) xs) ++ cond c (x ∷ filter q xs) (filter q xs)) ≡ one_if (p x) + tally p xs
  by_test true is = omega (arith, tally-append p (filter (λ y. not (q y)) xs) (x ∷ filter q xs), tally-append p (filter (λ y. not (q y)) xs) (filter q xs), is)
  by_test false is = omega (arith, is)

pub tally-filter : {X : Type 0} (p q : X → Bool) (xs : List X) → tally p (filter q xs) ≤ tally p xs
tally-filter p q [] = omega arith
tally-filter p q (x ∷ xs) = by_test (q x) (tally-filter p q xs) where
  by_test : (c : Bool) → tally p (filter q xs) ≤ tally p xs → tally p (cond c (x ∷ filter q xs) (filter q xs)) ≤ one_if (p x) + tally p xs
  by_test true le = omega (arith, le)
  by_test false le = omega (arith, le)

pub tally-length : {X : Type 0} (p : X → Bool) (xs : List X) → tally p xs ≤ length xs
tally-length p [] = omega arith
tally-length p (x ∷ xs) = by_test (p x) (tally-length p xs) where
  by_test : (c : Bool) → tally p xs ≤ length xs → one_if c + tally p xs ≤ suc (length xs)
  by_test true le = omega (arith, le)
  by_test false le = omega (arith, le)

-- what passes is left out
pub tally-dropped : {X : Type 0} (p : X → Bool) (xs : List X) → tally p (filter (λ x. not (p x)) xs) ≡ 0
tally-dropped p [] = refl
tally-dropped p (x ∷ xs) = by_test (p x) refl (tally-dropped p xs) where
  by_test : (c : Bool) → p x ≡ c → tally p (filter (λ y. not (p y)) xs) ≡ 0 → tally p (cond (not c) (x ∷ filter (λ y. not (p y)) xs) (filter (λ y. not (p y)) xs)) ≡ 0
  by_test true is none = none
  by_test false is none = rw is (omega (arith, none))

-- a number is taken out of a list
pub tally-without_same : (t : ℕ) (xs : List ℕ) → tally (λ u. eqb u t) (filter (λ u. not (eqb u t)) xs) ≡ 0
tally-without_same t [] = refl
tally-without_same t (x ∷ xs) = by_test (eqb x t) refl (tally-without_same t xs) where
  by_test : (c : Bool) → eqb x t ≡ c → tally (λ u. eqb u t) (filter (λ u. not (eqb u t)) xs) ≡ 0 → tally (λ u. eqb u t) (cond (not c) (x ∷ filter (λ u. not (eqb u t)) xs) (filter (λ u. not (eqb u t)) xs)) ≡ 0
  by_test true is none = none
  by_test false is none = rw is (omega (arith, none))

pub tally-without_other : (t u : ℕ) (xs : List ℕ) → u ≢ t → tally (λ x. eqb x u) (filter (λ x. not (eqb x t)) xs) ≡ tally (λ x. eqb x u) xs
tally-without_other t u [] apart = refl
tally-without_other t u (x ∷ xs) apart = by_test (eqb x t) refl (tally-without_other t u xs apart) where
  by_test : (c : Bool) → eqb x t ≡ c → tally (λ y. eqb y u) (filter (λ y. not (eqb y t)) xs) ≡ tally (λ y. eqb y u) xs → tally (λ y. eqb y u) (cond (not c) (x ∷ filter (λ y. not (eqb y t)) xs) (filter (λ y. not (eqb y t)) xs)) ≡ one_if (eqb x u) + tally (λ y. eqb y u) xs
  by_test true is same =
      let here : x ≡ t = eqb-true x t is in
      let there : x ≢ u = λ e. apart (sym e ∙ here) in
      rw (ne_eqb x u there) (omega (arith, same))
  by_test false is same = omega (arith, same)

-- a thread leaves its cores
number-same : (t : ℕ) → is_number t (Some t) ≡ true
number-same t = eq-eqb t t refl

pub tally-left_same : (t : ℕ) (xs : List (Option ℕ)) → tally (is_number t) (map (λ r. if is_number t r then None else r) xs) ≡ 0
tally-left_same t [] = refl
tally-left_same t (x ∷ xs) = by_test (is_number t x) refl (tally-left_same t xs) where
  by_test : (c : Bool) → is_number t x ≡ c → tally (is_number t) (map (λ r. if is_number t r then None else r) xs) ≡ 0 → one_if (is_number t (if c then None else x)) + tally (is_number t) (map (λ r. if is_number t r then None else r) xs) ≡ 0
  by_test true is none = omega (arith, none)
  by_test false is none = rw is (omega (arith, none))

number-other : (t u : ℕ) (x : Option ℕ) → u ≢ t → is_number t x ≡ true → is_number u x ≡ false
number-other t u None apart is = refl
number-other t u (Some m) apart is =
    let here : t ≡ m = eqb-true t m is in
    ne_eqb u m (λ e. apart (e ∙ sym here))

pub tally-left_other : (t u : ℕ) (xs : List (Option ℕ)) → u ≢ t → tally (is_number u) (map (λ r. if is_number t r then None else r) xs) ≡ tally (is_number u) xs
tally-left_other t u [] apart = refl
tally-left_other t u (x ∷ xs) apart = by_test (is_number t x) refl (tally-left_other t u xs apart) where
  by_test : (c : Bool) → is_number t x ≡ c → tally (is_number u) (map (λ r. if is_number t r then None else r) xs) ≡ tally (is_number u) xs → one_if (is_number u (if c then None else x)) + tally (is_number u) (map (λ r. if is_number t r then None else r) xs) ≡ one_if (is_number u x) + tally (is_number u) xs
  by_test true is same = rw (number-other t u x apart is) (omega (arith, same))
  by_test false is same = omega (arith, same)

-- a core runs another thread than before
pub tally-set : {X : Type 0} (p : X → Bool) (xs : List X) (i : ℕ) (y d : X) → i < length xs → tally p (slice_set xs i y) + one_if (p (slice_index_or xs i d)) ≡ tally p xs + one_if (p y)
tally-set p [] i y d lt = absurd (none lt) where
  none : i < 0 → ⊥
  none lt = omega arith
tally-set p (x ∷ xs) zero y d lt = omega arith
tally-set p (x ∷ xs) (suc i) y d lt = omega (arith, tally-set p xs i y d (omega (arith, lt)))

-- what stands in a list counts
pub tally-at : {X : Type 0} (p : X → Bool) (xs : List X) (i : ℕ) (d : X) → p (slice_index_or xs i d) ≡ true → p d ≡ false → 1 ≤ tally p xs
tally-at p [] i d is past = absurd (clash (sym is ∙ past)) where
  clash : true ≡ false → ⊥
  clash e = cc
tally-at p (x ∷ xs) zero d is past = rw is (omega arith)
tally-at p (x ∷ xs) (suc i) d is past = omega (arith, tally-at p xs i d is past)

-- and in two places twice
pub tally-twice : {X : Type 0} (p : X → Bool) (xs : List X) (i j : ℕ) (d : X) → i ≢ j → p (slice_index_or xs i d) ≡ true → p (slice_index_or xs j d) ≡ true → p d ≡ false → 2 ≤ tally p xs
tally-twice p [] i j d apart is also past = absurd (clash (sym is ∙ past)) where
  clash : true ≡ false → ⊥
  clash e = cc
tally-twice p (x ∷ xs) zero zero d apart is also past = absurd (apart refl)
tally-twice p (x ∷ xs) zero (suc j) d apart is also past = rw is (omega (arith, tally-at p xs j d also past))
tally-twice p (x ∷ xs) (suc i) zero d apart is also past = rw also (omega (arith, tally-at p xs i d is past))
tally-twice p (x ∷ xs) (suc i) (suc j) d apart is also past = omega (arith, tally-twice p xs i j d (λ e. apart (ap suc e)) is also past)

pub tally-among : (xs : List ℕ) (t : ℕ) → is_among xs t ≡ true → 1 ≤ tally (λ u. eqb u t) xs
tally-among [] t is = absurd cc
tally-among (x ∷ xs) t is = by_test (eqb x t) refl is (tally-among xs t) where
  by_test : (c : Bool) → eqb x t ≡ c → c || is_among xs t ≡ true → (is_among xs t ≡ true → 1 ≤ tally (λ u. eqb u t) xs) → 1 ≤ one_if c + tally (λ u. eqb u t) xs
  by_test true same is more = omega arith
  by_test false same is more = omega (arith, more is)

-- each element of a list counts in it
pub all-count : (xs : List ℕ) → AllByRecursion (λ t. 1 ≤ tally (λ u. eqb u t) xs) xs
all-count [] = tt
all-count (x ∷ xs) = (rw (eq-eqb x x refl) (omega arith), more xs (all-count xs)) where
  more : (ys : List ℕ) → AllByRecursion (λ t. 1 ≤ tally (λ u. eqb u t) xs) ys → AllByRecursion (λ t. 1 ≤ tally (λ u. eqb u t) (x ∷ xs)) ys
  more [] all = tt
  more (y ∷ ys) all = (omega (arith, all.0), more ys all.1)

-- what holds of each element
pub all-weaker : {X : Type 0} (P Q : X → Type 0) (xs : List X) → ((x : X) → P x → Q x) → AllByRecursion P xs → AllByRecursion Q xs
all-weaker P Q [] step all = tt
all-weaker P Q (x ∷ xs) step all = (step x all.0, all-weaker P Q xs step all.1)

pub all-both : {X : Type 0} (P Q R : X → Type 0) (xs : List X) → ((x : X) → P x → Q x → R x) → AllByRecursion P xs → AllByRecursion Q xs → AllByRecursion R xs
all-both P Q R [] step one other = tt
all-both P Q R (x ∷ xs) step one other = (step x one.0 other.0, all-both P Q R xs step one.1 other.1)

pub all-filter : {X : Type 0} (P : X → Type 0) (q : X → Bool) (xs : List X) → AllByRecursion P xs → AllByRecursion P (filter q xs)
all-filter P q [] all = tt
all-filter P q (x ∷ xs) all = by_test (q x) (all-filter P q xs all.1) where
  by_test : (c : Bool) → AllByRecursion P (filter q xs) → AllByRecursion P (cond c (x ∷ filter q xs) (filter q xs))
  by_test true more = (all.0, more)
  by_test false more = more

-- what a filter keeps passes it
pub all-passing : {X : Type 0} (P Q : X → Type 0) (q : X → Bool) (xs : List X) → ((x : X) → q x ≡ true → P x → Q x) → AllByRecursion P xs → AllByRecursion Q (filter q xs)
all-passing P Q q [] step all = tt
all-passing P Q q (x ∷ xs) step all = by_test (q x) refl (all-passing P Q q xs step all.1) where
  by_test : (c : Bool) → q x ≡ c → AllByRecursion Q (filter q xs) → AllByRecursion Q (cond c (x ∷ filter q xs) (filter q xs))
  by_test true is more = (step x is all.0, more)
  by_test false is more = more

pub all-append : {X : Type 0} (P : X → Type 0) (xs ys : List X) → AllByRecursion P xs → AllByRecursion P ys → AllByRecursion P (xs ++ ys)
all-append P [] ys all more = more
all-append P (x ∷ xs) ys all more = (all.0, all-append P xs ys all.1 more)

pub all-map : {X Y : Type 0} (P : Y → Type 0) (f : X → Y) (xs : List X) → AllByRecursion (λ x. P (f x)) xs → AllByRecursion P (map f xs)
all-map P f [] all = tt
all-map P f (x ∷ xs) all = (all.0, all-map P f xs all.1)

pub all-found : {X : Type 0} (P : X → Type 0) (q : X → Bool) (xs : List X) (x : X) → find q xs ≡ Some x → AllByRecursion P xs → P x
all-found P q [] x is all = absurd cc
all-found P q (y ∷ ys) x is all = by_test (q y) is (λ more. all-found P q ys x more all.1) where
  by_test : (c : Bool) → cond c (Some y) (find q ys) ≡ Some x → (find q ys ≡ Some x → P x) → P x
  by_test true is more = subst P (some-is y x is) all.0
  by_test false is more = more is

pub all-at : {X : Type 0} (P : X → Type 0) (xs : List X) (i : ℕ) (d : X) → P d → AllByRecursion P xs → P (slice_index_or xs i d)
all-at P [] i d default all = default
all-at P (x ∷ xs) zero d default all = all.0
all-at P (x ∷ xs) (suc i) d default all = all-at P xs i d default all.1

pub all-set : {X : Type 0} (P : X → Type 0) (xs : List X) (i : ℕ) (y : X) → P y → AllByRecursion P xs → AllByRecursion P (slice_set xs i y)
all-set P [] i y new all = tt
all-set P (x ∷ xs) zero y new all = (new, all.1)
all-set P (x ∷ xs) (suc i) y new all = (all.0, all-set P xs i y new all.1)

-- a write of an element with the same f
pub same-set : {X Y : Type 0} (f : X → Y) (xs : List X) (i j : ℕ) (y d : X) → f y ≡ f (slice_index_or xs i d) → f (slice_index_or (slice_set xs i y) j d) ≡ f (slice_index_or xs j d)
same-set f [] i j y d is = refl
same-set f (x ∷ xs) zero zero y d is = is
same-set f (x ∷ xs) zero (suc j) y d is = refl
same-set f (x ∷ xs) (suc i) zero y d is = refl
same-set f (x ∷ xs) (suc i) (suc j) y d is = same-set f xs i j y d is

pub other-set : {X : Type 0} (xs : List X) (i j : ℕ) (y d : X) → j ≢ i → slice_index_or (slice_set xs i y) j d ≡ slice_index_or xs j d
other-set [] i j y d apart = refl
other-set (x ∷ xs) zero zero y d apart = absurd (apart refl)
other-set (x ∷ xs) zero (suc j) y d apart = refl
other-set (x ∷ xs) (suc i) zero y d apart = refl
other-set (x ∷ xs) (suc i) (suc j) y d apart = other-set xs i j y d (λ e. apart (ap suc e))

pub here-set : {X : Type 0} (xs : List X) (i : ℕ) (y d : X) → i < length xs → slice_index_or (slice_set xs i y) i d ≡ y
here-set [] i y d lt = absurd (none lt) where
  none : i < 0 → ⊥
  none lt = omega arith
here-set (x ∷ xs) zero y d lt = refl
here-set (x ∷ xs) (suc i) y d lt = here-set xs i y d (omega (arith, lt))

pub past-end : {X : Type 0} (xs : List X) (i : ℕ) (d : X) → length xs ≤ i → slice_index_or xs i d ≡ d
past-end [] i d le = refl
past-end (x ∷ xs) zero d le = absurd (none le) where
  none : suc (length xs) ≤ 0 → ⊥
  none le = omega arith
past-end (x ∷ xs) (suc i) d le = past-end xs i d (omega (arith, le))

pub length-set_at : {X : Type 0} (xs : List X) (i : ℕ) (y : X) → length (slice_set xs i y) ≡ length xs
length-set_at [] i y = refl
length-set_at (x ∷ xs) zero y = refl
length-set_at (x ∷ xs) (suc i) y = ap suc (length-set_at xs i y)

-- a map of a list at a place
pub map-at : {X Y : Type 0} (f : X → Y) (xs : List X) (i : ℕ) (d : X) → f (slice_index_or xs i d) ≡ slice_index_or (map f xs) i (f d)
map-at f [] i d = refl
map-at f (x ∷ xs) zero d = refl
map-at f (x ∷ xs) (suc i) d = map-at f xs i d

pub le_or_lt : (n t : ℕ) → (n ≤ t) ⊎ (t < n)
le_or_lt n t = by_test (leb n t) refl where
  by_test : (c : Bool) → leb n t ≡ c → (n ≤ t) ⊎ (t < n)
  by_test true is = inl (leb-true n t is)
  by_test false is = inr (leb-false n t is)
