-- Rows by their start numbers.
use Rattle.std.proofs.Common.{◌≡◌, ◌≢◌, ◌<◌, List, [], ◌∷◌, ◌++◌, filter, Bool, true, false, cond, ◌||◌, ◌&&◌, nat_lt, Option, Some, refl, sym, ap, ◌∙◌, arith}
use Rattle.std.specs.List.{AllByRecursion, list_any, find}
use Rattle.std.proofs.lemmas.Bool.{cond-true, cond-false}
use Rattle.std.proofs.lemmas.Bool.Decides.{nat_tests}
use Rattle.timer_skip.specs.Armed.{ArmedRow, put_by_number, by_number}

-- what holds of a row and of each of a list

pub Each-put : (P : ArmedRow → Type 0) (r : ArmedRow) (xs : List ArmedRow) → P r → AllByRecursion P xs → AllByRecursion P (put_by_number r xs)
Each-put P r [] h k = (h, tt)
Each-put P r (x ∷ xs) h k = by_test (nat_lt r.number x.number) (Each-put P r xs h k.1)
  where
    by_test : (b : Bool) → AllByRecursion P (put_by_number r xs) → AllByRecursion P (cond b (r ∷ x ∷ xs) (x ∷ put_by_number r xs))
    by_test true e = (h, k)
    by_test false e = (k.0, e)

pub Each-from_put : (P : ArmedRow → Type 0) (r : ArmedRow) (xs : List ArmedRow) → AllByRecursion P (put_by_number r xs) → P r × AllByRecursion P xs
Each-from_put P r [] h = h
Each-from_put P r (x ∷ xs) h = by_test (nat_lt r.number x.number) h (Each-from_put P r xs)
  where
    by_test : (b : Bool) → AllByRecursion P (cond b (r ∷ x ∷ xs) (x ∷ put_by_number r xs)) → (AllByRecursion P (put_by_number r xs) → P r × AllByRecursion P xs) → P r × AllByRecursion P (x ∷ xs)
    by_test true k more = k
    by_test false k more = ((more k.1).0, (k.0, (more k.1).1))

pub Each-by_number : (P : ArmedRow → Type 0) (xs : List ArmedRow) → AllByRecursion P xs → AllByRecursion P (by_number xs)
Each-by_number P [] h = tt
Each-by_number P (x ∷ xs) h = Each-put P x (by_number xs) h.0 (Each-by_number P xs h.1)

pub Each-from_by_number : (P : ArmedRow → Type 0) (xs : List ArmedRow) → AllByRecursion P (by_number xs) → AllByRecursion P xs
Each-from_by_number P [] h = tt
Each-from_by_number P (x ∷ xs) h = let k = Each-from_put P x (by_number xs) h in (k.0, Each-from_by_number P xs k.1)

pub Each-weaker : {X : Type 0} (P Q : X → Type 0) (more : (x : X) → P x → Q x) (xs : List X) → AllByRecursion P xs → AllByRecursion Q xs
Each-weaker P Q more [] h = tt
Each-weaker P Q more (x ∷ xs) h = (more x h.0, Each-weaker P Q more xs h.1)

pub Each-filter : {X : Type 0} (P : X → Type 0) (p : X → Bool) (xs : List X) → AllByRecursion P xs → AllByRecursion P (filter p xs)
Each-filter P p [] h = tt
Each-filter {X} P p (x ∷ xs) h = by_test (p x) (Each-filter P p xs h.1)
  where
    by_test : (b : Bool) → AllByRecursion P (filter p xs) → AllByRecursion P (cond b (x ∷ filter p xs) (filter p xs))
    by_test true e = (h.0, e)
    by_test false e = e

-- rows in the order of their start numbers
abbrev pub IsByStart : List ArmedRow → Type 0
IsByStart [] = Unit {0}
IsByStart (x ∷ xs) = AllByRecursion (λ (y : ArmedRow). x.number < y.number) xs × IsByStart xs

-- rows of which no two have one start number
abbrev pub HaveOwnStarts : List ArmedRow → Type 0
HaveOwnStarts [] = Unit {0}
HaveOwnStarts (x ∷ xs) = AllByRecursion (λ (y : ArmedRow). x.number ≢ y.number) xs × HaveOwnStarts xs

IsByStart-put : (r : ArmedRow) (xs : List ArmedRow) → AllByRecursion (λ (y : ArmedRow). r.number ≢ y.number) xs → IsByStart xs → IsByStart (put_by_number r xs)
IsByStart-put r [] d s = (tt, tt)
IsByStart-put r (x ∷ xs) d s = by_test (nat_lt r.number x.number) refl (IsByStart-put r xs d.1 s.1)
  where
    by_test : (b : Bool) → nat_lt r.number x.number ≡ b → IsByStart (put_by_number r xs) → IsByStart (cond b (r ∷ x ∷ xs) (x ∷ put_by_number r xs))
    by_test true e k =
        let less : r.number < x.number = grind (arith, nat_tests, e) in
        ((less, Each-weaker (λ (y : ArmedRow). x.number < y.number) (λ (y : ArmedRow). r.number < y.number) (λ y h. omega arith) xs s.0), s)
    by_test false e k =
        let more : x.number < r.number = grind (arith, nat_tests, e, d.0) in
        (Each-put (λ (y : ArmedRow). x.number < y.number) r xs more s.0, k)

pub IsByStart-by_number : (xs : List ArmedRow) → HaveOwnStarts xs → IsByStart (by_number xs)
IsByStart-by_number [] d = tt
IsByStart-by_number (x ∷ xs) d = IsByStart-put x (by_number xs) (Each-by_number (λ (y : ArmedRow). x.number ≢ y.number) xs d.0) (IsByStart-by_number xs d.1)

-- a row that was started before all others
put_first : (r : ArmedRow) (xs : List ArmedRow) → AllByRecursion (λ (y : ArmedRow). r.number < y.number) xs → put_by_number r xs ≡ r ∷ xs
put_first r [] h = refl
put_first r (x ∷ xs) h = cond-true (nat_lt r.number x.number) _ _ (grind (arith, nat_tests, h.0))

-- a row that was started after all others
pub put_last : (r : ArmedRow) (xs : List ArmedRow) → AllByRecursion (λ (y : ArmedRow). y.number < r.number) xs → put_by_number r xs ≡ xs ++ r ∷ []
put_last r [] h = refl
put_last r (x ∷ xs) h = cond-false (nat_lt r.number x.number) _ _ (grind (arith, nat_tests, h.0)) ∙ ap (λ l. x ∷ l) (put_last r xs h.1)

-- rows that are in order already
pub by_number-same : (xs : List ArmedRow) → IsByStart xs → by_number xs ≡ xs
by_number-same [] s = refl
by_number-same (x ∷ xs) s = ap (put_by_number x) (by_number-same xs s.1) ∙ put_first x xs s.0

-- a filter before and after a row is put in
filter-put : (p : ArmedRow → Bool) (r : ArmedRow) (xs : List ArmedRow) → IsByStart xs → filter p (put_by_number r xs) ≡ cond (p r) (put_by_number r (filter p xs)) (filter p xs)
filter-put p r [] s = by_test (p r)
  where
    by_test : (b : Bool) → cond b (r ∷ []) [] ≡ cond b (r ∷ []) []
    by_test b = refl
filter-put p r (x ∷ xs) s = by_tests (nat_lt r.number x.number) refl (p r) refl (p x) refl (filter-put p r xs s.1)
  where
    by_tests : (b : Bool) → nat_lt r.number x.number ≡ b → (c : Bool) → p r ≡ c → (d : Bool) → p x ≡ d
        → filter p (put_by_number r xs) ≡ cond (p r) (put_by_number r (filter p xs)) (filter p xs)
        → filter p (cond b (r ∷ x ∷ xs) (x ∷ put_by_number r xs)) ≡ cond c (put_by_number r (cond d (x ∷ filter p xs) (filter p xs))) (cond d (x ∷ filter p xs) (filter p xs))
    by_tests true e true f true g more =
        cond-true (p r) _ _ f ∙ ap (λ l. r ∷ l) (cond-true (p x) _ _ g) ∙ sym (cond-true (nat_lt r.number x.number) _ _ e)
    by_tests true e true f false g more =
        let less : r.number < x.number = grind (arith, nat_tests, e) in
        let later = Each-weaker (λ (y : ArmedRow). x.number < y.number) (λ (y : ArmedRow). r.number < y.number) (λ y h. omega arith) xs s.0 in
        cond-true (p r) _ _ f ∙ ap (λ l. r ∷ l) (cond-false (p x) _ _ g) ∙ sym (put_first r (filter p xs) (Each-filter (λ (y : ArmedRow). r.number < y.number) p xs later))
    by_tests true e false f true g more = cond-false (p r) _ _ f ∙ cond-true (p x) _ _ g
    by_tests true e false f false g more = cond-false (p r) _ _ f ∙ cond-false (p x) _ _ g
    by_tests false e true f true g more =
        cond-true (p x) _ _ g ∙ ap (λ l. x ∷ l) (more ∙ cond-true (p r) _ _ f) ∙ sym (cond-false (nat_lt r.number x.number) _ _ e)
    by_tests false e true f false g more = cond-false (p x) _ _ g ∙ more ∙ cond-true (p r) _ _ f
    by_tests false e false f true g more = cond-true (p x) _ _ g ∙ ap (λ l. x ∷ l) (more ∙ cond-false (p r) _ _ f)
    by_tests false e false f false g more = cond-false (p x) _ _ g ∙ more ∙ cond-false (p r) _ _ f

pub filter-by_number : (p : ArmedRow → Bool) (xs : List ArmedRow) → HaveOwnStarts xs → filter p (by_number xs) ≡ by_number (filter p xs)
filter-by_number p [] d = refl
filter-by_number p (x ∷ xs) d = filter-put p x (by_number xs) (IsByStart-by_number xs d.1) ∙ by_test (p x) (filter-by_number p xs d.1)
  where
    by_test : (b : Bool) → filter p (by_number xs) ≡ by_number (filter p xs)
        → cond b (put_by_number x (filter p (by_number xs))) (filter p (by_number xs)) ≡ by_number (cond b (x ∷ filter p xs) (filter p xs))
    by_test true e = ap (put_by_number x) e
    by_test false e = e

-- of two rows it doesn't matter which is put in first
pub put_comm : (a b : ArmedRow) (xs : List ArmedRow) → a.number ≢ b.number → put_by_number a (put_by_number b xs) ≡ put_by_number b (put_by_number a xs)
put_comm a b [] h = by_test (nat_lt a.number b.number) refl
  where
    by_test : (c : Bool) → nat_lt a.number b.number ≡ c → put_by_number a (b ∷ []) ≡ put_by_number b (a ∷ [])
    by_test true e = cond-true (nat_lt a.number b.number) _ _ e ∙ sym (cond-false (nat_lt b.number a.number) _ _ (grind (arith, nat_tests)))
    by_test false e = cond-false (nat_lt a.number b.number) _ _ e ∙ sym (cond-true (nat_lt b.number a.number) _ _ (grind (arith, nat_tests)))
put_comm a b (c ∷ cs) h = by_tests (nat_lt a.number b.number) refl (nat_lt a.number c.number) refl (nat_lt b.number c.number) refl (put_comm a b cs h)
  where
    one : (x y : ArmedRow) (l : List ArmedRow) → nat_lt x.number y.number ≡ true → put_by_number x (y ∷ l) ≡ x ∷ y ∷ l
    one x y l e = cond-true _ _ _ e

    two : (x y : ArmedRow) (l : List ArmedRow) → nat_lt x.number y.number ≡ false → put_by_number x (y ∷ l) ≡ y ∷ put_by_number x l
    two x y l e = cond-false _ _ _ e

    by_tests : (p : Bool) → nat_lt a.number b.number ≡ p → (q : Bool) → nat_lt a.number c.number ≡ q → (r : Bool) → nat_lt b.number c.number ≡ r
        → put_by_number a (put_by_number b cs) ≡ put_by_number b (put_by_number a cs) → put_by_number a (put_by_number b (c ∷ cs)) ≡ put_by_number b (put_by_number a (c ∷ cs))
    by_tests true ab true ac true bc rest =
        ap (put_by_number a) (one b c cs bc) ∙ one a b (c ∷ cs) ab ∙ sym (ap (put_by_number b) (one a c cs ac) ∙ two b a (c ∷ cs) (grind (arith, nat_tests)) ∙ ap (λ l. a ∷ l) (one b c cs bc))
    by_tests true ab false ac true bc rest = absurd (grind (arith, nat_tests))
    by_tests false ab true ac true bc rest =
        ap (put_by_number a) (one b c cs bc) ∙ two a b (c ∷ cs) ab ∙ ap (λ l. b ∷ l) (one a c cs ac) ∙ sym (ap (put_by_number b) (one a c cs ac) ∙ one b a (c ∷ cs) (grind (arith, nat_tests)))
    by_tests false ab false ac true bc rest =
        ap (put_by_number a) (one b c cs bc) ∙ two a b (c ∷ cs) ab ∙ ap (λ l. b ∷ l) (two a c cs ac) ∙ sym (ap (put_by_number b) (two a c cs ac) ∙ one b c (put_by_number a cs) bc)
    by_tests true ab true ac false bc rest =
        ap (put_by_number a) (two b c cs bc) ∙ one a c (put_by_number b cs) ac ∙ sym (ap (put_by_number b) (one a c cs ac) ∙ two b a (c ∷ cs) (grind (arith, nat_tests)) ∙ ap (λ l. a ∷ l) (two b c cs bc))
    by_tests false ab true ac false bc rest = absurd (grind (arith, nat_tests))
    by_tests true ab false ac false bc rest =
        ap (put_by_number a) (two b c cs bc) ∙ two a c (put_by_number b cs) ac ∙ ap (λ l. c ∷ l) rest ∙ sym (ap (put_by_number b) (two a c cs ac) ∙ two b c (put_by_number a cs) bc)
    by_tests false ab false ac false bc rest =
        ap (put_by_number a) (two b c cs bc) ∙ two a c (put_by_number b cs) ac ∙ ap (λ l. c ∷ l) rest ∙ sym (ap (put_by_number b) (two a c cs ac) ∙ two b c (put_by_number a cs) bc)

-- whether a row passes a test, and the first that does, once a row is put in
any-put : (p : ArmedRow → Bool) (r : ArmedRow) (xs : List ArmedRow) → list_any p (put_by_number r xs) ≡ (p r || list_any p xs)
any-put p r [] = refl
any-put p r (x ∷ xs) = by_test (nat_lt r.number x.number) (any-put p r xs)
  where
    by_test : (b : Bool) → list_any p (put_by_number r xs) ≡ (p r || list_any p xs) → list_any p (cond b (r ∷ x ∷ xs) (x ∷ put_by_number r xs)) ≡ (p r || (p x || list_any p xs))
    by_test true e = refl
    by_test false e = ap (λ b. p x || b) e ∙ swap (p x) (p r) (list_any p xs)
      where
        swap : (a b c : Bool) → (a || (b || c)) ≡ (b || (a || c))
        swap true true c = refl
        swap true false c = refl
        swap false true c = refl
        swap false false c = refl

pub any-by_number : (p : ArmedRow → Bool) (xs : List ArmedRow) → list_any p (by_number xs) ≡ list_any p xs
any-by_number p [] = refl
any-by_number p (x ∷ xs) = any-put p x (by_number xs) ∙ ap (λ b. p x || b) (any-by_number p xs)

find-put : (p : ArmedRow → Bool) (r : ArmedRow) (xs : List ArmedRow) → (p r && list_any p xs) ≡ false → find p (put_by_number r xs) ≡ cond (p r) (Some r) (find p xs)
find-put p r [] h = refl
find-put p r (x ∷ xs) h = by_test (nat_lt r.number x.number) (find-put p r xs (apart (p r) (p x) (list_any p xs) h).1)
  where
    apart : (a b c : Bool) → (a && (b || c)) ≡ false → ((a && b) ≡ false) × ((a && c) ≡ false)
    apart true true c e = grind arith
    apart true false c e = (refl, e)
    apart false b c e = (refl, refl)

    swap : (a b : Bool) (o : Option ArmedRow) → (b && a) ≡ false → cond a (Some x) (cond b (Some r) o) ≡ cond b (Some r) (cond a (Some x) o)
    swap true true o e = grind arith
    swap true false o e = refl
    swap false true o e = refl
    swap false false o e = refl

    by_test : (b : Bool) → find p (put_by_number r xs) ≡ cond (p r) (Some r) (find p xs) → find p (cond b (r ∷ x ∷ xs) (x ∷ put_by_number r xs)) ≡ cond (p r) (Some r) (cond (p x) (Some x) (find p xs))
    by_test true e = refl
    by_test false e = ap (λ o. cond (p x) (Some x) o) e ∙ swap (p x) (p r) (find p xs) (apart (p r) (p x) (list_any p xs) h).0

-- a test that at most one row of a list passes
abbrev pub PassesOnce : (ArmedRow → Bool) → List ArmedRow → Type 0
PassesOnce p [] = Unit {0}
PassesOnce p (x ∷ xs) = ((p x && list_any p xs) ≡ false) × PassesOnce p xs

pub find-by_number : (p : ArmedRow → Bool) (xs : List ArmedRow) → PassesOnce p xs → find p (by_number xs) ≡ find p xs
find-by_number p [] h = refl
find-by_number p (x ∷ xs) h =
    find-put p x (by_number xs) (ap (λ b. p x && b) (any-by_number p xs) ∙ h.0) ∙ ap (λ o. cond (p x) (Some x) o) (find-by_number p xs h.1)
