-- Numbers and names of objects.
use Rattle.std.proofs.Common.{ℕ, ◌≡◌, ◌≢◌, ◌<◌, ◌≤◌, zero, suc, List, [], ◌∷◌, length, Some, None, Bool, true, false, not, cond, ◌||◌, refl, sym, ap, ◌∙◌, arith, eqb}
use Rattle.std.specs.Prelude.{filter, find, All}
use Rattle.std.specs.Option.{option_map}
use Rattle.std.specs.Str.{bytes_eq}
use Rattle.std.proofs.lemmas.Bool.{false≢true, eqb-true, eqb-false, ne_eqb, true≢false}
use Rattle.std.proofs.lemmas.List.Elements.{All-nil, All-cons, All-head, All-tail, All-filter}
use Rattle.std.proofs.lemmas.List.Kept.{AllPairs-cons, AllPairs-filter}
use Rattle.std.proofs.lemmas.Option.{none-some}
use Rattle.std.proofs.lemmas.Slice.Eq.{bytes_eq-Decides}
use Rattle.object_box.specs.declared.object.Object.{Object}
use Rattle.object_box.specs.Objects.{ClassObjects, IsSound, IsLeastFree, has_number, number_of, removed}

-- the objects but for those of a number
abbrev others : List Object → ℕ → List Object
others objects m = filter (λ o. not (eqb o.no m)) objects

pub number_below : (limit : ℕ) (objects : List Object) (n : ℕ) → All (λ o. o.no < limit) objects → has_number objects n ≡ true → n < limit
number_below limit [] n below h = absurd (false≢true h)
number_below limit (o ∷ os) n below h = by_test (eqb o.no n) refl h (number_below limit os n (All-tail (λ (o : Object). o.no < limit) o os below))
  where
    by_test : (b : Bool) → eqb o.no n ≡ b → b || has_number os n ≡ true → (has_number os n ≡ true → n < limit) → n < limit
    by_test true e h rest = omega (arith, eqb-true o.no n e, All-head (λ (o : Object). o.no < limit) o os below)
    by_test false e h rest = rest h

length-others_le : (objects : List Object) (m : ℕ) → length (others objects m) ≤ length objects
length-others_le [] m = omega arith
length-others_le (o ∷ os) m = by_test (eqb o.no m) (length-others_le os m)
  where
    by_test : (b : Bool) → length (others os m) ≤ length os → length (cond (not b) (o ∷ others os m) (others os m)) ≤ length (o ∷ os)
    by_test true h = omega arith
    by_test false h = omega arith

length-others_lt : (objects : List Object) (m : ℕ) → has_number objects m ≡ true → length (others objects m) < length objects
length-others_lt [] m h = absurd (false≢true h)
length-others_lt (o ∷ os) m h = by_test (eqb o.no m) h (length-others_le os m) (length-others_lt os m)
  where
    by_test : (b : Bool) → b || has_number os m ≡ true → length (others os m) ≤ length os → (has_number os m ≡ true → length (others os m) < length os)
        → length (cond (not b) (o ∷ others os m) (others os m)) < length (o ∷ os)
    by_test true h le lt = omega arith
    by_test false h le lt = omega (arith, lt h)

has_number-others : (objects : List Object) (m k : ℕ) → k ≢ m → has_number (others objects m) k ≡ has_number objects k
has_number-others [] m k ne = refl
has_number-others (o ∷ os) m k ne = by_test (eqb o.no m) refl (has_number-others os m k ne)
  where
    by_test : (b : Bool) → eqb o.no m ≡ b → has_number (others os m) k ≡ has_number os k → has_number (cond (not b) (o ∷ others os m) (others os m)) k ≡ eqb o.no k || has_number os k
    by_test true e r = r ∙ sym (ap (λ c. c || has_number os k) (ne_eqb o.no k (λ same. ne (sym same ∙ eqb-true o.no m e))))
    by_test false e r = ap (λ c. eqb o.no k || c) r

-- there are at least as many objects as the numbers below n, where each of these is that of an object
pub at_least : (n : ℕ) (objects : List Object) → ((k : ℕ) → k < n → has_number objects k ≡ true) → n ≤ length objects
at_least zero objects all = omega arith
at_least (suc m) objects all =
    omega (
      arith,
      length-others_lt objects m (all m (omega arith)),
      at_least m (others objects m) (λ k h. has_number-others objects m k (let l : k < m = h in omega arith) ∙ all k (omega arith)),
    )

apart_numbers : (objects : List Object) (n : ℕ) → has_number objects n ≡ false → All (λ o. n ≢ o.no) objects
apart_numbers [] n h = All-nil (λ (o : Object). n ≢ o.no)
apart_numbers (o ∷ os) n h = by_test (eqb o.no n) refl h (apart_numbers os n)
  where
    by_test : (b : Bool) → eqb o.no n ≡ b → b || has_number os n ≡ false → (has_number os n ≡ false → All (λ o. n ≢ o.no) os) → All (λ o. n ≢ o.no) (o ∷ os)
    by_test true e h rest = absurd (true≢false h)
    by_test false e h rest = All-cons (λ (o : Object). n ≢ o.no) o os (λ same. eqb-false o.no n e (sym same)) (rest h)

apart_names : (objects : List Object) (name : List ℕ) → number_of objects name ≡ None → All (λ o. name ≢ o.name) objects
apart_names [] name h = All-nil (λ (o : Object). name ≢ o.name)
apart_names (o ∷ os) name h = by_test (bytes_eq o.name name) refl h (apart_names os name)
  where
    by_test : (b : Bool) → bytes_eq o.name name ≡ b → option_map (λ (o : Object). o.no) (cond b (Some o) (find (λ o. bytes_eq o.name name) os)) ≡ None
        → (number_of os name ≡ None → All (λ o. name ≢ o.name) os) → All (λ o. name ≢ o.name) (o ∷ os)
    by_test true e h rest = absurd (none-some o.no (sym h))
    by_test false e h rest = All-cons (λ (o : Object). name ≢ o.name) o os (λ same. false≢true (sym e ∙ (bytes_eq-Decides o.name name).1 (sym same))) (rest h)

-- one more object
pub sound_made : (c : ClassObjects) (n : ℕ) (name : List ℕ) → IsSound c → number_of c.objects name ≡ None → length c.objects < c.limit → IsLeastFree c.objects n
    → (n < c.limit) × IsSound (record c { objects = record { no = n; name = name } ∷ c.objects })
sound_made c n name sound new room free =
    let below : n < c.limit = omega (arith, at_least n c.objects free.least) in (
      below,
      record {
        few = omega arith;
        below = All-cons (λ (o : Object). o.no < c.limit) (record { no = n; name = name }) c.objects below sound.below;
        numbers = AllPairs-cons (λ (a b : Object). a.no ≢ b.no) (record { no = n; name = name }) c.objects (apart_numbers c.objects n free.free) sound.numbers;
        names = AllPairs-cons (λ (a b : Object). a.name ≢ b.name) (record { no = n; name = name }) c.objects (apart_names c.objects name new) sound.names;
      },
    )

-- one object less
pub sound_removed : (c : ClassObjects) (n : ℕ) → IsSound c → IsSound (removed c n)
sound_removed c n sound = record {
  few = omega (arith, length-others_le c.objects n, sound.few);
  below = All-filter (λ (o : Object). not (eqb o.no n)) (λ (o : Object). o.no < c.limit) c.objects sound.below;
  numbers = AllPairs-filter (λ (a b : Object). a.no ≢ b.no) (λ (o : Object). not (eqb o.no n)) c.objects sound.numbers;
  names = AllPairs-filter (λ (a b : Object). a.name ≢ b.name) (λ (o : Object). not (eqb o.no n)) c.objects sound.names;
}
