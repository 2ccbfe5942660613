-- Names and numbers of objects are one to one.
use Rattle.std.proofs.Common.{ℕ, ◌≡◌, ◌≢◌, zero, suc, List, [], ◌∷◌, Some, Bool, true, false, cond, ◌||◌, refl, sym, ap, ◌∙◌, subst, arith, eqb}
use Rattle.std.specs.Prelude.{find, All}
use Rattle.std.specs.List.{AllPairs}
use Rattle.std.specs.Option.{option_map}
use Rattle.std.specs.Str.{bytes_eq}
use Rattle.std.proofs.lemmas.Bool.{false≢true, eqb-true, ne_eqb}
use Rattle.std.proofs.lemmas.List.Elements.{All-head, All-tail}
use Rattle.std.proofs.lemmas.Option.{none-some}
use Rattle.std.proofs.lemmas.Slice.Eq.{bytes_eq-Decides}
use Rattle.rt_plain.specs.kernel.State.{is_number}
use Rattle.object_box.specs.declared.object.Object.{Object}
use Rattle.object_box.specs.Objects.{has_number, number_of}
use Rattle.mutex_tie.specs.Tie.{name_at, name_or}

abbrev pub NamesApart : List Object → Type 0
NamesApart xs = AllPairs (λ (a b : Object). a.name ≢ b.name) xs

abbrev pub NumbersApart : List Object → Type 0
NumbersApart xs = AllPairs (λ (a b : Object). a.no ≢ b.no) xs

pub pairs-tail : {A : Type 0} (R : A → A → Type 0) (x : A) (xs : List A) → AllPairs R (x ∷ xs) → AllPairs R xs
pairs-tail R x xs all i j d lt within = all (suc i) (suc j) d (omega (arith, lt)) (omega (arith, within))

pub pairs-head : {A : Type 0} (R : A → A → Type 0) (x : A) (xs : List A) → AllPairs R (x ∷ xs) → All (R x) xs
pairs-head R x xs all j d within = all zero (suc j) d (omega arith) (omega (arith, within))

pub bytes-apart : (a b : List ℕ) → a ≢ b → bytes_eq a b ≡ false
bytes-apart a b apart = by_test (bytes_eq a b) refl where
  by_test : (c : Bool) → bytes_eq a b ≡ c → bytes_eq a b ≡ false
  by_test true is = absurd (apart ((bytes_eq-Decides a b).0 is))
  by_test false is = is

pub bytes-turn : (a b : List ℕ) → bytes_eq a b ≡ bytes_eq b a
bytes-turn a b = by_test (bytes_eq b a) refl where
  by_test : (c : Bool) → bytes_eq b a ≡ c → bytes_eq a b ≡ c
  by_test true is = (bytes_eq-Decides a b).1 (sym ((bytes_eq-Decides b a).0 is))
  by_test false is = bytes-apart a b (λ same. false≢true (sym is ∙ (bytes_eq-Decides b a).1 (sym same)))

-- no object here has the number
no-number : (xs : List Object) (m : ℕ) (name : List ℕ) → All (λ (x : Object). m ≢ x.no) xs → is_number m (number_of xs name) ≡ false
no-number [] m name apart = refl
no-number (x ∷ xs) m name apart = by_test (bytes_eq x.name name) (no-number xs m name (All-tail (λ (y : Object). m ≢ y.no) x xs apart)) where
  by_test : (c : Bool) → is_number m (number_of xs name) ≡ false → is_number m (option_map (λ (y : Object). y.no) (cond c (Some x) (find (λ (y : Object). bytes_eq y.name name) xs))) ≡ false
  by_test true rest = ne_eqb m x.no (All-head (λ (y : Object). m ≢ y.no) x xs apart)
  by_test false rest = rest

-- an object here that has the number has another name
other-name : (xs : List Object) (m : ℕ) (name : List ℕ) → All (λ (x : Object). name ≢ x.name) xs → has_number xs m ≡ true → name ≢ name_at xs m
other-name [] m name apart has = absurd (false≢true has)
other-name (x ∷ xs) m name apart has = by_test (eqb x.no m) has (other-name xs m name (All-tail (λ (y : Object). name ≢ y.name) x xs apart)) where
  by_test : (c : Bool) → c || has_number xs m ≡ true → (has_number xs m ≡ true → name ≢ name_at xs m) → name ≢ name_or (cond c (Some x) (find (λ (y : Object). eqb y.no m) xs))
  by_test true is rest = All-head (λ (y : Object). name ≢ y.name) x xs apart
  by_test false is rest = rest is

-- the object of a number has a name exactly where that name has the number
pub name-is : (xs : List Object) (m : ℕ) (name : List ℕ) → NamesApart xs → NumbersApart xs → has_number xs m ≡ true → bytes_eq (name_at xs m) name ≡ is_number m (number_of xs name)
name-is [] m name names numbers has = absurd (false≢true has)
name-is (x ∷ xs) m name names numbers has = by_tests (eqb x.no m) refl (bytes_eq x.name name) refl has (name-is xs m name (pairs-tail (λ (a b : Object). a.name ≢ b.name) x xs names) (pairs-tail (λ (a b : Object). a.no ≢ b.no) x xs numbers)) where
  by_tests : (c : Bool) → eqb x.no m ≡ c → (d : Bool) → bytes_eq x.name name ≡ d → c || has_number xs m ≡ true → (has_number xs m ≡ true → bytes_eq (name_at xs m) name ≡ is_number m (number_of xs name))
      → bytes_eq (name_or (cond c (Some x) (find (λ (y : Object). eqb y.no m) xs))) name ≡ is_number m (option_map (λ (y : Object). y.no) (cond d (Some x) (find (λ (y : Object). bytes_eq y.name name) xs)))
  by_tests true is true same h rest = let turn : true ≡ is_number m (Some x.no) = grind (arith, is) in same ∙ turn
  by_tests true is false same h rest = same ∙ sym (no-number xs m name (subst (λ n. All (λ (y : Object). n ≢ y.no) xs) (eqb-true x.no m is) (pairs-head (λ (a b : Object). a.no ≢ b.no) x xs numbers)))
  by_tests false is true same h rest =
      let turn : false ≡ is_number m (Some x.no) = grind (arith, is) in
      bytes-apart (name_at xs m) name (λ e. other-name xs m x.name (pairs-head (λ (a b : Object). a.name ≢ b.name) x xs names) h ((bytes_eq-Decides x.name name).0 same ∙ sym e)) ∙ turn
  by_tests false is false same h rest = rest h

-- a name that has a number is that of the object with the number
pub number-there : (xs : List Object) (name : List ℕ) (i : ℕ) → number_of xs name ≡ Some i → has_number xs i ≡ true
number-there [] name i is = absurd (none-some i is)
number-there (x ∷ xs) name i is = by_test (bytes_eq x.name name) is (number-there xs name i) where
  by_test : (c : Bool) → option_map (λ (y : Object). y.no) (cond c (Some x) (find (λ (y : Object). bytes_eq y.name name) xs)) ≡ Some i → (number_of xs name ≡ Some i → has_number xs i ≡ true) → eqb x.no i || has_number xs i ≡ true
  by_test true at rest = let same : x.no ≡ i = cc in let one : eqb x.no i ≡ true = grind (arith, same) in ap (λ c. c || has_number xs i) one
  by_test false at rest = ap (λ c. eqb x.no i || c) (rest at) ∙ or-true (eqb x.no i) where
    or-true : (c : Bool) → c || true ≡ true
    or-true true = refl
    or-true false = refl

self-number : (i : ℕ) → is_number i (Some i) ≡ true
self-number i = grind arith

pub number-name : (xs : List Object) (name : List ℕ) (i : ℕ) → NamesApart xs → NumbersApart xs → number_of xs name ≡ Some i → name_at xs i ≡ name
number-name xs name i names numbers is = (bytes_eq-Decides (name_at xs i) name).0 (name-is xs i name names numbers (number-there xs name i is) ∙ ap (is_number i) is ∙ self-number i)

-- two names, of which one has a number
pub same-name : (xs : List Object) (a b : List ℕ) (i : ℕ) → NamesApart xs → NumbersApart xs → number_of xs b ≡ Some i → bytes_eq a b ≡ is_number i (number_of xs a)
same-name xs a b i names numbers is =
    bytes-turn a b ∙ ap (λ n. bytes_eq n a) (sym (number-name xs b i names numbers is)) ∙ name-is xs i a names numbers (number-there xs b i is)
