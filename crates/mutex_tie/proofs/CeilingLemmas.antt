-- The least of the ceilings that a thread owns, by mutexes and by who took them.
use Rattle.std.proofs.Common.{ℕ, ◌≡◌, ◌≤◌, List, [], ◌∷◌, Option, Some, None, Bool, true, false, cond, ◌||◌, ◌&&◌, refl, sym, ap, ◌∙◌, subst, arith, eqb, map}
use Rattle.std.specs.Prelude.{filter, min, All}
use Rattle.std.specs.List.{AllByRecursion, filter_map, list_any, cons_option}
use Rattle.std.proofs.lemmas.Bool.{false≢true, eqb-true}
use Rattle.std.proofs.lemmas.List.Elements.{All-head, All-tail}
use Rattle.rt_plain.specs.kernel.Priority.{least}
use Rattle.rt_plain.specs.kernel.Ownership.{Taken}
use Rattle.object_box.specs.declared.object.Object.{Object}
use Rattle.object_box.specs.Objects.{has_number}

-- none is below k
abbrev pub From : ℕ → List ℕ → Type 0
From k xs = AllByRecursion (λ x. k ≤ x) xs

least-below : (k n : ℕ) (xs : List ℕ) → k ≤ n → From k xs → k ≤ least n xs
least-below k n [] h all = h
least-below k n (x ∷ xs) h (low, all) = least-below k (min n x) xs (omega (arith, h, low)) all

least-start : (n : ℕ) (xs : List ℕ) → least n xs ≤ n
least-start n [] = omega arith
least-start n (x ∷ xs) = omega (arith, least-start (min n x) xs)

from-weaker : (k m : ℕ) (xs : List ℕ) → k ≤ m → From m xs → From k xs
from-weaker k m [] h all = tt
from-weaker k m (x ∷ xs) h (low, all) = (omega (arith, h, low), from-weaker k m xs h all)

least-from : (n : ℕ) (xs : List ℕ) → From (least n xs) xs
least-from n [] = tt
least-from n (x ∷ xs) = (omega (arith, least-start (min n x) xs), least-from (min n x) xs)

-- lists with the same lower bounds have the same least
pub least-same : (n : ℕ) (xs ys : List ℕ) → ((k : ℕ) → From k xs → From k ys) → ((k : ℕ) → From k ys → From k xs) → least n xs ≡ least n ys
least-same n xs ys to back =
    let one : least n xs ≤ least n ys = least-below (least n xs) n ys (least-start n xs) (to (least n xs) (least-from n xs)) in
    let two : least n ys ≤ least n xs = least-below (least n ys) n xs (least-start n ys) (back (least n ys) (least-from n ys)) in
    omega (arith, one, two)

-- whether a thread owns the mutex of a number
abbrev pub owns : List Taken → ℕ → ℕ → Bool
owns hs t m = list_any (λ (h : Taken). eqb h.mutex m && eqb h.owner t) hs

-- by who took them
abbrev pub taken_ceilings : (ℕ → Option ℕ) → ℕ → List Taken → List ℕ
taken_ceilings g t hs = filter_map g (map (λ (h : Taken). h.mutex) (filter (λ (h : Taken). eqb h.owner t) hs))

-- by the mutexes
abbrev pub object_ceilings : (ℕ → ℕ) → (ℕ → Bool) → List Object → List ℕ
object_ceilings f owned xs = map (λ (x : Object). f x.no) (filter (λ (x : Object). owned x.no) xs)

from-taken : (k : ℕ) (f : ℕ → ℕ) (g : ℕ → Option ℕ) (t m : ℕ) (hs : List Taken) → g m ≡ Some (f m) → From k (taken_ceilings g t hs) → owns hs t m ≡ true → k ≤ f m
from-taken k f g t m [] is all own = absurd (false≢true own)
from-taken k f g t m (h ∷ hs) is all own = by_tests (eqb h.owner t) (eqb h.mutex m) refl all own (λ a. from-taken k f g t m hs is a)
  where
    skip : (o : Option ℕ) → From k (cons_option o (taken_ceilings g t hs)) → From k (taken_ceilings g t hs)
    skip None a = a
    skip (Some c) (low, a) = a

    here : From k (cons_option (g h.mutex) (taken_ceilings g t hs)) → h.mutex ≡ m → k ≤ f m
    here a same =
        let b : From k (cons_option (Some (f m)) (taken_ceilings g t hs)) = subst (λ o. From k (cons_option o (taken_ceilings g t hs))) (ap g same ∙ is) a in
        b.0

    by_tests : (c d : Bool) → eqb h.mutex m ≡ d → From k (filter_map g (map (λ (x : Taken). x.mutex) (cond c (h ∷ filter (λ (x : Taken). eqb x.owner t) hs) (filter (λ (x : Taken). eqb x.owner t) hs))))
        → (d && c) || owns hs t m ≡ true → (From k (taken_ceilings g t hs) → owns hs t m ≡ true → k ≤ f m) → k ≤ f m
    by_tests true true e a o rest = here a (eqb-true h.mutex m e)
    by_tests true false e a o rest = rest (skip (g h.mutex) a) o
    by_tests false true e a o rest = rest a o
    by_tests false false e a o rest = rest a o

to-objects : (k : ℕ) (f : ℕ → ℕ) (owned : ℕ → Bool) (xs : List Object) → ((m : ℕ) → has_number xs m ≡ true → owned m ≡ true → k ≤ f m) → From k (object_ceilings f owned xs)
to-objects k f owned [] low = tt
to-objects k f owned (x ∷ xs) low = by_test (owned x.no) refl (to-objects k f owned xs (λ m has own. low m (later m has) own))
  where
    or-true : (c : Bool) → c || true ≡ true
    or-true true = refl
    or-true false = refl

    later : (m : ℕ) → has_number xs m ≡ true → eqb x.no m || has_number xs m ≡ true
    later m has = ap (λ c. eqb x.no m || c) has ∙ or-true (eqb x.no m)

    self : eqb x.no x.no ≡ true
    self = grind arith

    by_test : (c : Bool) → owned x.no ≡ c → From k (object_ceilings f owned xs) → From k (map (λ (y : Object). f y.no) (cond c (x ∷ filter (λ (y : Object). owned y.no) xs) (filter (λ (y : Object). owned y.no) xs)))
    by_test true is rest = (low x.no (ap (λ c. c || has_number xs x.no) self) is, rest)
    by_test false is rest = rest

from-objects : (k : ℕ) (f : ℕ → ℕ) (owned : ℕ → Bool) (xs : List Object) (m : ℕ) → From k (object_ceilings f owned xs) → has_number xs m ≡ true → owned m ≡ true → k ≤ f m
from-objects k f owned [] m all has own = absurd (false≢true has)
from-objects k f owned (x ∷ xs) m all has own = by_tests (eqb x.no m) refl (owned x.no) refl has all (λ a. from-objects k f owned xs m a)
  where
    by_tests : (c : Bool) → eqb x.no m ≡ c → (d : Bool) → owned x.no ≡ d → c || has_number xs m ≡ true
        → From k (map (λ (y : Object). f y.no) (cond d (x ∷ filter (λ (y : Object). owned y.no) xs) (filter (λ (y : Object). owned y.no) xs)))
        → (From k (object_ceilings f owned xs) → has_number xs m ≡ true → owned m ≡ true → k ≤ f m) → k ≤ f m
    by_tests true is true e h a rest = subst (λ n. k ≤ f n) (eqb-true x.no m is) (a.0)
    by_tests true is false e h a rest = absurd (false≢true (sym e ∙ ap owned (eqb-true x.no m is) ∙ own))
    by_tests false is true e h a rest = rest (a.1) h own
    by_tests false is false e h a rest = rest a h own

to-taken : (k : ℕ) (f : ℕ → ℕ) (g : ℕ → Option ℕ) (t : ℕ) (owned : ℕ → Bool) (hs : List Taken) → ((m : ℕ) → owns hs t m ≡ true → owned m ≡ true)
    → ((m : ℕ) → owned m ≡ true → (g m ≡ Some (f m)) × (k ≤ f m)) → From k (taken_ceilings g t hs)
to-taken k f g t owned [] sub low = tt
to-taken k f g t owned (h ∷ hs) sub low = by_test (eqb h.owner t) refl (to-taken k f g t owned hs (λ m own. sub m (later m own)) low)
  where
    or-true : (c : Bool) → c || true ≡ true
    or-true true = refl
    or-true false = refl

    later : (m : ℕ) → owns hs t m ≡ true → (eqb h.mutex m && eqb h.owner t) || owns hs t m ≡ true
    later m own = ap (λ c. (eqb h.mutex m && eqb h.owner t) || c) own ∙ or-true (eqb h.mutex m && eqb h.owner t)

    self : eqb h.mutex h.mutex ≡ true
    self = grind arith

    first : eqb h.owner t ≡ true → owned h.mutex ≡ true
    first is = sub h.mutex (ap (λ c. (c && eqb h.owner t) || owns hs t h.mutex) self ∙ ap (λ c. c || owns hs t h.mutex) is)

    by_test : (c : Bool) → eqb h.owner t ≡ c → From k (taken_ceilings g t hs) → From k (filter_map g (map (λ (x : Taken). x.mutex) (cond c (h ∷ filter (λ (x : Taken). eqb x.owner t) hs) (filter (λ (x : Taken). eqb x.owner t) hs))))
    by_test true is rest =
        let w = low h.mutex (first is) in
        subst (λ o. From k (cons_option o (taken_ceilings g t hs))) (sym (w.0)) (w.1, rest)
    by_test false is rest = rest

owns-there : (P : ℕ → Type 0) (t m : ℕ) (hs : List Taken) → All (λ (h : Taken). P h.mutex) hs → owns hs t m ≡ true → P m
owns-there P t m [] all own = absurd (false≢true own)
owns-there P t m (h ∷ hs) all own = by_tests (eqb h.mutex m) refl (eqb h.owner t) own (owns-there P t m hs (All-tail (λ (x : Taken). P x.mutex) h hs all))
  where
    by_tests : (c : Bool) → eqb h.mutex m ≡ c → (d : Bool) → (c && d) || owns hs t m ≡ true → (owns hs t m ≡ true → P m) → P m
    by_tests true is true o rest = subst P (eqb-true h.mutex m is) (All-head (λ (x : Taken). P x.mutex) h hs all)
    by_tests true is false o rest = rest o
    by_tests false is true o rest = rest o
    by_tests false is false o rest = rest o

-- the least ceiling is the same by the mutexes and by who took them
pub least-owned : (n t : ℕ) (f : ℕ → ℕ) (g : ℕ → Option ℕ) (xs : List Object) (hs : List Taken) → All (λ (h : Taken). has_number xs h.mutex ≡ true) hs → ((m : ℕ) → has_number xs m ≡ true → g m ≡ Some (f m))
    → least n (object_ceilings f (owns hs t) xs) ≡ least n (taken_ceilings g t hs)
least-owned n t f g xs hs taken there =
    let has : (m : ℕ) → owns hs t m ≡ true → has_number xs m ≡ true = λ m own. owns-there (λ i. has_number xs i ≡ true) t m hs taken own in
    least-same n (object_ceilings f (owns hs t) xs) (taken_ceilings g t hs)
    (λ k all. to-taken k f g t (owns hs t) hs (λ m own. own) (λ m own. (there m (has m own), from-objects k f (owns hs t) xs m all (has m own) own)))
    (λ k all. to-objects k f (owns hs t) xs (λ m h own. from-taken k f g t m hs (there m h) all own))
