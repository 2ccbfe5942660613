-- Links after a number was put in or taken out.
use Rattle.std.proofs.Common.{ℕ, ◌≡◌, ◌≢◌, ◌<◌, zero, suc, List, [], ◌∷◌, ◌++◌, length, set, Some, refl, sym, ap, ◌∙◌, arith, length-set}
use Rattle.std.specs.Prelude.{slice_get}
use Rattle.std.proofs.lemmas.Option.{slice_get_within}
use Rattle.susp_list.specs.Links.{IsLinkedOn, IsLinkedBack, last_or, first_or}

pub get-set_same : {X : Type 0} → (xs : List X) (i : ℕ) (y : X) → i < length xs → slice_get (set xs i y) i ≡ Some y
get-set_same [] i y h = absurd (omega arith)
get-set_same (x ∷ xs) zero y h = refl
get-set_same (x ∷ xs) (suc i) y h = get-set_same xs i y (omega arith)

pub get-set_other : {X : Type 0} → (xs : List X) (i j : ℕ) (y : X) → j ≢ i → slice_get (set xs i y) j ≡ slice_get xs j
get-set_other [] i j y h = refl
get-set_other (x ∷ xs) zero zero y h = absurd (h refl)
get-set_other (x ∷ xs) zero (suc j) y h = refl
get-set_other (x ∷ xs) (suc i) zero y h = refl
get-set_other (x ∷ xs) (suc i) (suc j) y h = get-set_other xs i j y (λ e. h (ap suc e))

-- the number isn't in the list
abbrev pub NotIn : ℕ → List ℕ → Type 0
NotIn t [] = Unit {0}
NotIn t (x ∷ xs) = (t ≢ x) × NotIn t xs

-- no number is in the list twice
abbrev pub Distinct : List ℕ → Type 0
Distinct [] = Unit {0}
Distinct (x ∷ xs) = NotIn x xs × Distinct xs

pub NotIn-last : (t from : ℕ) (xs : List ℕ) → t ≢ from → NotIn t xs → t ≢ last_or from xs
NotIn-last t from [] h n = h
NotIn-last t from (x ∷ xs) h n = NotIn-last t x xs n.0 n.1

pub NotIn-first : (t to : ℕ) (a b : List ℕ) → t ≢ to → NotIn t (a ++ b) → t ≢ first_or to b
NotIn-first t to [] [] h n = h
NotIn-first t to [] (x ∷ b) h n = n.0
NotIn-first t to (x ∷ a) b h n = NotIn-first t to a b h n.1

NotIn-front : (t : ℕ) (a b : List ℕ) → NotIn t (a ++ b) → NotIn t a
NotIn-front t [] b n = tt
NotIn-front t (x ∷ a) b n = (n.0, NotIn-front t a b n.1)

pub NotIn-right : (t : ℕ) (a b : List ℕ) → NotIn t (a ++ b) → NotIn t b
NotIn-right t [] b n = n
NotIn-right t (x ∷ a) b n = NotIn-right t a b n.1

pub frame_on : (next : List ℕ) (from : ℕ) (ts : List ℕ) (to i y : ℕ) → from ≢ i → NotIn i ts → IsLinkedOn next from ts to → IsLinkedOn (set next i y) from ts to
frame_on next from [] to i y h n l = get-set_other next i from y h ∙ l
frame_on next from (t ∷ ts) to i y h n l = (get-set_other next i from y h ∙ l.0, frame_on next t ts to i y (λ e. n.0 (sym e)) n.1 l.1)

pub frame_back : (prev : List ℕ) (from : ℕ) (ts : List ℕ) (to i y : ℕ) → to ≢ i → NotIn i ts → IsLinkedBack prev from ts to → IsLinkedBack (set prev i y) from ts to
frame_back prev from [] to i y h n l = get-set_other prev i to y h ∙ l
frame_back prev from (t ∷ ts) to i y h n l = (get-set_other prev i t y (λ e. n.0 (sym e)) ∙ l.0, frame_back prev t ts to i y h n.1 l.1)

pub at_on : (next : List ℕ) (from : ℕ) (a : List ℕ) (t : ℕ) (b : List ℕ) (to : ℕ) → IsLinkedOn next from (a ++ t ∷ b) to → slice_get next t ≡ Some (first_or to b)
at_on next from [] t [] to l = l.1
at_on next from [] t (u ∷ b) to l = l.1.0
at_on next from (x ∷ a) t b to l = at_on next x a t b to l.1

pub start_on : (next : List ℕ) (from : ℕ) (ts : List ℕ) (to : ℕ) → IsLinkedOn next from ts to → slice_get next from ≡ Some (first_or to ts)
start_on next from [] to l = l
start_on next from (t ∷ ts) to l = l.0

-- the number behind the last of the front is the first of the rest
pub joint_on : (next : List ℕ) (from : ℕ) (a b : List ℕ) (to : ℕ) → IsLinkedOn next from (a ++ b) to → slice_get next (last_or from a) ≡ Some (first_or to b)
joint_on next from [] b to l = start_on next from b to l
joint_on next from (x ∷ a) b to l = joint_on next x a b to l.1

pub at_back : (prev : List ℕ) (from : ℕ) (a : List ℕ) (t : ℕ) (b : List ℕ) (to : ℕ) → IsLinkedBack prev from (a ++ t ∷ b) to → slice_get prev t ≡ Some (last_or from a)
at_back prev from [] t b to l = l.0
at_back prev from (x ∷ a) t b to l = at_back prev x a t b to l.1

-- the number before the first of the rest is the one that it follows
pub after_back : (prev : List ℕ) (from : ℕ) (a : List ℕ) (t : ℕ) (b : List ℕ) (to : ℕ) → IsLinkedBack prev from (a ++ t ∷ b) to → slice_get prev (first_or to b) ≡ Some t
after_back prev from [] t [] to l = l.1
after_back prev from [] t (u ∷ b) to l = l.1.0
after_back prev from (x ∷ a) t b to l = after_back prev x a t b to l.1

start_back : (prev : List ℕ) (from : ℕ) (ts : List ℕ) (to : ℕ) → IsLinkedBack prev from ts to → slice_get prev (first_or to ts) ≡ Some from
start_back prev from [] to l = l
start_back prev from (t ∷ ts) to l = l.0

-- the number before the first of the rest is the last of the front
pub joint_back : (prev : List ℕ) (from : ℕ) (a b : List ℕ) (to : ℕ) → IsLinkedBack prev from (a ++ b) to → slice_get prev (first_or to b) ≡ Some (last_or from a)
joint_back prev from [] b to l = start_back prev from b to l
joint_back prev from (x ∷ a) b to l = joint_back prev x a b to l.1

pub end_back : (prev : List ℕ) (from : ℕ) (ts : List ℕ) (to : ℕ) → IsLinkedBack prev from ts to → slice_get prev to ≡ Some (last_or from ts)
end_back prev from [] to l = l
end_back prev from (t ∷ ts) to l = end_back prev t ts to l.1

pub insert_on : (next : List ℕ) (from : ℕ) (a : List ℕ) (t : ℕ) (b : List ℕ) (to : ℕ) → t < length next → from ≢ t → NotIn t (a ++ b) → NotIn from (a ++ b) → Distinct (a ++ b)
    → IsLinkedOn next from (a ++ b) to → IsLinkedOn (set (set next t (first_or to b)) (last_or from a) t) from (a ++ t ∷ b) to
insert_on next from [] t [] to h ne n nf d l =
    let w : from < length (set next t to) = omega (arith, slice_get_within next from to l, length-set next t to) in
    (get-set_same (set next t to) from t w, get-set_other (set next t to) from t t (λ e. ne (sym e)) ∙ get-set_same next t to h)
insert_on next from [] t (u ∷ b) to h ne n nf d l =
    let w : from < length (set next t u) = omega (arith, slice_get_within next from u l.0, length-set next t u) in (
      get-set_same (set next t u) from t w,
      (
        get-set_other (set next t u) from t t (λ e. ne (sym e)) ∙ get-set_same next t u h,
        frame_on (set next t u) u b to from t (λ e. nf.0 (sym e)) nf.1 (frame_on next u b to t u (λ e. n.0 (sym e)) n.1 l.1),
      ),
    )
insert_on next from (x ∷ a) t b to h ne n nf d l = (
  get-set_other (set next t (first_or to b)) (last_or x a) from t (NotIn-last from x a nf.0 (NotIn-front from a b nf.1)) ∙ get-set_other next t from (first_or to b) ne ∙ l.0,
  insert_on next x a t b to h (λ e. n.0 (sym e)) n.1 d.0 d.1 l.1,
)

pub insert_back : (prev : List ℕ) (from : ℕ) (a : List ℕ) (t : ℕ) (b : List ℕ) (to : ℕ) → t < length prev → to ≢ t → NotIn t (a ++ b) → NotIn to (a ++ b) → Distinct (a ++ b)
    → IsLinkedBack prev from (a ++ b) to → IsLinkedBack (set (set prev t (last_or from a)) (first_or to b) t) from (a ++ t ∷ b) to
insert_back prev from [] t [] to h ne n nt d l =
    let w : to < length (set prev t from) = omega (arith, slice_get_within prev to from l, length-set prev t from) in
    (get-set_other (set prev t from) to t t (λ e. ne (sym e)) ∙ get-set_same prev t from h, get-set_same (set prev t from) to t w)
insert_back prev from [] t (u ∷ b) to h ne n nt d l =
    let w : u < length (set prev t from) = omega (arith, slice_get_within prev u from l.0, length-set prev t from) in (
      get-set_other (set prev t from) u t t n.0 ∙ get-set_same prev t from h,
      (
        get-set_same (set prev t from) u t w,
        frame_back (set prev t from) u b to u t nt.0 d.0 (frame_back prev u b to t from ne n.1 l.1),
      ),
    )
insert_back prev from (x ∷ a) t b to h ne n nt d l = (
  get-set_other (set prev t (last_or x a)) (first_or to b) x t (NotIn-first x to a b (λ e. nt.0 (sym e)) d.0) ∙ get-set_other prev t x (last_or x a) (λ e. n.0 (sym e)) ∙ l.0,
  insert_back prev x a t b to h ne n.1 nt.1 d.1 l.1,
)

pub remove_on : (next : List ℕ) (from : ℕ) (a : List ℕ) (t : ℕ) (b : List ℕ) (to : ℕ) → NotIn from (a ++ t ∷ b) → Distinct (a ++ t ∷ b)
    → IsLinkedOn next from (a ++ t ∷ b) to → IsLinkedOn (set next (last_or from a) (first_or to b)) from (a ++ b) to
remove_on next from [] t [] to nf d l = get-set_same next from to (slice_get_within next from t l.0)
remove_on next from [] t (u ∷ b) to nf d l =
    (get-set_same next from u (slice_get_within next from t l.0), frame_on next u b to from u (λ e. nf.1.0 (sym e)) nf.1.1 l.1.1)
remove_on next from (x ∷ a) t b to nf d l = (
  get-set_other next (last_or x a) from (first_or to b) (NotIn-last from x a nf.0 (NotIn-front from a (t ∷ b) nf.1)) ∙ l.0,
  remove_on next x a t b to d.0 d.1 l.1,
)

pub remove_back : (prev : List ℕ) (from : ℕ) (a : List ℕ) (t : ℕ) (b : List ℕ) (to : ℕ) → NotIn to (a ++ t ∷ b) → Distinct (a ++ t ∷ b)
    → IsLinkedBack prev from (a ++ t ∷ b) to → IsLinkedBack (set prev (first_or to b) (last_or from a)) from (a ++ b) to
remove_back prev from [] t [] to nt d l = get-set_same prev to from (slice_get_within prev to t l.1)
remove_back prev from [] t (u ∷ b) to nt d l =
    (get-set_same prev u from (slice_get_within prev u t l.1.0), frame_back prev u b to u from nt.1.0 d.1.0 l.1.1)
remove_back prev from (x ∷ a) t b to nt d l = (
  get-set_other prev (first_or to b) x (last_or x a) (NotIn-first x to (a ++ t ∷ []) b (λ e. nt.0 (sym e)) (rejoin a d.0)) ∙ l.0,
  remove_back prev x a t b to nt.1 d.1 l.1,
)
  where
    rejoin : (a : List ℕ) → NotIn x (a ++ t ∷ b) → NotIn x ((a ++ t ∷ []) ++ b)
    rejoin [] n = n
    rejoin (y ∷ a) n = (n.0, rejoin a n.1)
