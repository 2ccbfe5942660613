-- What is still to arrive.
use Rattle.std.proofs.Common.{ℕ, zero, suc, ◌≡◌, ◌≢◌, ◌-◌, ◌<◌, ◌≤◌, List, [], ◌∷◌, ◌++◌, length, reverse, false, cond, get_or, Option, Some, None, refl, ap, ◌∙◌, subst, arith}
use Rattle.std.specs.Prelude.{◌==◌, slice_get}
use Rattle.std.specs.List.{All}
use Rattle.std.specs.Option.{option_to_list}
use Rattle.std.proofs.lemmas.Bool.Decides.{nat_tests}
use Rattle.std.proofs.lemmas.List.{get_or-reverse, length-reverse, reverse-append}
use Rattle.rt_plain.specs.kernel.State.{Device, Arriving}
use Rattle.kernel_devices.specs.Deviced.{arrivals_at, next_moment, IsInOrder, IsDeviced}

-- the last one of a list is the first of the list in reverse

got : (arrivals : List Arriving) (place : ℕ) (arrival d : Arriving) → slice_get arrivals place ≡ Some arrival → (place < length arrivals) × (get_or arrivals place d ≡ arrival)
got [] place arrival d is = cc
got (a ∷ bs) zero arrival d is = (omega arith, cc)
got (a ∷ bs) (suc place) arrival d is = let rest = got bs place arrival d is in (omega (arith, rest.0), rest.1)

first-at : (arrivals : List Arriving) (d : Arriving) → 0 < length arrivals → next_moment arrivals ≡ Some (get_or arrivals 0 d).moment
first-at [] d there = absurd (omega (arith, there))
first-at (a ∷ bs) d there = refl

pub last-is : (left : List Arriving) (last : Arriving) → slice_get left (length left - 1) ≡ Some last → next_moment (reverse left) ≡ Some last.moment
last-is left last is =
    let at = got left (length left - 1) last last is in
    let some : 0 < length left = omega (arith, at.0) in
    let plain : length left - 1 - 0 ≡ length left - 1 = omega arith in
    first-at (reverse left) last (omega (arith, some, length-reverse left))
    ∙ ap (λ (a : Arriving). Some a.moment) (get_or-reverse left 0 last some ∙ ap (λ n. get_or left n last) plain ∙ at.1)

-- the first of some arrivals in order is the earliest
pub earliest : (arrivals : List Arriving) (moment : ℕ) → IsInOrder arrivals → next_moment arrivals ≡ Some moment → All (λ a. moment ≤ a.moment) arrivals
earliest [] moment in_order first k d there = absurd (omega (arith, there))
earliest (a ∷ bs) moment in_order first zero d there = let same : a.moment ≡ moment = cc in omega (arith, same)
earliest (a ∷ bs) moment in_order first (suc k) d there =
    let same : a.moment ≡ moment = cc in
    omega (arith, same, in_order 0 (suc k) d (omega arith) there)

differs : (a b : ℕ) → a < b → (b == a) ≡ false
differs a b less = grind (arith, nat_tests)

-- nothing arrives at an earlier moment
none-before : (arrivals : List Arriving) (moment next : ℕ) → moment < next → All (λ a. next ≤ a.moment) arrivals → arrivals_at moment arrivals ≡ []
none-before [] moment next before all = refl
none-before (a ∷ bs) moment next before all =
    ap (λ c. cond c (a ∷ arrivals_at moment bs) (arrivals_at moment bs)) (differs moment a.moment (omega (arith, before, all 0 a (omega arith))))
    ∙ none-before bs moment next before (λ k d there. all (suc k) d (omega (arith, there)))

pub none-at : (arrivals : List Arriving) (moment next : ℕ) → All (λ a. moment ≤ a.moment) arrivals → next_moment arrivals ≡ Some next → next ≢ moment → All (λ a. next ≤ a.moment) arrivals → arrivals_at moment arrivals ≡ []
none-at [] moment next ahead first differ all = refl
none-at (a ∷ bs) moment next ahead first differ all =
    let same : a.moment ≡ next = cc in
    let at : moment ≤ a.moment = ahead 0 a (omega arith) in
    none-before (a ∷ bs) moment next (omega (arith, same, at, differ)) all

-- one of them is taken

rest-in-order : (a : Arriving) (bs : List Arriving) → IsInOrder (a ∷ bs) → IsInOrder bs
rest-in-order a bs in_order i j d before there = in_order (suc i) (suc j) d (omega (arith, before)) (omega (arith, there))

taken-in-order : (old new : List Arriving) (o : Option Arriving) → old ≡ new ++ option_to_list o → IsInOrder (reverse old) → IsInOrder (reverse new)
taken-in-order old new None is in_order = subst IsInOrder (ap reverse is ∙ reverse-append new []) in_order
taken-in-order old new (Some a) is in_order = rest-in-order a (reverse new) (subst IsInOrder (ap reverse is ∙ reverse-append new (a ∷ [])) in_order)

pub taken-kept : (devices : List Device) (old new : List Arriving) (o : Option Arriving) → old ≡ new ++ option_to_list o → IsDeviced devices (reverse old) → IsDeviced devices (reverse new)
taken-kept devices old new o is deviced = record { few = deviced.few; apart = deviced.apart; in_order = taken-in-order old new o is deviced.in_order }
