-- What is left of a list behind a place, and cores in turn.
use Rattle.std.proofs.Common.{◌≡◌, ℕ, zero, suc, ◌+◌, ◌-◌, ◌*◌, ◌%◌, ◌≤◌, List, [], ◌∷◌, ◌++◌, Some, None, drop, refl, sym, ap, ◌∙◌, subst, arith, All}
use Rattle.std.specs.List.{slice_get, range_with_len}
use Rattle.std.proofs.lemmas.Option.{slice_get_within, get_or_from_slice_get}
use Rattle.std.proofs.lemmas.List.Elements.{All-get_or}
use Rattle.std.proofs.lemmas.List.{append-nil}
use Rattle.std.proofs.lemmas.Nat.{mod-mul-add}
use Rattle.rt_plain.specs.PlainBoard.{PlainBoard}
use Rattle.rt_plain.specs.runs.Schedules.{rounds}
use Rattle.core_runner.specs.Places.{in_turn, core_before}

same-item : {X : Type 0} (a b : X) → Some a ≡ Some b → a ≡ b
same-item a b is = cc

-- an item, and what stands behind it
pub drop-some : {X : Type 0} (xs : List X) (k : ℕ) (x : X) → slice_get xs k ≡ Some x → drop k xs ≡ x ∷ drop (k + 1) xs
drop-some [] k x is = absurd cc
drop-some (y ∷ xs) zero x is = ap (λ z. z ∷ xs) (same-item y x is)
drop-some (y ∷ xs) (suc k) x is = let more : suc k + 1 ≡ suc (k + 1) = omega arith in rw more (drop-some xs k x is)

-- nothing stands behind the end
pub drop-none : {X : Type 0} (xs : List X) (k : ℕ) → slice_get xs k ≡ None → drop k xs ≡ []
drop-none [] zero is = refl
drop-none [] (suc k) is = refl
drop-none (y ∷ xs) zero is = absurd cc
drop-none (y ∷ xs) (suc k) is = drop-none xs k is

-- what is so of all is so of one
pub all-some : {X : Type 0} (P : X → Type 0) (xs : List X) (k : ℕ) (x : X) → All P xs → slice_get xs k ≡ Some x → P x
all-some P xs k x all is = subst P (get_or_from_slice_get xs k x x is) (All-get_or P xs k x (slice_get_within xs k x is) all)

-- the last steps of a round, and whole rounds behind them
steps-in_turn : (cores m k n : ℕ) (rest : List ℕ) → m ≤ cores → n ≡ m + k * cores → rest ≡ in_turn cores (k * cores) → range_with_len (cores - m) m ++ rest ≡ in_turn cores n
steps-in_turn cores zero k n rest few is same = let whole : n ≡ k * cores = omega (arith, is) in rw whole same
steps-in_turn cores (suc m) k n rest few is same =
    let less : n ≡ suc (m + k * cores) = omega (arith, is) in
    let swapped : m + k * cores ≡ k * cores + m = omega arith in
    let part : (m + k * cores) % cores ≡ m = ap (λ (n : ℕ). n % cores) swapped ∙ mod-mul-add k cores m (omega (arith, few)) in
    let head : cores - suc m ≡ core_before cores (m + k * cores) = omega (arith, part, few) in
    let next : cores - suc m + 1 ≡ cores - m = omega (arith, few) in
    rw (less, next, steps-in_turn cores m k (m + k * cores) rest (omega (arith, few)) refl same, ← head) refl

pub rounds-in_turn : (b : PlainBoard) (k : ℕ) → rounds b k ≡ in_turn b.cores (k * b.cores)
rounds-in_turn b zero = let none : 0 * b.cores ≡ 0 = omega arith in rw none refl
rounds-in_turn b (suc k) =
    let all : b.cores - b.cores ≡ 0 = omega arith in
    subst (λ (from : ℕ). range_with_len from b.cores ++ rounds b k ≡ in_turn b.cores (suc k * b.cores)) all
    (steps-in_turn b.cores b.cores k (suc k * b.cores) (rounds b k) (omega arith) (omega arith) (rounds-in_turn b k))

-- the other cores of a round
pub others-in_turn : (cores : ℕ) → 1 ≤ cores → range_with_len 1 (cores - 1) ≡ in_turn cores (cores - 1)
others-in_turn cores some =
    let first : cores - (cores - 1) ≡ 1 = omega (arith, some) in
    let none : 0 ≡ 0 * cores = omega arith in
    subst (λ (from : ℕ). range_with_len from (cores - 1) ≡ in_turn cores (cores - 1)) first
    (sym (append-nil (range_with_len (cores - (cores - 1)) (cores - 1))) ∙ steps-in_turn cores (cores - 1) 0 (cores - 1) [] (omega arith) (omega arith) (ap (in_turn cores) none))
