-- Numbers and their digits: each number has one spelling.
use Rattle.std.proofs.Common.{◌≡◌, ℕ, ◌+◌, ◌*◌, ◌-◌, ◌<◌, ◌≤◌, ◌^◌, true, not, ◌&&◌, ◌||◌, eqb, List, [], ◌∷◌, length, drop, get_or, refl, ap, arith, rules, add-one, drop-cons, decimal, inl, inr}
use Rattle.std.specs.List.{list_all}
use Rattle.std.proofs.lemmas.Str.Parse.{IsNumeralModel, numerals_by_fold}
use Rattle.std.proofs.lemmas.Bool.{and_parts, and_from, or_cases, or_left, or_right, not-true, not_from_false, eqb-true, eqb-false, eq-eqb, ne_eqb, cases_eq}
use Rattle.std.proofs.lemmas.Fmt.{decimal-digits_value, digits_decimal, digits_value-decimal, first_decimal, decimal_nonempty, decimal_digit}
use Rattle.rt_plain.specs.text.Fields.{read_on, is_digit, is_number}

pub read_ge : (n : ℕ) (cs : List ℕ) → n ≤ read_on n cs
read_ge n [] = omega arith
read_ge n (c ∷ cs) = omega (arith, read_ge (10 * n + (c - 48)) cs)

-- one more digit
pub read_more : (n i : ℕ) (s : List ℕ) → i < length s → read_on n (drop i s) ≡ read_on (10 * n + (get_or s i 0 - 48)) (drop (i + 1) s)
read_more n i s lt = rw (drop-cons s i 0, add-one) refl

-- what is too much already stays too much
pub read_past : (n i : ℕ) (s : List ℕ) (limit total : ℕ) → i < length s → read_on n (drop i s) ≡ total → limit ≤ 10 * n + (get_or s i 0 - 48) → limit ≤ total
read_past n i s limit total lt e le = omega (arith, read_more n i s lt, read_ge (10 * n + (get_or s i 0 - 48)) (drop (i + 1) s))

pub own : IsNumeralModel (λ ds. list_all is_digit ds ≡ true) (read_on 0)
own = numerals_by_fold _ (search rules) read_on (search rules)

pub number_takes : (w : List ℕ) → is_number w ≡ true → read_on 0 w < 2 ^ 64 → decimal (read_on 0 w) ≡ w
number_takes w e lt =
    let p = and_parts (not (eqb (length w) 0) && list_all is_digit w) (eqb (length w) 1 || not (eqb (get_or w 0 0) 48)) e in
    let q = and_parts (not (eqb (length w) 0)) (list_all is_digit w) p.0 in
    let long : 0 < length w = omega (arith, eqb-false (length w) 0 (not-true _ q.0)) in
    let front : get_or w 0 0 ≡ 48 → length w ≡ 1 = λ z. elim (or_cases _ _ p.1) [
      | inl one ↦ eqb-true _ _ one
      | inr other ↦ absurd (eqb-false (get_or w 0 0) 48 (not-true _ other) z)
    ] in
    decimal-digits_value own w q.1 long front lt

pub number_again : (n : ℕ) → n < 2 ^ 64 → (is_number (decimal n) ≡ true) × (read_on 0 (decimal n) ≡ n)
number_again n lt =
    let digits = digits_decimal own n lt in
    let some : not (eqb (length (decimal n)) 0) ≡ true = not_from_false _ (ne_eqb (length (decimal n)) 0 (λ z. absurd (omega (arith, decimal_nonempty n lt)))) in
    let front : (eqb (length (decimal n)) 1 || not (eqb (get_or (decimal n) 0 0) 48)) ≡ true = elim (cases_eq n 0) [
      | inl z ↦ or_left _ _ (eq-eqb (length (decimal n)) 1 (ap length (decimal_digit n (omega arith))))
      | inr other ↦ or_right (eqb (length (decimal n)) 1) _ (not_from_false _ (ne_eqb (get_or (decimal n) 0 0) 48 (λ z. absurd (omega (arith, first_decimal n (omega arith) lt)))))
    ] in
    (and_from _ _ (and_from _ _ some digits) front, digits_value-decimal own n lt)
