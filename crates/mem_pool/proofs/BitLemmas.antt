-- What the bits of a word tell.
use Rattle.std.proofs.Common.{ℕ, ◌≡◌, ◌-◌, ◌/◌, ◌^◌, ◌<◌, ◌≤◌, cond, sym, ap, ◌∙◌, inl, inr, arith}
use Rattle.std.specs.Prelude.{nat_lt}
use Rattle.std.specs.Int.{bit_at, trailing_zeros, w64}
use Rattle.std.proofs.lemmas.Nat.Bits.{bit_at-trailing_zeros, bit_at_ones, bit_at_ones_above, ones_shr}
use Rattle.std.proofs.lemmas.Bool.{cases_lt, cond-true, cond-false, lt-ltb, le-ltb}
use Rattle.mem_pool.specs.Bits.{IsLeast}

-- the ones of all numbers below a number
pub ones_below : (count k : ℕ) → count ≤ 64 → bit_at ((2 ^ 64 - 1) / 2 ^ (64 - count)) k ≡ cond (nat_lt k count) 1 0
ones_below count k few =
    let rest : 64 - (64 - count) ≡ count = omega (arith, few) in
    let plain : (2 ^ 64 - 1) / 2 ^ (64 - count) ≡ 2 ^ count - 1 = ones_shr 64 (64 - count) (omega arith) ∙ ap (λ i. 2 ^ i - 1) rest in
    ap (λ w. bit_at w k) plain
    ∙ elim (cases_lt k count) as (λ _. bit_at (2 ^ count - 1) k ≡ cond (nat_lt k count) 1 0) [
      | inl less ↦ bit_at_ones count k less ∙ sym (cond-true (nat_lt k count) 1 0 (lt-ltb k count less))
      | inr more ↦ bit_at_ones_above count k more ∙ sym (cond-false (nat_lt k count) 1 0 (le-ltb k count more))
    ]

pub least_bit : (word : ℕ) → 0 < word → word < 2 ^ 64 → IsLeast word (trailing_zeros w64 word)
least_bit word some fits =
    let is = bit_at-trailing_zeros w64 word some fits in
    record { within = is.0; here = is.1; lower = is.2 }
