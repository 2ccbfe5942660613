-- Ticks in 32 bits, and their differences.
use Rattle.std.proofs.Common.{◌⊎◌, inl, inr, ℕ, ◌≡◌, ◌+◌, ◌-◌, ◌*◌, ◌/◌, ◌%◌, ◌<◌, ◌≤◌, ap, ◌∙◌, arith}
use Rattle.std.proofs.lemmas.Bool.{cases_lt}
use Rattle.std.proofs.lemmas.Nat.{div-add-mod', mod-mul-add, mod_below}

-- a number by what is left of it and how often the ticks have wrapped
wraps : (n q rest : ℕ) → rest < 4294967296 → n ≡ q * 4294967296 + rest → n % 4294967296 ≡ rest
wraps n q rest less is = ap (λ k. k % 4294967296) is ∙ mod-mul-add q 4294967296 rest less

-- a tick so many ticks later, by whether it wraps
tick_later : (tick n : ℕ) → tick < 4294967296 → n < 4294967296
    → ((tick + n < 4294967296) × ((tick + n) % 4294967296 ≡ tick + n)) ⊎ ((4294967296 ≤ tick + n) × ((tick + n) % 4294967296 ≡ tick + n - 4294967296))
tick_later tick n t k = elim (cases_lt (tick + n) 4294967296) as (λ _. ((tick + n < 4294967296) × ((tick + n) % 4294967296 ≡ tick + n)) ⊎ ((4294967296 ≤ tick + n) × ((tick + n) % 4294967296 ≡ tick + n - 4294967296)))
    [ inl less ↦ inl (less, wraps (tick + n) 0 (tick + n) less (omega arith)) | inr more ↦ inr (more, wraps (tick + n) 1 (tick + n - 4294967296) (omega arith) (omega arith)) ]

-- so many ticks later so much less is left
pub left-later : (due tick n : ℕ) → tick < 4294967296 → n < 4294967296 → n ≤ (due + (4294967296 - tick)) % 4294967296
    → (due + (4294967296 - (tick + n) % 4294967296)) % 4294967296 ≡ (due + (4294967296 - tick)) % 4294967296 - n
left-later due tick n t k ahead =
    let all = due + (4294967296 - tick) in
    let turns = all / 4294967296 in
    let left = all % 4294967296 in
    let is : turns * 4294967296 + left ≡ all = div-add-mod' all 4294967296 in
    let less : left < 4294967296 = mod_below all 4294967296 (omega arith) in
    elim (tick_later tick n t k) as (λ _. (due + (4294967296 - (tick + n) % 4294967296)) % 4294967296 ≡ left - n) [
      | inl w ↦ (let e = w.1 in let f = w.0 in wraps (due + (4294967296 - (tick + n) % 4294967296)) turns (left - n) (omega arith) (omega arith))
      | inr w ↦ (let e = w.1 in let f = w.0 in wraps (due + (4294967296 - (tick + n) % 4294967296)) (turns + 1) (left - n) (omega arith) (omega arith))
    ]

-- of a tick so many ticks later, so much is left
pub left-new : (tick n : ℕ) → tick < 4294967296 → n < 4294967296 → ((tick + n) % 4294967296 + (4294967296 - tick)) % 4294967296 ≡ n
left-new tick n t k =
    elim (tick_later tick n t k) as (λ _. ((tick + n) % 4294967296 + (4294967296 - tick)) % 4294967296 ≡ n) [
      | inl w ↦ (let e = w.1 in wraps ((tick + n) % 4294967296 + (4294967296 - tick)) 1 n k (omega arith))
      | inr w ↦ (let e = w.1 in let f = w.0 in wraps ((tick + n) % 4294967296 + (4294967296 - tick)) 0 n k (omega arith))
    ]
