-- Eight digits in base 16, written from the last one on, are a number's digits behind zeros.
use Rattle.std.proofs.Common.{◌≡◌, ◌∙◌, refl, drop, set, sym, ap, ⊎_elim, ℕ, zero, suc, ◌+◌, ◌-◌, ◌/◌, ◌%◌, ◌^◌, ◌<◌, ◌≤◌, false, cond, List, [], ◌∷◌, ◌++◌, length, replicate, arith, append_assoc, eq-eqb, ne_eqb, eq-zero-or-pos}
use Rattle.std.specs.Fmt.{digit_glyph, digits_onto, digits}
use Rattle.std.proofs.lemmas.List.{replicate_more, drop-set}
use Rattle.rt_plain.specs.text.Words.{hex_eight}
use Rattle.finsh.specs.Cells.{hex_onto}

-- no number is so many zeros
zeros : (k : ℕ) (behind : List ℕ) → hex_onto k 0 behind ≡ replicate k 48 ++ behind
zeros zero behind = refl
zeros (suc k) behind =
    zeros k (48 ∷ behind)
    ∙ sym (append_assoc (replicate k 48) (48 ∷ []) behind)
    ∙ ap (λ xs. xs ++ behind) (replicate_more k 48)
    ∙ ap (λ j. replicate j 48 ++ behind) {x = k + 1} {y = suc k} (omega arith)

abbrev spelled : ℕ → ℕ → List ℕ → List ℕ
spelled m n behind = digits_onto m 16 false n behind

spelled_last : (m n : ℕ) (behind : List ℕ) → n / 16 ≡ 0 → spelled (suc m) n behind ≡ digit_glyph false (n % 16) ∷ behind
spelled_last m n behind e = ap (λ t. cond t (digit_glyph false (n % 16) ∷ behind) (spelled m (n / 16) (digit_glyph false (n % 16) ∷ behind))) (eq-eqb (n / 16) 0 e)

spelled_more : (m n : ℕ) (behind : List ℕ) → 0 < n / 16 → spelled (suc m) n behind ≡ spelled m (n / 16) (digit_glyph false (n % 16) ∷ behind)
spelled_more m n behind p = ap (λ t. cond t (digit_glyph false (n % 16) ∷ behind) (spelled m (n / 16) (digit_glyph false (n % 16) ∷ behind))) (ne_eqb (n / 16) 0 (λ e. omega arith))

-- digits behind so many zeros that with what stands they are so many
abbrev filled : ℕ → List ℕ → List ℕ → List ℕ
filled k behind ds = replicate (k + length behind - length ds) 48 ++ ds

filled_last : (k m n : ℕ) (behind : List ℕ) → n / 16 ≡ 0 → hex_onto (suc k) n behind ≡ filled (suc k) behind (spelled (suc m) n behind)
filled_last k m n behind e =
    let all = digit_glyph false (n % 16) ∷ behind in
    ap (λ j. hex_onto k j all) e
    ∙ zeros k all
    ∙ ap (λ j. replicate j 48 ++ all) {x = k} {y = suc k + length behind - length all} (omega arith)
    ∙ ap (filled (suc k) behind) (sym (spelled_last m n behind e))

-- the digits of a number that has so many at most
padded : (k m n : ℕ) (behind : List ℕ) → n < 16 ^ suc k → k ≤ m → hex_onto (suc k) n behind ≡ filled (suc k) behind (spelled (suc m) n behind)
padded zero m n behind small le = filled_last zero m n behind (omega arith)
padded (suc k) zero n behind small le = absurd (omega arith)
padded (suc k) (suc m) n behind small le = ⊎_elim
    (filled_last (suc k) (suc m) n behind)
    (λ p. padded k m (n / 16) (digit_glyph false (n % 16) ∷ behind) (omega arith) (omega arith)
    ∙ ap (λ j. replicate (j - length (spelled (suc m) (n / 16) (digit_glyph false (n % 16) ∷ behind))) 48 ++ spelled (suc m) (n / 16) (digit_glyph false (n % 16) ∷ behind))
    {x = suc k + length (digit_glyph false (n % 16) ∷ behind)} {y = suc (suc k) + length behind} (omega arith)
    ∙ ap (filled (suc (suc k)) behind) (sym (spelled_more (suc m) n behind p)))
    (eq-zero-or-pos (n / 16))

pub eight : (n : ℕ) → n < 2 ^ 32 → hex_onto 8 n [] ≡ hex_eight n
unfolding digits
eight n small = padded 7 63 n [] (omega arith) (omega arith)

pub eight_long : (n : ℕ) → n < 2 ^ 32 → length (hex_eight n) ≡ 8
eight_long n small = ap length (sym (eight n small))

-- one digit more is written before the others
pub next_digit : (j k n digit : ℕ) (digits : List ℕ) → j + 1 ≡ k → j < length digits → digit ≡ digit_glyph false (n % 16)
    → hex_onto j (n / 16) (drop j (set digits j digit)) ≡ hex_onto k n (drop k digits)
next_digit j k n digit digits e h is =
    ap (hex_onto j (n / 16)) (drop-set digits j digit h ∙ ap (λ g. g ∷ drop (j + 1) digits) is)
    ∙ ap (λ (m : ℕ). hex_onto m n (drop (j + 1) digits)) {x = suc j} {y = k} (omega arith)
    ∙ ap (λ (m : ℕ). hex_onto k n (drop m digits)) e
