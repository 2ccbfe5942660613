-- What the words of a bitmap of two levels tell, and what an edit of them keeps.
use Rattle.std.proofs.Common.{ℕ, ◌≡◌, ◌+◌, ◌*◌, ◌/◌, ◌%◌, ◌^◌, ◌<◌, ◌≤◌, zero, suc, replicate, List, length, length-set, get_or, set, get_or-set_same, get_or-set_other, lit<, slice_index, bit_or, bit_and, refl, sym, ap, ◌∙◌, arith, inl, inr}
use Rattle.std.specs.Int.{bit_at, bit_not, trailing_zeros, w8, w32}
use Rattle.std.proofs.lemmas.Nat.Bits.{bit_at-trailing_zeros, bit_at_above, bit_at-zero, bit_at_set_same, bit_at_set_other, bit_at_clear_same, bit_at_clear_other}
use Rattle.std.proofs.lemmas.Nat.{div-mul-add, mod-mul-add, mul-add-lt, mul-le, same_from_place, pow_pos, or_lt, and_le_l, one_shl}
use Rattle.std.proofs.lemmas.List.{length-replicate, get_or_read}
use Rattle.std.proofs.lemmas.Bool.{cases_lt, cases_eq}
use Rattle.std.proofs.Math.Pow.{pow_mono, pow-lt}
use Rattle.std.proofs.Math.Nat.{mod-add-div', mod-lt, mul_comm}
use Rattle.ready_set.specs.Levels.{Bitmaps, level_bit, IsLeastLevel, IsChangedAt, IsIndexed}

word_fits : (n : ℕ) (tops gs : List ℕ) → IsIndexed n tops gs → (b : ℕ) → slice_index tops b < 2 ^ 32
word_fits n tops gs h b = let m = pow_mono h.most in omega (arith, m, h.within b)

pub group_below : (n : ℕ) (tops gs : List ℕ) → IsIndexed n tops gs → (b g : ℕ) → b < length tops → g < n → b * n + g < length gs
group_below n tops gs h b g row column = omega (arith, mul-add-lt b n g (length tops) row column, h.length_is, mul_comm n (length tops))

-- the place of a group, and the product in it, are small
pub place_fits : (n : ℕ) (tops gs : List ℕ) → IsIndexed n tops gs → (b : ℕ) → b < length tops → b * n ≤ 8192
place_fits n tops gs h b row = mul-le b n 256 32 (omega (arith, row, h.few)) h.most

read_at : (xs : List ℕ) (i x : ℕ) → i < length xs → x ≡ get_or xs i x → x ≡ get_or xs i 0
read_at xs i x below e = get_or_read xs i x below e 0

-- the lowest bit of the word is the number of a group
pub group_is_there : (n : ℕ) (tops gs : List ℕ) → IsIndexed n tops gs → (b top : ℕ) → b < length tops → top ≡ get_or tops b top → 0 < top → trailing_zeros w32 top < n
group_is_there n tops gs h b top row e pos =
    let e0 = read_at tops b top row e in
    let t = bit_at-trailing_zeros w32 top pos (omega (arith, e0, word_fits n tops gs h b)) in
    elim (cases_lt (trailing_zeros w32 top) n) [
      | inl less ↦ less
      | inr more ↦ absurd (let z = bit_at_above top n (trailing_zeros w32 top) (omega (arith, e0, h.within b)) more in omega (arith, z, t.1))
    ]

-- that group's lowest bit is the least level that is set
pub lowest_is_least : (n : ℕ) (tops gs : List ℕ) → IsIndexed n tops gs → (b top word : ℕ) → b < length tops → top ≡ get_or tops b top → 0 < top
    → word ≡ get_or gs (b * n + trailing_zeros w32 top) word
    → (trailing_zeros w8 word < 8) × IsLeastLevel n gs b (trailing_zeros w32 top * 8 + trailing_zeros w8 word)
lowest_is_least n tops gs h b top word row e pos ew =
    let e0 = read_at tops b top row e in
    let there = group_is_there n tops gs h b top row e pos in
    let t = bit_at-trailing_zeros w32 top pos (omega (arith, e0, word_fits n tops gs h b)) in
    let g = trailing_zeros w32 top in
    let ew0 = read_at gs (b * n + g) word (group_below n tops gs h b g row there) ew in
    let full : 0 < word = omega (arith, ew0, h.clear b g there (ap (λ x. bit_at x g) (sym e0) ∙ t.1)) in
    let u = bit_at-trailing_zeros w8 word full (omega (arith, ew0, h.bytes (b * n + g))) in
    let l = trailing_zeros w8 word in
    let quotient = div-mul-add g 8 l u.0 in
    let rest = mod-mul-add g 8 l u.0 in (
      u.0,
      record {
        within = omega (arith, there, u.0);
        is_set = rw (quotient, rest) (ap (λ x. bit_at x l) (sym ew0) ∙ u.1);
        least = λ q less.
            let parts = mod-add-div' q 8 in
            elim (cases_lt (q / 8) g) as (λ _. level_bit n gs b q ≡ 0) [
              | inl low ↦
                  elim (cases_lt 0 (slice_index gs (b * n + q / 8))) as (λ _. level_bit n gs b q ≡ 0) [
                    | inl some_set ↦ absurd (omega (arith, t.2 (q / 8) low, ap (λ x. bit_at x (q / 8)) e0, h.full b (q / 8) (omega (arith, low, there)) some_set))
                    | inr none_set ↦
                        let none_is : slice_index gs (b * n + q / 8) ≡ 0 = omega (arith, none_set) in
                        ap (λ x. bit_at x (q % 8)) none_is ∙ bit_at-zero (q % 8)
                  ]
              | inr high ↦
                  let same : q / 8 ≡ g = omega (arith, parts, high, less, u.0) in
                  let low : q % 8 < l = omega (arith, parts, high, less, ap (λ x. x * 8) same) in
                  ap (λ x. bit_at (slice_index gs (b * n + x)) (q % 8)) same ∙ ap (λ x. bit_at x (q % 8)) (sym ew0) ∙ u.2 (q % 8) low
            ];
      },
    )

zero_at : (n g : ℕ) → slice_index (replicate n 0) g ≡ 0
zero_at zero g = refl
zero_at (suc n) zero = refl
zero_at (suc n) (suc g) = zero_at n g

-- no level is set at first
pub none_set_at_first : (n b : ℕ) (tops gs : List ℕ) → n ≤ 32 → b ≤ 256 → tops ≡ replicate b 0 → gs ≡ replicate (b * n) 0 → IsIndexed n tops gs
none_set_at_first n b tops gs most few et eg =
    let long = length-replicate {A = ℕ} b 0 in
    rw (et, eg) (record {
      most = most;
      few = omega (arith, long, few);
      length_is = length-replicate {A = ℕ} (b * n) 0 ∙ ap (λ x. x * n) (sym long);
      within = λ i. omega (arith, zero_at b i, pow_pos n);
      bytes = λ i. omega (arith, zero_at (b * n) i);
      full = λ i g _ some_set. absurd (omega (arith, some_set, zero_at (b * n) (i * n + g)));
      clear = λ i g _ is. absurd (omega (arith, is, ap (λ x. bit_at x g) (zero_at b i), bit_at-zero g));
    })

-- a number with a bit set isn't 0
some_bit : (x k : ℕ) → bit_at x k ≡ 1 → 0 < x
some_bit x k e =
    elim (cases_lt 0 x) [
      | inl more ↦ more
      | inr none_more ↦ absurd (let z : x ≡ 0 = omega (arith, none_more) in omega (arith, sym (ap (λ y. bit_at y k) z) ∙ e, bit_at-zero k))
    ]

-- one bit of one group has changed
changed_word : (n : ℕ) (gs : List ℕ) (b level word value : ℕ) → b * n + level / 8 < length gs → level < 8 * n
    → bit_at word (level % 8) ≡ value → ((i : ℕ) → i < 8 → (i ≡ level % 8 → ⊥) → bit_at word i ≡ bit_at (slice_index gs (b * n + level / 8)) i)
    → IsChangedAt n gs (set gs (b * n + level / 8) word) b level value
changed_word n gs b level word value row below same others =
    let at = b * n + level / 8 in
    record {
      here = ap (λ x. bit_at x (level % 8)) (get_or-set_same gs at word 0 row) ∙ same;
      elsewhere = λ b' l' below' apart.
          elim (cases_eq (b' * n + l' / 8) at) as (λ _. level_bit n (set gs at word) b' l' ≡ level_bit n gs b' l') [
            | inl e ↦
                let one = same_from_place b' (l' / 8) b (level / 8) n (omega (arith, below')) (omega (arith, below)) e in
                let differ : (l' % 8 ≡ level % 8 → ⊥) = λ r. apart (one.0, omega (arith, mod-add-div' l' 8, mod-add-div' level 8, one.1, r)) in
                ap (λ i. bit_at (slice_index (set gs at word) i) (l' % 8)) e
                ∙ ap (λ x. bit_at x (l' % 8)) (get_or-set_same gs at word 0 row)
                ∙ others (l' % 8) (omega arith) differ
                ∙ ap (λ i. bit_at (slice_index gs i) (l' % 8)) (sym e)
            | inr e ↦ ap (λ x. bit_at x (l' % 8)) (get_or-set_other gs at (b' * n + l' / 8) word 0 e)
          ];
    }

-- a group and its bit above it have changed
indexed_changed : (n : ℕ) (tops gs : List ℕ) (b g top word : ℕ) → IsIndexed n tops gs → b < length tops → g < n → top < 2 ^ n → word < 2 ^ 8
    → (0 < word → bit_at top g ≡ 1) → (bit_at top g ≡ 1 → 0 < word)
    → ((i : ℕ) → i < n → (i ≡ g → ⊥) → bit_at top i ≡ bit_at (slice_index tops b) i)
    → IsIndexed n (set tops b top) (set gs (b * n + g) word)
indexed_changed n tops gs b g top word h row column top_fits word_fits full clear others =
    let at = b * n + g in
    let inside = group_below n tops gs h b g row column in
    let top_here = get_or-set_same tops b top 0 row in
    let word_here = get_or-set_same gs at word 0 inside in
    record {
      most = h.most;
      few = omega (arith, h.few, length-set tops b top);
      length_is = length-set gs at word ∙ h.length_is ∙ ap (λ x. x * n) (sym (length-set tops b top));
      within = λ i. elim (cases_eq i b) [
        | inl e ↦ omega (arith, ap (slice_index (set tops b top)) e ∙ top_here, top_fits)
        | inr e ↦ omega (arith, get_or-set_other tops b i top 0 e, h.within i)
      ];
      bytes = λ i. elim (cases_eq i at) [
        | inl e ↦ omega (arith, ap (slice_index (set gs at word)) e ∙ word_here, word_fits)
        | inr e ↦ omega (arith, get_or-set_other gs at i word 0 e, h.bytes i)
      ];
      full = λ i j below some_set. elim (cases_eq i b) as (λ _. bit_at (slice_index (set tops b top) i) j ≡ 1) [
        | inl e ↦
            let here : slice_index (set tops b top) i ≡ top = ap (slice_index (set tops b top)) e ∙ top_here in
            ap (λ x. bit_at x j) here ∙ elim (cases_eq j g) as (λ _. bit_at top j ≡ 1) [
              | inl f ↦
                  let at_place : i * n + j ≡ at = ap (λ x. x * n + j) e ∙ ap (λ x. b * n + x) f in
                  ap (bit_at top) f ∙ full (omega (arith, ap (slice_index (set gs at word)) at_place ∙ word_here, some_set))
              | inr f ↦
                  let off : (i * n + j ≡ at → ⊥) = λ p. f (same_from_place i j b g n below column p).1 in
                  others j below f ∙ ap (λ x. bit_at (slice_index tops x) j) (sym e) ∙ h.full i j below (omega (arith, get_or-set_other gs at (i * n + j) word 0 off, some_set))
            ]
        | inr e ↦
            let off : (i * n + j ≡ at → ⊥) = λ p. e (same_from_place i j b g n below column p).0 in
            ap (λ x. bit_at x j) (get_or-set_other tops b i top 0 e) ∙ h.full i j below (omega (arith, get_or-set_other gs at (i * n + j) word 0 off, some_set))
      ];
      clear = λ i j below is. elim (cases_eq i b) as (λ _. 0 < slice_index (set gs at word) (i * n + j)) [
        | inl e ↦
            let here : slice_index (set tops b top) i ≡ top = ap (slice_index (set tops b top)) e ∙ top_here in
            let top_is : bit_at top j ≡ 1 = ap (λ x. bit_at x j) (sym here) ∙ is in
            elim (cases_eq j g) as (λ _. 0 < slice_index (set gs at word) (i * n + j)) [
              | inl f ↦
                  let at_place : i * n + j ≡ at = ap (λ x. x * n + j) e ∙ ap (λ x. b * n + x) f in
                  omega (arith, ap (slice_index (set gs at word)) at_place ∙ word_here, clear (ap (bit_at top) (sym f) ∙ top_is))
              | inr f ↦
                  let off : (i * n + j ≡ at → ⊥) = λ p. f (same_from_place i j b g n below column p).1 in
                  omega (arith, get_or-set_other gs at (i * n + j) word 0 off, h.clear i j below (ap (λ x. bit_at (slice_index tops x) j) e ∙ sym (others j below f) ∙ top_is))
            ]
        | inr e ↦
            let off : (i * n + j ≡ at → ⊥) = λ p. e (same_from_place i j b g n below column p).0 in
            omega (arith, get_or-set_other gs at (i * n + j) word 0 off, h.clear i j below (ap (λ x. bit_at x j) (sym (get_or-set_other tops b i top 0 e)) ∙ is))
      ];
    }

-- ---- as the code uses it

pub level_set : (n : ℕ) (tops gs : List ℕ) → IsIndexed n tops gs → (b level word : ℕ) (gs1 gs' : List ℕ) → b < length tops → level < 8 * n
    → word ≡ get_or gs (b * n + level / 8) word → gs1 ≡ gs → gs' ≡ set gs1 (b * n + level / 8) (bit_or word (1 * 2 ^ (level % 8) % 2 ^ 8))
    → IsChangedAt n gs gs' b level 1
level_set n tops gs h b level word gs1 gs' row below e e1 eg =
    let inside = group_below n tops gs h b (level / 8) row (omega (arith, below)) in
    let e0 = read_at gs (b * n + level / 8) word inside e in
    let k = level % 8 in
    let short : k < 8 = omega arith in
    rw (eg, e1) (changed_word n gs b level (bit_or word (1 * 2 ^ k % 2 ^ 8)) 1 inside below (bit_at_set_same w8 word k short)
    (λ i _ apart. bit_at_set_other w8 word k short i apart ∙ ap (λ x. bit_at x i) e0))

pub index_set : (n : ℕ) (tops gs : List ℕ) → IsIndexed n tops gs → (b level word top : ℕ) (gs1 gs' tops1 tops' : List ℕ) → b < length tops → level < 8 * n
    → word ≡ get_or gs (b * n + level / 8) word → gs1 ≡ gs → gs' ≡ set gs1 (b * n + level / 8) (bit_or word (1 * 2 ^ (level % 8) % 2 ^ 8))
    → top ≡ get_or tops b top → tops1 ≡ tops → tops' ≡ set tops1 b (bit_or top (1 * 2 ^ (level / 8) % 2 ^ 32))
    → IsIndexed n tops' gs'
index_set n tops gs h b level word top gs1 gs' tops1 tops' row below e e1 eg f f1 eh =
    let g = level / 8 in
    let k = level % 8 in
    let short : k < 8 = omega arith in
    let there : g < n = omega (arith, below) in
    let inside : g < 32 = omega (arith, there, h.most) in
    let e0 = read_at gs (b * n + g) word (group_below n tops gs h b g row there) e in
    let f0 = read_at tops b top row f in
    let fits : 2 ^ g < 2 ^ n = pow-lt there in
    let plain : 1 * 2 ^ g % 2 ^ 32 ≡ 2 ^ g = one_shl g 32 inside in
    rw (eg, e1, eh, f1) (indexed_changed n tops gs b g (bit_or top (1 * 2 ^ g % 2 ^ 32)) (bit_or word (1 * 2 ^ k % 2 ^ 8)) h row there
    (or_lt n top (1 * 2 ^ g % 2 ^ 32) (omega (arith, f0, h.within b)) (omega (arith, plain, fits)))
    (or_lt 8 word (1 * 2 ^ k % 2 ^ 8) (omega (arith, e0, h.bytes (b * n + g))) (mod-lt (1 * 2 ^ k) (lit< tt)))
    (λ _. bit_at_set_same w32 top g inside)
    (λ _. some_bit (bit_or word (1 * 2 ^ k % 2 ^ 8)) k (bit_at_set_same w8 word k short))
    (λ i _ apart. bit_at_set_other w32 top g inside i apart ∙ ap (λ x. bit_at x i) f0))

pub level_cleared : (n : ℕ) (tops gs : List ℕ) → IsIndexed n tops gs → (b level word : ℕ) (gs1 gs' : List ℕ) → b < length tops → level < 8 * n
    → word ≡ get_or gs (b * n + level / 8) word → gs1 ≡ gs → gs' ≡ set gs1 (b * n + level / 8) (bit_and word (bit_not w8 (1 * 2 ^ (level % 8) % 2 ^ 8)))
    → IsChangedAt n gs gs' b level 0
level_cleared n tops gs h b level word gs1 gs' row below e e1 eg =
    let inside = group_below n tops gs h b (level / 8) row (omega (arith, below)) in
    let e0 = read_at gs (b * n + level / 8) word inside e in
    let k = level % 8 in
    let short : k < 8 = omega arith in
    rw (eg, e1) (changed_word n gs b level (bit_and word (bit_not w8 (1 * 2 ^ k % 2 ^ 8))) 0 inside below (bit_at_clear_same w8 word k short)
    (λ i low apart. bit_at_clear_other w8 word k short i low apart ∙ ap (λ x. bit_at x i) e0))

-- the group is empty now
pub index_emptied : (n : ℕ) (tops gs : List ℕ) → IsIndexed n tops gs → (b level word top : ℕ) (gs1 gs' tops1 tops' : List ℕ) → b < length tops → level < 8 * n
    → gs1 ≡ gs → gs' ≡ set gs1 (b * n + level / 8) word → word ≡ 0
    → top ≡ get_or tops b top → tops1 ≡ tops → tops' ≡ set tops1 b (bit_and top (bit_not w32 (1 * 2 ^ (level / 8) % 2 ^ 32)))
    → IsIndexed n tops' gs'
index_emptied n tops gs h b level word top gs1 gs' tops1 tops' row below e1 eg none_left f f1 eh =
    let g = level / 8 in
    let there : g < n = omega (arith, below) in
    let inside : g < 32 = omega (arith, there, h.most) in
    let f0 = read_at tops b top row f in
    let mask = bit_not w32 (1 * 2 ^ g % 2 ^ 32) in
    rw (eg, e1, eh, f1) (indexed_changed n tops gs b g (bit_and top mask) word h row there
    (omega (arith, and_le_l top mask, f0, h.within b)) (omega (arith, none_left))
    (λ more. absurd (omega (arith, more, none_left)))
    (λ is. absurd (omega (arith, is, bit_at_clear_same w32 top g inside)))
    (λ i low apart. bit_at_clear_other w32 top g inside i (omega (arith, low, h.most)) apart ∙ ap (λ x. bit_at x i) f0))

-- the fields, as the value is seen
pub bits_seen : (n : ℕ) (tops gs : List ℕ) (v : Bitmaps) → IsIndexed n tops gs → record { bindings = length tops; groups = gs } ≡ v → (length tops ≡ v.bindings) × (gs ≡ v.groups)
bits_seen n tops gs v h e = (ap (λ (w : Bitmaps). w.bindings) e, ap (λ (w : Bitmaps). w.groups) e)
