-- Cells that are written one after another are a line of a table, which is short.
use Rattle.std.proofs.Common.{◌≡◌, ◌∙◌, refl, sym, ap, ap₂, ⊎_elim, ◌⊎◌, inl, inr, ℕ, zero, suc, ◌+◌, ◌-◌, ◌<◌, ◌≤◌, Bool, true, false, ◌&&◌, nat_le, IsTrue, List, [], ◌∷◌, ◌++◌, All, length, map, get_or, drop, replicate, arith, append_assoc, append-nil, length-append, drop-cons, drop_of_length-le, leb-true, leb-false, le-leb, true≢false, cond, min}
use Rattle.std.specs.List.{flat_map}
use Rattle.std.proofs.lemmas.List.{length-replicate, get_or-map}
use Rattle.std.proofs.lemmas.List.Concat.{flat_map-cons}
use Rattle.std.proofs.lemmas.List.Elements.{All-head, All-tail}
use Rattle.rt_plain.specs.text.Words.{words}
use Rattle.rt_plain.specs.kernel.Tables.{Column, cell, cells}
use Rattle.finsh.specs.declared.cells.Cell.{Cell}
use Rattle.finsh.specs.Cells.{cell_text, room_of, rooms, fits, separator}

abbrev spaced : List ℕ → List ℕ
spaced x = 32 ∷ x

-- what follows in a line from the cell at a place on
abbrev pub behind : ℕ → List (List ℕ) → List ℕ
behind zero xs = words xs
behind (suc place) xs = flat_map spaced xs

-- the cells of a line from a place on
abbrev pub cells_from : ℕ → List Column → List (List ℕ) → List (List ℕ)
cells_from place cs ts = cells (drop place cs) (drop place ts)

words-cons : (x : List ℕ) (xs : List (List ℕ)) → words (x ∷ xs) ≡ x ++ flat_map spaced xs
words-cons x [] = sym (append-nil x)
words-cons x (y ∷ ys) = ap (λ z. x ++ (32 ∷ z)) (words-cons y ys) ∙ ap (λ z. x ++ z) (sym (flat_map-cons spaced y ys))

behind_step : (i : ℕ) (x : List ℕ) (xs : List (List ℕ)) → behind i (x ∷ xs) ≡ separator i ++ (x ++ behind (suc i) xs)
behind_step zero x xs = words-cons x xs
behind_step (suc i) x xs = flat_map-cons spaced x xs

cells_step : (i : ℕ) (cs : List Column) (ts : List (List ℕ)) (c : Column) (t : List ℕ) → i < length cs → i < length ts → get_or cs i c ≡ c → get_or ts i t ≡ t
    → cells_from i cs ts ≡ cell c t ∷ cells_from (suc i) cs ts
cells_step i cs ts c t hc ht ec et =
    ap₂ cells (drop-cons cs i c hc ∙ ap (λ x. x ∷ drop (suc i) cs) ec) (drop-cons ts i t ht ∙ ap (λ x. x ∷ drop (suc i) ts) et)

-- one cell more
pub joined_more : (i : ℕ) (line more all : List ℕ) (cs : List Column) (ts : List (List ℕ)) (c : Column) (t : List ℕ)
    → i < length cs → i < length ts → get_or cs i c ≡ c → get_or ts i t ≡ t
    → more ≡ line ++ separator i ++ cell c t → line ++ behind i (cells_from i cs ts) ≡ all
    → more ++ behind (i + 1) (cells_from (i + 1) cs ts) ≡ all
joined_more i line more all cs ts c t hc ht ec et e so_far =
    let rest = behind (suc i) (cells_from (suc i) cs ts) in
    ap (λ (j : ℕ). more ++ behind j (cells_from j cs ts)) {x = i + 1} {y = suc i} (omega arith)
    ∙ ap (λ m. m ++ rest) e
    ∙ append_assoc (line ++ separator i) (cell c t) rest
    ∙ append_assoc line (separator i) (cell c t ++ rest)
    ∙ ap (λ m. line ++ m) (sym (behind_step i (cell c t) (cells_from (suc i) cs ts)))
    ∙ ap (λ xs. line ++ behind i xs) (sym (cells_step i cs ts c t hc ht ec et))
    ∙ so_far

-- there is room for one cell more
pub joined_room : (i : ℕ) (line all : List ℕ) (cs : List Column) (ts : List (List ℕ)) (c : Column) (t : List ℕ)
    → i < length cs → i < length ts → get_or cs i c ≡ c → get_or ts i t ≡ t
    → line ++ behind i (cells_from i cs ts) ≡ all → length all ≤ 60 → length line + length (cell c t) < 64
joined_room i line all cs ts c t hc ht ec et so_far short =
    let rest = behind (suc i) (cells_from (suc i) cs ts) in
    let whole : line ++ (separator i ++ (cell c t ++ rest)) ≡ all =
    ap (λ m. line ++ m) (sym (behind_step i (cell c t) (cells_from (suc i) cs ts)))
    ∙ ap (λ xs. line ++ behind i xs) (sym (cells_step i cs ts c t hc ht ec et)) ∙ so_far in
    omega (arith, ap length whole, length-append line (separator i ++ (cell c t ++ rest)), length-append (separator i) (cell c t ++ rest), length-append (cell c t) rest)

nothing_behind : (i : ℕ) → behind i [] ≡ []
nothing_behind zero = refl
nothing_behind (suc i) = refl

no_cells : (cs : List Column) → cells cs [] ≡ []
no_cells [] = refl
no_cells (c ∷ cs) = refl

either_short : (a b i : ℕ) → min a b ≤ i → (a ≤ i) ⊎ (b ≤ i)
either_short a b i h = by (nat_le a i) refl
  where
    by : (t : Bool) → nat_le a i ≡ t → (a ≤ i) ⊎ (b ≤ i)
    by true e = inl (leb-true a i e)
    by false e = inr (omega (arith, leb-false a i e))

-- no cell is left
pub joined_end : (i : ℕ) (line all : List ℕ) (cs : List Column) (ts : List (List ℕ)) → min (length cs) (length ts) ≤ i
    → line ++ behind i (cells_from i cs ts) ≡ all → line ≡ all
joined_end i line all cs ts short so_far =
    let none : cells_from i cs ts ≡ [] = ⊎_elim
    (λ h. ap (λ xs. cells xs (drop i ts)) (drop_of_length-le cs h))
    (λ h. ap (cells (drop i cs)) (drop_of_length-le ts h) ∙ no_cells (drop i cs)) (either_short (length cs) (length ts) i short) in
    sym (append-nil line) ∙ ap (λ m. line ++ m) (sym (ap (behind i) none ∙ nothing_behind i)) ∙ so_far

-- how many bytes the rooms have, with a byte behind each
abbrev total : List ℕ → ℕ
total [] = 0
total (r ∷ rs) = r + 1 + total rs

pub fits_both : (a b : Bool) → IsTrue (a && b) → IsTrue a × IsTrue b
fits_both true b h = (refl, h)
fits_both false b h = absurd (true≢false (sym h))

fit_both : (a b : Bool) → IsTrue a → IsTrue b → IsTrue (a && b)
fit_both true b p q = q
fit_both false b p q = p

cell_length : (c : Column) (t : List ℕ) (r : ℕ) → c.width ≤ r → length t ≤ r → length (cell c t) ≤ r
cell_length c t r wide long = by c.right
  where
    by : (right : Bool) → length (cond right (replicate (c.width - length t) 32 ++ t) (t ++ replicate (c.width - length t) 32)) ≤ r
    by true = omega (arith, length-append (replicate (c.width - length t) 32) t, length-replicate {A = ℕ} (c.width - length t) 32)
    by false = omega (arith, length-append t (replicate (c.width - length t) 32), length-replicate {A = ℕ} (c.width - length t) 32)

words_length : (x : List ℕ) (xs : List (List ℕ)) → length (words (x ∷ xs)) ≤ length x + 1 + length (words xs)
words_length x [] = omega arith
words_length x (y ∷ ys) = omega (arith, length-append x (32 ∷ words (y ∷ ys)))

words_short : (rs : List ℕ) (cs : List Column) (ts : List (List ℕ)) → IsTrue (fits rs (map (λ c. c.width) cs)) → IsTrue (fits rs (map length ts)) → length (words (cells cs ts)) ≤ total rs
words_short rs [] ts wide long = omega arith
words_short rs (c ∷ cs) [] wide long = omega arith
words_short [] (c ∷ cs) (t ∷ ts) wide long = absurd (true≢false (sym wide))
words_short (r ∷ rs) (c ∷ cs) (t ∷ ts) wide long =
    let w = fits_both (nat_le c.width r) (fits rs (map (λ c. c.width) cs)) wide in
    let l = fits_both (nat_le (length t) r) (fits rs (map length ts)) long in
    let here : length (cell c t) ≤ r = cell_length c t r (leb-true _ _ w.0) (leb-true _ _ l.0) in
    omega (arith, words_length (cell c t) (cells cs ts), words_short rs cs ts w.1 l.1)

-- a line whose titles or texts have room
pub line_short : (cs : List Column) (ts : List (List ℕ)) → IsTrue (fits rooms (map (λ c. c.width) cs)) → IsTrue (fits rooms (map length ts)) → length (words (cells cs ts)) ≤ 60
line_short cs ts wide long = words_short rooms cs ts wide long

abbrev HasRoom : Cell → Type 0
HasRoom c = length (cell_text c) ≤ room_of c

texts_fit : (rs : List ℕ) (ds : List Cell) → IsTrue (fits rs (map room_of ds)) → All HasRoom ds → IsTrue (fits rs (map length (map cell_text ds)))
texts_fit rs [] fit all = refl
texts_fit [] (d ∷ ds) fit all = absurd (true≢false (sym fit))
texts_fit (r ∷ rs) (d ∷ ds) fit all =
    let f = fits_both (nat_le (room_of d) r) (fits rs (map room_of ds)) fit in
    let here : room_of d ≤ r = leb-true _ _ f.0 in
    let long : length (cell_text d) ≤ room_of d = All-head HasRoom d ds all in
    fit_both (nat_le (length (cell_text d)) r) (fits rs (map length (map cell_text ds))) (le-leb _ _ (omega arith)) (texts_fit rs ds f.1 (All-tail HasRoom d ds all))

-- a line whose cells have room
pub cells_short : (cs : List Column) (ds : List Cell) → IsTrue (fits rooms (map (λ c. c.width) cs)) → IsTrue (fits rooms (map room_of ds)) → All (λ d. length (cell_text d) ≤ room_of d) ds
    → length (words (cells cs (map cell_text ds))) ≤ 60
cells_short cs ds wide fit all = line_short cs (map cell_text ds) wide (texts_fit rooms ds fit all)

-- the title of a column
abbrev pub title_of : Column → List ℕ
title_of c = c.title

pub titles_at : (cs : List Column) (i : ℕ) (c : Column) (t : List ℕ) → i < length cs → get_or cs i c ≡ c → t ≡ c.title → get_or (map title_of cs) i t ≡ t
titles_at cs i c t h e is = get_or-map title_of cs i c t h ∙ ap title_of e ∙ sym is

titles_fit : (rs : List ℕ) (cs : List Column) → IsTrue (fits rs (map (λ c. length c.title) cs)) → IsTrue (fits rs (map length (map title_of cs)))
titles_fit rs [] fit = refl
titles_fit [] (c ∷ cs) fit = absurd (true≢false (sym fit))
titles_fit (r ∷ rs) (c ∷ cs) fit =
    let f = fits_both (nat_le (length c.title) r) (fits rs (map (λ d. length d.title) cs)) fit in
    fit_both (nat_le (length c.title) r) (fits rs (map length (map title_of cs))) f.0 (titles_fit rs cs f.1)

-- a line of titles that have room
pub titles_short : (cs : List Column) → IsTrue (fits rooms (map (λ c. c.width) cs)) → IsTrue (fits rooms (map (λ c. length c.title) cs)) → length (words (cells cs (map title_of cs))) ≤ 60
titles_short cs wide fit = line_short cs (map title_of cs) wide (titles_fit rooms cs fit)
