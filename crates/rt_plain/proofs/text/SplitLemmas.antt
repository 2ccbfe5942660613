-- The words of a line are the words that it was joined of, and the lines of a text are found one by one.
use Rattle.std.proofs.Common.{◌≡◌, ℕ, zero, suc, ◌+◌, ◌-◌, ◌≤◌, ◌<◌, Bool, true, false, ◌&&◌, ◌||◌, eqb, cond, List, [], ◌∷◌, ◌++◌, length, map, get_or, take, drop, drop-cons, length-drop, refl, sym, ap, ◌∙◌, subst, arith, inl, inr, ◌⊎◌, take-append-drop, Bor}
use Rattle.std.specs.List.{list_any, flat_map}
use Rattle.std.proofs.lemmas.List.Concat.{flat_map-cons}
use Rattle.std.proofs.lemmas.List.{append-nil, take_more, take_all, nil_from_length, drop-map}
use Rattle.std.proofs.lemmas.Bool.{eqb-true, or_left}
use Rattle.rt_plain.specs.text.Words.{words}
use Rattle.rt_plain.specs.text.Splits.{grow, lines_of, words_from, words_of, is_empty}

-- the words as a line, in the form that inductions want
abbrev pub joined : List (List ℕ) → List ℕ
joined [] = []
joined (w ∷ ws) = w ++ flat_map (λ v. 32 ∷ v) ws

pub words-joined_words : (ws : List (List ℕ)) → words ws ≡ joined ws
words-joined_words [] = refl
words-joined_words (w ∷ []) = sym (append-nil w)
words-joined_words (w ∷ v ∷ ws) = ap (λ (t : List ℕ). w ++ 32 ∷ t) (words-joined_words (v ∷ ws)) ∙ ap (λ (t : List ℕ). w ++ t) (sym (flat_map-cons (λ (u : List ℕ). 32 ∷ u) v ws))

-- no space in it
abbrev pub IsSolid : List ℕ → Type 0
IsSolid [] = Unit {0}
IsSolid (b ∷ bs) = (eqb b 32 ≡ false) × IsSolid bs

-- not empty, no space in it, and no quote at its front
abbrev pub IsPlain : List ℕ → Type 0
IsPlain [] = ⊥
IsPlain (b ∷ bs) = (eqb b 34 ≡ false) × (eqb b 32 ≡ false) × IsSolid bs

abbrev pub IsQuoted : List ℕ → Type 0
IsQuoted [] = ⊥
IsQuoted (b ∷ bs) = b ≡ 34

-- each is plain, but for the last, which may be quoted
abbrev pub AreWords : List (List ℕ) → Type 0
AreWords [] = ⊥
AreWords (w ∷ []) = IsPlain w ⊎ IsQuoted w
AreWords (w ∷ v ∷ ws) = IsPlain w × AreWords (v ∷ ws)

inner : (w rest : List ℕ) → IsSolid w → words_from false (w ++ 32 ∷ rest) ≡ w ∷ words_from true rest
inner [] rest h = refl
inner (b ∷ bs) rest h = rw (h.0, inner bs rest h.1) refl

inner_last : (w : List ℕ) → IsSolid w → words_from false w ≡ w ∷ []
inner_last [] h = refl
inner_last (b ∷ bs) h = rw (h.0, inner_last bs h.1) refl

pub first_is : (w rest : List ℕ) → IsPlain w → words_from true (w ++ 32 ∷ rest) ≡ w ∷ words_from true rest
first_is [] rest h = absurd h
first_is (b ∷ bs) rest h = rw (h.0, h.1, inner bs rest h.2) refl

pub last_is : (w : List ℕ) → IsPlain w ⊎ IsQuoted w → words_from true w ≡ w ∷ []
last_is [] (inl h) = absurd h
last_is [] (inr h) = absurd h
last_is (b ∷ bs) (inl h) = rw (h.0, h.1, inner_last bs h.2) refl
last_is (b ∷ bs) (inr h) = rw h refl

joined_more : (w v : List ℕ) (ws : List (List ℕ)) → joined (w ∷ v ∷ ws) ≡ w ++ 32 ∷ joined (v ∷ ws)
joined_more w v ws = ap (λ (t : List ℕ). w ++ t) (flat_map-cons (λ (u : List ℕ). 32 ∷ u) v ws)

pub words-joined : (ws : List (List ℕ)) → AreWords ws → words_of (joined ws) ≡ ws
words-joined [] h = absurd h
words-joined (w ∷ []) h = ap words_of (append-nil w) ∙ last_is w h
words-joined (w ∷ v ∷ ws) h = ap words_of (joined_more w v ws) ∙ first_is w (joined (v ∷ ws)) h.0 ∙ ap (λ (t : List (List ℕ)). w ∷ t) (words-joined (v ∷ ws) h.1)

joined-grow : (b : ℕ) (ws : List (List ℕ)) → joined (grow b ws) ≡ b ∷ joined ws
joined-grow b [] = refl
joined-grow b (w ∷ ws) = refl

abbrev IsFull : List (List ℕ) → Type 0
IsFull [] = ⊥
IsFull (w ∷ ws) = Unit {0}

IsFull-grow : (b : ℕ) (ws : List (List ℕ)) → IsFull (grow b ws)
IsFull-grow b [] = tt
IsFull-grow b (w ∷ ws) = tt

by_test : (t : Bool) (x y : List (List ℕ)) → IsFull x → IsFull y → IsFull (cond t x y)
by_test true x y f g = f
by_test false x y f g = g

IsFull-words : (start : Bool) (bs : List ℕ) → IsFull (words_from start bs)
IsFull-words start [] = tt
IsFull-words start (b ∷ bs) = by_test (start && eqb b 34) _ _ tt (by_test (eqb b 32) _ _ tt (IsFull-grow b (words_from false bs)))

spaced : (ws : List (List ℕ)) → IsFull ws → joined ([] ∷ ws) ≡ 32 ∷ joined ws
spaced [] h = absurd h
spaced (w ∷ ws) h = flat_map-cons (λ (u : List ℕ). 32 ∷ u) w ws

joined_test : (t : Bool) (x y : List (List ℕ)) (z : List ℕ) → (t ≡ true → joined x ≡ z) → (t ≡ false → joined y ≡ z) → joined (cond t x y) ≡ z
joined_test true x y z f g = f refl
joined_test false x y z f g = g refl

-- nothing is lost
pub joined-words : (start : Bool) (bs : List ℕ) → joined (words_from start bs) ≡ bs
joined-words start [] = refl
joined-words start (b ∷ bs) =
    joined_test (start && eqb b 34) _ _ (b ∷ bs)
    (λ e. append-nil (b ∷ bs))
    (λ e. joined_test (eqb b 32) _ _ (b ∷ bs)
    (λ space. spaced (words_from true bs) (IsFull-words true bs) ∙ ap (λ (t : List ℕ). 32 ∷ t) (joined-words true bs) ∙ ap (λ (c : ℕ). c ∷ bs) (sym (eqb-true b 32 space)))
    (λ other. joined-grow b (words_from false bs) ∙ ap (λ (t : List ℕ). b ∷ t) (joined-words false bs)))

-- ---- for the code

IsSolid-push : (xs : List ℕ) (b : ℕ) → IsSolid xs → eqb b 32 ≡ false → IsSolid (xs ++ b ∷ [])
IsSolid-push [] b h e = (e, tt)
IsSolid-push (x ∷ xs) b h e = (h.0, IsSolid-push xs b h.1 e)

pub solid_more : (xs : List ℕ) (i : ℕ) → i < length xs → IsSolid (take i xs) → eqb (get_or xs i 0) 32 ≡ false → IsSolid (take (i + 1) xs)
solid_more xs i lt h e = subst IsSolid (sym (take_more xs i 0 lt)) (IsSolid-push (take i xs) (get_or xs i 0) h e)

-- no quote at the front
abbrev pub IsUnquoted : List ℕ → Type 0
IsUnquoted [] = Unit {0}
IsUnquoted (b ∷ bs) = eqb b 34 ≡ false

front_is : (w rest : List ℕ) → IsUnquoted w → IsSolid w → words_from true (w ++ 32 ∷ rest) ≡ w ∷ words_from true rest
front_is [] rest q h = refl
front_is (b ∷ bs) rest q h = rw (q, h.0, inner bs rest h.1) refl

whole_is : (w : List ℕ) → IsUnquoted w → IsSolid w → words_from true w ≡ w ∷ []
whole_is [] q h = refl
whole_is (b ∷ bs) q h = rw (q, h.0, inner_last bs h.1) refl

IsUnquoted-take : (i : ℕ) (xs : List ℕ) → IsUnquoted xs → IsUnquoted (take i xs)
IsUnquoted-take zero xs h = tt
IsUnquoted-take (suc i) [] h = tt
IsUnquoted-take (suc i) (x ∷ xs) h = h

pub unquoted_from : (xs : List ℕ) → (0 < length xs → eqb (get_or xs 0 0) 34 ≡ false) → IsUnquoted xs
unquoted_from [] h = tt
unquoted_from (x ∷ xs) h = h (omega arith)

pub split_at : (xs : List ℕ) (i : ℕ) → IsUnquoted xs → i < length xs → IsSolid (take i xs) → eqb (get_or xs i 0) 32 ≡ true → words_from true xs ≡ take i xs ∷ words_from true (drop (i + 1) xs)
split_at xs i q lt h e =
    let next : suc i ≡ i + 1 = omega arith in
    let there : drop i xs ≡ 32 ∷ drop (i + 1) xs = drop-cons xs i 0 lt ∙ ap (λ (b : ℕ). b ∷ drop (suc i) xs) (eqb-true _ _ e) ∙ ap (λ (n : ℕ). 32 ∷ drop n xs) next in
    ap (words_from true) (sym (take-append-drop i xs) ∙ ap (λ (t : List ℕ). take i xs ++ t) there) ∙ front_is (take i xs) (drop (i + 1) xs) (IsUnquoted-take i xs q) h

pub one_word : (xs : List ℕ) (i : ℕ) → IsUnquoted xs → length xs ≤ i → IsSolid (take i xs) → words_from true xs ≡ xs ∷ []
one_word xs i q le h = whole_is xs q (subst IsSolid (take_all i xs le) h)

pub quoted_word : (xs : List ℕ) → 0 < length xs → eqb (get_or xs 0 0) 34 ≡ true → words_from true xs ≡ xs ∷ []
quoted_word [] lt e = absurd (omega arith)
quoted_word (x ∷ xs) lt e = last_is (x ∷ xs) (inr (eqb-true x 34 e))

-- ---- lines

-- no newline in it
abbrev pub IsUnbroken : List ℕ → Type 0
IsUnbroken [] = Unit {0}
IsUnbroken (b ∷ bs) = (eqb b 10 ≡ false) × IsUnbroken bs

pub line_is : (w rest : List ℕ) → IsUnbroken w → lines_of (w ++ 10 ∷ rest) ≡ w ∷ lines_of rest
line_is [] rest h = refl
line_is (b ∷ bs) rest h = rw (h.0, line_is bs rest h.1) refl

last_line_is : (b : ℕ) (bs : List ℕ) → IsUnbroken (b ∷ bs) → lines_of (b ∷ bs) ≡ (b ∷ bs) ∷ []
last_line_is b [] h = rw h.0 refl
last_line_is b (c ∷ bs) h = rw (h.0, last_line_is c bs h.1) refl

IsUnbroken-push : (xs : List ℕ) (b : ℕ) → IsUnbroken xs → eqb b 10 ≡ false → IsUnbroken (xs ++ b ∷ [])
IsUnbroken-push [] b h e = (e, tt)
IsUnbroken-push (x ∷ xs) b h e = (h.0, IsUnbroken-push xs b h.1 e)

pub unbroken_more : (xs : List ℕ) (i : ℕ) → i < length xs → IsUnbroken (take i xs) → eqb (get_or xs i 0) 10 ≡ false → IsUnbroken (take (i + 1) xs)
unbroken_more xs i lt h e = subst IsUnbroken (sym (take_more xs i 0 lt)) (IsUnbroken-push (take i xs) (get_or xs i 0) h e)

pub line_at : (xs : List ℕ) (i : ℕ) → i < length xs → IsUnbroken (take i xs) → eqb (get_or xs i 0) 10 ≡ true → lines_of xs ≡ take i xs ∷ lines_of (drop (i + 1) xs)
line_at xs i lt h e =
    let next : suc i ≡ i + 1 = omega arith in
    let there : drop i xs ≡ 10 ∷ drop (i + 1) xs = drop-cons xs i 0 lt ∙ ap (λ (b : ℕ). b ∷ drop (suc i) xs) (eqb-true _ _ e) ∙ ap (λ (n : ℕ). 10 ∷ drop n xs) next in
    ap lines_of (sym (take-append-drop i xs) ∙ ap (λ (t : List ℕ). take i xs ++ t) there) ∙ line_is (take i xs) (drop (i + 1) xs) h

whole_line : (xs : List ℕ) → 0 < length xs → IsUnbroken xs → lines_of xs ≡ xs ∷ []
whole_line [] lt h = absurd (omega arith)
whole_line (b ∷ bs) lt h = last_line_is b bs h

pub last_line : (xs : List ℕ) (n : ℕ) → 0 < length xs → length xs ≤ n → IsUnbroken (take n xs) → lines_of xs ≡ take n xs ∷ lines_of (drop (n + 1) xs)
last_line xs n lt le h = whole_line xs lt (subst IsUnbroken (take_all n xs le) h) ∙ ap (λ (w : List ℕ). w ∷ []) (sym (take_all n xs le)) ∙ ap (λ (t : List ℕ). take n xs ∷ lines_of t) (sym (nil_from_length (drop (n + 1) xs) (omega (arith, length-drop (n + 1) xs))))

-- ---- whether a word is empty

abbrev pub nows : List (Bor (List ℕ)) → List (List ℕ)
nows ws = map (λ (w : Bor (List ℕ)). w.now) ws

empty_is : (w : List ℕ) → length w ≡ 0 → is_empty w ≡ true
empty_is [] e = refl
empty_is (b ∷ bs) e = absurd (omega arith)

full_is : (w : List ℕ) → (length w ≡ 0 → ⊥) → is_empty w ≡ false
full_is [] e = absurd (e refl)
full_is (b ∷ bs) e = refl

pub any_here : (ws : List (Bor (List ℕ))) (i : ℕ) (d : Bor (List ℕ)) → i < length ws → length (get_or ws i d).now ≡ 0 → list_any is_empty (nows (drop i ws)) ≡ true
any_here ws i d lt e = ap (λ (us : List (Bor (List ℕ))). list_any is_empty (nows us)) (drop-cons ws i d lt) ∙ or_left _ _ (empty_is (get_or ws i d).now e)

pub any_more : (ws : List (Bor (List ℕ))) (i : ℕ) (d : Bor (List ℕ)) → i < length ws → (length (get_or ws i d).now ≡ 0 → ⊥) → list_any is_empty (nows (drop i ws)) ≡ list_any is_empty (nows (drop (i + 1) ws))
any_more ws i d lt e =
    let next : suc i ≡ i + 1 = omega arith in
    ap (λ (us : List (Bor (List ℕ))). list_any is_empty (nows us)) (drop-cons ws i d lt)
    ∙ ap (λ (b : Bool). b || list_any is_empty (nows (drop (suc i) ws))) (full_is (get_or ws i d).now e)
    ∙ ap (λ (n : ℕ). list_any is_empty (nows (drop n ws))) next

pub any_none : (ws : List (Bor (List ℕ))) (i : ℕ) → length ws ≤ i → list_any is_empty (nows (drop i ws)) ≡ false
any_none ws i le = ap (λ (us : List (Bor (List ℕ))). list_any is_empty (nows us)) (nil_from_length (drop i ws) (omega (arith, length-drop i ws)))

pub nows_behind : (ws : List (Bor (List ℕ))) (n : ℕ) → drop n (nows ws) ≡ nows (drop n ws)
nows_behind ws n = drop-map (λ (w : Bor (List ℕ)). w.now) n ws

pub nows_none : (ws : List (Bor (List ℕ))) (n : ℕ) → length ws ≤ n → drop n (nows ws) ≡ []
nows_none ws n le = nows_behind ws n ∙ ap nows (nil_from_length (drop n ws) (omega (arith, length-drop n ws)))

pub nows_rest : (ws : List (Bor (List ℕ))) (n : ℕ) → nows (take (length ws - n) (drop n ws)) ≡ drop n (nows ws)
nows_rest ws n = ap nows (take_all (length ws - n) (drop n ws) (omega (arith, length-drop n ws))) ∙ sym (nows_behind ws n)
