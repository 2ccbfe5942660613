-- Rows in the order in which they fire, against the same rows by their start numbers.
use Rattle.std.proofs.Common.{ℕ, ◌≡◌, ◌≢◌, ◌+◌, ◌<◌, ◌≤◌, List, [], ◌∷◌, ◌++◌, length, map, filter, Bool, true, false, cond, not, ◌||◌, ◌&&◌, nat_lt, ◌==◌, refl, sym, ap, ◌∙◌, arith}
use Rattle.std.specs.List.{AllByRecursion, list_any, find, IsDistinct}
use Rattle.std.proofs.Math.Dec.{eqb}
use Rattle.std.proofs.lemmas.List.{length-map}
use Rattle.std.proofs.lemmas.Map.Steps.{length-le_from_distinct_below}
use Rattle.std.specs.Option.{option_map}
use Rattle.std.proofs.lemmas.Bool.{cond-true, cond-false}
use Rattle.std.proofs.lemmas.Bool.Decides.{nat_tests}
use Rattle.timer_skip.specs.Armed.{Armed, ArmedRow, put_by_number, by_number, due_rows, row_after, is_row_of, is_armed, left_of, without}
use Rattle.timer_skip.specs.Firing.{FiresBefore, IsInOrder, IsLine, IsAnew, put_row, take_out}
use Rattle.timer_skip.proofs.Starts.{Each-by_number, Each-from_by_number, Each-weaker, IsByStart, HaveOwnStarts, put_last, by_number-same, filter-by_number, put_comm, any-by_number, PassesOnce, find-by_number}

own_starts : (rows : List ArmedRow) → IsInOrder rows → HaveOwnStarts rows
own_starts [] h = tt
own_starts (r ∷ rs) h =
    (Each-weaker (FiresBefore r) (λ (s : ArmedRow). r.number ≢ s.number) (λ s k. k.other_start) rs h.0, own_starts rs h.1)

filter-by_start : (p : ArmedRow → Bool) (rows : List ArmedRow) → IsInOrder rows → filter p (by_number rows) ≡ by_number (filter (λ r. p r) rows)
filter-by_start p rows h = filter-by_number p rows (own_starts rows h)

-- a row more

Each-put_row : (P : ArmedRow → Type 0) (row : ArmedRow) (rows : List ArmedRow) → P row → AllByRecursion P rows → AllByRecursion P (put_row row rows)
Each-put_row P row [] h k = (h, tt)
Each-put_row P row (r ∷ rs) h k = by_test (nat_lt row.left r.left) (Each-put_row P row rs h k.1)
  where
    by_test : (b : Bool) → AllByRecursion P (put_row row rs) → AllByRecursion P (cond b (row ∷ r ∷ rs) (r ∷ put_row row rs))
    by_test true e = (h, k)
    by_test false e = (k.0, e)

fires_before_all : (row r : ArmedRow) (rs : List ArmedRow) → row.left < r.left → AllByRecursion (IsAnew row) rs → AllByRecursion (FiresBefore r) rs → AllByRecursion (FiresBefore row) rs
fires_before_all row r [] h a k = tt
fires_before_all row r (s ∷ ss) h a k =
    let k0 = k.0 in
    let a0 = a.0 in
    let sooner : r.left ≤ s.left = k0.sooner in
    let later : s.number < row.number = a0.later in
    (record { sooner = omega arith; started_first = λ e. absurd (omega arith); other_start = omega arith; other_timer = λ e. a0.other_timer (sym e) }, fires_before_all row r ss h a.1 k.1)

IsInOrder-put_row : (row : ArmedRow) (rows : List ArmedRow) → AllByRecursion (IsAnew row) rows → IsInOrder rows → IsInOrder (put_row row rows)
IsInOrder-put_row row [] a h = (tt, tt)
IsInOrder-put_row row (r ∷ rs) a h = by_test (nat_lt row.left r.left) refl (IsInOrder-put_row row rs a.1 h.1)
  where
    by_test : (b : Bool) → nat_lt row.left r.left ≡ b → IsInOrder (put_row row rs) → IsInOrder (cond b (row ∷ r ∷ rs) (r ∷ put_row row rs))
    by_test true e k =
        let less : row.left < r.left = grind (arith, nat_tests, e) in
        let a0 = a.0 in
        let later : r.number < row.number = a0.later in
        ((record { sooner = omega arith; started_first = λ e. absurd (omega arith); other_start = omega arith; other_timer = λ e. a0.other_timer (sym e) }, fires_before_all row r rs less a.1 h.0), h)
    by_test false e k =
        let more : r.left ≤ row.left = grind (arith, nat_tests, e) in
        let a0 = a.0 in
        let later : r.number < row.number = a0.later in
        (Each-put_row (FiresBefore r) row rs (record { sooner = more; started_first = λ _. later; other_start = omega arith; other_timer = a0.other_timer }) h.0, k)

pub IsLine-put_row : (count : ℕ) (row : ArmedRow) (rows : List ArmedRow) → row.timer < count → row.left ≤ 2147483647 → AllByRecursion (IsAnew row) rows → IsLine count rows → IsLine count (put_row row rows)
IsLine-put_row count row rows below near a h = record {
  in_order = IsInOrder-put_row row rows a h.in_order;
  below = Each-put_row (λ (r : ArmedRow). r.timer < count) row rows below h.below;
  near = Each-put_row (λ (r : ArmedRow). r.left ≤ 2147483647) row rows near h.near;
}

by_start-put_row : (row : ArmedRow) (rows : List ArmedRow) → AllByRecursion (IsAnew row) rows → by_number (put_row row rows) ≡ put_by_number row (by_number rows)
by_start-put_row row [] a = refl
by_start-put_row row (r ∷ rs) a = by_test (nat_lt row.left r.left) (by_start-put_row row rs a.1)
  where
    by_test : (b : Bool) → by_number (put_row row rs) ≡ put_by_number row (by_number rs)
        → by_number (cond b (row ∷ r ∷ rs) (r ∷ put_row row rs)) ≡ put_by_number row (put_by_number r (by_number rs))
    by_test true e = refl
    by_test false e =
        let a0 = a.0 in
        let later : r.number < row.number = a0.later in
        ap (put_by_number r) e ∙ put_comm r row (by_number rs) (omega arith)

-- contracts see it behind all others
pub started_last : (row : ArmedRow) (rows : List ArmedRow) → AllByRecursion (IsAnew row) rows → by_number (put_row row rows) ≡ by_number rows ++ row ∷ []
started_last row rows a =
    by_start-put_row row rows a
    ∙ put_last row (by_number rows) (Each-by_number (λ (t : ArmedRow). t.number < row.number) rows (Each-weaker (IsAnew row) (λ (r : ArmedRow). r.number < row.number) (λ r k. k.later) rows a))

not_of : (timer : ℕ) (rows : List ArmedRow) → list_any (is_row_of timer) rows ≡ false → AllByRecursion (λ (r : ArmedRow). r.timer ≢ timer) rows
not_of timer [] h = tt
not_of timer (r ∷ rs) h = by_test (is_row_of timer r) refl h (not_of timer rs)
  where
    by_test : (b : Bool) → is_row_of timer r ≡ b → (b || list_any (is_row_of timer) rs) ≡ false → (list_any (is_row_of timer) rs ≡ false → AllByRecursion (λ (r : ArmedRow). r.timer ≢ timer) rs) → AllByRecursion (λ (r : ArmedRow). r.timer ≢ timer) (r ∷ rs)
    by_test true e k rest = absurd (grind arith)
    by_test false e k rest = (grind (arith, nat_tests, e), rest k)

both : (P Q : ArmedRow → Type 0) (R : ArmedRow → Type 0) (join : (r : ArmedRow) → P r → Q r → R r) (rows : List ArmedRow) → AllByRecursion P rows → AllByRecursion Q rows → AllByRecursion R rows
both P Q R join [] h k = tt
both P Q R join (r ∷ rs) h k = (join r h.0 k.0, both P Q R join rs h.1 k.1)

-- what a start requires, of the rows in the order in which they fire
pub is_anew : (row : ArmedRow) (rows : List ArmedRow) → is_armed row.timer (by_number rows) ≡ false → AllByRecursion (λ (t : ArmedRow). t.number < row.number) (by_number rows) → AllByRecursion (IsAnew row) rows
is_anew row rows free latest =
    both (λ (r : ArmedRow). r.number < row.number) (λ (r : ArmedRow). r.timer ≢ row.timer) (IsAnew row) (λ r h k. record { later = h; other_timer = k }) rows
    (Each-from_by_number (λ (t : ArmedRow). t.number < row.number) rows latest)
    (not_of row.timer rows (sym (any-by_number (is_row_of row.timer) rows) ∙ free))

-- a row less

take_out-filter : (timer : ℕ) (rows : List ArmedRow) → IsInOrder rows → take_out timer rows ≡ filter (λ r. not (is_row_of timer r)) rows
take_out-filter timer [] h = refl
take_out-filter timer (r ∷ rs) h = by_test (is_row_of timer r) refl (take_out-filter timer rs h.1)
  where
    all_kept : (ss : List ArmedRow) → AllByRecursion (λ (s : ArmedRow). s.timer ≢ timer) ss → filter (λ s. not (is_row_of timer s)) ss ≡ ss
    all_kept [] k = refl
    all_kept (s ∷ ss) k = ap (λ b. cond (not b) (s ∷ filter (λ s. not (is_row_of timer s)) ss) (filter (λ s. not (is_row_of timer s)) ss)) (let k0 = k.0 in let e : is_row_of timer s ≡ false = grind (arith, nat_tests, k0) in e) ∙ ap (λ l. s ∷ l) (all_kept ss k.1)

    by_test : (b : Bool) → is_row_of timer r ≡ b → take_out timer rs ≡ filter (λ s. not (is_row_of timer s)) rs
        → cond b rs (r ∷ take_out timer rs) ≡ cond (not b) (r ∷ filter (λ s. not (is_row_of timer s)) rs) (filter (λ s. not (is_row_of timer s)) rs)
    by_test true e k =
        let same : r.timer ≡ timer = grind (arith, nat_tests, e) in
        sym (all_kept rs (Each-weaker (FiresBefore r) (λ (s : ArmedRow). s.timer ≢ timer) (λ s f. λ is. f.other_timer (same ∙ sym is)) rs h.0))
    by_test false e k = ap (λ l. r ∷ l) k

pub by_start-take_out : (timer : ℕ) (rows : List ArmedRow) → IsInOrder rows → by_number (take_out timer rows) ≡ without timer (by_number rows)
by_start-take_out timer rows h = ap by_number (take_out-filter timer rows h) ∙ sym (filter-by_start (λ t. not (is_row_of timer t)) rows h)

Each-take_out : (P : ArmedRow → Type 0) (timer : ℕ) (rows : List ArmedRow) → AllByRecursion P rows → AllByRecursion P (take_out timer rows)
Each-take_out P timer [] h = tt
Each-take_out P timer (r ∷ rs) h = by_test (is_row_of timer r) (Each-take_out P timer rs h.1)
  where
    by_test : (b : Bool) → AllByRecursion P (take_out timer rs) → AllByRecursion P (cond b rs (r ∷ take_out timer rs))
    by_test true e = h.1
    by_test false e = (h.0, e)

IsInOrder-take_out : (timer : ℕ) (rows : List ArmedRow) → IsInOrder rows → IsInOrder (take_out timer rows)
IsInOrder-take_out timer [] h = tt
IsInOrder-take_out timer (r ∷ rs) h = by_test (is_row_of timer r) (IsInOrder-take_out timer rs h.1)
  where
    by_test : (b : Bool) → IsInOrder (take_out timer rs) → IsInOrder (cond b rs (r ∷ take_out timer rs))
    by_test true e = h.1
    by_test false e = (Each-take_out (FiresBefore r) timer rs h.0, e)

pub IsLine-take_out : (count timer : ℕ) (rows : List ArmedRow) → IsLine count rows → IsLine count (take_out timer rows)
IsLine-take_out count timer rows h = record {
  in_order = IsInOrder-take_out timer rows h.in_order;
  below = Each-take_out (λ (r : ArmedRow). r.timer < count) timer rows h.below;
  near = Each-take_out (λ (r : ArmedRow). r.left ≤ 2147483647) timer rows h.near;
}

-- looking up a timer

passes_once : (timer : ℕ) (rows : List ArmedRow) → IsInOrder rows → PassesOnce (is_row_of timer) rows
passes_once timer [] h = tt
passes_once timer (r ∷ rs) h = (by_test (is_row_of timer r) refl, passes_once timer rs h.1)
  where
    none : (ss : List ArmedRow) → AllByRecursion (λ (s : ArmedRow). s.timer ≢ timer) ss → list_any (is_row_of timer) ss ≡ false
    none [] k = refl
    none (s ∷ ss) k = let k0 = k.0 in let e : is_row_of timer s ≡ false = grind (arith, nat_tests, k0) in ap (λ b. b || list_any (is_row_of timer) ss) e ∙ none ss k.1

    by_test : (b : Bool) → is_row_of timer r ≡ b → (b && list_any (is_row_of timer) rs) ≡ false
    by_test true e =
        let same : r.timer ≡ timer = grind (arith, nat_tests, e) in
        none rs (Each-weaker (FiresBefore r) (λ (s : ArmedRow). s.timer ≢ timer) (λ s f. λ is. f.other_timer (same ∙ sym is)) rs h.0)
    by_test false e = refl

pub left-by_number : (timer : ℕ) (rows : List ArmedRow) → IsInOrder rows → left_of timer (by_number rows) ≡ option_map (λ (r : ArmedRow). r.left) (find (is_row_of timer) rows)
left-by_number timer rows h =
    ap (option_map (λ (t : ArmedRow). t.left)) (find-by_number (is_row_of timer) rows (passes_once timer rows h))

-- the rows that are due at a tick

are_by_start : (rows : List ArmedRow) → IsInOrder rows → IsByStart ((filter (λ (r : ArmedRow). r.left == 0) rows))
are_by_start [] h = tt
are_by_start (r ∷ rs) h = by_test (r.left == 0) refl (are_by_start rs h.1)
  where
    later : (is : r.left ≡ 0) (ss : List ArmedRow) → AllByRecursion (FiresBefore r) ss → AllByRecursion (λ (t : ArmedRow). r.number < t.number) ((filter (λ (r : ArmedRow). r.left == 0) ss))
    later is [] k = tt
    later is (s ∷ ss) k = at_test (s.left == 0) refl (later is ss k.1)
      where
        at_test : (b : Bool) → (s.left == 0) ≡ b → AllByRecursion (λ (t : ArmedRow). r.number < t.number) ((filter (λ (r : ArmedRow). r.left == 0) ss))
            → AllByRecursion (λ (t : ArmedRow). r.number < t.number) ((cond b (s ∷ filter (λ (r : ArmedRow). r.left == 0) ss) (filter (λ (r : ArmedRow). r.left == 0) ss)))
        at_test true e m =
            let same : s.left ≡ 0 = grind (arith, nat_tests, e) in
            let k0 = k.0 in
            (k0.started_first (is ∙ sym same), m)
        at_test false e m = m

    by_test : (b : Bool) → (r.left == 0) ≡ b → IsByStart ((filter (λ (r : ArmedRow). r.left == 0) rs))
        → IsByStart ((cond b (r ∷ filter (λ (r : ArmedRow). r.left == 0) rs) (filter (λ (r : ArmedRow). r.left == 0) rs)))
    by_test true e k = let same : r.left ≡ 0 = grind (arith, nat_tests, e) in (later same rs h.0, k)
    by_test false e k = k

-- they are found in the order in which rows fire
pub due_in_line : (rows : List ArmedRow) → IsInOrder rows → due_rows (by_number rows) ≡ (filter (λ (r : ArmedRow). r.left == 0) rows)
due_in_line rows h =
    let sorted = are_by_start rows h in
    let here : filter (λ (t : ArmedRow). t.left == 0) (by_number rows) ≡ (filter (λ (r : ArmedRow). r.left == 0) rows) =
    filter-by_start (λ t. t.left == 0) rows h ∙ by_number-same ((filter (λ (r : ArmedRow). r.left == 0) rows)) sorted in
    ap by_number here ∙ by_number-same ((filter (λ (r : ArmedRow). r.left == 0) rows)) sorted

none_due : (rows : List ArmedRow) → AllByRecursion (λ (r : ArmedRow). 0 < r.left) rows → filter (λ (r : ArmedRow). r.left == 0) rows ≡ []
none_due [] h = refl
none_due (r ∷ rs) h = let h0 = h.0 in cond-false (r.left == 0) _ _ (grind (arith, nat_tests, h0)) ∙ none_due rs h.1

-- nothing is due where the first row isn't
pub due_later : (row : ArmedRow) (rows : List ArmedRow) → IsInOrder (row ∷ rows) → 0 < row.left → due_rows (by_number (row ∷ rows)) ≡ []
due_later row rows h later =
    due_in_line (row ∷ rows) h
    ∙ (none_due (row ∷ rows) (later, Each-weaker (FiresBefore row) (λ (r : ArmedRow). 0 < r.left) (λ r f. let s = f.sooner in omega arith) rows h.0))

-- the first row is the first that is due, and the others are due behind it
pub due_first : (row : ArmedRow) (rows : List ArmedRow) → IsInOrder (row ∷ rows) → row.left ≡ 0 → due_rows (by_number (row ∷ rows)) ≡ row ∷ due_rows (by_number rows)
due_first row rows h is =
    due_in_line (row ∷ rows) h ∙ (cond-true (row.left == 0) _ _ (grind (arith, nat_tests, is))) ∙ sym (ap (λ l. row ∷ l) (due_in_line rows h.1))

pub take_out_first : (row : ArmedRow) (rows : List ArmedRow) → take_out row.timer (row ∷ rows) ≡ rows
take_out_first row rows = cond-true (row.timer == row.timer) _ _ (grind (arith, nat_tests))

-- how many rows there are

numbers : List ArmedRow → List ℕ
numbers rows = map (λ (r : ArmedRow). r.timer) rows

length-numbers : (rows : List ArmedRow) → length (numbers rows) ≡ length rows
unfolding numbers
length-numbers rows = length-map rows (λ (r : ArmedRow). r.timer)

apart : (rows : List ArmedRow) → IsInOrder rows → IsDistinct eqb (numbers rows)
unfolding numbers IsDistinct
apart [] h = tt
apart (r ∷ rs) h = (differ rs h.0, apart rs h.1)
  where
    differ : (ss : List ArmedRow) → AllByRecursion (FiresBefore r) ss → AllByRecursion (λ (n : ℕ). eqb r.timer n ≡ false) (map (λ (s : ArmedRow). s.timer) ss)
    differ [] k = tt
    differ (s ∷ ss) k = let k0 = k.0 in let other : r.timer ≢ s.timer = k0.other_timer in (grind (arith, nat_tests, other), differ ss k.1)

all_below : (count : ℕ) (rows : List ArmedRow) → AllByRecursion (λ (r : ArmedRow). r.timer < count) rows → (q : ℕ) → list_any (eqb q) (numbers rows) ≡ true → q < count
unfolding numbers
all_below count [] h q e = absurd (grind arith)
all_below count (r ∷ rs) h q e = by_test (eqb q r.timer) refl e (all_below count rs h.1 q)
  where
    by_test : (b : Bool) → eqb q r.timer ≡ b → (b || list_any (eqb q) (map (λ (s : ArmedRow). s.timer) rs)) ≡ true → (list_any (eqb q) (map (λ (s : ArmedRow). s.timer) rs) ≡ true → q < count) → q < count
    by_test true is k rest = let h0 = h.0 in grind (arith, nat_tests, is, h0)
    by_test false is k rest = rest k

pub fits : (count : ℕ) (rows : List ArmedRow) → IsLine count rows → length rows ≤ count
fits count rows h = omega (arith, length-numbers rows, length-le_from_distinct_below (numbers rows) count (apart rows h.in_order) (all_below count rows h.below))

length-put_row : (row : ArmedRow) (rows : List ArmedRow) → length (put_row row rows) ≡ length rows + 1
length-put_row row [] = refl
length-put_row row (r ∷ rs) = by_test (nat_lt row.left r.left) (length-put_row row rs)
  where
    by_test : (b : Bool) → length (put_row row rs) ≡ length rs + 1 → length (cond b (row ∷ r ∷ rs) (r ∷ put_row row rs)) ≡ length (r ∷ rs) + 1
    by_test true e = omega arith
    by_test false e = omega arith

-- a timer that isn't armed leaves room
pub has_room : (count : ℕ) (row : ArmedRow) (rows : List ArmedRow) → row.timer < count → row.left ≤ 2147483647 → AllByRecursion (IsAnew row) rows → IsLine count rows → length rows < count
has_room count row rows below near a h = omega (arith, length-put_row row rows, fits count (put_row row rows) (IsLine-put_row count row rows below near a h))

-- rows some ticks later

row_after-number : (n : ℕ) (row : ArmedRow) (rows : List ArmedRow) → map (row_after n) (put_by_number row rows) ≡ put_by_number (row_after n row) (map (row_after n) rows)
row_after-number n row [] = refl
row_after-number n row (r ∷ rs) = by_test (nat_lt row.number r.number) (row_after-number n row rs)
  where
    by_test : (b : Bool) → map (row_after n) (put_by_number row rs) ≡ put_by_number (row_after n row) (map (row_after n) rs)
        → map (row_after n) (cond b (row ∷ r ∷ rs) (r ∷ put_by_number row rs)) ≡ cond b (row_after n row ∷ row_after n r ∷ map (row_after n) rs) (row_after n r ∷ put_by_number (row_after n row) (map (row_after n) rs))
    by_test true e = refl
    by_test false e = ap (λ l. row_after n r ∷ l) e

pub by_number-after : (n : ℕ) (rows : List ArmedRow) → by_number (map (row_after n) rows) ≡ map (row_after n) (by_number rows)
by_number-after n [] = refl
by_number-after n (r ∷ rs) = ap (put_by_number (row_after n r)) (by_number-after n rs) ∙ sym (row_after-number n r (by_number rs))

fires_before_after : (n : ℕ) (row : ArmedRow) (rows : List ArmedRow) → n ≤ row.left → AllByRecursion (λ (r : ArmedRow). n ≤ r.left) rows → AllByRecursion (FiresBefore row) rows → AllByRecursion (FiresBefore (row_after n row)) (map (row_after n) rows)
fires_before_after n row [] less all h = tt
fires_before_after n row (r ∷ rs) less all h =
    let h0 = h.0 in
    let a0 = all.0 in
    let s = h0.sooner in
    (record { sooner = omega arith; started_first = λ e. h0.started_first (omega arith); other_start = h0.other_start; other_timer = h0.other_timer }, fires_before_after n row rs less all.1 h.1)

IsInOrder-after : (n : ℕ) (rows : List ArmedRow) → AllByRecursion (λ (r : ArmedRow). n ≤ r.left) rows → IsInOrder rows → IsInOrder (map (row_after n) rows)
IsInOrder-after n [] all h = tt
IsInOrder-after n (r ∷ rs) all h = (fires_before_after n r rs all.0 all.1 h.0, IsInOrder-after n rs all.1 h.1)

below-after : (count n : ℕ) (rows : List ArmedRow) → AllByRecursion (λ (r : ArmedRow). r.timer < count) rows → AllByRecursion (λ (r : ArmedRow). r.timer < count) (map (row_after n) rows)
below-after count n [] h = tt
below-after count n (r ∷ rs) h = (h.0, below-after count n rs h.1)

near-after : (n : ℕ) (rows : List ArmedRow) → AllByRecursion (λ (r : ArmedRow). r.left ≤ 2147483647) rows → AllByRecursion (λ (r : ArmedRow). r.left ≤ 2147483647) (map (row_after n) rows)
near-after n [] h = tt
near-after n (r ∷ rs) h = (let h0 = h.0 in omega arith, near-after n rs h.1)

pub IsLine-after : (count n : ℕ) (rows : List ArmedRow) → AllByRecursion (λ (r : ArmedRow). n ≤ r.left) rows → IsLine count rows → IsLine count (map (row_after n) rows)
IsLine-after count n rows all h = record { in_order = IsInOrder-after n rows all h.in_order; below = below-after count n rows h.below; near = near-after n rows h.near }

-- what contracts see, part by part
pub armed-is : (t t' c c' : ℕ) (l l' : List ArmedRow) → t ≡ t' → c ≡ c' → l ≡ l' → (let a : Armed = record { tick = t; count = c; rows = l } in a) ≡ (let b : Armed = record { tick = t'; count = c'; rows = l' } in b)
armed-is t t' c c' l l' tick count rows =
    ap (λ n. (let a : Armed = record { tick = n; count = c; rows = l } in a)) tick
    ∙ ap (λ n. (let a : Armed = record { tick = t'; count = n; rows = l } in a)) count
    ∙ ap (λ x. (let a : Armed = record { tick = t'; count = c'; rows = x } in a)) rows
