-- Rows of the skip list, and the plain rows that they stand for.
use Rattle.std.proofs.Common.{ℕ, ◌≡◌, ◌≢◌, ◌+◌, ◌-◌, ◌<◌, ◌≤◌, List, [], ◌∷◌, ◌++◌, length, map, filter, Bool, true, false, cond, not, ◌||◌, nat_lt, ◌==◌, Some, None, refl, sym, ap, ◌∙◌, subst, arith}
use Rattle.std.specs.Prelude.{slice_index_or}
use Rattle.std.specs.List.{AllByRecursion, AllPairs, find}
use Rattle.std.specs.Option.{option_map}
use Rattle.std.specs.Str.{bytes_eq}
use Rattle.std.proofs.lemmas.Bool.{ltb-true, ltb-false, eqb-true}
use Rattle.std.proofs.lemmas.Bool.Decides.{nat_tests}
use Rattle.std.proofs.lemmas.Slice.Eq.{bytes_eq-Decides}
use Rattle.rt_plain.specs.kernel.State.{ArmedRow, Alarm, OfThread, OfTimer}
use Rattle.rt_plain.specs.kernel.Due.{due_rows_at, by_number as plain_by_number, put_by_number as plain_put}
use Rattle.rt_plain.specs.kernel.Effects.{is_alarm}
use Rattle.timer_skip.specs.Armed.{ArmedRow as SkipRow, by_number, put_by_number, due_rows, row_after, is_row_of, left_of, is_armed as is_row_armed, without as without_row}
use Rattle.kernel_timers.specs.Alarmed.{alarm_of, row_of, due_of, is_armed, without, first_alarm}

if-true : {X : Type 0} (c : Bool) (x y : X) → c ≡ true → cond c x y ≡ x
if-true c x y e = ap (λ b. cond b x y) e

if-false : {X : Type 0} (c : Bool) (x y : X) → c ≡ false → cond c x y ≡ y
if-false c x y e = ap (λ b. cond b x y) e

-- whose a number is

pub thread-alarm : (names : List (List ℕ)) (t : ℕ) → t < 256 → alarm_of names t ≡ OfThread t
thread-alarm names t lt = if-true (nat_lt t 256) (OfThread t) (OfTimer (slice_index_or names (t - 256) [])) (grind (arith, nat_tests, lt))

pub timer-alarm : (names : List (List ℕ)) (o : ℕ) → alarm_of names (256 + o) ≡ OfTimer (slice_index_or names o [])
timer-alarm names o =
    let less : 256 + o - 256 ≡ o = omega arith in
    if-false (nat_lt (256 + o) 256) (OfThread (256 + o)) (OfTimer (slice_index_or names (256 + o - 256) [])) (grind (arith, nat_tests)) ∙ ap (λ n. OfTimer (slice_index_or names n [])) less

name_same : (a : List ℕ) → bytes_eq a a ≡ true
name_same a = (bytes_eq-Decides a a).1 refl

name_differs : (a b : List ℕ) → a ≢ b → bytes_eq a b ≡ false
name_differs a b h = by_test (bytes_eq a b) refl
  where
    by_test : (c : Bool) → bytes_eq a b ≡ c → bytes_eq a b ≡ false
    by_test true e = absurd (h ((bytes_eq-Decides a b).0 e))
    by_test false e = e

-- two numbers have one alarm only where they are the same
pub same-alarm : (names : List (List ℕ)) (who n : ℕ) → AllPairs (λ one other. one ≢ other) names → who < 256 + length names → n < 256 + length names → is_alarm (alarm_of names who) (alarm_of names n) ≡ (n == who)
same-alarm names who n apart no_there n_there = by_test (nat_lt who 256) (nat_lt n 256) refl refl
  where
    timers : (c : Bool) → (n == who) ≡ c → 256 ≤ who → 256 ≤ n → bytes_eq (slice_index_or names (who - 256) []) (slice_index_or names (n - 256) []) ≡ c
    timers true is high high' = ap (λ m. bytes_eq (slice_index_or names (who - 256) []) (slice_index_or names (m - 256) [])) (eqb-true n who is) ∙ name_same (slice_index_or names (who - 256) [])
    timers false is high high' = by_order (nat_lt who n) refl
      where
        by_order : (d : Bool) → nat_lt who n ≡ d → bytes_eq (slice_index_or names (who - 256) []) (slice_index_or names (n - 256) []) ≡ false
        by_order true less =
            let before : who < n = ltb-true who n less in
            name_differs (slice_index_or names (who - 256) []) (slice_index_or names (n - 256) []) (apart (who - 256) (n - 256) [] (omega arith) (omega arith))
        by_order false more =
            let after : n ≤ who = ltb-false who n more in
            let other : n ≢ who = grind (arith, nat_tests, is) in
            let before : n < who = omega arith in
            name_differs (slice_index_or names (who - 256) []) (slice_index_or names (n - 256) []) (λ same. apart (n - 256) (who - 256) [] (omega arith) (omega arith) (sym same))

    by_test : (c d : Bool) → nat_lt who 256 ≡ c → nat_lt n 256 ≡ d → is_alarm (cond c (OfThread who) (OfTimer (slice_index_or names (who - 256) []))) (cond d (OfThread n) (OfTimer (slice_index_or names (n - 256) []))) ≡ (n == who)
    by_test true true e f = grind arith
    by_test true false e f =
        let low : who < 256 = ltb-true who 256 e in
        let high : 256 ≤ n = ltb-false n 256 f in
        let other : (n == who) ≡ false = grind (arith, nat_tests, low, high) in
        sym other
    by_test false true e f =
        let high : 256 ≤ who = ltb-false who 256 e in
        let low : n < 256 = ltb-true n 256 f in
        let other : (n == who) ≡ false = grind (arith, nat_tests, low, high) in
        sym other
    by_test false false e f = timers (n == who) refl (ltb-false who 256 e) (ltb-false n 256 f)

-- a row less
pub without-is : (moment : ℕ) (names : List (List ℕ)) (who : ℕ) (rows : List SkipRow) → AllPairs (λ one other. one ≢ other) names → who < 256 + length names → AllByRecursion (λ (r : SkipRow). r.timer < 256 + length names) rows →
    map (row_of moment names) (without_row who rows) ≡ without (alarm_of names who) (map (row_of moment names) rows)
without-is moment names who [] apart there below = refl
without-is moment names who (r ∷ rs) apart there below = by_test (r.timer == who) (is_alarm (alarm_of names who) (alarm_of names r.timer)) (sym (same-alarm names who r.timer apart there below.0)) (without-is moment names who rs apart there below.1)
  where
    by_test : (c d : Bool) → c ≡ d → map (row_of moment names) (without_row who rs) ≡ without (alarm_of names who) (map (row_of moment names) rs)
        → map (row_of moment names) (cond (not c) (r ∷ without_row who rs) (without_row who rs)) ≡ cond (not d) (row_of moment names r ∷ without (alarm_of names who) (map (row_of moment names) rs)) (without (alarm_of names who) (map (row_of moment names) rs))
    by_test true true same e = e
    by_test true false same e = cc
    by_test false true same e = cc
    by_test false false same e = ap (λ (l : List (ArmedRow Alarm)). row_of moment names r ∷ l) e

-- whether there is a row
pub armed-is : (moment : ℕ) (names : List (List ℕ)) (who : ℕ) (rows : List SkipRow) → AllPairs (λ one other. one ≢ other) names → who < 256 + length names → AllByRecursion (λ (r : SkipRow). r.timer < 256 + length names) rows →
    is_row_armed who rows ≡ is_armed (alarm_of names who) (map (row_of moment names) rows)
armed-is moment names who [] apart there below = refl
armed-is moment names who (r ∷ rs) apart there below = ap (λ c. c || is_row_armed who rs) (sym (same-alarm names who r.timer apart there below.0)) ∙ ap (λ c. is_alarm (alarm_of names who) (alarm_of names r.timer) || c) (armed-is moment names who rs apart there below.1)

-- when it is due
pub due-at : (moment : ℕ) (names : List (List ℕ)) (who : ℕ) (rows : List SkipRow) → AllPairs (λ one other. one ≢ other) names → who < 256 + length names → AllByRecursion (λ (r : SkipRow). r.timer < 256 + length names) rows →
    option_map (λ left. moment + left) (left_of who rows) ≡ due_of (alarm_of names who) (map (row_of moment names) rows)
due-at moment names who [] apart there below = refl
due-at moment names who (r ∷ rs) apart there below = by_test (r.timer == who) (is_alarm (alarm_of names who) (alarm_of names r.timer)) (sym (same-alarm names who r.timer apart there below.0)) (due-at moment names who rs apart there below.1)
  where
    by_test : (c d : Bool) → c ≡ d → option_map (λ left. moment + left) (left_of who rs) ≡ due_of (alarm_of names who) (map (row_of moment names) rs)
        → option_map (λ left. moment + left) (option_map (λ (x : SkipRow). x.left) (cond c (Some r) (find (is_row_of who) rs))) ≡ option_map (λ (x : ArmedRow Alarm). x.due) (cond d (Some (row_of moment names r)) (find (λ (x : ArmedRow Alarm). is_alarm (alarm_of names who) x.alarm) (map (row_of moment names) rs)))
    by_test true true same e = refl
    by_test true false same e = cc
    by_test false true same e = cc
    by_test false false same e = e

-- none is left of a row that is taken out
pub free-without : (who : ℕ) (rows : List SkipRow) → is_row_armed who (without_row who rows) ≡ false
free-without who [] = refl
free-without who (r ∷ rs) = by_test (r.timer == who) refl (free-without who rs)
  where
    by_test : (c : Bool) → (r.timer == who) ≡ c → is_row_armed who (without_row who rs) ≡ false → is_row_armed who (cond (not c) (r ∷ without_row who rs) (without_row who rs)) ≡ false
    by_test true is e = e
    by_test false is e = ap (λ c. c || is_row_armed who (without_row who rs)) is ∙ e

-- what holds of each row

pub each-filter : {X : Type 0} (P : X → Type 0) (p : X → Bool) (xs : List X) → AllByRecursion P xs → AllByRecursion P (filter p xs)
each-filter P p [] h = tt
each-filter {X} P p (x ∷ xs) h = by_test (p x) (each-filter P p xs h.1)
  where
    by_test : (b : Bool) → AllByRecursion P (filter p xs) → AllByRecursion P (cond b (x ∷ filter p xs) (filter p xs))
    by_test true e = (h.0, e)
    by_test false e = e

pub each-push : {X : Type 0} (P : X → Type 0) (xs : List X) (x : X) → AllByRecursion P xs → P x → AllByRecursion P (xs ++ x ∷ [])
each-push P [] x h k = (k, tt)
each-push P (y ∷ ys) x h k = (h.0, each-push P ys x h.1 k)

pub each-of_mapped : {X Y : Type 0} (f : X → Y) (P : Y → Type 0) (Q : X → Type 0) (more : (x : X) → P (f x) → Q x) (xs : List X) → AllByRecursion P (map f xs) → AllByRecursion Q xs
each-of_mapped f P Q more [] h = tt
each-of_mapped f P Q more (x ∷ xs) h = (more x h.0, each-of_mapped f P Q more xs h.1)

pub each-mapped : {X Y : Type 0} (f : X → Y) (P : Y → Type 0) (Q : X → Type 0) (more : (x : X) → Q x → P (f x)) (xs : List X) → AllByRecursion Q xs → AllByRecursion P (map f xs)
each-mapped f P Q more [] h = tt
each-mapped f P Q more (x ∷ xs) h = (more x h.0, each-mapped f P Q more xs h.1)

pub map-push : {X Y : Type 0} (f : X → Y) (xs : List X) (x : X) → map f (xs ++ x ∷ []) ≡ map f xs ++ f x ∷ []
map-push f [] x = refl
map-push {Y = Y} f (y ∷ ys) x = ap (λ (l : List Y). f y ∷ l) (map-push f ys x)

-- so many ticks more
pub advanced-is : (moment n : ℕ) (names : List (List ℕ)) (rows : List SkipRow) → AllByRecursion (λ (r : SkipRow). n ≤ r.left) rows → map (row_of (moment + n) names) (map (row_after n) rows) ≡ map (row_of moment names) rows
advanced-is moment n names [] ahead = refl
advanced-is moment n names (r ∷ rs) ahead =
    let some : n ≤ r.left = ahead.0 in
    let same : moment + n + (r.left - n) ≡ moment + r.left = omega (arith, some) in
    ap (λ d. (let row : ArmedRow Alarm = record { due = d; number = r.number; alarm = alarm_of names r.timer } in row) ∷ map (row_of (moment + n) names) (map (row_after n) rs)) same
    ∙ ap (λ (l : List (ArmedRow Alarm)). row_of moment names r ∷ l) (advanced-is moment n names rs ahead.1)

-- the rows that are due

put-is : (moment : ℕ) (names : List (List ℕ)) (row : SkipRow) (rows : List SkipRow) → map (row_of moment names) (put_by_number row rows) ≡ plain_put (row_of moment names row) (map (row_of moment names) rows)
put-is moment names row [] = refl
put-is moment names row (r ∷ rs) = by_test (nat_lt row.number r.number) (put-is moment names row rs)
  where
    by_test : (c : Bool) → map (row_of moment names) (put_by_number row rs) ≡ plain_put (row_of moment names row) (map (row_of moment names) rs)
        → map (row_of moment names) (cond c (row ∷ r ∷ rs) (r ∷ put_by_number row rs)) ≡ cond c (row_of moment names row ∷ row_of moment names r ∷ map (row_of moment names) rs) (row_of moment names r ∷ plain_put (row_of moment names row) (map (row_of moment names) rs))
    by_test true e = refl
    by_test false e = ap (λ (l : List (ArmedRow Alarm)). row_of moment names r ∷ l) e

numbered-is : (moment : ℕ) (names : List (List ℕ)) (rows : List SkipRow) → map (row_of moment names) (by_number rows) ≡ plain_by_number (map (row_of moment names) rows)
numbered-is moment names [] = refl
numbered-is moment names (r ∷ rs) = put-is moment names r (by_number rs) ∙ ap (plain_put (row_of moment names r)) (numbered-is moment names rs)

now-is : (moment left : ℕ) → (left == 0) ≡ (moment + left == moment)
now-is moment left = by_test (left == 0) refl
  where
    by_test : (c : Bool) → (left == 0) ≡ c → c ≡ (moment + left == moment)
    by_test true e =
        let none : left ≡ 0 = eqb-true left 0 e in
        let same : (moment + left == moment) ≡ true = grind (arith, nat_tests, none) in
        sym same
    by_test false e =
        let some : left ≢ 0 = grind (arith, nat_tests, e) in
        let other : (moment + left == moment) ≡ false = grind (arith, nat_tests, some) in
        sym other

filtered-is : (moment : ℕ) (names : List (List ℕ)) (rows : List SkipRow) → map (row_of moment names) (filter (λ (r : SkipRow). r.left == 0) rows) ≡ filter (λ (r : ArmedRow Alarm). r.due == moment) (map (row_of moment names) rows)
filtered-is moment names [] = refl
filtered-is moment names (r ∷ rs) = by_test (r.left == 0) (moment + r.left == moment) (now-is moment r.left) (filtered-is moment names rs)
  where
    by_test : (c d : Bool) → c ≡ d → map (row_of moment names) (filter (λ (s : SkipRow). s.left == 0) rs) ≡ filter (λ (s : ArmedRow Alarm). s.due == moment) (map (row_of moment names) rs)
        → map (row_of moment names) (cond c (r ∷ filter (λ (s : SkipRow). s.left == 0) rs) (filter (λ (s : SkipRow). s.left == 0) rs)) ≡ cond d (row_of moment names r ∷ filter (λ (s : ArmedRow Alarm). s.due == moment) (map (row_of moment names) rs)) (filter (λ (s : ArmedRow Alarm). s.due == moment) (map (row_of moment names) rs))
    by_test true true same e = ap (λ (l : List (ArmedRow Alarm)). row_of moment names r ∷ l) e
    by_test true false same e = cc
    by_test false true same e = cc
    by_test false false same e = e

pub due-is : (moment : ℕ) (names : List (List ℕ)) (rows : List SkipRow) → map (row_of moment names) (due_rows rows) ≡ due_rows_at moment (map (row_of moment names) rows)
due-is moment names rows = numbered-is moment names (filter (λ (r : SkipRow). r.left == 0) rows) ∙ ap plain_by_number (filtered-is moment names rows)

-- the first of some rows, by its number
pub first-is : (moment : ℕ) (names : List (List ℕ)) (rows : List SkipRow) (who : ℕ) (more : List ℕ) → map (λ (r : SkipRow). r.timer) rows ≡ who ∷ more → first_alarm (map (row_of moment names) rows) ≡ Some (alarm_of names who)
first-is moment names [] who more e = cc
first-is moment names (r ∷ rs) who more e =
    let same : r.timer ≡ who = cc in
    ap (λ n. Some (alarm_of names n)) same

pub first-none : (moment : ℕ) (names : List (List ℕ)) (rows : List SkipRow) → rows ≡ [] → first_alarm (map (row_of moment names) rows) ≡ None
first-none moment names rows e = ap (λ (l : List SkipRow). first_alarm (map (row_of moment names) l)) e

each-put : (P : SkipRow → Type 0) (r : SkipRow) (xs : List SkipRow) → P r → AllByRecursion P xs → AllByRecursion P (put_by_number r xs)
each-put P r [] h k = (h, tt)
each-put P r (x ∷ xs) h k = by_test (nat_lt r.number x.number) (each-put P r xs h k.1)
  where
    by_test : (b : Bool) → AllByRecursion P (put_by_number r xs) → AllByRecursion P (cond b (r ∷ x ∷ xs) (x ∷ put_by_number r xs))
    by_test true e = (h, k)
    by_test false e = (k.0, e)

each-numbered : (P : SkipRow → Type 0) (xs : List SkipRow) → AllByRecursion P xs → AllByRecursion P (by_number xs)
each-numbered P [] h = tt
each-numbered P (x ∷ xs) h = each-put P x (by_number xs) h.0 (each-numbered P xs h.1)

head-holds : (P : ℕ → Type 0) (xs : List SkipRow) (who : ℕ) (more : List ℕ) → map (λ (r : SkipRow). r.timer) xs ≡ who ∷ more → AllByRecursion (λ (r : SkipRow). P r.timer) xs → P who
head-holds P [] who more e h = cc
head-holds P (x ∷ xs) who more e h =
    let same : x.timer ≡ who = cc in
    subst P same h.0

-- the number of the first row that is due is one of those that there are
pub first-there : (count : ℕ) (rows : List SkipRow) (who : ℕ) (more : List ℕ) → map (λ (r : SkipRow). r.timer) (due_rows rows) ≡ who ∷ more → AllByRecursion (λ (r : SkipRow). r.timer < count) rows → who < count
first-there count rows who more e below = head-holds (λ n. n < count) (due_rows rows) who more e (each-numbered (λ (r : SkipRow). r.timer < count) (filter (λ (r : SkipRow). r.left == 0) rows) (each-filter (λ (r : SkipRow). r.timer < count) (λ (r : SkipRow). r.left == 0) rows below))
