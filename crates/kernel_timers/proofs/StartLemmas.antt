-- The timers that start at opening.
use Rattle.std.proofs.Common.{ℕ, ◌≡◌, ◌≢◌, ◌+◌, ◌-◌, ◌<◌, ◌≤◌, zero, suc, List, [], ◌∷◌, ◌++◌, length, map, drop, take, reverse, get_or, Bool, true, false, cond, not, ◌||◌, refl, sym, ap, ◌∙◌, subst, arith}
use Rattle.std.specs.Prelude.{if◌then◌else◌}
use Rattle.std.specs.List.{AllByRecursion, AllPairs}
use Rattle.std.specs.Str.{bytes_eq}
use Rattle.std.proofs.Math.Seq.{drop-cons}
use Rattle.std.proofs.lemmas.List.{get_or-map, get_or-reverse, get_or-drop, length-drop, length-map, take_all}
use Rattle.std.proofs.lemmas.List.Sums.{fold_more}
use Rattle.std.proofs.lemmas.Slice.Eq.{bytes_eq-Decides}
use Rattle.rt_plain.specs.declared.board.TimerDef.{TimerDef}
use Rattle.rt_plain.specs.kernel.Effects.{is_alarm}
use Rattle.rt_plain.specs.kernel.Opening.{new_timer}
use Rattle.rt_plain.specs.kernel.State.{Timer, ArmedRow, Alarm, OfTimer}
use Rattle.kernel_timers.specs.Alarmed.{AlarmsSeen, no_timer, is_armed, timer_at, without}
use Rattle.kernel_timers.specs.Arming.{Started, with_started, started, opened}

-- nothing is dropped where nothing is armed
none-dropped : (alarm : Alarm) (rows : List (ArmedRow Alarm)) → is_armed alarm rows ≡ false → without alarm rows ≡ rows
none-dropped alarm [] free = refl
none-dropped alarm (row ∷ rows) free = by_test (is_alarm alarm row.alarm) free (none-dropped alarm rows)
  where
    by_test : (c : Bool) → (c || is_armed alarm rows) ≡ false → (is_armed alarm rows ≡ false → without alarm rows ≡ rows) → cond (not c) (row ∷ without alarm rows) (without alarm rows) ≡ row ∷ rows
    by_test true e rest = cc
    by_test false e rest = ap (λ (l : List (ArmedRow Alarm)). row ∷ l) (rest e)

-- a row of another timer arms no other one
armed-push : (alarm : Alarm) (rows : List (ArmedRow Alarm)) (row : ArmedRow Alarm) → is_armed alarm rows ≡ false → is_alarm alarm row.alarm ≡ false → is_armed alarm (rows ++ row ∷ []) ≡ false
armed-push alarm [] row free other = ap (λ c. c || false) other
armed-push alarm (r ∷ rs) row free other = by_test (is_alarm alarm r.alarm) free (armed-push alarm rs row)
  where
    by_test : (c : Bool) → (c || is_armed alarm rs) ≡ false → (is_armed alarm rs ≡ false → is_alarm alarm row.alarm ≡ false → is_armed alarm (rs ++ row ∷ []) ≡ false) → (c || is_armed alarm (rs ++ row ∷ [])) ≡ false
    by_test true e rest = cc
    by_test false e rest = rest e other

name_differs : (a b : List ℕ) → a ≢ b → bytes_eq a b ≡ false
name_differs a b h = by_test (bytes_eq a b) refl
  where
    by_test : (c : Bool) → bytes_eq a b ≡ c → bytes_eq a b ≡ false
    by_test true e = absurd (h ((bytes_eq-Decides a b).0 e))
    by_test false e = e

abbrev AreFree : List (ArmedRow Alarm) → List TimerDef → Type 0
AreFree rows defs = AllByRecursion (λ (def : TimerDef). is_armed (OfTimer def.name) rows ≡ false) defs

still-free : (rows : List (ArmedRow Alarm)) (row : ArmedRow Alarm) (def : TimerDef) (defs : List TimerDef) → row.alarm ≡ OfTimer def.name → ((k : ℕ) (d : TimerDef) → k < length defs → def.name ≢ (get_or defs k d).name) → AreFree rows defs → AreFree (rows ++ row ∷ []) defs
still-free rows row def [] is others free = tt
still-free rows row def (x ∷ xs) is others free = (
  armed-push (OfTimer x.name) rows row free.0 (ap (is_alarm (OfTimer x.name)) is ∙ name_differs x.name def.name (λ same. others 0 def (omega arith) (sym same))),
  still-free rows row def xs is (λ k d there. others (suc k) d (omega (arith, there))) free.1,
)

all-free : (defs : List TimerDef) → AreFree [] defs
all-free [] = tt
all-free (def ∷ defs) = (refl, all-free defs)

latest-push : (rows : List (ArmedRow Alarm)) (row : ArmedRow Alarm) (n : ℕ) → row.number ≡ n → AllByRecursion (λ (r : ArmedRow Alarm). r.number < n) rows → AllByRecursion (λ (r : ArmedRow Alarm). r.number < n + 1) (rows ++ row ∷ [])
latest-push [] row n is all = (omega (arith, is), tt)
latest-push (r ∷ rs) row n is all = (let first : r.number < n = all.0 in omega arith, latest-push rs row n is all.1)

-- what is armed of the first timers
pub record Begun (defs : List TimerDef) (i : ℕ) (seen : AlarmsSeen) (number : ℕ) : Type 0 where
  pub within : i ≤ length defs
  pub seen_is : seen ≡ record (opened defs) { rows = (started (take i defs)).rows }
  pub number_is : number ≡ (started (take i defs)).numbers
  pub few : number ≤ i
  pub free : AreFree seen.rows (drop i defs)
  pub latest : AllByRecursion (λ (row : ArmedRow Alarm). row.number < number) seen.rows

pub begun-first : (defs : List TimerDef) (seen : AlarmsSeen) → seen ≡ opened defs → Begun defs 0 seen 0
begun-first defs seen is = record {
  within = omega arith;
  seen_is = is;
  number_is = refl;
  few = omega arith;
  free = subst (λ (s : AlarmsSeen). AreFree s.rows defs) (sym is) (all-free defs);
  latest = subst (λ (s : AlarmsSeen). AllByRecursion (λ (row : ArmedRow Alarm). row.number < 0) s.rows) (sym is) tt;
}

-- the timer whose turn it is, by its number
pub turn-is : (defs : List TimerDef) (i : ℕ) (def : TimerDef) → i < length defs → def ≡ get_or defs i def → timer_at (reverse (map new_timer defs)) (length defs - 1 - i) ≡ new_timer def
turn-is defs i def there is =
    let place : length (map new_timer defs) - 1 - (length defs - 1 - i) ≡ i = omega (arith, there, length-map defs new_timer) in
    get_or-reverse (map new_timer defs) (length defs - 1 - i) no_timer (omega (arith, there, length-map defs new_timer))
    ∙ ap (λ n. get_or (map new_timer defs) n no_timer) place
    ∙ get_or-map new_timer defs i def no_timer there
    ∙ ap new_timer (sym is)

pub begun-skipped : (defs : List TimerDef) (i : ℕ) (def : TimerDef) (seen : AlarmsSeen) (number : ℕ) → i < length defs → def ≡ get_or defs i def → def.started ≡ false → Begun defs i seen number → Begun defs (i + 1) seen number
begun-skipped defs i def seen number there is still begun =
    let more : started (take (i + 1) defs) ≡ started (take i defs) = fold_more with_started (record { rows = []; numbers = 0 }) defs i def there ∙ ap (with_started (started (take i defs))) (sym is) ∙ ap (λ c. if c then record { rows = (started (take i defs)).rows ++ record { due = def.time; number = (started (take i defs)).numbers; alarm = OfTimer def.name } ∷ []; numbers = (started (take i defs)).numbers + 1 } else started (take i defs)) still in
    let rest : drop i defs ≡ get_or defs i def ∷ drop (suc i) defs = drop-cons defs i def there in
    let next : suc i ≡ i + 1 = omega arith in
    record {
      within = omega (arith, there);
      seen_is = begun.seen_is ∙ ap (λ (s : Started). record (opened defs) { rows = s.rows }) (sym more);
      number_is = begun.number_is ∙ ap (λ (s : Started). s.numbers) (sym more);
      few = omega (arith, begun.few);
      free = subst (λ n. AreFree seen.rows (drop n defs)) next (subst (AreFree seen.rows) rest begun.free).1;
      latest = begun.latest;
    }

others-apart : (defs : List TimerDef) (i : ℕ) (def : TimerDef) → i < length defs → def ≡ get_or defs i def → AllPairs (λ one other. one.name ≢ other.name) defs → (k : ℕ) (d : TimerDef) → k < length (drop (suc i) defs) → def.name ≢ (get_or (drop (suc i) defs) k d).name
others-apart defs i def there is apart k d k_there =
    let within : suc i + k < length defs = omega (arith, k_there, length-drop (suc i) defs) in
    let same_place : get_or (drop (suc i) defs) k d ≡ get_or defs (suc i + k) d = get_or-drop (suc i) defs k d in
    let mine : get_or defs i d ≡ def = get_or-default defs i d def there ∙ sym is in
    λ same. apart i (suc i + k) d (omega arith) within (ap (λ (x : TimerDef). x.name) mine ∙ same ∙ ap (λ (x : TimerDef). x.name) same_place)
  where
    get_or-default : (xs : List TimerDef) (n : ℕ) (d e : TimerDef) → n < length xs → get_or xs n d ≡ get_or xs n e
    get_or-default [] n d e lt = absurd (omega (arith, lt))
    get_or-default (x ∷ xs) zero d e lt = refl
    get_or-default (x ∷ xs) (suc n) d e lt = get_or-default xs n d e (omega (arith, lt))

pub begun-more : (defs : List TimerDef) (i o : ℕ) (def : TimerDef) (seen new : AlarmsSeen) (number : ℕ) → i < length defs → def ≡ get_or defs i def → def.started ≡ true → AllPairs (λ one other. one.name ≢ other.name) defs → o ≡ length defs - 1 - i → Begun defs i seen number →
    new ≡ record seen { rows = without (OfTimer (timer_at seen.timers o).name) seen.rows ++ record { due = seen.moment + (timer_at seen.timers o).time; number = number; alarm = OfTimer (timer_at seen.timers o).name } ∷ [] } → Begun defs (i + 1) new (number + 1)
begun-more defs i o def seen new number there is starts apart place begun new_is = record {
  within = omega (arith, there);
  seen_is = rows_are ∙ ap (λ (s : Started). record (opened defs) { rows = s.rows }) (sym more);
  number_is = ap (λ n. n + 1) begun.number_is ∙ ap (λ (s : Started). s.numbers) (sym more);
  few = omega (arith, begun.few);
  free = subst (λ (s : AlarmsSeen). AreFree s.rows (drop (i + 1) defs)) (sym rows_are) (subst (λ n. AreFree (rows ++ row ∷ []) (drop n defs)) next (still-free rows row def (drop (suc i) defs) refl (others-apart defs i def there is apart) free.1));
  latest = subst (λ n. AllByRecursion (λ (r : ArmedRow Alarm). r.number < n + 1) new.rows) (sym begun.number_is) (subst (λ (s : AlarmsSeen). AllByRecursion (λ (r : ArmedRow Alarm). r.number < numbers + 1) s.rows) (sym rows_are) (latest-push rows row numbers refl latest));
} where
  rows : List (ArmedRow Alarm)
  rows = (started (take i defs)).rows

  numbers : ℕ
  numbers = (started (take i defs)).numbers

  row : ArmedRow Alarm
  row = record { due = def.time; number = numbers; alarm = OfTimer def.name }

  next : suc i ≡ i + 1
  next = omega arith

  free : AreFree rows (get_or defs i def ∷ drop (suc i) defs)
  free = subst (AreFree rows) (drop-cons defs i def there) (subst (λ (s : AlarmsSeen). AreFree s.rows (drop i defs)) begun.seen_is begun.free)

  latest : AllByRecursion (λ (r : ArmedRow Alarm). r.number < numbers) rows
  latest = subst (λ n. AllByRecursion (λ (r : ArmedRow Alarm). r.number < n) rows) begun.number_is (subst (λ (s : AlarmsSeen). AllByRecursion (λ (r : ArmedRow Alarm). r.number < number) s.rows) begun.seen_is begun.latest)

  more : started (take (i + 1) defs) ≡ record { rows = rows ++ row ∷ []; numbers = numbers + 1 }
  more = fold_more with_started (record { rows = []; numbers = 0 }) defs i def there ∙ ap (with_started (started (take i defs))) (sym is) ∙ ap (λ c. if c then record { rows = rows ++ row ∷ []; numbers = numbers + 1 } else started (take i defs)) starts

  turn : timer_at (reverse (map new_timer defs)) o ≡ new_timer def
  turn = ap (timer_at (reverse (map new_timer defs))) place ∙ turn-is defs i def there is

  own : is_armed (OfTimer def.name) rows ≡ false
  own = ap (λ (d : TimerDef). is_armed (OfTimer d.name) rows) is ∙ free.0

  plain : (n : ℕ) → 0 + n ≡ n
  plain n = omega arith

  rows_are : new ≡ record (opened defs) { rows = rows ++ row ∷ [] }
  rows_are =
      new_is
      ∙ ap (λ (s : AlarmsSeen). record s { rows = without (OfTimer (timer_at s.timers o).name) s.rows ++ record { due = s.moment + (timer_at s.timers o).time; number = number; alarm = OfTimer (timer_at s.timers o).name } ∷ [] }) begun.seen_is
      ∙ ap (λ (t : Timer). record (opened defs) { rows = without (OfTimer t.name) rows ++ record { due = 0 + t.time; number = number; alarm = OfTimer t.name } ∷ [] }) turn
      ∙ ap (λ (l : List (ArmedRow Alarm)). record (opened defs) { rows = l ++ record { due = 0 + def.time; number = number; alarm = OfTimer def.name } ∷ [] }) (none-dropped (OfTimer def.name) rows own)
      ∙ ap (λ d. record (opened defs) { rows = rows ++ record { due = d; number = number; alarm = OfTimer def.name } ∷ [] }) (plain def.time)
      ∙ ap (λ n. record (opened defs) { rows = rows ++ record { due = def.time; number = n; alarm = OfTimer def.name } ∷ [] }) begun.number_is

-- all of them
pub begun-all : (defs : List TimerDef) (i : ℕ) (old seen : AlarmsSeen) (number : ℕ) → old ≡ opened defs → length defs ≤ i → Begun defs i seen number → (seen ≡ record old { rows = (started defs).rows }) × (number ≡ (started defs).numbers)
begun-all defs i old seen number is over begun = (
  begun.seen_is ∙ ap (λ (l : List TimerDef). record (opened defs) { rows = (started l).rows }) (take_all i defs over) ∙ ap (λ (s : AlarmsSeen). record s { rows = (started defs).rows }) (sym is),
  begun.number_is ∙ ap (λ (l : List TimerDef). (started l).numbers) (take_all i defs over),
)
