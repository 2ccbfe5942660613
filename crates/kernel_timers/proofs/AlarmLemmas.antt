-- What the calls on alarms leave.
use Rattle.std.proofs.Common.{ℕ, ◌≡◌, ◌≢◌, ◌+◌, ◌%◌, ◌<◌, ◌≤◌, ◌||◌, Bool, true, eqb-true, List, [], ◌∷◌, ◌++◌, length, map, false, not, Option, Some, None, refl, sym, ap, ◌∙◌, subst, arith, set, reverse, is_some, slice_index_or, slice_set, MatchOption, IfSome}
use Rattle.std.specs.Option.{option_map}
use Rattle.std.specs.Prelude.{◌==◌}
use Rattle.std.specs.List.{All, AllByRecursion, AllPairs, list_any}
use Rattle.std.proofs.lemmas.Map.Views.{Contains-from_any}
use Rattle.std.proofs.lemmas.List.{get_or-map, map-set, length-map, length-reverse, length-set}
use Rattle.std.proofs.lemmas.List.Elements.{All-from_recursion, recursion_from_All}
use Rattle.rt_plain.specs.kernel.State.{Timer, ArmedRow, Alarm, OfThread, OfTimer}
use Rattle.rt_plain.specs.kernel.Due.{due_rows_at}
use Rattle.rt_plain.specs.declared.board.TimerDef.{TimerDef}
use Rattle.rt_plain.specs.kernel.Opening.{new_timer}
use Rattle.rt_plain.specs.kernel.Sleeps.{is_empty}
use Rattle.kernel_timers.specs.Arming.{MayOpen}
use Rattle.timer_skip.specs.Armed.{Armed, IsLeastLeft, ArmedRow as SkipRow, after_ticks, row_after, is_row_of, left_of, tick_after, is_armed as is_row_armed, without as without_row, due_rows}
use Rattle.kernel_timers.specs.Alarmed.{AlarmsSeen, no_timer, alarm_of, row_of, names_of, timer_at, put_timer, due_of, is_armed, without, first_alarm, IsAlarmed, IsTimed, IsNextDue}
use Rattle.kernel_timers.proofs.RowLemmas.{thread-alarm, timer-alarm, without-is, armed-is, due-at, each-filter, each-push, each-of_mapped, each-mapped, map-push, advanced-is, due-is, first-is, first-there}
use Rattle.kernel_timers.proofs.TimerLemmas.{name-at, names-length, names-set, put-is, timed-set, opened-apart, opened-timed, map-reverse}

-- what contracts see
abbrev pub seen_of : ℕ → List Timer → Armed → AlarmsSeen
seen_of m ts a = record { moment = m; timers = ts; rows = map (row_of m (names_of ts)) a.rows }

weaker : {X : Type 0} (P Q : X → Type 0) (more : (x : X) → P x → Q x) (xs : List X) → AllByRecursion P xs → AllByRecursion Q xs
weaker P Q more [] h = tt
weaker P Q more (x ∷ xs) h = (more x h.0, weaker P Q more xs h.1)

below-names : (ts : List Timer) (rows : List SkipRow) → AllByRecursion (λ (r : SkipRow). r.timer < 256 + length ts) rows → AllByRecursion (λ (r : SkipRow). r.timer < 256 + length (names_of ts)) rows
below-names ts rows all = weaker (λ (r : SkipRow). r.timer < 256 + length ts) (λ (r : SkipRow). r.timer < 256 + length (names_of ts)) (λ r lt. omega (arith, lt, names-length ts)) rows all

-- the number of a timer
pub timer-is : (ts : List Timer) (o who : ℕ) → who ≡ 256 + o → alarm_of (names_of ts) who ≡ OfTimer (timer_at ts o).name
timer-is ts o who is = ap (alarm_of (names_of ts)) is ∙ timer-alarm (names_of ts) o ∙ ap (λ (name : List ℕ). OfTimer name) (name-at ts o)

pub thread-is : (ts : List Timer) (t who : ℕ) → who ≡ t → t < 256 → alarm_of (names_of ts) who ≡ OfThread t
thread-is ts t who is lt = ap (alarm_of (names_of ts)) is ∙ thread-alarm (names_of ts) t lt

-- so many ticks
pub rows-ahead : (m n : ℕ) (ts : List Timer) (a : Armed) (now : AlarmsSeen) → seen_of m ts a ≡ now → All (λ (row : ArmedRow Alarm). now.moment + n ≤ row.due) now.rows → AllByRecursion (λ (r : SkipRow). n ≤ r.left) a.rows
rows-ahead m n ts a now is ahead =
    each-of_mapped (row_of m (names_of ts)) (λ (row : ArmedRow Alarm). m + n ≤ row.due) (λ (r : SkipRow). n ≤ r.left) (λ r k. omega (arith, k)) a.rows
    (recursion_from_All (λ (row : ArmedRow Alarm). m + n ≤ row.due) (map (row_of m (names_of ts)) a.rows) (subst (λ (s : AlarmsSeen). All (λ (row : ArmedRow Alarm). s.moment + n ≤ row.due) s.rows) (sym is) ahead))

tick-more : (tick m n : ℕ) → tick ≡ m % 4294967296 → (tick + n) % 4294967296 ≡ (m + n) % 4294967296
tick-more tick m n is = omega arith

pub advanced-kept : (m n : ℕ) (ts : List Timer) (a b : Armed) → b ≡ after_ticks n a → IsAlarmed m ts a → IsAlarmed (m + n) ts b
advanced-kept m n ts a b is h = subst (IsAlarmed (m + n) ts) (sym is) (record {
  few = h.few;
  count = h.count;
  tick = tick-more a.tick m n h.tick;
  below = each-mapped (row_after n) (λ (r : SkipRow). r.timer < 256 + length ts) (λ (r : SkipRow). r.timer < 256 + length ts) (λ r lt. lt) a.rows h.below;
  apart = h.apart;
  timed = h.timed;
})

pub advanced-seen : (m n : ℕ) (ts : List Timer) (a b : Armed) → b ≡ after_ticks n a → AllByRecursion (λ (r : SkipRow). n ≤ r.left) a.rows → seen_of (m + n) ts b ≡ record (seen_of m ts a) { moment = m + n }
advanced-seen m n ts a b is ahead = ap (seen_of (m + n) ts) is ∙ ap (λ (rows : List (ArmedRow Alarm)). (let s : AlarmsSeen = record { moment = m + n; timers = ts; rows = rows } in s)) (advanced-is m n (names_of ts) a.rows ahead)

-- the row that is due next
has-due : (m left : ℕ) (names : List (List ℕ)) (rows : List SkipRow) → list_any (λ (r : SkipRow). r.left == left) rows ≡ true → list_any (λ n. m + left == n) (map (λ (row : ArmedRow Alarm). row.due) (map (row_of m names) rows)) ≡ true
has-due m left names [] has = absurd cc
has-due m left names (r ∷ rows) has = by_test (r.left == left) refl has (has-due m left names rows) where
  by_test : (c : Bool) → (r.left == left) ≡ c → c || list_any (λ (x : SkipRow). x.left == left) rows ≡ true
      → (list_any (λ (x : SkipRow). x.left == left) rows ≡ true → list_any (λ n. m + left == n) (map (λ (row : ArmedRow Alarm). row.due) (map (row_of m names) rows)) ≡ true)
      → (m + left == m + r.left) || list_any (λ n. m + left == n) (map (λ (row : ArmedRow Alarm). row.due) (map (row_of m names) rows)) ≡ true
  by_test true same rest more = rw (here same) refl where
    here : (r.left == left) ≡ true → (m + left == m + r.left) ≡ true
    here e = grind (arith, e)
  by_test false same rest more = rw (more rest) (or-true (m + left == m + r.left)) where
    or-true : (c : Bool) → c || true ≡ true
    or-true true = refl
    or-true false = refl

pub next-due : (m : ℕ) (ts : List Timer) (a : Armed) (o : Option ℕ) → MatchOption o (a.rows ≡ []) (λ left. IsLeastLeft left a.rows) → IsNextDue (seen_of m ts a) o
next-due m ts a None none = ap (map (row_of m (names_of ts))) none
next-due m ts a (Some left) least = (
  Contains-from_any (λ x y same. eqb-true x y same) (m + left) (map (λ (row : ArmedRow Alarm). row.due) (seen_of m ts a).rows) (has-due m left (names_of ts) a.rows least.one_has_it),
  All-from_recursion (λ (row : ArmedRow Alarm). m + left ≤ row.due) (seen_of m ts a).rows (each-mapped (row_of m (names_of ts)) (λ (row : ArmedRow Alarm). m + left ≤ row.due) (λ (r : SkipRow). left ≤ r.left) (λ r le. omega (arith, le)) a.rows (recursion_from_All (λ (r : SkipRow). left ≤ r.left) a.rows least.none_has_less)),
)

-- a row less
pub stopped-kept : (m : ℕ) (ts : List Timer) (a b : Armed) (who : ℕ) → b ≡ record a { rows = without_row who a.rows } → IsAlarmed m ts a → IsAlarmed m ts b
stopped-kept m ts a b who is h = subst (IsAlarmed m ts) (sym is) (record {
  few = h.few;
  count = h.count;
  tick = h.tick;
  below = each-filter (λ (r : SkipRow). r.timer < 256 + length ts) (λ (r : SkipRow). not (is_row_of who r)) a.rows h.below;
  apart = h.apart;
  timed = h.timed;
})

pub stopped-seen : (m : ℕ) (ts : List Timer) (a b : Armed) (who : ℕ) (alarm : Alarm) → b ≡ record a { rows = without_row who a.rows } → IsAlarmed m ts a → who < 256 + length ts → alarm_of (names_of ts) who ≡ alarm → seen_of m ts b ≡ record (seen_of m ts a) { rows = without alarm (seen_of m ts a).rows }
stopped-seen m ts a b who alarm is h there whose =
    ap (seen_of m ts) is
    ∙ ap (λ (rows : List (ArmedRow Alarm)). (let s : AlarmsSeen = record { moment = m; timers = ts; rows = rows } in s)) (without-is m (names_of ts) who a.rows h.apart (omega (arith, there, names-length ts)) (below-names ts a.rows h.below))
    ∙ ap (λ (al : Alarm). record (seen_of m ts a) { rows = without al (seen_of m ts a).rows }) whose

pub stopped-armed : (m : ℕ) (ts : List Timer) (a : Armed) (who : ℕ) (alarm : Alarm) → IsAlarmed m ts a → who < 256 + length ts → alarm_of (names_of ts) who ≡ alarm → is_row_armed who a.rows ≡ is_armed alarm (seen_of m ts a).rows
stopped-armed m ts a who alarm h there whose =
    armed-is m (names_of ts) who a.rows h.apart (omega (arith, there, names-length ts)) (below-names ts a.rows h.below)
    ∙ ap (λ (al : Alarm). is_armed al (seen_of m ts a).rows) whose

in-32-bits : (m tick : ℕ) (o : Option ℕ) → tick ≡ m % 4294967296 → option_map (tick_after tick) o ≡ option_map (λ d. d % 4294967296) (option_map (λ left. m + left) o)
in-32-bits m tick None is = refl
in-32-bits m tick (Some left) is = ap (λ (n : ℕ). Some n) (wrapped is)
  where
    wrapped : tick ≡ m % 4294967296 → (tick + left) % 4294967296 ≡ (m + left) % 4294967296
    wrapped e = omega arith

pub due-is-at : (m : ℕ) (ts : List Timer) (a : Armed) (who : ℕ) (alarm : Alarm) → IsAlarmed m ts a → who < 256 + length ts → alarm_of (names_of ts) who ≡ alarm → option_map (tick_after a.tick) (left_of who a.rows) ≡ option_map (λ d. d % 4294967296) (due_of alarm (seen_of m ts a).rows)
due-is-at m ts a who alarm h there whose =
    in-32-bits m a.tick (left_of who a.rows) h.tick
    ∙ ap (option_map (λ d. d % 4294967296)) (due-at m (names_of ts) who a.rows h.apart (omega (arith, there, names-length ts)) (below-names ts a.rows h.below) ∙ ap (λ (al : Alarm). due_of al (seen_of m ts a).rows) whose)

-- when the wait of a thread is due
pub wait-due : (m : ℕ) (ts : List Timer) (a : Armed) (t who : ℕ) → IsAlarmed m ts a → who ≡ t → t < 256 → option_map (λ left. m + left) (left_of who a.rows) ≡ due_of (OfThread t) (seen_of m ts a).rows
wait-due m ts a t who h is there =
    due-at m (names_of ts) who a.rows h.apart (omega (arith, is, there)) (below-names ts a.rows h.below)
    ∙ ap (λ (al : Alarm). due_of al (seen_of m ts a).rows) (thread-is ts t who is there)

-- a row more
pub rows-latest : (m : ℕ) (ts : List Timer) (a : Armed) (now : AlarmsSeen) (n : ℕ) → seen_of m ts a ≡ now → All (λ (row : ArmedRow Alarm). row.number < n) now.rows → AllByRecursion (λ (r : SkipRow). r.number < n) a.rows
rows-latest m ts a now n is latest =
    each-of_mapped (row_of m (names_of ts)) (λ (row : ArmedRow Alarm). row.number < n) (λ (r : SkipRow). r.number < n) (λ r k. k) a.rows
    (recursion_from_All (λ (row : ArmedRow Alarm). row.number < n) (map (row_of m (names_of ts)) a.rows) (subst (λ (s : AlarmsSeen). All (λ (row : ArmedRow Alarm). row.number < n) s.rows) (sym is) latest))

pub latest-without : (a b : Armed) (who n : ℕ) → b ≡ record a { rows = without_row who a.rows } → AllByRecursion (λ (r : SkipRow). r.number < n) a.rows → AllByRecursion (λ (r : SkipRow). r.number < n) b.rows
latest-without a b who n is all = subst (λ (x : Armed). AllByRecursion (λ (r : SkipRow). r.number < n) x.rows) (sym is) (each-filter (λ (r : SkipRow). r.number < n) (λ (r : SkipRow). not (is_row_of who r)) a.rows all)

pub started-kept : (m : ℕ) (ts : List Timer) (a b : Armed) (who left n : ℕ) → b ≡ record a { rows = a.rows ++ record { left = left; number = n; timer = who } ∷ [] } → who < 256 + length ts → IsAlarmed m ts a → IsAlarmed m ts b
started-kept m ts a b who left n is there h = subst (IsAlarmed m ts) (sym is) (record {
  few = h.few;
  count = h.count;
  tick = h.tick;
  below = each-push (λ (r : SkipRow). r.timer < 256 + length ts) a.rows (record { left = left; number = n; timer = who }) h.below there;
  apart = h.apart;
  timed = h.timed;
})

pub started-seen : (m : ℕ) (ts : List Timer) (a b : Armed) (who left n due : ℕ) (alarm : Alarm) → b ≡ record a { rows = a.rows ++ record { left = left; number = n; timer = who } ∷ [] } → m + left ≡ due → alarm_of (names_of ts) who ≡ alarm →
    seen_of m ts b ≡ record (seen_of m ts a) { rows = (seen_of m ts a).rows ++ record { due = due; number = n; alarm = alarm } ∷ [] }
started-seen m ts a b who left n due alarm is ends whose =
    ap (seen_of m ts) is
    ∙ ap (λ (rows : List (ArmedRow Alarm)). (let s : AlarmsSeen = record { moment = m; timers = ts; rows = rows } in s)) (map-push (row_of m (names_of ts)) a.rows (record { left = left; number = n; timer = who }))
    ∙ ap (λ d. record (seen_of m ts a) { rows = (seen_of m ts a).rows ++ record { due = d; number = n; alarm = alarm_of (names_of ts) who } ∷ [] }) ends
    ∙ ap (λ (al : Alarm). record (seen_of m ts a) { rows = (seen_of m ts a).rows ++ record { due = due; number = n; alarm = al } ∷ [] }) whose

-- another time
pub timed-kept : (m : ℕ) (ts us : List Timer) (o : ℕ) (timer : Timer) (a : Armed) → us ≡ set ts o timer → timer.name ≡ (timer_at ts o).name → IsTimed timer → IsAlarmed m ts a → IsAlarmed m us a
timed-kept m ts us o timer a is named timed h = subst (λ (l : List Timer). IsAlarmed m l a) (sym is) (record {
  few = omega (arith, length-set ts o timer, h.few);
  count = omega (arith, length-set ts o timer, h.count);
  tick = h.tick;
  below = weaker (λ (r : SkipRow). r.timer < 256 + length ts) (λ (r : SkipRow). r.timer < 256 + length (set ts o timer)) (λ r lt. omega (arith, lt, length-set ts o timer)) a.rows h.below;
  apart = subst (λ (ns : List (List ℕ)). AllPairs (λ one other. one ≢ other) ns) (sym (names-set ts o timer named)) h.apart;
  timed = timed-set ts o timer h.timed timed;
})

pub timed-seen : (m : ℕ) (ts us : List Timer) (o : ℕ) (timer : Timer) (a : Armed) → us ≡ set ts o timer → timer.name ≡ (timer_at ts o).name → o < length ts → IsAlarmed m ts a → seen_of m us a ≡ record (seen_of m ts a) { timers = put_timer ts timer }
timed-seen m ts us o timer a is named there h =
    let names : names_of us ≡ names_of ts = ap names_of is ∙ names-set ts o timer named in
    ap (λ (ns : List (List ℕ)). (let s : AlarmsSeen = record { moment = m; timers = us; rows = map (row_of m ns) a.rows } in s)) names
    ∙ ap (λ (l : List Timer). (let s : AlarmsSeen = record { moment = m; timers = l; rows = map (row_of m (names_of ts)) a.rows } in s)) (is ∙ put-is ts o timer h.apart there named)

-- the first of the rows that are due
pub due-first : (m : ℕ) (ts : List Timer) (a b : Armed) (o : Option ℕ) → MatchOption o (due_rows a.rows ≡ []) (λ who. map (λ (r : SkipRow). r.timer) (due_rows a.rows) ≡ who ∷ map (λ (r : SkipRow). r.timer) (due_rows b.rows)) →
    first_alarm (due_rows_at m (seen_of m ts a).rows) ≡ option_map (alarm_of (names_of ts)) o
due-first m ts a b None is = ap first_alarm (sym (due-is m (names_of ts) a.rows)) ∙ ap (λ (l : List SkipRow). first_alarm (map (row_of m (names_of ts)) l)) is
due-first m ts a b (Some who) is = ap first_alarm (sym (due-is m (names_of ts) a.rows)) ∙ first-is m (names_of ts) (due_rows a.rows) who (map (λ (r : SkipRow). r.timer) (due_rows b.rows)) is

pub due-there : (m : ℕ) (ts : List Timer) (a b : Armed) (o : Option ℕ) (now : AlarmsSeen) → MatchOption o (due_rows a.rows ≡ []) (λ who. map (λ (r : SkipRow). r.timer) (due_rows a.rows) ≡ who ∷ map (λ (r : SkipRow). r.timer) (due_rows b.rows)) →
    IsAlarmed m ts a → seen_of m ts a ≡ now → IfSome o (λ who. who < 256 + length now.timers)
due-there m ts a b None now is h view = tt
due-there m ts a b (Some who) now is h view = omega (arith, first-there (256 + length ts) a.rows who (map (λ (r : SkipRow). r.timer) (due_rows b.rows)) is h.below, ap (λ (s : AlarmsSeen). length s.timers) view)

-- it is taken out
pub taken-kept : (m : ℕ) (ts : List Timer) (a b : Armed) (o : Option ℕ) → MatchOption o (b ≡ a) (λ who. b ≡ record a { rows = without_row who a.rows }) → IsAlarmed m ts a → IsAlarmed m ts b
taken-kept m ts a b None is h = subst (IsAlarmed m ts) (sym is) h
taken-kept m ts a b (Some who) is h = stopped-kept m ts a b who is h

pub taken-seen : (m : ℕ) (ts : List Timer) (a b : Armed) (o : Option ℕ) (now : AlarmsSeen) → MatchOption o (due_rows a.rows ≡ []) (λ who. map (λ (r : SkipRow). r.timer) (due_rows a.rows) ≡ who ∷ map (λ (r : SkipRow). r.timer) (due_rows b.rows)) →
    MatchOption o (b ≡ a) (λ who. b ≡ record a { rows = without_row who a.rows }) → IsAlarmed m ts a → seen_of m ts a ≡ now →
    MatchOption o (seen_of m ts b ≡ now) (λ who. seen_of m ts b ≡ record now { rows = without (alarm_of (names_of now.timers) who) now.rows })
taken-seen m ts a b None now due is h view = ap (seen_of m ts) is ∙ view
taken-seen m ts a b (Some who) now due is h view =
    stopped-seen m ts a b who (alarm_of (names_of ts) who) is h (first-there (256 + length ts) a.rows who (map (λ (r : SkipRow). r.timer) (due_rows b.rows)) due h.below) refl
    ∙ ap (λ (s : AlarmsSeen). record s { rows = without (alarm_of (names_of s.timers) who) s.rows }) view

-- a row of the table of timers
pub read-is : (items : List TimerDef) (i o : ℕ) (d : TimerDef) → i ≡ o → o < length (map new_timer items) → d ≡ slice_index_or items i d → timer_at (map new_timer items) o ≡ new_timer d
read-is items i o d at there is =
    let bound : i < length items = omega (arith, at, there, length-map items new_timer) in
    sym (ap (timer_at (map new_timer items)) at) ∙ get_or-map new_timer items i d no_timer bound ∙ ap new_timer (sym is)

pub written-time : (items : List TimerDef) (i o : ℕ) (old : TimerDef) (time : ℕ) → i ≡ o → o < length (map new_timer items) → old ≡ slice_index_or items i old →
    map new_timer (slice_set items i (record old { time = time })) ≡ set (map new_timer items) o (record (timer_at (map new_timer items) o) { time = time })
written-time items i o old time at there is =
    map-set new_timer items i (record old { time = time })
    ∙ ap (λ n. slice_set (map new_timer items) n (new_timer (record old { time = time }))) at
    ∙ ap (λ (t : Timer). slice_set (map new_timer items) o (record t { time = time })) (sym (read-is items i o old at there is))

-- whether nothing is armed
pub none-armed : (m : ℕ) (ts : List Timer) (a : Armed) (o : Option ℕ) → MatchOption o (a.rows ≡ []) (λ left. IsLeastLeft left a.rows) → not (is_some o) ≡ is_empty (seen_of m ts a).rows
none-armed m ts a None is = ap (λ (l : List SkipRow). is_empty (map (row_of m (names_of ts)) l)) (sym is)
none-armed m ts a (Some left) is = by_rows a.rows is
  where
    by_rows : (rows : List SkipRow) → IsLeastLeft left rows → false ≡ is_empty (map (row_of m (names_of ts)) rows)
    by_rows [] least = absurd (grind (arith, least.one_has_it))
    by_rows (r ∷ rs) least = refl

-- the timers of a board
pub opened-kept : (defs items : List TimerDef) (a : Armed) (n : ℕ) → items ≡ reverse defs → a ≡ record { tick = 0; count = 256 + n; rows = [] } → n ≡ length items → MayOpen defs → IsAlarmed 0 (map new_timer items) a
opened-kept defs items a n made is len may = subst (λ (l : List TimerDef). IsAlarmed 0 (map new_timer l) a) (sym made) (subst (IsAlarmed 0 (map new_timer (reverse defs))) (sym is) (record {
  few = omega (arith, length-map (reverse defs) new_timer, length-reverse defs, may.few);
  count = omega (arith, length-map (reverse defs) new_timer, len, ap length made);
  tick = refl;
  below = tt;
  apart = opened-apart defs may.apart;
  timed = opened-timed defs (recursion_from_All (λ (def : TimerDef). (1 ≤ def.time) × (def.time ≤ 2147483647)) defs may.timed);
}))

pub opened-seen : (defs items : List TimerDef) (a : Armed) (n : ℕ) → items ≡ reverse defs → a ≡ record { tick = 0; count = 256 + n; rows = [] } → seen_of 0 (map new_timer items) a ≡ record { moment = 0; timers = reverse (map new_timer defs); rows = [] }
opened-seen defs items a n made is =
    ap (seen_of 0 (map new_timer items)) is
    ∙ ap (λ (l : List Timer). (let s : AlarmsSeen = record { moment = 0; timers = l; rows = [] } in s)) (ap (map new_timer) made ∙ map-reverse new_timer defs)
