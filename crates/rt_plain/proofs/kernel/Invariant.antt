-- What each action keeps, and how the small changes of a state keep it.
use Rattle.std.proofs.Common.{◌≡◌, ◌≢◌, ◌⊎◌, inl, inr, ◌+◌, ◌≤◌, ◌<◌, ◌∷◌, [], ◌++◌, ℕ, List, Option, Some, None, Bool, true, false, not, length, eqb, refl, sym, ap, ◌∙◌, subst, arith, eq-eqb, eqb-true, ne_eqb, slice_index_or, slice_set, filter, map, if◌then◌else◌}
use Rattle.std.specs.List.{AllByRecursion}
use Rattle.std.proofs.lemmas.Slice.Eq.{bytes_eq-Decides}
use Rattle.std.proofs.lemmas.Bool.{eqb-false}
use Rattle.std.proofs.lemmas.List.{length-map}
use Rattle.rt_plain.specs.PlainBoard.{PlainBoard}
use Rattle.rt_plain.specs.kernel.Kept.{Frame, Parts, parts, is_fine_awaited, IsNear, IsAhead, IsFineRetry, IsFineThread, is_owned, stage_at, IsWaited, IsRowKept, IsRowBounded, IsOwned, is_work_of, standings, IsKnownWork, places, is_scriptless, IsNestRun, Kept}
use Rattle.rt_plain.specs.kernel.State.{State, Stage, Active, Waiting, Closed, Suspended, Awaited, Retry, Thread, Nest, Alarm, OfThread, OfTimer, ArmedRow, no_thread, thread_at, with_thread, running_on, is_number, is_closed, is_nest_of}
use Rattle.rt_plain.specs.kernel.Effects.{with_ready_last, with_ready_first, without_ready, without_core, is_alarm, without_alarm, with_alarm, waiting_state, active_state}
use Rattle.rt_plain.specs.kernel.ThreadCalls.{suspended_state}
use Rattle.rt_plain.specs.kernel.Owners.{nest_without, withdrawn_state}
use Rattle.rt_plain.specs.kernel.Calls.{is_moved, reordered_state}
use Rattle.rt_plain.specs.kernel.Steps.{with_running, without_mark, preempted_state}
use Rattle.rt_plain.specs.kernel.Sound.{is_active, is_waiting}
use Rattle.rt_plain.specs.kernel.Tally.{one_if, tally}
use Rattle.rt_plain.proofs.kernel.TallyLemmas.{tally-last, tally-split, tally-filter, tally-without_same, tally-without_other, tally-left_same, tally-left_other, tally-set, tally-at, tally-twice, all-weaker, all-filter, all-passing, all-append, all-at, all-set, same-set, other-set, here-set, past-end, length-set_at, map-at, le_or_lt}
use Rattle.rt_plain.proofs.TestLemmas.{some-is, clash}

-- rows stay kept where the threads that wait still do
pub rows-stay : (low : ℕ) (threads news : List Thread) (armed : List (ArmedRow Alarm)) → ((t : ℕ) → is_waiting (stage_at threads t) ≡ true → is_waiting (stage_at news t) ≡ true) → AllByRecursion (IsRowKept low threads) armed → AllByRecursion (IsRowKept low news) armed
rows-stay low threads news [] waits all = tt
rows-stay low threads news (row ∷ rows) waits all = ((all.0.0, by_alarm row.alarm all.0.1), rows-stay low threads news rows waits all.1) where
  by_alarm : (alarm : Alarm) → IsWaited threads alarm → IsWaited news alarm
  by_alarm (OfThread t) is = waits t is
  by_alarm (OfTimer name) is = tt

fine-none : (b : PlainBoard) (now : ℕ) → IsFineThread b now no_thread
fine-none b now = (refl, tt, λ is. absurd cc)

-- a thread's row is fine
pub fine-at : (f : Frame) (s : State) (t : ℕ) → Kept f s → IsFineThread f.board f.now (thread_at s t)
fine-at f s t kept = all-at (IsFineThread f.board f.now) s.threads t no_thread (fine-none f.board f.now) kept.fine

-- what is no further ahead than it may be stays so
near-later : (now : ℕ) (due : Option ℕ) → IsNear now due → IsNear (now + 1) due
near-later now due near d is = omega (arith, near d is)

retry-later : (now : ℕ) (retry : Option Retry) → IsFineRetry now retry → IsFineRetry (now + 1) retry
retry-later now None fine = tt
retry-later now (Some retry) fine = (fine.0, near-later now retry.due fine.1)

pub fine-later : (b : PlainBoard) (now : ℕ) (threads : List Thread) → AllByRecursion (IsFineThread b now) threads → AllByRecursion (IsFineThread b (now + 1)) threads
fine-later b now threads all = all-weaker (IsFineThread b now) (IsFineThread b (now + 1)) threads (λ row is. (is.0, retry-later now row.retry is.1, is.2)) all

pub bounded-later : (now numbers : ℕ) (armed : List (ArmedRow Alarm)) → AllByRecursion (IsRowBounded now numbers) armed → AllByRecursion (IsRowBounded (now + 1) numbers) armed
bounded-later now numbers armed all = all-weaker (IsRowBounded now numbers) (IsRowBounded (now + 1) numbers) armed (λ row is. (omega (arith, is.0), is.1)) all

-- a thread that isn't closed is there
pub is-there : (threads : List Thread) (t : ℕ) → is_closed (stage_at threads t) ≡ false → t < length threads
is-there threads t open_stage = by_place (le_or_lt (length threads) t) where
  by_place : (length threads ≤ t) ⊎ (t < length threads) → t < length threads
  by_place (inl past) = absurd (clash (subst (λ row. is_closed row.stage ≡ false) (past-end threads t no_thread past) open_stage)) where
    clash : true ≡ false → ⊥
    clash e = cc
  by_place (inr lt) = lt

-- another row of a thread, in the same stage
pub thread-kept : (f : Frame) (s : State) (t : ℕ) (row : Thread) → row.stage ≡ (thread_at s t).stage → IsFineThread f.board f.now row → Kept f s → Kept f (with_thread s t row)
thread-kept f s t row same fine kept = record {
  moment_is = kept.moment_is;
  live = kept.live;
  ends = kept.ends;
  count = length-set_at s.threads t row ∙ kept.count;
  cores = kept.cores;
  placed = λ u. kept.placed u ∙ ap (λ stage. one_if (is_active stage)) (sym (stays u));
  rows = rows-stay f.low s.threads (slice_set s.threads t row) s.armed (λ u is. ap is_waiting (stays u) ∙ is) kept.rows;
  bounded = kept.bounded;
  due_few = kept.due_few;
  single = kept.single;
  owned = kept.owned;
  works_known = kept.works_known;
  fine = all-set (IsFineThread f.board f.now) s.threads t row fine kept.fine;
  nest_runs = kept.nest_runs;
  timers_fine = kept.timers_fine;
} where
  stays : (u : ℕ) → stage_at (slice_set s.threads t row) u ≡ stage_at s.threads u
  stays u = same-set (λ (r : Thread). r.stage) s.threads t u row no_thread same

pub active-open : (stage : Stage) → is_active stage ≡ true → is_closed stage ≡ false
active-open Active is = refl
active-open Closed is = absurd cc
active-open _ is = refl

pub waiting-open : (stage : Stage) → is_waiting stage ≡ true → is_closed stage ≡ false
waiting-open (Waiting what number) is = refl
waiting-open Closed is = absurd cc
waiting-open _ is = refl

pub waiting-inactive : (stage : Stage) → is_waiting stage ≡ true → is_active stage ≡ false
waiting-inactive (Waiting what number) is = refl
waiting-inactive Active is = absurd cc
waiting-inactive _ is = refl

-- rows that are left where those of an alarm are dropped
pub rows-dropped : (low : ℕ) (threads : List Thread) (alarm : Alarm) (armed : List (ArmedRow Alarm)) → AllByRecursion (IsRowKept low threads) armed → AllByRecursion (IsRowKept low threads) (filter (λ r. not (is_alarm alarm r.alarm)) armed)
rows-dropped low threads alarm armed all = all-filter (IsRowKept low threads) (λ r. not (is_alarm alarm r.alarm)) armed all

-- rows that are left where those of a thread are dropped, after a write of that thread's row
rows-without : (low : ℕ) (threads : List Thread) (t : ℕ) (row : Thread) (armed : List (ArmedRow Alarm)) → AllByRecursion (IsRowKept low threads) armed → AllByRecursion (IsRowKept low (slice_set threads t row)) (filter (λ r. not (is_alarm (OfThread t) r.alarm)) armed)
rows-without low threads t row armed all = all-passing (IsRowKept low threads) (IsRowKept low (slice_set threads t row)) (λ r. not (is_alarm (OfThread t) r.alarm)) armed (λ r passes kept. (kept.0, by_alarm r.alarm passes kept.1)) all where
  not-true : (c : Bool) → not c ≡ true → c ≡ false
  not-true false is = refl
  not-true true is = absurd cc

  by_alarm : (alarm : Alarm) → not (is_alarm (OfThread t) alarm) ≡ true → IsWaited threads alarm → IsWaited (slice_set threads t row) alarm
  by_alarm (OfTimer name) passes is = tt
  by_alarm (OfThread u) passes is = subst (λ (r : Thread). is_waiting r.stage ≡ true) (sym (other-set threads t u row no_thread (λ e. eqb-false t u (not-true (eqb t u) passes) (sym e)))) is

-- nothing is armed for it any more
pub without_alarm-kept : (f : Frame) (s : State) (alarm : Alarm) → Kept f s → Kept f (without_alarm s alarm)
without_alarm-kept f s alarm kept = record {
  moment_is = kept.moment_is;
  live = kept.live;
  ends = kept.ends;
  count = kept.count;
  cores = kept.cores;
  placed = kept.placed;
  rows = rows-dropped f.low s.threads alarm s.armed kept.rows;
  bounded = all-filter (IsRowBounded f.now s.numbers) (λ r. not (is_alarm alarm r.alarm)) s.armed kept.bounded;
  due_few = omega (arith, kept.due_few, tally-filter (λ (row : ArmedRow Alarm). eqb row.due f.now) (λ r. not (is_alarm alarm r.alarm)) s.armed);
  single = λ other. omega (arith, kept.single other, tally-filter (λ (r : ArmedRow Alarm). is_alarm other r.alarm) (λ r. not (is_alarm alarm r.alarm)) s.armed);
  owned = all-filter (IsOwned s.timers) (λ r. not (is_alarm alarm r.alarm)) s.armed kept.owned;
  works_known = kept.works_known;
  fine = kept.fine;
  nest_runs = kept.nest_runs;
  timers_fine = kept.timers_fine;
}

-- two alarms that the test takes for one are one
pub alarm-is : (a c : Alarm) → is_alarm a c ≡ true → a ≡ c
alarm-is (OfThread t) (OfThread u) is = ap OfThread (eqb-true t u is)
alarm-is (OfTimer a) (OfTimer c) is = ap OfTimer ((bytes_eq-Decides a c).0 is)
alarm-is (OfThread t) (OfTimer c) is = absurd cc
alarm-is (OfTimer a) (OfThread u) is = absurd cc

pub alone-more : (works : List (List ℕ)) (armed : List (ArmedRow Alarm)) (row : ArmedRow Alarm) → standings row.alarm works armed ≡ 0 → ((alarm : Alarm) → standings alarm works armed ≤ 1) → (alarm : Alarm) → standings alarm works (armed ++ row ∷ []) ≤ 1
alone-more works armed row alone single alarm = by_test (is_alarm alarm row.alarm) refl where
  by_test : (c : Bool) → is_alarm alarm row.alarm ≡ c → standings alarm works (armed ++ row ∷ []) ≤ 1
  by_test true is = omega (arith, tally-last (λ (r : ArmedRow Alarm). is_alarm alarm r.alarm) armed row, ap one_if is, subst (λ a. standings a works armed ≡ 0) (sym (alarm-is alarm row.alarm is)) alone)
  by_test false is = omega (arith, tally-last (λ (r : ArmedRow Alarm). is_alarm alarm r.alarm) armed row, ap one_if is, single alarm)

-- the next number is given
pub bounded-more : (now numbers : ℕ) (armed : List (ArmedRow Alarm)) → AllByRecursion (IsRowBounded now numbers) armed → AllByRecursion (IsRowBounded now (numbers + 1)) armed
bounded-more now numbers armed all = all-weaker (IsRowBounded now numbers) (IsRowBounded now (numbers + 1)) armed (λ row is. (is.0, omega (arith, is.1))) all

-- a row for what waits, or for a timer that is no work, is armed for a later moment
pub with_alarm-kept : (f : Frame) (s : State) (alarm : Alarm) (due : Option ℕ) → standings alarm s.works s.armed ≡ 0 → is_owned s.timers alarm ≡ true → IsWaited s.threads alarm → IsAhead f.now due → Kept f s → Kept f (with_alarm s alarm due)
with_alarm-kept f s alarm None alone owner waits ahead kept = kept
with_alarm-kept f s alarm (Some d) alone owner waits ahead kept = record {
  moment_is = kept.moment_is;
  live = kept.live;
  ends = kept.ends;
  count = kept.count;
  cores = kept.cores;
  placed = kept.placed;
  rows = all-append (IsRowKept f.low s.threads) s.armed (row ∷ []) kept.rows ((omega (arith, f.fits, (ahead d refl).0), waits), tt);
  bounded = all-append (IsRowBounded f.now (s.numbers + 1)) s.armed (row ∷ []) (bounded-more f.now s.numbers s.armed kept.bounded) (((ahead d refl).1, omega arith), tt);
  due_few = omega (arith, kept.due_few, tally-last (λ (r : ArmedRow Alarm). eqb r.due f.now) s.armed row, undue);
  single = alone-more s.works s.armed row alone kept.single;
  owned = all-append (IsOwned s.timers) s.armed (row ∷ []) kept.owned (owner, tt);
  works_known = kept.works_known;
  fine = kept.fine;
  nest_runs = kept.nest_runs;
  timers_fine = kept.timers_fine;
} where
  row : ArmedRow Alarm
  row = record { due = d; number = s.numbers; alarm = alarm }

  undue : one_if (eqb d f.now) ≡ 0
  undue = let after : f.now < d = (ahead d refl).0 in rw (ne_eqb d f.now (omega (arith, after))) refl

some-number : (t : ℕ) (r : Option ℕ) → r ≡ Some t → is_number t r ≡ true
some-number t r is = rw is (eq-eqb t t refl)

-- a thread on a core counts there
pub running-count : (running : List (Option ℕ)) (core t : ℕ) → slice_index_or running core None ≡ Some t → 1 ≤ tally (is_number t) running
running-count running core t runs = tally-at (is_number t) running core None (some-number t _ runs) refl

-- a thread runs on one core at most
pub one-core : (f : Frame) (s : State) (t i j : ℕ) → Kept f s → running_on s i ≡ Some t → running_on s j ≡ Some t → i ≡ j
one-core f s t i j kept here there = by_test (eqb i j) refl where
  one : (c : Bool) → one_if c ≤ 1
  one true = omega arith
  one false = omega arith

  by_test : (c : Bool) → eqb i j ≡ c → i ≡ j
  by_test true is = eqb-true i j is
  by_test false is = absurd (omega (arith, kept.placed t, one (is_active (stage_at s.threads t)), tally-twice (is_number t) s.running i j None (eqb-false i j is) (some-number t _ here) (some-number t _ there) refl))

active-one : (c : Bool) → 1 ≤ one_if c → c ≡ true
active-one true le = refl
active-one false le = absurd (none le) where
  none : 1 ≤ 0 → ⊥
  none le = omega arith

-- what stands in a place is active
pub placed-active : (f : Frame) (s : State) (t : ℕ) → Kept f s → 1 ≤ places s.ready s.running t → is_active (thread_at s t).stage ≡ true
placed-active f s t kept some = active-one (is_active (thread_at s t).stage) (omega (arith, some, kept.placed t))

pub running-active : (f : Frame) (s : State) (core t : ℕ) → Kept f s → running_on s core ≡ Some t → is_active (thread_at s t).stage ≡ true
running-active f s core t kept runs = placed-active f s t kept (omega (arith, running-count s.running core t runs))

-- a thread's own row is written, and only its places change
active-here : (threads : List Thread) (t : ℕ) (row : Thread) → t < length threads → one_if (is_active (stage_at (slice_set threads t row) t)) ≡ one_if (is_active row.stage)
active-here threads t row there = ap (λ (r : Thread). one_if (is_active r.stage)) (here-set threads t row no_thread there)

active-other : (threads : List Thread) (t u : ℕ) (row : Thread) → u ≢ t → one_if (is_active (stage_at (slice_set threads t row) u)) ≡ one_if (is_active (stage_at threads u))
active-other threads t u row apart = ap (λ (r : Thread). one_if (is_active r.stage)) (other-set threads t u row no_thread apart)

placed-set : (threads : List Thread) (t : ℕ) (row : Thread) (ready now_ready : List ℕ) (running now_running : List (Option ℕ)) → one_if (is_active (stage_at (slice_set threads t row) t)) ≡ one_if (is_active row.stage)
    → ((u : ℕ) → places ready running u ≡ one_if (is_active (stage_at threads u))) → ((u : ℕ) → u ≢ t → places now_ready now_running u ≡ places ready running u) → places now_ready now_running t ≡ one_if (is_active row.stage)
    → (u : ℕ) → places now_ready now_running u ≡ one_if (is_active (stage_at (slice_set threads t row) u))
placed-set threads t row ready now_ready running now_running written before others here u = by_test (eqb t u) refl where
  by_test : (c : Bool) → eqb t u ≡ c → places now_ready now_running u ≡ one_if (is_active (stage_at (slice_set threads t row) u))
  by_test true is = subst (λ v. places now_ready now_running v ≡ one_if (is_active (stage_at (slice_set threads t row) v))) (eqb-true t u is) (here ∙ sym written)
  by_test false is = let apart : u ≢ t = λ e. eqb-false t u is (sym e) in others u apart ∙ before u ∙ sym (active-other threads t u row apart)

last-other : (ready : List ℕ) (t u : ℕ) → u ≢ t → tally (λ v. eqb v u) (ready ++ t ∷ []) ≡ tally (λ v. eqb v u) ready
last-other ready t u apart = omega (arith, tally-last (λ v. eqb v u) ready t, ap one_if (ne_eqb t u (λ e. apart (sym e))))

last-same : (ready : List ℕ) (t : ℕ) → tally (λ v. eqb v t) (ready ++ t ∷ []) ≡ tally (λ v. eqb v t) ready + 1
last-same ready t = omega (arith, tally-last (λ v. eqb v t) ready t, ap one_if (eq-eqb t t refl))

-- a thread that is in no place, but there, becomes active
pub active-kept : (f : Frame) (s : State) (t : ℕ) → is_active (thread_at s t).stage ≡ false → is_closed (thread_at s t).stage ≡ false → Kept f s → Kept f (active_state s t)
active-kept f s t idle open_stage kept = record {
  moment_is = kept.moment_is;
  live = kept.live;
  ends = kept.ends;
  count = length-set_at s.threads t (record (thread_at s t) { stage = Active }) ∙ kept.count;
  cores = kept.cores;
  placed = placed-set s.threads t (record (thread_at s t) { stage = Active }) s.ready (s.ready ++ t ∷ []) s.running s.running (active-here s.threads t (record (thread_at s t) { stage = Active }) (is-there s.threads t open_stage)) kept.placed
      (λ u apart. omega (arith, last-other s.ready t u apart)) (omega (arith, last-same s.ready t, kept.placed t, ap one_if idle));
  rows = rows-without f.low s.threads t (record (thread_at s t) { stage = Active }) s.armed kept.rows;
  bounded = all-filter (IsRowBounded f.now s.numbers) (λ r. not (is_alarm (OfThread t) r.alarm)) s.armed kept.bounded;
  due_few = omega (arith, kept.due_few, tally-filter (λ (row : ArmedRow Alarm). eqb row.due f.now) (λ r. not (is_alarm (OfThread t) r.alarm)) s.armed);
  single = λ other. omega (arith, kept.single other, tally-filter (λ (r : ArmedRow Alarm). is_alarm other r.alarm) (λ r. not (is_alarm (OfThread t) r.alarm)) s.armed);
  owned = all-filter (IsOwned s.timers) (λ r. not (is_alarm (OfThread t) r.alarm)) s.armed kept.owned;
  works_known = kept.works_known;
  fine = all-set (IsFineThread f.board f.now) s.threads t (record (thread_at s t) { stage = Active }) (refl, (fine-at f s t kept).1, λ is. (fine-at f s t kept).2 open_stage) kept.fine;
  nest_runs = kept.nest_runs;
  timers_fine = kept.timers_fine;
}

-- where no core that holds the lock over all cores runs the thread, those cores go on running
left-at : (running : List (Option ℕ)) (t core r : ℕ) → slice_index_or running core None ≡ Some r → is_number t (Some r) ≡ false → slice_index_or (map (λ x. if is_number t x then None else x) running) core None ≡ Some r
left-at running t core r runs apart = sym (map-at (λ x. if is_number t x then None else x) running core None) ∙ ap (λ x. if is_number t x then None else x) runs ∙ stay (is_number t (Some r)) apart where
  stay : (c : Bool) → c ≡ false → (if c then None else Some r) ≡ Some r
  stay c is = rw is refl

abbrev pub IsOffNest : Parts → ℕ → Type 0
IsOffNest p t = (n : Nest) → p.nest ≡ Some n → slice_index_or p.running n.core None ≡ Some t → ⊥

nest-left : (f : Frame) (s : State) (t : ℕ) → Kept f s → IsOffNest (parts s) t → IsNestRun f.board (without_core s t).running s.nest
nest-left f s t kept off n is = by_test (is_number t (Some r)) refl where
  r : ℕ
  r = (kept.nest_runs n is).0

  runs : slice_index_or s.running n.core None ≡ Some r
  runs = (kept.nest_runs n is).1

  by_test : (c : Bool) → is_number t (Some r) ≡ c → (q : ℕ) × (slice_index_or (without_core s t).running n.core None ≡ Some q) × (is_scriptless f.board q ≡ false)
  by_test true same = absurd (off n is (runs ∙ ap (λ x. Some x) (sym (eqb-true t r same))))
  by_test false apart = (r, left-at s.running t n.core r runs apart, (kept.nest_runs n is).2)

-- a thread whose own core isn't the one that holds the lock over all cores
pub off-nest : (f : Frame) (s : State) (core t : ℕ) → Kept f s → running_on s core ≡ Some t → is_nest_of core s.nest ≡ false → IsOffNest (parts s) t
off-nest f s core t kept runs free n is there = clash (sym (nest-is n (one-core f s t n.core core kept there runs)) ∙ (sym (ap (is_nest_of core) is) ∙ free)) where
  nest-is : (n : Nest) → n.core ≡ core → is_nest_of core (Some n) ≡ true
  nest-is n same = eq-eqb n.core core same

  clash : true ≡ false → ⊥
  clash e = cc

-- a ready thread is on no core
pub off-core : (f : Frame) (s : State) (t core : ℕ) → Kept f s → 1 ≤ tally (λ u. eqb u t) s.ready → running_on s core ≡ Some t → ⊥
off-core f s t core kept ready runs = omega (arith, kept.placed t, one (is_active (stage_at s.threads t)), ready, running-count s.running core t runs) where
  one : (c : Bool) → one_if c ≤ 1
  one true = omega arith
  one false = omega arith

active-waitless : (stage : Stage) → is_active stage ≡ true → is_waiting stage ≡ false
active-waitless Active is = refl
active-waitless (Waiting what number) is = absurd cc
active-waitless _ is = refl

-- a thread that doesn't wait has no row
no-rows : (low : ℕ) (threads : List Thread) (t : ℕ) (armed : List (ArmedRow Alarm)) → is_waiting (stage_at threads t) ≡ false → AllByRecursion (IsRowKept low threads) armed → tally (λ (row : ArmedRow Alarm). is_alarm (OfThread t) row.alarm) armed ≡ 0
no-rows low threads t [] idle all = refl
no-rows low threads t (row ∷ rows) idle all = omega (arith, here row.alarm all.0.1, no-rows low threads t rows idle all.1) where
  here : (alarm : Alarm) → IsWaited threads alarm → one_if (is_alarm (OfThread t) alarm) ≡ 0
  here (OfTimer name) waits = refl
  here (OfThread u) waits = by_test (eqb t u) refl where
    by_test : (c : Bool) → eqb t u ≡ c → one_if c ≡ 0
    by_test false is = refl
    by_test true is = absurd (clash (is_waiting (stage_at threads u)) waits (subst (λ v. is_waiting (stage_at threads v) ≡ false) (eqb-true t u is) idle))

no-works : (t : ℕ) (works : List (List ℕ)) → tally (is_work_of (OfThread t)) works ≡ 0
no-works t [] = refl
no-works t (work ∷ works) = omega (arith, no-works t works)

-- a running thread waits
pub waiting-kept : (f : Frame) (s : State) (t core : ℕ) (what : Awaited) (due : Option ℕ) → running_on s core ≡ Some t → IsOffNest (parts s) t → is_fine_awaited what ≡ true → IsAhead f.now due → Kept f s → Kept f (waiting_state s t what due)
waiting-kept f s t core what due runs off fine ahead kept = with_alarm-kept f joined (OfThread t) due alone refl waits ahead joined-kept where
  alone : standings (OfThread t) s.works s.armed ≡ 0
  alone = omega (arith, no-works t s.works, no-rows f.low s.threads t s.armed (active-waitless (thread_at s t).stage (running-active f s core t kept runs)) kept.rows)

  row : Thread
  row = record (thread_at s t) { stage = Waiting what s.numbers }

  joined : State
  joined = record s { threads = slice_set s.threads t row; running = (without_core s t).running; numbers = s.numbers + 1 }

  there : t < length s.threads
  there = is-there s.threads t (active-open (thread_at s t).stage (running-active f s core t kept runs))

  waits : is_waiting (stage_at (slice_set s.threads t row) t) ≡ true
  waits = ap (λ (r : Thread). is_waiting r.stage) (here-set s.threads t row no_thread there)

  still : (u : ℕ) → is_waiting (stage_at s.threads u) ≡ true → is_waiting (stage_at (slice_set s.threads t row) u) ≡ true
  still u is = by_test (eqb t u) refl where
    by_test : (c : Bool) → eqb t u ≡ c → is_waiting (stage_at (slice_set s.threads t row) u) ≡ true
    by_test true same = subst (λ v. is_waiting (stage_at (slice_set s.threads t row) v) ≡ true) (eqb-true t u same) waits
    by_test false apart = ap (λ (r : Thread). is_waiting r.stage) (other-set s.threads t u row no_thread (λ e. eqb-false t u apart (sym e))) ∙ is

  joined-kept : Kept f joined
  joined-kept = record {
    moment_is = kept.moment_is;
    live = kept.live;
    ends = kept.ends;
    count = length-set_at s.threads t row ∙ kept.count;
    cores = length-map s.running (λ r. if is_number t r then None else r) ∙ kept.cores;
    placed = placed-set s.threads t row s.ready s.ready s.running (without_core s t).running (active-here s.threads t row there) kept.placed
        (λ u apart. omega (arith, tally-left_other t u s.running apart)) (omega (arith, tally-left_same t s.running, kept.placed t, running-count s.running core t runs, one (is_active (stage_at s.threads t))));
    rows = rows-stay f.low s.threads (slice_set s.threads t row) s.armed still kept.rows;
    bounded = bounded-more f.now s.numbers s.armed kept.bounded;
    due_few = kept.due_few;
    single = kept.single;
    owned = kept.owned;
    works_known = kept.works_known;
    fine = all-set (IsFineThread f.board f.now) s.threads t row (fine, (fine-at f s t kept).1, λ is. (fine-at f s t kept).2 (active-open (thread_at s t).stage (running-active f s core t kept runs))) kept.fine;
    nest_runs = nest-left f s t kept off;
    timers_fine = kept.timers_fine;
  } where
    one : (c : Bool) → one_if c ≤ 1
    one true = omega arith
    one false = omega arith

one-most : (c : Bool) → one_if c ≤ 1
one-most true = omega arith
one-most false = omega arith

-- an active thread that runs on no core with the lock over all cores suspends
pub suspended-kept : (f : Frame) (s : State) (t : ℕ) → is_active (thread_at s t).stage ≡ true → IsOffNest (parts s) t → Kept f s → Kept f (suspended_state s t)
suspended-kept f s t active off kept = record {
  moment_is = kept.moment_is;
  live = kept.live;
  ends = kept.ends;
  count = length-set_at s.threads t row ∙ kept.count;
  cores = length-map s.running (λ r. if is_number t r then None else r) ∙ kept.cores;
  placed = placed-set s.threads t row s.ready (without_ready s t).ready s.running (without_core s t).running (active-here s.threads t row (is-there s.threads t (active-open (thread_at s t).stage active))) kept.placed
      (λ u apart. omega (arith, tally-left_other t u s.running apart, tally-without_other t u s.ready apart)) (omega (arith, tally-left_same t s.running, tally-without_same t s.ready));
  rows = rows-stay f.low s.threads (slice_set s.threads t row) s.armed still kept.rows;
  bounded = kept.bounded;
  due_few = kept.due_few;
  single = kept.single;
  owned = kept.owned;
  works_known = kept.works_known;
  fine = all-set (IsFineThread f.board f.now) s.threads t row (refl, (fine-at f s t kept).1, λ is. (fine-at f s t kept).2 (active-open (thread_at s t).stage active)) kept.fine;
  nest_runs = nest-left f s t kept off;
  timers_fine = kept.timers_fine;
} where
  row : Thread
  row = record (thread_at s t) { stage = Suspended }

  clash : (stage : Stage) → is_active stage ≡ true → is_waiting stage ≡ true → ⊥
  clash Active is waits = cc
  clash (Waiting what number) is waits = cc
  clash _ is waits = cc

  still : (u : ℕ) → is_waiting (stage_at s.threads u) ≡ true → is_waiting (stage_at (slice_set s.threads t row) u) ≡ true
  still u is = by_test (eqb t u) refl where
    by_test : (c : Bool) → eqb t u ≡ c → is_waiting (stage_at (slice_set s.threads t row) u) ≡ true
    by_test true same = absurd (clash (thread_at s t).stage active (subst (λ v. is_waiting (stage_at s.threads v) ≡ true) (sym (eqb-true t u same)) is))
    by_test false apart = ap (λ (r : Thread). is_waiting r.stage) (other-set s.threads t u row no_thread (λ e. eqb-false t u apart (sym e))) ∙ is

-- a thread that ends leaves its places, and the lock over all cores
ended-nest : (f : Frame) (s : State) (t : ℕ) → Kept f s → (o : Option Nest) → o ≡ s.nest → IsNestRun f.board (without_core s t).running (nest_without s t o)
ended-nest f s t kept None is n ends = absurd cc
ended-nest f s t kept (Some m) is n ends = by_test (is_number t (running_on s m.core)) refl ends where
  stays : (q : ℕ) × (running_on s m.core ≡ Some q) × (is_scriptless f.board q ≡ false) → is_number t (running_on s m.core) ≡ false → (r : ℕ) × (slice_index_or (without_core s t).running m.core None ≡ Some r) × (is_scriptless f.board r ≡ false)
  stays runs off = (runs.0, left-at s.running t m.core runs.0 runs.1 (ap (is_number t) (sym runs.1) ∙ off), runs.2)

  by_test : (c : Bool) → is_number t (running_on s m.core) ≡ c → (if c then None else Some m) ≡ Some n → (r : ℕ) × (slice_index_or (without_core s t).running n.core None ≡ Some r) × (is_scriptless f.board r ≡ false)
  by_test true off ends = absurd cc
  by_test false off ends = subst (λ (x : Nest). (r : ℕ) × (slice_index_or (without_core s t).running x.core None ≡ Some r) × (is_scriptless f.board r ≡ false)) (some-is m n ends) (stays (kept.nest_runs m (sym is)) off)

closed-here : (threads : List Thread) (t : ℕ) (row : Thread) → row.stage ≡ Closed → one_if (is_active (stage_at (slice_set threads t row) t)) ≡ one_if (is_active row.stage)
closed-here threads t row is = by_place (le_or_lt (length threads) t) where
  by_place : (length threads ≤ t) ⊎ (t < length threads) → one_if (is_active (stage_at (slice_set threads t row) t)) ≡ one_if (is_active row.stage)
  by_place (inl past) = ap (λ (r : Thread). one_if (is_active r.stage)) (past-end (slice_set threads t row) t no_thread (omega (arith, past, length-set_at threads t row))) ∙ sym (ap (λ stage. one_if (is_active stage)) is)
  by_place (inr there) = active-here threads t row there

pub withdrawn-kept : (f : Frame) (s : State) (t : ℕ) → Kept f s → Kept f (withdrawn_state s t)
withdrawn-kept f s t kept = record {
  moment_is = kept.moment_is;
  live = kept.live;
  ends = kept.ends;
  count = length-set_at s.threads t row ∙ kept.count;
  cores = length-map s.running (λ r. if is_number t r then None else r) ∙ kept.cores;
  placed = placed-set s.threads t row s.ready (without_ready s t).ready s.running (without_core s t).running (closed-here s.threads t row refl) kept.placed
      (λ u apart. omega (arith, tally-left_other t u s.running apart, tally-without_other t u s.ready apart)) (omega (arith, tally-left_same t s.running, tally-without_same t s.ready));
  rows = rows-without f.low s.threads t row s.armed kept.rows;
  bounded = all-filter (IsRowBounded f.now s.numbers) (λ r. not (is_alarm (OfThread t) r.alarm)) s.armed kept.bounded;
  due_few = omega (arith, kept.due_few, tally-filter (λ (row : ArmedRow Alarm). eqb row.due f.now) (λ r. not (is_alarm (OfThread t) r.alarm)) s.armed);
  single = λ other. omega (arith, kept.single other, tally-filter (λ (r : ArmedRow Alarm). is_alarm other r.alarm) (λ r. not (is_alarm (OfThread t) r.alarm)) s.armed);
  owned = all-filter (IsOwned s.timers) (λ r. not (is_alarm (OfThread t) r.alarm)) s.armed kept.owned;
  works_known = kept.works_known;
  fine = all-set (IsFineThread f.board f.now) s.threads t row (refl, tt, λ is. absurd cc) kept.fine;
  nest_runs = ended-nest f s t kept s.nest refl;
  timers_fine = kept.timers_fine;
} where
  row : Thread
  row = record (thread_at s t) { stage = Closed; retry = None }

-- other works
pub works-kept : (f : Frame) (s : State) (works : List (List ℕ)) → ((alarm : Alarm) → standings alarm works s.armed ≤ 1) → AllByRecursion (IsKnownWork s.timers) works → Kept f s → Kept f (record s { works = works })
works-kept f s works single known kept = record {
  moment_is = kept.moment_is;
  live = kept.live;
  ends = kept.ends;
  count = kept.count;
  cores = kept.cores;
  placed = kept.placed;
  rows = kept.rows;
  bounded = kept.bounded;
  due_few = kept.due_few;
  single = single;
  owned = kept.owned;
  works_known = known;
  fine = kept.fine;
  nest_runs = kept.nest_runs;
  timers_fine = kept.timers_fine;
}

-- moved threads go to the end of the ready list
pub reordered-kept : (f : Frame) (before s : State) → Kept f s → Kept f (reordered_state before s)
reordered-kept f before s kept = record {
  moment_is = kept.moment_is;
  live = kept.live;
  ends = kept.ends;
  count = kept.count;
  cores = kept.cores;
  placed = λ t. omega (arith, tally-split (λ u. eqb u t) (is_moved before s) s.ready, kept.placed t);
  rows = kept.rows;
  bounded = kept.bounded;
  due_few = kept.due_few;
  single = kept.single;
  owned = kept.owned;
  works_known = kept.works_known;
  fine = kept.fine;
  nest_runs = kept.nest_runs;
  timers_fine = kept.timers_fine;
}

at-length : (running : List (Option ℕ)) (core t : ℕ) → slice_index_or running core None ≡ Some t → core < length running
at-length running core t runs = by_place (le_or_lt (length running) core) where
  clash : (x : Option ℕ) → x ≡ None → x ≡ Some t → ⊥
  clash x nothing some = cc

  by_place : (length running ≤ core) ⊎ (core < length running) → core < length running
  by_place (inl past) = absurd (clash (slice_index_or running core None) (past-end running core None past) runs)
  by_place (inr there) = there

-- a core that holds the lock over all cores is one of the board
pub nest-core : (f : Frame) (s : State) (n : Nest) → Kept f s → s.nest ≡ Some n → n.core < f.board.cores
nest-core f s n kept is = omega (arith, at-length s.running n.core (kept.nest_runs n is).0 (kept.nest_runs n is).1, kept.cores)

nest-elsewhere : (b : PlainBoard) (running : List (Option ℕ)) (nest : Option Nest) (core : ℕ) (r : Option ℕ) → ((n : Nest) → nest ≡ Some n → n.core ≢ core) → IsNestRun b running nest → IsNestRun b (slice_set running core r) nest
nest-elsewhere b running nest core r apart runs n is = ((runs n is).0, other-set running core n.core r None (apart n is) ∙ (runs n is).1, (runs n is).2)

-- a free core takes a ready thread
pub run-kept : (f : Frame) (s : State) (core p : ℕ) → core < f.board.cores → running_on s core ≡ None → 1 ≤ tally (λ u. eqb u p) s.ready → Kept f s → Kept f (with_running s core p)
run-kept f s core p board_core free ready kept = record {
  moment_is = kept.moment_is;
  live = kept.live;
  ends = kept.ends;
  count = kept.count;
  cores = length-set_at s.running core (Some p) ∙ kept.cores;
  placed = placed;
  rows = kept.rows;
  bounded = kept.bounded;
  due_few = kept.due_few;
  single = kept.single;
  owned = kept.owned;
  works_known = kept.works_known;
  fine = kept.fine;
  nest_runs = nest-elsewhere f.board s.running s.nest core (Some p) (λ n is same. clash (running_on s n.core) (kept.nest_runs n is).0 (subst (λ c. running_on s c ≡ None) (sym same) free) (kept.nest_runs n is).1) kept.nest_runs;
  timers_fine = kept.timers_fine;
} where
  clash : (x : Option ℕ) (r : ℕ) → x ≡ None → x ≡ Some r → ⊥
  clash x r nothing some = cc

  inside : core < length s.running
  inside = omega (arith, board_core, kept.cores)

  none : (u : ℕ) → one_if (is_number u (slice_index_or s.running core None)) ≡ 0
  none u = ap (λ r. one_if (is_number u r)) free

  placed : (u : ℕ) → places (without_ready s p).ready (slice_set s.running core (Some p)) u ≡ one_if (is_active (stage_at s.threads u))
  placed u = by_test (eqb u p) refl where
    by_test : (c : Bool) → eqb u p ≡ c → places (without_ready s p).ready (slice_set s.running core (Some p)) u ≡ one_if (is_active (stage_at s.threads u))
    by_test true is = subst (λ v. places (without_ready s p).ready (slice_set s.running core (Some p)) v ≡ one_if (is_active (stage_at s.threads v))) (sym (eqb-true u p is))
        (omega (arith, tally-without_same p s.ready, tally-set (is_number p) s.running core (Some p) None inside, none p, ap one_if (eq-eqb p p refl), kept.placed p, one-most (is_active (stage_at s.threads p)), ready))
    by_test false apart = omega (arith, tally-without_other p u s.ready (eqb-false u p apart), tally-set (is_number u) s.running core (Some p) None inside, none u, ap one_if apart, kept.placed u)

-- a core takes a ready thread in place of its own, which goes to the front or the end of the ready list
swap-kept : (f : Frame) (s : State) (core r p : ℕ) (ready : List ℕ) → running_on s core ≡ Some r → is_nest_of core s.nest ≡ false → 1 ≤ tally (λ u. eqb u p) s.ready → ((u : ℕ) → tally (λ v. eqb v u) ready ≡ tally (λ v. eqb v u) s.ready + one_if (eqb r u)) → Kept f s
    → Kept f (with_running (record s { ready = ready }) core p)
swap-kept f s core r p ready runs free some put kept = record {
  moment_is = kept.moment_is;
  live = kept.live;
  ends = kept.ends;
  count = kept.count;
  cores = length-set_at s.running core (Some p) ∙ kept.cores;
  placed = placed;
  rows = kept.rows;
  bounded = kept.bounded;
  due_few = kept.due_few;
  single = kept.single;
  owned = kept.owned;
  works_known = kept.works_known;
  fine = kept.fine;
  nest_runs = nest-elsewhere f.board s.running s.nest core (Some p) (λ n is same. clash (sym (eq-eqb n.core core same) ∙ (sym (ap (is_nest_of core) is) ∙ free))) kept.nest_runs;
  timers_fine = kept.timers_fine;
} where
  clash : true ≡ false → ⊥
  clash e = cc

  inside : core < length s.running
  inside = at-length s.running core r runs

  was : (u : ℕ) → one_if (is_number u (slice_index_or s.running core None)) ≡ one_if (eqb u r)
  was u = ap (λ x. one_if (is_number u x)) runs

  apart_p : r ≢ p
  apart_p e = off-core f s p core kept some (runs ∙ ap (λ x. Some x) e)

  turned : (u : ℕ) → one_if (eqb r u) ≡ one_if (eqb u r)
  turned u = by_test (eqb u r) refl where
    by_test : (c : Bool) → eqb u r ≡ c → one_if (eqb r u) ≡ one_if c
    by_test true is = ap one_if (eq-eqb r u (sym (eqb-true u r is)))
    by_test false is = ap one_if (ne_eqb r u (λ e. eqb-false u r is (sym e)))

  placed : (u : ℕ) → places (filter (λ v. not (eqb v p)) ready) (slice_set s.running core (Some p)) u ≡ one_if (is_active (stage_at s.threads u))
  placed u = by_test (eqb u p) refl where
    by_test : (c : Bool) → eqb u p ≡ c → places (filter (λ v. not (eqb v p)) ready) (slice_set s.running core (Some p)) u ≡ one_if (is_active (stage_at s.threads u))
    by_test true is = subst (λ v. places (filter (λ w. not (eqb w p)) ready) (slice_set s.running core (Some p)) v ≡ one_if (is_active (stage_at s.threads v))) (sym (eqb-true u p is))
        (omega (arith, tally-without_same p ready, tally-set (is_number p) s.running core (Some p) None inside, was p, ap one_if (ne_eqb p r (λ e. apart_p (sym e))), ap one_if (eq-eqb p p refl), kept.placed p, one-most (is_active (stage_at s.threads p)), some))
    by_test false apart = omega (arith, tally-without_other p u ready (eqb-false u p apart), put u, turned u, tally-set (is_number u) s.running core (Some p) None inside, was u, ap one_if apart, kept.placed u)

pub preempt-kept : (f : Frame) (s : State) (core r p : ℕ) → running_on s core ≡ Some r → is_nest_of core s.nest ≡ false → 1 ≤ tally (λ u. eqb u p) s.ready → Kept f s → Kept f (with_running (preempted_state s r) core p)
preempt-kept f s core r p runs free some kept = by_mark (thread_at s r).marked where
  unmarked : Kept f (without_mark s r)
  unmarked = thread-kept f s r (record (thread_at s r) { marked = false }) refl (fine-at f s r kept) kept

  by_mark : (c : Bool) → Kept f (with_running (if c then with_ready_last (without_mark s r) r else with_ready_first (without_mark s r) r) core p)
  by_mark true = swap-kept f (without_mark s r) core r p (s.ready ++ r ∷ []) runs free some (λ u. omega (arith, tally-last (λ v. eqb v u) s.ready r)) unmarked
  by_mark false = swap-kept f (without_mark s r) core r p (r ∷ s.ready) runs free some (λ u. omega arith) unmarked
