-- A tick keeps what holds of a state: due rows fire, and none is left.
use Rattle.std.proofs.Common.{◌≡◌, ◌≢◌, ◌+◌, ◌-◌, ◌≤◌, ◌∷◌, [], ◌++◌, ℕ, zero, suc, List, Option, Some, None, Bool, true, false, not, cond, length, eqb, nat_lt, refl, sym, ap, ◌∙◌, subst, arith, eq-eqb, filter, bytes_eq, if◌then◌else◌}
use Rattle.std.specs.List.{AllByRecursion, fold}
use Rattle.std.proofs.lemmas.Slice.Eq.{bytes_eq-Decides}
use Rattle.rt_base.specs.declared.codes.Halt.{Halt}
use Rattle.rt_plain.specs.declared.line.Line.{Line}
use Rattle.rt_plain.specs.PlainBoard.{PlainBoard}
use Rattle.rt_plain.specs.kernel.State.{State, Thread, Timer, Device, Alarm, OfThread, OfTimer, ArmedRow, thread_at}
use Rattle.rt_plain.specs.kernel.Effects.{is_alarm, without_alarm, retry_wake_effect}
use Rattle.rt_plain.specs.kernel.Works.{with_work, work_waiter}
use Rattle.rt_plain.specs.kernel.TimerKinds.{is_soft}
use Rattle.rt_plain.specs.kernel.TimerCalls.{find_timer}
use Rattle.rt_plain.specs.kernel.DeviceCalls.{find_device, with_device, console_waiter, indication_effect, notice_effect, arrival_effect_at, arrival_effect, is_sending, sent, registered_devices, ring_after}
use Rattle.rt_plain.specs.kernel.Due.{put_by_number, by_number, due, timeout_code, timeout_effect, soft_timer_effect, fired_timer_effect, alarm_effect, fired_row_effect, due_rows_effect}
use Rattle.rt_plain.specs.kernel.Ticks.{thread_after_slice, with_slice_used, next_tick_state, alarms_effect, arrivals_now, deliveries, transmissions, with_until_halt, tick_effect}
use Rattle.rt_plain.specs.kernel.Sound.{is_waiting}
use Rattle.rt_plain.specs.kernel.Tally.{one_if, tally}
use Rattle.rt_plain.proofs.kernel.TallyLemmas.{tally-last, tally-filter, tally-dropped, all-weaker, all-append, all-passing, all-both}
use Rattle.rt_plain.specs.kernel.Kept.{Frame, Kept, is_owned, is_work_of, standings, IsKnownWork, IsFineThread, IsFineTimer, IsWaited, IsRowKept}
use Rattle.rt_plain.proofs.kernel.Invariant.{fine-at, fine-later, bounded-later, thread-kept, without_alarm-kept, works-kept}
use Rattle.rt_plain.proofs.kernel.WakeLemmas.{wake-kept, retry_wake-kept, console-waiter-waits, work-waiter-waits, each-kept, for-kept}
use Rattle.rt_plain.proofs.kernel.ObjectLemmas.{action-kept, found-owner, found-timer, found-name, sem_release-kept}
use Rattle.rt_plain.proofs.kernel.StatementLemmas.{if-effect, settled-kept}
use Rattle.std.proofs.lemmas.Bool.{eqb-false}

-- the same frame with fewer due rows
abbrev pub with_few : Frame → ℕ → Frame
with_few f few = record f { few = few }

pub few-kept : (f : Frame) (n : ℕ) (s : State) → tally (λ (row : ArmedRow Alarm). eqb row.due f.now) s.armed ≤ n → Kept f s → Kept (with_few f n) s
few-kept f n s few kept = record {
  moment_is = kept.moment_is;
  live = kept.live;
  ends = kept.ends;
  count = kept.count;
  cores = kept.cores;
  placed = kept.placed;
  rows = kept.rows;
  bounded = kept.bounded;
  due_few = few;
  single = kept.single;
  owned = kept.owned;
  works_known = kept.works_known;
  fine = kept.fine;
  nest_runs = kept.nest_runs;
  timers_fine = kept.timers_fine;
}

alarm-same : (alarm : Alarm) → is_alarm alarm alarm ≡ true
alarm-same (OfThread t) = eq-eqb t t refl
alarm-same (OfTimer name) = (bytes_eq-Decides name name).1 refl

-- dropping the rows of a due row's alarm leaves fewer due rows
abbrev pub DropsOne : ℕ → List (ArmedRow Alarm) → ArmedRow Alarm → Type 0
DropsOne now armed row = tally (λ (r : ArmedRow Alarm). eqb r.due now) (filter (λ (r : ArmedRow Alarm). not (is_alarm row.alarm r.alarm)) armed) + 1 ≤ tally (λ (r : ArmedRow Alarm). eqb r.due now) armed

drops-one : (now : ℕ) (armed : List (ArmedRow Alarm)) → AllByRecursion (λ row. eqb row.due now ≡ true → DropsOne now armed row) armed
drops-one now [] = tt
drops-one now (x ∷ xs) = (here, more xs (drops-one now xs)) where
  here : eqb x.due now ≡ true → DropsOne now (x ∷ xs) x
  here is = rw (alarm-same x.alarm, is) (omega (arith, tally-filter (λ (r : ArmedRow Alarm). eqb r.due now) (λ (r : ArmedRow Alarm). not (is_alarm x.alarm r.alarm)) xs))

  kept : (y : ArmedRow Alarm) → DropsOne now xs y → DropsOne now (x ∷ xs) y
  kept y drops = by_test (is_alarm y.alarm x.alarm) where
    by_test : (c : Bool) → tally (λ (r : ArmedRow Alarm). eqb r.due now) (cond (not c) (x ∷ filter (λ (r : ArmedRow Alarm). not (is_alarm y.alarm r.alarm)) xs) (filter (λ (r : ArmedRow Alarm). not (is_alarm y.alarm r.alarm)) xs)) + 1 ≤ one_if (eqb x.due now) + tally (λ (r : ArmedRow Alarm). eqb r.due now) xs
    by_test true = omega (arith, drops)
    by_test false = omega (arith, drops)

  more : (ys : List (ArmedRow Alarm)) → AllByRecursion (λ row. eqb row.due now ≡ true → DropsOne now xs row) ys → AllByRecursion (λ row. eqb row.due now ≡ true → DropsOne now (x ∷ xs) row) ys
  more [] all = tt
  more (y ∷ ys) all = (λ is. kept y (all.0 is), more ys all.1)

-- each row counts among those of its alarm
abbrev IsListed : List (ArmedRow Alarm) → ArmedRow Alarm → Type 0
IsListed armed row = 1 ≤ tally (λ (r : ArmedRow Alarm). is_alarm row.alarm r.alarm) armed

all-listed : (armed : List (ArmedRow Alarm)) → AllByRecursion (IsListed armed) armed
all-listed [] = tt
all-listed (x ∷ xs) = (omega (arith, ap one_if (alarm-same x.alarm)), all-weaker (IsListed xs) (IsListed (x ∷ xs)) xs (λ y is. omega (arith, is)) (all-listed xs))

-- a row that is due: it is one of its alarm's, with which it is dropped, and its thread waits
pub record IsDueRow (now : ℕ) (threads : List Thread) (armed : List (ArmedRow Alarm)) (row : ArmedRow Alarm) : Type 0 where
  pub listed : 1 ≤ tally (λ (r : ArmedRow Alarm). is_alarm row.alarm r.alarm) armed
  pub waits : IsWaited threads row.alarm
  pub drops : DropsOne now armed row

put-all : {A : Type 0} (P : ArmedRow A → Type 0) (row : ArmedRow A) (rows : List (ArmedRow A)) → P row → AllByRecursion P rows → AllByRecursion P (put_by_number row rows)
put-all P row [] here all = (here, tt)
put-all P row (r ∷ rs) here all = by_test (nat_lt row.number r.number) (put-all P row rs here all.1) where
  by_test : (c : Bool) → AllByRecursion P (put_by_number row rs) → AllByRecursion P (if c then row ∷ r ∷ rs else r ∷ put_by_number row rs)
  by_test true more = (here, all)
  by_test false more = (all.0, more)

number-all : {A : Type 0} (P : ArmedRow A → Type 0) (rows : List (ArmedRow A)) → AllByRecursion P rows → AllByRecursion P (by_number rows)
number-all P [] all = tt
number-all P (row ∷ rows) all = put-all P row (by_number rows) all.0 (number-all P rows all.1)

put-length : {A : Type 0} (row : ArmedRow A) (rows : List (ArmedRow A)) → length (put_by_number row rows) ≡ suc (length rows)
put-length row [] = refl
put-length row (r ∷ rs) = by_test (nat_lt row.number r.number) (put-length row rs) where
  by_test : (c : Bool) → length (put_by_number row rs) ≡ suc (length rs) → length (if c then row ∷ r ∷ rs else r ∷ put_by_number row rs) ≡ suc (suc (length rs))
  by_test true same = refl
  by_test false same = ap suc same

number-length : {A : Type 0} (rows : List (ArmedRow A)) → length (by_number rows) ≡ length rows
number-length [] = refl
number-length (row ∷ rows) = put-length row (by_number rows) ∙ ap suc (number-length rows)

pub filter-length : {A : Type 0} (p : A → Bool) (xs : List A) → length (filter p xs) ≡ tally p xs
filter-length p [] = refl
filter-length p (x ∷ xs) = by_test (p x) (filter-length p xs) where
  by_test : (c : Bool) → length (filter p xs) ≡ tally p xs → length (cond c (x ∷ filter p xs) (filter p xs)) ≡ one_if c + tally p xs
  by_test true same = omega (arith, same)
  by_test false same = omega (arith, same)

pub due-length : (f : Frame) (s : State) → Kept f s → length (due s) ≡ tally (λ (row : ArmedRow Alarm). eqb row.due f.now) s.armed
due-length f s kept = number-length (filter (λ row. eqb row.due s.moment) s.armed) ∙ filter-length (λ row. eqb row.due s.moment) s.armed ∙ ap (λ now. tally (λ (row : ArmedRow Alarm). eqb row.due now) s.armed) kept.moment_is

pub due-rows : (f : Frame) (s : State) → Kept f s → AllByRecursion (IsDueRow f.now s.threads s.armed) (due s)
due-rows f s kept = number-all (IsDueRow f.now s.threads s.armed) (filter (λ (row : ArmedRow Alarm). eqb row.due s.moment) s.armed)
    (all-passing (λ row. eqb row.due f.now ≡ true → IsDueRow f.now s.threads s.armed row) (IsDueRow f.now s.threads s.armed) (λ (row : ArmedRow Alarm). eqb row.due s.moment) s.armed (λ row passes is. is (ap (eqb row.due) (sym kept.moment_is) ∙ passes))
    (all-both (λ row. IsListed s.armed row × IsWaited s.threads row.alarm) (λ row. eqb row.due f.now ≡ true → DropsOne f.now s.armed row) _ s.armed (λ row held drops is. record { listed = held.0; waits = held.1; drops = drops is })
    (all-both (IsListed s.armed) (IsRowKept f.low s.threads) _ s.armed (λ row listed held. (listed, held.1)) (all-listed s.armed) kept.rows) (drops-one f.now s.armed)))

-- a due row fires
timed-out : (f : Frame) (s : State) (t : ℕ) → is_waiting (thread_at s t).stage ≡ true → Kept f s → Kept f (timeout_effect t s).state
timed-out f s t waits kept = wake-kept f s (timeout_code (thread_at s t).stage) t waits kept

-- a timer that is neither armed nor a work becomes one
work-more : (works : List (List ℕ)) (armed : List (ArmedRow Alarm)) (name : List ℕ) → standings (OfTimer name) works armed ≡ 0 → ((alarm : Alarm) → standings alarm works armed ≤ 1) → (alarm : Alarm) → standings alarm (works ++ name ∷ []) armed ≤ 1
work-more works armed name alone single (OfThread t) = omega (arith, tally-last (is_work_of (OfThread t)) works name, single (OfThread t))
work-more works armed name alone single (OfTimer n) = by_test (bytes_eq name n) refl where
  by_test : (c : Bool) → bytes_eq name n ≡ c → standings (OfTimer n) (works ++ name ∷ []) armed ≤ 1
  by_test true is = omega (arith, tally-last (is_work_of (OfTimer n)) works name, ap one_if is, subst (λ (m : List ℕ). standings (OfTimer m) works armed ≡ 0) ((bytes_eq-Decides name n).0 is) alone)
  by_test false is = omega (arith, tally-last (is_work_of (OfTimer n)) works name, ap one_if is, single (OfTimer n))

soft-kept : (f : Frame) (s : State) (name : List ℕ) → standings (OfTimer name) s.works s.armed ≡ 0 → is_owned s.timers (OfTimer name) ≡ true → Kept f s → Kept f (soft_timer_effect name s).state
soft-kept f s name alone owner kept = for-kept f retry_wake_effect (work_waiter (with_work s name)) (with_work s name) (λ t is. retry_wake-kept f (with_work s name) t (work-waiter-waits (with_work s name) t is) worked) worked where
  worked : Kept f (with_work s name)
  worked = works-kept f s (with_work s name).works (work-more s.works s.armed name alone kept.single) (all-append (IsKnownWork s.timers) s.works (name ∷ []) kept.works_known (owner, tt)) kept

fired-kept : (f : Frame) (s : State) (o : Option Timer) → ((timer : Timer) → o ≡ Some timer → IsFineTimer f.board timer × (is_owned s.timers (OfTimer timer.name) ≡ true) × (standings (OfTimer timer.name) s.works s.armed ≡ 0)) → Kept f s → Kept f (fired_timer_effect f.board o s).state
fired-kept f s None fine kept = kept
fired-kept f s (Some timer) fine kept = if-effect f (is_soft timer.kind) (soft_timer_effect timer.name s) _ (λ soft. soft-kept f s timer.name (fine timer refl).2 (fine timer refl).1 kept)
    (λ hard. action-kept f s (Line.Fire timer.name) timer (fine timer refl).0 (fine timer refl).1 (omega (arith, (fine timer refl).2)) kept)

alarm-kept : (f : Frame) (s : State) (alarm : Alarm) → IsWaited s.threads alarm → standings alarm s.works s.armed ≡ 0 → Kept f s → Kept f (alarm_effect f.board alarm s).state
alarm-kept f s (OfThread t) waits alone kept = timed-out f s t waits kept
alarm-kept f s (OfTimer name) waits alone kept = fired-kept f s (find_timer s name) (λ timer is. (found-timer f s name timer is kept, found-owner s name timer is, subst (λ (n : List ℕ). standings (OfTimer n) s.works s.armed ≡ 0) (sym (found-name s name timer is)) alone)) kept

pub row-kept : (f : Frame) (n : ℕ) (s : State) (row : ArmedRow Alarm) → IsDueRow f.now s.threads s.armed row → tally (λ (r : ArmedRow Alarm). eqb r.due f.now) s.armed ≤ suc n → Kept f s → Kept (with_few f n) (fired_row_effect f.board row s).state
row-kept f n s row is few kept = settled-kept (with_few f n) s (alarm_effect f.board row.alarm (without_alarm s row.alarm)) (alarm-kept (with_few f n) (without_alarm s row.alarm) row.alarm is.waits alone
    (few-kept f n (without_alarm s row.alarm) (omega (arith, is.drops, few)) (without_alarm-kept f s row.alarm kept))) where
      alone : standings row.alarm s.works (without_alarm s row.alarm).armed ≡ 0
      alone = omega (arith, kept.single row.alarm, is.listed, tally-dropped (λ (r : ArmedRow Alarm). is_alarm row.alarm r.alarm) s.armed)

-- all that are due fire
pub due-kept : (f : Frame) (n : ℕ) (s : State) → tally (λ (r : ArmedRow Alarm). eqb r.due f.now) s.armed ≤ n → Kept f s → Kept (with_few f 0) (due_rows_effect f.board n (due s) s).state
due-kept f zero s few kept = few-kept f 0 s few kept
due-kept f (suc n) s few kept = by_rows (due s) (due-length f s kept) (due-rows f s kept) (due-kept (with_few f n) n) where
  by_rows : (rows : List (ArmedRow Alarm)) → length rows ≡ tally (λ (r : ArmedRow Alarm). eqb r.due f.now) s.armed → AllByRecursion (IsDueRow f.now s.threads s.armed) rows
      → ((u : State) → tally (λ (r : ArmedRow Alarm). eqb r.due f.now) u.armed ≤ n → Kept (with_few f n) u → Kept (with_few f 0) (due_rows_effect f.board n (due u) u).state) → Kept (with_few f 0) (due_rows_effect f.board (suc n) rows s).state
  by_rows [] none all more = few-kept f 0 s (omega (arith, none)) kept
  by_rows (row ∷ rows) some all more = let fired : Kept (with_few f n) (fired_row_effect f.board row s).state = row-kept f n s row all.0 few kept in more (fired_row_effect f.board row s).state fired.due_few fired

pub same-fits : (n : ℕ) → n + 1 ≤ n + 1
same-fits n = omega arith

pub less-fits : (n : ℕ) → n ≤ n + 1
less-fits n = omega arith

-- between events: nothing is due any more
abbrev pub still : PlainBoard → ℕ → Frame
still b now = record { board = b; now = now; low = now + 1; few = 0; latest = b.until - 1; fits = same-fits now }

-- within a tick: nothing is due any more, and the machine may halt yet
abbrev pub fired : PlainBoard → ℕ → Frame
fired b now = record { board = b; now = now; low = now + 1; few = 0; latest = b.until; fits = same-fits now }

-- the next moment: what is due now may fire
abbrev pub firing : PlainBoard → ℕ → ℕ → Frame
firing b now few = record { board = b; now = now; low = now; few = few; latest = b.until; fits = less-fits now }

-- the moment rises, and what is armed may be due now
risen-kept : (b : PlainBoard) (now : ℕ) (s : State) → Kept (still b now) s → Kept (firing b (now + 1) (tally (λ (row : ArmedRow Alarm). eqb row.due (now + 1)) s.armed)) (record s { moment = s.moment + 1 })
risen-kept b now s kept = record {
  moment_is = ap (λ n. n + 1) kept.moment_is;
  live = λ some on. omega (arith, some, kept.live some on);
  ends = kept.ends;
  count = kept.count;
  cores = kept.cores;
  placed = kept.placed;
  rows = kept.rows;
  bounded = bounded-later now s.numbers s.armed kept.bounded;
  due_few = omega arith;
  single = kept.single;
  owned = kept.owned;
  works_known = kept.works_known;
  fine = fine-later b now s.threads kept.fine;
  nest_runs = kept.nest_runs;
  timers_fine = kept.timers_fine;
}

pub slice-fine : (b : PlainBoard) (now : ℕ) (row : Thread) → ((thread_after_slice row).stage ≡ row.stage) × (IsFineThread b now row → IsFineThread b now (thread_after_slice row))
slice-fine b now row = by_test (eqb (row.left - 1) 0) where
  by_test : (c : Bool) → let new : Thread = if c then record row { left = row.slice; marked = true } else record row { left = row.left - 1 } in (new.stage ≡ row.stage) × (IsFineThread b now row → IsFineThread b now new)
  by_test true = (refl, λ fine. fine)
  by_test false = (refl, λ fine. fine)

used-kept : (f : Frame) (s : State) (r : Option ℕ) → Kept f s → Kept f (with_slice_used s r)
used-kept f s None kept = kept
used-kept f s (Some t) kept = thread-kept f s t (thread_after_slice (thread_at s t)) (slice-fine f.board f.now (thread_at s t)).0 ((slice-fine f.board f.now (thread_at s t)).1 (fine-at f s t kept)) kept

pub fold-kept : (f : Frame) {A : Type 0} (step : State → A → State) → ((s : State) (x : A) → Kept f s → Kept f (step s x)) → (xs : List A) (s : State) → Kept f s → Kept f (fold step s xs)
fold-kept f step keeps [] s kept = kept
fold-kept f step keeps (x ∷ xs) s kept = fold-kept f step keeps xs (step s x) (keeps s x kept)

fold-armed : (xs : List (Option ℕ)) (s : State) → (fold with_slice_used s xs).armed ≡ s.armed
fold-armed [] s = refl
fold-armed (None ∷ xs) s = fold-armed xs s
fold-armed (Some t ∷ xs) s = fold-armed xs (with_slice_used s (Some t))

pub next-kept : (b : PlainBoard) (now : ℕ) (s : State) → Kept (still b now) s → Kept (firing b (now + 1) (tally (λ (row : ArmedRow Alarm). eqb row.due (now + 1)) (next_tick_state s).armed)) (next_tick_state s)
next-kept b now s kept = subst (λ (armed : List (ArmedRow Alarm)). Kept (firing b (now + 1) (tally (λ (row : ArmedRow Alarm). eqb row.due (now + 1)) armed)) (next_tick_state s)) (sym (fold-armed s.running (record s { moment = s.moment + 1 })))
    (fold-kept (firing b (now + 1) (tally (λ (row : ArmedRow Alarm). eqb row.due (now + 1)) s.armed)) with_slice_used (used-kept _) s.running (record s { moment = s.moment + 1 }) (risen-kept b now s kept))

-- nothing that is left is due
rows-later : (now : ℕ) (threads : List Thread) (armed : List (ArmedRow Alarm)) → tally (λ (row : ArmedRow Alarm). eqb row.due now) armed ≤ 0 → AllByRecursion (IsRowKept now threads) armed → AllByRecursion (IsRowKept (now + 1) threads) armed
rows-later now threads [] none all = tt
rows-later now threads (row ∷ rows) none all = ((later, all.0.1), rows-later now threads rows (omega (arith, none)) all.1) where
  apart : row.due ≢ now
  apart is = absurd (omega (arith, none, ap one_if (eq-eqb row.due now is)))

  later : now + 1 ≤ row.due
  later = omega (arith, all.0.0, apart)

settled-still : (b : PlainBoard) (now : ℕ) (s : State) → Kept (with_few (firing b now 0) 0) s → Kept (fired b now) s
settled-still b now s kept = record {
  moment_is = kept.moment_is;
  live = kept.live;
  ends = kept.ends;
  count = kept.count;
  cores = kept.cores;
  placed = kept.placed;
  rows = rows-later now s.threads s.armed kept.due_few kept.rows;
  bounded = kept.bounded;
  due_few = kept.due_few;
  single = kept.single;
  owned = kept.owned;
  works_known = kept.works_known;
  fine = kept.fine;
  nest_runs = kept.nest_runs;
  timers_fine = kept.timers_fine;
}

pub alarms-kept : (b : PlainBoard) (now : ℕ) (s : State) → Kept (still b now) s → Kept (fired b (now + 1)) (alarms_effect b (next_tick_state s)).state
alarms-kept b now s kept =
    let few : ℕ = tally (λ (row : ArmedRow Alarm). eqb row.due (now + 1)) (next_tick_state s).armed in
    let risen : Kept (firing b (now + 1) few) (next_tick_state s) = next-kept b now s kept in
    settled-still b (now + 1) (alarms_effect b (next_tick_state s)).state
    (due-kept (firing b (now + 1) few) (length (due (next_tick_state s))) (next_tick_state s) (omega (arith, due-length (firing b (now + 1) few) (next_tick_state s) risen)) risen)

-- what arrives
indicated-kept : (f : Frame) (s : State) (sem : Option (List ℕ)) → Kept f s → Kept f (indication_effect sem s).state
indicated-kept f s None kept = kept
indicated-kept f s (Some sem) kept = sem_release-kept f s sem kept

noticed-kept : (f : Frame) (s : State) (device : Device) → Kept f s → Kept f (notice_effect device s).state
noticed-kept f s device kept = if-effect f device.console _ _ (λ console. for-kept f retry_wake_effect (console_waiter s) s (λ t is. retry_wake-kept f s t (console-waiter-waits s t is) kept) kept) (λ serial. indicated-kept f s device.ind kept)

arrived-kept : (f : Frame) (s : State) (o : Option Device) (text : List ℕ) → Kept f s → Kept f (arrival_effect_at o text s).state
arrived-kept f s None text kept = kept
arrived-kept f s (Some device) text kept = noticed-kept f (with_device s (record device { rx = ring_after device text })) device kept

pub delivered-kept : (f : Frame) (s : State) → Kept f s → Kept f (deliveries s).state
delivered-kept f s kept = each-kept f arrival_effect (λ arrival u k. arrived-kept f u (find_device u arrival.device) arrival.text k) (arrivals_now s) _ kept

sent-kept : (f : Frame) (s : State) (device : Device) → Kept f s → Kept f (sent device s).state
sent-kept f s device kept = if-effect f (is_sending device) _ _ (λ is. kept) (λ is. kept)

transmitted-kept : (f : Frame) (s : State) → Kept f s → Kept f (transmissions s).state
transmitted-kept f s kept = each-kept f sent (λ device u k. sent-kept f u device k) (registered_devices s) s kept

until-kept : (b : PlainBoard) (now : ℕ) (s : State) → Kept (fired b now) s → Kept (still b now) (with_until_halt b s)
until-kept b now s kept = by_test (eqb s.moment b.until) refl where
  by_test : (c : Bool) → eqb s.moment b.until ≡ c → Kept (still b now) (if c then record s { halt = Some Halt.Until } else s)
  by_test true last = record {
    moment_is = kept.moment_is;
    live = λ some on. absurd cc;
    ends = λ halt is. until halt is;
    count = kept.count;
    cores = kept.cores;
    placed = kept.placed;
    rows = kept.rows;
    bounded = kept.bounded;
    due_few = kept.due_few;
    single = kept.single;
    owned = kept.owned;
    works_known = kept.works_known;
    fine = kept.fine;
    nest_runs = kept.nest_runs;
    timers_fine = kept.timers_fine;
  } where
    until : (halt : Halt) → Some Halt.Until ≡ Some halt → halt ≡ Halt.Until
    until halt is = cc
  by_test false later = record {
    moment_is = kept.moment_is;
    live = λ some on. let apart : s.moment ≢ b.until = eqb-false s.moment b.until later in omega (arith, kept.live some on, apart);
    ends = kept.ends;
    count = kept.count;
    cores = kept.cores;
    placed = kept.placed;
    rows = kept.rows;
    bounded = kept.bounded;
    due_few = kept.due_few;
    single = kept.single;
    owned = kept.owned;
    works_known = kept.works_known;
    fine = kept.fine;
    nest_runs = kept.nest_runs;
    timers_fine = kept.timers_fine;
  }

-- a tick
pub tick-kept : (b : PlainBoard) (now : ℕ) (s : State) → Kept (still b now) s → Kept (still b (now + 1)) (tick_effect b s).state
tick-kept b now s kept =
    let rung : State = (alarms_effect b (next_tick_state s)).state in
    until-kept b (now + 1) (transmissions (deliveries rung).state).state (transmitted-kept (fired b (now + 1)) (deliveries rung).state (delivered-kept (fired b (now + 1)) rung (alarms-kept b now s kept)))
