-- How many lines a tick shows.
use Rattle.std.proofs.Common.{◌-◌, ◌≡◌, ◌+◌, ◌*◌, ◌≤◌, ◌∷◌, [], ◌++◌, ℕ, zero, suc, List, Option, Some, None, Bool, true, false, not, ◌||◌, cond, length, eqb, refl, sym, ap, ◌∙◌, subst, arith, filter, map, if◌then◌else◌, length-append, suc-mul, mul-le-mul_right}
use Rattle.std.specs.List.{AllByRecursion, range_with_len, list_any, fold}
use Rattle.std.proofs.lemmas.List.{length-map, length-reverse}
use Rattle.std.proofs.lemmas.List.FromFn.{length-range_with_len}
use Rattle.std.proofs.lemmas.List.Folds.{list_any-append}
use Rattle.rt_plain.specs.declared.line.Line.{Line}
use Rattle.rt_plain.specs.PlainBoard.{PlainBoard}
use Rattle.rt_plain.specs.kernel.State.{State, Timer, Device, Arriving, Alarm, OfThread, OfTimer, ArmedRow, thread_at, Thread}
use Rattle.rt_plain.specs.kernel.Effects.{Effect, no_effect, line_effect, each_effect, is_alarm, without_alarm, retry_wake_effect, effect_for}
use Rattle.rt_plain.specs.kernel.TimerCalls.{find_timer}
use Rattle.rt_plain.specs.kernel.DeviceCalls.{find_device, with_device, console_waiter, indication_effect, notice_effect, arrival_effect_at, arrival_effect, is_sending, sent, registered_devices, ring_after}
use Rattle.rt_plain.specs.kernel.Due.{due, timeout_code, alarm_effect, fired_row_effect, due_rows_effect}
use Rattle.rt_plain.specs.kernel.Ticks.{thread_after_slice, with_slice_used, next_tick_state, alarms_effect, arrivals_now, deliveries, transmissions, with_until_halt, tick_effect}
use Rattle.rt_plain.specs.kernel.Tally.{one_if, tally}
use Rattle.rt_plain.proofs.kernel.TallyLemmas.{tally-filter, all-passing, all-both, tally-length}
use Rattle.rt_plain.specs.kernel.Kept.{Frame, Kept, stage_at, is_owned, IsRowKept, IsWaited, IsOwned}
use Rattle.rt_plain.proofs.kernel.Invariant.{waiting-open, is-there}
use Rattle.rt_plain.proofs.kernel.WakeLemmas.{console-waiter-waits}
use Rattle.rt_plain.proofs.runs.FuelLemmas.{range-among}
use Rattle.rt_plain.proofs.kernel.TickLemmas.{still, firing, with_few, IsDueRow, due-length, due-rows, row-kept, filter-length, next-kept, alarms-kept}
use Rattle.rt_plain.proofs.kernel.CostLemmas.{Stays, Costs, stays-then, costs-more, costs-none, costs-then, costs-from, thread-costs, wake-costs, wake-pays, retry_wake-costs, for-costs}
use Rattle.rt_plain.proofs.kernel.CallCosts.{HasFew, device-costs, other-costs, sem_release-costs, disarmed-cost}
use Rattle.rt_plain.proofs.kernel.WorkCosts.{fired-cost}
use Rattle.rt_plain.proofs.kernel.StatementCosts.{settled-cost}
use Rattle.rt_plain.proofs.TestLemmas.{or-first, or-second, clash}
use Rattle.rt_base.specs.declared.codes.Halt.{Halt}
use Rattle.std.specs.Prelude.{drop, take}

-- there are no more rows than threads and timers
length-split : {X : Type 0} (p : X → Bool) (xs : List X) → tally p xs + length (filter (λ x. not (p x)) xs) ≡ length xs
length-split p [] = refl
length-split p (x ∷ xs) = by_test (p x) (length-split p xs) where
  by_test : (c : Bool) → tally p xs + length (filter (λ y. not (p y)) xs) ≡ length xs → one_if c + tally p xs + length (cond (not c) (x ∷ filter (λ y. not (p y)) xs) (filter (λ y. not (p y)) xs)) ≡ suc (length xs)
  by_test true same = omega (arith, same)
  by_test false same = omega (arith, same)

-- each of xs is of one of the owners, and each owner has one at most
pub all-owned : {X N : Type 0} (is : N → X → Bool) (owners : List N) (xs : List X) → AllByRecursion (λ x. list_any (λ a. is a x) owners ≡ true) xs → ((a : N) → tally (is a) xs ≤ 1) → length xs ≤ length owners
all-owned is [] [] all single = omega arith
all-owned is [] (x ∷ xs) all single = absurd (clash false all.0 refl)
all-owned is (a ∷ owners) xs all single = omega (
  arith,
  length-split (is a) xs,
  single a,
  all-owned is owners (filter (λ x. not (is a x)) xs)
      (all-passing (λ x. list_any (λ c. is c x) (a ∷ owners) ≡ true) (λ x. list_any (λ c. is c x) owners ≡ true) (λ x. not (is a x)) xs (λ x passes found. later (is a x) (list_any (λ c. is c x) owners) passes found) all)
      (λ c. omega (arith, single c, tally-filter (is c) (λ x. not (is a x)) xs)),
) where
  later : (c d : Bool) → not c ≡ true → c || d ≡ true → d ≡ true
  later false d passes found = found
  later true d passes found = absurd cc

any-map : {X Y : Type 0} (p : Y → Bool) (g : X → Y) (xs : List X) → list_any p (map g xs) ≡ list_any (λ x. p (g x)) xs
any-map p g [] = refl
any-map p g (x ∷ xs) = ap (λ c. p (g x) || c) (any-map p g xs)

-- whose rows there may be
abbrev owners_of : State → List Alarm
owners_of s = map (λ t. OfThread t) (range_with_len 0 (length s.threads)) ++ map (λ (timer : Timer). OfTimer timer.name) s.timers

row-owner : (s : State) (alarm : Alarm) → IsWaited s.threads alarm → is_owned s.timers alarm ≡ true → list_any (λ a. is_alarm a alarm) (owners_of s) ≡ true
row-owner s (OfThread t) waiting owned = list_any-append (λ a. is_alarm a (OfThread t)) (map (λ u. OfThread u) (range_with_len 0 (length s.threads))) (map (λ (timer : Timer). OfTimer timer.name) s.timers)
    ∙ or-first _ _ (any-map (λ a. is_alarm a (OfThread t)) (λ u. OfThread u) (range_with_len 0 (length s.threads)) ∙ range-among 0 (length s.threads) t (omega arith) (omega (arith, is-there s.threads t (waiting-open (stage_at s.threads t) waiting))))
row-owner s (OfTimer name) waiting owned = list_any-append (λ a. is_alarm a (OfTimer name)) (map (λ u. OfThread u) (range_with_len 0 (length s.threads))) (map (λ (timer : Timer). OfTimer timer.name) s.timers)
    ∙ or-second _ _ (any-map (λ a. is_alarm a (OfTimer name)) (λ (timer : Timer). OfTimer timer.name) s.timers ∙ owned)

pub armed-few : (f : Frame) (s : State) → Kept f s → length s.armed ≤ length s.threads + length s.timers
armed-few f s kept = omega (
  arith,
  all-owned (λ a (row : ArmedRow Alarm). is_alarm a row.alarm) (owners_of s) s.armed (all-both (IsRowKept f.low s.threads) (IsOwned s.timers) (λ (row : ArmedRow Alarm). list_any (λ a. is_alarm a row.alarm) (owners_of s) ≡ true) s.armed (λ row held owned. row-owner s row.alarm held.1 owned) kept.rows kept.owned) (λ a. omega (arith, kept.single a)),
  length-append (map (λ t. OfThread t) (range_with_len 0 (length s.threads))) (map (λ (timer : Timer). OfTimer timer.name) s.timers),
  length-map (range_with_len 0 (length s.threads)) (λ t. OfThread t),
  length-map s.timers (λ (timer : Timer). OfTimer timer.name),
  length-range_with_len 0 (length s.threads),
)

due-few : (f : Frame) (s : State) → Kept f s → length (due s) ≤ length s.threads + length s.timers
due-few f s kept = omega (arith, due-length f s kept, tally-length (λ (row : ArmedRow Alarm). eqb row.due f.now) s.armed, armed-few f s kept)

-- a due row
pub alarm-cost : (b : PlainBoard) (s : State) (alarm : Alarm) → IsWaited s.threads alarm → HasFew b → Costs s (alarm_effect b alarm s) 2
alarm-cost b s (OfThread t) waiting has = record { lines = omega (arith, wake-pays s (timeout_code (thread_at s t).stage) t waiting); numbers = omega arith; stays = (wake-costs s (timeout_code (thread_at s t).stage) t waiting).stays }
alarm-cost b s (OfTimer name) waiting has = fired-cost b s (find_timer s name) has

row-cost : (b : PlainBoard) (s : State) (row : ArmedRow Alarm) → IsWaited s.threads row.alarm → HasFew b → Costs s (fired_row_effect b row s) (length s.threads + 4)
row-cost b s row waiting has =
    let free : State = without_alarm s row.alarm in
    costs-more s (fired_row_effect b row s) (2 + (length s.threads + 1)) (length s.threads + 4) (omega arith)
    (settled-cost b s s (alarm_effect b row.alarm free) 2 (costs-from s free (alarm_effect b row.alarm free) 0 2 (disarmed-cost s row.alarm) (alarm-cost b free row.alarm waiting has)))

due-cost : (f : Frame) (n : ℕ) (s : State) → HasFew f.board → tally (λ (r : ArmedRow Alarm). eqb r.due f.now) s.armed ≤ n → Kept f s → Costs s (due_rows_effect f.board n (due s) s) (n * (length s.threads + 4))
due-cost f zero s has few kept = costs-more s (no_effect s) 0 (0 * (length s.threads + 4)) (omega arith) (costs-none s)
due-cost f (suc n) s has few kept = by_rows (due s) (due-rows f s kept) (due-cost (with_few f n) n) where
  by_rows : (rows : List (ArmedRow Alarm)) → AllByRecursion (IsDueRow f.now s.threads s.armed) rows
      → ((u : State) → HasFew f.board → tally (λ (r : ArmedRow Alarm). eqb r.due f.now) u.armed ≤ n → Kept (with_few f n) u → Costs u (due_rows_effect f.board n (due u) u) (n * (length u.threads + 4))) → Costs s (due_rows_effect f.board (suc n) rows s) (suc n * (length s.threads + 4))
  by_rows [] all more = costs-more s (no_effect s) 0 (suc n * (length s.threads + 4)) (omega arith) (costs-none s)
  by_rows (row ∷ rows) all more =
      let fired : Effect = fired_row_effect f.board row s in
      let held : Kept (with_few f n) fired.state = row-kept f n s row all.0 few kept in
      let one : Costs s fired (length s.threads + 4) = row-cost f.board s row all.0.waits has in
      let rest : Costs fired.state (due_rows_effect f.board n (due fired.state) fired.state) (n * (length fired.state.threads + 4)) = more fired.state has held.due_few held in
      let told : Costs fired.state (due_rows_effect f.board n (due fired.state) fired.state) (n * (length s.threads + 4)) = subst (λ t. Costs fired.state (due_rows_effect f.board n (due fired.state) fired.state) (n * (t + 4))) one.stays.threads rest in
      costs-more s (due_rows_effect f.board (suc n) (row ∷ rows) s) (length s.threads + 4 + n * (length s.threads + 4)) (suc n * (length s.threads + 4)) (omega (arith, suc-mul n (length s.threads + 4))) (costs-then s fired (due_rows_effect f.board n (due fired.state) fired.state) (length s.threads + 4) (n * (length s.threads + 4)) one told)

-- the moment rises and slices fall
slice-same : (row : Thread) → (thread_after_slice row).stage ≡ row.stage
slice-same row = by_test (eqb (row.left - 1) 0) where
  by_test : (c : Bool) → (if c then record row { left = row.slice; marked = true } else record row { left = row.left - 1 }).stage ≡ row.stage
  by_test true = refl
  by_test false = refl

used-cost : (s : State) (r : Option ℕ) → Costs s (no_effect (with_slice_used s r)) 0
used-cost s None = costs-none s
used-cost s (Some t) = thread-costs s t (thread_after_slice (thread_at s t)) (slice-same (thread_at s t))

folded-cost : (xs : List (Option ℕ)) (s : State) → Costs s (no_effect (fold with_slice_used s xs)) 0
folded-cost [] s = costs-none s
folded-cost (x ∷ xs) s = costs-from s (with_slice_used s x) (no_effect (fold with_slice_used (with_slice_used s x) xs)) 0 0 (used-cost s x) (folded-cost xs (with_slice_used s x))

risen-cost : (s : State) → Costs s (no_effect (next_tick_state s)) 0
risen-cost s = let later : State = record s { moment = s.moment + 1 } in costs-from s later (no_effect (next_tick_state s)) 0 0 (other-costs s later refl refl refl refl refl refl refl refl refl refl) (folded-cost s.running later)

alarms-cost : (b : PlainBoard) (now : ℕ) (s : State) → HasFew b → Kept (still b now) s → Costs s (alarms_effect b (next_tick_state s)) ((length s.threads + length s.timers) * (length s.threads + 4))
alarms-cost b now s has kept = costs-more s (alarms_effect b later) (0 + length (due later) * (length later.threads + 4)) ((length s.threads + length s.timers) * (length s.threads + 4)) enough (costs-from s later (alarms_effect b later) 0 (length (due later) * (length later.threads + 4)) risen rows_cost) where
  later : State
  later = next_tick_state s

  few : ℕ
  few = tally (λ (row : ArmedRow Alarm). eqb row.due (now + 1)) later.armed

  held : Kept (firing b (now + 1) few) later
  held = next-kept b now s kept

  risen : Costs s (no_effect later) 0
  risen = risen-cost s

  rows_cost : Costs later (alarms_effect b later) (length (due later) * (length later.threads + 4))
  rows_cost = due-cost (firing b (now + 1) few) (length (due later)) later has (omega (arith, due-length (firing b (now + 1) few) later held)) held

  short : length (due later) ≤ length s.threads + length s.timers
  short = omega (arith, due-few (firing b (now + 1) few) later held, risen.stays.threads, risen.stays.timers)

  same : length (due later) * (length later.threads + 4) ≡ length (due later) * (length s.threads + 4)
  same = ap (λ n. length (due later) * (n + 4)) risen.stays.threads

  enough : 0 + length (due later) * (length later.threads + 4) ≤ (length s.threads + length s.timers) * (length s.threads + 4)
  enough = omega (arith, same, mul-le-mul_right {m = length (due later)} {n = length s.threads + length s.timers} (length s.threads + 4) short)

-- what costs a line each time
each-line : {A : Type 0} (act : A → State → Effect) → ((x : A) (s : State) → Costs s (act x s) 1) → (xs : List A) (s : State) → Costs s (each_effect act xs s) (length xs)
each-line act costs [] s = costs-none s
each-line act costs (x ∷ xs) s = costs-more s (each_effect act (x ∷ xs) s) (1 + length xs) (suc (length xs)) (omega arith) (costs-then s (act x s) (each_effect act xs (act x s).state) 1 (length xs) (costs x s) (each-line act costs xs (act x s).state))

indicated-cost : (s : State) (sem : Option (List ℕ)) → Costs s (indication_effect sem s) 0
indicated-cost s None = costs-none s
indicated-cost s (Some sem) = sem_release-costs s sem

noticed-cost : (s : State) (device : Device) → Costs s (notice_effect device s) 0
noticed-cost s device = by_kind device.console where
  by_kind : (c : Bool) → Costs s (if c then effect_for retry_wake_effect (console_waiter s) s else indication_effect device.ind s) 0
  by_kind true = for-costs retry_wake_effect (console_waiter s) s (λ t is. retry_wake-costs s t (console-waiter-waits s t is))
  by_kind false = indicated-cost s device.ind

arrived-cost : (s : State) (o : Option Device) (text : List ℕ) → Costs s (arrival_effect_at o text s) 1
arrived-cost s None text = costs-more s (no_effect s) 0 1 (omega arith) (costs-none s)
arrived-cost s (Some device) text =
    let held : State = with_device s (record device { rx = ring_after device text }) in
    let one : Costs s (no_effect held) 0 = device-costs s (record device { rx = ring_after device text }) in
    let two : Costs held (notice_effect device held) 0 = noticed-cost held device in
    record { lines = omega (arith, one.lines, two.lines); numbers = omega (arith, one.numbers, two.numbers); stays = stays-then s held (notice_effect device held).state one.stays two.stays }

-- how much comes at a moment
abbrev pub come_at : ℕ → State → ℕ
come_at moment s = tally (λ (a : Arriving). eqb a.moment moment) s.arrivals

delivered-cost : (s : State) → Costs s (deliveries s) (come_at s.moment s)
delivered-cost s = record {
  lines = omega (arith, each.lines, filter-length (λ (a : Arriving). eqb a.moment s.moment) s.arrivals);
  numbers = omega (arith, each.numbers, filter-length (λ (a : Arriving). eqb a.moment s.moment) s.arrivals);
  stays = stays-then s rest (deliveries s).state left each.stays;
} where
  rest : State
  rest = record s { arrivals = filter (λ (a : Arriving). not (eqb a.moment s.moment)) s.arrivals }

  left : Stays s rest
  left = record { threads = refl; arrivals = λ moment. tally-filter (λ (a : Arriving). eqb a.moment moment) (λ (a : Arriving). not (eqb a.moment s.moment)) s.arrivals; devices = refl; timers = refl; few = λ few. record { sems = few.sems; events = few.events; mutexes = few.mutexes; mailboxes = few.mailboxes; queues = few.queues } }

  each : Costs rest (deliveries s) (length (arrivals_now s))
  each = each-line arrival_effect (λ arrival u. arrived-cost u (find_device u arrival.device) arrival.text) (arrivals_now s) rest

sent-cost : (s : State) (device : Device) → Costs s (sent device s) 1
sent-cost s device = by_test (is_sending device) where
  left : Device
  left = record device { tx = drop device.rate device.tx }

  by_test : (c : Bool) → Costs s (if c then line_effect (with_device s left) (Line.Tx device.name (take device.rate device.tx)) else no_effect s) 1
  by_test true = record { lines = omega (arith, (device-costs s left).lines); numbers = omega (arith, (device-costs s left).numbers); stays = (device-costs s left).stays }
  by_test false = costs-more s (no_effect s) 0 1 (omega arith) (costs-none s)

transmitted-cost : (s : State) → Costs s (transmissions s) (length s.devices)
transmitted-cost s = costs-more s (transmissions s) (length (registered_devices s)) (length s.devices) (omega (arith, length-reverse s.devices)) (each-line sent (λ device u. sent-cost u device) (registered_devices s) s)

until-cost : (b : PlainBoard) (s : State) → Costs s (no_effect (with_until_halt b s)) 0
until-cost b s = by_test (eqb s.moment b.until) where
  by_test : (c : Bool) → Costs s (no_effect (if c then record s { halt = Some Halt.Until } else s)) 0
  by_test true = other-costs s (record s { halt = Some Halt.Until }) refl refl refl refl refl refl refl refl refl refl
  by_test false = costs-none s

-- a tick: the rows that are due, what arrives and what the devices send
abbrev pub tick_cost : State → ℕ
tick_cost s = (length s.threads + length s.timers) * (length s.threads + 4) + come_at (s.moment + 1) s + length s.devices

pub tick-cost : (b : PlainBoard) (now : ℕ) (s : State) → HasFew b → Kept (still b now) s → Costs s (tick_effect b s) (tick_cost s)
tick-cost b now s has kept = record {
  lines = omega (
    arith,
    fired.lines,
    came.lines,
    gone.lines,
    last.lines,
    come,
    gone_few,
    length-append (e.lines ++ (deliveries e.state).lines) (transmissions (deliveries e.state).state).lines,
    length-append e.lines (deliveries e.state).lines,
    length-append ((e.lines ++ (deliveries e.state).lines) ++ (transmissions (deliveries e.state).state).lines) (no_effect (with_until_halt b (transmissions (deliveries e.state).state).state)).lines,
  );
  numbers = omega (
    arith,
    fired.numbers,
    came.numbers,
    gone.numbers,
    last.numbers,
    come,
    gone_few,
    length-append (e.lines ++ (deliveries e.state).lines) (transmissions (deliveries e.state).state).lines,
    length-append e.lines (deliveries e.state).lines,
    length-append ((e.lines ++ (deliveries e.state).lines) ++ (transmissions (deliveries e.state).state).lines) (no_effect (with_until_halt b (transmissions (deliveries e.state).state).state)).lines,
  );
  stays = stays-then s e.state (tick_effect b s).state fired.stays (stays-then e.state (deliveries e.state).state (tick_effect b s).state came.stays (stays-then (deliveries e.state).state (transmissions (deliveries e.state).state).state (tick_effect b s).state gone.stays last.stays));
} where
  e : Effect
  e = alarms_effect b (next_tick_state s)

  fired : Costs s e ((length s.threads + length s.timers) * (length s.threads + 4))
  fired = alarms-cost b now s has kept

  came : Costs e.state (deliveries e.state) (come_at e.state.moment e.state)
  came = delivered-cost e.state

  gone : Costs (deliveries e.state).state (transmissions (deliveries e.state).state) (length (deliveries e.state).state.devices)
  gone = transmitted-cost (deliveries e.state).state

  last : Costs (transmissions (deliveries e.state).state).state (no_effect (with_until_halt b (transmissions (deliveries e.state).state).state)) 0
  last = until-cost b (transmissions (deliveries e.state).state).state

  moment_is : e.state.moment ≡ s.moment + 1
  moment_is = (alarms-kept b now s kept).moment_is ∙ ap (λ n. n + 1) (sym kept.moment_is)

  come : come_at e.state.moment e.state ≤ come_at (s.moment + 1) s
  come = subst (λ t. come_at t e.state ≤ come_at (s.moment + 1) s) (sym moment_is) (fired.stays.arrivals (s.moment + 1))

  gone_few : length (deliveries e.state).state.devices ≡ length s.devices
  gone_few = came.stays.devices ∙ fired.stays.devices
