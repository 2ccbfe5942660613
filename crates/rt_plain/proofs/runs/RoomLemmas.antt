-- An event has no more lines than the room.
use Rattle.std.proofs.Common.{◌≡◌, ◌+◌, ◌-◌, ◌*◌, ◌≤◌, ◌∷◌, [], ◌++◌, ℕ, suc, List, Option, Some, None, Bool, true, false, not, ◌&&◌, is_some, length, eqb, refl, sym, ap, ◌∙◌, subst, arith, map, reverse, if◌then◌else◌, length-append, suc-mul, mul-le-mul_left, add-one, ◌≢◌, filter}
use Rattle.std.specs.List.{fold, AllByRecursion, list_any}
use Rattle.std.proofs.lemmas.List.{length-map, length-reverse}
use Rattle.rt_base.specs.declared.codes.Event.{Event}
use Rattle.rt_base.specs.declared.codes.Halt.{Halt}
use Rattle.rt_plain.specs.declared.board.Arrival.{Arrival}
use Rattle.rt_plain.specs.declared.board.TimerDef.{TimerDef}
use Rattle.rt_plain.specs.declared.entry.Entry.{Entry}
use Rattle.rt_plain.specs.declared.line.Line.{Line}
use Rattle.rt_plain.specs.PlainBoard.{PlainBoard}
use Rattle.rt_plain.specs.kernel.State.{State, Thread, Device, Arriving, thread_at, running_on, is_nest_of_other, OfTimer}
use Rattle.rt_plain.specs.kernel.Pick.{pick}
use Rattle.rt_plain.specs.kernel.Effects.{Effect, no_effect, with_alarm, name_of, with_ready_first, with_ready_last}
use Rattle.rt_plain.specs.kernel.DeviceCalls.{is_busy, registered_devices}
use Rattle.rt_plain.specs.kernel.PowerCalls.{sleep_mode}
use Rattle.rt_plain.specs.kernel.Statements.{statement_effect}
use Rattle.rt_plain.specs.kernel.Ticks.{tick_effect}
use Rattle.rt_plain.specs.kernel.Sleeps.{Did, Made, Same, Halted, ticks, sleep_length, stops_ticks, powered_devices, sleep_effect, sleep_did, may_sleep, awake_rest_did, halting_rest_did, nothing_comes, final_halt, rest_did}
use Rattle.rt_plain.specs.kernel.Steps.{happens, with_running, without_mark, preempted_state, with_running, is_preemptible, takes_from, preempt_did, did_of_effect, statement_did, busy_core_did, is_all_idle, free_core_did, core_did, unhalted_step_did, unhalted_tick_did}
use Rattle.rt_plain.specs.kernel.Opening.{new_sem, new_event, new_mutex, new_mailbox, new_queue, new_timer, new_device, new_console, new_arriving, arrival_moment, unstarted_state, with_auto_timer, open_state}
use Rattle.rt_plain.specs.kernel.Shown.{shown}
use Rattle.rt_plain.specs.runs.Runs.{IsMade, IsRun, thread_count, room}
use Rattle.rt_plain.specs.kernel.Sound.{is_waiting, IsProper, IsSized}
use Rattle.rt_plain.proofs.runs.RunLemmas.{IsRun-keeps}
use Rattle.rt_plain.specs.kernel.Tally.{tally, one_if}
use Rattle.rt_plain.proofs.kernel.TallyLemmas.{tally-length, tally-map, all-passing, all-filter, all-weaker}
use Rattle.rt_plain.specs.kernel.Kept.{Kept}
use Rattle.rt_plain.proofs.kernel.TickLemmas.{still}
use Rattle.rt_plain.proofs.kernel.StepLemmas.{KeptAt, KeptDid, event-kept, ticks-kept}
use Rattle.rt_plain.proofs.kernel.OpenLemmas.{opened-kept}
use Rattle.rt_plain.proofs.kernel.SkipLemmas.{skipped-ticks}
use Rattle.rt_plain.proofs.kernel.CostLemmas.{Few, Stays, Costs, waits, stays-same, stays-then, costs-more, costs-from, thread-costs, armed-one}
use Rattle.rt_plain.proofs.kernel.CallCosts.{HasFew, filter-fewer, other-costs}
use Rattle.rt_plain.proofs.kernel.StatementCosts.{counted, statement-cost}
use Rattle.rt_plain.proofs.kernel.TickCosts.{come_at, tick_cost, tick-cost, all-owned}
use Rattle.rt_plain.proofs.TestLemmas.{and-right}
use Rattle.std.proofs.Common.{AllPairs, Contains, get_or, bytes_eq, cond, eqb-true, leb-true}
use Rattle.std.proofs.lemmas.Slice.Eq.{bytes_eq-Decides}
use Rattle.std.proofs.lemmas.List.Folds.{list_any_at}
use Rattle.std.proofs.lemmas.List.Elements.{recursion_from_All}
use Rattle.rt_plain.specs.declared.board.DeviceDef.{DeviceDef}
use Rattle.rt_plain.specs.kernel.Shell.{console_name}
use Rattle.rt_plain.proofs.kernel.TickLemmas.{filter-length}

-- the sizes of a reached state
record IsSizedState (b : PlainBoard) (s : State) : Type 0 where
  threads : length s.threads ≡ thread_count b
  timers : length s.timers ≡ length b.timers
  devices : length s.devices ≡ 1 + length b.devices
  arrivals : (moment : ℕ) → come_at moment s ≤ 1 + length b.devices
  few : Few s

sized-on : (b : PlainBoard) (s u : State) → IsSizedState b s → Stays s u → IsSizedState b u
sized-on b s u sized stays = record {
  threads = stays.threads ∙ sized.threads;
  timers = stays.timers ∙ sized.timers;
  devices = stays.devices ∙ sized.devices;
  arrivals = λ moment. omega (arith, stays.arrivals moment, sized.arrivals moment);
  few = stays.few sized.few;
}

pub has-few : (b : PlainBoard) → IsSized b → HasFew b
has-few b sized = record { sem = sized.sem_limit; event = sized.event_limit; mutex = sized.mutex_limit }

-- what an event shows fits, it leaves sizes as they were, and it takes few numbers
abbrev FitsDid : PlainBoard → State → Did → Type 0
FitsDid b s (Made new lines) = (length lines ≤ room b) × Stays s new × (new.numbers ≤ s.numbers + 4 * room b)
FitsDid b s Same = Unit {0}
FitsDid b s (Halted halt) = Unit {0}

if-fits : (b : PlainBoard) (s : State) (c : Bool) (x y : Did) → (c ≡ true → FitsDid b s x) → (c ≡ false → FitsDid b s y) → FitsDid b s (if c then x else y)
if-fits b s true x y one other = one refl
if-fits b s false x y one other = other refl

-- each thread waits once
waits-few : (s : State) → waits s ≤ length s.threads
waits-few s = tally-length (λ (row : Thread). is_waiting row.stage) s.threads

costs-fit : (b : PlainBoard) (s new : State) (lines : List Line) (c : ℕ) → Costs s (record { state = new; lines = lines }) c → 2 * length s.threads + c ≤ room b → FitsDid b s (Made new lines)
costs-fit b s new lines c costs fits = (omega (arith, costs.lines, waits-few s, fits), costs.stays, omega (arith, costs.lines, costs.numbers, waits-few s, fits))

-- the numbers of the room
room-product : (rows threads : ℕ) → (rows + 1) * (2 * threads + 4) ≡ rows * (2 * threads + 4) + (2 * threads + 4)
room-product rows threads = omega (arith, add-one rows, suc-mul rows (2 * threads + 4))

rows-fit : (rows threads : ℕ) → rows * (threads + 4) ≤ rows * (2 * threads + 4)
rows-fit rows threads = mul-le-mul_left rows (omega arith)

four-fit : (rows threads : ℕ) → 4 * rows ≤ rows * (2 * threads + 4)
four-fit rows threads = omega (arith, mul-le-mul_left {m = 4} {n = 2 * threads + 4} rows (omega arith))

-- a number of lines that fits the room: that of a tick and a sleep, and that of a statement
tick-fits : (b : PlainBoard) (s : State) (c : ℕ) → IsSizedState b s → c ≤ 2 + 2 * length s.devices + tick_cost s → 2 * length s.threads + c ≤ room b
tick-fits b s c sized le = omega (arith, le, rows, sized.threads, sized.timers, sized.devices, sized.arrivals (s.moment + 1), rows-fit (thread_count b + length b.timers) (thread_count b), room-product (thread_count b + length b.timers) (thread_count b)) where
  rows : (length s.threads + length s.timers) * (length s.threads + 4) ≡ (thread_count b + length b.timers) * (thread_count b + 4)
  rows = ap (λ t. (t + length s.timers) * (t + 4)) sized.threads ∙ ap (λ m. (thread_count b + m) * (thread_count b + 4)) sized.timers

statement-fits : (b : PlainBoard) (s : State) (c : ℕ) → IsSizedState b s → c ≤ 260 + counted s + (length s.threads + 1) → 2 * length s.threads + c ≤ room b
statement-fits b s c sized le = omega (arith, le, sized.threads, sized.timers, sized.devices, four-fit (thread_count b + length b.timers) (thread_count b), room-product (thread_count b + length b.timers) (thread_count b))

-- a sleep
abbrev sleep_of : PlainBoard → ℕ → State → Effect → Did
sleep_of b d s rest = let e = sleep_effect b s rest (tick_effect b rest.state) in Made e.state (Line.Sleep (sleep_mode b s) d ∷ e.lines)

powered-few : (s : State) → length (powered_devices s) ≤ length s.devices
powered-few s = omega (arith, filter-fewer (λ (d : Device). d.pm) (registered_devices s), length-reverse s.devices)

slept-fits : (b : PlainBoard) (d n now : ℕ) (s : State) → IsSized b → IsSizedState b s → Kept (still b now) (record s { moment = s.moment + n }) → FitsDid b s (sleep_of b d s (no_effect (record s { moment = s.moment + n })))
slept-fits b d n now s board sized kept = (omega (arith, size, last.lines, waits-few s, tick-fits b later (2 + 2 * length s.devices + tick_cost later) later_sized (omega arith)), stays-then s later (tick_effect b later).state moved.stays last.stays, omega (arith, last.lines, last.numbers, waits-few later, tick-fits b later (2 + 2 * length s.devices + tick_cost later) later_sized (omega arith))) where
  later : State
  later = record s { moment = s.moment + n }

  moved : Costs s (no_effect later) 0
  moved = other-costs s later refl refl refl refl refl refl refl refl refl refl

  later_sized : IsSizedState b later
  later_sized = sized-on b s later sized moved.stays

  last : Costs later (tick_effect b later) (tick_cost later)
  last = tick-cost b now later (has-few b board) kept

  suspends : List Line
  suspends = map (λ (x : Device). Line.Suspend x.name) (powered_devices s)

  resumes : List Line
  resumes = map (λ (x : Device). Line.Resume x.name) (reverse (powered_devices s))

  size : length (Line.Sleep (sleep_mode b s) d ∷ (sleep_effect b s (no_effect later) (tick_effect b later)).lines) ≤ 2 + 2 * length s.devices + length (tick_effect b later).lines
  size = omega (arith, powered-few s, length-append ((suspends ++ []) ++ resumes) (Line.Tick (shown b (tick_effect b later).state.moment) ∷ (tick_effect b later).lines), length-append (suspends ++ []) resumes, length-append suspends [], length-map (powered_devices s) (λ (x : Device). Line.Suspend x.name), length-map (reverse (powered_devices s)) (λ (x : Device). Line.Resume x.name), length-reverse (powered_devices s))

sleep-fits : (b : PlainBoard) (now : ℕ) (s : State) → IsSized b → IsSizedState b s → Kept (still b now) s → is_all_idle s ≡ true → is_busy s ≡ false → 1 ≤ sleep_length b s → FitsDid b s (sleep_did b (sleep_length b s) s)
sleep-fits b now s board sized kept idle silent long = subst (λ (e : Effect). FitsDid b s (sleep_of b (sleep_length b s) s e)) (sym skipped) (slept-fits b (sleep_length b s) (sleep_length b s - 1) rest.0 s board sized later) where
  skipped : ticks b (sleep_length b s - 1) s ≡ no_effect (record s { moment = s.moment + (sleep_length b s - 1) })
  skipped = skipped-ticks b (sleep_length b s - 1) s idle silent (omega (arith, long))

  rest : KeptAt b (ticks b (sleep_length b s - 1) s).state
  rest = ticks-kept b (sleep_length b s - 1) now s kept

  later : Kept (still b rest.0) (record s { moment = s.moment + (sleep_length b s - 1) })
  later = subst (λ (e : Effect). Kept (still b rest.0) e.state) skipped rest.1

module _ (b : PlainBoard) (now : ℕ) (s : State) (some : 1 ≤ b.thresh) (board : IsSized b) (sized : IsSizedState b s) (kept : Kept (still b now) s) where
  halting-fits : (o : Option Halt) → is_all_idle s ≡ true → is_busy s ≡ false → FitsDid b s (halting_rest_did b o s)
  halting-fits (Some halt) idle silent = tt
  halting-fits None idle silent = if-fits b s (nothing_comes s) (Halted Halt.Quiet) (awake_rest_did b s) (λ is. tt) (λ is. if-fits b s (may_sleep b s) (sleep_did b (sleep_length b s) s) Same (λ may. sleep-fits b now s board sized kept idle silent (long may)) (λ may. tt)) where
    long : may_sleep b s ≡ true → 1 ≤ sleep_length b s
    long may = omega (arith, some, leb-true b.thresh (sleep_length b s) (and-right (stops_ticks (sleep_mode b s)) _ (and-right b.tickless _ may)))

  rest-fits : is_all_idle s ≡ true → FitsDid b s (rest_did b s)
  rest-fits idle = if-fits b s (is_busy s) Same (halting_rest_did b (final_halt (sleep_mode b s)) s) (λ is. tt) (λ silent. halting-fits (final_halt (sleep_mode b s)) idle silent)

  stated-fits : (core r : ℕ) → FitsDid b s (statement_did b s core r)
  stated-fits core r = by_lock (is_preemptible s core r) where
    unmarked : Costs s (no_effect (without_mark s r)) 0
    unmarked = thread-costs s r (record (thread_at s r) { marked = false }) refl

    free : State
    free = without_mark s r

    free_cost : Costs free (statement_effect b r core free) (260 + counted free + (length free.threads + 1))
    free_cost = statement-cost b free r core (has-few b board) (unmarked.stays.few sized.few)

    same : 260 + counted free + (length free.threads + 1) ≤ 260 + counted s + (length s.threads + 1)
    same = omega (arith, unmarked.stays.threads, unmarked.stays.timers, unmarked.stays.devices)

    by_lock : (c : Bool) → FitsDid b s (did_of_effect (statement_effect b r core (if c then free else s)))
    by_lock true = costs-fit b s (statement_effect b r core free).state (statement_effect b r core free).lines (260 + counted s + (length s.threads + 1))
        (costs-more s (statement_effect b r core free) (0 + (260 + counted free + (length free.threads + 1))) (260 + counted s + (length s.threads + 1)) (omega (arith, same)) (costs-from s free (statement_effect b r core free) 0 (260 + counted free + (length free.threads + 1)) unmarked free_cost))
        (statement-fits b s (260 + counted s + (length s.threads + 1)) sized (omega arith))
    by_lock false = costs-fit b s (statement_effect b r core s).state (statement_effect b r core s).lines (260 + counted s + (length s.threads + 1)) (statement-cost b s r core (has-few b board) sized.few) (statement-fits b s (260 + counted s + (length s.threads + 1)) sized (omega arith))

  -- a core takes a thread
  switched-fits : (u : State) (lines : List Line) → length lines ≤ 2 → Costs s (no_effect u) 0 → FitsDid b s (Made u lines)
  switched-fits u lines few costs = costs-fit b s u lines 2 (record { lines = omega (arith, costs.lines, few); numbers = omega (arith, costs.numbers); stays = costs.stays }) (statement-fits b s 2 sized (omega arith))

  preempted-costs : (core r p : ℕ) → Costs s (no_effect (with_running (preempted_state s r) core p)) 0
  preempted-costs core r p = by_mark (thread_at s r).marked where
    free : State
    free = without_mark s r

    by_mark : (c : Bool) → Costs s (no_effect (with_running (if c then with_ready_last free r else with_ready_first free r) core p)) 0
    by_mark true = costs-from s free (no_effect (with_running (with_ready_last free r) core p)) 0 0 (thread-costs s r (record (thread_at s r) { marked = false }) refl) (other-costs free (with_running (with_ready_last free r) core p) refl refl refl refl refl refl refl refl refl refl)
    by_mark false = costs-from s free (no_effect (with_running (with_ready_first free r) core p)) 0 0 (thread-costs s r (record (thread_at s r) { marked = false }) refl) (other-costs free (with_running (with_ready_first free r) core p) refl refl refl refl refl refl refl refl refl refl)

  busy-fits : (core r : ℕ) (p : Option ℕ) → FitsDid b s (busy_core_did b s core r p)
  busy-fits core r None = stated-fits core r
  busy-fits core r (Some p) = if-fits b s (is_preemptible s core r && takes_from s p r) (preempt_did s core r p) (statement_did b s core r) (λ takes. switched-fits (with_running (preempted_state s r) core p) (Line.Out (name_of s r) (not (thread_at s r).marked) ∷ Line.Run (name_of s p) ∷ []) (omega arith) (preempted-costs core r p)) (λ stays. stated-fits core r)

  free-fits : (core : ℕ) (p : Option ℕ) → FitsDid b s (free_core_did b s core p)
  free-fits core (Some p) = switched-fits (with_running s core p) (Line.Run (name_of s p) ∷ []) (omega arith) (other-costs s (with_running s core p) refl refl refl refl refl refl refl refl refl refl)
  free-fits core None = if-fits b s (eqb core 0 && is_all_idle s) (rest_did b s) Same (λ idle. rest-fits (and-right (eqb core 0) (is_all_idle s) idle)) (λ idle. tt)

  core-fits : (core : ℕ) (r : Option ℕ) → FitsDid b s (core_did b s core r)
  core-fits core None = free-fits core (pick s core)
  core-fits core (Some r) = busy-fits core r (pick s core)

  step-fits : (core : ℕ) (o : Option Halt) → FitsDid b s (unhalted_step_did b s core o)
  step-fits core (Some halt) = tt
  step-fits core None = if-fits b s (is_nest_of_other core s.nest) Same (core_did b s core (running_on s core)) (λ is. tt) (λ is. core-fits core (running_on s core))

  ticked-fits : (o : Option Halt) → FitsDid b s (unhalted_tick_did b s o)
  ticked-fits (Some halt) = tt
  ticked-fits None = if-fits b s (is_some s.nest) Same (did_of_effect (tick_effect b s)) (λ is. tt) (λ is. costs-fit b s (tick_effect b s).state (tick_effect b s).lines (tick_cost s) (tick-cost b now s (has-few b board) kept) (tick-fits b s (tick_cost s) sized (omega arith)))

  event-fits : (e : Event) → FitsDid b s (happens b s e)
  unfolding happens
  event-fits (Event.Step core) = step-fits core s.halt
  event-fits Event.Tick = ticked-fits s.halt

-- arrivals at devices that are there, at each once at a moment
tally-none : {X : Type 0} (p : X → Bool) (xs : List X) → AllByRecursion (λ x. p x ≡ false) xs → tally p xs ≡ 0
tally-none p [] all = refl
tally-none p (x ∷ xs) all = rw all.0 (omega (arith, tally-none p xs all.1))

named-once : (b : PlainBoard) (moment : ℕ) (name : List ℕ) (arrivals : List Arrival) → AllPairs (λ (one other : Arrival). arrival_moment b one ≡ arrival_moment b other → one.device ≢ other.device) arrivals → tally (λ (a : Arrival). bytes_eq name a.device) (filter (λ (a : Arrival). eqb (arrival_moment b a) moment) arrivals) ≤ 1
named-once b moment name [] pairs = omega arith
named-once b moment name (x ∷ xs) pairs = by_moment (eqb (arrival_moment b x) moment) refl (named-once b moment name xs (λ i j d less inside. pairs (suc i) (suc j) d (omega (arith, less)) (omega (arith, inside)))) where
  here : List Arrival
  here = filter (λ (a : Arrival). eqb (arrival_moment b a) moment) xs

  apart : AllByRecursion (λ (other : Arrival). arrival_moment b x ≡ arrival_moment b other → x.device ≢ other.device) xs
  apart = recursion_from_All (λ (other : Arrival). arrival_moment b x ≡ arrival_moment b other → x.device ≢ other.device) xs (λ k d inside. pairs 0 (suc k) d (omega arith) (omega (arith, inside)))

  others : eqb (arrival_moment b x) moment ≡ true → bytes_eq name x.device ≡ true → AllByRecursion (λ (a : Arrival). bytes_eq name a.device ≡ false) here
  others now named = all-passing (λ (other : Arrival). arrival_moment b x ≡ arrival_moment b other → x.device ≢ other.device) (λ (a : Arrival). bytes_eq name a.device ≡ false) (λ (a : Arrival). eqb (arrival_moment b a) moment) xs (λ a comes off. other_name a comes off (bytes_eq name a.device) refl) apart where
    other_name : (a : Arrival) → eqb (arrival_moment b a) moment ≡ true → (arrival_moment b x ≡ arrival_moment b a → x.device ≢ a.device) → (c : Bool) → bytes_eq name a.device ≡ c → bytes_eq name a.device ≡ false
    other_name a comes off false is = is
    other_name a comes off true is = absurd (off (eqb-true (arrival_moment b x) moment now ∙ sym (eqb-true (arrival_moment b a) moment comes)) (sym ((bytes_eq-Decides name x.device).0 named) ∙ (bytes_eq-Decides name a.device).0 is))

  by_moment : (c : Bool) → eqb (arrival_moment b x) moment ≡ c → tally (λ (a : Arrival). bytes_eq name a.device) here ≤ 1 → tally (λ (a : Arrival). bytes_eq name a.device) (cond c (x ∷ here) here) ≤ 1
  by_moment false later few = few
  by_moment true now few = by_name (bytes_eq name x.device) refl where
    by_name : (c : Bool) → bytes_eq name x.device ≡ c → one_if (bytes_eq name x.device) + tally (λ (a : Arrival). bytes_eq name a.device) here ≤ 1
    by_name false is = rw is (omega (arith, few))
    by_name true is = rw is (omega (arith, tally-none (λ (a : Arrival). bytes_eq name a.device) here (others now is)))

contained-any : (names : List (List ℕ)) (name : List ℕ) → Contains names name → list_any (λ n. bytes_eq n name) names ≡ true
contained-any names name contains = list_any_at (λ n. bytes_eq n name) names contains.0 name contains.1 ((bytes_eq-Decides (get_or names contains.0 name) name).1 contains.2)

arrivals-few : (b : PlainBoard) (moment : ℕ) → IsSized b → tally (λ (a : Arriving). eqb a.moment moment) (map (new_arriving b) b.arrivals) ≤ 1 + length b.devices
arrivals-few b moment sized = omega (
  arith,
  tally-map (λ (a : Arriving). eqb a.moment moment) (new_arriving b) b.arrivals,
  filter-length comes b.arrivals,
  length-map b.devices (λ (d : DeviceDef). d.name),
  all-owned (λ name (a : Arrival). bytes_eq name a.device) names (filter comes b.arrivals)
      (all-filter (λ (a : Arrival). list_any (λ n. bytes_eq n a.device) names ≡ true) comes b.arrivals (all-weaker (λ (a : Arrival). Contains names a.device) (λ (a : Arrival). list_any (λ n. bytes_eq n a.device) names ≡ true) b.arrivals (λ a is. contained-any names a.device is) (recursion_from_All (λ (a : Arrival). Contains names a.device) b.arrivals sized.known)))
      (λ name. named-once b moment name b.arrivals sized.once),
) where
  comes : Arrival → Bool
  comes a = eqb (arrival_moment b a) moment

  names : List (List ℕ)
  names = console_name ∷ map (λ (d : DeviceDef). d.name) b.devices

-- the sizes at the opening
auto-stays : (s : State) (defs : List TimerDef) → Stays s (fold with_auto_timer s defs)
auto-stays s [] = stays-same s
auto-stays s (def ∷ defs) = stays-then s (with_auto_timer s def) (fold with_auto_timer (with_auto_timer s def) defs) (by_start def.started) (auto-stays (with_auto_timer s def) defs) where
  by_start : (started : Bool) → Stays s (if started then with_alarm s (OfTimer def.name) (Some def.time) else s)
  by_start true = (armed-one s (OfTimer def.name) (Some def.time)).stays
  by_start false = stays-same s

new-length : {A B : Type 0} (make : A → B) (defs : List A) → length (reverse (map make defs)) ≡ length defs
new-length make defs = length-reverse (map make defs) ∙ length-map defs make

opened-sized : (b : PlainBoard) → IsProper b → IsSized b → IsSizedState b (open_state b)
unfolding open_state
opened-sized b proper board = record {
  threads = (opened-kept b proper).count;
  timers = timers;
  devices = devices;
  arrivals = arrivals;
  few = few;
} where
  started : State
  started = fold with_auto_timer (unstarted_state b) b.timers

  stays : Stays (unstarted_state b) started
  stays = auto-stays (unstarted_state b) b.timers

  timers : length (open_state b).timers ≡ length b.timers
  timers = stays.timers ∙ new-length new_timer b.timers

  devices : length (open_state b).devices ≡ 1 + length b.devices
  devices = omega (arith, stays.devices, length-reverse (new_console ∷ map new_device b.devices), length-map b.devices new_device)

  arrivals : (moment : ℕ) → come_at moment (open_state b) ≤ 1 + length b.devices
  arrivals moment = omega (arith, stays.arrivals moment, arrivals-few b moment board)

  first : Few (unstarted_state b)
  first = record { sems = omega (arith, new-length new_sem b.sems, board.sems); events = omega (arith, new-length new_event b.events, board.events); mutexes = omega (arith, new-length new_mutex b.mutexes, board.mutexes); mailboxes = omega (arith, new-length new_mailbox b.mailboxes, board.mailboxes); queues = omega (arith, new-length new_queue b.queues, board.queues) }

  few : Few (open_state b)
  few = let after : Few started = stays.few first in record { sems = after.sems; events = after.events; mutexes = after.mutexes; mailboxes = after.mailboxes; queues = after.queues }

made-stays : (b : PlainBoard) (s new : State) (lines : List Line) (did : Did) → did ≡ Made new lines → FitsDid b s did → (length lines ≤ room b) × Stays s new × (new.numbers ≤ s.numbers + 4 * room b)
made-stays b s new lines did is fits = subst (FitsDid b s) is fits

-- what a run keeps
abbrev KeptSized : PlainBoard → State → Type 0
KeptSized b s = KeptAt b s × IsSizedState b s

entry-sized : (b : PlainBoard) (old new : State) (e : Entry) → IsProper b → IsSized b → KeptSized b old → IsMade b old e new → KeptSized b new
entry-sized b old new e proper board kept made = (
  subst (KeptDid b) made.1 (event-kept b kept.0.0 old proper kept.0.1 e.event made.0),
  sized-on b old new kept.1 (made-stays b old new e.lines (happens b old e.event) made.1 (event-fits b kept.0.0 old proper.thresh board kept.1 kept.0.1 e.event)).1,
)

reached-sized : (b : PlainBoard) (journal : List Entry) (s : State) → IsProper b → IsSized b → IsRun b (open_state b) journal s → KeptSized b s
reached-sized b journal s proper board run = IsRun-keeps b (KeptSized b) (λ old new e kept made. entry-sized b old new e proper board kept made) (open_state b) s journal ((0, opened-kept b proper), opened-sized b proper board) run

-- an event's lines fit the room
pub lines-fit : (b : PlainBoard) (journal : List Entry) (s new : State) (event : Event) (lines : List Line) → IsProper b → IsSized b → IsRun b (open_state b) journal s → happens b s event ≡ Made new lines → length lines ≤ room b
lines-fit b journal s new event lines proper board run is = let kept : KeptSized b s = reached-sized b journal s proper board run in (made-stays b s new lines (happens b s event) is (event-fits b kept.0.0 s proper.thresh board kept.1 kept.0.1 event)).0

-- each entry takes few numbers
numbers-grow : (b : PlainBoard) (journal : List Entry) (old new : State) → IsProper b → IsSized b → KeptSized b old → IsRun b old journal new → new.numbers ≤ old.numbers + length journal * (4 * room b)
numbers-grow b [] old new proper board kept run = omega (arith, ap (λ (s : State). s.numbers) run)
numbers-grow b (e ∷ journal) old new proper board kept run =
    let made : (length e.lines ≤ room b) × Stays old run.0 × (run.0.numbers ≤ old.numbers + 4 * room b) = made-stays b old run.0 e.lines (happens b old e.event) run.1.1 (event-fits b kept.0.0 old proper.thresh board kept.1 kept.0.1 e.event) in
    omega (arith, made.2, suc-mul (length journal) (4 * room b), numbers-grow b journal run.0 new proper board (entry-sized b old run.0 e proper board kept run.1) run.2)

auto-numbers : (s : State) (defs : List TimerDef) → (fold with_auto_timer s defs).numbers ≤ s.numbers + length defs
auto-numbers s [] = omega arith
auto-numbers s (def ∷ defs) = omega (arith, by_start def.started, auto-numbers (with_auto_timer s def) defs) where
  by_start : (started : Bool) → (if started then with_alarm s (OfTimer def.name) (Some def.time) else s).numbers ≤ s.numbers + 1
  by_start true = omega arith
  by_start false = omega arith

opened-numbers : (b : PlainBoard) → (open_state b).numbers ≤ length b.timers
unfolding open_state
opened-numbers b = omega (arith, auto-numbers (unstarted_state b) b.timers)

pub numbers-few : (b : PlainBoard) (journal : List Entry) (s : State) → IsProper b → IsSized b → IsRun b (open_state b) journal s → s.numbers ≤ length b.timers + length journal * (4 * room b)
numbers-few b journal s proper board run = omega (arith, opened-numbers b, numbers-grow b journal (open_state b) s proper board ((0, opened-kept b proper), opened-sized b proper board) run)
