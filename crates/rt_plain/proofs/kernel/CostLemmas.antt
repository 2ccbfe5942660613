-- How many lines actions show. Each waiting thread that wakes pays for two lines.
use Rattle.std.proofs.Common.{◌≡◌, ◌≢◌, ◌+◌, ◌*◌, ◌≤◌, ◌∷◌, [], ◌++◌, ℕ, zero, suc, List, Option, Some, None, Bool, true, false, length, eqb, refl, ap, ◌∙◌, arith, slice_index_or, slice_set, length-append}
use Rattle.std.specs.List.{AllByRecursion}
use Rattle.rt_base.specs.declared.codes.Code.{Code}
use Rattle.rt_base.specs.declared.codes.WaitOrder.{WaitOrder}
use Rattle.rt_plain.specs.declared.line.Line.{Line}
use Rattle.rt_plain.specs.kernel.State.{State, Active, Waiting, Suspended, Awaited, Thread, Alarm, OfThread, no_thread, thread_at, with_thread, Closed, Sem, Device, EventObj, Timer, Mutex, Mailbox, MsgQueue, Arriving}
use Rattle.rt_plain.specs.kernel.Effects.{Effect, no_effect, line_effect, each_effect, with_alarm, waiting_state, active_state, wake_effect, retry_wake_effect, retry_of, due_of, effect_for, name_of, without_core}
use Rattle.rt_plain.specs.kernel.Waiting.{first_waiter, takes_mutex}
use Rattle.rt_plain.specs.kernel.Owners.{with_owner, withdrawn_state, pass_effect, give_back_effect, mutexes_of, close_effect}
use Rattle.rt_plain.specs.kernel.ThreadCalls.{suspended_state}
use Rattle.rt_plain.specs.kernel.Sound.{is_waiting}
use Rattle.rt_plain.specs.kernel.Tally.{one_if, tally}
use Rattle.rt_plain.proofs.kernel.TallyLemmas.{same-set, length-set_at}
use Rattle.rt_plain.specs.kernel.Kept.{stage_at}
use Rattle.rt_plain.proofs.kernel.WakeLemmas.{AllApart, first-waits}
use Rattle.rt_plain.proofs.TestLemmas.{clash}

-- a write in a list
tally-set_same : {X : Type 0} (p : X → Bool) (xs : List X) (i : ℕ) (y d : X) → p y ≡ p (slice_index_or xs i d) → tally p (slice_set xs i y) ≡ tally p xs
tally-set_same p [] i y d same = refl
tally-set_same p (x ∷ xs) zero y d same = rw same refl
tally-set_same p (x ∷ xs) (suc i) y d same = ap (λ n. one_if (p x) + n) (tally-set_same p xs i y d same)

tally-set_most : {X : Type 0} (p : X → Bool) (xs : List X) (i : ℕ) (y : X) → tally p (slice_set xs i y) ≤ tally p xs + one_if (p y)
tally-set_most p [] i y = omega arith
tally-set_most p (x ∷ xs) zero y = omega arith
tally-set_most p (x ∷ xs) (suc i) y = omega (arith, tally-set_most p xs i y)

tally-set_less : {X : Type 0} (p : X → Bool) (xs : List X) (i : ℕ) (y d : X) → p (slice_index_or xs i d) ≡ true → p d ≡ false → p y ≡ false → tally p (slice_set xs i y) + 1 ≤ tally p xs
tally-set_less p [] i y d is default new = absurd (clash (p d) is default)
tally-set_less p (x ∷ xs) zero y d is default new = rw (is, new) (omega arith)
tally-set_less p (x ∷ xs) (suc i) y d is default new = omega (arith, tally-set_less p xs i y d is default new)

-- how many threads wait
abbrev pub waits : State → ℕ
waits s = tally (λ (row : Thread). is_waiting row.stage) s.threads

-- the classes whose tables the shell prints have 256 objects at most
pub record Few (s : State) : Type 0 where
  pub sems : length s.sems ≤ 256
  pub events : length s.events ≤ 256
  pub mutexes : length s.mutexes ≤ 256
  pub mailboxes : length s.mailboxes ≤ 256
  pub queues : length s.queues ≤ 256

-- what an action leaves as many as before, or no more
pub record Stays (s u : State) : Type 0 where
  pub threads : length u.threads ≡ length s.threads
  pub arrivals : (moment : ℕ) → tally (λ (a : Arriving). eqb a.moment moment) u.arrivals ≤ tally (λ (a : Arriving). eqb a.moment moment) s.arrivals
  pub devices : length u.devices ≡ length s.devices
  pub timers : length u.timers ≡ length s.timers
  pub few : Few s → Few u

pub few-same : (s u : State) → length u.sems ≡ length s.sems → length u.events ≡ length s.events → length u.mutexes ≡ length s.mutexes → length u.mailboxes ≡ length s.mailboxes → length u.queues ≡ length s.queues → Few s → Few u
few-same s u sems events mutexes mailboxes queues few = record { sems = omega (arith, sems, few.sems); events = omega (arith, events, few.events); mutexes = omega (arith, mutexes, few.mutexes); mailboxes = omega (arith, mailboxes, few.mailboxes); queues = omega (arith, queues, few.queues) }

pub few-kept : (s u : State) → u.sems ≡ s.sems → u.events ≡ s.events → u.mutexes ≡ s.mutexes → u.mailboxes ≡ s.mailboxes → u.queues ≡ s.queues → Few s → Few u
few-kept s u sems events mutexes mailboxes queues few = few-same s u (ap (λ (xs : List Sem). length xs) sems) (ap (λ (xs : List EventObj). length xs) events) (ap (λ (xs : List Mutex). length xs) mutexes) (ap (λ (xs : List Mailbox). length xs) mailboxes) (ap (λ (xs : List MsgQueue). length xs) queues) few

-- where no counted part but the rows of threads is another one
pub stays-parts : (s u : State) → length u.threads ≡ length s.threads → u.arrivals ≡ s.arrivals → u.devices ≡ s.devices → u.timers ≡ s.timers → u.sems ≡ s.sems → u.events ≡ s.events → u.mutexes ≡ s.mutexes → u.mailboxes ≡ s.mailboxes → u.queues ≡ s.queues → Stays s u
stays-parts s u threads arrivals devices timers sems events mutexes mailboxes queues = record {
  threads = threads;
  arrivals = λ moment. omega (arith, ap (λ (xs : List Arriving). tally (λ (a : Arriving). eqb a.moment moment) xs) arrivals);
  devices = ap (λ (xs : List Device). length xs) devices;
  timers = ap (λ (xs : List Timer). length xs) timers;
  few = few-kept s u sems events mutexes mailboxes queues;
}

pub stays-same : (s : State) → Stays s s
stays-same s = stays-parts s s refl refl refl refl refl refl refl refl refl

pub stays-then : (s u v : State) → Stays s u → Stays u v → Stays s v
stays-then s u v one other = record { threads = other.threads ∙ one.threads; arrivals = λ moment. omega (arith, one.arrivals moment, other.arrivals moment); devices = other.devices ∙ one.devices; timers = other.timers ∙ one.timers; few = λ few. other.few (one.few few) }

-- the lines of an action, with two for each thread that waits after it, are two for each that waited before and c more; it takes c numbers at most
pub record Costs (s : State) (e : Effect) (c : ℕ) : Type 0 where
  pub lines : length e.lines + 2 * waits e.state ≤ 2 * waits s + c
  pub numbers : e.state.numbers ≤ s.numbers + c
  pub stays : Stays s e.state

pub costs-more : (s : State) (e : Effect) (c d : ℕ) → c ≤ d → Costs s e c → Costs s e d
costs-more s e c d le costs = record { lines = omega (arith, le, costs.lines); numbers = omega (arith, costs.numbers); stays = costs.stays }

pub costs-none : (s : State) → Costs s (no_effect s) 0
costs-none s = record { lines = omega arith; numbers = omega arith; stays = stays-same s }

pub costs-then : (s : State) (e g : Effect) (c d : ℕ) → Costs s e c → Costs e.state g d → Costs s (record { state = g.state; lines = e.lines ++ g.lines }) (c + d)
costs-then s e g c d one other = record { lines = omega (arith, length-append e.lines g.lines, one.lines, other.lines); numbers = omega (arith, length-append e.lines g.lines, one.numbers, other.numbers); stays = stays-then s e.state g.state one.stays other.stays }

-- a line more
pub costs-line : (s : State) (e : Effect) (line : Line) (c : ℕ) → Costs s e c → Costs s (record { state = e.state; lines = line ∷ e.lines }) (c + 1)
costs-line s e line c costs = record { lines = omega (arith, costs.lines); numbers = omega (arith, costs.numbers); stays = costs.stays }

-- the states that an action leads through
pub costs-from : (s u : State) (e : Effect) (c d : ℕ) → Costs s (no_effect u) c → Costs u e d → Costs s e (c + d)
costs-from s u e c d one other = record { lines = omega (arith, one.lines, other.lines); numbers = omega (arith, one.numbers, other.numbers); stays = stays-then s u e.state one.stays other.stays }

-- another row of a thread
abbrev pub row_stays : (s : State) (t : ℕ) (row : Thread) → Stays s (with_thread s t row)
row_stays s t row = stays-parts _ _ (length-set_at s.threads t row) refl refl refl refl refl refl refl refl

pub thread-costs : (s : State) (t : ℕ) (row : Thread) → row.stage ≡ (thread_at s t).stage → Costs s (no_effect (with_thread s t row)) 0
thread-costs s t row same = record { lines = omega (arith, tally-set_same (λ (r : Thread). is_waiting r.stage) s.threads t row no_thread (ap is_waiting same)); numbers = omega arith; stays = row_stays s t row }

-- a thread becomes active
pub active-costs : (s : State) (t : ℕ) → Costs s (no_effect (active_state s t)) 0
active-costs s t = record { lines = omega (arith, tally-set_most (λ (r : Thread). is_waiting r.stage) s.threads t (record (thread_at s t) { stage = Active })); numbers = omega arith; stays = row_stays-active } where
  row_stays-active : Stays s (active_state s t)
  row_stays-active = stays-parts _ _ (length-set_at s.threads t (record (thread_at s t) { stage = Active })) refl refl refl refl refl refl refl refl

-- a waiting one pays for two lines
pub active-pays : (s : State) (t : ℕ) → is_waiting (thread_at s t).stage ≡ true → 2 + 2 * waits (active_state s t) ≤ 2 * waits s
active-pays s t waiting = omega (arith, tally-set_less (λ (r : Thread). is_waiting r.stage) s.threads t (record (thread_at s t) { stage = Active }) no_thread waiting refl refl)

pub wake-costs : (s : State) (code : Code) (t : ℕ) → is_waiting (thread_at s t).stage ≡ true → Costs s (wake_effect code t s) 0
wake-costs s code t waiting = record { lines = omega (arith, active-pays coded t still, one.lines, (active-costs coded t).lines); numbers = omega (arith, one.numbers, (active-costs coded t).numbers); stays = stays-then s coded (active_state coded t) one.stays (active-costs coded t).stays } where
  row : Thread
  row = record (thread_at s t) { code = code }

  coded : State
  coded = with_thread s t row

  one : Costs s (no_effect coded) 0
  one = thread-costs s t row refl

  still : is_waiting (thread_at coded t).stage ≡ true
  still = ap is_waiting (same-set (λ (r : Thread). r.stage) s.threads t t row no_thread refl) ∙ waiting

-- a wake that comes with another line
pub wake-pays : (s : State) (code : Code) (t : ℕ) → is_waiting (thread_at s t).stage ≡ true → 2 + 2 * waits (wake_effect code t s).state ≤ 2 * waits s
wake-pays s code t waiting = omega (arith, active-pays coded t still, (thread-costs s t row refl).lines) where
  row : Thread
  row = record (thread_at s t) { code = code }

  coded : State
  coded = with_thread s t row

  still : is_waiting (thread_at coded t).stage ≡ true
  still = ap is_waiting (same-set (λ (r : Thread). r.stage) s.threads t t row no_thread refl) ∙ waiting

pub retry_wake-costs : (s : State) (t : ℕ) → is_waiting (thread_at s t).stage ≡ true → Costs s (retry_wake_effect t s) 0
retry_wake-costs s t waiting = record { lines = omega (arith, active-pays told t still, one.lines, (active-costs told t).lines); numbers = omega (arith, one.numbers, (active-costs told t).numbers); stays = stays-then s told (active_state told t) one.stays (active-costs told t).stays } where
  row : Thread
  row = record (thread_at s t) { retry = retry_of (thread_at s t).stage (due_of s (OfThread t)) }

  told : State
  told = with_thread s t row

  one : Costs s (no_effect told) 0
  one = thread-costs s t row refl

  still : is_waiting (thread_at told t).stage ≡ true
  still = ap is_waiting (same-set (λ (r : Thread). r.stage) s.threads t t row no_thread refl) ∙ waiting

-- an armed row takes a number
pub record IsArmed (s u : State) : Type 0 where
  pub same : waits u ≡ waits s
  pub number : u.numbers ≤ s.numbers + 1
  pub stays : Stays s u

pub armed-one : (s : State) (alarm : Alarm) (due : Option ℕ) → IsArmed s (with_alarm s alarm due)
armed-one s alarm None = record { same = refl; number = omega arith; stays = stays-same s }
armed-one s alarm (Some due) = record { same = refl; number = omega arith; stays = stays-parts _ _ refl refl refl refl refl refl refl refl refl }

-- a thread that waits takes the two lines of its wake
pub waiting-costs : (s : State) (t : ℕ) (what : Awaited) (due : Option ℕ) → Costs s (no_effect (waiting_state s t what due)) 2
waiting-costs s t what due = record { lines = omega (arith, armed.same, tally-set_most (λ (r : Thread). is_waiting r.stage) s.threads t row); numbers = omega (arith, armed.number); stays = stays-then s joined (with_alarm joined (OfThread t) due) joined_stays armed.stays } where
  row : Thread
  row = record (thread_at s t) { stage = Waiting what s.numbers }

  joined : State
  joined = record (without_core s t) { threads = slice_set s.threads t row; numbers = s.numbers + 1 }

  joined_stays : Stays s joined
  joined_stays = stays-parts _ _ (length-set_at s.threads t row) refl refl refl refl refl refl refl refl

  armed : IsArmed joined (with_alarm joined (OfThread t) due)
  armed = armed-one joined (OfThread t) due

pub suspended-costs : (s : State) (t : ℕ) → Costs s (no_effect (suspended_state s t)) 0
suspended-costs s t = record { lines = omega (arith, tally-set_most (λ (r : Thread). is_waiting r.stage) s.threads t (record (thread_at s t) { stage = Suspended })); numbers = omega arith; stays = stays-parts _ _ (length-set_at s.threads t (record (thread_at s t) { stage = Suspended })) refl refl refl refl refl refl refl refl }

pub withdrawn-costs : (s : State) (t : ℕ) → Costs s (no_effect (withdrawn_state s t)) 0
withdrawn-costs s t = record { lines = omega (arith, tally-set_most (λ (r : Thread). is_waiting r.stage) s.threads t row); numbers = omega arith; stays = stays-parts _ _ (length-set_at s.threads t row) refl refl refl refl refl refl refl refl } where
  row : Thread
  row = record (thread_at s t) { stage = Closed; retry = None }

-- what costs nothing each time costs nothing
pub each-costs : {A : Type 0} (act : A → State → Effect) → ((x : A) (s : State) → Costs s (act x s) 0) → (xs : List A) (s : State) → Costs s (each_effect act xs s) 0
each-costs act costs [] s = costs-none s
each-costs act costs (x ∷ xs) s = costs-then s (act x s) (each_effect act xs (act x s).state) 0 0 (costs x s) (each-costs act costs xs (act x s).state)

-- and so does what wakes each of those who wait
pub each-wakes-cost : {A : Type 0} (key : A → ℕ) (act : A → State → Effect)
    → ((x : A) (s : State) → is_waiting (stage_at s.threads (key x)) ≡ true → Costs s (act x s) 0)
    → ((x : A) (s : State) (u : ℕ) → u ≢ key x → stage_at (act x s).state.threads u ≡ stage_at s.threads u)
    → (xs : List A) (s : State) → AllByRecursion (λ x. is_waiting (stage_at s.threads (key x)) ≡ true) xs → AllApart key xs → Costs s (each_effect act xs s) 0
each-wakes-cost key act costs others [] s waiting apart = costs-none s
each-wakes-cost {A = A} key act costs others (x ∷ xs) s waiting apart = costs-then s (act x s) (each_effect act xs (act x s).state) 0 0 (costs x s waiting.0) (each-wakes-cost key act costs others xs (act x s).state (still xs waiting.1 apart.0) apart.1) where
  still : (ys : List A) → AllByRecursion (λ y. is_waiting (stage_at s.threads (key y)) ≡ true) ys → AllByRecursion (λ y. key y ≢ key x) ys → AllByRecursion (λ y. is_waiting (stage_at (act x s).state.threads (key y)) ≡ true) ys
  still [] all off = tt
  still (y ∷ ys) all off = (ap is_waiting (others x s (key y) off.0) ∙ all.0, still ys all.1 off.1)

pub for-costs : (act : ℕ → State → Effect) (o : Option ℕ) (s : State) → ((t : ℕ) → o ≡ Some t → Costs s (act t s) 0) → Costs s (effect_for act o s) 0
for-costs act None s costs = costs-none s
for-costs act (Some t) s costs = costs t refl

pass-costs : (s : State) (mutex : List ℕ) (o : Option ℕ) → ((t : ℕ) → o ≡ Some t → is_waiting (thread_at s t).stage ≡ true) → Costs s (pass_effect mutex o s) 0
pass-costs s mutex None waiting = record { lines = omega arith; numbers = omega arith; stays = stays-parts _ _ refl refl refl refl refl refl refl refl refl }
pass-costs s mutex (Some t) waiting = record { lines = omega (arith, wake-pays (with_owner s mutex t) Code.Ok t (waiting t refl)); numbers = omega arith; stays = stays-parts _ _ (woken.threads) refl refl refl refl refl refl refl refl } where
  woken : Stays (with_owner s mutex t) (wake_effect Code.Ok t (with_owner s mutex t)).state
  woken = (wake-costs (with_owner s mutex t) Code.Ok t (waiting t refl)).stays

pub give_back-costs : (s : State) (mutex : List ℕ) → Costs s (give_back_effect mutex s) 0
give_back-costs s mutex = pass-costs s mutex (first_waiter s WaitOrder.Prio (takes_mutex mutex)) (first-waits s WaitOrder.Prio (takes_mutex mutex))

-- a thread ends
pub close-costs : (s : State) (t : ℕ) → Costs s (close_effect t s) 1
close-costs s t = costs-then s (line_effect (withdrawn_state s t) (Line.Close (name_of s t))) (each_effect give_back_effect (mutexes_of s t) (withdrawn_state s t)) 1 0
    (record { lines = omega (arith, (withdrawn-costs s t).lines); numbers = omega (arith, (withdrawn-costs s t).numbers); stays = (withdrawn-costs s t).stays }) (each-costs give_back_effect (λ mutex u. give_back-costs u mutex) (mutexes_of s t) (withdrawn_state s t))
