-- How many lines each call shows, beside those that waking threads pay for.
use Rattle.rt_base.specs.declared.codes.Class.{Class}
use Rattle.rt_base.specs.declared.codes.Code.{Code}
use Rattle.rt_base.specs.declared.codes.Sleep.{Sleep}
use Rattle.rt_base.specs.declared.codes.WaitOrder.{WaitOrder}
use Rattle.rt_plain.specs.kernel.Calls.{outcome_of}
use Rattle.rt_plain.specs.kernel.DeleteCall.{delete, deletion_outcome}
use Rattle.rt_plain.specs.kernel.DeviceCalls.{dev_close, dev_ctl, dev_open, dev_read, dev_write, find_device, is_open, may_close, with_device, write_effect, device_after_close, state_after_read, fitting_bytes}
use Rattle.rt_plain.specs.kernel.Effects.{due_of, each_effect, effect_for, retry_wake_effect, wake_effect, without_alarm, no_effect, waiting_state, active_state, line_effect}
use Rattle.rt_plain.specs.kernel.EventCalls.{Want, Wanting, event_create, event_recv, event_send, find_event, flags_left, flags_wake_effect, is_satisfied, satisfied_waiters, want_of, wanting_threads, with_event, event_recv_outcome, event_send_outcome, flags_after}
use Rattle.rt_plain.specs.kernel.MailboxCalls.{find_mailbox, has_mail_room, mail_put_outcome, mb_recv, mb_recv_outcome, mb_send, mb_urgent, with_mailbox, mb_send_outcome}
use Rattle.rt_plain.specs.kernel.MutexCalls.{find_mutex, mutex_ceiling, mutex_create, mutex_release, mutex_release_outcome, mutex_take, mutex_take_outcome, with_mutex, with_hold, hold_more_outcome, hold_less_outcome}
use Rattle.rt_plain.specs.kernel.Outcome.{Again, Attempt, By, ByThread, ByTimer, First, Outcome, first_wait_outcome, found_outcome, is_past, may_not_wait, missing_outcome, refusal, thread_outcome, wait_or_refusal, wait_outcome, with_text, with_value, success, silent_success, Waits}
use Rattle.rt_plain.specs.PlainBoard.{PlainBoard}
use Rattle.rt_plain.specs.kernel.PoolCalls.{find_pool, free_block, last_block, mp_alloc, mp_alloc_outcome, mp_free, mp_free_outcome, passed_block_outcome, place_of, state_with_block, with_block_freed, with_block_held, with_pool}
use Rattle.rt_plain.specs.kernel.PowerCalls.{pm_release, pm_request, votes_for, with_votes}
use Rattle.rt_plain.specs.kernel.Priority.{holding_of}
use Rattle.rt_plain.specs.kernel.QueueCalls.{find_queue, has_message_room, is_too_long, message_put_outcome, mq_recv, mq_recv_outcome, mq_send, mq_urgent, with_queue, mq_send_outcome, mq_urgent_outcome}
use Rattle.rt_plain.specs.kernel.SemCalls.{find_sem, sem_create, sem_release, sem_release_outcome, sem_take, with_sem, sem_take_outcome}
use Rattle.rt_plain.specs.kernel.Sound.{is_waiting}
use Rattle.rt_plain.specs.kernel.State.{Active, Alarm, Arriving, Awaited, Closed, Device, EventObj, Holding, InCall, Initial, Mailbox, MsgQueue, Nest, OfTimer, Pool, Sem, Stage, State, Suspended, Thread, Timer, Waiting, find_thread, is_initial, no_thread, thread_at, with_thread, Mutex}
use Rattle.rt_plain.specs.kernel.ThreadCalls.{delay, kill, lock, lock_outcome, may_suspend, nest_at, resume, resume_outcome, sched_lock, sched_unlock, set_prio, startup, suspend, unlock, unlock_outcome, with_locks, yield, start_effect, suspended_state}
use Rattle.rt_plain.specs.kernel.TimerCalls.{find_timer, timer_set, timer_start, timer_start_effect, timer_stop, with_timer, with_timer_armed}
use Rattle.rt_plain.specs.kernel.Works.{has_work, unwork_effect, without_work}
use Rattle.rt_plain.specs.kernel.Waiting.{first_waiter, receives_event, receives_mail, receives_message, sends_mail, sends_message, takes_block, takes_mutex, takes_sem, waiters}
use Rattle.rt_plain.specs.declared.stmt.Call.{Call}
use Rattle.std.proofs.Common.{Bool, List, None, Option, Some, [], ap, arith, bit_and, bit_or, bytes_eq, cond, eqb, false, filter, if◌then◌else◌, is_some, leb-false, length, nat_le, nat_lt, not, refl, suc, true, zero, ℕ, ◌++◌, ◌+◌, ◌-◌, ◌∙◌, ◌∷◌, ◌≡◌, ◌≤◌, drop, take, min}
use Rattle.std.specs.List.{AllByRecursion}
use Rattle.rt_plain.specs.declared.line.Line.{Line}
use Rattle.rt_plain.specs.kernel.Owners.{close_effect, with_owner, give_back_effect, without_owner}
use Rattle.rt_plain.specs.kernel.Kept.{stage_at}
use Rattle.rt_plain.specs.kernel.Tally.{tally}
use Rattle.rt_plain.proofs.kernel.TallyLemmas.{all-filter, all-append, all-map, same-set}
use Rattle.rt_plain.proofs.kernel.WakeLemmas.{AllApart, wake-others, apart-map, waiters-apart, waiters-wait, first-waits}
use Rattle.rt_plain.proofs.kernel.ObjectLemmas.{apart-filter, value-stages, text-stages, valued-others, lists-apart, mail-lists, message-lists}
use Rattle.rt_plain.proofs.kernel.CostLemmas.{few-same, few-kept, stays-parts, Few, Costs, costs-more, costs-none, costs-from, thread-costs, active-costs, wake-costs, retry_wake-costs, waiting-costs, suspended-costs, each-wakes-cost, for-costs, give_back-costs, close-costs}
use Rattle.std.proofs.lemmas.List.{length-map}

-- a call of a thread shows two lines at most beside those that are paid for, and one of a timer, which never waits, one
abbrev pub most : By → ℕ
most (ByThread t core) = 2
most (ByTimer name) = 1

abbrev pub CostsCall : ℕ → State → Outcome → Type 0
CostsCall n s outcome = Costs s outcome.effect n

free-call : {n : ℕ} (s : State) (outcome : Outcome) → Costs s outcome.effect 0 → CostsCall n s outcome
free-call {n} s outcome costs = costs-more s outcome.effect 0 n (omega arith) costs

-- whoever makes it
any-call : (s : State) (by : By) (outcome : Outcome) → CostsCall 1 s outcome → CostsCall (most by) s outcome
any-call s (ByThread t core) outcome costs = costs-more s outcome.effect 1 2 (omega arith) costs
any-call s (ByTimer name) outcome costs = costs

refused : {n : ℕ} (s : State) (code : Code) → CostsCall n s (refusal s code)
refused s code = free-call s (refusal s code) (costs-none s)

-- the limits of the classes that scripts create
pub record HasFew (b : PlainBoard) : Type 0 where
  pub sem : b.limits.sem ≤ 256
  pub event : b.limits.event ≤ 256
  pub mutex : b.limits.mutex ≤ 256

if-cost : {n : ℕ} (s : State) (c : Bool) (x y : Outcome) → (c ≡ true → CostsCall n s x) → (c ≡ false → CostsCall n s y) → CostsCall n s (if c then x else y)
if-cost s true x y one other = one refl
if-cost s false x y one other = other refl

found-cost : {n : ℕ} (s : State) {A : Type 0} (o : Option A) (missing : Outcome) (act : A → Outcome) → CostsCall n s missing → ((x : A) → CostsCall n s (act x)) → CostsCall n s (found_outcome o missing act)
found-cost s None missing act none some = none
found-cost s (Some x) missing act none some = some x

missing-cost : {n : ℕ} (s : State) (attempt : Attempt) → CostsCall n s (missing_outcome s attempt)
missing-cost s First = refused s Code.Inval
missing-cost s (Again due) = refused s Code.Error

-- a state with the same threads costs nothing
same-costs : (s u : State) → u.numbers ≡ s.numbers → u.threads ≡ s.threads → u.arrivals ≡ s.arrivals → length u.devices ≡ length s.devices → length u.timers ≡ length s.timers → (Few s → Few u) → Costs s (no_effect u) 0
same-costs s u numbers threads arrivals devices timers few = record { lines = omega (arith, ap (λ (rows : List Thread). tally (λ (row : Thread). is_waiting row.stage) rows) threads); numbers = omega (arith, numbers); stays = record { threads = ap (λ (rows : List Thread). length rows) threads; arrivals = λ moment. omega (arith, ap (λ (xs : List Arriving). tally (λ (a : Arriving). eqb a.moment moment) xs) arrivals); devices = devices; timers = timers; few = few } }

pub filter-fewer : {X : Type 0} (p : X → Bool) (xs : List X) → length (filter p xs) ≤ length xs
filter-fewer p [] = omega arith
filter-fewer p (x ∷ xs) = by_test (p x) (filter-fewer p xs) where
  by_test : (c : Bool) → length (filter p xs) ≤ length xs → length (cond c (x ∷ filter p xs) (filter p xs)) ≤ suc (length xs)
  by_test true le = omega (arith, le)
  by_test false le = omega (arith, le)

value-costs : (s : State) (by : By) (value : ℕ) → Costs s (no_effect (with_value s by value)) 0
value-costs s (ByThread t core) value = thread-costs s t (record (thread_at s t) { value = value }) refl
value-costs s (ByTimer name) value = costs-none s

text-costs : (s : State) (by : By) (text : List ℕ) → Costs s (no_effect (with_text s by text)) 0
text-costs s (ByThread t core) text = thread-costs s t (record (thread_at s t) { text = text }) refl
text-costs s (ByTimer name) text = costs-none s

-- waits
wait-cost : (s : State) (t core : ℕ) (what : Awaited) (due : Option ℕ) → CostsCall 2 s (wait_outcome s t core what due)
wait-cost s t core what due = if-cost s (may_not_wait s t core) (refusal s Code.Error) (record { effect = record { state = waiting_state s t what due; lines = [] }; answer = Waits }) (λ is. refused s Code.Error) (λ is. waiting-costs s t what due)

first_wait-cost : (s : State) (t core : ℕ) (call : Call) (timeout : Option ℕ) (code : Code) → CostsCall 2 s (first_wait_outcome s t core call timeout code)
first_wait-cost s t core call None code = wait-cost s t core (InCall call) None
first_wait-cost s t core call (Some zero) code = refused s code
first_wait-cost s t core call (Some (suc n)) code = wait-cost s t core (InCall call) (Some (s.moment + suc n))

wait_or-cost : (s : State) (by : By) (attempt : Attempt) (call : Call) (timeout : Option ℕ) (code : Code) → CostsCall (most by) s (wait_or_refusal s by attempt call timeout code)
wait_or-cost s (ByThread t core) First call timeout code = first_wait-cost s t core call timeout code
wait_or-cost s (ByThread t core) (Again due) call timeout code = if-cost s (is_past s.moment due) (refusal s Code.Timeout) (wait_outcome s t core (InCall call) due) (λ is. refused s Code.Timeout) (λ is. wait-cost s t core (InCall call) due)
wait_or-cost s (ByTimer name) attempt call timeout code = refused s code

-- threads and locks
delay-cost : (s : State) (by : By) (ticks : ℕ) → CostsCall (most by) s (delay ticks s by)
delay-cost s (ByThread t core) ticks = wait-cost s t core (InCall (Call.Delay ticks)) (Some (s.moment + ticks))
delay-cost s (ByTimer name) ticks = refused s Code.Error

yield-cost : (s : State) (by : By) → CostsCall (most by) s (yield s by)
yield-cost s (ByThread t core) = free-call s (yield s (ByThread t core)) (thread-costs s t (record (thread_at s t) { left = (thread_at s t).slice; marked = true }) refl)
yield-cost s (ByTimer name) = refused s Code.Error

-- a line, and a state that costs nothing
pub line-cost : (s u : State) (line : Line) → Costs s (no_effect u) 0 → Costs s (line_effect u line) 1
line-cost s u line costs = record { lines = omega (arith, costs.lines); numbers = omega (arith, costs.numbers); stays = costs.stays }

startup-cost : (s : State) (name : List ℕ) → CostsCall 1 s (startup name s)
startup-cost s name = found-cost s (find_thread s name) (refusal s Code.Inval) (λ t. if is_initial (thread_at s t).stage then success (start_effect t s) else refusal s Code.Error) (refused s Code.Inval)
    (λ t. if-cost s (is_initial (thread_at s t).stage) (success (start_effect t s)) (refusal s Code.Error) (λ is. line-cost s (active_state s t) _ (active-costs s t)) (λ is. refused s Code.Error))

suspend-cost : (s : State) (name : List ℕ) (by : By) → CostsCall (most by) s (suspend name s by)
suspend-cost s name by = found-cost s (find_thread s name) (refusal s Code.Inval) (λ t. if may_suspend s by t then silent_success (suspended_state s t) else refusal s Code.Error) (refused s Code.Inval)
    (λ t. if-cost s (may_suspend s by t) (silent_success (suspended_state s t)) (refusal s Code.Error) (λ is. free-call s (silent_success (suspended_state s t)) (suspended-costs s t)) (λ is. refused s Code.Error))

resumed-cost : (s : State) (t : ℕ) (stage : Stage) → (thread_at s t).stage ≡ stage → CostsCall 1 s (resume_outcome t stage s)
resumed-cost s t Suspended is = line-cost s (active_state s t) _ (active-costs s t)
resumed-cost s t (Waiting what number) is = free-call s (resume_outcome t (Waiting what number) s) (wake-costs s Code.Intr t (ap is_waiting is))
resumed-cost s t Initial is = refused s Code.Error
resumed-cost s t Active is = refused s Code.Error
resumed-cost s t Closed is = refused s Code.Error

resume-cost : (s : State) (name : List ℕ) → CostsCall 1 s (resume name s)
resume-cost s name = found-cost s (find_thread s name) (refusal s Code.Inval) (λ t. resume_outcome t (thread_at s t).stage s) (refused s Code.Inval) (λ t. resumed-cost s t (thread_at s t).stage refl)

kill-cost : (s : State) (name : List ℕ) → CostsCall 1 s (kill name s)
kill-cost s name = found-cost s (find_thread s name) (refusal s Code.Inval) (λ t. success (close_effect t s)) (refused s Code.Inval) (λ t. close-costs s t)

set_prio-cost : {n : ℕ} (s : State) (name : List ℕ) (prio : ℕ) → CostsCall n s (set_prio name prio s)
set_prio-cost s name prio = found-cost s (find_thread s name) (refusal s Code.Inval) (λ t. let row = thread_at s t in silent_success (with_thread s t (record row { base = prio }))) (refused s Code.Inval)
    (λ t. free-call s (silent_success (with_thread s t (record (thread_at s t) { base = prio }))) (thread-costs s t (record (thread_at s t) { base = prio }) refl))

nest-cost : {n : ℕ} (s : State) (nest : Option Nest) → CostsCall n s (silent_success (record s { nest = nest }))
nest-cost s nest = free-call s (silent_success (record s { nest = nest })) (same-costs s (record s { nest = nest }) refl refl refl refl refl (few-kept s (record s { nest = nest }) refl refl refl refl refl))

locked-cost : {n : ℕ} (s : State) (core : ℕ) (nest : Option Nest) → CostsCall n s (lock_outcome core nest s)
locked-cost s core None = nest-cost s (Some (record { core = core; depth = 1 }))
locked-cost s core (Some n) = if-cost s (eqb n.depth 255) (refusal s Code.Full) (silent_success (record s { nest = Some (record { core = n.core; depth = n.depth + 1 }) })) (λ is. refused s Code.Full) (λ is. nest-cost s (Some (record { core = n.core; depth = n.depth + 1 })))

lock-cost : (s : State) (by : By) → CostsCall (most by) s (lock s by)
lock-cost s (ByThread t core) = locked-cost s core s.nest
lock-cost s (ByTimer name) = refused s Code.Error

unlocked-cost : {n : ℕ} (s : State) (core : ℕ) (nest : Option Nest) → CostsCall n s (unlock_outcome core nest s)
unlocked-cost s core None = refused s Code.Error
unlocked-cost s core (Some n) = if-cost s (eqb n.core core) (silent_success (record s { nest = nest_at core (n.depth - 1) })) (refusal s Code.Error) (λ is. nest-cost s (nest_at core (n.depth - 1))) (λ is. refused s Code.Error)

unlock-cost : (s : State) (by : By) → CostsCall (most by) s (unlock s by)
unlock-cost s (ByThread t core) = unlocked-cost s core s.nest
unlock-cost s (ByTimer name) = refused s Code.Error

locks-cost : {n : ℕ} (s : State) (t locks : ℕ) → CostsCall n s (silent_success (with_locks s t locks))
locks-cost s t locks = free-call s (silent_success (with_locks s t locks)) (thread-costs s t (record (thread_at s t) { locks = locks }) refl)

sched_lock-cost : (s : State) (by : By) → CostsCall (most by) s (sched_lock s by)
sched_lock-cost s (ByThread t core) = if-cost s (eqb (thread_at s t).locks 255) (refusal s Code.Full) (silent_success (with_locks s t ((thread_at s t).locks + 1))) (λ is. refused s Code.Full) (λ is. locks-cost s t ((thread_at s t).locks + 1))
sched_lock-cost s (ByTimer name) = refused s Code.Error

sched_unlock-cost : (s : State) (by : By) → CostsCall (most by) s (sched_unlock s by)
sched_unlock-cost s (ByThread t core) = if-cost s (eqb (thread_at s t).locks 0) (refusal s Code.Error) (silent_success (with_locks s t ((thread_at s t).locks - 1))) (λ is. refused s Code.Error) (λ is. locks-cost s t ((thread_at s t).locks - 1))
sched_unlock-cost s (ByTimer name) = refused s Code.Error

-- objects: other rows of a class
sem-costs : (s : State) (sem : Sem) → Costs s (no_effect (with_sem s sem)) 0
sem-costs s sem = same-costs s (with_sem s sem) refl refl refl refl refl (few-same s (with_sem s sem) (length-map s.sems (λ (o : Sem). if bytes_eq o.name sem.name then sem else o)) refl refl refl refl)

event-costs : (s : State) (event : EventObj) → Costs s (no_effect (with_event s event)) 0
event-costs s event = same-costs s (with_event s event) refl refl refl refl refl (few-same s (with_event s event) refl (length-map s.events (λ (o : EventObj). if bytes_eq o.name event.name then event else o)) refl refl refl)

mutex-costs : (s : State) (mutex : Mutex) → Costs s (no_effect (with_mutex s mutex)) 0
mutex-costs s mutex = same-costs s (with_mutex s mutex) refl refl refl refl refl (few-same s (with_mutex s mutex) refl refl (length-map s.mutexes (λ (o : Mutex). if bytes_eq o.name mutex.name then mutex else o)) refl refl)

mailbox-costs : (s : State) (mailbox : Mailbox) → Costs s (no_effect (with_mailbox s mailbox)) 0
mailbox-costs s mailbox = same-costs s (with_mailbox s mailbox) refl refl refl refl refl (few-same s (with_mailbox s mailbox) refl refl refl (length-map s.mailboxes (λ (o : Mailbox). if bytes_eq o.name mailbox.name then mailbox else o)) refl)

queue-costs : (s : State) (queue : MsgQueue) → Costs s (no_effect (with_queue s queue)) 0
queue-costs s queue = same-costs s (with_queue s queue) refl refl refl refl refl (few-same s (with_queue s queue) refl refl refl refl (length-map s.queues (λ (o : MsgQueue). if bytes_eq o.name queue.name then queue else o)))

pub device-costs : (s : State) (device : Device) → Costs s (no_effect (with_device s device)) 0
device-costs s device = same-costs s (with_device s device) refl refl refl (length-map s.devices (λ (o : Device). if bytes_eq o.name device.name then device else o)) refl (few-kept s (with_device s device) refl refl refl refl refl)

timer-costs : (s : State) (timer : Timer) → Costs s (no_effect (with_timer s timer)) 0
timer-costs s timer = same-costs s (with_timer s timer) refl refl refl refl (length-map s.timers (λ (o : Timer). if bytes_eq o.name timer.name then timer else o)) (few-kept s (with_timer s timer) refl refl refl refl refl)

-- a state with other parts than those counted
pub other-costs : (s u : State) → u.numbers ≡ s.numbers → u.threads ≡ s.threads → u.arrivals ≡ s.arrivals → u.devices ≡ s.devices → u.timers ≡ s.timers → u.sems ≡ s.sems → u.events ≡ s.events → u.mutexes ≡ s.mutexes → u.mailboxes ≡ s.mailboxes → u.queues ≡ s.queues → Costs s (no_effect u) 0
other-costs s u numbers threads arrivals devices timers sems events mutexes mailboxes queues = same-costs s u numbers threads arrivals (ap (λ (xs : List Device). length xs) devices) (ap (λ (xs : List Timer). length xs) timers) (few-kept s u sems events mutexes mailboxes queues)

silent : {n : ℕ} (s u : State) → Costs s (no_effect u) 0 → CostsCall n s (silent_success u)
silent s u costs = free-call s (silent_success u) costs

room-more : (limit n : ℕ) → limit ≤ 256 → nat_le limit n ≡ false → suc n ≤ 256
room-more limit n most room = omega (arith, leb-false limit n room, most)

-- semaphores
sem_create-cost : {n : ℕ} (b : PlainBoard) (s : State) (name : List ℕ) (value : ℕ) (order : WaitOrder) → HasFew b → CostsCall n s (sem_create b name value order s)
sem_create-cost b s name value order has = if-cost s (is_some (find_sem s name)) (refusal s Code.Busy) (if nat_le b.limits.sem (length s.sems) then refusal s Code.NoMem else silent_success new) (λ is. refused s Code.Busy)
    (λ is. if-cost s (nat_le b.limits.sem (length s.sems)) (refusal s Code.NoMem) (silent_success new) (λ full. refused s Code.NoMem) (λ room. silent s new (same-costs s new refl refl refl refl refl (λ few. record { sems = room-more b.limits.sem (length s.sems) has.sem room; events = few.events; mutexes = few.mutexes; mailboxes = few.mailboxes; queues = few.queues })))) where
      new : State
      new = record s { sems = record { name = name; value = value; order = order } ∷ s.sems }

sem_take-cost : (s : State) (name : List ℕ) (timeout : Option ℕ) (by : By) → CostsCall (most by) s (sem_take name timeout s by)
sem_take-cost s name timeout by = found-cost s (find_sem s name) (refusal s Code.Inval) (λ sem. sem_take_outcome sem timeout s by) (refused s Code.Inval)
    (λ sem. if-cost s (nat_lt 0 sem.value) (silent_success (with_sem s (record sem { value = sem.value - 1 }))) (wait_or_refusal s by First (Call.SemTake sem.name timeout) timeout Code.Timeout) (λ is. silent s (with_sem s (record sem { value = sem.value - 1 })) (sem-costs s (record sem { value = sem.value - 1 }))) (λ is. wait_or-cost s by First (Call.SemTake sem.name timeout) timeout Code.Timeout))

released-costs : (s : State) (sem : Sem) (o : Option ℕ) → ((t : ℕ) → o ≡ Some t → is_waiting (thread_at s t).stage ≡ true) → Costs s (sem_release_outcome sem o s).effect 0
released-costs s sem None waiting = by_value (eqb sem.value 65535) where
  by_value : (c : Bool) → Costs s (if c then refusal s Code.Full else silent_success (with_sem s (record sem { value = sem.value + 1 }))).effect 0
  by_value true = costs-none s
  by_value false = sem-costs s (record sem { value = sem.value + 1 })
released-costs s sem (Some t) waiting = wake-costs s Code.Ok t (waiting t refl)

pub sem_release-costs : (s : State) (name : List ℕ) → Costs s (sem_release name s).effect 0
sem_release-costs s name = by_found (find_sem s name) where
  by_found : (o : Option Sem) → Costs s (found_outcome o (refusal s Code.Inval) (λ sem. sem_release_outcome sem (first_waiter s sem.order (takes_sem name)) s)).effect 0
  by_found None = costs-none s
  by_found (Some sem) = released-costs s sem (first_waiter s sem.order (takes_sem name)) (first-waits s sem.order (takes_sem name))

-- event objects
event_create-cost : {n : ℕ} (b : PlainBoard) (s : State) (name : List ℕ) (order : WaitOrder) → HasFew b → CostsCall n s (event_create b name order s)
event_create-cost b s name order has = if-cost s (is_some (find_event s name)) (refusal s Code.Busy) (if nat_le b.limits.event (length s.events) then refusal s Code.NoMem else silent_success new) (λ is. refused s Code.Busy)
    (λ is. if-cost s (nat_le b.limits.event (length s.events)) (refusal s Code.NoMem) (silent_success new) (λ full. refused s Code.NoMem) (λ room. silent s new (same-costs s new refl refl refl refl refl (λ few. record { sems = few.sems; events = room-more b.limits.event (length s.events) has.event room; mutexes = few.mutexes; mailboxes = few.mailboxes; queues = few.queues })))) where
      new : State
      new = record s { events = record { name = name; flags = 0; order = order } ∷ s.events }

event_recv-cost : (s : State) (name : List ℕ) (want : Want) (timeout : Option ℕ) (by : By) → CostsCall (most by) s (event_recv name want timeout s by)
event_recv-cost s name want timeout by = found-cost s (find_event s name) (refusal s Code.Inval) (λ event. event_recv_outcome event want timeout s by) (refused s Code.Inval)
    (λ event. let left : State = with_event s (record event { flags = flags_after event.flags want }) in if-cost s (is_satisfied event.flags want) (silent_success (with_value left by (bit_and event.flags want.mask))) (wait_or_refusal s by First (Call.EventRecv event.name want.mask want.all want.clear timeout) timeout Code.Timeout)
    (λ is. silent s (with_value left by (bit_and event.flags want.mask)) (costs-from s left (no_effect (with_value left by (bit_and event.flags want.mask))) 0 0 (event-costs s (record event { flags = flags_after event.flags want })) (value-costs left by (bit_and event.flags want.mask))))
    (λ is. wait_or-cost s by First (Call.EventRecv event.name want.mask want.all want.clear timeout) timeout Code.Timeout))

valued-costs : (flags : ℕ) (w : Wanting) (s : State) → is_waiting (stage_at s.threads w.thread) ≡ true → Costs s (flags_wake_effect flags w s) 0
valued-costs flags w s waiting = costs-from s valued (flags_wake_effect flags w s) 0 0 (thread-costs s w.thread row refl) (wake-costs valued Code.Ok w.thread (ap is_waiting (same-set (λ (r : Thread). r.stage) s.threads w.thread w.thread row no_thread refl) ∙ waiting)) where
  row : Thread
  row = record (thread_at s w.thread) { value = bit_and flags w.want.mask }

  valued : State
  valued = with_thread s w.thread row

event_send-cost : {n : ℕ} (s : State) (name : List ℕ) (mask : ℕ) → CostsCall n s (event_send name mask s)
event_send-cost s name mask = found-cost s (find_event s name) (refusal s Code.Inval) (λ event. event_send_outcome event mask s) (refused s Code.Inval) (λ event. free-call s (event_send_outcome event mask s) (sent_to event)) where
  sent_to : (event : EventObj) → Costs s (event_send_outcome event mask s).effect 0
  sent_to event =
      let flags : ℕ = bit_or event.flags mask in
      let ts : List ℕ = waiters s event.order (receives_event event.name) in
      let wants : ℕ → Wanting = λ t. record { thread = t; want = want_of (thread_at s t).stage } in
      let left : State = with_event s (record event { flags = flags_left flags (wanting_threads s event) }) in
      costs-from s left (event_send_outcome event mask s).effect 0 0 (event-costs s (record event { flags = flags_left flags (wanting_threads s event) }))
      (each-wakes-cost (λ (w : Wanting). w.thread) (flags_wake_effect flags) (valued-costs flags) (valued-others flags) (satisfied_waiters flags (wanting_threads s event)) left
      (all-filter (λ (w : Wanting). is_waiting (stage_at s.threads w.thread) ≡ true) _ (wanting_threads s event) (all-map (λ (w : Wanting). is_waiting (stage_at s.threads w.thread) ≡ true) wants ts (waiters-wait s event.order (receives_event event.name))))
      (apart-filter (λ (w : Wanting). w.thread) _ (wanting_threads s event) (apart-map (λ (w : Wanting). w.thread) wants ts (waiters-apart s event.order (receives_event event.name)))))

-- mutexes
mutex_create-cost : {n : ℕ} (b : PlainBoard) (s : State) (name : List ℕ) (ceiling : ℕ) → HasFew b → CostsCall n s (mutex_create b name ceiling s)
mutex_create-cost b s name ceiling has = if-cost s (is_some (find_mutex s name)) (refusal s Code.Busy) (if nat_le b.limits.mutex (length s.mutexes) then refusal s Code.NoMem else silent_success new) (λ is. refused s Code.Busy)
    (λ is. if-cost s (nat_le b.limits.mutex (length s.mutexes)) (refusal s Code.NoMem) (silent_success new) (λ full. refused s Code.NoMem) (λ room. silent s new (same-costs s new refl refl refl refl refl (λ few. record { sems = few.sems; events = few.events; mutexes = room-more b.limits.mutex (length s.mutexes) has.mutex room; mailboxes = few.mailboxes; queues = few.queues })))) where
      new : State
      new = record s { mutexes = record { name = name; ceiling = ceiling } ∷ s.mutexes }

hold-cost : {c : ℕ} (s : State) (h : Holding) (n : ℕ) → CostsCall c s (silent_success (with_hold s h n))
hold-cost s h n = silent s (with_hold s h n) (other-costs s (with_hold s h n) refl refl refl refl refl refl refl refl refl refl)

owner-cost : {n : ℕ} (s : State) (name : List ℕ) (t : ℕ) → CostsCall n s (silent_success (with_owner s name t))
owner-cost s name t = silent s (with_owner s name t) (other-costs s (with_owner s name t) refl refl refl refl refl refl refl refl refl refl)

taken-cost : (s : State) (name : List ℕ) (o : Option Holding) (timeout : Option ℕ) (by : By) → CostsCall (most by) s (mutex_take_outcome name o timeout s by)
taken-cost s name None timeout (ByThread t core) = owner-cost s name t
taken-cost s name None timeout (ByTimer timer) = refused s Code.Error
taken-cost s name (Some h) timeout (ByTimer timer) = refused s Code.Error
taken-cost s name (Some h) timeout (ByThread t core) = if-cost s (eqb h.owner t) (hold_more_outcome h s) (wait_or_refusal s (ByThread t core) First (Call.MutexTake name timeout) timeout Code.Timeout)
    (λ own. if-cost s (eqb h.hold 255) (refusal s Code.Full) (silent_success (with_hold s h (h.hold + 1))) (λ full. refused s Code.Full) (λ room. hold-cost s h (h.hold + 1))) (λ other. wait_or-cost s (ByThread t core) First (Call.MutexTake name timeout) timeout Code.Timeout)

mutex_take-cost : (s : State) (name : List ℕ) (timeout : Option ℕ) (by : By) → CostsCall (most by) s (mutex_take name timeout s by)
mutex_take-cost s name timeout by = found-cost s (find_mutex s name) (refusal s Code.Inval) (λ mutex. mutex_take_outcome name (holding_of s name) timeout s by) (refused s Code.Inval) (λ mutex. taken-cost s name (holding_of s name) timeout by)

given-cost : (s : State) (o : Option Holding) (by : By) → CostsCall (most by) s (mutex_release_outcome o s by)
given-cost s None by = refused s Code.Error
given-cost s (Some h) (ByTimer timer) = refused s Code.Error
given-cost s (Some h) (ByThread t core) = if-cost s (eqb h.owner t) (hold_less_outcome h s) (refusal s Code.Error)
    (λ own. if-cost s (nat_lt 1 h.hold) (silent_success (with_hold s h (h.hold - 1))) (success (give_back_effect h.mutex s)) (λ more. hold-cost s h (h.hold - 1)) (λ last. free-call s (success (give_back_effect h.mutex s)) (give_back-costs s h.mutex))) (λ other. refused s Code.Error)

mutex_release-cost : (s : State) (name : List ℕ) (by : By) → CostsCall (most by) s (mutex_release name s by)
mutex_release-cost s name by = found-cost s (find_mutex s name) (refusal s Code.Inval) (λ mutex. mutex_release_outcome (holding_of s name) s by) (refused s Code.Inval) (λ mutex. given-cost s (holding_of s name) by)

mutex_ceiling-cost : (s : State) (name : List ℕ) (ceiling : ℕ) (by : By) → CostsCall (most by) s (mutex_ceiling name ceiling s by)
mutex_ceiling-cost s name ceiling by = found-cost s (find_mutex s name) (refusal s Code.Inval) (λ mutex. silent_success (with_value (with_mutex s (record mutex { ceiling = ceiling })) by mutex.ceiling)) (refused s Code.Inval)
    (λ mutex. let new : State = with_mutex s (record mutex { ceiling = ceiling }) in silent s (with_value new by mutex.ceiling) (costs-from s new (no_effect (with_value new by mutex.ceiling)) 0 0 (mutex-costs s (record mutex { ceiling = ceiling })) (value-costs new by mutex.ceiling)))

-- the first of a wait list wakes to make its call again
retried-costs : (s u : State) (order : WaitOrder) (in_list : Call → Bool) → ((t : ℕ) → stage_at u.threads t ≡ stage_at s.threads t) → Costs s (no_effect u) 0 → Costs s (effect_for retry_wake_effect (first_waiter s order in_list) u) 0
retried-costs s u order in_list same costs = costs-from s u (effect_for retry_wake_effect (first_waiter s order in_list) u) 0 0 costs (for-costs retry_wake_effect (first_waiter s order in_list) u (λ t is. retry_wake-costs u t (ap is_waiting (same t) ∙ first-waits s order in_list t is)))

-- mailboxes
mail_put-cost : {n : ℕ} (s : State) (mailbox : Mailbox) (words : List ℕ) → CostsCall n s (mail_put_outcome mailbox words s)
mail_put-cost s mailbox words = free-call s (mail_put_outcome mailbox words s) (retried-costs s (with_mailbox s (record mailbox { words = words })) mailbox.order (receives_mail mailbox.name) (λ t. refl) (mailbox-costs s (record mailbox { words = words })))

mb_send-cost : (s : State) (name : List ℕ) (word : ℕ) (timeout : Option ℕ) (by : By) (attempt : Attempt) → CostsCall (most by) s (mb_send name word timeout s by attempt)
mb_send-cost s name word timeout by attempt = found-cost s (find_mailbox s name) (missing_outcome s attempt) (λ mailbox. mb_send_outcome mailbox word timeout s by attempt) (missing-cost s attempt)
    (λ mailbox. if-cost s (has_mail_room mailbox) (mail_put_outcome mailbox (mailbox.words ++ word ∷ []) s) (wait_or_refusal s by attempt (Call.MbSend mailbox.name word timeout) timeout Code.Full) (λ room. mail_put-cost s mailbox (mailbox.words ++ word ∷ [])) (λ full. wait_or-cost s by attempt (Call.MbSend mailbox.name word timeout) timeout Code.Full))

mb_urgent-cost : {n : ℕ} (s : State) (name : List ℕ) (word : ℕ) → CostsCall n s (mb_urgent name word s)
mb_urgent-cost s name word = found-cost s (find_mailbox s name) (missing_outcome s First) (λ mailbox. if has_mail_room mailbox then mail_put_outcome mailbox (word ∷ mailbox.words) s else refusal s Code.Full) (missing-cost s First)
    (λ mailbox. if-cost s (has_mail_room mailbox) (mail_put_outcome mailbox (word ∷ mailbox.words) s) (refusal s Code.Full) (λ room. mail_put-cost s mailbox (word ∷ mailbox.words)) (λ full. refused s Code.Full))

mail_got-cost : (s : State) (mailbox : Mailbox) (words : List ℕ) (timeout : Option ℕ) (by : By) (attempt : Attempt) → CostsCall (most by) s (mb_recv_outcome mailbox words timeout s by attempt)
mail_got-cost s mailbox [] timeout by attempt = wait_or-cost s by attempt (Call.MbRecv mailbox.name timeout) timeout Code.Timeout
mail_got-cost s mailbox (word ∷ words) timeout by attempt = let taken : State = with_mailbox s (record mailbox { words = words }) in
    free-call s (mb_recv_outcome mailbox (word ∷ words) timeout s by attempt) (retried-costs s (with_value taken by word) mailbox.order (sends_mail mailbox.name) (value-stages taken by word) (costs-from s taken (no_effect (with_value taken by word)) 0 0 (mailbox-costs s (record mailbox { words = words })) (value-costs taken by word)))

mb_recv-cost : (s : State) (name : List ℕ) (timeout : Option ℕ) (by : By) (attempt : Attempt) → CostsCall (most by) s (mb_recv name timeout s by attempt)
mb_recv-cost s name timeout by attempt = found-cost s (find_mailbox s name) (missing_outcome s attempt) (λ mailbox. mb_recv_outcome mailbox mailbox.words timeout s by attempt) (missing-cost s attempt) (λ mailbox. mail_got-cost s mailbox mailbox.words timeout by attempt)

-- queues
message_put-cost : {n : ℕ} (s : State) (queue : MsgQueue) (messages : List (List ℕ)) → CostsCall n s (message_put_outcome queue messages s)
message_put-cost s queue messages = free-call s (message_put_outcome queue messages s) (retried-costs s (with_queue s (record queue { messages = messages })) queue.order (receives_message queue.name) (λ t. refl) (queue-costs s (record queue { messages = messages })))

mq_send-cost : (s : State) (name message : List ℕ) (timeout : Option ℕ) (by : By) (attempt : Attempt) → CostsCall (most by) s (mq_send name message timeout s by attempt)
mq_send-cost s name message timeout by attempt = found-cost s (find_queue s name) (missing_outcome s attempt) (λ queue. mq_send_outcome queue message timeout s by attempt) (missing-cost s attempt)
    (λ queue. if-cost s (is_too_long queue message) (refusal s Code.Error) (if has_message_room queue then message_put_outcome queue (queue.messages ++ message ∷ []) s else wait_or_refusal s by attempt (Call.MqSend queue.name timeout message) timeout Code.Full) (λ long. refused s Code.Error)
    (λ fits. if-cost s (has_message_room queue) (message_put_outcome queue (queue.messages ++ message ∷ []) s) (wait_or_refusal s by attempt (Call.MqSend queue.name timeout message) timeout Code.Full) (λ room. message_put-cost s queue (queue.messages ++ message ∷ [])) (λ full. wait_or-cost s by attempt (Call.MqSend queue.name timeout message) timeout Code.Full)))

mq_urgent-cost : {n : ℕ} (s : State) (name message : List ℕ) → CostsCall n s (mq_urgent name message s)
mq_urgent-cost s name message = found-cost s (find_queue s name) (missing_outcome s First) (λ queue. mq_urgent_outcome queue message s) (missing-cost s First)
    (λ queue. if-cost s (is_too_long queue message) (refusal s Code.Error) (if has_message_room queue then message_put_outcome queue (message ∷ queue.messages) s else refusal s Code.Full) (λ long. refused s Code.Error)
    (λ fits. if-cost s (has_message_room queue) (message_put_outcome queue (message ∷ queue.messages) s) (refusal s Code.Full) (λ room. message_put-cost s queue (message ∷ queue.messages)) (λ full. refused s Code.Full)))

message_got-cost : (s : State) (queue : MsgQueue) (messages : List (List ℕ)) (timeout : Option ℕ) (by : By) (attempt : Attempt) → CostsCall (most by) s (mq_recv_outcome queue messages timeout s by attempt)
message_got-cost s queue [] timeout by attempt = wait_or-cost s by attempt (Call.MqRecv queue.name timeout) timeout Code.Timeout
message_got-cost s queue (message ∷ messages) timeout by attempt =
    let taken : State = with_queue s (record queue { messages = messages }) in
    let told : State = with_text taken by message in
    free-call s (mq_recv_outcome queue (message ∷ messages) timeout s by attempt) (retried-costs s (with_value told by (length message)) queue.order (sends_message queue.name) (λ t. value-stages told by (length message) t ∙ text-stages taken by message t)
    (costs-from s told (no_effect (with_value told by (length message))) 0 0 (costs-from s taken (no_effect told) 0 0 (queue-costs s (record queue { messages = messages })) (text-costs taken by message)) (value-costs told by (length message))))

mq_recv-cost : (s : State) (name : List ℕ) (timeout : Option ℕ) (by : By) (attempt : Attempt) → CostsCall (most by) s (mq_recv name timeout s by attempt)
mq_recv-cost s name timeout by attempt = found-cost s (find_queue s name) (missing_outcome s attempt) (λ queue. mq_recv_outcome queue queue.messages timeout s by attempt) (missing-cost s attempt) (λ queue. message_got-cost s queue queue.messages timeout by attempt)

-- deletions
deleted-cost : {n : ℕ} (s u : State) (ts : List ℕ) → Costs s (no_effect u) 0 → AllByRecursion (λ t. is_waiting (stage_at u.threads t) ≡ true) ts → AllApart (λ t. t) ts → CostsCall n s (deletion_outcome u ts)
deleted-cost s u ts costs waiting apart = free-call s (deletion_outcome u ts) (costs-from s u (each_effect (wake_effect Code.Error) ts u) 0 0 costs (each-wakes-cost (λ t. t) (wake_effect Code.Error) (λ t v is. wake-costs v Code.Error t is) (λ t v w off. wake-others v Code.Error t w off) ts u waiting apart))

sems-costs : (s : State) (q : Sem → Bool) → Costs s (no_effect (record s { sems = filter q s.sems })) 0
sems-costs s q = same-costs s (record s { sems = filter q s.sems }) refl refl refl refl refl (λ few. record { sems = omega (arith, filter-fewer q s.sems, few.sems); events = few.events; mutexes = few.mutexes; mailboxes = few.mailboxes; queues = few.queues })

events-costs : (s : State) (q : EventObj → Bool) → Costs s (no_effect (record s { events = filter q s.events })) 0
events-costs s q = same-costs s (record s { events = filter q s.events }) refl refl refl refl refl (λ few. record { sems = few.sems; events = omega (arith, filter-fewer q s.events, few.events); mutexes = few.mutexes; mailboxes = few.mailboxes; queues = few.queues })

mutexes-costs : (s : State) (q : Mutex → Bool) (holdings : List Holding) → Costs s (no_effect (record s { holdings = holdings; mutexes = filter q s.mutexes })) 0
mutexes-costs s q holdings = same-costs s (record s { holdings = holdings; mutexes = filter q s.mutexes }) refl refl refl refl refl (λ few. record { sems = few.sems; events = few.events; mutexes = omega (arith, filter-fewer q s.mutexes, few.mutexes); mailboxes = few.mailboxes; queues = few.queues })

mailboxes-costs : (s : State) (q : Mailbox → Bool) → Costs s (no_effect (record s { mailboxes = filter q s.mailboxes })) 0
mailboxes-costs s q = same-costs s (record s { mailboxes = filter q s.mailboxes }) refl refl refl refl refl (λ few. record { sems = few.sems; events = few.events; mutexes = few.mutexes; mailboxes = omega (arith, filter-fewer q s.mailboxes, few.mailboxes); queues = few.queues })

queues-costs : (s : State) (q : MsgQueue → Bool) → Costs s (no_effect (record s { queues = filter q s.queues })) 0
queues-costs s q = same-costs s (record s { queues = filter q s.queues }) refl refl refl refl refl (λ few. record { sems = few.sems; events = few.events; mutexes = few.mutexes; mailboxes = few.mailboxes; queues = omega (arith, filter-fewer q s.queues, few.queues) })

delete-cost : {n : ℕ} (s : State) (class : Class) (name : List ℕ) → CostsCall n s (delete class name s)
delete-cost s Class.Sem name = found-cost s (find_sem s name) (refusal s Code.Inval) (λ sem. deletion_outcome (record s { sems = filter (λ o. not (bytes_eq o.name name)) s.sems }) (waiters s sem.order (takes_sem name))) (refused s Code.Inval)
    (λ sem. deleted-cost s (record s { sems = filter (λ o. not (bytes_eq o.name name)) s.sems }) (waiters s sem.order (takes_sem name)) (sems-costs s (λ (o : Sem). not (bytes_eq o.name name))) (waiters-wait s sem.order (takes_sem name)) (waiters-apart s sem.order (takes_sem name)))
delete-cost s Class.Event name = found-cost s (find_event s name) (refusal s Code.Inval) (λ event. deletion_outcome (record s { events = filter (λ o. not (bytes_eq o.name name)) s.events }) (waiters s event.order (receives_event name))) (refused s Code.Inval)
    (λ event. deleted-cost s (record s { events = filter (λ o. not (bytes_eq o.name name)) s.events }) (waiters s event.order (receives_event name)) (events-costs s (λ (o : EventObj). not (bytes_eq o.name name))) (waiters-wait s event.order (receives_event name)) (waiters-apart s event.order (receives_event name)))
delete-cost s Class.Mutex name = found-cost s (find_mutex s name) (refusal s Code.Inval) (λ mutex. deletion_outcome (record (without_owner s name) { mutexes = filter (λ o. not (bytes_eq o.name name)) s.mutexes }) (waiters s WaitOrder.Prio (takes_mutex name))) (refused s Code.Inval)
    (λ mutex. deleted-cost s (record (without_owner s name) { mutexes = filter (λ o. not (bytes_eq o.name name)) s.mutexes }) (waiters s WaitOrder.Prio (takes_mutex name)) (mutexes-costs s (λ (o : Mutex). not (bytes_eq o.name name)) (without_owner s name).holdings) (waiters-wait s WaitOrder.Prio (takes_mutex name)) (waiters-apart s WaitOrder.Prio (takes_mutex name)))
delete-cost s Class.Mailbox name = found-cost s (find_mailbox s name) (refusal s Code.Inval) (λ mailbox. deletion_outcome (record s { mailboxes = filter (λ o. not (bytes_eq o.name name)) s.mailboxes }) (waiters s mailbox.order (receives_mail name) ++ waiters s mailbox.order (sends_mail name))) (refused s Code.Inval)
    (λ mailbox. deleted-cost s (record s { mailboxes = filter (λ o. not (bytes_eq o.name name)) s.mailboxes }) (waiters s mailbox.order (receives_mail name) ++ waiters s mailbox.order (sends_mail name)) (mailboxes-costs s (λ (o : Mailbox). not (bytes_eq o.name name)))
    (all-append (λ t. is_waiting (stage_at s.threads t) ≡ true) (waiters s mailbox.order (receives_mail name)) (waiters s mailbox.order (sends_mail name)) (waiters-wait s mailbox.order (receives_mail name)) (waiters-wait s mailbox.order (sends_mail name))) (lists-apart s mailbox.order (receives_mail name) (sends_mail name) (mail-lists name)))
delete-cost s Class.MsgQueue name = found-cost s (find_queue s name) (refusal s Code.Inval) (λ queue. deletion_outcome (record s { queues = filter (λ o. not (bytes_eq o.name name)) s.queues }) (waiters s queue.order (receives_message name) ++ waiters s queue.order (sends_message name))) (refused s Code.Inval)
    (λ queue. deleted-cost s (record s { queues = filter (λ o. not (bytes_eq o.name name)) s.queues }) (waiters s queue.order (receives_message name) ++ waiters s queue.order (sends_message name)) (queues-costs s (λ (o : MsgQueue). not (bytes_eq o.name name)))
    (all-append (λ t. is_waiting (stage_at s.threads t) ≡ true) (waiters s queue.order (receives_message name)) (waiters s queue.order (sends_message name)) (waiters-wait s queue.order (receives_message name)) (waiters-wait s queue.order (sends_message name))) (lists-apart s queue.order (receives_message name) (sends_message name) (message-lists name)))
delete-cost s Class.Thread name = refused s Code.Inval
delete-cost s Class.Timer name = refused s Code.Inval
delete-cost s Class.Device name = refused s Code.Inval

-- pools
pool-costs : (s : State) (pool : Pool) → Costs s (no_effect (with_pool s pool)) 0
pool-costs s pool = other-costs s (with_pool s pool) refl refl refl refl refl refl refl refl refl refl

allocated-cost : (s : State) (pool : Pool) (o : Option ℕ) (timeout : Option ℕ) (by : By) → CostsCall (most by) s (mp_alloc_outcome pool o timeout s by)
allocated-cost s pool None timeout by = wait_or-cost s by First (Call.MpAlloc pool.name timeout) timeout Code.Timeout
allocated-cost s pool (Some block) timeout (ByTimer timer) = refused s Code.Error
allocated-cost s pool (Some block) timeout (ByThread t core) =
    let held : State = with_pool s (with_block_held pool block t) in
    let told : State = with_value held (ByThread t core) (place_of pool block) in
    silent s told (costs-from s held (no_effect told) 0 0 (pool-costs s (with_block_held pool block t)) (value-costs held (ByThread t core) (place_of pool block)))

mp_alloc-cost : (s : State) (name : List ℕ) (timeout : Option ℕ) (by : By) → CostsCall (most by) s (mp_alloc name timeout s by)
mp_alloc-cost s name timeout by = found-cost s (find_pool s name) (refusal s Code.Inval) (λ pool. mp_alloc_outcome pool (free_block pool) timeout s by) (refused s Code.Inval) (λ pool. allocated-cost s pool (free_block pool) timeout by)

passed-cost : {n : ℕ} (s : State) (pool : Pool) (block : ℕ) (o : Option ℕ) → ((t : ℕ) → o ≡ Some t → is_waiting (thread_at s t).stage ≡ true) → CostsCall n s (passed_block_outcome pool block o s)
passed-cost s pool block None waiting = silent s (with_pool s (with_block_freed pool block)) (pool-costs s (with_block_freed pool block))
passed-cost s pool block (Some t) waiting =
    let held : State = with_pool s (with_block_held pool block t) in
    let told : State = state_with_block pool block t s in
    let row : Thread = record (thread_at s t) { value = place_of pool block } in
    let still : is_waiting (thread_at told t).stage ≡ true = ap is_waiting (same-set (λ (r : Thread). r.stage) s.threads t t row no_thread refl) ∙ waiting t refl in
    free-call s (passed_block_outcome pool block (Some t) s) (costs-from s held (wake_effect Code.Ok t told) 0 0 (pool-costs s (with_block_held pool block t)) (costs-from held told (wake_effect Code.Ok t told) 0 0 (thread-costs held t row refl) (wake-costs told Code.Ok t still)))

freed-cost : {n : ℕ} (s : State) (pool : Pool) (o : Option ℕ) → CostsCall n s (mp_free_outcome pool o s)
freed-cost s pool None = refused s Code.Error
freed-cost s pool (Some block) = passed-cost s pool block (first_waiter s pool.order (takes_block pool.name)) (first-waits s pool.order (takes_block pool.name))

given_back-cost : {n : ℕ} (s : State) (pool : Pool) (by : By) → CostsCall n s (thread_outcome s by (λ t core. mp_free_outcome pool (last_block pool t) s))
given_back-cost s pool (ByThread t core) = freed-cost s pool (last_block pool t)
given_back-cost s pool (ByTimer timer) = refused s Code.Error

mp_free-cost : {n : ℕ} (s : State) (name : List ℕ) (by : By) → CostsCall n s (mp_free name s by)
mp_free-cost s name by = found-cost s (find_pool s name) (refusal s Code.Inval) (λ pool. thread_outcome s by (λ t core. mp_free_outcome pool (last_block pool t) s)) (refused s Code.Inval) (λ pool. given_back-cost s pool by)

-- timers
-- an armed row takes a number
pub armed-cost : (s : State) (timer : Timer) → Costs s (no_effect (with_timer_armed s timer)) 1
armed-cost s timer = record { lines = omega arith; numbers = omega arith; stays = stays-parts s (with_timer_armed s timer) refl refl refl refl refl refl refl refl refl }

pub disarmed-cost : (s : State) (alarm : Alarm) → Costs s (no_effect (without_alarm s alarm)) 0
disarmed-cost s alarm = other-costs s (without_alarm s alarm) refl refl refl refl refl refl refl refl refl refl

dropped-cost : (s : State) (name : List ℕ) → Costs s (line_effect (without_work s name) (Line.Unwork name)) 1
dropped-cost s name = line-cost s (without_work s name) (Line.Unwork name) (other-costs s (without_work s name) refl refl refl refl refl refl refl refl refl refl)

started-cost : (s : State) (timer : Timer) → Costs s (timer_start_effect timer s) 1
started-cost s timer = by_work (has_work s timer.name) where
  by_work : (c : Bool) → let e = if c then line_effect (without_work s timer.name) (Line.Unwork timer.name) else no_effect s in Costs s (record e { state = with_timer_armed e.state timer }) 1
  by_work true = record { lines = omega arith; numbers = omega arith; stays = stays-parts s (with_timer_armed (without_work s timer.name) timer) refl refl refl refl refl refl refl refl refl }
  by_work false = armed-cost s timer

timer_start-cost : (s : State) (name : List ℕ) → CostsCall 1 s (timer_start name s)
timer_start-cost s name = found-cost s (find_timer s name) (refusal s Code.Inval) (λ timer. success (timer_start_effect timer s)) (refused s Code.Inval) (λ timer. started-cost s timer)

stopped-cost : (s : State) (name : List ℕ) (c : Bool) → has_work s name ≡ c → CostsCall 1 s (if c then success (unwork_effect name s) else if is_some (due_of s (OfTimer name)) then silent_success (without_alarm s (OfTimer name)) else refusal s Code.Error)
stopped-cost s name true is = rw is (dropped-cost s name)
stopped-cost s name false is = if-cost s (is_some (due_of s (OfTimer name))) (silent_success (without_alarm s (OfTimer name))) (refusal s Code.Error) (λ armed. silent s (without_alarm s (OfTimer name)) (disarmed-cost s (OfTimer name))) (λ armed. refused s Code.Error)

timer_stop-cost : (s : State) (name : List ℕ) → CostsCall 1 s (timer_stop name s)
timer_stop-cost s name = found-cost s (find_timer s name) (refusal s Code.Inval) (λ timer. if has_work s name then success (unwork_effect name s) else if is_some (due_of s (OfTimer name)) then silent_success (without_alarm s (OfTimer name)) else refusal s Code.Error) (refused s Code.Inval) (λ timer. stopped-cost s name (has_work s name) refl)

timer_set-cost : {n : ℕ} (s : State) (name : List ℕ) (time : ℕ) → CostsCall n s (timer_set name time s)
timer_set-cost s name time = found-cost s (find_timer s name) (refusal s Code.Inval) (λ timer. silent_success (with_timer s (record timer { time = time }))) (refused s Code.Inval) (λ timer. silent s (with_timer s (record timer { time = time })) (timer-costs s (record timer { time = time })))

-- devices
dev_open-cost : {n : ℕ} (s : State) (name : List ℕ) → CostsCall n s (dev_open name s)
dev_open-cost s name = found-cost s (find_device s name) (refusal s Code.Inval) (λ device. if eqb device.opened 255 then refusal s Code.Full else silent_success (with_device s (record device { opened = device.opened + 1 }))) (refused s Code.Inval)
    (λ device. if-cost s (eqb device.opened 255) (refusal s Code.Full) (silent_success (with_device s (record device { opened = device.opened + 1 }))) (λ is. refused s Code.Full) (λ is. silent s (with_device s (record device { opened = device.opened + 1 })) (device-costs s (record device { opened = device.opened + 1 }))))

dev_close-cost : {n : ℕ} (s : State) (name : List ℕ) → CostsCall n s (dev_close name s)
dev_close-cost s name = found-cost s (find_device s name) (refusal s Code.Inval) (λ device. if may_close device then silent_success (with_device s (device_after_close device)) else refusal s Code.Error) (refused s Code.Inval)
    (λ device. if-cost s (may_close device) (silent_success (with_device s (device_after_close device))) (refusal s Code.Error) (λ is. silent s (with_device s (device_after_close device)) (device-costs s (device_after_close device))) (λ is. refused s Code.Error))

dev_read-cost : (s : State) (name : List ℕ) (count : ℕ) (by : By) → CostsCall (most by) s (dev_read name count s by)
dev_read-cost s name count by = found-cost s (find_device s name) (refusal s Code.Inval) (λ device. if is_open device then silent_success (state_after_read device count s by) else refusal s Code.Error) (refused s Code.Inval)
    (λ device. if-cost s (is_open device) (silent_success (state_after_read device count s by)) (refusal s Code.Error) (λ is. silent s (state_after_read device count s by) (read device)) (λ is. refused s Code.Error)) where
      read : (device : Device) → Costs s (no_effect (state_after_read device count s by)) 0
      read device =
          let taken : State = with_device s (record device { rx = drop count device.rx }) in
          let told : State = with_text taken by (take count device.rx) in
          costs-from s told (no_effect (state_after_read device count s by)) 0 0 (costs-from s taken (no_effect told) 0 0 (device-costs s (record device { rx = drop count device.rx })) (text-costs taken by (take count device.rx))) (value-costs told by (min count (length device.rx)))

written-cost : (s : State) (device : Device) (text : List ℕ) (by : By) → Costs s (write_effect device text s by) 1
written-cost s device text by = by_kind device.console where
  kept : State
  kept = with_device s (record device { tx = device.tx ++ fitting_bytes device text })

  by_kind : (c : Bool) → Costs s (if c then line_effect (with_value s by (length text)) (Line.Print text) else no_effect (with_value kept by (length (fitting_bytes device text)))) 1
  by_kind true = line-cost s (with_value s by (length text)) (Line.Print text) (value-costs s by (length text))
  by_kind false = costs-more s (no_effect (with_value kept by (length (fitting_bytes device text)))) 0 1 (omega arith) (costs-from s kept (no_effect (with_value kept by (length (fitting_bytes device text)))) 0 0 (device-costs s (record device { tx = device.tx ++ fitting_bytes device text })) (value-costs kept by (length (fitting_bytes device text))))

dev_write-cost : (s : State) (name text : List ℕ) (by : By) → CostsCall (most by) s (dev_write name text s by)
dev_write-cost s name text by = found-cost s (find_device s name) (refusal s Code.Inval) (λ device. if is_open device then success (write_effect device text s by) else refusal s Code.Error) (refused s Code.Inval)
    (λ device. if-cost s (is_open device) (success (write_effect device text s by)) (refusal s Code.Error) (λ is. any-call s by (success (write_effect device text s by)) (written-cost s device text by)) (λ is. refused s Code.Error))

dev_ctl-cost : {n : ℕ} (s : State) (name : List ℕ) (rate : ℕ) → CostsCall n s (dev_ctl name rate s)
dev_ctl-cost s name rate = found-cost s (find_device s name) (refusal s Code.Inval) (λ device. if device.console then refusal s Code.NoSys else silent_success (with_device s (record device { rate = rate }))) (refused s Code.Inval)
    (λ device. if-cost s device.console (refusal s Code.NoSys) (silent_success (with_device s (record device { rate = rate }))) (λ is. refused s Code.NoSys) (λ is. silent s (with_device s (record device { rate = rate })) (device-costs s (record device { rate = rate }))))

-- votes
votes-cost : {n : ℕ} (s : State) (votes : List ℕ) → CostsCall n s (silent_success (record s { votes = votes }))
votes-cost s votes = silent s (record s { votes = votes }) (other-costs s (record s { votes = votes }) refl refl refl refl refl refl refl refl refl refl)

pm_request-cost : {n : ℕ} (s : State) (mode : Sleep) → CostsCall n s (pm_request mode s)
pm_request-cost s mode = if-cost s (eqb (votes_for s.votes mode) 255) (refusal s Code.Full) (silent_success (record s { votes = with_votes mode (votes_for s.votes mode + 1) s.votes })) (λ is. refused s Code.Full) (λ is. votes-cost s (with_votes mode (votes_for s.votes mode + 1) s.votes))

pm_release-cost : {n : ℕ} (s : State) (mode : Sleep) → CostsCall n s (pm_release mode s)
pm_release-cost s mode = if-cost s (eqb (votes_for s.votes mode) 0) (refusal s Code.Error) (silent_success (record s { votes = with_votes mode (votes_for s.votes mode - 1) s.votes })) (λ is. refused s Code.Error) (λ is. votes-cost s (with_votes mode (votes_for s.votes mode - 1) s.votes))

-- the whole table
pub outcome-cost : (b : PlainBoard) (s : State) (call : Call) (by : By) (attempt : Attempt) → HasFew b → CostsCall (most by) s (outcome_of b call s by attempt)
outcome-cost b s (Call.Delay ticks) by attempt has = delay-cost s by ticks
outcome-cost b s Call.Yield by attempt has = yield-cost s by
outcome-cost b s (Call.Startup name) by attempt has = any-call s by (startup name s) (startup-cost s name)
outcome-cost b s (Call.Suspend name) by attempt has = suspend-cost s name by
outcome-cost b s (Call.Resume name) by attempt has = any-call s by (resume name s) (resume-cost s name)
outcome-cost b s (Call.Kill name) by attempt has = any-call s by (kill name s) (kill-cost s name)
outcome-cost b s (Call.SetPrio name prio) by attempt has = set_prio-cost s name prio
outcome-cost b s Call.Lock by attempt has = lock-cost s by
outcome-cost b s Call.Unlock by attempt has = unlock-cost s by
outcome-cost b s Call.SchedLock by attempt has = sched_lock-cost s by
outcome-cost b s Call.SchedUnlock by attempt has = sched_unlock-cost s by
outcome-cost b s (Call.SemCreate name value order) by attempt has = sem_create-cost b s name value order has
outcome-cost b s (Call.SemTake name timeout) by attempt has = sem_take-cost s name timeout by
outcome-cost b s (Call.SemRelease name) by attempt has = free-call s (sem_release name s) (sem_release-costs s name)
outcome-cost b s (Call.EventCreate name order) by attempt has = event_create-cost b s name order has
outcome-cost b s (Call.EventSend name mask) by attempt has = event_send-cost s name mask
outcome-cost b s (Call.EventRecv name mask all clear timeout) by attempt has = event_recv-cost s name (record { mask = mask; all = all; clear = clear }) timeout by
outcome-cost b s (Call.MutexCreate name ceiling) by attempt has = mutex_create-cost b s name ceiling has
outcome-cost b s (Call.MutexTake name timeout) by attempt has = mutex_take-cost s name timeout by
outcome-cost b s (Call.MutexRelease name) by attempt has = mutex_release-cost s name by
outcome-cost b s (Call.MutexCeiling name ceiling) by attempt has = mutex_ceiling-cost s name ceiling by
outcome-cost b s (Call.MbSend name word timeout) by attempt has = mb_send-cost s name word timeout by attempt
outcome-cost b s (Call.MbUrgent name word) by attempt has = mb_urgent-cost s name word
outcome-cost b s (Call.MbRecv name timeout) by attempt has = mb_recv-cost s name timeout by attempt
outcome-cost b s (Call.MqSend name timeout message) by attempt has = mq_send-cost s name message timeout by attempt
outcome-cost b s (Call.MqUrgent name message) by attempt has = mq_urgent-cost s name message
outcome-cost b s (Call.MqRecv name timeout) by attempt has = mq_recv-cost s name timeout by attempt
outcome-cost b s (Call.Delete class name) by attempt has = delete-cost s class name
outcome-cost b s (Call.TimerStart name) by attempt has = any-call s by (timer_start name s) (timer_start-cost s name)
outcome-cost b s (Call.TimerStop name) by attempt has = any-call s by (timer_stop name s) (timer_stop-cost s name)
outcome-cost b s (Call.TimerSet name time) by attempt has = timer_set-cost s name time
outcome-cost b s (Call.DevOpen name) by attempt has = dev_open-cost s name
outcome-cost b s (Call.DevClose name) by attempt has = dev_close-cost s name
outcome-cost b s (Call.DevRead name count) by attempt has = dev_read-cost s name count by
outcome-cost b s (Call.DevWrite name text) by attempt has = dev_write-cost s name text by
outcome-cost b s (Call.DevCtl name rate) by attempt has = dev_ctl-cost s name rate
outcome-cost b s (Call.PmRequest mode) by attempt has = pm_request-cost s mode
outcome-cost b s (Call.PmRelease mode) by attempt has = pm_release-cost s mode
outcome-cost b s (Call.PmRun mode) by attempt has = silent s (record s { run_mode = mode }) (other-costs s (record s { run_mode = mode }) refl refl refl refl refl refl refl refl refl refl)
outcome-cost b s (Call.MpAlloc name timeout) by attempt has = mp_alloc-cost s name timeout by
outcome-cost b s (Call.MpFree name) by attempt has = mp_free-cost s name by

most-two : (by : By) → most by ≤ 2
most-two (ByThread t core) = omega arith
most-two (ByTimer name) = omega arith

pub call-numbers : (b : PlainBoard) (s : State) (call : Call) (by : By) (attempt : Attempt) → HasFew b → (outcome_of b call s by attempt).effect.state.numbers ≤ s.numbers + 2
call-numbers b s call by attempt has = omega (arith, (outcome-cost b s call by attempt has).numbers, most-two by)
