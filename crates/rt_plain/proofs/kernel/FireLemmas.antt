-- How many lines a fired row shows.
use Rattle.std.proofs.Common.{◌≡◌, ◌+◌, ◌-◌, ◌*◌, ◌≤◌, ◌∷◌, [], ℕ, suc, List, Option, Some, None, Bool, true, false, IsTrue, is_some, length, eqb, refl, ap, ◌∙◌, arith, if◌then◌else◌, bit_or, bytes_eq}
use Rattle.std.specs.List.{AllByRecursion, All}
use Rattle.std.proofs.lemmas.List.{length-map}
use Rattle.std.proofs.lemmas.List.FromFn.{length-range_with_len}
use Rattle.std.proofs.lemmas.List.Elements.{recursion_from_All}
use Rattle.rt_base.specs.declared.codes.Code.{Code}
use Rattle.rt_base.specs.declared.codes.WaitOrder.{WaitOrder}
use Rattle.rt_plain.specs.declared.line.Line.{Line}
use Rattle.rt_plain.specs.declared.line.Fired.{Fired}
use Rattle.rt_plain.specs.declared.stmt.Call.{Call}
use Rattle.rt_plain.specs.declared.stmt.Stmt.{Stmt}
use Rattle.rt_plain.specs.PlainBoard.{PlainBoard}
use Rattle.rt_plain.specs.kernel.State.{State, Device, Stage, Initial, Active, Waiting, Suspended, Closed, Timer, Sem, EventObj, Alarm, OfThread, OfTimer, ArmedRow, Arriving, thread_at, thread_numbers, find_thread, is_initial}
use Rattle.rt_plain.specs.kernel.Effects.{Effect, no_effect, line_effect, each_effect, retry_wake_effect, effect_for, without_alarm, due_of}
use Rattle.rt_plain.specs.kernel.Waiting.{Waiter, stands_before, put_in_order, in_order, waiter_of, number_in, wait_rows, waiters, first_waiter, takes_sem, receives_event, receives_mail, receives_message}
use Rattle.rt_plain.specs.kernel.Outcome.{Outcome, By, ByTimer, Attempt, First, refusal, success, silent_success, found_outcome, missing_outcome}
use Rattle.rt_plain.specs.kernel.ThreadCalls.{start_effect, resume_outcome}
use Rattle.rt_plain.specs.kernel.SemCalls.{find_sem, sem_release_outcome, with_sem}
use Rattle.rt_plain.specs.kernel.EventCalls.{Wanting, find_event, flags_wake_effect, satisfied_waiters, wanting_threads, is_satisfied, want_of, flags_left, with_event, event_send_outcome}
use Rattle.rt_plain.specs.kernel.MailboxCalls.{find_mailbox, has_mail_room, mail_put_outcome, with_mailbox}
use Rattle.rt_plain.specs.kernel.QueueCalls.{find_queue, is_too_long, has_message_room, message_put_outcome, mq_urgent_outcome, with_queue}
use Rattle.rt_plain.specs.kernel.TimerCalls.{find_timer, timer_start_effect, with_timer}
use Rattle.rt_plain.specs.kernel.TimerKinds.{is_soft, is_timer_call, is_timer_action}
use Rattle.rt_plain.specs.kernel.Works.{has_work, unwork_effect, without_work, with_work, work_waiter}
use Rattle.rt_plain.specs.kernel.PowerCalls.{votes_for, with_votes}
use Rattle.rt_plain.specs.kernel.Calls.{outcome_of}
use Rattle.rt_plain.specs.kernel.DeviceCalls.{find_device, with_device, ring_after, console_waiter, indication_effect, notice_effect, arrival_effect_at, arrival_effect}
use Rattle.rt_plain.specs.kernel.Due.{timer_effect, timer_action_effect, soft_timer_effect, fired_timer_effect, with_period, alarm_effect, fired_row_effect}
use Rattle.rt_plain.specs.kernel.Sound.{IsWaitedFor}
use Rattle.rt_plain.proofs.kernel.TallyLemmas.{all-found}
use Rattle.rt_plain.proofs.kernel.CallCosts.{HasFew, filter-fewer}
use Rattle.rt_plain.proofs.kernel.CostLemmas.{Costs}
use Rattle.rt_plain.proofs.kernel.WorkCosts.{period-cost}
use Rattle.rt_plain.proofs.kernel.TickCosts.{alarm-cost}
use Rattle.rt_plain.specs.kernel.Kept.{IsWaited}
use Rattle.rt_plain.proofs.kernel.StatementCosts.{map-few, settled-lines}

-- a wait list has no more threads than there are
put-size : (order : WaitOrder) (a : Waiter) (ws : List Waiter) → length (put_in_order order a ws) ≡ suc (length ws)
put-size order a [] = refl
put-size order a (w ∷ ws) = by_test (stands_before order a w) (put-size order a ws) where
  by_test : (c : Bool) → length (put_in_order order a ws) ≡ suc (length ws) → length (if c then a ∷ w ∷ ws else w ∷ put_in_order order a ws) ≡ suc (suc (length ws))
  by_test true same = refl
  by_test false same = ap suc same

order-size : (order : WaitOrder) (ws : List Waiter) → length (in_order order ws) ≡ length ws
order-size order [] = refl
order-size order (w ∷ ws) = put-size order w (in_order order ws) ∙ ap suc (order-size order ws)

waiters-few : (s : State) (order : WaitOrder) (in_list : Call → Bool) → length (waiters s order in_list) ≤ length s.threads
waiters-few s order in_list = omega (arith, length-map (in_order order (wait_rows s in_list)) (λ (w : Waiter). w.thread), order-size order (wait_rows s in_list), map-few (λ t. waiter_of s t (number_in in_list (thread_at s t).stage)) (thread_numbers s), length-range_with_len 0 (length s.threads))

-- each satisfied waiter shows one line
flags-lines : (flags : ℕ) (ws : List Wanting) (s : State) → length (each_effect (flags_wake_effect flags) ws s).lines ≡ length ws
flags-lines flags [] s = refl
flags-lines flags (w ∷ ws) s = ap suc (flags-lines flags ws (flags_wake_effect flags w s).state)

-- a call that a timer may make shows a line for each thread at most, and one
abbrev FewLines : State → Outcome → Type 0
FewLines s outcome = length outcome.effect.lines ≤ length s.threads + 1

if-few : (s : State) (c : Bool) (x y : Outcome) → FewLines s x → FewLines s y → FewLines s (if c then x else y)
if-few s true x y one other = one
if-few s false x y one other = other

found-few : (s : State) {A : Type 0} (o : Option A) (missing : Outcome) (act : A → Outcome) → FewLines s missing → ((x : A) → FewLines s (act x)) → FewLines s (found_outcome o missing act)
found-few s None missing act none some = none
found-few s (Some x) missing act none some = some x

none-few : (s : State) (code : Code) → FewLines s (refusal s code)
none-few s code = omega arith

woken-one : (s : State) (o : Option ℕ) → length (effect_for retry_wake_effect o s).lines ≤ 1
woken-one s None = omega arith
woken-one s (Some t) = omega arith

for-few : (s u : State) (o : Option ℕ) → length (effect_for retry_wake_effect o u).lines ≤ length s.threads + 1
for-few s u o = omega (arith, woken-one u o)

resumed-few : (s : State) (t : ℕ) (stage : Stage) → FewLines s (resume_outcome t stage s)
resumed-few s t Suspended = omega arith
resumed-few s t (Waiting what number) = omega arith
resumed-few s t Initial = omega arith
resumed-few s t Active = omega arith
resumed-few s t Closed = omega arith

released-few : (s : State) (sem : Sem) (o : Option ℕ) → FewLines s (sem_release_outcome sem o s)
released-few s sem None = if-few s (eqb sem.value 65535) (refusal s Code.Full) (silent_success (with_sem s (record sem { value = sem.value + 1 }))) (omega arith) (omega arith)
released-few s sem (Some t) = omega arith

sent-few : (s : State) (event : EventObj) (mask : ℕ) → FewLines s (event_send_outcome event mask s)
sent-few s event mask =
    let flags : ℕ = bit_or event.flags mask in
    let wanting : List Wanting = wanting_threads s event in
    omega (arith, flags-lines flags (satisfied_waiters flags wanting) (with_event s (record event { flags = flags_left flags wanting })), filter-fewer (λ (w : Wanting). is_satisfied flags w.want) wanting, length-map {B = Wanting} (waiters s event.order (receives_event event.name)) (λ t. record { thread = t; want = want_of (thread_at s t).stage }), waiters-few s event.order (receives_event event.name))

-- a timer that leaves the works shows a line
unworked-few : (s : State) (name : List ℕ) (c : Bool) → length (if c then line_effect (without_work s name) (Line.Unwork name) else no_effect s).lines ≤ length s.threads + 1
unworked-few s name true = omega arith
unworked-few s name false = omega arith

timer-call-few : (b : PlainBoard) (s : State) (call : Call) (by : By) (attempt : Attempt) → is_timer_call call ≡ true → FewLines s (outcome_of b call s by attempt)
timer-call-few b s (Call.Startup name) by attempt may = found-few s (find_thread s name) (refusal s Code.Inval) (λ t. if is_initial (thread_at s t).stage then success (start_effect t s) else refusal s Code.Error) (none-few s Code.Inval) (λ t. if-few s (is_initial (thread_at s t).stage) (success (start_effect t s)) (refusal s Code.Error) (omega arith) (omega arith))
timer-call-few b s (Call.Resume name) by attempt may = found-few s (find_thread s name) (refusal s Code.Inval) (λ t. resume_outcome t (thread_at s t).stage s) (none-few s Code.Inval) (λ t. resumed-few s t (thread_at s t).stage)
timer-call-few b s (Call.SemRelease name) by attempt may = found-few s (find_sem s name) (refusal s Code.Inval) (λ sem. sem_release_outcome sem (first_waiter s sem.order (takes_sem name)) s) (none-few s Code.Inval) (λ sem. released-few s sem (first_waiter s sem.order (takes_sem name)))
timer-call-few b s (Call.EventSend name mask) by attempt may = found-few s (find_event s name) (refusal s Code.Inval) (λ event. event_send_outcome event mask s) (none-few s Code.Inval) (λ event. sent-few s event mask)
timer-call-few b s (Call.MbUrgent name word) by attempt may = found-few s (find_mailbox s name) (missing_outcome s First) (λ mailbox. if has_mail_room mailbox then mail_put_outcome mailbox (word ∷ mailbox.words) s else refusal s Code.Full) (none-few s Code.Inval)
    (λ mailbox. if-few s (has_mail_room mailbox) (mail_put_outcome mailbox (word ∷ mailbox.words) s) (refusal s Code.Full) (for-few s (with_mailbox s (record mailbox { words = word ∷ mailbox.words })) (first_waiter s mailbox.order (receives_mail mailbox.name))) (omega arith))
timer-call-few b s (Call.MqUrgent name message) by attempt may = found-few s (find_queue s name) (missing_outcome s First) (λ queue. mq_urgent_outcome queue message s) (none-few s Code.Inval)
    (λ queue. if-few s (is_too_long queue message) (refusal s Code.Error) (if has_message_room queue then message_put_outcome queue (message ∷ queue.messages) s else refusal s Code.Full) (omega arith)
    (if-few s (has_message_room queue) (message_put_outcome queue (message ∷ queue.messages) s) (refusal s Code.Full) (for-few s (with_queue s (record queue { messages = message ∷ queue.messages })) (first_waiter s queue.order (receives_message queue.name))) (omega arith)))
timer-call-few b s (Call.TimerStart name) by attempt may = found-few s (find_timer s name) (refusal s Code.Inval) (λ timer. success (timer_start_effect timer s)) (none-few s Code.Inval) (λ timer. unworked-few s timer.name (has_work s timer.name))
timer-call-few b s (Call.TimerStop name) by attempt may = found-few s (find_timer s name) (refusal s Code.Inval) (λ timer. if has_work s name then success (unwork_effect name s) else if is_some (due_of s (OfTimer name)) then silent_success (without_alarm s (OfTimer name)) else refusal s Code.Error) (none-few s Code.Inval)
    (λ timer. if-few s (has_work s name) (success (unwork_effect name s)) (if is_some (due_of s (OfTimer name)) then silent_success (without_alarm s (OfTimer name)) else refusal s Code.Error) (unworked-few s name (has_work s name))
    (if-few s (is_some (due_of s (OfTimer name))) (silent_success (without_alarm s (OfTimer name))) (refusal s Code.Error) (omega arith) (omega arith)))
timer-call-few b s (Call.TimerSet name time) by attempt may = found-few s (find_timer s name) (refusal s Code.Inval) (λ timer. silent_success (with_timer s (record timer { time = time }))) (none-few s Code.Inval) (λ timer. omega arith)
timer-call-few b s (Call.PmRequest mode) by attempt may = if-few s (eqb (votes_for s.votes mode) 255) (refusal s Code.Full) (silent_success (record s { votes = with_votes mode (votes_for s.votes mode + 1) s.votes })) (omega arith) (omega arith)
timer-call-few b s (Call.PmRelease mode) by attempt may = if-few s (eqb (votes_for s.votes mode) 0) (refusal s Code.Error) (silent_success (record s { votes = with_votes mode (votes_for s.votes mode - 1) s.votes })) (omega arith) (omega arith)
timer-call-few b s (Call.PmRun mode) by attempt may = omega arith
timer-call-few b s _ by attempt may = absurd cc

-- with its line, a timer that acts shows so many and one more
action-few : (b : PlainBoard) (line : Fired → Line) (s : State) (timer : Timer) → is_timer_action timer.call ≡ true → length (timer_action_effect b line timer s).lines ≤ length s.threads + 2
action-few b line s timer = by_action timer.call where
  again : State
  again = with_period timer.kind timer s

  same : length again.threads ≡ length s.threads
  same = (period-cost s timer.kind timer).stays.threads

  by_action : (action : Option Stmt) → is_timer_action action ≡ true → length (timer_effect b line timer.name action again).lines ≤ length s.threads + 2
  by_action (Some (Stmt.Do call)) may = omega (arith, same, timer-call-few b again call (ByTimer timer.name) First may)
  by_action (Some (Stmt.Print text)) may = omega arith
  by_action (Some _) may = omega arith
  by_action None may = omega arith

fired-few : (b : PlainBoard) (s : State) (o : Option Timer) → ((timer : Timer) → o ≡ Some timer → is_timer_action timer.call ≡ true) → length (fired_timer_effect b o s).lines ≤ length s.threads + 2
fired-few b s None may = omega arith
fired-few b s (Some timer) may = by_kind (is_soft timer.kind) where
  by_kind : (c : Bool) → length (if c then soft_timer_effect timer.name s else timer_action_effect b (Line.Fire timer.name) timer s).lines ≤ length s.threads + 2
  by_kind true = omega (arith, woken-one (with_work s timer.name) (work_waiter (with_work s timer.name)))
  by_kind false = action-few b (Line.Fire timer.name) s timer (may timer refl)

alarm-few : (b : PlainBoard) (s : State) (alarm : Alarm) → AllByRecursion (λ (timer : Timer). is_timer_action timer.call ≡ true) s.timers → length (alarm_effect b alarm s).lines ≤ length s.threads + 2
alarm-few b s (OfThread t) may = omega arith
alarm-few b s (OfTimer name) may = fired-few b s (find_timer s name) (λ timer is. all-found (λ (o : Timer). is_timer_action o.call ≡ true) (λ (o : Timer). bytes_eq o.name name) s.timers timer is may)

row-waits : (s : State) (alarm : Alarm) → IsWaitedFor s alarm → IsWaited s.threads alarm
row-waits s (OfThread t) waits = waits
row-waits s (OfTimer name) waits = tt

pub fire-lines : (b : PlainBoard) (s : State) (row : ArmedRow Alarm) → HasFew b → IsWaitedFor s row.alarm → All (λ timer. IsTrue (is_timer_action timer.call)) s.timers → length (fired_row_effect b row s).lines ≤ 2 * length s.threads + 4
fire-lines b s row has waits may =
    let free : State = without_alarm s row.alarm in
    let fired : Effect = alarm_effect b row.alarm free in
    let costs : Costs free fired 2 = alarm-cost b free row.alarm (row-waits s row.alarm waits) has in
    omega (arith, settled-lines b s fired, costs.stays.threads, alarm-few b free row.alarm (recursion_from_All (λ (timer : Timer). IsTrue (is_timer_action timer.call)) s.timers may))

-- a row that fires takes the numbers of what it does
pub fire-numbers : (b : PlainBoard) (s : State) (row : ArmedRow Alarm) → HasFew b → IsWaitedFor s row.alarm → (fired_row_effect b row s).state.numbers ≤ s.numbers + 2
fire-numbers b s row has waits = (alarm-cost b (without_alarm s row.alarm) row.alarm (row-waits s row.alarm waits) has).numbers

-- an arrival shows its line, and one that wakes
released-one : (s : State) (sem : Sem) (o : Option ℕ) → length (sem_release_outcome sem o s).effect.lines ≤ 1
released-one s sem (Some t) = omega arith
released-one s sem None = by_value (eqb sem.value 65535) where
  by_value : (c : Bool) → length (if c then refusal s Code.Full else silent_success (with_sem s (record sem { value = sem.value + 1 }))).effect.lines ≤ 1
  by_value true = omega arith
  by_value false = omega arith

indicated-one : (s : State) (sem : Option (List ℕ)) → length (indication_effect sem s).lines ≤ 1
indicated-one s None = omega arith
indicated-one s (Some name) = by_found (find_sem s name) where
  by_found : (o : Option Sem) → length (found_outcome o (refusal s Code.Inval) (λ sem. sem_release_outcome sem (first_waiter s sem.order (takes_sem name)) s)).effect.lines ≤ 1
  by_found None = omega arith
  by_found (Some sem) = released-one s sem (first_waiter s sem.order (takes_sem name))

noticed-one : (s : State) (device : Device) → length (notice_effect device s).lines ≤ 1
noticed-one s device = by_kind device.console where
  by_kind : (c : Bool) → length (if c then effect_for retry_wake_effect (console_waiter s) s else indication_effect device.ind s).lines ≤ 1
  by_kind true = woken-one s (console_waiter s)
  by_kind false = indicated-one s device.ind

arrived-two : (s : State) (o : Option Device) (text : List ℕ) → length (arrival_effect_at o text s).lines ≤ 2
arrived-two s None text = omega arith
arrived-two s (Some device) text = omega (arith, noticed-one (with_device s (record device { rx = ring_after device text })) device)

pub arrival-lines : (arrival : Arriving) (s : State) → length (arrival_effect arrival s).lines ≤ 2
arrival-lines arrival s = arrived-two s (find_device s arrival.device) arrival.text
