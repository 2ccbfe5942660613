-- No tick shows a statement that was done.
use Rattle.std.proofs.Common.{◌≡◌, ◌+◌, ◌-◌, ◌∷◌, [], ◌++◌, ℕ, zero, suc, List, Option, Some, None, Bool, true, false, not, ◌&&◌, eqb, refl, ap, ◌∙◌, if◌then◌else◌, is_some, length, filter, nat_le, nat_lt, take, drop, bit_or, bytes_eq}
use Rattle.std.specs.List.{filter_map, cons_option}
use Rattle.std.proofs.lemmas.List.Elements.{filter_map-append}
use Rattle.rt_base.specs.Codes.{sleep_number}
use Rattle.rt_base.specs.declared.codes.Class.{Class}
use Rattle.rt_base.specs.declared.codes.Code.{Code}
use Rattle.rt_base.specs.declared.codes.Event.{Event}
use Rattle.rt_base.specs.declared.codes.WaitOrder.{WaitOrder}
use Rattle.rt_plain.specs.declared.line.Line.{Line}
use Rattle.rt_plain.specs.declared.stmt.Call.{Call}
use Rattle.rt_plain.specs.declared.stmt.Stmt.{Stmt}
use Rattle.rt_plain.specs.PlainBoard.{PlainBoard}
use Rattle.rt_plain.specs.kernel.State.{Active, Alarm, ArmedRow, Closed, Device, Holding, Initial, Mailbox, MsgQueue, OfThread, OfTimer, Pool, Sem, Stage, State, Suspended, Timer, Waiting, find_thread, is_closed, is_initial, thread_at, thread_numbers, with_thread}
use Rattle.rt_plain.specs.kernel.Effects.{Effect, due_of, each_effect, effect_for, line_effect, name_of, no_effect, retry_wake_effect, wake_effect, without_alarm}
use Rattle.rt_plain.specs.kernel.Outcome.{ByTimer, First, Outcome, found_outcome, refusal, silent_success, success}
use Rattle.rt_plain.specs.kernel.Priority.{cur, holding_of}
use Rattle.rt_plain.specs.kernel.Waiting.{first_waiter, receives_event, receives_mail, receives_message, sends_mail, sends_message, takes_mutex, takes_sem, waiters}
use Rattle.rt_plain.specs.kernel.Owners.{close_effect, give_back_effect, mutexes_of, pass_effect, withdrawn_state, without_owner}
use Rattle.rt_plain.specs.kernel.ThreadCalls.{may_suspend, resume_outcome, start_effect, suspended_state}
use Rattle.rt_plain.specs.kernel.SemCalls.{find_sem, sem_release, sem_release_outcome, with_sem}
use Rattle.rt_plain.specs.kernel.EventCalls.{Want, event_send, event_send_outcome, find_event, flags_after, flags_left, flags_wake_effect, is_satisfied, satisfied_waiters, wanting_threads, with_event}
use Rattle.rt_plain.specs.kernel.MutexCalls.{find_mutex, mutex_release_outcome, mutex_take_outcome, with_mutex}
use Rattle.rt_plain.specs.kernel.MailboxCalls.{find_mailbox, has_mail_room, mail_put_outcome, mb_recv_outcome, with_mailbox}
use Rattle.rt_plain.specs.kernel.QueueCalls.{find_queue, has_message_room, is_too_long, message_put_outcome, mq_recv_outcome, mq_send_outcome, mq_urgent_outcome, with_queue}
use Rattle.rt_plain.specs.kernel.PoolCalls.{find_pool, free_block, mp_alloc_outcome}
use Rattle.rt_plain.specs.kernel.DeleteCall.{delete, deletion_outcome}
use Rattle.rt_plain.specs.kernel.DeviceCalls.{arrival_effect, arrival_effect_at, console_waiter, device_after_close, find_device, fitting_bytes, indication_effect, is_open, is_sending, may_close, notice_effect, registered_devices, ring_after, sent, state_after_read, with_device, write_effect}
use Rattle.rt_plain.specs.kernel.PowerCalls.{sleep_mode, votes_for, with_votes}
use Rattle.rt_plain.specs.kernel.Works.{has_work, unwork_effect, with_work, without_work, work_waiter}
use Rattle.rt_plain.specs.kernel.TimerCalls.{find_timer, timer_start_effect, timer_stop, with_timer}
use Rattle.rt_plain.specs.kernel.TimerKinds.{is_soft}
use Rattle.rt_plain.specs.kernel.Calls.{has_new_cur, mode_lines, outcome_of, prio_line, prio_lines, settled_effect}
use Rattle.rt_plain.specs.kernel.Due.{alarm_effect, due, due_rows_effect, fired_row_effect, fired_timer_effect, soft_timer_effect, timer_action_effect, timer_effect, with_period}
use Rattle.rt_plain.specs.kernel.Ticks.{alarms_effect, arrivals_now, deliveries, next_tick_state, tick_effect, transmissions}
use Rattle.rt_plain.specs.runs.Tickless.{deed}

-- no line shows a statement that was done
abbrev pub TellsNoDeed : List Line → Type 0
TellsNoDeed lines = (moment : ℕ) (event : Event) → filter_map (deed moment event) lines ≡ []

abbrev Told : Outcome → Type 0
Told outcome = TellsNoDeed outcome.effect.lines

none-append : (xs ys : List Line) → TellsNoDeed xs → TellsNoDeed ys → TellsNoDeed (xs ++ ys)
none-append xs ys one other = λ moment event. filter_map-append (deed moment event) xs ys ∙ ap (λ ds. ds ++ filter_map (deed moment event) ys) (one moment event) ∙ other moment event

if-none : (c : Bool) (x y : Outcome) → Told x → Told y → Told (if c then x else y)
if-none true x y one other = one
if-none false x y one other = other

found-none : {A : Type 0} (o : Option A) (missing : Outcome) (act : A → Outcome) → Told missing → ((x : A) → Told (act x)) → Told (found_outcome o missing act)
found-none None missing act none some = none
found-none (Some x) missing act none some = some x

each-none : {A : Type 0} (act : A → State → Effect) → ((x : A) (s : State) → TellsNoDeed (act x s).lines) → (xs : List A) (s : State) → TellsNoDeed (each_effect act xs s).lines
each-none act none [] s = λ moment event. refl
each-none act none (x ∷ xs) s = none-append (act x s).lines (each_effect act xs (act x s).state).lines (none x s) (each-none act none xs (act x s).state)

retry-none : (o : Option ℕ) (s : State) → TellsNoDeed (effect_for retry_wake_effect o s).lines
retry-none None s = λ moment event. refl
retry-none (Some t) s = λ moment event. refl

nothing : TellsNoDeed []
nothing moment event = refl

found_if-none : {A : Type 0} (o : Option A) (missing : Outcome) (test : A → Bool) (one other : A → Outcome) → Told missing → ((x : A) → Told (one x)) → ((x : A) → Told (other x)) → Told (found_outcome o missing (λ x. if test x then one x else other x))
found_if-none o missing test one other none first second = found-none o missing (λ x. if test x then one x else other x) none (λ x. if-none (test x) (one x) (other x) (first x) (second x))

-- what wakes threads
passed-none : (mutex : List ℕ) (o : Option ℕ) (s : State) → TellsNoDeed (pass_effect mutex o s).lines
passed-none mutex None s = nothing
passed-none mutex (Some t) s = λ moment event. refl

closed-none : (t : ℕ) (s : State) → TellsNoDeed (close_effect t s).lines
closed-none t s = each-none give_back_effect (λ mutex u. passed-none mutex (first_waiter u WaitOrder.Prio (takes_mutex mutex)) u) (mutexes_of (withdrawn_state s t) t) (withdrawn_state s t)

resumed-none : (t : ℕ) (stage : Stage) (s : State) → Told (resume_outcome t stage s)
resumed-none t Suspended s = λ moment event. refl
resumed-none t (Waiting what number) s = λ moment event. refl
resumed-none t Initial s = nothing
resumed-none t Active s = nothing
resumed-none t Closed s = nothing

released-none : (sem : Sem) (o : Option ℕ) (s : State) → Told (sem_release_outcome sem o s)
released-none sem None s = if-none (eqb sem.value 65535) (refusal s Code.Full) (silent_success (with_sem s (record sem { value = sem.value + 1 }))) nothing nothing
released-none sem (Some t) s = λ moment event. refl

sem_release-none : (name : List ℕ) (s : State) → Told (sem_release name s)
sem_release-none name s = found-none (find_sem s name) (refusal s Code.Inval) (λ sem. sem_release_outcome sem (first_waiter s sem.order (takes_sem name)) s) nothing (λ sem. released-none sem (first_waiter s sem.order (takes_sem name)) s)

event_send-none : (name : List ℕ) (mask : ℕ) (s : State) → Told (event_send name mask s)
event_send-none name mask s = found-none (find_event s name) (refusal s Code.Inval) (λ event. event_send_outcome event mask s) nothing
    (λ event. let flags = bit_or event.flags mask in let wanting = wanting_threads s event in each-none (flags_wake_effect flags) (λ w u moment at. refl) (satisfied_waiters flags wanting) (with_event s (record event { flags = flags_left flags wanting })))

deleted-none : (waited : List ℕ) (s : State) → Told (deletion_outcome s waited)
deleted-none waited s = each-none (wake_effect Code.Error) (λ t u moment event. refl) waited s

unworked-none : (name : List ℕ) (s : State) → TellsNoDeed (unwork_effect name s).lines
unworked-none name s = by_test (has_work s name) where
  by_test : (c : Bool) → TellsNoDeed (if c then line_effect (without_work s name) (Line.Unwork name) else no_effect s).lines
  by_test true = λ moment event. refl
  by_test false = nothing

-- deletions
delete-none : (class : Class) (name : List ℕ) (s : State) → Told (delete class name s)
delete-none Class.Sem name s = found-none (find_sem s name) (refusal s Code.Inval) (λ sem. deletion_outcome (record s { sems = filter (λ o. not (bytes_eq o.name name)) s.sems }) (waiters s sem.order (takes_sem name))) nothing
    (λ sem. deleted-none (waiters s sem.order (takes_sem name)) (record s { sems = filter (λ o. not (bytes_eq o.name name)) s.sems }))
delete-none Class.Event name s = found-none (find_event s name) (refusal s Code.Inval) (λ event. deletion_outcome (record s { events = filter (λ o. not (bytes_eq o.name name)) s.events }) (waiters s event.order (receives_event name))) nothing
    (λ event. deleted-none (waiters s event.order (receives_event name)) (record s { events = filter (λ o. not (bytes_eq o.name name)) s.events }))
delete-none Class.Mutex name s =
    let free : State = without_owner s name in
    let rest : State = record free { mutexes = filter (λ o. not (bytes_eq o.name name)) free.mutexes } in
    found-none (find_mutex s name) (refusal s Code.Inval) (λ mutex. deletion_outcome rest (waiters s WaitOrder.Prio (takes_mutex name))) nothing (λ mutex. deleted-none (waiters s WaitOrder.Prio (takes_mutex name)) rest)
delete-none Class.Mailbox name s =
    let rest : State = record s { mailboxes = filter (λ o. not (bytes_eq o.name name)) s.mailboxes } in
    found-none (find_mailbox s name) (refusal s Code.Inval) (λ mailbox. deletion_outcome rest (waiters s mailbox.order (receives_mail name) ++ waiters s mailbox.order (sends_mail name))) nothing
    (λ mailbox. deleted-none (waiters s mailbox.order (receives_mail name) ++ waiters s mailbox.order (sends_mail name)) rest)
delete-none Class.MsgQueue name s =
    let rest : State = record s { queues = filter (λ o. not (bytes_eq o.name name)) s.queues } in
    found-none (find_queue s name) (refusal s Code.Inval) (λ queue. deletion_outcome rest (waiters s queue.order (receives_message name) ++ waiters s queue.order (sends_message name))) nothing
    (λ queue. deleted-none (waiters s queue.order (receives_message name) ++ waiters s queue.order (sends_message name)) rest)
delete-none Class.Thread name s = nothing
delete-none Class.Timer name s = nothing
delete-none Class.Device name s = nothing

-- mailboxes and queues
mail_put-none : (mailbox : Mailbox) (words : List ℕ) (s : State) → Told (mail_put_outcome mailbox words s)
mail_put-none mailbox words s = retry-none (first_waiter s mailbox.order (receives_mail mailbox.name)) (with_mailbox s (record mailbox { words = words }))

message_put-none : (queue : MsgQueue) (messages : List (List ℕ)) (s : State) → Told (message_put_outcome queue messages s)
message_put-none queue messages s = retry-none (first_waiter s queue.order (receives_message queue.name)) (with_queue s (record queue { messages = messages }))

mail_got-none : (mailbox : Mailbox) (words : List ℕ) (timeout : Option ℕ) (s : State) (timer : List ℕ) → Told (mb_recv_outcome mailbox words timeout s (ByTimer timer) First)
mail_got-none mailbox [] timeout s timer = nothing
mail_got-none mailbox (word ∷ words) timeout s timer = retry-none (first_waiter s mailbox.order (sends_mail mailbox.name)) (with_mailbox s (record mailbox { words = words }))

message_got-none : (queue : MsgQueue) (messages : List (List ℕ)) (timeout : Option ℕ) (s : State) (timer : List ℕ) → Told (mq_recv_outcome queue messages timeout s (ByTimer timer) First)
message_got-none queue [] timeout s timer = nothing
message_got-none queue (message ∷ messages) timeout s timer = retry-none (first_waiter s queue.order (sends_message queue.name)) (with_queue s (record queue { messages = messages }))

mq_send-none : (queue : MsgQueue) (message : List ℕ) (timeout : Option ℕ) (s : State) (timer : List ℕ) → Told (mq_send_outcome queue message timeout s (ByTimer timer) First)
mq_send-none queue message timeout s timer =
    let put = message_put_outcome queue (queue.messages ++ message ∷ []) s in
    if-none (is_too_long queue message) (refusal s Code.Error) (if has_message_room queue then put else refusal s Code.Full) nothing (if-none (has_message_room queue) put (refusal s Code.Full) (message_put-none queue (queue.messages ++ message ∷ []) s) nothing)

mq_urgent-none : (queue : MsgQueue) (message : List ℕ) (s : State) → Told (mq_urgent_outcome queue message s)
mq_urgent-none queue message s =
    let put = message_put_outcome queue (message ∷ queue.messages) s in
    if-none (is_too_long queue message) (refusal s Code.Error) (if has_message_room queue then put else refusal s Code.Full) nothing (if-none (has_message_room queue) put (refusal s Code.Full) (message_put-none queue (message ∷ queue.messages) s) nothing)

-- mutexes and pools, which no timer can own
taken-none : (name : List ℕ) (o : Option Holding) (timeout : Option ℕ) (s : State) (timer : List ℕ) → Told (mutex_take_outcome name o timeout s (ByTimer timer))
taken-none name None timeout s timer = nothing
taken-none name (Some h) timeout s timer = nothing

given-none : (o : Option Holding) (s : State) (timer : List ℕ) → Told (mutex_release_outcome o s (ByTimer timer))
given-none None s timer = nothing
given-none (Some h) s timer = nothing

allocated-none : (pool : Pool) (o : Option ℕ) (timeout : Option ℕ) (s : State) (timer : List ℕ) → Told (mp_alloc_outcome pool o timeout s (ByTimer timer))
allocated-none pool None timeout s timer = nothing
allocated-none pool (Some block) timeout s timer = nothing

-- bytes on the console are shown
written-none : (device : Device) (text : List ℕ) (s : State) (timer : List ℕ) → TellsNoDeed (write_effect device text s (ByTimer timer)).lines
written-none device text s timer = by_test device.console where
  taken : Device
  taken = record device { tx = device.tx ++ fitting_bytes device text }

  by_test : (c : Bool) → TellsNoDeed (if c then line_effect s (Line.Print text) else no_effect (with_device s taken)).lines
  by_test true = λ moment event. refl
  by_test false = nothing

stopped-none : (name : List ℕ) (s : State) → Told (timer_stop name s)
stopped-none name s =
    let armed = is_some (due_of s (OfTimer name)) in
    let rest : Outcome = if armed then silent_success (without_alarm s (OfTimer name)) else refusal s Code.Error in
    found_if-none (find_timer s name) (refusal s Code.Inval) (λ timer. has_work s name) (λ timer. success (unwork_effect name s)) (λ timer. rest) nothing (λ timer. unworked-none name s) (λ timer. if-none armed (silent_success (without_alarm s (OfTimer name))) (refusal s Code.Error) nothing nothing)

-- a new object, where its name is free and the class has room
created-none : (s new : State) (taken full : Bool) → Told (if taken then refusal s Code.Busy else if full then refusal s Code.NoMem else silent_success new)
created-none s new taken full = if-none taken (refusal s Code.Busy) (if full then refusal s Code.NoMem else silent_success new) nothing (if-none full (refusal s Code.NoMem) (silent_success new) nothing nothing)

-- a call of a timer shows no deed
call-none : (b : PlainBoard) (call : Call) (s : State) (timer : List ℕ) → Told (outcome_of b call s (ByTimer timer) First)
call-none b (Call.Delay ticks) s timer = nothing
call-none b Call.Yield s timer = nothing
call-none b (Call.Startup name) s timer =
    found_if-none (find_thread s name) (refusal s Code.Inval) (λ t. is_initial (thread_at s t).stage) (λ t. success (start_effect t s)) (λ t. refusal s Code.Error) nothing (λ t moment event. refl) (λ t. nothing)
call-none b (Call.Suspend name) s timer =
    found_if-none (find_thread s name) (refusal s Code.Inval) (λ t. may_suspend s (ByTimer timer) t) (λ t. silent_success (suspended_state s t)) (λ t. refusal s Code.Error) nothing (λ t. nothing) (λ t. nothing)
call-none b (Call.Resume name) s timer = found-none (find_thread s name) (refusal s Code.Inval) (λ t. resume_outcome t (thread_at s t).stage s) nothing (λ t. resumed-none t (thread_at s t).stage s)
call-none b (Call.Kill name) s timer = found-none (find_thread s name) (refusal s Code.Inval) (λ t. success (close_effect t s)) nothing (λ t. closed-none t s)
call-none b (Call.SetPrio name prio) s timer = found-none (find_thread s name) (refusal s Code.Inval) (λ t. let row = thread_at s t in silent_success (with_thread s t (record row { base = prio }))) nothing (λ t. nothing)
call-none b Call.Lock s timer = nothing
call-none b Call.Unlock s timer = nothing
call-none b Call.SchedLock s timer = nothing
call-none b Call.SchedUnlock s timer = nothing
call-none b (Call.SemCreate name value order) s timer = created-none s (record s { sems = record { name = name; value = value; order = order } ∷ s.sems }) (is_some (find_sem s name)) (nat_le b.limits.sem (length s.sems))
call-none b (Call.SemTake name timeout) s timer =
    found_if-none (find_sem s name) (refusal s Code.Inval) (λ sem. nat_lt 0 sem.value) (λ sem. silent_success (with_sem s (record sem { value = sem.value - 1 }))) (λ sem. refusal s Code.Timeout) nothing (λ sem. nothing) (λ sem. nothing)
call-none b (Call.SemRelease name) s timer = sem_release-none name s
call-none b (Call.EventCreate name order) s timer = created-none s (record s { events = record { name = name; flags = 0; order = order } ∷ s.events }) (is_some (find_event s name)) (nat_le b.limits.event (length s.events))
call-none b (Call.EventSend name mask) s timer = event_send-none name mask s
call-none b (Call.EventRecv name mask all clear timeout) s timer =
    let want : Want = record { mask = mask; all = all; clear = clear } in found_if-none (find_event s name) (refusal s Code.Inval) (λ event. is_satisfied event.flags want) (λ event. silent_success (with_event s (record event { flags = flags_after event.flags want }))) (λ event. refusal s Code.Timeout) nothing (λ event. nothing) (λ event. nothing)
call-none b (Call.MutexCreate name ceiling) s timer = created-none s (record s { mutexes = record { name = name; ceiling = ceiling } ∷ s.mutexes }) (is_some (find_mutex s name)) (nat_le b.limits.mutex (length s.mutexes))
call-none b (Call.MutexTake name timeout) s timer =
    found-none (find_mutex s name) (refusal s Code.Inval) (λ mutex. mutex_take_outcome name (holding_of s name) timeout s (ByTimer timer)) nothing (λ mutex. taken-none name (holding_of s name) timeout s timer)
call-none b (Call.MutexRelease name) s timer = found-none (find_mutex s name) (refusal s Code.Inval) (λ mutex. mutex_release_outcome (holding_of s name) s (ByTimer timer)) nothing (λ mutex. given-none (holding_of s name) s timer)
call-none b (Call.MutexCeiling name ceiling) s timer = found-none (find_mutex s name) (refusal s Code.Inval) (λ mutex. silent_success (with_mutex s (record mutex { ceiling = ceiling }))) nothing (λ mutex. nothing)
call-none b (Call.MbSend name word timeout) s timer =
    found_if-none (find_mailbox s name) (refusal s Code.Inval) has_mail_room (λ mailbox. mail_put_outcome mailbox (mailbox.words ++ word ∷ []) s) (λ mailbox. refusal s Code.Full) nothing (λ mailbox. mail_put-none mailbox (mailbox.words ++ word ∷ []) s) (λ mailbox. nothing)
call-none b (Call.MbUrgent name word) s timer =
    found_if-none (find_mailbox s name) (refusal s Code.Inval) has_mail_room (λ mailbox. mail_put_outcome mailbox (word ∷ mailbox.words) s) (λ mailbox. refusal s Code.Full) nothing (λ mailbox. mail_put-none mailbox (word ∷ mailbox.words) s) (λ mailbox. nothing)
call-none b (Call.MbRecv name timeout) s timer =
    found-none (find_mailbox s name) (refusal s Code.Inval) (λ mailbox. mb_recv_outcome mailbox mailbox.words timeout s (ByTimer timer) First) nothing (λ mailbox. mail_got-none mailbox mailbox.words timeout s timer)
call-none b (Call.MqSend name timeout message) s timer =
    found-none (find_queue s name) (refusal s Code.Inval) (λ queue. mq_send_outcome queue message timeout s (ByTimer timer) First) nothing (λ queue. mq_send-none queue message timeout s timer)
call-none b (Call.MqUrgent name message) s timer = found-none (find_queue s name) (refusal s Code.Inval) (λ queue. mq_urgent_outcome queue message s) nothing (λ queue. mq_urgent-none queue message s)
call-none b (Call.MqRecv name timeout) s timer =
    found-none (find_queue s name) (refusal s Code.Inval) (λ queue. mq_recv_outcome queue queue.messages timeout s (ByTimer timer) First) nothing (λ queue. message_got-none queue queue.messages timeout s timer)
call-none b (Call.Delete class name) s timer = delete-none class name s
call-none b (Call.TimerStart name) s timer = found-none (find_timer s name) (refusal s Code.Inval) (λ o. success (timer_start_effect o s)) nothing (λ o. unworked-none o.name s)
call-none b (Call.TimerStop name) s timer = stopped-none name s
call-none b (Call.TimerSet name time) s timer = found-none (find_timer s name) (refusal s Code.Inval) (λ o. silent_success (with_timer s (record o { time = time }))) nothing (λ o. nothing)
call-none b (Call.DevOpen name) s timer =
    found_if-none (find_device s name) (refusal s Code.Inval) (λ device. eqb device.opened 255) (λ device. refusal s Code.Full) (λ device. silent_success (with_device s (record device { opened = device.opened + 1 }))) nothing (λ device. nothing) (λ device. nothing)
call-none b (Call.DevClose name) s timer =
    found_if-none (find_device s name) (refusal s Code.Inval) may_close (λ device. silent_success (with_device s (device_after_close device))) (λ device. refusal s Code.Error) nothing (λ device. nothing) (λ device. nothing)
call-none b (Call.DevRead name count) s timer =
    found_if-none (find_device s name) (refusal s Code.Inval) is_open (λ device. silent_success (state_after_read device count s (ByTimer timer))) (λ device. refusal s Code.Error) nothing (λ device. nothing) (λ device. nothing)
call-none b (Call.DevWrite name text) s timer =
    found_if-none (find_device s name) (refusal s Code.Inval) is_open (λ device. success (write_effect device text s (ByTimer timer))) (λ device. refusal s Code.Error) nothing (λ device. written-none device text s timer) (λ device. nothing)
call-none b (Call.DevCtl name rate) s timer =
    found_if-none (find_device s name) (refusal s Code.Inval) (λ device. device.console) (λ device. refusal s Code.NoSys) (λ device. silent_success (with_device s (record device { rate = rate }))) nothing (λ device. nothing) (λ device. nothing)
call-none b (Call.PmRequest mode) s timer = let count = votes_for s.votes mode in if-none (eqb count 255) (refusal s Code.Full) (silent_success (record s { votes = with_votes mode (count + 1) s.votes })) nothing nothing
call-none b (Call.PmRelease mode) s timer = let count = votes_for s.votes mode in if-none (eqb count 0) (refusal s Code.Error) (silent_success (record s { votes = with_votes mode (count - 1) s.votes })) nothing nothing
call-none b (Call.PmRun mode) s timer = nothing
call-none b (Call.MpAlloc name timeout) s timer =
    found-none (find_pool s name) (refusal s Code.Inval) (λ pool. mp_alloc_outcome pool (free_block pool) timeout s (ByTimer timer)) nothing (λ pool. allocated-none pool (free_block pool) timeout s timer)
call-none b (Call.MpFree name) s timer = found-none (find_pool s name) (refusal s Code.Inval) (λ pool. refusal s Code.Error) nothing (λ pool. nothing)

-- a timer that fires
action-none : (b : PlainBoard) (fired name : List ℕ) (o : Option Stmt) (s : State) → TellsNoDeed (timer_effect b (Line.Fire fired) name o s).lines
action-none b fired name None s = λ moment event. refl
action-none b fired name (Some (Stmt.Print text)) s = λ moment event. refl
action-none b fired name (Some (Stmt.Say what)) s = λ moment event. refl
action-none b fired name (Some (Stmt.Goto k)) s = λ moment event. refl
action-none b fired name (Some (Stmt.IfCode code k)) s = λ moment event. refl
action-none b fired name (Some (Stmt.Count n)) s = λ moment event. refl
action-none b fired name (Some (Stmt.Next k)) s = λ moment event. refl
action-none b fired name (Some Stmt.Exit) s = λ moment event. refl
action-none b fired name (Some (Stmt.Do call)) s = λ moment event. call-none b call s name moment event

fired-none : (b : PlainBoard) (o : Option Timer) (s : State) → TellsNoDeed (fired_timer_effect b o s).lines
fired-none b None s = nothing
fired-none b (Some timer) s = by_kind (is_soft timer.kind) where
  by_kind : (c : Bool) → TellsNoDeed (if c then soft_timer_effect timer.name s else timer_action_effect b (Line.Fire timer.name) timer s).lines
  by_kind true = λ moment event. retry-none (work_waiter (with_work s timer.name)) (with_work s timer.name) moment event
  by_kind false = action-none b timer.name timer.name timer.call (with_period timer.kind timer s)

alarm-none : (b : PlainBoard) (alarm : Alarm) (s : State) → TellsNoDeed (alarm_effect b alarm s).lines
alarm-none b (OfThread t) s = λ moment event. refl
alarm-none b (OfTimer name) s = fired-none b (find_timer s name) s

-- what follows from it
prios-none : (before after : State) (threads : List ℕ) → TellsNoDeed (filter_map (prio_line before after) threads)
prios-none before after [] = nothing
prios-none before after (t ∷ threads) = by_test (not (is_closed (thread_at after t).stage) && has_new_cur before after t) (prios-none before after threads) where
  by_test : (c : Bool) → TellsNoDeed (filter_map (prio_line before after) threads)
      → TellsNoDeed (cons_option (if c then Some (Line.Cur (name_of after t) (cur before t) (cur after t)) else None) (filter_map (prio_line before after) threads))
  by_test true rest = λ moment event. rest moment event
  by_test false rest = rest

mode-none : (b : PlainBoard) (before after : State) → TellsNoDeed (mode_lines b before after)
mode-none b before after = by_test (eqb (sleep_number (sleep_mode b before)) (sleep_number (sleep_mode b after))) where
  by_test : (c : Bool) → TellsNoDeed (if c then [] else Line.Mode (sleep_mode b after) ∷ [])
  by_test true = nothing
  by_test false = λ moment event. refl

settled-none : (b : PlainBoard) (before : State) (e : Effect) → TellsNoDeed e.lines → TellsNoDeed (settled_effect b before e).lines
settled-none b before e none = none-append (e.lines ++ prio_lines before e.state) (mode_lines b before e.state) (none-append e.lines (prio_lines before e.state) none (prios-none before e.state (thread_numbers e.state))) (mode-none b before e.state)

-- the parts of a tick
due-none : (b : PlainBoard) (n : ℕ) (rows : List (ArmedRow Alarm)) (s : State) → TellsNoDeed (due_rows_effect b n rows s).lines
due-none b zero rows s = nothing
due-none b (suc n) [] s = nothing
due-none b (suc n) (row ∷ rows) s =
    let fired : Effect = fired_row_effect b row s in
    none-append fired.lines (due_rows_effect b n (due fired.state) fired.state).lines (settled-none b s (alarm_effect b row.alarm (without_alarm s row.alarm)) (alarm-none b row.alarm (without_alarm s row.alarm))) (due-none b n (due fired.state) fired.state)

indicated-none : (sem : Option (List ℕ)) (s : State) → TellsNoDeed (indication_effect sem s).lines
indicated-none None s = nothing
indicated-none (Some sem) s = sem_release-none sem s

noticed-none : (device : Device) (s : State) → TellsNoDeed (notice_effect device s).lines
noticed-none device s = by_kind device.console where
  by_kind : (c : Bool) → TellsNoDeed (if c then effect_for retry_wake_effect (console_waiter s) s else indication_effect device.ind s).lines
  by_kind true = retry-none (console_waiter s) s
  by_kind false = indicated-none device.ind s

arrived-none : (o : Option Device) (text : List ℕ) (s : State) → TellsNoDeed (arrival_effect_at o text s).lines
arrived-none None text s = nothing
arrived-none (Some device) text s = λ moment event. noticed-none device (with_device s (record device { rx = ring_after device text })) moment event

sent-none : (device : Device) (s : State) → TellsNoDeed (sent device s).lines
sent-none device s = by_test (is_sending device) where
  by_test : (c : Bool) → TellsNoDeed (if c then line_effect (with_device s (record device { tx = drop device.rate device.tx })) (Line.Tx device.name (take device.rate device.tx)) else no_effect s).lines
  by_test true = λ moment event. refl
  by_test false = nothing

-- a tick
pub tick-told : (b : PlainBoard) (s : State) → TellsNoDeed (tick_effect b s).lines
tick-told b s = none-append ((rung.lines ++ came.lines) ++ (transmissions came.state).lines) [] (none-append (rung.lines ++ came.lines) (transmissions came.state).lines (none-append rung.lines came.lines
    (due-none b (length (due later)) (due later) later) (each-none arrival_effect (λ arrival u. arrived-none (find_device u arrival.device) arrival.text u) (arrivals_now rung.state) (record (rung.state) { arrivals = filter (λ a. not (eqb a.moment (rung.state).moment)) (rung.state).arrivals })))
    (each-none sent sent-none (registered_devices came.state) came.state)) nothing where
      later : State
      later = next_tick_state s

      rung : Effect
      rung = alarms_effect b later

      came : Effect
      came = deliveries rung.state
