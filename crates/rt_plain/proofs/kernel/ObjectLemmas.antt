-- Each call on an object keeps what holds of a state, and with them the whole table.
use Rattle.std.proofs.Common.{◌≡◌, ◌≢◌, ◌+◌, ◌≤◌, ◌∷◌, [], ◌++◌, ℕ, List, Option, Some, None, Bool, true, false, not, ◌||◌, ◌&&◌, is_some, cond, length, eqb, nat_lt, nat_le, bytes_eq, refl, ap, ◌∙◌, subst, arith, ltb-true, leb-true, filter, map, if◌then◌else◌, bit_and, bit_or, sym}
use Rattle.std.specs.List.{AllByRecursion, list_any}
use Rattle.std.proofs.lemmas.Slice.Eq.{bytes_eq-Decides}
use Rattle.rt_base.specs.declared.codes.Code.{Code}
use Rattle.rt_base.specs.declared.codes.Class.{Class}
use Rattle.rt_base.specs.declared.codes.Sleep.{Sleep}
use Rattle.rt_base.specs.declared.codes.WaitOrder.{WaitOrder}
use Rattle.rt_plain.specs.declared.stmt.Call.{Call}
use Rattle.rt_plain.specs.declared.stmt.Stmt.{Stmt}
use Rattle.rt_plain.specs.declared.board.TimerKind.{TimerKind}
use Rattle.rt_plain.specs.declared.line.Fired.{Fired}
use Rattle.rt_plain.specs.PlainBoard.{PlainBoard}
use Rattle.rt_plain.specs.kernel.State.{State, Stage, Waiting, InCall, Thread, Timer, OfTimer, Sem, EventObj, Holding, Mailbox, MsgQueue, Pool, Device, thread_at, with_thread, no_thread, Alarm, ArmedRow, OfThread}
use Rattle.rt_plain.specs.declared.line.Line.{Line}
use Rattle.rt_plain.specs.kernel.Effects.{Effect, no_effect, line_effect, each_effect, wake_effect, retry_wake_effect, effect_for, without_alarm, due_of, is_alarm}
use Rattle.rt_plain.specs.kernel.Waiting.{waiters, first_waiter, number_in, takes_sem, takes_mutex, receives_event, sends_mail, receives_mail, sends_message, receives_message, takes_block}
use Rattle.rt_plain.specs.kernel.Outcome.{By, ByThread, ByTimer, Attempt, First, refusal, with_value, with_text, missing_outcome}
use Rattle.rt_plain.specs.kernel.SemCalls.{find_sem, sem_create, sem_take, sem_release_outcome, sem_release}
use Rattle.rt_plain.specs.kernel.EventCalls.{Want, Wanting, find_event, event_create, event_recv, is_satisfied, flags_wake_effect, wanting_threads, satisfied_waiters, flags_left, event_send, with_event, want_of}
use Rattle.rt_plain.specs.kernel.MutexCalls.{find_mutex, mutex_create, mutex_take_outcome, mutex_take, mutex_release_outcome, mutex_release, mutex_ceiling, with_mutex}
use Rattle.rt_plain.specs.kernel.Priority.{holding_of}
use Rattle.rt_plain.specs.kernel.MailboxCalls.{find_mailbox, with_mailbox, has_mail_room, mail_put_outcome, mb_send, mb_urgent, mb_recv_outcome, mb_recv}
use Rattle.rt_plain.specs.kernel.QueueCalls.{find_queue, with_queue, is_too_long, has_message_room, message_put_outcome, mq_send, mq_urgent, mq_recv_outcome, mq_recv}
use Rattle.rt_plain.specs.kernel.PoolCalls.{find_pool, free_block, with_pool, with_block_held, place_of, state_with_block, last_block, mp_alloc_outcome, mp_alloc, passed_block_outcome, mp_free_outcome, mp_free}
use Rattle.rt_plain.specs.kernel.DeleteCall.{deletion_outcome, delete}
use Rattle.rt_plain.specs.kernel.Works.{has_work, without_work, unwork_effect}
use Rattle.rt_plain.specs.kernel.TimerCalls.{find_timer, with_timer, with_timer_armed, timer_start_effect, timer_start, timer_stop, timer_set}
use Rattle.rt_plain.specs.kernel.DeviceCalls.{find_device, with_device, is_open, dev_open, may_close, dev_close, dev_read, write_effect, dev_write, dev_ctl}
use Rattle.rt_plain.specs.kernel.PowerCalls.{votes_for, pm_request, pm_release}
use Rattle.rt_plain.specs.kernel.Calls.{outcome_of}
use Rattle.rt_plain.specs.kernel.Due.{with_period, timer_effect, timer_action_effect}
use Rattle.rt_plain.specs.kernel.Sound.{is_waiting, is_span, is_timeout, is_timed_call, is_timed_action}
use Rattle.rt_plain.specs.kernel.Tally.{one_if, tally}
use Rattle.rt_plain.proofs.kernel.TallyLemmas.{all-weaker, all-filter, all-append, all-map, all-found, same-set, other-set, tally-filter, tally-dropped}
use Rattle.rt_plain.specs.kernel.Kept.{Frame, Kept, stage_at, IsAhead, is_work_of, is_owned, IsOwned, IsKnownWork, IsFineTimer}
use Rattle.rt_plain.proofs.kernel.Invariant.{fine-at, thread-kept, without_alarm-kept, with_alarm-kept, works-kept}
use Rattle.rt_plain.proofs.kernel.WakeLemmas.{wake-kept, retry_wake-kept, wake-others, IsListed, AllApart, apart-map, waiters-listed, waiters-apart, waiters-wait, first-waits, each-wakes, for-kept, give_back-kept, found-passes}
use Rattle.rt_plain.proofs.kernel.CallLemmas.{KeptOutcome, IsBy, IsAttempt, if-outcome, found-outcome, missing-kept, value-kept, text-kept, wait_or-kept, delay-kept, yield-kept, startup-kept, suspend-kept, resume-kept, kill-kept, set_prio-kept, lock-kept, unlock-kept, sched_lock-kept, sched_unlock-kept}
use Rattle.rt_plain.proofs.TestLemmas.{and-left, and-right, or-left, or-right, or-second, some-is}

-- semaphores
sem_create-kept : (f : Frame) (b : PlainBoard) (s : State) (name : List ℕ) (value : ℕ) (order : WaitOrder) → Kept f s → KeptOutcome f (sem_create b name value order s)
sem_create-kept f b s name value order kept = if-outcome f (is_some (find_sem s name)) (refusal s Code.Busy) _ (λ is. kept) (λ is. if-outcome f (nat_le b.limits.sem (length s.sems)) (refusal s Code.NoMem) _ (λ full. kept) (λ room. kept))

sem_take-kept : (f : Frame) (s : State) (name : List ℕ) (timeout : Option ℕ) (by : By) → IsBy f s by → is_timeout timeout ≡ true → Kept f s → KeptOutcome f (sem_take name timeout s by)
sem_take-kept f s name timeout by is timed kept = found-outcome f (find_sem s name) (refusal s Code.Inval) _ kept (λ sem found. if-outcome f (nat_lt 0 sem.value) _ _ (λ some. kept) (λ none. wait_or-kept f s by First (Call.SemTake sem.name timeout) timeout Code.Timeout is tt timed timed kept))

released-kept : (f : Frame) (s : State) (sem : Sem) (o : Option ℕ) → ((t : ℕ) → o ≡ Some t → is_waiting (thread_at s t).stage ≡ true) → Kept f s → KeptOutcome f (sem_release_outcome sem o s)
released-kept f s sem None waits kept = if-outcome f (eqb sem.value 65535) (refusal s Code.Full) _ (λ full. kept) (λ room. kept)
released-kept f s sem (Some t) waits kept = wake-kept f s Code.Ok t (waits t refl) kept

pub sem_release-kept : (f : Frame) (s : State) (name : List ℕ) → Kept f s → KeptOutcome f (sem_release name s)
sem_release-kept f s name kept = found-outcome f (find_sem s name) (refusal s Code.Inval) _ kept (λ sem found. released-kept f s sem (first_waiter s sem.order (takes_sem name)) (first-waits s sem.order (takes_sem name)) kept)

-- event objects
event_create-kept : (f : Frame) (b : PlainBoard) (s : State) (name : List ℕ) (order : WaitOrder) → Kept f s → KeptOutcome f (event_create b name order s)
event_create-kept f b s name order kept = if-outcome f (is_some (find_event s name)) (refusal s Code.Busy) _ (λ is. kept) (λ is. if-outcome f (nat_le b.limits.event (length s.events)) (refusal s Code.NoMem) _ (λ full. kept) (λ room. kept))

event_recv-kept : (f : Frame) (s : State) (name : List ℕ) (want : Want) (timeout : Option ℕ) (by : By) → IsBy f s by → is_timeout timeout ≡ true → Kept f s → KeptOutcome f (event_recv name want timeout s by)
event_recv-kept f s name want timeout by is timed kept = found-outcome f (find_event s name) (refusal s Code.Inval) _ kept (λ event found. if-outcome f (is_satisfied event.flags want) _ _ (λ some. value-kept f (with_event s _) by _ kept) (λ none. wait_or-kept f s by First (Call.EventRecv event.name want.mask want.all want.clear timeout) timeout Code.Timeout is tt timed timed kept))

valued-kept : (f : Frame) (flags : ℕ) (w : Wanting) (s : State) → is_waiting (stage_at s.threads w.thread) ≡ true → Kept f s → Kept f (flags_wake_effect flags w s).state
valued-kept f flags w s waits kept = wake-kept f (with_thread s w.thread row) Code.Ok w.thread (ap is_waiting (same-set (λ (r : Thread). r.stage) s.threads w.thread w.thread row no_thread refl) ∙ waits) (thread-kept f s w.thread row refl (fine-at f s w.thread kept) kept) where
  row : Thread
  row = record (thread_at s w.thread) { value = bit_and flags w.want.mask }

pub valued-others : (flags : ℕ) (w : Wanting) (s : State) (u : ℕ) → u ≢ w.thread → stage_at (flags_wake_effect flags w s).state.threads u ≡ stage_at s.threads u
valued-others flags w s u apart = wake-others (with_thread s w.thread row) Code.Ok w.thread u apart ∙ ap (λ (r : Thread). r.stage) (other-set s.threads w.thread u row no_thread apart) where
  row : Thread
  row = record (thread_at s w.thread) { value = bit_and flags w.want.mask }

pub apart-filter : {A : Type 0} (key : A → ℕ) (q : A → Bool) (xs : List A) → AllApart key xs → AllApart key (filter q xs)
apart-filter key q [] all = tt
apart-filter key q (x ∷ xs) all = by_test (q x) (apart-filter key q xs all.1) where
  by_test : (c : Bool) → AllApart key (filter q xs) → AllApart key (cond c (x ∷ filter q xs) (filter q xs))
  by_test true more = (all-filter (λ y. key y ≢ key x) q xs all.0, more)
  by_test false more = more

event_send-kept : (f : Frame) (s : State) (name : List ℕ) (mask : ℕ) → Kept f s → KeptOutcome f (event_send name mask s)
event_send-kept f s name mask kept = found-outcome f (find_event s name) (refusal s Code.Inval) _ kept (λ event found. sent event) where
  sent : (event : EventObj) → Kept f (each_effect (flags_wake_effect (bit_or event.flags mask)) (satisfied_waiters (bit_or event.flags mask) (wanting_threads s event)) (with_event s (record event { flags = flags_left (bit_or event.flags mask) (wanting_threads s event) }))).state
  sent event =
      let ts : List ℕ = waiters s event.order (receives_event event.name) in
      let wants : ℕ → Wanting = λ t. record { thread = t; want = want_of (thread_at s t).stage } in
      each-wakes f (λ (w : Wanting). w.thread) (flags_wake_effect (bit_or event.flags mask)) (valued-kept f (bit_or event.flags mask)) (valued-others (bit_or event.flags mask)) (satisfied_waiters (bit_or event.flags mask) (wanting_threads s event)) _
      (all-filter (λ (w : Wanting). is_waiting (stage_at s.threads w.thread) ≡ true) _ (wanting_threads s event) (all-map (λ (w : Wanting). is_waiting (stage_at s.threads w.thread) ≡ true) wants ts (waiters-wait s event.order (receives_event event.name))))
      (apart-filter (λ (w : Wanting). w.thread) _ (wanting_threads s event) (apart-map (λ (w : Wanting). w.thread) wants ts (waiters-apart s event.order (receives_event event.name))))
      kept

-- mutexes
mutex_create-kept : (f : Frame) (b : PlainBoard) (s : State) (name : List ℕ) (ceiling : ℕ) → Kept f s → KeptOutcome f (mutex_create b name ceiling s)
mutex_create-kept f b s name ceiling kept = if-outcome f (is_some (find_mutex s name)) (refusal s Code.Busy) _ (λ is. kept) (λ is. if-outcome f (nat_le b.limits.mutex (length s.mutexes)) (refusal s Code.NoMem) _ (λ full. kept) (λ room. kept))

taken-kept : (f : Frame) (s : State) (name : List ℕ) (o : Option Holding) (timeout : Option ℕ) (by : By) → IsBy f s by → is_timeout timeout ≡ true → Kept f s → KeptOutcome f (mutex_take_outcome name o timeout s by)
taken-kept f s name None timeout (ByThread t core) is timed kept = kept
taken-kept f s name None timeout (ByTimer timer) is timed kept = kept
taken-kept f s name (Some h) timeout (ByTimer timer) is timed kept = kept
taken-kept f s name (Some h) timeout (ByThread t core) is timed kept = if-outcome f (eqb h.owner t) _ _ (λ own. if-outcome f (eqb h.hold 255) (refusal s Code.Full) _ (λ full. kept) (λ room. kept)) (λ other. wait_or-kept f s (ByThread t core) First (Call.MutexTake name timeout) timeout Code.Timeout is tt timed timed kept)

mutex_take-kept : (f : Frame) (s : State) (name : List ℕ) (timeout : Option ℕ) (by : By) → IsBy f s by → is_timeout timeout ≡ true → Kept f s → KeptOutcome f (mutex_take name timeout s by)
mutex_take-kept f s name timeout by is timed kept = found-outcome f (find_mutex s name) (refusal s Code.Inval) _ kept (λ mutex found. taken-kept f s name (holding_of s name) timeout by is timed kept)

given-kept : (f : Frame) (s : State) (o : Option Holding) (by : By) → Kept f s → KeptOutcome f (mutex_release_outcome o s by)
given-kept f s None by kept = kept
given-kept f s (Some h) (ByTimer timer) kept = kept
given-kept f s (Some h) (ByThread t core) kept = if-outcome f (eqb h.owner t) _ (refusal s Code.Error) (λ own. if-outcome f (nat_lt 1 h.hold) _ _ (λ more. kept) (λ last. give_back-kept f s h.mutex kept)) (λ other. kept)

mutex_release-kept : (f : Frame) (s : State) (name : List ℕ) (by : By) → Kept f s → KeptOutcome f (mutex_release name s by)
mutex_release-kept f s name by kept = found-outcome f (find_mutex s name) (refusal s Code.Inval) _ kept (λ mutex found. given-kept f s (holding_of s name) by kept)

mutex_ceiling-kept : (f : Frame) (s : State) (name : List ℕ) (ceiling : ℕ) (by : By) → Kept f s → KeptOutcome f (mutex_ceiling name ceiling s by)
mutex_ceiling-kept f s name ceiling by kept = found-outcome f (find_mutex s name) (refusal s Code.Inval) _ kept (λ mutex found. value-kept f (with_mutex s (record mutex { ceiling = ceiling })) by mutex.ceiling kept)

-- the first of a wait list wakes to make its call again; the object's row has no part in it
retried-kept : (f : Frame) (s u : State) (order : WaitOrder) (in_list : Call → Bool) → ((t : ℕ) → stage_at u.threads t ≡ stage_at s.threads t) → Kept f u → Kept f (effect_for retry_wake_effect (first_waiter s order in_list) u).state
retried-kept f s u order in_list same kept = for-kept f retry_wake_effect (first_waiter s order in_list) u (λ t is. retry_wake-kept f u t (ap is_waiting (same t) ∙ first-waits s order in_list t is) kept) kept

-- mailboxes
mail_put-kept : (f : Frame) (s : State) (mailbox : Mailbox) (words : List ℕ) → Kept f s → KeptOutcome f (mail_put_outcome mailbox words s)
mail_put-kept f s mailbox words kept = retried-kept f s (with_mailbox s (record mailbox { words = words })) mailbox.order (receives_mail mailbox.name) (λ t. refl) kept

mb_send-kept : (f : Frame) (s : State) (name : List ℕ) (word : ℕ) (timeout : Option ℕ) (by : By) (attempt : Attempt) → IsBy f s by → IsAttempt f attempt → is_timeout timeout ≡ true → Kept f s → KeptOutcome f (mb_send name word timeout s by attempt)
mb_send-kept f s name word timeout by attempt is tried timed kept = found-outcome f (find_mailbox s name) (missing_outcome s attempt) _ (missing-kept f s attempt kept) (λ mailbox found. if-outcome f (has_mail_room mailbox) _ _ (λ room. mail_put-kept f s mailbox (mailbox.words ++ word ∷ []) kept) (λ full. wait_or-kept f s by attempt (Call.MbSend mailbox.name word timeout) timeout Code.Full is tried timed timed kept))

mb_urgent-kept : (f : Frame) (s : State) (name : List ℕ) (word : ℕ) → Kept f s → KeptOutcome f (mb_urgent name word s)
mb_urgent-kept f s name word kept = found-outcome f (find_mailbox s name) (missing_outcome s First) _ kept (λ mailbox found. if-outcome f (has_mail_room mailbox) _ (refusal s Code.Full) (λ room. mail_put-kept f s mailbox (word ∷ mailbox.words) kept) (λ full. kept))

pub value-stages : (s : State) (by : By) (value t : ℕ) → stage_at (with_value s by value).threads t ≡ stage_at s.threads t
value-stages s (ByThread u core) value t = same-set (λ (r : Thread). r.stage) s.threads u t (record (thread_at s u) { value = value }) no_thread refl
value-stages s (ByTimer name) value t = refl

pub text-stages : (s : State) (by : By) (text : List ℕ) (t : ℕ) → stage_at (with_text s by text).threads t ≡ stage_at s.threads t
text-stages s (ByThread u core) text t = same-set (λ (r : Thread). r.stage) s.threads u t (record (thread_at s u) { text = text }) no_thread refl
text-stages s (ByTimer name) text t = refl

mail_got-kept : (f : Frame) (s : State) (mailbox : Mailbox) (words : List ℕ) (timeout : Option ℕ) (by : By) (attempt : Attempt) → IsBy f s by → IsAttempt f attempt → is_timeout timeout ≡ true → Kept f s → KeptOutcome f (mb_recv_outcome mailbox words timeout s by attempt)
mail_got-kept f s mailbox [] timeout by attempt is tried timed kept = wait_or-kept f s by attempt (Call.MbRecv mailbox.name timeout) timeout Code.Timeout is tried timed timed kept
mail_got-kept f s mailbox (word ∷ words) timeout by attempt is tried timed kept = let taken : State = with_mailbox s (record mailbox { words = words }) in retried-kept f s (with_value taken by word) mailbox.order (sends_mail mailbox.name) (value-stages taken by word) (value-kept f taken by word kept)

mb_recv-kept : (f : Frame) (s : State) (name : List ℕ) (timeout : Option ℕ) (by : By) (attempt : Attempt) → IsBy f s by → IsAttempt f attempt → is_timeout timeout ≡ true → Kept f s → KeptOutcome f (mb_recv name timeout s by attempt)
mb_recv-kept f s name timeout by attempt is tried timed kept = found-outcome f (find_mailbox s name) (missing_outcome s attempt) _ (missing-kept f s attempt kept) (λ mailbox found. mail_got-kept f s mailbox mailbox.words timeout by attempt is tried timed kept)

-- queues
message_put-kept : (f : Frame) (s : State) (queue : MsgQueue) (messages : List (List ℕ)) → Kept f s → KeptOutcome f (message_put_outcome queue messages s)
message_put-kept f s queue messages kept = retried-kept f s (with_queue s (record queue { messages = messages })) queue.order (receives_message queue.name) (λ t. refl) kept

mq_send-kept : (f : Frame) (s : State) (name message : List ℕ) (timeout : Option ℕ) (by : By) (attempt : Attempt) → IsBy f s by → IsAttempt f attempt → is_timeout timeout ≡ true → Kept f s → KeptOutcome f (mq_send name message timeout s by attempt)
mq_send-kept f s name message timeout by attempt is tried timed kept = found-outcome f (find_queue s name) (missing_outcome s attempt) _ (missing-kept f s attempt kept) (λ queue found.
    if-outcome f (is_too_long queue message) (refusal s Code.Error) _ (λ long. kept) (λ fits. if-outcome f (has_message_room queue) _ _ (λ room. message_put-kept f s queue (queue.messages ++ message ∷ []) kept) (λ full. wait_or-kept f s by attempt (Call.MqSend queue.name timeout message) timeout Code.Full is tried timed timed kept)))

mq_urgent-kept : (f : Frame) (s : State) (name message : List ℕ) → Kept f s → KeptOutcome f (mq_urgent name message s)
mq_urgent-kept f s name message kept = found-outcome f (find_queue s name) (missing_outcome s First) _ kept (λ queue found.
    if-outcome f (is_too_long queue message) (refusal s Code.Error) _ (λ long. kept) (λ fits. if-outcome f (has_message_room queue) _ (refusal s Code.Full) (λ room. message_put-kept f s queue (message ∷ queue.messages) kept) (λ full. kept)))

message_got-kept : (f : Frame) (s : State) (queue : MsgQueue) (messages : List (List ℕ)) (timeout : Option ℕ) (by : By) (attempt : Attempt) → IsBy f s by → IsAttempt f attempt → is_timeout timeout ≡ true → Kept f s → KeptOutcome f (mq_recv_outcome queue messages timeout s by attempt)
message_got-kept f s queue [] timeout by attempt is tried timed kept = wait_or-kept f s by attempt (Call.MqRecv queue.name timeout) timeout Code.Timeout is tried timed timed kept
message_got-kept f s queue (message ∷ messages) timeout by attempt is tried timed kept =
    let taken : State = with_queue s (record queue { messages = messages }) in
    let told : State = with_text taken by message in
    retried-kept f s (with_value told by (length message)) queue.order (sends_message queue.name) (λ t. value-stages told by (length message) t ∙ text-stages taken by message t) (value-kept f told by (length message) (text-kept f taken by message kept))

mq_recv-kept : (f : Frame) (s : State) (name : List ℕ) (timeout : Option ℕ) (by : By) (attempt : Attempt) → IsBy f s by → IsAttempt f attempt → is_timeout timeout ≡ true → Kept f s → KeptOutcome f (mq_recv name timeout s by attempt)
mq_recv-kept f s name timeout by attempt is tried timed kept = found-outcome f (find_queue s name) (missing_outcome s attempt) _ (missing-kept f s attempt kept) (λ queue found. message_got-kept f s queue queue.messages timeout by attempt is tried timed kept)

-- pools
allocated-kept : (f : Frame) (s : State) (pool : Pool) (o timeout : Option ℕ) (by : By) → IsBy f s by → is_timeout timeout ≡ true → Kept f s → KeptOutcome f (mp_alloc_outcome pool o timeout s by)
allocated-kept f s pool None timeout by is timed kept = wait_or-kept f s by First (Call.MpAlloc pool.name timeout) timeout Code.Timeout is tt timed timed kept
allocated-kept f s pool (Some block) timeout (ByThread t core) is timed kept = value-kept f (with_pool s (with_block_held pool block t)) (ByThread t core) (place_of pool block) kept
allocated-kept f s pool (Some block) timeout (ByTimer name) is timed kept = kept

mp_alloc-kept : (f : Frame) (s : State) (name : List ℕ) (timeout : Option ℕ) (by : By) → IsBy f s by → is_timeout timeout ≡ true → Kept f s → KeptOutcome f (mp_alloc name timeout s by)
mp_alloc-kept f s name timeout by is timed kept = found-outcome f (find_pool s name) (refusal s Code.Inval) _ kept (λ pool found. allocated-kept f s pool (free_block pool) timeout by is timed kept)

passed-kept : (f : Frame) (s : State) (pool : Pool) (block : ℕ) (o : Option ℕ) → ((t : ℕ) → o ≡ Some t → is_waiting (thread_at s t).stage ≡ true) → Kept f s → KeptOutcome f (passed_block_outcome pool block o s)
passed-kept f s pool block None waits kept = kept
passed-kept f s pool block (Some t) waits kept = wake-kept f (state_with_block pool block t s) Code.Ok t (ap is_waiting (same-set (λ (r : Thread). r.stage) s.threads t t row no_thread refl) ∙ waits t refl) (thread-kept f s t row refl (fine-at f s t kept) kept) where
  row : Thread
  row = record (thread_at s t) { value = place_of pool block }

freed-kept : (f : Frame) (s : State) (pool : Pool) (o : Option ℕ) → Kept f s → KeptOutcome f (mp_free_outcome pool o s)
freed-kept f s pool None kept = kept
freed-kept f s pool (Some block) kept = passed-kept f s pool block (first_waiter s pool.order (takes_block pool.name)) (first-waits s pool.order (takes_block pool.name)) kept

mp_free-kept : (f : Frame) (s : State) (name : List ℕ) (by : By) → Kept f s → KeptOutcome f (mp_free name s by)
mp_free-kept f s name (ByThread t core) kept = found-outcome f (find_pool s name) (refusal s Code.Inval) _ kept (λ pool found. freed-kept f s pool (last_block pool t) kept)
mp_free-kept f s name (ByTimer timer) kept = found-outcome f (find_pool s name) (refusal s Code.Inval) _ kept (λ pool found. kept)

-- deletions: all who waited wake
deletion-kept : (f : Frame) (s : State) (ts : List ℕ) → AllByRecursion (λ t. is_waiting (stage_at s.threads t) ≡ true) ts → AllApart (λ t. t) ts → Kept f s → KeptOutcome f (deletion_outcome s ts)
deletion-kept f s ts wait apart kept = each-wakes f (λ t. t) (wake_effect Code.Error) (λ t u waits k. wake-kept f u Code.Error t waits k) (λ t u v off. wake-others u Code.Error t v off) ts s wait apart kept

apart-append : (xs ys : List ℕ) → AllApart (λ t. t) xs → AllApart (λ t. t) ys → AllByRecursion (λ x. AllByRecursion (λ y. y ≢ x) ys) xs → AllApart (λ t. t) (xs ++ ys)
apart-append [] ys left right off = right
apart-append (x ∷ xs) ys left right off = (all-append (λ y. y ≢ x) xs ys left.0 off.0, apart-append xs ys left.1 right off.1)

listed-call : (p q : Call → Bool) → ((call : Call) → p call ≡ true → q call ≡ true → ⊥) → (stage : Stage) → is_some (number_in p stage) ≡ true → is_some (number_in q stage) ≡ true → ⊥
listed-call p q never (Waiting (InCall call) number) is also = by_test (p call) (q call) refl refl is also where
  by_test : (c d : Bool) → p call ≡ c → q call ≡ d → is_some (if c then Some number else None) ≡ true → is_some (if d then Some number else None) ≡ true → ⊥
  by_test true true here there is also = never call here there
  by_test false d here there is also = cc
  by_test true false here there is also = cc
listed-call p q never _ is also = cc

pub lists-apart : (s : State) (order : WaitOrder) (p q : Call → Bool) → ((call : Call) → p call ≡ true → q call ≡ true → ⊥) → AllApart (λ t. t) (waiters s order p ++ waiters s order q)
lists-apart s order p q never = apart-append (waiters s order p) (waiters s order q) (waiters-apart s order p) (waiters-apart s order q)
    (all-weaker (IsListed p s.threads) (λ x. AllByRecursion (λ y. y ≢ x) (waiters s order q)) (waiters s order p)
    (λ x here. all-weaker (IsListed q s.threads) (λ y. y ≢ x) (waiters s order q) (λ y there same. listed-call p q never (stage_at s.threads x) here (subst (IsListed q s.threads) same there)) (waiters-listed s order q)) (waiters-listed s order p))

pub mail-lists : (name : List ℕ) (call : Call) → receives_mail name call ≡ true → sends_mail name call ≡ true → ⊥
mail-lists name (Call.MbSend box word timeout) is also = cc
mail-lists name _ is also = cc

pub message-lists : (name : List ℕ) (call : Call) → receives_message name call ≡ true → sends_message name call ≡ true → ⊥
message-lists name (Call.MqSend queue timeout message) is also = cc
message-lists name _ is also = cc

delete-kept : (f : Frame) (s : State) (class : Class) (name : List ℕ) → Kept f s → KeptOutcome f (delete class name s)
delete-kept f s Class.Sem name kept = found-outcome f (find_sem s name) (refusal s Code.Inval) _ kept (λ sem found. deletion-kept f _ (waiters s sem.order (takes_sem name)) (waiters-wait s sem.order (takes_sem name)) (waiters-apart s sem.order (takes_sem name)) kept)
delete-kept f s Class.Event name kept = found-outcome f (find_event s name) (refusal s Code.Inval) _ kept (λ event found. deletion-kept f _ (waiters s event.order (receives_event name)) (waiters-wait s event.order (receives_event name)) (waiters-apart s event.order (receives_event name)) kept)
delete-kept f s Class.Mutex name kept = found-outcome f (find_mutex s name) (refusal s Code.Inval) _ kept (λ mutex found. deletion-kept f _ (waiters s WaitOrder.Prio (takes_mutex name)) (waiters-wait s WaitOrder.Prio (takes_mutex name)) (waiters-apart s WaitOrder.Prio (takes_mutex name)) kept)
delete-kept f s Class.Mailbox name kept = found-outcome f (find_mailbox s name) (refusal s Code.Inval) _ kept (λ mailbox found. deletion-kept f _ (waiters s mailbox.order (receives_mail name) ++ waiters s mailbox.order (sends_mail name))
    (all-append _ (waiters s mailbox.order (receives_mail name)) _ (waiters-wait s mailbox.order (receives_mail name)) (waiters-wait s mailbox.order (sends_mail name))) (lists-apart s mailbox.order (receives_mail name) (sends_mail name) (mail-lists name)) kept)
delete-kept f s Class.MsgQueue name kept = found-outcome f (find_queue s name) (refusal s Code.Inval) _ kept (λ queue found. deletion-kept f _ (waiters s queue.order (receives_message name) ++ waiters s queue.order (sends_message name))
    (all-append _ (waiters s queue.order (receives_message name)) _ (waiters-wait s queue.order (receives_message name)) (waiters-wait s queue.order (sends_message name))) (lists-apart s queue.order (receives_message name) (sends_message name) (message-lists name)) kept)
delete-kept f s Class.Thread name kept = kept
delete-kept f s Class.Timer name kept = kept
delete-kept f s Class.Device name kept = kept

-- timers
pub armed-kept : (f : Frame) (s : State) (timer : Timer) → IsFineTimer f.board timer → is_owned s.timers (OfTimer timer.name) ≡ true → tally (is_work_of (OfTimer timer.name)) s.works ≡ 0 → Kept f s → Kept f (with_timer_armed s timer)
armed-kept f s timer fine owner idle kept = with_alarm-kept f (without_alarm s (OfTimer timer.name)) (OfTimer timer.name) (Some (s.moment + timer.time)) (omega (arith, idle, tally-dropped (λ (r : ArmedRow Alarm). is_alarm (OfTimer timer.name) r.alarm) s.armed)) owner tt ahead (without_alarm-kept f s (OfTimer timer.name) kept) where
  ahead : IsAhead f.now (Some (s.moment + timer.time))
  ahead d is = let same : s.moment + timer.time ≡ d = some-is (s.moment + timer.time) d is in (omega (arith, same, fine.0, kept.moment_is), omega (arith, same, fine.1, kept.moment_is))

-- each timer is one of them
all-named : (timers : List Timer) → AllByRecursion (λ (timer : Timer). is_owned timers (OfTimer timer.name) ≡ true) timers
all-named [] = tt
all-named (o ∷ os) = (rw ((bytes_eq-Decides o.name o.name).1 refl) refl, all-weaker (λ (timer : Timer). is_owned os (OfTimer timer.name) ≡ true) (λ (timer : Timer). is_owned (o ∷ os) (OfTimer timer.name) ≡ true) os (λ timer is. or-second (bytes_eq o.name timer.name) (is_owned os (OfTimer timer.name)) is) (all-named os))

pub found-owner : (s : State) (name : List ℕ) (timer : Timer) → find_timer s name ≡ Some timer → is_owned s.timers (OfTimer timer.name) ≡ true
found-owner s name timer is = all-found (λ (o : Timer). is_owned s.timers (OfTimer o.name) ≡ true) (λ (o : Timer). bytes_eq o.name name) s.timers timer is (all-named s.timers)

pub found-timer : (f : Frame) (s : State) (name : List ℕ) (timer : Timer) → find_timer s name ≡ Some timer → Kept f s → IsFineTimer f.board timer
found-timer f s name timer is kept = all-found (IsFineTimer f.board) (λ (o : Timer). bytes_eq o.name name) s.timers timer is kept.timers_fine

-- a timer is taken out of the works
works-fewer : (s : State) (name : List ℕ) (alarm : Alarm) → tally (is_work_of alarm) (without_work s name).works ≤ tally (is_work_of alarm) s.works
works-fewer s name alarm = tally-filter (is_work_of alarm) (λ (work : List ℕ). not (bytes_eq work name)) s.works

unworked-kept : (f : Frame) (s : State) (name : List ℕ) → Kept f s → Kept f (without_work s name)
unworked-kept f s name kept = works-kept f s (without_work s name).works (λ alarm. omega (arith, kept.single alarm, works-fewer s name alarm)) (all-filter (IsKnownWork s.timers) (λ (work : List ℕ). not (bytes_eq work name)) s.works kept.works_known) kept

-- no test is passed by what none passes
none-passes : {X : Type 0} (p : X → Bool) (xs : List X) → list_any p xs ≡ false → tally p xs ≡ 0
none-passes p [] none = refl
none-passes p (x ∷ xs) none = omega (arith, ap one_if (or-left (p x) (list_any p xs) none), none-passes p xs (or-right (p x) (list_any p xs) none))

-- and it is no work any more
unwork-kept : (f : Frame) (s : State) (name : List ℕ) → Kept f s → Kept f (unwork_effect name s).state × (tally (is_work_of (OfTimer name)) (unwork_effect name s).state.works ≡ 0) × ((unwork_effect name s).state.timers ≡ s.timers)
unwork-kept f s name kept = by_test (has_work s name) refl where
  by_test : (c : Bool) → has_work s name ≡ c → let e : Effect = if c then line_effect (without_work s name) (Line.Unwork name) else no_effect s in Kept f e.state × (tally (is_work_of (OfTimer name)) e.state.works ≡ 0) × (e.state.timers ≡ s.timers)
  by_test true is = (unworked-kept f s name kept, tally-dropped (λ (work : List ℕ). bytes_eq work name) s.works, refl)
  by_test false is = (kept, none-passes (λ (work : List ℕ). bytes_eq work name) s.works is, refl)

timer_start-kept : (f : Frame) (s : State) (name : List ℕ) → Kept f s → KeptOutcome f (timer_start name s)
timer_start-kept f s name kept = found-outcome f (find_timer s name) (refusal s Code.Inval) _ kept (λ timer found. started timer found) where
  started : (timer : Timer) → find_timer s name ≡ Some timer → Kept f (timer_start_effect timer s).state
  started timer found =
      let idle : Kept f (unwork_effect timer.name s).state × (tally (is_work_of (OfTimer timer.name)) (unwork_effect timer.name s).state.works ≡ 0) × ((unwork_effect timer.name s).state.timers ≡ s.timers) = unwork-kept f s timer.name kept in
      armed-kept f (unwork_effect timer.name s).state timer (found-timer f s name timer found kept) (ap (λ (timers : List Timer). is_owned timers (OfTimer timer.name)) idle.2 ∙ found-owner s name timer found) idle.1 idle.0

timer_stop-kept : (f : Frame) (s : State) (name : List ℕ) → Kept f s → KeptOutcome f (timer_stop name s)
timer_stop-kept f s name kept = found-outcome f (find_timer s name) (refusal s Code.Inval) _ kept (λ timer found. if-outcome f (has_work s name) _ _ (λ work. (unwork-kept f s name kept).0)
    (λ idle. if-outcome f (is_some (due_of s (OfTimer name))) _ (refusal s Code.Error) (λ is. without_alarm-kept f s (OfTimer name) kept) (λ is. kept)))

replaced-fine : (b : PlainBoard) (timers : List Timer) (timer : Timer) → IsFineTimer b timer → AllByRecursion (IsFineTimer b) timers → AllByRecursion (IsFineTimer b) (map (λ (o : Timer). if bytes_eq o.name timer.name then timer else o) timers)
replaced-fine b [] timer fine all = tt
replaced-fine b (o ∷ os) timer fine all = (by_test (bytes_eq o.name timer.name), replaced-fine b os timer fine all.1) where
  by_test : (c : Bool) → IsFineTimer b (if c then timer else o)
  by_test true = fine
  by_test false = all.0

replaced-name : (o timer : Timer) → (if bytes_eq o.name timer.name then timer else o).name ≡ o.name
replaced-name o timer = by_test (bytes_eq o.name timer.name) refl where
  by_test : (c : Bool) → bytes_eq o.name timer.name ≡ c → (if c then timer else o).name ≡ o.name
  by_test true is = sym ((bytes_eq-Decides o.name timer.name).0 is)
  by_test false is = refl

replaced-names : (timers : List Timer) (timer : Timer) (name : List ℕ) → is_owned (map (λ (o : Timer). if bytes_eq o.name timer.name then timer else o) timers) (OfTimer name) ≡ is_owned timers (OfTimer name)
replaced-names [] timer name = refl
replaced-names (o ∷ os) timer name = ap (λ (n : List ℕ). bytes_eq n name || is_owned (map (λ (x : Timer). if bytes_eq x.name timer.name then timer else x) os) (OfTimer name)) (replaced-name o timer) ∙ ap (λ (c : Bool). bytes_eq o.name name || c) (replaced-names os timer name)

replaced-owner : (timers : List Timer) (timer : Timer) (alarm : Alarm) → is_owned timers alarm ≡ true → is_owned (map (λ (o : Timer). if bytes_eq o.name timer.name then timer else o) timers) alarm ≡ true
replaced-owner timers timer (OfThread t) is = refl
replaced-owner timers timer (OfTimer name) is = replaced-names timers timer name ∙ is

timer-kept : (f : Frame) (s : State) (timer : Timer) → IsFineTimer f.board timer → Kept f s → Kept f (with_timer s timer)
timer-kept f s timer fine kept = record {
  moment_is = kept.moment_is;
  live = kept.live;
  ends = kept.ends;
  count = kept.count;
  cores = kept.cores;
  placed = kept.placed;
  rows = kept.rows;
  bounded = kept.bounded;
  due_few = kept.due_few;
  single = kept.single;
  owned = all-weaker (IsOwned s.timers) (IsOwned (with_timer s timer).timers) s.armed (λ row is. replaced-owner s.timers timer row.alarm is) kept.owned;
  works_known = all-weaker (IsKnownWork s.timers) (IsKnownWork (with_timer s timer).timers) s.works (λ work is. replaced-owner s.timers timer (OfTimer work) is) kept.works_known;
  fine = kept.fine;
  nest_runs = kept.nest_runs;
  timers_fine = replaced-fine f.board s.timers timer fine kept.timers_fine;
}

timer_set-kept : (f : Frame) (s : State) (name : List ℕ) (time : ℕ) → nat_lt 0 time && is_span time ≡ true → Kept f s → KeptOutcome f (timer_set name time s)
timer_set-kept f s name time timed kept = found-outcome f (find_timer s name) (refusal s Code.Inval) _ kept (λ timer found. timer-kept f s (record timer { time = time }) (ltb-true 0 time (and-left _ (is_span time) timed), leb-true time 2147483647 (and-right _ (is_span time) timed), (found-timer f s name timer found kept).2, (found-timer f s name timer found kept).3) kept)

-- devices
dev_open-kept : (f : Frame) (s : State) (name : List ℕ) → Kept f s → KeptOutcome f (dev_open name s)
dev_open-kept f s name kept = found-outcome f (find_device s name) (refusal s Code.Inval) _ kept (λ device found. if-outcome f (eqb device.opened 255) (refusal s Code.Full) _ (λ full. kept) (λ room. kept))

dev_close-kept : (f : Frame) (s : State) (name : List ℕ) → Kept f s → KeptOutcome f (dev_close name s)
dev_close-kept f s name kept = found-outcome f (find_device s name) (refusal s Code.Inval) _ kept (λ device found. if-outcome f (may_close device) _ (refusal s Code.Error) (λ may. kept) (λ may. kept))

dev_read-kept : (f : Frame) (s : State) (name : List ℕ) (count : ℕ) (by : By) → Kept f s → KeptOutcome f (dev_read name count s by)
dev_read-kept f s name count by kept = found-outcome f (find_device s name) (refusal s Code.Inval) _ kept (λ device found. if-outcome f (is_open device) _ (refusal s Code.Error) (λ opened. value-kept f (with_text (with_device s _) by _) by _ (text-kept f (with_device s _) by _ kept)) (λ closed. kept))

written-kept : (f : Frame) (s : State) (device : Device) (text : List ℕ) (by : By) → Kept f s → Kept f (write_effect device text s by).state
written-kept f s device text by kept = by_kind device.console where
  by_kind : (c : Bool) → Kept f (write_effect (record device { console = c }) text s by).state
  by_kind true = value-kept f s by _ kept
  by_kind false = value-kept f (with_device s _) by _ kept

dev_write-kept : (f : Frame) (s : State) (name text : List ℕ) (by : By) → Kept f s → KeptOutcome f (dev_write name text s by)
dev_write-kept f s name text by kept = found-outcome f (find_device s name) (refusal s Code.Inval) _ kept (λ device found. if-outcome f (is_open device) _ (refusal s Code.Error) (λ opened. written-kept f s device text by kept) (λ closed. kept))

dev_ctl-kept : (f : Frame) (s : State) (name : List ℕ) (rate : ℕ) → Kept f s → KeptOutcome f (dev_ctl name rate s)
dev_ctl-kept f s name rate kept = found-outcome f (find_device s name) (refusal s Code.Inval) _ kept (λ device found. if-outcome f device.console (refusal s Code.NoSys) _ (λ is. kept) (λ is. kept))

-- votes
pm_request-kept : (f : Frame) (s : State) (mode : Sleep) → Kept f s → KeptOutcome f (pm_request mode s)
pm_request-kept f s mode kept = if-outcome f (eqb (votes_for s.votes mode) 255) (refusal s Code.Full) _ (λ full. kept) (λ room. kept)

pm_release-kept : (f : Frame) (s : State) (mode : Sleep) → Kept f s → KeptOutcome f (pm_release mode s)
pm_release-kept f s mode kept = if-outcome f (eqb (votes_for s.votes mode) 0) (refusal s Code.Error) _ (λ none. kept) (λ some. kept)

-- the whole table
pub outcome-kept : (f : Frame) (b : PlainBoard) (s : State) (call : Call) (by : By) (attempt : Attempt) → is_timed_call call ≡ true → IsBy f s by → IsAttempt f attempt → Kept f s → KeptOutcome f (outcome_of b call s by attempt)
outcome-kept f b s (Call.Delay ticks) by attempt timed is tried kept = delay-kept f s by ticks is timed kept
outcome-kept f b s Call.Yield by attempt timed is tried kept = yield-kept f s by kept
outcome-kept f b s (Call.Startup name) by attempt timed is tried kept = startup-kept f s name kept
outcome-kept f b s (Call.Suspend name) by attempt timed is tried kept = suspend-kept f s name by is kept
outcome-kept f b s (Call.Resume name) by attempt timed is tried kept = resume-kept f s name kept
outcome-kept f b s (Call.Kill name) by attempt timed is tried kept = kill-kept f s name kept
outcome-kept f b s (Call.SetPrio name prio) by attempt timed is tried kept = set_prio-kept f s name prio kept
outcome-kept f b s Call.Lock by attempt timed is tried kept = lock-kept f s by is kept
outcome-kept f b s Call.Unlock by attempt timed is tried kept = unlock-kept f s by is kept
outcome-kept f b s Call.SchedLock by attempt timed is tried kept = sched_lock-kept f s by kept
outcome-kept f b s Call.SchedUnlock by attempt timed is tried kept = sched_unlock-kept f s by kept
outcome-kept f b s (Call.SemCreate name value order) by attempt timed is tried kept = sem_create-kept f b s name value order kept
outcome-kept f b s (Call.SemTake name timeout) by attempt timed is tried kept = sem_take-kept f s name timeout by is timed kept
outcome-kept f b s (Call.SemRelease name) by attempt timed is tried kept = sem_release-kept f s name kept
outcome-kept f b s (Call.EventCreate name order) by attempt timed is tried kept = event_create-kept f b s name order kept
outcome-kept f b s (Call.EventSend name mask) by attempt timed is tried kept = event_send-kept f s name mask kept
outcome-kept f b s (Call.EventRecv name mask all clear timeout) by attempt timed is tried kept = event_recv-kept f s name (record { mask = mask; all = all; clear = clear }) timeout by is timed kept
outcome-kept f b s (Call.MutexCreate name ceiling) by attempt timed is tried kept = mutex_create-kept f b s name ceiling kept
outcome-kept f b s (Call.MutexTake name timeout) by attempt timed is tried kept = mutex_take-kept f s name timeout by is timed kept
outcome-kept f b s (Call.MutexRelease name) by attempt timed is tried kept = mutex_release-kept f s name by kept
outcome-kept f b s (Call.MutexCeiling name ceiling) by attempt timed is tried kept = mutex_ceiling-kept f s name ceiling by kept
outcome-kept f b s (Call.MbSend name word timeout) by attempt timed is tried kept = mb_send-kept f s name word timeout by attempt is tried timed kept
outcome-kept f b s (Call.MbUrgent name word) by attempt timed is tried kept = mb_urgent-kept f s name word kept
outcome-kept f b s (Call.MbRecv name timeout) by attempt timed is tried kept = mb_recv-kept f s name timeout by attempt is tried timed kept
outcome-kept f b s (Call.MqSend name timeout message) by attempt timed is tried kept = mq_send-kept f s name message timeout by attempt is tried timed kept
outcome-kept f b s (Call.MqUrgent name message) by attempt timed is tried kept = mq_urgent-kept f s name message kept
outcome-kept f b s (Call.MqRecv name timeout) by attempt timed is tried kept = mq_recv-kept f s name timeout by attempt is tried timed kept
outcome-kept f b s (Call.Delete class name) by attempt timed is tried kept = delete-kept f s class name kept
outcome-kept f b s (Call.TimerStart name) by attempt timed is tried kept = timer_start-kept f s name kept
outcome-kept f b s (Call.TimerStop name) by attempt timed is tried kept = timer_stop-kept f s name kept
outcome-kept f b s (Call.TimerSet name time) by attempt timed is tried kept = timer_set-kept f s name time timed kept
outcome-kept f b s (Call.DevOpen name) by attempt timed is tried kept = dev_open-kept f s name kept
outcome-kept f b s (Call.DevClose name) by attempt timed is tried kept = dev_close-kept f s name kept
outcome-kept f b s (Call.DevRead name count) by attempt timed is tried kept = dev_read-kept f s name count by kept
outcome-kept f b s (Call.DevWrite name text) by attempt timed is tried kept = dev_write-kept f s name text by kept
outcome-kept f b s (Call.DevCtl name rate) by attempt timed is tried kept = dev_ctl-kept f s name rate kept
outcome-kept f b s (Call.PmRequest mode) by attempt timed is tried kept = pm_request-kept f s mode kept
outcome-kept f b s (Call.PmRelease mode) by attempt timed is tried kept = pm_release-kept f s mode kept
outcome-kept f b s (Call.PmRun mode) by attempt timed is tried kept = kept
outcome-kept f b s (Call.MpAlloc name timeout) by attempt timed is tried kept = mp_alloc-kept f s name timeout by is timed kept
outcome-kept f b s (Call.MpFree name) by attempt timed is tried kept = mp_free-kept f s name by kept

-- what a timer does
period-kept : (f : Frame) (s : State) (kind : TimerKind) (timer : Timer) → IsFineTimer f.board timer → is_owned s.timers (OfTimer timer.name) ≡ true → tally (is_work_of (OfTimer timer.name)) s.works ≡ 0 → Kept f s → Kept f (with_period kind timer s)
period-kept f s TimerKind.OneShot timer fine owner idle kept = kept
period-kept f s TimerKind.Periodic timer fine owner idle kept = armed-kept f s timer fine owner idle kept
period-kept f s TimerKind.SoftOne timer fine owner idle kept = kept
period-kept f s TimerKind.SoftPer timer fine owner idle kept = armed-kept f s timer fine owner idle kept

called-kept : (f : Frame) (s : State) (line : Fired → Line) (name : List ℕ) (action : Option Stmt) → is_timed_action action ≡ true → Kept f s → Kept f (timer_effect f.board line name action s).state
called-kept f s line name None timed kept = kept
called-kept f s line name (Some (Stmt.Print text)) timed kept = kept
called-kept f s line name (Some (Stmt.Do call)) timed kept = outcome-kept f f.board s call (ByTimer name) First timed tt tt kept
called-kept f s line name (Some _) timed kept = kept

pub action-kept : (f : Frame) (s : State) (line : Fired → Line) (timer : Timer) → IsFineTimer f.board timer → is_owned s.timers (OfTimer timer.name) ≡ true → tally (is_work_of (OfTimer timer.name)) s.works ≡ 0 → Kept f s → Kept f (timer_action_effect f.board line timer s).state
action-kept f s line timer fine owner idle kept = called-kept f (with_period timer.kind timer s) line timer.name timer.call fine.2 (period-kept f s timer.kind timer fine owner idle kept)

-- the timer of a name has that name
pub found-name : (s : State) (name : List ℕ) (timer : Timer) → find_timer s name ≡ Some timer → timer.name ≡ name
found-name s name timer is = (bytes_eq-Decides timer.name name).0 (found-passes (λ (o : Timer). bytes_eq o.name name) s.timers timer is)
