-- What each call leaves: the works that its lines tell, what is to arrive, and priorities and bindings that the board has.
use Rattle.std.proofs.Common.{◌≡◌, ◌<◌, ◌+◌, ◌-◌, ◌∷◌, [], ◌++◌, ℕ, zero, suc, List, Option, Some, None, Bool, true, false, is_some, length, eqb, nat_lt, nat_le, refl, sym, ap, ◌∙◌, subst, ltb-true, slice_index_or, slice_set, if◌then◌else◌, bit_and, bit_or}
use Rattle.std.specs.List.{AllByRecursion}
use Rattle.std.specs.Option.{option_and_then}
use Rattle.rt_base.specs.declared.codes.Code.{Code}
use Rattle.rt_base.specs.declared.codes.Class.{Class}
use Rattle.rt_base.specs.declared.codes.WaitOrder.{WaitOrder}
use Rattle.rt_plain.specs.declared.line.Line.{Line}
use Rattle.rt_plain.specs.declared.stmt.Call.{Call}
use Rattle.rt_plain.specs.PlainBoard.{PlainBoard}
use Rattle.rt_plain.specs.kernel.State.{State, Stage, Active, Waiting, Suspended, Closed, Awaited, InCall, Thread, Holding, Mailbox, MsgQueue, Pool, Device, Nest, Sem, OfThread, OfTimer, no_thread, thread_at, with_thread, find_thread, is_initial}
use Rattle.rt_plain.specs.kernel.Effects.{Effect, no_effect, line_effect, each_effect, effect_for, without_alarm, waiting_state, active_state, wake_effect, retry_wake_effect, retry_of, due_of}
use Rattle.rt_plain.specs.kernel.Waiting.{waiters, first_waiter, takes_sem, takes_mutex, receives_event, sends_mail, receives_mail, sends_message, receives_message, takes_block}
use Rattle.rt_plain.specs.kernel.Owners.{without_owner, with_owner, pass_effect, give_back_effect, mutexes_of, withdrawn_state, close_effect}
use Rattle.rt_plain.specs.kernel.Outcome.{By, ByThread, ByTimer, Attempt, First, Again, Outcome, refusal, success, silent_success, with_value, with_text, may_not_wait, wait_outcome, first_wait_outcome, is_past, wait_or_refusal, missing_outcome, found_outcome}
use Rattle.rt_plain.specs.kernel.ThreadCalls.{delay, yield, startup, suspend, suspended_state, may_suspend, resume, resume_outcome, kill, set_prio, lock, lock_outcome, unlock, unlock_outcome, with_locks, sched_lock, sched_unlock}
use Rattle.rt_plain.specs.kernel.SemCalls.{find_sem, sem_take, sem_release_outcome, sem_release}
use Rattle.rt_plain.specs.kernel.EventCalls.{Want, Wanting, find_event, with_event, event_recv, is_satisfied, flags_wake_effect, wanting_threads, satisfied_waiters, event_send}
use Rattle.rt_plain.specs.kernel.MutexCalls.{find_mutex, with_mutex, mutex_take_outcome, mutex_take, mutex_release_outcome, mutex_release, mutex_ceiling}
use Rattle.rt_plain.specs.kernel.Priority.{holding_of}
use Rattle.rt_plain.specs.kernel.MailboxCalls.{find_mailbox, with_mailbox, has_mail_room, mail_put_outcome, mb_send, mb_urgent, mb_recv_outcome, mb_recv}
use Rattle.rt_plain.specs.kernel.QueueCalls.{find_queue, with_queue, is_too_long, has_message_room, message_put_outcome, mq_send, mq_urgent, mq_recv_outcome, mq_recv}
use Rattle.rt_plain.specs.kernel.PoolCalls.{find_pool, with_pool, with_block_held, free_block, last_block, place_of, mp_alloc_outcome, mp_alloc, passed_block_outcome, mp_free_outcome, mp_free}
use Rattle.rt_plain.specs.kernel.DeleteCall.{deletion_outcome, delete}
use Rattle.rt_plain.specs.kernel.Works.{has_work, without_work, unwork_effect}
use Rattle.rt_plain.specs.kernel.TimerCalls.{find_timer, with_timer_armed, timer_start, timer_stop, timer_set}
use Rattle.rt_plain.specs.kernel.DeviceCalls.{find_device, with_device, is_open, dev_open, may_close, dev_close, dev_read, write_effect, dev_write, dev_ctl}
use Rattle.rt_plain.specs.kernel.PowerCalls.{votes_for}
use Rattle.rt_plain.specs.kernel.Calls.{outcome_of}
use Rattle.rt_plain.specs.runs.WorkLog.{works_after, works_from}
use Rattle.rt_plain.specs.kernel.Sound.{is_levelled_call, IsLevelled}

-- a thread's base priority is one of the board's levels, and its core one of the board's
abbrev pub IsLevelledThread : PlainBoard → Thread → Type 0
IsLevelledThread b row = (row.base < b.levels) × ((core : ℕ) → row.core ≡ Some core → core < b.cores)

abbrev pub AreLevelled : PlainBoard → List Thread → Type 0
AreLevelled b threads = AllByRecursion (IsLevelledThread b) threads

-- what an action leaves: its lines tell the new works from the old ones, all that is to arrive stays so, and so do levels and cores
pub record Leaves (b : PlainBoard) (s : State) (e : Effect) : Type 0 where
  pub works : works_from (Some s.works) e.lines ≡ Some e.state.works
  pub arrivals : e.state.arrivals ≡ s.arrivals
  pub levelled : IsLevelled b → AreLevelled b s.threads → AreLevelled b e.state.threads

-- a line that tells of no works
abbrev pub IsQuiet : Line → Type 0
IsQuiet line = (works : List (List ℕ)) → works_after line works ≡ Some works

pub works-append : (works : Option (List (List ℕ))) (xs ys : List Line) → works_from works (xs ++ ys) ≡ works_from (works_from works xs) ys
works-append works [] ys = refl
works-append works (x ∷ xs) ys = works-append (option_and_then (works_after x) works) xs ys

-- a row with the same base and core
levelled-set : (b : PlainBoard) (threads : List Thread) (t : ℕ) (row : Thread) → row.base ≡ (slice_index_or threads t no_thread).base → row.core ≡ (slice_index_or threads t no_thread).core → AreLevelled b threads → AreLevelled b (slice_set threads t row)
levelled-set b [] t row base core all = tt
levelled-set b (x ∷ xs) zero row base core all = ((subst (λ n. n < b.levels) (sym base) all.0.0, λ c is. all.0.1 c (sym core ∙ is)), all.1)
levelled-set b (x ∷ xs) (suc t) row base core all = (all.0, levelled-set b xs t row base core all.1)

-- a row with another base
levelled-base : (b : PlainBoard) (threads : List Thread) (t : ℕ) (row : Thread) → row.base < b.levels → row.core ≡ (slice_index_or threads t no_thread).core → AreLevelled b threads → AreLevelled b (slice_set threads t row)
levelled-base b [] t row base core all = tt
levelled-base b (x ∷ xs) zero row base core all = ((base, λ c is. all.0.1 c (sym core ∙ is)), all.1)
levelled-base b (x ∷ xs) (suc t) row base core all = (all.0, levelled-base b xs t row base core all.1)

module _ (b : PlainBoard) where
  pub leaves-same : (s : State) → Leaves b s (no_effect s)
  leaves-same s = record { works = refl; arrivals = refl; levelled = λ has all. all }

  -- other parts than threads, works and arrivals
  pub leaves-parts : (s u : State) → u.works ≡ s.works → u.arrivals ≡ s.arrivals → u.threads ≡ s.threads → Leaves b s (no_effect u)
  leaves-parts s u works arrivals threads = record { works = ap (λ (x : List (List ℕ)). Some x) (sym works); arrivals = arrivals; levelled = λ has all. subst (AreLevelled b) (sym threads) all }

  pub leaves-then : (s : State) (e g : Effect) → Leaves b s e → Leaves b e.state g → Leaves b s (record { state = g.state; lines = e.lines ++ g.lines })
  leaves-then s e g one other = record {
    works = works-append (Some s.works) e.lines g.lines ∙ ap (λ works. works_from works g.lines) one.works ∙ other.works;
    arrivals = other.arrivals ∙ one.arrivals;
    levelled = λ has all. other.levelled has (one.levelled has all);
  }

  -- the states that an action leads through
  pub leaves-from : (s u : State) (e : Effect) → Leaves b s (no_effect u) → Leaves b u e → Leaves b s e
  leaves-from s u e one other = record { works = ap (λ works. works_from works e.lines) one.works ∙ other.works; arrivals = other.arrivals ∙ one.arrivals; levelled = λ has all. other.levelled has (one.levelled has all) }

  pub leaves-after : (s u : State) (e : Effect) → Leaves b s e → Leaves b e.state (no_effect u) → Leaves b s (record { state = u; lines = e.lines })
  leaves-after s u e one other = record { works = one.works ∙ other.works; arrivals = other.arrivals ∙ one.arrivals; levelled = λ has all. other.levelled has (one.levelled has all) }

  pub leaves-line : (s : State) (e : Effect) (line : Line) → IsQuiet line → Leaves b s e → Leaves b s (record { state = e.state; lines = line ∷ e.lines })
  leaves-line s e line quiet leaves = record { works = ap (λ works. works_from works e.lines) (quiet s.works) ∙ leaves.works; arrivals = leaves.arrivals; levelled = leaves.levelled }

  -- another row of a thread
  pub row-leaves : (s : State) (t : ℕ) (row : Thread) → row.base ≡ (thread_at s t).base → row.core ≡ (thread_at s t).core → Leaves b s (no_effect (with_thread s t row))
  row-leaves s t row base core = record { works = refl; arrivals = refl; levelled = λ has all. levelled-set b s.threads t row base core all }

  pub active-leaves : (s : State) (t : ℕ) → Leaves b s (no_effect (active_state s t))
  active-leaves s t = record { works = refl; arrivals = refl; levelled = λ has all. levelled-set b s.threads t (record (thread_at s t) { stage = Active }) refl refl all }

  pub wake-leaves : (s : State) (code : Code) (t : ℕ) → Leaves b s (wake_effect code t s)
  wake-leaves s code t = let coded : State = with_thread s t (record (thread_at s t) { code = code }) in leaves-from s coded (wake_effect code t s) (row-leaves s t (record (thread_at s t) { code = code }) refl refl) (leaves-line coded (no_effect (active_state coded t)) _ (λ works. refl) (active-leaves coded t))

  pub retry_wake-leaves : (t : ℕ) (s : State) → Leaves b s (retry_wake_effect t s)
  retry_wake-leaves t s = leaves-from s told (retry_wake_effect t s) (row-leaves s t row refl refl) (leaves-line told (no_effect (active_state told t)) _ (λ works. refl) (active-leaves told t)) where
    row : Thread
    row = record (thread_at s t) { retry = retry_of (thread_at s t).stage (due_of s (OfThread t)) }

    told : State
    told = with_thread s t row

  pub each-leaves : {A : Type 0} (act : A → State → Effect) → ((x : A) (s : State) → Leaves b s (act x s)) → (xs : List A) (s : State) → Leaves b s (each_effect act xs s)
  each-leaves act does [] s = leaves-same s
  each-leaves act does (x ∷ xs) s = leaves-then s (act x s) (each_effect act xs (act x s).state) (does x s) (each-leaves act does xs (act x s).state)

  pub for-leaves : (act : ℕ → State → Effect) → ((t : ℕ) (s : State) → Leaves b s (act t s)) → (o : Option ℕ) (s : State) → Leaves b s (effect_for act o s)
  for-leaves act does None s = leaves-same s
  for-leaves act does (Some t) s = does t s

  pass-leaves : (mutex : List ℕ) (o : Option ℕ) (s : State) → Leaves b s (pass_effect mutex o s)
  pass-leaves mutex None s = leaves-parts s (without_owner s mutex) refl refl refl
  pass-leaves mutex (Some t) s = leaves-then s (line_effect (with_owner s mutex t) (Line.Own mutex (thread_at s t).name)) (wake_effect Code.Ok t (with_owner s mutex t)) (leaves-line s (no_effect (with_owner s mutex t)) _ (λ works. refl) (leaves-parts s (with_owner s mutex t) refl refl refl)) (wake-leaves (with_owner s mutex t) Code.Ok t)

  pub give_back-leaves : (mutex : List ℕ) (s : State) → Leaves b s (give_back_effect mutex s)
  give_back-leaves mutex s = pass-leaves mutex (first_waiter s WaitOrder.Prio (takes_mutex mutex)) s

  pub close-leaves : (t : ℕ) (s : State) → Leaves b s (close_effect t s)
  close-leaves t s = leaves-then s (line_effect (withdrawn_state s t) (Line.Close (thread_at s t).name)) (each_effect give_back_effect (mutexes_of s t) (withdrawn_state s t)) (leaves-line s (no_effect (withdrawn_state s t)) _ (λ works. refl) gone) (each-leaves give_back_effect give_back-leaves (mutexes_of s t) (withdrawn_state s t)) where
    gone : Leaves b s (no_effect (withdrawn_state s t))
    gone = record { works = refl; arrivals = refl; levelled = λ has all. levelled-set b s.threads t (record (thread_at s t) { stage = Closed; retry = None }) refl refl all }

  -- outcomes
  abbrev LeavesCall : State → Outcome → Type 0
  LeavesCall s outcome = Leaves b s outcome.effect

  if-leaves : (s : State) (c : Bool) (x y : Outcome) → LeavesCall s x → LeavesCall s y → LeavesCall s (if c then x else y)
  if-leaves s true x y one other = one
  if-leaves s false x y one other = other

  found-leaves : (s : State) {A : Type 0} (o : Option A) (missing : Outcome) (act : A → Outcome) → LeavesCall s missing → ((x : A) → LeavesCall s (act x)) → LeavesCall s (found_outcome o missing act)
  found-leaves s None missing act none some = none
  found-leaves s (Some x) missing act none some = some x

  missing-leaves : (s : State) (attempt : Attempt) → LeavesCall s (missing_outcome s attempt)
  missing-leaves s First = leaves-same s
  missing-leaves s (Again due) = leaves-same s

  value-leaves : (s : State) (by : By) (value : ℕ) → Leaves b s (no_effect (with_value s by value))
  value-leaves s (ByThread t core) value = row-leaves s t (record (thread_at s t) { value = value }) refl refl
  value-leaves s (ByTimer name) value = leaves-same s

  text-leaves : (s : State) (by : By) (text : List ℕ) → Leaves b s (no_effect (with_text s by text))
  text-leaves s (ByThread t core) text = row-leaves s t (record (thread_at s t) { text = text }) refl refl
  text-leaves s (ByTimer name) text = leaves-same s

  pub waiting-leaves : (s : State) (t : ℕ) (what : Awaited) (due : Option ℕ) → Leaves b s (no_effect (waiting_state s t what due))
  waiting-leaves s t what None = record { works = refl; arrivals = refl; levelled = λ has all. levelled-set b s.threads t (record (thread_at s t) { stage = Waiting what s.numbers }) refl refl all }
  waiting-leaves s t what (Some d) = record { works = refl; arrivals = refl; levelled = λ has all. levelled-set b s.threads t (record (thread_at s t) { stage = Waiting what s.numbers }) refl refl all }

  wait-leaves : (s : State) (t core : ℕ) (what : Awaited) (due : Option ℕ) → LeavesCall s (wait_outcome s t core what due)
  wait-leaves s t core what due = if-leaves s (may_not_wait s t core) (refusal s Code.Error) _ (leaves-same s) (waiting-leaves s t what due)

  first_wait-leaves : (s : State) (t core : ℕ) (call : Call) (timeout : Option ℕ) (code : Code) → LeavesCall s (first_wait_outcome s t core call timeout code)
  first_wait-leaves s t core call None code = wait-leaves s t core (InCall call) None
  first_wait-leaves s t core call (Some zero) code = leaves-same s
  first_wait-leaves s t core call (Some (suc n)) code = wait-leaves s t core (InCall call) (Some (s.moment + suc n))

  wait_or-leaves : (s : State) (by : By) (attempt : Attempt) (call : Call) (timeout : Option ℕ) (code : Code) → LeavesCall s (wait_or_refusal s by attempt call timeout code)
  wait_or-leaves s (ByThread t core) First call timeout code = first_wait-leaves s t core call timeout code
  wait_or-leaves s (ByThread t core) (Again due) call timeout code = if-leaves s (is_past s.moment due) (refusal s Code.Timeout) _ (leaves-same s) (wait-leaves s t core (InCall call) due)
  wait_or-leaves s (ByTimer name) attempt call timeout code = leaves-same s

  -- threads and locks
  delay-leaves : (s : State) (by : By) (ticks : ℕ) → LeavesCall s (delay ticks s by)
  delay-leaves s (ByThread t core) ticks = wait-leaves s t core (InCall (Call.Delay ticks)) (Some (s.moment + ticks))
  delay-leaves s (ByTimer name) ticks = leaves-same s

  yield-leaves : (s : State) (by : By) → LeavesCall s (yield s by)
  yield-leaves s (ByThread t core) = row-leaves s t (record (thread_at s t) { left = (thread_at s t).slice; marked = true }) refl refl
  yield-leaves s (ByTimer name) = leaves-same s

  startup-leaves : (s : State) (name : List ℕ) → LeavesCall s (startup name s)
  startup-leaves s name = found-leaves s (find_thread s name) (refusal s Code.Inval) _ (leaves-same s) (λ t. if-leaves s (is_initial (thread_at s t).stage) _ (refusal s Code.Error) (leaves-line s (no_effect (active_state s t)) _ (λ works. refl) (active-leaves s t)) (leaves-same s))

  suspend-leaves : (s : State) (name : List ℕ) (by : By) → LeavesCall s (suspend name s by)
  suspend-leaves s name by = found-leaves s (find_thread s name) (refusal s Code.Inval) _ (leaves-same s) (λ t. if-leaves s (may_suspend s by t) _ (refusal s Code.Error) (suspended t) (leaves-same s)) where
    suspended : (t : ℕ) → Leaves b s (no_effect (suspended_state s t))
    suspended t = record { works = refl; arrivals = refl; levelled = λ has all. levelled-set b s.threads t (record (thread_at s t) { stage = Suspended }) refl refl all }

  resumed-leaves : (s : State) (t : ℕ) (stage : Stage) → LeavesCall s (resume_outcome t stage s)
  resumed-leaves s t Suspended = leaves-line s (no_effect (active_state s t)) _ (λ works. refl) (active-leaves s t)
  resumed-leaves s t (Waiting what number) = wake-leaves s Code.Intr t
  resumed-leaves s t _ = leaves-same s

  resume-leaves : (s : State) (name : List ℕ) → LeavesCall s (resume name s)
  resume-leaves s name = found-leaves s (find_thread s name) (refusal s Code.Inval) _ (leaves-same s) (λ t. resumed-leaves s t (thread_at s t).stage)

  kill-leaves : (s : State) (name : List ℕ) → LeavesCall s (kill name s)
  kill-leaves s name = found-leaves s (find_thread s name) (refusal s Code.Inval) _ (leaves-same s) (λ t. close-leaves t s)

  set_prio-leaves : (s : State) (name : List ℕ) (prio : ℕ) → (IsLevelled b → nat_lt prio b.levels ≡ true) → LeavesCall s (set_prio name prio s)
  set_prio-leaves s name prio fits = found-leaves s (find_thread s name) (refusal s Code.Inval) _ (leaves-same s) (λ t.
      record { works = refl; arrivals = refl; levelled = λ has all. levelled-base b s.threads t (record (thread_at s t) { base = prio }) (ltb-true prio b.levels (fits has)) refl all })

  locked-leaves : (s : State) (core : ℕ) (nest : Option Nest) → LeavesCall s (lock_outcome core nest s)
  locked-leaves s core None = leaves-parts s _ refl refl refl
  locked-leaves s core (Some n) = if-leaves s (eqb n.depth 255) (refusal s Code.Full) _ (leaves-same s) (leaves-parts s _ refl refl refl)

  lock-leaves : (s : State) (by : By) → LeavesCall s (lock s by)
  lock-leaves s (ByThread t core) = locked-leaves s core s.nest
  lock-leaves s (ByTimer name) = leaves-same s

  unlocked-leaves : (s : State) (core : ℕ) (nest : Option Nest) → LeavesCall s (unlock_outcome core nest s)
  unlocked-leaves s core None = leaves-same s
  unlocked-leaves s core (Some n) = if-leaves s (eqb n.core core) _ (refusal s Code.Error) (leaves-parts s _ refl refl refl) (leaves-same s)

  unlock-leaves : (s : State) (by : By) → LeavesCall s (unlock s by)
  unlock-leaves s (ByThread t core) = unlocked-leaves s core s.nest
  unlock-leaves s (ByTimer name) = leaves-same s

  locks-leaves : (s : State) (t locks : ℕ) → Leaves b s (no_effect (with_locks s t locks))
  locks-leaves s t locks = row-leaves s t (record (thread_at s t) { locks = locks }) refl refl

  sched_lock-leaves : (s : State) (by : By) → LeavesCall s (sched_lock s by)
  sched_lock-leaves s (ByThread t core) = if-leaves s (eqb (thread_at s t).locks 255) (refusal s Code.Full) _ (leaves-same s) (locks-leaves s t ((thread_at s t).locks + 1))
  sched_lock-leaves s (ByTimer name) = leaves-same s

  sched_unlock-leaves : (s : State) (by : By) → LeavesCall s (sched_unlock s by)
  sched_unlock-leaves s (ByThread t core) = if-leaves s (eqb (thread_at s t).locks 0) (refusal s Code.Error) _ (leaves-same s) (locks-leaves s t ((thread_at s t).locks - 1))
  sched_unlock-leaves s (ByTimer name) = leaves-same s

  -- a new row of a class
  created-leaves : (s u : State) (there full : Bool) → u.works ≡ s.works → u.arrivals ≡ s.arrivals → u.threads ≡ s.threads → LeavesCall s (if there then refusal s Code.Busy else if full then refusal s Code.NoMem else silent_success u)
  created-leaves s u there full works arrivals threads = if-leaves s there (refusal s Code.Busy) _ (leaves-same s) (if-leaves s full (refusal s Code.NoMem) (silent_success u) (leaves-same s) (leaves-parts s u works arrivals threads))

  -- semaphores and event objects
  sem_take-leaves : (s : State) (name : List ℕ) (timeout : Option ℕ) (by : By) → LeavesCall s (sem_take name timeout s by)
  sem_take-leaves s name timeout by = found-leaves s (find_sem s name) (refusal s Code.Inval) _ (leaves-same s) (λ sem. if-leaves s (nat_lt 0 sem.value) _ _ (leaves-parts s _ refl refl refl) (wait_or-leaves s by First (Call.SemTake sem.name timeout) timeout Code.Timeout))

  released-leaves : (s : State) (sem : Sem) (o : Option ℕ) → LeavesCall s (sem_release_outcome sem o s)
  released-leaves s sem None = if-leaves s (eqb sem.value 65535) (refusal s Code.Full) _ (leaves-same s) (leaves-parts s _ refl refl refl)
  released-leaves s sem (Some t) = wake-leaves s Code.Ok t

  pub sem_release-leaves : (s : State) (name : List ℕ) → LeavesCall s (sem_release name s)
  sem_release-leaves s name = found-leaves s (find_sem s name) (refusal s Code.Inval) _ (leaves-same s) (λ sem. released-leaves s sem (first_waiter s sem.order (takes_sem name)))

  event_recv-leaves : (s : State) (name : List ℕ) (want : Want) (timeout : Option ℕ) (by : By) → LeavesCall s (event_recv name want timeout s by)
  event_recv-leaves s name want timeout by = found-leaves s (find_event s name) (refusal s Code.Inval) _ (leaves-same s) (λ event. if-leaves s (is_satisfied event.flags want) _ _
      (leaves-from s (with_event s _) (no_effect (with_value (with_event s _) by _)) (leaves-parts s (with_event s _) refl refl refl) (value-leaves (with_event s _) by _)) (wait_or-leaves s by First (Call.EventRecv event.name want.mask want.all want.clear timeout) timeout Code.Timeout))

  flags_wake-leaves : (flags : ℕ) (w : Wanting) (s : State) → Leaves b s (flags_wake_effect flags w s)
  flags_wake-leaves flags w s = let row : Thread = record (thread_at s w.thread) { value = bit_and flags w.want.mask } in leaves-from s (with_thread s w.thread row) (flags_wake_effect flags w s) (row-leaves s w.thread row refl refl) (wake-leaves (with_thread s w.thread row) Code.Ok w.thread)

  event_send-leaves : (s : State) (name : List ℕ) (mask : ℕ) → LeavesCall s (event_send name mask s)
  event_send-leaves s name mask = found-leaves s (find_event s name) (refusal s Code.Inval) _ (leaves-same s) (λ event.
      leaves-from s (with_event s _) _ (leaves-parts s (with_event s _) refl refl refl) (each-leaves (flags_wake_effect (bit_or event.flags mask)) (flags_wake-leaves (bit_or event.flags mask)) (satisfied_waiters (bit_or event.flags mask) (wanting_threads s event)) (with_event s _)))

  -- mutexes
  taken-leaves : (s : State) (name : List ℕ) (o : Option Holding) (timeout : Option ℕ) (by : By) → LeavesCall s (mutex_take_outcome name o timeout s by)
  taken-leaves s name None timeout (ByThread t core) = leaves-parts s (with_owner s name t) refl refl refl
  taken-leaves s name None timeout (ByTimer timer) = leaves-same s
  taken-leaves s name (Some h) timeout (ByTimer timer) = leaves-same s
  taken-leaves s name (Some h) timeout (ByThread t core) = if-leaves s (eqb h.owner t) _ _ (if-leaves s (eqb h.hold 255) (refusal s Code.Full) _ (leaves-same s) (leaves-parts s _ refl refl refl)) (wait_or-leaves s (ByThread t core) First (Call.MutexTake name timeout) timeout Code.Timeout)

  mutex_take-leaves : (s : State) (name : List ℕ) (timeout : Option ℕ) (by : By) → LeavesCall s (mutex_take name timeout s by)
  mutex_take-leaves s name timeout by = found-leaves s (find_mutex s name) (refusal s Code.Inval) _ (leaves-same s) (λ mutex. taken-leaves s name (holding_of s name) timeout by)

  given-leaves : (s : State) (o : Option Holding) (by : By) → LeavesCall s (mutex_release_outcome o s by)
  given-leaves s None by = leaves-same s
  given-leaves s (Some h) (ByTimer timer) = leaves-same s
  given-leaves s (Some h) (ByThread t core) = if-leaves s (eqb h.owner t) _ (refusal s Code.Error) (if-leaves s (nat_lt 1 h.hold) _ _ (leaves-parts s _ refl refl refl) (give_back-leaves h.mutex s)) (leaves-same s)

  mutex_release-leaves : (s : State) (name : List ℕ) (by : By) → LeavesCall s (mutex_release name s by)
  mutex_release-leaves s name by = found-leaves s (find_mutex s name) (refusal s Code.Inval) _ (leaves-same s) (λ mutex. given-leaves s (holding_of s name) by)

  mutex_ceiling-leaves : (s : State) (name : List ℕ) (ceiling : ℕ) (by : By) → LeavesCall s (mutex_ceiling name ceiling s by)
  mutex_ceiling-leaves s name ceiling by = found-leaves s (find_mutex s name) (refusal s Code.Inval) _ (leaves-same s) (λ mutex. leaves-from s (with_mutex s _) (no_effect (with_value (with_mutex s _) by _)) (leaves-parts s (with_mutex s _) refl refl refl) (value-leaves (with_mutex s _) by mutex.ceiling))

  -- mailboxes and queues: another one of them, and a waiter that makes its call again
  retried-leaves : (s u : State) (o : Option ℕ) → Leaves b s (no_effect u) → Leaves b s (effect_for retry_wake_effect o u)
  retried-leaves s u o leaves = leaves-from s u (effect_for retry_wake_effect o u) leaves (for-leaves retry_wake_effect retry_wake-leaves o u)

  mail_put-leaves : (s : State) (mailbox : Mailbox) (words : List ℕ) → LeavesCall s (mail_put_outcome mailbox words s)
  mail_put-leaves s mailbox words = retried-leaves s (with_mailbox s (record mailbox { words = words })) (first_waiter s mailbox.order (receives_mail mailbox.name)) (leaves-parts s _ refl refl refl)

  mb_send-leaves : (s : State) (name : List ℕ) (word : ℕ) (timeout : Option ℕ) (by : By) (attempt : Attempt) → LeavesCall s (mb_send name word timeout s by attempt)
  mb_send-leaves s name word timeout by attempt = found-leaves s (find_mailbox s name) (missing_outcome s attempt) _ (missing-leaves s attempt) (λ mailbox. if-leaves s (has_mail_room mailbox) _ _ (mail_put-leaves s mailbox (mailbox.words ++ word ∷ [])) (wait_or-leaves s by attempt (Call.MbSend mailbox.name word timeout) timeout Code.Full))

  mb_urgent-leaves : (s : State) (name : List ℕ) (word : ℕ) → LeavesCall s (mb_urgent name word s)
  mb_urgent-leaves s name word = found-leaves s (find_mailbox s name) (missing_outcome s First) _ (leaves-same s) (λ mailbox. if-leaves s (has_mail_room mailbox) _ (refusal s Code.Full) (mail_put-leaves s mailbox (word ∷ mailbox.words)) (leaves-same s))

  mail_got-leaves : (s : State) (mailbox : Mailbox) (words : List ℕ) (timeout : Option ℕ) (by : By) (attempt : Attempt) → LeavesCall s (mb_recv_outcome mailbox words timeout s by attempt)
  mail_got-leaves s mailbox [] timeout by attempt = wait_or-leaves s by attempt (Call.MbRecv mailbox.name timeout) timeout Code.Timeout
  mail_got-leaves s mailbox (word ∷ words) timeout by attempt = let taken : State = with_mailbox s (record mailbox { words = words }) in
      retried-leaves s (with_value taken by word) (first_waiter s mailbox.order (sends_mail mailbox.name)) (leaves-from s taken (no_effect (with_value taken by word)) (leaves-parts s taken refl refl refl) (value-leaves taken by word))

  mb_recv-leaves : (s : State) (name : List ℕ) (timeout : Option ℕ) (by : By) (attempt : Attempt) → LeavesCall s (mb_recv name timeout s by attempt)
  mb_recv-leaves s name timeout by attempt = found-leaves s (find_mailbox s name) (missing_outcome s attempt) _ (missing-leaves s attempt) (λ mailbox. mail_got-leaves s mailbox mailbox.words timeout by attempt)

  message_put-leaves : (s : State) (queue : MsgQueue) (messages : List (List ℕ)) → LeavesCall s (message_put_outcome queue messages s)
  message_put-leaves s queue messages = retried-leaves s (with_queue s (record queue { messages = messages })) (first_waiter s queue.order (receives_message queue.name)) (leaves-parts s _ refl refl refl)

  mq_send-leaves : (s : State) (name message : List ℕ) (timeout : Option ℕ) (by : By) (attempt : Attempt) → LeavesCall s (mq_send name message timeout s by attempt)
  mq_send-leaves s name message timeout by attempt = found-leaves s (find_queue s name) (missing_outcome s attempt) _ (missing-leaves s attempt) (λ queue. if-leaves s (is_too_long queue message) (refusal s Code.Error) _ (leaves-same s)
      (if-leaves s (has_message_room queue) _ _ (message_put-leaves s queue (queue.messages ++ message ∷ [])) (wait_or-leaves s by attempt (Call.MqSend queue.name timeout message) timeout Code.Full)))

  mq_urgent-leaves : (s : State) (name message : List ℕ) → LeavesCall s (mq_urgent name message s)
  mq_urgent-leaves s name message = found-leaves s (find_queue s name) (missing_outcome s First) _ (leaves-same s) (λ queue. if-leaves s (is_too_long queue message) (refusal s Code.Error) _ (leaves-same s)
      (if-leaves s (has_message_room queue) _ (refusal s Code.Full) (message_put-leaves s queue (message ∷ queue.messages)) (leaves-same s)))

  message_got-leaves : (s : State) (queue : MsgQueue) (messages : List (List ℕ)) (timeout : Option ℕ) (by : By) (attempt : Attempt) → LeavesCall s (mq_recv_outcome queue messages timeout s by attempt)
  message_got-leaves s queue [] timeout by attempt = wait_or-leaves s by attempt (Call.MqRecv queue.name timeout) timeout Code.Timeout
  message_got-leaves s queue (message ∷ messages) timeout by attempt =
      let taken : State = with_queue s (record queue { messages = messages }) in
      let told : State = with_text taken by message in
      let valued : State = with_value told by (length message) in
      retried-leaves s valued (first_waiter s queue.order (sends_message queue.name)) (leaves-from s taken (no_effect valued) (leaves-parts s taken refl refl refl) (leaves-from taken told (no_effect valued) (text-leaves taken by message) (value-leaves told by (length message))))

  mq_recv-leaves : (s : State) (name : List ℕ) (timeout : Option ℕ) (by : By) (attempt : Attempt) → LeavesCall s (mq_recv name timeout s by attempt)
  mq_recv-leaves s name timeout by attempt = found-leaves s (find_queue s name) (missing_outcome s attempt) _ (missing-leaves s attempt) (λ queue. message_got-leaves s queue queue.messages timeout by attempt)

  -- pools
  allocated-leaves : (s : State) (pool : Pool) (o timeout : Option ℕ) (by : By) → LeavesCall s (mp_alloc_outcome pool o timeout s by)
  allocated-leaves s pool None timeout by = wait_or-leaves s by First (Call.MpAlloc pool.name timeout) timeout Code.Timeout
  allocated-leaves s pool (Some block) timeout (ByThread t core) = let held : State = with_pool s (with_block_held pool block t) in leaves-from s held (no_effect (with_value held (ByThread t core) (place_of pool block))) (leaves-parts s held refl refl refl) (value-leaves held (ByThread t core) (place_of pool block))
  allocated-leaves s pool (Some block) timeout (ByTimer name) = leaves-same s

  mp_alloc-leaves : (s : State) (name : List ℕ) (timeout : Option ℕ) (by : By) → LeavesCall s (mp_alloc name timeout s by)
  mp_alloc-leaves s name timeout by = found-leaves s (find_pool s name) (refusal s Code.Inval) _ (leaves-same s) (λ pool. allocated-leaves s pool (free_block pool) timeout by)

  passed-leaves : (s : State) (pool : Pool) (block : ℕ) (o : Option ℕ) → LeavesCall s (passed_block_outcome pool block o s)
  passed-leaves s pool block None = leaves-parts s _ refl refl refl
  passed-leaves s pool block (Some t) =
      let held : State = with_pool s (with_block_held pool block t) in
      let row : Thread = record (thread_at s t) { value = place_of pool block } in
      leaves-from s held _ (leaves-parts s held refl refl refl) (leaves-from held (with_thread held t row) _ (row-leaves held t row refl refl) (wake-leaves (with_thread held t row) Code.Ok t))

  freed-leaves : (s : State) (pool : Pool) (o : Option ℕ) → LeavesCall s (mp_free_outcome pool o s)
  freed-leaves s pool None = leaves-same s
  freed-leaves s pool (Some block) = passed-leaves s pool block (first_waiter s pool.order (takes_block pool.name))

  mp_free-leaves : (s : State) (name : List ℕ) (by : By) → LeavesCall s (mp_free name s by)
  mp_free-leaves s name (ByThread t core) = found-leaves s (find_pool s name) (refusal s Code.Inval) _ (leaves-same s) (λ pool. freed-leaves s pool (last_block pool t))
  mp_free-leaves s name (ByTimer timer) = found-leaves s (find_pool s name) (refusal s Code.Inval) _ (leaves-same s) (λ pool. leaves-same s)

  -- deletions
  deletion-leaves : (s u : State) (ts : List ℕ) → u.works ≡ s.works → u.arrivals ≡ s.arrivals → u.threads ≡ s.threads → LeavesCall s (deletion_outcome u ts)
  deletion-leaves s u ts works arrivals threads = leaves-from s u (each_effect (wake_effect Code.Error) ts u) (leaves-parts s u works arrivals threads) (each-leaves (wake_effect Code.Error) (λ t v. wake-leaves v Code.Error t) ts u)

  delete-leaves : (s : State) (class : Class) (name : List ℕ) → LeavesCall s (delete class name s)
  delete-leaves s Class.Sem name = found-leaves s (find_sem s name) (refusal s Code.Inval) _ (leaves-same s) (λ sem. deletion-leaves s _ (waiters s sem.order (takes_sem name)) refl refl refl)
  delete-leaves s Class.Event name = found-leaves s (find_event s name) (refusal s Code.Inval) _ (leaves-same s) (λ event. deletion-leaves s _ (waiters s event.order (receives_event name)) refl refl refl)
  delete-leaves s Class.Mutex name = found-leaves s (find_mutex s name) (refusal s Code.Inval) _ (leaves-same s) (λ mutex. deletion-leaves s _ (waiters s WaitOrder.Prio (takes_mutex name)) refl refl refl)
  delete-leaves s Class.Mailbox name = found-leaves s (find_mailbox s name) (refusal s Code.Inval) _ (leaves-same s) (λ mailbox. deletion-leaves s _ (waiters s mailbox.order (receives_mail name) ++ waiters s mailbox.order (sends_mail name)) refl refl refl)
  delete-leaves s Class.MsgQueue name = found-leaves s (find_queue s name) (refusal s Code.Inval) _ (leaves-same s) (λ queue. deletion-leaves s _ (waiters s queue.order (receives_message name) ++ waiters s queue.order (sends_message name)) refl refl refl)
  delete-leaves s _ name = leaves-same s

  -- timers: an unwork line tells of the work that is taken out
  unwork-leaves : (s : State) (name : List ℕ) → Leaves b s (unwork_effect name s)
  unwork-leaves s name = by_test (has_work s name) refl where
    by_test : (c : Bool) → has_work s name ≡ c → Leaves b s (if c then line_effect (without_work s name) (Line.Unwork name) else no_effect s)
    by_test true is = record { works = rw is refl; arrivals = refl; levelled = λ has all. all }
    by_test false is = leaves-same s

  timer_start-leaves : (s : State) (name : List ℕ) → LeavesCall s (timer_start name s)
  timer_start-leaves s name = found-leaves s (find_timer s name) (refusal s Code.Inval) _ (leaves-same s) (λ timer. leaves-after s (with_timer_armed (unwork_effect timer.name s).state timer) (unwork_effect timer.name s) (unwork-leaves s timer.name) (leaves-parts (unwork_effect timer.name s).state _ refl refl refl))

  timer_stop-leaves : (s : State) (name : List ℕ) → LeavesCall s (timer_stop name s)
  timer_stop-leaves s name = found-leaves s (find_timer s name) (refusal s Code.Inval) _ (leaves-same s) (λ timer. if-leaves s (has_work s name) (success (unwork_effect name s)) _ (unwork-leaves s name)
      (if-leaves s (is_some (due_of s (OfTimer name))) (silent_success (without_alarm s (OfTimer name))) (refusal s Code.Error) (leaves-parts s _ refl refl refl) (leaves-same s)))

  timer_set-leaves : (s : State) (name : List ℕ) (time : ℕ) → LeavesCall s (timer_set name time s)
  timer_set-leaves s name time = found-leaves s (find_timer s name) (refusal s Code.Inval) _ (leaves-same s) (λ timer. leaves-parts s _ refl refl refl)

  -- devices
  dev_open-leaves : (s : State) (name : List ℕ) → LeavesCall s (dev_open name s)
  dev_open-leaves s name = found-leaves s (find_device s name) (refusal s Code.Inval) _ (leaves-same s) (λ device. if-leaves s (eqb device.opened 255) (refusal s Code.Full) _ (leaves-same s) (leaves-parts s _ refl refl refl))

  dev_close-leaves : (s : State) (name : List ℕ) → LeavesCall s (dev_close name s)
  dev_close-leaves s name = found-leaves s (find_device s name) (refusal s Code.Inval) _ (leaves-same s) (λ device. if-leaves s (may_close device) _ (refusal s Code.Error) (leaves-parts s _ refl refl refl) (leaves-same s))

  dev_read-leaves : (s : State) (name : List ℕ) (count : ℕ) (by : By) → LeavesCall s (dev_read name count s by)
  dev_read-leaves s name count by = found-leaves s (find_device s name) (refusal s Code.Inval) _ (leaves-same s) (λ device. if-leaves s (is_open device) _ (refusal s Code.Error)
      (leaves-from s (with_device s _) _ (leaves-parts s (with_device s _) refl refl refl) (leaves-from (with_device s _) (with_text (with_device s _) by _) (no_effect (with_value (with_text (with_device s _) by _) by _)) (text-leaves (with_device s _) by _) (value-leaves (with_text (with_device s _) by _) by _))) (leaves-same s))

  written-leaves : (s : State) (device : Device) (text : List ℕ) (by : By) → Leaves b s (write_effect device text s by)
  written-leaves s device text by = by_kind device.console where
    by_kind : (c : Bool) → Leaves b s (write_effect (record device { console = c }) text s by)
    by_kind true = leaves-line s (no_effect (with_value s by (length text))) (Line.Print text) (λ works. refl) (value-leaves s by (length text))
    by_kind false = leaves-from s (with_device s _) (no_effect (with_value (with_device s _) by _)) (leaves-parts s (with_device s _) refl refl refl) (value-leaves (with_device s _) by _)

  dev_write-leaves : (s : State) (name text : List ℕ) (by : By) → LeavesCall s (dev_write name text s by)
  dev_write-leaves s name text by = found-leaves s (find_device s name) (refusal s Code.Inval) _ (leaves-same s) (λ device. if-leaves s (is_open device) _ (refusal s Code.Error) (written-leaves s device text by) (leaves-same s))

  dev_ctl-leaves : (s : State) (name : List ℕ) (rate : ℕ) → LeavesCall s (dev_ctl name rate s)
  dev_ctl-leaves s name rate = found-leaves s (find_device s name) (refusal s Code.Inval) _ (leaves-same s) (λ device. if-leaves s device.console (refusal s Code.NoSys) _ (leaves-same s) (leaves-parts s _ refl refl refl))

  -- the whole table
  pub outcome-leaves : (s : State) (call : Call) (by : By) (attempt : Attempt) → (IsLevelled b → is_levelled_call b.levels call ≡ true) → LeavesCall s (outcome_of b call s by attempt)
  outcome-leaves s (Call.Delay ticks) by attempt fits = delay-leaves s by ticks
  outcome-leaves s Call.Yield by attempt fits = yield-leaves s by
  outcome-leaves s (Call.Startup name) by attempt fits = startup-leaves s name
  outcome-leaves s (Call.Suspend name) by attempt fits = suspend-leaves s name by
  outcome-leaves s (Call.Resume name) by attempt fits = resume-leaves s name
  outcome-leaves s (Call.Kill name) by attempt fits = kill-leaves s name
  outcome-leaves s (Call.SetPrio name prio) by attempt fits = set_prio-leaves s name prio fits
  outcome-leaves s Call.Lock by attempt fits = lock-leaves s by
  outcome-leaves s Call.Unlock by attempt fits = unlock-leaves s by
  outcome-leaves s Call.SchedLock by attempt fits = sched_lock-leaves s by
  outcome-leaves s Call.SchedUnlock by attempt fits = sched_unlock-leaves s by
  outcome-leaves s (Call.SemCreate name value order) by attempt fits = created-leaves s _ (is_some (find_sem s name)) (nat_le b.limits.sem (length s.sems)) refl refl refl
  outcome-leaves s (Call.SemTake name timeout) by attempt fits = sem_take-leaves s name timeout by
  outcome-leaves s (Call.SemRelease name) by attempt fits = sem_release-leaves s name
  outcome-leaves s (Call.EventCreate name order) by attempt fits = created-leaves s _ (is_some (find_event s name)) (nat_le b.limits.event (length s.events)) refl refl refl
  outcome-leaves s (Call.EventSend name mask) by attempt fits = event_send-leaves s name mask
  outcome-leaves s (Call.EventRecv name mask all clear timeout) by attempt fits = event_recv-leaves s name (record { mask = mask; all = all; clear = clear }) timeout by
  outcome-leaves s (Call.MutexCreate name ceiling) by attempt fits = created-leaves s _ (is_some (find_mutex s name)) (nat_le b.limits.mutex (length s.mutexes)) refl refl refl
  outcome-leaves s (Call.MutexTake name timeout) by attempt fits = mutex_take-leaves s name timeout by
  outcome-leaves s (Call.MutexRelease name) by attempt fits = mutex_release-leaves s name by
  outcome-leaves s (Call.MutexCeiling name ceiling) by attempt fits = mutex_ceiling-leaves s name ceiling by
  outcome-leaves s (Call.MbSend name word timeout) by attempt fits = mb_send-leaves s name word timeout by attempt
  outcome-leaves s (Call.MbUrgent name word) by attempt fits = mb_urgent-leaves s name word
  outcome-leaves s (Call.MbRecv name timeout) by attempt fits = mb_recv-leaves s name timeout by attempt
  outcome-leaves s (Call.MqSend name timeout message) by attempt fits = mq_send-leaves s name message timeout by attempt
  outcome-leaves s (Call.MqUrgent name message) by attempt fits = mq_urgent-leaves s name message
  outcome-leaves s (Call.MqRecv name timeout) by attempt fits = mq_recv-leaves s name timeout by attempt
  outcome-leaves s (Call.Delete class name) by attempt fits = delete-leaves s class name
  outcome-leaves s (Call.TimerStart name) by attempt fits = timer_start-leaves s name
  outcome-leaves s (Call.TimerStop name) by attempt fits = timer_stop-leaves s name
  outcome-leaves s (Call.TimerSet name time) by attempt fits = timer_set-leaves s name time
  outcome-leaves s (Call.DevOpen name) by attempt fits = dev_open-leaves s name
  outcome-leaves s (Call.DevClose name) by attempt fits = dev_close-leaves s name
  outcome-leaves s (Call.DevRead name count) by attempt fits = dev_read-leaves s name count by
  outcome-leaves s (Call.DevWrite name text) by attempt fits = dev_write-leaves s name text by
  outcome-leaves s (Call.DevCtl name rate) by attempt fits = dev_ctl-leaves s name rate
  outcome-leaves s (Call.PmRequest mode) by attempt fits = if-leaves s (eqb (votes_for s.votes mode) 255) (refusal s Code.Full) _ (leaves-same s) (leaves-parts s _ refl refl refl)
  outcome-leaves s (Call.PmRelease mode) by attempt fits = if-leaves s (eqb (votes_for s.votes mode) 0) (refusal s Code.Error) _ (leaves-same s) (leaves-parts s _ refl refl refl)
  outcome-leaves s (Call.PmRun mode) by attempt fits = leaves-parts s _ refl refl refl
  outcome-leaves s (Call.MpAlloc name timeout) by attempt fits = mp_alloc-leaves s name timeout by
  outcome-leaves s (Call.MpFree name) by attempt fits = mp_free-leaves s name by
