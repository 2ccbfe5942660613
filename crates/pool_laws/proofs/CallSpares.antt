-- No call spares a thread waiting for a block of a memory pool of which one is free.
use Rattle.std.proofs.Common.{◌≡◌, ◌+◌, ◌-◌, ◌∷◌, [], ◌++◌, ℕ, zero, suc, List, Option, Some, None, Bool, true, false, is_some, length, eqb, nat_lt, nat_le, refl, sym, ◌∙◌, subst, if◌then◌else◌, bit_and, bit_or}
use Rattle.std.specs.List.{AllByRecursion}
use Rattle.rt_base.specs.declared.codes.Code.{Code}
use Rattle.rt_base.specs.declared.codes.Class.{Class}
use Rattle.rt_base.specs.declared.codes.WaitOrder.{WaitOrder}
use Rattle.rt_plain.specs.declared.line.Line.{Line}
use Rattle.rt_plain.specs.declared.stmt.Call.{Call}
use Rattle.rt_plain.specs.PlainBoard.{PlainBoard}
use Rattle.rt_plain.specs.kernel.State.{State, Stage, Active, Waiting, Suspended, Closed, Awaited, InCall, Thread, Holding, Mailbox, MsgQueue, Pool, Device, Nest, Sem, OfThread, OfTimer, thread_at, with_thread, find_thread, is_initial}
use Rattle.rt_plain.specs.kernel.Effects.{Effect, no_effect, line_effect, each_effect, effect_for, without_alarm, waiting_state, active_state, wake_effect, retry_wake_effect, retry_of, due_of}
use Rattle.rt_plain.specs.kernel.Waiting.{waiters, first_waiter, takes_sem, takes_mutex, receives_event, sends_mail, receives_mail, sends_message, receives_message, takes_block}
use Rattle.rt_plain.specs.kernel.Owners.{without_owner, with_owner, pass_effect, give_back_effect, mutexes_of, withdrawn_state, close_effect}
use Rattle.rt_plain.specs.kernel.Outcome.{By, ByThread, ByTimer, Attempt, First, Again, Outcome, refusal, success, silent_success, with_value, with_text, may_not_wait, wait_outcome, first_wait_outcome, is_past, wait_or_refusal, missing_outcome, found_outcome}
use Rattle.rt_plain.specs.kernel.ThreadCalls.{delay, yield, startup, suspend, suspended_state, may_suspend, resume, resume_outcome, kill, set_prio, lock, lock_outcome, unlock, unlock_outcome, with_locks, sched_lock, sched_unlock}
use Rattle.rt_plain.specs.kernel.SemCalls.{find_sem, sem_take, sem_release_outcome, sem_release}
use Rattle.rt_plain.specs.kernel.EventCalls.{Want, Wanting, find_event, with_event, event_recv, is_satisfied, flags_wake_effect, wanting_threads, satisfied_waiters, event_send}
use Rattle.rt_plain.specs.kernel.MutexCalls.{find_mutex, with_mutex, mutex_take_outcome, mutex_take, mutex_release_outcome, mutex_release, mutex_ceiling}
use Rattle.rt_plain.specs.kernel.Priority.{holding_of}
use Rattle.rt_plain.specs.kernel.MailboxCalls.{find_mailbox, with_mailbox, has_mail_room, mail_put_outcome, mb_send, mb_urgent, mb_recv_outcome, mb_recv}
use Rattle.rt_plain.specs.kernel.QueueCalls.{find_queue, with_queue, is_too_long, has_message_room, message_put_outcome, mq_send, mq_urgent, mq_recv_outcome, mq_recv}
use Rattle.rt_plain.specs.kernel.PoolCalls.{find_pool, with_pool, with_block_held, with_block_freed, free_block, last_block, place_of, mp_alloc_outcome, mp_alloc, passed_block_outcome, mp_free_outcome, mp_free}
use Rattle.rt_plain.specs.kernel.DeleteCall.{deletion_outcome, delete}
use Rattle.rt_plain.specs.kernel.Works.{has_work, without_work, unwork_effect}
use Rattle.rt_plain.specs.kernel.TimerCalls.{find_timer, with_timer_armed, timer_start, timer_stop, timer_set}
use Rattle.rt_plain.specs.kernel.DeviceCalls.{find_device, with_device, is_open, dev_open, may_close, dev_close, dev_read, write_effect, dev_write, dev_ctl}
use Rattle.rt_plain.specs.kernel.PowerCalls.{votes_for}
use Rattle.rt_plain.specs.kernel.Calls.{outcome_of}
use Rattle.rt_plain.specs.kernel.Outcome.{thread_outcome}
use Rattle.pool_laws.specs.Served.{awaits_block, IsServedThread, IsServedWait}
use Rattle.pool_laws.proofs.ServedLemmas.{Spares, served-set, served-put, served-pools, served-freed, used-put, used-here, held-full, nobody-waits, some-none}

module _ (b : PlainBoard) where
  pub spares-same : (s : State) → Spares b s (no_effect s)
  spares-same s = record { kept = λ all. all }

  -- other parts than threads and pools
  pub spares-parts : (s u : State) → u.pools ≡ s.pools → u.threads ≡ s.threads → Spares b s (no_effect u)
  spares-parts s u pools threads = record { kept = λ all. subst (AllByRecursion (IsServedThread u.pools)) (sym threads) (subst (λ (ps : List Pool). AllByRecursion (IsServedThread ps) s.threads) (sym pools) all) }

  pub spares-then : (s : State) (e g : Effect) → Spares b s e → Spares b e.state g → Spares b s (record { state = g.state; lines = e.lines ++ g.lines })
  spares-then s e g one other = record { kept = λ all. other.kept (one.kept all) }

  -- the states that an action leads through
  pub spares-from : (s u : State) (e : Effect) → Spares b s (no_effect u) → Spares b u e → Spares b s e
  spares-from s u e one other = record { kept = λ all. other.kept (one.kept all) }

  pub spares-after : (s u : State) (e : Effect) → Spares b s e → Spares b e.state (no_effect u) → Spares b s (record { state = u; lines = e.lines })
  spares-after s u e one other = record { kept = λ all. other.kept (one.kept all) }

  pub spares-line : (s : State) (e : Effect) (line : Line) → Spares b s e → Spares b s (record { state = e.state; lines = line ∷ e.lines })
  spares-line s e line spares = record { kept = spares.kept }

  -- another row of a thread, which waits for no block for which it didn't wait
  pub row-spares : (s : State) (t : ℕ) (row : Thread) → ((name : List ℕ) → awaits_block name row.stage ≡ true → awaits_block name (thread_at s t).stage ≡ true) → Spares b s (no_effect (with_thread s t row))
  row-spares s t row fewer = record { kept = λ all. served-set s.pools s.threads t row fewer all }

  -- or for one of a pool of which none is free
  pub served-spares : (s : State) (t : ℕ) (row : Thread) → IsServedThread s.pools row → Spares b s (no_effect (with_thread s t row))
  served-spares s t row served = record { kept = λ all. served-put s.pools s.threads t row served all }

  pub active-spares : (s : State) (t : ℕ) → Spares b s (no_effect (active_state s t))
  active-spares s t = record { kept = λ all. served-set s.pools s.threads t (record (thread_at s t) { stage = Active }) (λ name is. absurd cc) all }

  pub wake-spares : (s : State) (code : Code) (t : ℕ) → Spares b s (wake_effect code t s)
  wake-spares s code t = let coded : State = with_thread s t (record (thread_at s t) { code = code }) in spares-from s coded (wake_effect code t s) (row-spares s t (record (thread_at s t) { code = code }) (λ name is. is)) (spares-line coded (no_effect (active_state coded t)) _ (active-spares coded t))

  pub retry_wake-spares : (t : ℕ) (s : State) → Spares b s (retry_wake_effect t s)
  retry_wake-spares t s = spares-from s told (retry_wake_effect t s) (row-spares s t row (λ name is. is)) (spares-line told (no_effect (active_state told t)) _ (active-spares told t)) where
    row : Thread
    row = record (thread_at s t) { retry = retry_of (thread_at s t).stage (due_of s (OfThread t)) }

    told : State
    told = with_thread s t row

  pub each-spares : {A : Type 0} (act : A → State → Effect) → ((x : A) (s : State) → Spares b s (act x s)) → (xs : List A) (s : State) → Spares b s (each_effect act xs s)
  each-spares act does [] s = spares-same s
  each-spares act does (x ∷ xs) s = spares-then s (act x s) (each_effect act xs (act x s).state) (does x s) (each-spares act does xs (act x s).state)

  pub for-spares : (act : ℕ → State → Effect) → ((t : ℕ) (s : State) → Spares b s (act t s)) → (o : Option ℕ) (s : State) → Spares b s (effect_for act o s)
  for-spares act does None s = spares-same s
  for-spares act does (Some t) s = does t s

  pass-spares : (mutex : List ℕ) (o : Option ℕ) (s : State) → Spares b s (pass_effect mutex o s)
  pass-spares mutex None s = spares-parts s (without_owner s mutex) refl refl
  pass-spares mutex (Some t) s = spares-then s (line_effect (with_owner s mutex t) (Line.Own mutex (thread_at s t).name)) (wake_effect Code.Ok t (with_owner s mutex t)) (spares-line s (no_effect (with_owner s mutex t)) _ (spares-parts s (with_owner s mutex t) refl refl)) (wake-spares (with_owner s mutex t) Code.Ok t)

  pub give_back-spares : (mutex : List ℕ) (s : State) → Spares b s (give_back_effect mutex s)
  give_back-spares mutex s = pass-spares mutex (first_waiter s WaitOrder.Prio (takes_mutex mutex)) s

  pub close-spares : (t : ℕ) (s : State) → Spares b s (close_effect t s)
  close-spares t s = spares-then s (line_effect (withdrawn_state s t) (Line.Close (thread_at s t).name)) (each_effect give_back_effect (mutexes_of s t) (withdrawn_state s t)) (spares-line s (no_effect (withdrawn_state s t)) _ gone) (each-spares give_back_effect give_back-spares (mutexes_of s t) (withdrawn_state s t)) where
    gone : Spares b s (no_effect (withdrawn_state s t))
    gone = record { kept = λ all. served-set s.pools s.threads t (record (thread_at s t) { stage = Closed; retry = None }) (λ name is. absurd cc) all }

  -- outcomes
  abbrev SparesCall : State → Outcome → Type 0
  SparesCall s outcome = Spares b s outcome.effect

  if-spares : (s : State) (c : Bool) (x y : Outcome) → SparesCall s x → SparesCall s y → SparesCall s (if c then x else y)
  if-spares s true x y one other = one
  if-spares s false x y one other = other

  found-spares : (s : State) {A : Type 0} (o : Option A) (missing : Outcome) (act : A → Outcome) → SparesCall s missing → ((x : A) → SparesCall s (act x)) → SparesCall s (found_outcome o missing act)
  found-spares s None missing act none some = none
  found-spares s (Some x) missing act none some = some x

  missing-spares : (s : State) (attempt : Attempt) → SparesCall s (missing_outcome s attempt)
  missing-spares s First = spares-same s
  missing-spares s (Again due) = spares-same s

  value-spares : (s : State) (by : By) (value : ℕ) → Spares b s (no_effect (with_value s by value))
  value-spares s (ByThread t core) value = row-spares s t (record (thread_at s t) { value = value }) (λ name is. is)
  value-spares s (ByTimer name) value = spares-same s

  text-spares : (s : State) (by : By) (text : List ℕ) → Spares b s (no_effect (with_text s by text))
  text-spares s (ByThread t core) text = row-spares s t (record (thread_at s t) { text = text }) (λ name is. is)
  text-spares s (ByTimer name) text = spares-same s

  pub waiting-spares : (s : State) (t : ℕ) (what : Awaited) (due : Option ℕ) → IsServedWait s.pools what → Spares b s (no_effect (waiting_state s t what due))
  waiting-spares s t what None served = record { kept = λ all. served-put s.pools s.threads t (record (thread_at s t) { stage = Waiting what s.numbers }) (served s.numbers) all }
  waiting-spares s t what (Some d) served = record { kept = λ all. served-put s.pools s.threads t (record (thread_at s t) { stage = Waiting what s.numbers }) (served s.numbers) all }

  wait-spares : (s : State) (t core : ℕ) (what : Awaited) (due : Option ℕ) → IsServedWait s.pools what → SparesCall s (wait_outcome s t core what due)
  wait-spares s t core what due served = if-spares s (may_not_wait s t core) (refusal s Code.Error) _ (spares-same s) (waiting-spares s t what due served)

  first_wait-spares : (s : State) (t core : ℕ) (call : Call) (timeout : Option ℕ) (code : Code) → IsServedWait s.pools (InCall call) → SparesCall s (first_wait_outcome s t core call timeout code)
  first_wait-spares s t core call None code served = wait-spares s t core (InCall call) None served
  first_wait-spares s t core call (Some zero) code served = spares-same s
  first_wait-spares s t core call (Some (suc n)) code served = wait-spares s t core (InCall call) (Some (s.moment + suc n)) served

  wait_or-spares : (s : State) (by : By) (attempt : Attempt) (call : Call) (timeout : Option ℕ) (code : Code) → IsServedWait s.pools (InCall call) → SparesCall s (wait_or_refusal s by attempt call timeout code)
  wait_or-spares s (ByThread t core) First call timeout code served = first_wait-spares s t core call timeout code served
  wait_or-spares s (ByThread t core) (Again due) call timeout code served = if-spares s (is_past s.moment due) (refusal s Code.Timeout) _ (spares-same s) (wait-spares s t core (InCall call) due served)
  wait_or-spares s (ByTimer name) attempt call timeout code served = spares-same s

  -- threads and locks
  delay-spares : (s : State) (by : By) (ticks : ℕ) → SparesCall s (delay ticks s by)
  delay-spares s (ByThread t core) ticks = wait-spares s t core (InCall (Call.Delay ticks)) (Some (s.moment + ticks)) (λ number name is. absurd cc)
  delay-spares s (ByTimer name) ticks = spares-same s

  yield-spares : (s : State) (by : By) → SparesCall s (yield s by)
  yield-spares s (ByThread t core) = row-spares s t (record (thread_at s t) { left = (thread_at s t).slice; marked = true }) (λ name is. is)
  yield-spares s (ByTimer name) = spares-same s

  startup-spares : (s : State) (name : List ℕ) → SparesCall s (startup name s)
  startup-spares s name = found-spares s (find_thread s name) (refusal s Code.Inval) _ (spares-same s) (λ t. if-spares s (is_initial (thread_at s t).stage) _ (refusal s Code.Error) (spares-line s (no_effect (active_state s t)) _ (active-spares s t)) (spares-same s))

  suspend-spares : (s : State) (name : List ℕ) (by : By) → SparesCall s (suspend name s by)
  suspend-spares s name by = found-spares s (find_thread s name) (refusal s Code.Inval) _ (spares-same s) (λ t. if-spares s (may_suspend s by t) _ (refusal s Code.Error) (suspended t) (spares-same s)) where
    suspended : (t : ℕ) → Spares b s (no_effect (suspended_state s t))
    suspended t = record { kept = λ all. served-set s.pools s.threads t (record (thread_at s t) { stage = Suspended }) (λ name is. absurd cc) all }

  resumed-spares : (s : State) (t : ℕ) (stage : Stage) → SparesCall s (resume_outcome t stage s)
  resumed-spares s t Suspended = spares-line s (no_effect (active_state s t)) _ (active-spares s t)
  resumed-spares s t (Waiting what number) = wake-spares s Code.Intr t
  resumed-spares s t _ = spares-same s

  resume-spares : (s : State) (name : List ℕ) → SparesCall s (resume name s)
  resume-spares s name = found-spares s (find_thread s name) (refusal s Code.Inval) _ (spares-same s) (λ t. resumed-spares s t (thread_at s t).stage)

  kill-spares : (s : State) (name : List ℕ) → SparesCall s (kill name s)
  kill-spares s name = found-spares s (find_thread s name) (refusal s Code.Inval) _ (spares-same s) (λ t. close-spares t s)

  set_prio-spares : (s : State) (name : List ℕ) (prio : ℕ) → SparesCall s (set_prio name prio s)
  set_prio-spares s name prio = found-spares s (find_thread s name) (refusal s Code.Inval) _ (spares-same s) (λ t.
      row-spares s t (record (thread_at s t) { base = prio }) (λ name is. is))

  locked-spares : (s : State) (core : ℕ) (nest : Option Nest) → SparesCall s (lock_outcome core nest s)
  locked-spares s core None = spares-parts s _ refl refl
  locked-spares s core (Some n) = if-spares s (eqb n.depth 255) (refusal s Code.Full) _ (spares-same s) (spares-parts s _ refl refl)

  lock-spares : (s : State) (by : By) → SparesCall s (lock s by)
  lock-spares s (ByThread t core) = locked-spares s core s.nest
  lock-spares s (ByTimer name) = spares-same s

  unlocked-spares : (s : State) (core : ℕ) (nest : Option Nest) → SparesCall s (unlock_outcome core nest s)
  unlocked-spares s core None = spares-same s
  unlocked-spares s core (Some n) = if-spares s (eqb n.core core) _ (refusal s Code.Error) (spares-parts s _ refl refl) (spares-same s)

  unlock-spares : (s : State) (by : By) → SparesCall s (unlock s by)
  unlock-spares s (ByThread t core) = unlocked-spares s core s.nest
  unlock-spares s (ByTimer name) = spares-same s

  locks-spares : (s : State) (t locks : ℕ) → Spares b s (no_effect (with_locks s t locks))
  locks-spares s t locks = row-spares s t (record (thread_at s t) { locks = locks }) (λ name is. is)

  sched_lock-spares : (s : State) (by : By) → SparesCall s (sched_lock s by)
  sched_lock-spares s (ByThread t core) = if-spares s (eqb (thread_at s t).locks 255) (refusal s Code.Full) _ (spares-same s) (locks-spares s t ((thread_at s t).locks + 1))
  sched_lock-spares s (ByTimer name) = spares-same s

  sched_unlock-spares : (s : State) (by : By) → SparesCall s (sched_unlock s by)
  sched_unlock-spares s (ByThread t core) = if-spares s (eqb (thread_at s t).locks 0) (refusal s Code.Error) _ (spares-same s) (locks-spares s t ((thread_at s t).locks - 1))
  sched_unlock-spares s (ByTimer name) = spares-same s

  -- a new row of a class
  created-spares : (s u : State) (there full : Bool) → u.pools ≡ s.pools → u.threads ≡ s.threads → SparesCall s (if there then refusal s Code.Busy else if full then refusal s Code.NoMem else silent_success u)
  created-spares s u there full pools threads = if-spares s there (refusal s Code.Busy) _ (spares-same s) (if-spares s full (refusal s Code.NoMem) (silent_success u) (spares-same s) (spares-parts s u pools threads))

  -- semaphores and event objects
  sem_take-spares : (s : State) (name : List ℕ) (timeout : Option ℕ) (by : By) → SparesCall s (sem_take name timeout s by)
  sem_take-spares s name timeout by = found-spares s (find_sem s name) (refusal s Code.Inval) _ (spares-same s) (λ sem. if-spares s (nat_lt 0 sem.value) _ _ (spares-parts s _ refl refl) (wait_or-spares s by First (Call.SemTake sem.name timeout) timeout Code.Timeout (λ number name is. absurd cc)))

  released-spares : (s : State) (sem : Sem) (o : Option ℕ) → SparesCall s (sem_release_outcome sem o s)
  released-spares s sem None = if-spares s (eqb sem.value 65535) (refusal s Code.Full) _ (spares-same s) (spares-parts s _ refl refl)
  released-spares s sem (Some t) = wake-spares s Code.Ok t

  pub sem_release-spares : (s : State) (name : List ℕ) → SparesCall s (sem_release name s)
  sem_release-spares s name = found-spares s (find_sem s name) (refusal s Code.Inval) _ (spares-same s) (λ sem. released-spares s sem (first_waiter s sem.order (takes_sem name)))

  event_recv-spares : (s : State) (name : List ℕ) (want : Want) (timeout : Option ℕ) (by : By) → SparesCall s (event_recv name want timeout s by)
  event_recv-spares s name want timeout by = found-spares s (find_event s name) (refusal s Code.Inval) _ (spares-same s) (λ event. if-spares s (is_satisfied event.flags want) _ _
      (spares-from s (with_event s _) (no_effect (with_value (with_event s _) by _)) (spares-parts s (with_event s _) refl refl) (value-spares (with_event s _) by _)) (wait_or-spares s by First (Call.EventRecv event.name want.mask want.all want.clear timeout) timeout Code.Timeout (λ number name is. absurd cc)))

  flags_wake-spares : (flags : ℕ) (w : Wanting) (s : State) → Spares b s (flags_wake_effect flags w s)
  flags_wake-spares flags w s = let row : Thread = record (thread_at s w.thread) { value = bit_and flags w.want.mask } in spares-from s (with_thread s w.thread row) (flags_wake_effect flags w s) (row-spares s w.thread row (λ name is. is)) (wake-spares (with_thread s w.thread row) Code.Ok w.thread)

  event_send-spares : (s : State) (name : List ℕ) (mask : ℕ) → SparesCall s (event_send name mask s)
  event_send-spares s name mask = found-spares s (find_event s name) (refusal s Code.Inval) _ (spares-same s) (λ event.
      spares-from s (with_event s _) _ (spares-parts s (with_event s _) refl refl) (each-spares (flags_wake_effect (bit_or event.flags mask)) (flags_wake-spares (bit_or event.flags mask)) (satisfied_waiters (bit_or event.flags mask) (wanting_threads s event)) (with_event s _)))

  -- mutexes
  taken-spares : (s : State) (name : List ℕ) (o : Option Holding) (timeout : Option ℕ) (by : By) → SparesCall s (mutex_take_outcome name o timeout s by)
  taken-spares s name None timeout (ByThread t core) = spares-parts s (with_owner s name t) refl refl
  taken-spares s name None timeout (ByTimer timer) = spares-same s
  taken-spares s name (Some h) timeout (ByTimer timer) = spares-same s
  taken-spares s name (Some h) timeout (ByThread t core) = if-spares s (eqb h.owner t) _ _ (if-spares s (eqb h.hold 255) (refusal s Code.Full) _ (spares-same s) (spares-parts s _ refl refl)) (wait_or-spares s (ByThread t core) First (Call.MutexTake name timeout) timeout Code.Timeout (λ number name is. absurd cc))

  mutex_take-spares : (s : State) (name : List ℕ) (timeout : Option ℕ) (by : By) → SparesCall s (mutex_take name timeout s by)
  mutex_take-spares s name timeout by = found-spares s (find_mutex s name) (refusal s Code.Inval) _ (spares-same s) (λ mutex. taken-spares s name (holding_of s name) timeout by)

  given-spares : (s : State) (o : Option Holding) (by : By) → SparesCall s (mutex_release_outcome o s by)
  given-spares s None by = spares-same s
  given-spares s (Some h) (ByTimer timer) = spares-same s
  given-spares s (Some h) (ByThread t core) = if-spares s (eqb h.owner t) _ (refusal s Code.Error) (if-spares s (nat_lt 1 h.hold) _ _ (spares-parts s _ refl refl) (give_back-spares h.mutex s)) (spares-same s)

  mutex_release-spares : (s : State) (name : List ℕ) (by : By) → SparesCall s (mutex_release name s by)
  mutex_release-spares s name by = found-spares s (find_mutex s name) (refusal s Code.Inval) _ (spares-same s) (λ mutex. given-spares s (holding_of s name) by)

  mutex_ceiling-spares : (s : State) (name : List ℕ) (ceiling : ℕ) (by : By) → SparesCall s (mutex_ceiling name ceiling s by)
  mutex_ceiling-spares s name ceiling by = found-spares s (find_mutex s name) (refusal s Code.Inval) _ (spares-same s) (λ mutex. spares-from s (with_mutex s _) (no_effect (with_value (with_mutex s _) by _)) (spares-parts s (with_mutex s _) refl refl) (value-spares (with_mutex s _) by mutex.ceiling))

  -- mailboxes and queues: another one of them, and a waiter that makes its call again
  retried-spares : (s u : State) (o : Option ℕ) → Spares b s (no_effect u) → Spares b s (effect_for retry_wake_effect o u)
  retried-spares s u o spares = spares-from s u (effect_for retry_wake_effect o u) spares (for-spares retry_wake_effect retry_wake-spares o u)

  mail_put-spares : (s : State) (mailbox : Mailbox) (words : List ℕ) → SparesCall s (mail_put_outcome mailbox words s)
  mail_put-spares s mailbox words = retried-spares s (with_mailbox s (record mailbox { words = words })) (first_waiter s mailbox.order (receives_mail mailbox.name)) (spares-parts s _ refl refl)

  mb_send-spares : (s : State) (name : List ℕ) (word : ℕ) (timeout : Option ℕ) (by : By) (attempt : Attempt) → SparesCall s (mb_send name word timeout s by attempt)
  mb_send-spares s name word timeout by attempt = found-spares s (find_mailbox s name) (missing_outcome s attempt) _ (missing-spares s attempt) (λ mailbox. if-spares s (has_mail_room mailbox) _ _ (mail_put-spares s mailbox (mailbox.words ++ word ∷ [])) (wait_or-spares s by attempt (Call.MbSend mailbox.name word timeout) timeout Code.Full (λ number name is. absurd cc)))

  mb_urgent-spares : (s : State) (name : List ℕ) (word : ℕ) → SparesCall s (mb_urgent name word s)
  mb_urgent-spares s name word = found-spares s (find_mailbox s name) (missing_outcome s First) _ (spares-same s) (λ mailbox. if-spares s (has_mail_room mailbox) _ (refusal s Code.Full) (mail_put-spares s mailbox (word ∷ mailbox.words)) (spares-same s))

  mail_got-spares : (s : State) (mailbox : Mailbox) (words : List ℕ) (timeout : Option ℕ) (by : By) (attempt : Attempt) → SparesCall s (mb_recv_outcome mailbox words timeout s by attempt)
  mail_got-spares s mailbox [] timeout by attempt = wait_or-spares s by attempt (Call.MbRecv mailbox.name timeout) timeout Code.Timeout (λ number name is. absurd cc)
  mail_got-spares s mailbox (word ∷ words) timeout by attempt = let taken : State = with_mailbox s (record mailbox { words = words }) in
      retried-spares s (with_value taken by word) (first_waiter s mailbox.order (sends_mail mailbox.name)) (spares-from s taken (no_effect (with_value taken by word)) (spares-parts s taken refl refl) (value-spares taken by word))

  mb_recv-spares : (s : State) (name : List ℕ) (timeout : Option ℕ) (by : By) (attempt : Attempt) → SparesCall s (mb_recv name timeout s by attempt)
  mb_recv-spares s name timeout by attempt = found-spares s (find_mailbox s name) (missing_outcome s attempt) _ (missing-spares s attempt) (λ mailbox. mail_got-spares s mailbox mailbox.words timeout by attempt)

  message_put-spares : (s : State) (queue : MsgQueue) (messages : List (List ℕ)) → SparesCall s (message_put_outcome queue messages s)
  message_put-spares s queue messages = retried-spares s (with_queue s (record queue { messages = messages })) (first_waiter s queue.order (receives_message queue.name)) (spares-parts s _ refl refl)

  mq_send-spares : (s : State) (name message : List ℕ) (timeout : Option ℕ) (by : By) (attempt : Attempt) → SparesCall s (mq_send name message timeout s by attempt)
  mq_send-spares s name message timeout by attempt = found-spares s (find_queue s name) (missing_outcome s attempt) _ (missing-spares s attempt) (λ queue. if-spares s (is_too_long queue message) (refusal s Code.Error) _ (spares-same s)
      (if-spares s (has_message_room queue) _ _ (message_put-spares s queue (queue.messages ++ message ∷ [])) (wait_or-spares s by attempt (Call.MqSend queue.name timeout message) timeout Code.Full (λ number name is. absurd cc))))

  mq_urgent-spares : (s : State) (name message : List ℕ) → SparesCall s (mq_urgent name message s)
  mq_urgent-spares s name message = found-spares s (find_queue s name) (missing_outcome s First) _ (spares-same s) (λ queue. if-spares s (is_too_long queue message) (refusal s Code.Error) _ (spares-same s)
      (if-spares s (has_message_room queue) _ (refusal s Code.Full) (message_put-spares s queue (message ∷ queue.messages)) (spares-same s)))

  message_got-spares : (s : State) (queue : MsgQueue) (messages : List (List ℕ)) (timeout : Option ℕ) (by : By) (attempt : Attempt) → SparesCall s (mq_recv_outcome queue messages timeout s by attempt)
  message_got-spares s queue [] timeout by attempt = wait_or-spares s by attempt (Call.MqRecv queue.name timeout) timeout Code.Timeout (λ number name is. absurd cc)
  message_got-spares s queue (message ∷ messages) timeout by attempt =
      let taken : State = with_queue s (record queue { messages = messages }) in
      let told : State = with_text taken by message in
      let valued : State = with_value told by (length message) in
      retried-spares s valued (first_waiter s queue.order (sends_message queue.name)) (spares-from s taken (no_effect valued) (spares-parts s taken refl refl) (spares-from taken told (no_effect valued) (text-spares taken by message) (value-spares told by (length message))))

  mq_recv-spares : (s : State) (name : List ℕ) (timeout : Option ℕ) (by : By) (attempt : Attempt) → SparesCall s (mq_recv name timeout s by attempt)
  mq_recv-spares s name timeout by attempt = found-spares s (find_queue s name) (missing_outcome s attempt) _ (missing-spares s attempt) (λ queue. message_got-spares s queue queue.messages timeout by attempt)

  -- pools
  allocated-spares : (s : State) (name : List ℕ) (pool : Pool) (o timeout : Option ℕ) (by : By) → find_pool s name ≡ Some pool → free_block pool ≡ o → SparesCall s (mp_alloc_outcome pool o timeout s by)
  allocated-spares s name pool None timeout by found is = wait_or-spares s by First (Call.MpAlloc pool.name timeout) timeout Code.Timeout (λ number n awaits. used-here s.pools name pool n number timeout found is awaits)
  allocated-spares s name pool (Some block) timeout (ByThread t core) found is =
      let held : State = with_pool s (with_block_held pool block t) in
      spares-from s held (no_effect (with_value held (ByThread t core) (place_of pool block))) (record { kept = λ all. served-pools s.pools held.pools s.threads (λ n used. used-put s.pools name pool (with_block_held pool block t) found refl (λ none. absurd (some-none block (sym is ∙ none))) n used) all }) (value-spares held (ByThread t core) (place_of pool block))
  allocated-spares s name pool (Some block) timeout (ByTimer timer) found is = spares-same s

  mp_alloc-spares : (s : State) (name : List ℕ) (timeout : Option ℕ) (by : By) → SparesCall s (mp_alloc name timeout s by)
  mp_alloc-spares s name timeout by = by_found (find_pool s name) refl where
    by_found : (o : Option Pool) → find_pool s name ≡ o → SparesCall s (found_outcome o (refusal s Code.Inval) (λ pool. mp_alloc_outcome pool (free_block pool) timeout s by))
    by_found None is = spares-same s
    by_found (Some pool) is = allocated-spares s name pool (free_block pool) timeout by is refl

  passed-spares : (s : State) (name : List ℕ) (pool : Pool) (block : ℕ) (o : Option ℕ) → find_pool s name ≡ Some pool → first_waiter s pool.order (takes_block pool.name) ≡ o → SparesCall s (passed_block_outcome pool block o s)
  passed-spares s name pool block None found is = record { kept = λ all. served-freed s.pools name pool (with_block_freed pool block) s.threads found refl (nobody-waits s pool.order pool.name is) all }
  passed-spares s name pool block (Some t) found is =
      let held : State = with_pool s (with_block_held pool block t) in
      let row : Thread = record (thread_at s t) { value = place_of pool block } in
      spares-from s held _ (record { kept = λ all. served-pools s.pools held.pools s.threads (λ n used. used-put s.pools name pool (with_block_held pool block t) found refl (held-full pool block t) n used) all }) (spares-from held (with_thread held t row) _ (row-spares held t row (λ n is. is)) (wake-spares (with_thread held t row) Code.Ok t))

  freed-spares : (s : State) (name : List ℕ) (pool : Pool) (o : Option ℕ) → find_pool s name ≡ Some pool → SparesCall s (mp_free_outcome pool o s)
  freed-spares s name pool None found = spares-same s
  freed-spares s name pool (Some block) found = passed-spares s name pool block (first_waiter s pool.order (takes_block pool.name)) found refl

  mp_free-spares : (s : State) (name : List ℕ) (by : By) → SparesCall s (mp_free name s by)
  mp_free-spares s name by = by_found (find_pool s name) refl by where
    by_found : (o : Option Pool) → find_pool s name ≡ o → (by : By) → SparesCall s (found_outcome o (refusal s Code.Inval) (λ pool. thread_outcome s by (λ t core. mp_free_outcome pool (last_block pool t) s)))
    by_found None is by = spares-same s
    by_found (Some pool) is (ByThread t core) = freed-spares s name pool (last_block pool t) is
    by_found (Some pool) is (ByTimer timer) = spares-same s

  -- deletions
  deletion-spares : (s u : State) (ts : List ℕ) → u.pools ≡ s.pools → u.threads ≡ s.threads → SparesCall s (deletion_outcome u ts)
  deletion-spares s u ts pools threads = spares-from s u (each_effect (wake_effect Code.Error) ts u) (spares-parts s u pools threads) (each-spares (wake_effect Code.Error) (λ t v. wake-spares v Code.Error t) ts u)

  delete-spares : (s : State) (class : Class) (name : List ℕ) → SparesCall s (delete class name s)
  delete-spares s Class.Sem name = found-spares s (find_sem s name) (refusal s Code.Inval) _ (spares-same s) (λ sem. deletion-spares s _ (waiters s sem.order (takes_sem name)) refl refl)
  delete-spares s Class.Event name = found-spares s (find_event s name) (refusal s Code.Inval) _ (spares-same s) (λ event. deletion-spares s _ (waiters s event.order (receives_event name)) refl refl)
  delete-spares s Class.Mutex name = found-spares s (find_mutex s name) (refusal s Code.Inval) _ (spares-same s) (λ mutex. deletion-spares s _ (waiters s WaitOrder.Prio (takes_mutex name)) refl refl)
  delete-spares s Class.Mailbox name = found-spares s (find_mailbox s name) (refusal s Code.Inval) _ (spares-same s) (λ mailbox. deletion-spares s _ (waiters s mailbox.order (receives_mail name) ++ waiters s mailbox.order (sends_mail name)) refl refl)
  delete-spares s Class.MsgQueue name = found-spares s (find_queue s name) (refusal s Code.Inval) _ (spares-same s) (λ queue. deletion-spares s _ (waiters s queue.order (receives_message name) ++ waiters s queue.order (sends_message name)) refl refl)
  delete-spares s _ name = spares-same s

  -- timers: an unwork line tells of the work that is taken out
  unwork-spares : (s : State) (name : List ℕ) → Spares b s (unwork_effect name s)
  unwork-spares s name = by_test (has_work s name) refl where
    by_test : (c : Bool) → has_work s name ≡ c → Spares b s (if c then line_effect (without_work s name) (Line.Unwork name) else no_effect s)
    by_test true is = record { kept = λ all. all }
    by_test false is = spares-same s

  timer_start-spares : (s : State) (name : List ℕ) → SparesCall s (timer_start name s)
  timer_start-spares s name = found-spares s (find_timer s name) (refusal s Code.Inval) _ (spares-same s) (λ timer. spares-after s (with_timer_armed (unwork_effect timer.name s).state timer) (unwork_effect timer.name s) (unwork-spares s timer.name) (spares-parts (unwork_effect timer.name s).state _ refl refl))

  timer_stop-spares : (s : State) (name : List ℕ) → SparesCall s (timer_stop name s)
  timer_stop-spares s name = found-spares s (find_timer s name) (refusal s Code.Inval) _ (spares-same s) (λ timer. if-spares s (has_work s name) (success (unwork_effect name s)) _ (unwork-spares s name)
      (if-spares s (is_some (due_of s (OfTimer name))) (silent_success (without_alarm s (OfTimer name))) (refusal s Code.Error) (spares-parts s _ refl refl) (spares-same s)))

  timer_set-spares : (s : State) (name : List ℕ) (time : ℕ) → SparesCall s (timer_set name time s)
  timer_set-spares s name time = found-spares s (find_timer s name) (refusal s Code.Inval) _ (spares-same s) (λ timer. spares-parts s _ refl refl)

  -- devices
  dev_open-spares : (s : State) (name : List ℕ) → SparesCall s (dev_open name s)
  dev_open-spares s name = found-spares s (find_device s name) (refusal s Code.Inval) _ (spares-same s) (λ device. if-spares s (eqb device.opened 255) (refusal s Code.Full) _ (spares-same s) (spares-parts s _ refl refl))

  dev_close-spares : (s : State) (name : List ℕ) → SparesCall s (dev_close name s)
  dev_close-spares s name = found-spares s (find_device s name) (refusal s Code.Inval) _ (spares-same s) (λ device. if-spares s (may_close device) _ (refusal s Code.Error) (spares-parts s _ refl refl) (spares-same s))

  dev_read-spares : (s : State) (name : List ℕ) (count : ℕ) (by : By) → SparesCall s (dev_read name count s by)
  dev_read-spares s name count by = found-spares s (find_device s name) (refusal s Code.Inval) _ (spares-same s) (λ device. if-spares s (is_open device) _ (refusal s Code.Error)
      (spares-from s (with_device s _) _ (spares-parts s (with_device s _) refl refl) (spares-from (with_device s _) (with_text (with_device s _) by _) (no_effect (with_value (with_text (with_device s _) by _) by _)) (text-spares (with_device s _) by _) (value-spares (with_text (with_device s _) by _) by _))) (spares-same s))

  written-spares : (s : State) (device : Device) (text : List ℕ) (by : By) → Spares b s (write_effect device text s by)
  written-spares s device text by = by_kind device.console where
    by_kind : (c : Bool) → Spares b s (write_effect (record device { console = c }) text s by)
    by_kind true = spares-line s (no_effect (with_value s by (length text))) (Line.Print text) (value-spares s by (length text))
    by_kind false = spares-from s (with_device s _) (no_effect (with_value (with_device s _) by _)) (spares-parts s (with_device s _) refl refl) (value-spares (with_device s _) by _)

  dev_write-spares : (s : State) (name text : List ℕ) (by : By) → SparesCall s (dev_write name text s by)
  dev_write-spares s name text by = found-spares s (find_device s name) (refusal s Code.Inval) _ (spares-same s) (λ device. if-spares s (is_open device) _ (refusal s Code.Error) (written-spares s device text by) (spares-same s))

  dev_ctl-spares : (s : State) (name : List ℕ) (rate : ℕ) → SparesCall s (dev_ctl name rate s)
  dev_ctl-spares s name rate = found-spares s (find_device s name) (refusal s Code.Inval) _ (spares-same s) (λ device. if-spares s device.console (refusal s Code.NoSys) _ (spares-same s) (spares-parts s _ refl refl))

  -- the whole table
  pub outcome-spares : (s : State) (call : Call) (by : By) (attempt : Attempt) → SparesCall s (outcome_of b call s by attempt)
  outcome-spares s (Call.Delay ticks) by attempt = delay-spares s by ticks
  outcome-spares s Call.Yield by attempt = yield-spares s by
  outcome-spares s (Call.Startup name) by attempt = startup-spares s name
  outcome-spares s (Call.Suspend name) by attempt = suspend-spares s name by
  outcome-spares s (Call.Resume name) by attempt = resume-spares s name
  outcome-spares s (Call.Kill name) by attempt = kill-spares s name
  outcome-spares s (Call.SetPrio name prio) by attempt = set_prio-spares s name prio
  outcome-spares s Call.Lock by attempt = lock-spares s by
  outcome-spares s Call.Unlock by attempt = unlock-spares s by
  outcome-spares s Call.SchedLock by attempt = sched_lock-spares s by
  outcome-spares s Call.SchedUnlock by attempt = sched_unlock-spares s by
  outcome-spares s (Call.SemCreate name value order) by attempt = created-spares s _ (is_some (find_sem s name)) (nat_le b.limits.sem (length s.sems)) refl refl
  outcome-spares s (Call.SemTake name timeout) by attempt = sem_take-spares s name timeout by
  outcome-spares s (Call.SemRelease name) by attempt = sem_release-spares s name
  outcome-spares s (Call.EventCreate name order) by attempt = created-spares s _ (is_some (find_event s name)) (nat_le b.limits.event (length s.events)) refl refl
  outcome-spares s (Call.EventSend name mask) by attempt = event_send-spares s name mask
  outcome-spares s (Call.EventRecv name mask all clear timeout) by attempt = event_recv-spares s name (record { mask = mask; all = all; clear = clear }) timeout by
  outcome-spares s (Call.MutexCreate name ceiling) by attempt = created-spares s _ (is_some (find_mutex s name)) (nat_le b.limits.mutex (length s.mutexes)) refl refl
  outcome-spares s (Call.MutexTake name timeout) by attempt = mutex_take-spares s name timeout by
  outcome-spares s (Call.MutexRelease name) by attempt = mutex_release-spares s name by
  outcome-spares s (Call.MutexCeiling name ceiling) by attempt = mutex_ceiling-spares s name ceiling by
  outcome-spares s (Call.MbSend name word timeout) by attempt = mb_send-spares s name word timeout by attempt
  outcome-spares s (Call.MbUrgent name word) by attempt = mb_urgent-spares s name word
  outcome-spares s (Call.MbRecv name timeout) by attempt = mb_recv-spares s name timeout by attempt
  outcome-spares s (Call.MqSend name timeout message) by attempt = mq_send-spares s name message timeout by attempt
  outcome-spares s (Call.MqUrgent name message) by attempt = mq_urgent-spares s name message
  outcome-spares s (Call.MqRecv name timeout) by attempt = mq_recv-spares s name timeout by attempt
  outcome-spares s (Call.Delete class name) by attempt = delete-spares s class name
  outcome-spares s (Call.TimerStart name) by attempt = timer_start-spares s name
  outcome-spares s (Call.TimerStop name) by attempt = timer_stop-spares s name
  outcome-spares s (Call.TimerSet name time) by attempt = timer_set-spares s name time
  outcome-spares s (Call.DevOpen name) by attempt = dev_open-spares s name
  outcome-spares s (Call.DevClose name) by attempt = dev_close-spares s name
  outcome-spares s (Call.DevRead name count) by attempt = dev_read-spares s name count by
  outcome-spares s (Call.DevWrite name text) by attempt = dev_write-spares s name text by
  outcome-spares s (Call.DevCtl name rate) by attempt = dev_ctl-spares s name rate
  outcome-spares s (Call.PmRequest mode) by attempt = if-spares s (eqb (votes_for s.votes mode) 255) (refusal s Code.Full) _ (spares-same s) (spares-parts s _ refl refl)
  outcome-spares s (Call.PmRelease mode) by attempt = if-spares s (eqb (votes_for s.votes mode) 0) (refusal s Code.Error) _ (spares-same s) (spares-parts s _ refl refl)
  outcome-spares s (Call.PmRun mode) by attempt = spares-parts s _ refl refl
  outcome-spares s (Call.MpAlloc name timeout) by attempt = mp_alloc-spares s name timeout by
  outcome-spares s (Call.MpFree name) by attempt = mp_free-spares s name by
