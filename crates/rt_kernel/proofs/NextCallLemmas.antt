-- What follows from the calls of threads is what the code does.
use Rattle.std.proofs.Common.{◌≡◌, ℕ, ◌+◌, ◌≤◌, arith, ◌++◌, length, List, Bool, is_some, nat_le, Option, Some, None, true, false, refl, sym, ap, ◌∙◌}
use Rattle.std.specs.Prelude.{IfSome}
use Rattle.rt_base.specs.declared.codes.Class.{Class}
use Rattle.rt_base.specs.declared.codes.Code.{Code}
use Rattle.rt_base.specs.Roomy.{Roomy}
use Rattle.rt_plain.specs.declared.line.Line.{Line}
use Rattle.rt_plain.specs.declared.stmt.Call.{Call}
use Rattle.rt_plain.specs.PlainBoard.{PlainBoard}
use Rattle.rt_plain.specs.kernel.State.{State, Thread, no_thread, thread_at, with_thread, find_thread}
use Rattle.rt_plain.specs.kernel.Sound.{is_active}
use Rattle.rt_plain.proofs.kernel.TallyLemmas.{same-set}
use Rattle.rt_plain.specs.kernel.Effects.{Effect, name_of}
use Rattle.rt_plain.specs.kernel.Outcome.{By, ByThread, ByTimer, Attempt, First, Outcome, refusal, silent_success, found_outcome}
use Rattle.rt_plain.specs.kernel.ThreadCalls.{kill, resume, set_prio}
use Rattle.rt_plain.specs.kernel.Statements.{call_effect}
use Rattle.rt_plain.specs.kernel.Calls.{outcome_of, settled_effect}
use Rattle.rt_kernel.specs.declared.answer.Answer.{Answer}
use Rattle.rt_kernel.specs.declared.built.Subject.{Subject}
use Rattle.rt_kernel.specs.declared.caller.Caller.{Caller}
use Rattle.rt_kernel.specs.declared.state.State.{State as KernelState}
use Rattle.rt_kernel.specs.Built.{is_built_call, subject_of, subject_where}
use Rattle.rt_kernel.specs.Caller.{IsOnCore, IsThere, plain_by}
use Rattle.rt_kernel.specs.Does.{Does, headed}
use Rattle.rt_kernel.specs.Limits.{limits_of}
use Rattle.rt_kernel.specs.Mutexes.{AreActive, HasNoMutex, NobodyWaits}
use Rattle.rt_kernel.specs.NextCall.{begun, next_call, settled_call}
use Rattle.rt_kernel.specs.Settles.{settled, settled_outcome}
use Rattle.rt_kernel.specs.View.{state_of}
use Rattle.rt_kernel.proofs.ObjectQuiet.{quiet-sem_create, quiet-sem_take, quiet-sem_release, quiet-event_create, quiet-event_recv, quiet-event_send, quiet-sem_deletion, quiet-event_deletion}
use Rattle.rt_kernel.proofs.ChannelQuiet.{quiet-mb_send, quiet-mb_urgent, quiet-mb_recv, quiet-mq_send, quiet-mq_urgent, quiet-mq_recv, quiet-mailbox_deletion, quiet-queue_deletion}
use Rattle.rt_kernel.proofs.DeviceQuiet.{quiet-dev_open, quiet-dev_close, quiet-dev_read, quiet-dev_write, quiet-dev_ctl}
use Rattle.rt_kernel.proofs.Quiet.{IsLively, IsQuietCall, KeepsNames, call-quiet, name-set, quiet-delay, quiet-yield, quiet-startup, quiet-suspend, quiet-resume, quiet-kill, quiet-sched_lock, quiet-sched_unlock, quiet-lock, quiet-unlock, quiet-answer, quiet-free}
use Rattle.rt_kernel.proofs.Settled.{IsAlike, alike-back, call-settled, row-alike}
use Rattle.rt_kernel.proofs.PoolQuiet.{quiet-mp_alloc, quiet-mp_free}
use Rattle.rt_kernel.proofs.TimerQuiet.{quiet-timer_start, quiet-timer_stop, quiet-timer_set}

-- who makes a call is active, and so are those that are ready
pub lively : (k : KernelState) (by : Caller) → IsThere by k.tables → AreActive k.tables → IsLively (state_of k) (plain_by (state_of k) by)
lively k (Caller.Thread t core) there active = record { caller = there.active; ready = active }
lively k (Caller.Timer timer) there active = record { caller = tt; ready = active }

-- a row of a thread is changed, and no stage
pub lively-row : (k : KernelState) (t core : ℕ) (row : Thread) → row.stage ≡ (thread_at (state_of k) t).stage → IsOnCore k.tables t → AreActive k.tables → IsLively (with_thread (state_of k) t row) (ByThread t core)
lively-row k t core row same on active = record {
  caller = ap is_active (same-set (λ (r : Thread). r.stage) k.tables.threads t t row no_thread same) ∙ on.active;
  ready = λ u among. ap is_active (same-set (λ (r : Thread). r.stage) k.tables.threads t u row no_thread same) ∙ active u among;
}

pub lively-begun : (k : KernelState) (t core : ℕ) → IsOnCore k.tables t → AreActive k.tables → IsLively (begun (state_of k) t) (ByThread t core)
lively-begun k t core on active = lively-row k t core (record (thread_at (state_of k) t) { next = (thread_at (state_of k) t).next + 1 }) refl on active

-- the calls from which something may follow
abbrev pub is_moving : Call → Bool
is_moving (Call.Resume name) = true
is_moving (Call.Kill name) = true
is_moving (Call.SetPrio name prio) = true
is_moving _ = false

-- nothing follows from the others
pub quiet-outcome : (b : PlainBoard) (s : State) (call : Call) (by : By) (attempt : Attempt) → is_built_call call ≡ true → is_moving call ≡ false → IsLively s by → IsQuietCall s (outcome_of b call s by attempt)
quiet-outcome b s (Call.Delay ticks) by attempt built still on = quiet-delay s ticks by on
quiet-outcome b s Call.Yield by attempt built still on = quiet-yield s by
quiet-outcome b s (Call.Startup name) by attempt built still on = quiet-startup s name
quiet-outcome b s (Call.Suspend name) by attempt built still on = quiet-suspend s name by on
quiet-outcome b s (Call.Resume name) by attempt built still on = absurd cc
quiet-outcome b s (Call.Kill name) by attempt built still on = absurd cc
quiet-outcome b s (Call.SetPrio name prio) by attempt built still on = absurd cc
quiet-outcome b s Call.SchedLock by attempt built still on = quiet-sched_lock s by
quiet-outcome b s Call.SchedUnlock by attempt built still on = quiet-sched_unlock s by
quiet-outcome b s Call.Lock by attempt built still on = quiet-lock s by
quiet-outcome b s Call.Unlock by attempt built still on = quiet-unlock s by
quiet-outcome b s (Call.SemCreate name value order) by attempt built still on = quiet-sem_create b s name value order
quiet-outcome b s (Call.SemTake name timeout) by attempt built still on = quiet-sem_take s name timeout by on
quiet-outcome b s (Call.SemRelease name) by attempt built still on = quiet-sem_release s name
quiet-outcome b s (Call.EventCreate name order) by attempt built still on = quiet-event_create b s name order
quiet-outcome b s (Call.EventSend name mask) by attempt built still on = quiet-event_send s name mask
quiet-outcome b s (Call.EventRecv name mask all clear timeout) by attempt built still on = quiet-event_recv s name (record { mask = mask; all = all; clear = clear }) timeout by on
quiet-outcome b s (Call.MbSend name word timeout) by attempt built still on = quiet-mb_send s name word timeout by attempt on
quiet-outcome b s (Call.MbUrgent name word) by attempt built still on = quiet-mb_urgent s name word
quiet-outcome b s (Call.MbRecv name timeout) by attempt built still on = quiet-mb_recv s name timeout by attempt on
quiet-outcome b s (Call.MqSend name timeout message) by attempt built still on = quiet-mq_send s name message timeout by attempt on
quiet-outcome b s (Call.MqUrgent name message) by attempt built still on = quiet-mq_urgent s name message
quiet-outcome b s (Call.MqRecv name timeout) by attempt built still on = quiet-mq_recv s name timeout by attempt on
quiet-outcome b s (Call.Delete Class.Sem name) by attempt built still on = quiet-sem_deletion s name
quiet-outcome b s (Call.Delete Class.Event name) by attempt built still on = quiet-event_deletion s name
quiet-outcome b s (Call.Delete Class.Mailbox name) by attempt built still on = quiet-mailbox_deletion s name
quiet-outcome b s (Call.Delete Class.MsgQueue name) by attempt built still on = quiet-queue_deletion s name
quiet-outcome b s (Call.TimerStart name) by attempt built still on = quiet-timer_start s name
quiet-outcome b s (Call.TimerStop name) by attempt built still on = quiet-timer_stop s name
quiet-outcome b s (Call.TimerSet name time) by attempt built still on = quiet-timer_set s name time
quiet-outcome b s (Call.DevOpen name) by attempt built still on = quiet-dev_open s name
quiet-outcome b s (Call.DevClose name) by attempt built still on = quiet-dev_close s name
quiet-outcome b s (Call.DevRead name count) by attempt built still on = quiet-dev_read s name count by
quiet-outcome b s (Call.DevWrite name text) by attempt built still on = quiet-dev_write s name text by
quiet-outcome b s (Call.DevCtl name rate) by attempt built still on = quiet-dev_ctl s name rate
quiet-outcome b s (Call.MpAlloc name timeout) by attempt built still on = quiet-mp_alloc s name timeout by on
quiet-outcome b s (Call.MpFree name) by attempt built still on = quiet-mp_free s name by
quiet-outcome b s _ by attempt built still on = absurd cc

-- so such a call settles to what it does by itself
pub quiet_settles : (b : PlainBoard) (k : KernelState) (call : Call) (by : Caller) (attempt : Attempt) → is_built_call call ≡ true → is_moving call ≡ false → IsThere by k.tables → AreActive k.tables → settled_outcome b call (state_of k) (plain_by (state_of k) by) attempt ≡ outcome_of b call (state_of k) (plain_by (state_of k) by) attempt
quiet_settles b k call by attempt built still there active = call-quiet b (state_of k) (outcome_of b call (state_of k) (plain_by (state_of k) by) attempt) (quiet-outcome b (state_of k) call (plain_by (state_of k) by) attempt built still (lively k by there active))

-- a call that does so much by itself does it with what follows, too
pub settle_does : (b : PlainBoard) (k new : KernelState) (before after : Roomy Line) (answered : Answer) (few most : ℕ) (call : Call) (by : Caller) (attempt : Attempt) (o : Outcome) → settled_outcome b call (state_of k) (plain_by (state_of k) by) attempt ≡ o → few ≤ most
    → Does k new before after answered few o → Does k new before after answered most (settled_outcome b call (state_of k) (plain_by (state_of k) by) attempt)
settle_does b k new before after answered few most call by attempt o same le does = record {
  state = does.state ∙ ap (λ (x : Outcome). x.effect.state) (sym same);
  lines = does.lines ∙ ap (λ (x : Outcome). before.items ++ x.effect.lines) (sym same);
  answer = does.answer ∙ ap (λ (x : Outcome). x.answer) (sym same);
  limits = does.limits;
  threads = does.threads;
  numbers = does.numbers;
  few = omega (arith, le, does.few);
  out_room = does.out_room;
}

pub still_does : (b : PlainBoard) (k new : KernelState) (before after : Roomy Line) (answered : Answer) (few most : ℕ) (call made : Call) (by : Caller) (attempt : Attempt) → call ≡ made → few ≤ most → is_built_call made ≡ true → is_moving made ≡ false → IsThere by k.tables → AreActive k.tables
    → Does k new before after answered few (outcome_of b made (state_of k) (plain_by (state_of k) by) attempt) → Does k new before after answered most (settled_outcome b call (state_of k) (plain_by (state_of k) by) attempt)
still_does b k new before after answered few most call made by attempt is le built still there active does =
    settle_does b k new before after answered few most call by attempt (outcome_of b made (state_of k) (plain_by (state_of k) by) attempt)
    (ap (λ (x : Call). settled_outcome b x (state_of k) (plain_by (state_of k) by) attempt) is ∙ quiet_settles b k made by attempt built still there active) le does

-- where nobody waits for a mutex, nothing follows from a resume, and where there is none, nothing from a kill
pub resume_settles : (b : PlainBoard) (s : State) (call : Call) (name : List ℕ) (by : By) (attempt : Attempt) → call ≡ Call.Resume name → NobodyWaits s → settled_outcome b call s by attempt ≡ resume name s
resume_settles b s call name by attempt is nobody = ap (λ (x : Call). settled_outcome b x s by attempt) is ∙ call-quiet b s (resume name s) (quiet-resume s name nobody)

pub kill_settles : (b : PlainBoard) (s : State) (call : Call) (name : List ℕ) (by : By) (attempt : Attempt) → call ≡ Call.Kill name → HasNoMutex s → NobodyWaits s → settled_outcome b call s by attempt ≡ kill name s
kill_settles b s call name by attempt is free nobody = ap (λ (x : Call). settled_outcome b x s by attempt) is ∙ call-quiet b s (kill name s) (quiet-kill s name free nobody)

-- the calls on other objects than threads and mutexes are among them
abbrev pub is_still : Subject → Bool
is_still Subject.Thread = false
is_still _ = true

still : (call : Call) (x : Subject) → subject_of call ≡ Some x → is_still x ≡ true → is_moving call ≡ false
still (Call.Resume name) Subject.Thread is quiet = absurd cc
still (Call.Kill name) Subject.Thread is quiet = absurd cc
still (Call.SetPrio name prio) Subject.Thread is quiet = absurd cc
still (Call.Resume name) _ is quiet = absurd cc
still (Call.Kill name) _ is quiet = absurd cc
still (Call.SetPrio name prio) _ is quiet = absurd cc
still _ x is quiet = refl

pub object_settles : (b : PlainBoard) (k : KernelState) (call : Call) (by : Caller) (attempt : Attempt) (x : Subject) → subject_of call ≡ Some x → is_still x ≡ true → IsThere by k.tables → AreActive k.tables → settled_outcome b call (state_of k) (plain_by (state_of k) by) attempt ≡ outcome_of b call (state_of k) (plain_by (state_of k) by) attempt
object_settles b k call by attempt x is quiet there active = quiet_settles b k call by attempt (ap is_some is) (still call x is quiet) there active

-- what is so of the value that may be there
pub if-some : {A : Type 0} (o : Option A) (P : A → Type 0) → ((x : A) → o ≡ Some x → P x) → IfSome o P
if-some None P says = tt
if-some (Some x) P says = says x refl

-- what a call leaves: no thread has another name, and there is no mutex
pub record LeavesCall (s : State) (outcome : Outcome) : Type 0 where
  pub names : KeepsNames s outcome.effect.state
  pub free : HasNoMutex outcome.effect.state

quiet-leaves : (s : State) (outcome : Outcome) → HasNoMutex s → IsQuietCall s outcome → LeavesCall s outcome
quiet-leaves s outcome free quiet = record { names = quiet.names; free = quiet-free s outcome.effect.state free quiet }

prio-leaves : (s : State) (name : List ℕ) (prio : ℕ) → HasNoMutex s → LeavesCall s (set_prio name prio s)
prio-leaves s name prio free = by_found (find_thread s name) where
  by_found : (o : Option ℕ) → LeavesCall s (found_outcome o (refusal s Code.Inval) (λ u. silent_success (with_thread s u (record (thread_at s u) { base = prio }))))
  by_found None = record { names = λ v. refl; free = free }
  by_found (Some u) = record { names = λ v. name-set s.threads u v (record (thread_at s u) { base = prio }) refl; free = free }

moving-leaves : (b : PlainBoard) (s : State) (call : Call) (by : By) (attempt : Attempt) → is_moving call ≡ true → HasNoMutex s → NobodyWaits s → LeavesCall s (outcome_of b call s by attempt)
moving-leaves b s (Call.Resume name) by attempt moves free nobody = quiet-leaves s (resume name s) free (quiet-resume s name nobody)
moving-leaves b s (Call.Kill name) by attempt moves free nobody = quiet-leaves s (kill name s) free (quiet-kill s name free nobody)
moving-leaves b s (Call.SetPrio name prio) by attempt moves free nobody = prio-leaves s name prio free
moving-leaves b s _ by attempt moves free nobody = absurd cc

pub outcome-leaves : (b : PlainBoard) (s : State) (call : Call) (by : By) (attempt : Attempt) → is_built_call call ≡ true → IsLively s by → HasNoMutex s → NobodyWaits s → LeavesCall s (outcome_of b call s by attempt)
outcome-leaves b s call by attempt built on free nobody = by_test (is_moving call) refl where
  by_test : (c : Bool) → is_moving call ≡ c → LeavesCall s (outcome_of b call s by attempt)
  by_test false is = quiet-leaves s (outcome_of b call s by attempt) free (quiet-outcome b s call by attempt built is on)
  by_test true is = moving-leaves b s call by attempt is free nobody

-- a call in a state that differs from this one in a row, whose name, stage and base are the same, with its line and its answer
pub headed-leaves : (s : State) (t : ℕ) (row : Thread) (line : Option Code → Line) (outcome : Outcome) → row.name ≡ (thread_at s t).name → LeavesCall (with_thread s t row) outcome → LeavesCall s (headed t line outcome)
headed-leaves s t row line outcome named left = record {
  names = λ u. (quiet-answer outcome.effect.state t outcome.answer).names u ∙ left.names u ∙ name-set s.threads t u row named;
  free = quiet-free outcome.effect.state (headed t line outcome).effect.state left.free (quiet-answer outcome.effect.state t outcome.answer);
}

-- a call that a thread makes, as the tables have it, with what follows
pub calls-next : (b : PlainBoard) (t core k : ℕ) (call : Call) (old mid new : KernelState) (before after : Roomy Line) (answered : Answer)
    → state_of mid ≡ begun (state_of old) t → k ≡ (thread_at (state_of old) t).next → limits_of mid.tables ≡ limits_of old.tables → length mid.tables.threads ≡ length old.tables.threads → mid.numbers ≡ old.numbers
    → Does mid new before after answered (2 + length mid.tables.threads) (headed t (Line.Done (name_of (state_of mid) t) k) (settled_outcome b call (state_of mid) (ByThread t core) First))
    → Does old new before after answered (2 + length old.tables.threads) (settled_call b t core call (state_of old))
calls-next b t core k call old mid new before after answered begins place limits threads numbers does = record {
  state = does.state ∙ ap (λ (o : Outcome). o.effect.state) same;
  lines = does.lines ∙ ap (λ (o : Outcome). before.items ++ o.effect.lines) same;
  answer = does.answer ∙ ap (λ (o : Outcome). o.answer) same;
  limits = does.limits ∙ limits;
  threads = does.threads ∙ threads;
  numbers = omega (arith, does.numbers, numbers);
  few = omega (arith, does.few, threads);
  out_room = does.out_room;
} where
  s : State
  s = state_of old

  made : State → ℕ → Outcome
  made m j = headed t (Line.Done (name_of m t) j) (settled_outcome b call m (ByThread t core) First)

  same : made (state_of mid) k ≡ settled_call b t core call s
  same =
      ap (λ (m : State). made m k) begins
      ∙ ap (made (begun s t)) place
      ∙ ap (λ (e : Effect). record { effect = e; answer = (next_call b t core call s).answer })
      (sym (call-settled b s (begun s t) t (Line.Done (name_of (begun s t) t) (thread_at s t).next) (outcome_of b call (begun s t) (ByThread t core) First)
      (alike-back (begun s t) s (row-alike s t (record (thread_at s t) { next = (thread_at s t).next + 1 }) refl refl refl))))
