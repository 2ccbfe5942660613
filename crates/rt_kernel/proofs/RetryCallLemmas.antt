-- What threads do that wake to make their calls again.
use Rattle.std.proofs.Common.{◌≡◌, ℕ, ◌+◌, ◌-◌, ◌<◌, ◌≤◌, ◌&&◌, List, [], ◌∷◌, ◌++◌, Option, Some, None, Bool, true, false, refl, sym, ap, ◌∙◌, subst, arith, length, slice_set, slice_get, is_some, unwrap_or}
use Rattle.std.specs.Prelude.{IfSome}
use Rattle.std.specs.Option.{option_map}
use Rattle.std.proofs.lemmas.List.{append-nil, length-append}
use Rattle.rt_base.specs.Roomy.{Roomy}
use Rattle.rt_plain.specs.declared.line.Line.{Line}
use Rattle.rt_plain.specs.declared.line.Woke.{Woke}
use Rattle.rt_plain.specs.declared.stmt.Call.{Call}
use Rattle.rt_plain.specs.PlainBoard.{PlainBoard}
use Rattle.rt_plain.specs.kernel.State.{State, Thread, Timer, Retry, InCall, Active, OfThread, no_thread, thread_at}
use Rattle.rt_plain.specs.kernel.Effects.{Effect, line_effect, name_of, due_of, retry_of, retry_wake_effect}
use Rattle.rt_plain.specs.kernel.Outcome.{By, ByThread, ByTimer, Attempt, Again, Outcome, success, with_value, with_text}
use Rattle.rt_plain.specs.kernel.Calls.{outcome_of}
use Rattle.rt_plain.specs.kernel.Kept.{IsFineRetry, IsNear, is_fine_awaited, is_waiting_call}
use Rattle.rt_plain.specs.kernel.Sound.{is_levelled_call, is_timed_call}
use Rattle.rt_plain.proofs.kernel.TallyLemmas.{same-set, length-set_at}
use Rattle.kernel_tables.specs.Repeated.{is_repeated, is_repeated_call}
use Rattle.mutex_tables.specs.MutexTabled.{MutexTabled}
use Rattle.kernel_tables.specs.Threads.{with_row, row_at, retried_row}
use Rattle.kernel_timers.specs.Alarmed.{AlarmsSeen, without}
use Rattle.rt_kernel.specs.declared.answer.Answer.{Answer}
use Rattle.rt_kernel.specs.declared.caller.Caller.{Caller}
use Rattle.rt_kernel.specs.declared.state.State.{State as KernelState}
use Rattle.rt_kernel.specs.Again.{again_call, resumed}
use Rattle.rt_kernel.specs.Answer.{plain_answer}
use Rattle.rt_kernel.specs.Built.{is_built_call}
use Rattle.rt_kernel.specs.Caller.{plain_by}
use Rattle.rt_kernel.specs.Does.{Does, Acts, headed}
use Rattle.rt_kernel.specs.Limits.{limits_of}
use Rattle.rt_kernel.specs.Settles.{settled, settled_outcome}
use Rattle.rt_kernel.specs.View.{state_of}
use Rattle.rt_kernel.specs.Wake.{followed}
use Rattle.rt_kernel.proofs.DoesLemmas.{does_by}
use Rattle.rt_kernel.proofs.Settled.{alike-back, call-settled, row-alike}
use Rattle.rt_kernel.proofs.WakeLemmas.{on, row_names, written-twice}

-- a thread that wakes to make its call again is one whose row is so, with what follows
pub retry-follows : (t : ℕ) (s : State) → retry_wake_effect t s ≡ line_effect (followed (record s { threads = with_row s.threads t (retried_row (due_of s (OfThread t))); ready = s.ready ++ t ∷ [] }) t) (Line.Wake (name_of s t) Woke.Retry)
retry-follows t s =
    ap (λ (threads : List Thread). line_effect (followed (record s { threads = threads; ready = s.ready ++ t ∷ [] }) t) (Line.Wake (name_of s t) Woke.Retry))
    (written-twice s.threads t (record (row_at s.threads t) { retry = retry_of (row_at s.threads t).stage (due_of s (OfThread t)) }) (λ row. record row { stage = Active }))

-- a call on what another left
pub does-on : (old mid new : KernelState) (before after : Roomy Line) (answered : Answer) (most : ℕ) (act : State → Outcome) (s : State) → state_of mid ≡ s → limits_of mid.tables ≡ limits_of old.tables → length mid.tables.threads ≡ length old.tables.threads → mid.numbers ≡ old.numbers
    → Does mid new before after answered most (act (state_of mid)) → Does old new before after answered most (act s)
does-on old mid new before after answered most act s is limits threads numbers does = record {
  state = does.state ∙ ap (λ (u : State). (act u).effect.state) is;
  lines = does.lines ∙ ap (λ (u : State). before.items ++ (act u).effect.lines) is;
  answer = does.answer ∙ ap (λ (u : State). (act u).answer) is;
  limits = does.limits ∙ limits;
  threads = does.threads ∙ threads;
  numbers = subst (λ n. new.numbers ≤ n + 2) numbers does.numbers;
  few = does.few;
  out_room = does.out_room;
}

-- the last value and the last text of a thread change no stage
pub value-stage : (s : State) (by : By) (value u : ℕ) → (thread_at (with_value s by value) u).stage ≡ (thread_at s u).stage
value-stage s (ByThread t core) value u = same-set (λ (row : Thread). row.stage) s.threads t u (record (thread_at s t) { value = value }) no_thread refl
value-stage s (ByTimer name) value u = refl

pub text-stage : (s : State) (by : By) (text : List ℕ) (u : ℕ) → (thread_at (with_text s by text) u).stage ≡ (thread_at s u).stage
text-stage s (ByThread t core) text u = same-set (λ (row : Thread). row.stage) s.threads t u (record (thread_at s t) { text = text }) no_thread refl
text-stage s (ByTimer name) text u = refl

pub value-moment : (s : State) (by : By) (value : ℕ) → (with_value s by value).moment ≡ s.moment
value-moment s (ByThread t core) value = refl
value-moment s (ByTimer name) value = refl

pub text-moment : (s : State) (by : By) (text : List ℕ) → (with_text s by text).moment ≡ s.moment
text-moment s (ByThread t core) text = refl
text-moment s (ByTimer name) text = refl

-- the first who waits still waits where all stages are as they were
pub still-waits : (o : Option ℕ) (one other : List Thread) → ((u : ℕ) → (row_at other u).stage ≡ (row_at one u).stage) → IfSome o (λ t. is_repeated (row_at one t).stage ≡ true) → IfSome o (λ t. is_repeated (row_at other t).stage ≡ true)
still-waits None one other same waits = tt
still-waits (Some t) one other same waits = ap is_repeated (same t) ∙ waits

-- and is still there
pub still-there : (o : Option ℕ) (m n : ℕ) → n ≡ m → IfSome o (λ t. t < m) → IfSome o (λ t. t < n)
still-there o m n same there = subst (λ k. IfSome o (λ t. t < k)) (sym same) there

-- a call that waits or is refused, on tables that are as they were
pub does-wait : (old new : KernelState) (tables : MutexTabled) (out : Roomy Line) (answered : Answer) (most : ℕ) (act : State → Outcome) → tables ≡ old.tables → state_of new ≡ (act (on old tables)).effect.state → plain_answer answered ≡ (act (on old tables)).answer → (act (on old tables)).effect.lines ≡ []
    → limits_of new.tables ≡ limits_of tables → length new.tables.threads ≡ length tables.threads → new.numbers ≤ old.numbers + 2 → Does old new out out answered most (act (state_of old))
does-wait old new tables out answered most act same state answer silent limits threads numbers = record {
  state = state ∙ ap (λ (k : MutexTabled). (act (on old k)).effect.state) same;
  lines = sym (append-nil out.items) ∙ ap (λ (lines : List Line). out.items ++ lines) (sym silent) ∙ ap (λ (k : MutexTabled). out.items ++ (act (on old k)).effect.lines) same;
  answer = answer ∙ ap (λ (k : MutexTabled). (act (on old k)).answer) same;
  limits = limits ∙ ap limits_of same;
  threads = threads ∙ ap (λ (k : MutexTabled). length k.threads) same;
  numbers = numbers;
  few = omega arith;
  out_room = refl;
}

-- who makes a call is told by the timers alone
pub by-same : (s u : State) (by : Caller) → u.timers ≡ s.timers → plain_by u by ≡ plain_by s by
by-same s u (Caller.Thread t core) same = refl
by-same s u (Caller.Timer timer) same = ap (λ (timers : List Timer). ByTimer (unwrap_or (option_map (λ (row : Timer). row.name) (slice_get timers timer)) [])) same

-- what was found is there
pub found-there : {A B : Type 0} (f : A → B) (o : Option A) (x : B) → option_map f o ≡ Some x → is_some o ≡ true
found-there f None x is = absurd cc
found-there f (Some y) x is = refl

-- what is left of a thread that wakes to make its call again, and what is shown
pub retry-acts : (old : KernelState) (tables : MutexTabled) (armed : AlarmsSeen) (before after : Roomy Line) (t : ℕ) (due : Option ℕ) (name : List ℕ) → due ≡ due_of (state_of old) (OfThread t)
    → tables ≡ record (old.tables) { threads = with_row old.tables.threads t (retried_row due); ready = old.tables.ready ++ t ∷ [] } → armed ≡ record (old.armed) { rows = without (OfThread t) old.armed.rows }
    → name ≡ name_of (state_of old) t → after.items ≡ before.items ++ Line.Wake name Woke.Retry ∷ [] → after.room ≡ before.room
    → Acts old (record old { tables = tables; armed = armed }) before after 1 (retry_wake_effect t (state_of old))
retry-acts old tables armed before after t due name due_is tables_are armed_is named shown room = does_by (ap success (retry-follows t (state_of old))) (record {
  state =
      ap (λ (k : MutexTabled). state_of (record old { tables = k; armed = armed })) tables_are
      ∙ ap (λ (a : AlarmsSeen). state_of (record old { tables = woken due; armed = a })) armed_is
      ∙ ap (λ (d : Option ℕ). state_of (record old { tables = woken d; armed = left })) due_is;
  lines = shown ∙ ap (λ (n : List ℕ). before.items ++ Line.Wake n Woke.Retry ∷ []) named;
  answer = refl;
  limits = ap limits_of tables_are;
  threads = ap (λ (k : MutexTabled). length k.threads) tables_are ∙ length-set_at old.tables.threads t (retried_row due (row_at old.tables.threads t));
  numbers = omega arith;
  few = omega (arith, ap length shown, length-append before.items (Line.Wake name Woke.Retry ∷ []));
  out_room = room;
}) where
  woken : Option ℕ → MutexTabled
  woken d = record (old.tables) { threads = with_row old.tables.threads t (retried_row d); ready = old.tables.ready ++ t ∷ [] }

  left : AlarmsSeen
  left = record (old.armed) { rows = without (OfThread t) old.armed.rows }

-- a call that is made again is built, sets no priority, and waits no longer than it may
pub repeated-built : (call : Call) → is_repeated_call call ≡ true → is_built_call call ≡ true
repeated-built (Call.MbSend name word timeout) repeated = refl
repeated-built (Call.MbRecv name timeout) repeated = refl
repeated-built (Call.MqSend name timeout message) repeated = refl
repeated-built (Call.MqRecv name timeout) repeated = refl
repeated-built _ repeated = absurd cc

pub repeated-levelled : (levels : ℕ) (call : Call) → is_repeated_call call ≡ true → is_levelled_call levels call ≡ true
repeated-levelled levels (Call.SetPrio name prio) repeated = absurd cc
repeated-levelled levels _ repeated = refl

both-true : (c d : Bool) → c && d ≡ true → d ≡ true
both-true true d is = is
both-true false d is = absurd cc

pub fine-parts : (now : ℕ) (o : Option Retry) (retry : Retry) (call : Call) → o ≡ Some retry → retry.what ≡ InCall call → IsFineRetry now o → (is_timed_call call ≡ true) × IsNear now retry.due
fine-parts now o retry call is what fine =
    let parts : IsFineRetry now (Some retry) = subst (IsFineRetry now) is fine in
    (both-true (is_waiting_call call) (is_timed_call call) (sym (ap is_fine_awaited what) ∙ parts.0), parts.1)

-- the call that is made again, by the tables that have let it go
pub again-does : (b : PlainBoard) (t core : ℕ) (old new : KernelState) (tables : MutexTabled) (before after : Roomy Line) (answered : Answer) (call : Call) (due first : Option ℕ) (k : ℕ)
    → tables ≡ record (old.tables) { threads = with_row old.tables.threads t (λ row. record row { retry = None }) } → k ≡ (row_at tables.threads t).next - 1 → due ≡ first
    → Does (record old { tables = tables }) new before after answered (2 + length tables.threads) (headed t (Line.Again (name_of (on old tables) t) k) (settled_outcome b call (on old tables) (ByThread t core) (Again due)))
    → Does old new before after answered (2 + length old.tables.threads) (settled b (state_of old) (again_call b t core first call (state_of old)))
again-does b t core old new tables before after answered call due first k tables_are place due_is made = record {
  state = does.state;
  lines = does.lines;
  answer = does.answer;
  limits = does.limits ∙ ap limits_of tables_are;
  threads = does.threads ∙ count;
  numbers = does.numbers;
  few = omega (arith, does.few, count);
  out_room = does.out_room;
} where
  s : State
  s = state_of old

  row : Thread
  row = row_at old.tables.threads t

  freed : MutexTabled
  freed = record (old.tables) { threads = with_row old.tables.threads t (λ row. record row { retry = None }) }

  count : length tables.threads ≡ length old.tables.threads
  count = ap (λ (u : MutexTabled). length u.threads) tables_are ∙ length-set_at old.tables.threads t (record row { retry = None })

  place_is : k ≡ row.next - 1
  place_is = place ∙ ap (λ (u : MutexTabled). (row_at u.threads t).next - 1) tables_are ∙ ap (λ n. n - 1) (same-set (λ (r : Thread). r.next) old.tables.threads t t (record row { retry = None }) no_thread refl)

  made_by : MutexTabled → List ℕ → ℕ → Option ℕ → Outcome
  made_by u name j d = headed t (Line.Again name j) (settled_outcome b call (on old u) (ByThread t core) (Again d))

  same : made_by tables (name_of (on old tables) t) k due ≡ settled b s (again_call b t core first call s)
  same =
      ap (λ (u : MutexTabled). made_by u (name_of (on old u) t) k due) tables_are
      ∙ ap (λ (n : List ℕ). made_by freed n k due) (row_names old.tables.threads t t (record row { retry = None }) refl)
      ∙ ap (λ (j : ℕ). made_by freed row.name j due) place_is
      ∙ ap (λ (d : Option ℕ). made_by freed row.name (row.next - 1) d) due_is
      ∙ ap (λ (e : Effect). record { effect = e; answer = (again_call b t core first call s).answer })
      (sym (call-settled b s (resumed s t) t (Line.Again row.name (row.next - 1)) (outcome_of b call (resumed s t) (ByThread t core) (Again first)) (alike-back (resumed s t) s (row-alike s t (record row { retry = None }) refl refl refl))))

  does : Does (record old { tables = tables }) new before after answered (2 + length tables.threads) (settled b s (again_call b t core first call s))
  does = does_by (sym same) made
