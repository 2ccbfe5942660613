-- Actions that change no owner, ceiling, base priority or awaited mutex settle to themselves. They keep all names.
use Rattle.std.proofs.Common.{◌≡◌, ℕ, ◌+◌, ◌-◌, List, [], ◌∷◌, Option, Some, None, Bool, true, false, refl, sym, ap, ◌∙◌, T, eqb→eq, subst, slice_set, slice_index_or, length, not, is_some}
use Rattle.std.specs.Prelude.{if◌then◌else◌, ◌==◌}
use Rattle.std.specs.List.{AllByRecursion}
use Rattle.rt_base.specs.declared.codes.Code.{Code}
use Rattle.rt_base.specs.declared.codes.WaitOrder.{WaitOrder}
use Rattle.rt_plain.specs.declared.line.Line.{Line}
use Rattle.rt_plain.specs.declared.stmt.Call.{Call}
use Rattle.rt_plain.specs.declared.stmt.Stmt.{Stmt}
use Rattle.rt_plain.specs.PlainBoard.{PlainBoard}
use Rattle.rt_plain.specs.kernel.State.{State, Thread, Stage, Initial, Active, Waiting, Suspended, Closed, Awaited, InCall, Alarm, OfThread, Nest, no_thread, thread_at, with_thread, find_thread, is_among, is_initial}
use Rattle.rt_plain.specs.kernel.Effects.{Effect, line_effect, active_state, wake_effect, waiting_state, with_alarm, without_core}
use Rattle.rt_plain.specs.kernel.Owners.{close_effect, withdrawn_state}
use Rattle.rt_plain.specs.kernel.Outcome.{By, ByThread, ByTimer, Answer, Answers, Waits, Outcome, refusal, found_outcome, wait_outcome, may_not_wait, silent_success, success}
use Rattle.rt_plain.specs.kernel.Priority.{awaited_mutex, mutex_of_call}
use Rattle.rt_plain.specs.kernel.Sound.{is_active}
use Rattle.rt_plain.specs.kernel.ThreadCalls.{delay, yield, startup, start_effect, suspend, suspended_state, may_suspend, resume, resume_outcome, kill, sched_lock, sched_unlock, lock, lock_outcome, unlock, unlock_outcome}
use Rattle.rt_plain.specs.kernel.Statements.{with_answer, with_next, plain_effect, print_effect, target, with_counter, said_text}
use Rattle.rt_plain.specs.kernel.Calls.{settled_effect}
use Rattle.rt_plain.specs.kernel.Due.{timeout_effect, timeout_code}
use Rattle.rt_plain.specs.kernel.Waiting.{first_waiter, head_of, number_in, waiters}
use Rattle.rt_plain.proofs.kernel.TallyLemmas.{all-weaker, length-set_at, same-set}
use Rattle.rt_plain.proofs.kernel.WakeLemmas.{waiters-listed, IsListed}
use Rattle.rt_kernel.specs.Mutexes.{HasNoMutex, NobodyWaits}
use Rattle.rt_kernel.specs.Settles.{settled}
use Rattle.rt_kernel.proofs.CurLemmas.{KeepsGraph, graph-self, graph-then}
use Rattle.rt_kernel.proofs.Settled.{settled-kept}
use Rattle.rt_kernel.proofs.StageLemmas.{active_apart, initial_apart}

-- no thread has another name
abbrev pub KeepsNames : State → State → Type 0
KeepsNames before after = (u : ℕ) → (thread_at after u).name ≡ (thread_at before u).name

-- nothing changed that current priorities depend on, no vote, and no name
pub record IsQuiet (before after : State) : Type 0 where
  pub graph : KeepsGraph before after
  pub votes : before.votes ≡ after.votes
  pub names : KeepsNames before after

-- a thread that awaits no mutex
abbrev pub IsApart : State → ℕ → Type 0
IsApart s t = awaited_mutex (thread_at s t).stage ≡ None

-- who makes a call is active
abbrev pub IsActiveCaller : State → By → Type 0
IsActiveCaller s (ByThread t core) = is_active (thread_at s t).stage ≡ true
IsActiveCaller s (ByTimer name) = Unit {0}

-- and so are those that are ready
pub record IsLively (s : State) (by : By) : Type 0 where
  pub caller : IsActiveCaller s by
  pub ready : (u : ℕ) → is_among s.ready u ≡ true → is_active (thread_at s u).stage ≡ true

-- a write of a row that keeps its name
pub name-set : (rows : List Thread) (t u : ℕ) (row : Thread) → row.name ≡ (slice_index_or rows t no_thread).name → (slice_index_or (slice_set rows t row) u no_thread).name ≡ (slice_index_or rows u no_thread).name
name-set rows t u row same = same-set (λ (r : Thread). r.name) rows t u row no_thread same

pub quiet-self : (s : State) → IsQuiet s s
quiet-self s = record { graph = graph-self s; votes = refl; names = λ u. refl }

pub quiet-then : (a b c : State) → IsQuiet a b → IsQuiet b c → IsQuiet a c
quiet-then a b c one two = record { graph = graph-then a b c one.graph two.graph; votes = one.votes ∙ two.votes; names = λ u. two.names u ∙ one.names u }

-- other parts alone
pub quiet-else : (s u : State) → u.threads ≡ s.threads → u.holdings ≡ s.holdings → u.mutexes ≡ s.mutexes → u.votes ≡ s.votes → IsQuiet s u
quiet-else s u threads holdings mutexes votes = record {
  graph = record { holdings = sym holdings; mutexes = sym mutexes; size = sym (ap length threads); bases = λ v. sym (ap (λ (rows : List Thread). (slice_index_or rows v no_thread).base) threads); waits = λ v. sym (ap (λ (rows : List Thread). awaited_mutex (slice_index_or rows v no_thread).stage) threads) };
  votes = sym votes;
  names = λ v. ap (λ (rows : List Thread). (slice_index_or rows v no_thread).name) threads;
}

-- another row that awaits the same mutex, if any
pub quiet-stage : (s : State) (t : ℕ) (row : Thread) → row.base ≡ (thread_at s t).base → awaited_mutex row.stage ≡ awaited_mutex (thread_at s t).stage → row.name ≡ (thread_at s t).name → IsQuiet s (with_thread s t row)
quiet-stage s t row base waits named = record {
  graph = record { holdings = refl; mutexes = refl; size = sym (length-set_at s.threads t row); bases = λ u. sym (same-set (λ (r : Thread). r.base) s.threads t u row no_thread base); waits = λ u. sym (same-set (λ (r : Thread). awaited_mutex r.stage) s.threads t u row no_thread waits) };
  votes = refl;
  names = λ u. name-set s.threads t u row named;
}

pub quiet-row : (s : State) (t : ℕ) (row : Thread) → row.base ≡ (thread_at s t).base → row.stage ≡ (thread_at s t).stage → row.name ≡ (thread_at s t).name → IsQuiet s (with_thread s t row)
quiet-row s t row base stage named = quiet-stage s t row base (ap awaited_mutex stage) named

-- where there is no mutex, there is none after it
pub quiet-free : (s u : State) → HasNoMutex s → IsQuiet s u → HasNoMutex u
quiet-free s u free quiet = (sym quiet.graph.holdings ∙ free.0, sym quiet.graph.mutexes ∙ free.1)

-- who awaits no mutex still awaits none
pub apart-kept : (s u : State) (t : ℕ) → IsQuiet s u → IsApart s t → IsApart u t
apart-kept s u t quiet apart = sym (quiet.graph.waits t) ∙ apart

pub quiet-active : (s : State) (t : ℕ) → IsApart s t → IsQuiet s (active_state s t)
quiet-active s t apart =
    let row : Thread = record (thread_at s t) { stage = Active } in
    quiet-then s (with_thread s t row) (active_state s t) (quiet-stage s t row refl (sym apart) refl) (quiet-else (with_thread s t row) (active_state s t) refl refl refl refl)

pub quiet-wake : (s : State) (code : Code) (t : ℕ) → IsApart s t → IsQuiet s (wake_effect code t s).state
quiet-wake s code t apart =
    let coded : State = with_thread s t (record (thread_at s t) { code = code }) in
    let one : IsQuiet s coded = quiet-row s t (record (thread_at s t) { code = code }) refl refl refl in
    quiet-then s coded (active_state coded t) one (quiet-active coded t (apart-kept s coded t one apart))

pub quiet-alarm : (s : State) (alarm : Alarm) (due : Option ℕ) → IsQuiet s (with_alarm s alarm due)
quiet-alarm s alarm None = quiet-self s
quiet-alarm s alarm (Some due) = quiet-else s (with_alarm s alarm (Some due)) refl refl refl refl

-- the thread waits for what is no mutex
pub quiet-waiting : (s : State) (t : ℕ) (what : Awaited) (due : Option ℕ) → IsApart s t → awaited_mutex (Waiting what s.numbers) ≡ None → IsQuiet s (waiting_state s t what due)
quiet-waiting s t what due apart other =
    let row : Thread = record (thread_at s t) { stage = Waiting what s.numbers } in
    let joined : State = record (with_thread (without_core s t) t row) { numbers = s.numbers + 1 } in
    quiet-then s (with_thread s t row) (waiting_state s t what due) (quiet-stage s t row refl (other ∙ sym apart) refl) (quiet-then (with_thread s t row) joined (waiting_state s t what due) (quiet-else (with_thread s t row) joined refl refl refl refl) (quiet-alarm joined (OfThread t) due))

pub quiet-suspended : (s : State) (t : ℕ) → IsApart s t → IsQuiet s (suspended_state s t)
quiet-suspended s t apart =
    let row : Thread = record (thread_at s t) { stage = Suspended } in
    quiet-then s (with_thread s t row) (suspended_state s t) (quiet-stage s t row refl (sym apart) refl) (quiet-else (with_thread s t row) (suspended_state s t) refl refl refl refl)

-- a thread that ends, where there is no mutex
pub quiet-closed : (s : State) (t : ℕ) → HasNoMutex s → NobodyWaits s → (close_effect t s ≡ line_effect (withdrawn_state s t) (Line.Close (thread_at s t).name)) × IsQuiet s (close_effect t s).state
quiet-closed s t free nobody = (shown, subst (λ (e : Effect). IsQuiet s e.state) (sym shown) quiet) where
  row : Thread
  row = record (thread_at s t) { stage = Closed; retry = None }

  shown : close_effect t s ≡ line_effect (withdrawn_state s t) (Line.Close (thread_at s t).name)
  shown = rw (free.0) refl

  quiet : IsQuiet s (withdrawn_state s t)
  quiet = quiet-then s (with_thread s t row) (withdrawn_state s t) (quiet-stage s t row refl (sym (nobody t)) refl) (quiet-else (with_thread s t row) (withdrawn_state s t) refl refl refl refl)

pub quiet-answer : (s : State) (t : ℕ) (answer : Answer) → IsQuiet s (with_answer t answer s)
quiet-answer s t (Answers code) = quiet-row s t (record (thread_at s t) { code = code }) refl refl refl
quiet-answer s t Waits = quiet-self s

-- calls that wait for no mutex
abbrev pub ForNoMutex : (Call → Bool) → Type 0
ForNoMutex in_list = (call : Call) → in_list call ≡ true → mutex_of_call call ≡ None

listed-apart : (in_list : Call → Bool) → ForNoMutex in_list → (stage : Stage) → is_some (number_in in_list stage) ≡ true → awaited_mutex stage ≡ None
listed-apart in_list other (Waiting (InCall call) number) listed = by_test (in_list call) refl listed where
  by_test : (c : Bool) → in_list call ≡ c → is_some (if c then Some number else None) ≡ true → mutex_of_call call ≡ None
  by_test true is listed = other call is
  by_test false is listed = absurd cc
listed-apart in_list other _ listed = absurd cc

-- who waits in such calls awaits no mutex
pub waiters-apart : (s : State) (order : WaitOrder) (in_list : Call → Bool) → ForNoMutex in_list → AllByRecursion (IsApart s) (waiters s order in_list)
waiters-apart s order in_list other = all-weaker (IsListed in_list s.threads) (IsApart s) (waiters s order in_list) (λ t listed. listed-apart in_list other (thread_at s t).stage listed) (waiters-listed s order in_list)

some-is : (t u : ℕ) → Some t ≡ Some u → t ≡ u
some-is t u e = cc

head-all : (P : ℕ → Type 0) (ts : List ℕ) (t : ℕ) → head_of ts ≡ Some t → AllByRecursion P ts → P t
head-all P [] t is all = absurd cc
head-all P (u ∷ us) t is all = subst P (some-is u t is) all.0

pub first-apart : (s : State) (order : WaitOrder) (in_list : Call → Bool) (t : ℕ) → ForNoMutex in_list → first_waiter s order in_list ≡ Some t → IsApart s t
first-apart s order in_list t other is = head-all (IsApart s) (waiters s order in_list) t is (waiters-apart s order in_list other)

-- the outcome of a call that is quiet
abbrev pub IsQuietCall : State → Outcome → Type 0
IsQuietCall s outcome = IsQuiet s outcome.effect.state

-- it settles to itself
pub call-quiet : (b : PlainBoard) (s : State) (outcome : Outcome) → IsQuietCall s outcome → settled b s outcome ≡ outcome
call-quiet b s outcome quiet = ap (λ (e : Effect). record { effect = e; answer = outcome.answer }) (settled-kept b s outcome.effect quiet.graph quiet.votes)

pub quiet-found : {A : Type 0} (s : State) (o : Option A) (missing : Outcome) (act : A → Outcome) → IsQuietCall s missing → ((x : A) → IsQuietCall s (act x)) → IsQuietCall s (found_outcome o missing act)
quiet-found s None missing act gone there = gone
quiet-found s (Some x) missing act gone there = there x

pub quiet-if : (s : State) (c : Bool) (one other : Outcome) → IsQuietCall s one → IsQuietCall s other → IsQuietCall s (if c then one else other)
quiet-if s true one other first second = first
quiet-if s false one other first second = second

-- the same where the test matters
pub quiet-when : (s : State) (c : Bool) (one other : Outcome) → (c ≡ true → IsQuietCall s one) → IsQuietCall s other → IsQuietCall s (if c then one else other)
quiet-when s true one other first second = first refl
quiet-when s false one other first second = second

pub quiet-wait : (s : State) (t core : ℕ) (what : Awaited) (due : Option ℕ) → IsApart s t → awaited_mutex (Waiting what s.numbers) ≡ None → IsQuietCall s (wait_outcome s t core what due)
quiet-wait s t core what due apart other = quiet-if s (may_not_wait s t core) (refusal s Code.Error) (record { effect = record { state = waiting_state s t what due; lines = [] }; answer = Waits }) (quiet-self s) (quiet-waiting s t what due apart other)

pub quiet-delay : (s : State) (ticks : ℕ) (by : By) → IsLively s by → IsQuietCall s (delay ticks s by)
quiet-delay s ticks (ByThread t core) on = quiet-wait s t core (InCall (Call.Delay ticks)) (Some (s.moment + ticks)) (active_apart (thread_at s t).stage on.caller) refl
quiet-delay s ticks (ByTimer name) on = quiet-self s

pub quiet-yield : (s : State) (by : By) → IsQuietCall s (yield s by)
quiet-yield s (ByThread t core) = quiet-row s t (record (thread_at s t) { left = (thread_at s t).slice; marked = true }) refl refl refl
quiet-yield s (ByTimer name) = quiet-self s

pub quiet-startup : (s : State) (name : List ℕ) → IsQuietCall s (startup name s)
quiet-startup s name = quiet-found s (find_thread s name) (refusal s Code.Inval) _ (quiet-self s) (λ t. quiet-when s (is_initial (thread_at s t).stage) (success (start_effect t s)) (refusal s Code.Error) (λ is. quiet-active s t (initial_apart (thread_at s t).stage is)) (quiet-self s))

pub quiet-suspend : (s : State) (name : List ℕ) (by : By) → IsLively s by → IsQuietCall s (suspend name s by)
quiet-suspend s name by on = quiet-found s (find_thread s name) (refusal s Code.Inval) _ (quiet-self s) (λ t. quiet-when s (may_suspend s by t) (silent_success (suspended_state s t)) (refusal s Code.Error) (λ may. quiet-suspended s t (active_apart (thread_at s t).stage (active t by on may))) (quiet-self s)) where
  active : (t : ℕ) (who : By) → IsLively s who → may_suspend s who t ≡ true → is_active (thread_at s t).stage ≡ true
  active t (ByTimer timer) on may = on.ready t may
  active t (ByThread u core) on may = by_test (u == t) refl may where
    by_test : (c : Bool) → (u == t) ≡ c → (if c then not (may_not_wait s u core) else is_among s.ready t) ≡ true → is_active (thread_at s t).stage ≡ true
    by_test true is may = subst (λ v. is_active (thread_at s v).stage ≡ true) (eqb→eq u t (subst T (sym is) tt)) on.caller
    by_test false is may = on.ready t may

pub quiet-resume : (s : State) (name : List ℕ) → NobodyWaits s → IsQuietCall s (resume name s)
quiet-resume s name nobody = quiet-found s (find_thread s name) (refusal s Code.Inval) _ (quiet-self s) (λ t. by_stage t (thread_at s t).stage) where
  by_stage : (t : ℕ) (stage : Stage) → IsQuietCall s (resume_outcome t stage s)
  by_stage t Suspended = quiet-active s t (nobody t)
  by_stage t (Waiting what number) = quiet-wake s Code.Intr t (nobody t)
  by_stage t Initial = quiet-self s
  by_stage t Active = quiet-self s
  by_stage t Closed = quiet-self s

pub quiet-kill : (s : State) (name : List ℕ) → HasNoMutex s → NobodyWaits s → IsQuietCall s (kill name s)
quiet-kill s name free nobody = quiet-found s (find_thread s name) (refusal s Code.Inval) _ (quiet-self s) (λ t. (quiet-closed s t free nobody).1)

pub quiet-sched_lock : (s : State) (by : By) → IsQuietCall s (sched_lock s by)
quiet-sched_lock s (ByThread t core) = quiet-if s _ (refusal s Code.Full) _ (quiet-self s) (quiet-row s t (record (thread_at s t) { locks = (thread_at s t).locks + 1 }) refl refl refl)
quiet-sched_lock s (ByTimer name) = quiet-self s

pub quiet-sched_unlock : (s : State) (by : By) → IsQuietCall s (sched_unlock s by)
quiet-sched_unlock s (ByThread t core) = quiet-if s _ (refusal s Code.Error) _ (quiet-self s) (quiet-row s t (record (thread_at s t) { locks = (thread_at s t).locks - 1 }) refl refl refl)
quiet-sched_unlock s (ByTimer name) = quiet-self s

-- another holder of the lock over all cores
quiet-nest : (s : State) (nest : Option Nest) → IsQuiet s (record s { nest = nest })
quiet-nest s nest = quiet-else s (record s { nest = nest }) refl refl refl refl

pub quiet-lock : (s : State) (by : By) → IsQuietCall s (lock s by)
quiet-lock s (ByTimer name) = quiet-self s
quiet-lock s (ByThread t core) = by_nest s.nest where
  by_nest : (nest : Option Nest) → IsQuietCall s (lock_outcome core nest s)
  by_nest None = quiet-nest s _
  by_nest (Some n) = quiet-if s _ (refusal s Code.Full) _ (quiet-self s) (quiet-nest s _)

pub quiet-unlock : (s : State) (by : By) → IsQuietCall s (unlock s by)
quiet-unlock s (ByTimer name) = quiet-self s
quiet-unlock s (ByThread t core) = by_nest s.nest where
  by_nest : (nest : Option Nest) → IsQuietCall s (unlock_outcome core nest s)
  by_nest None = quiet-self s
  by_nest (Some n) = quiet-if s _ _ (refusal s Code.Error) (quiet-nest s _) (quiet-self s)

-- what a statement that is no call does
pub quiet-plain : (script : List Stmt) (s : State) (t : ℕ) (stmt : Stmt) → HasNoMutex s → NobodyWaits s → IsQuiet s (plain_effect script t stmt s).state
quiet-plain script s t (Stmt.Print text) free nobody = by_text text where
  by_text : (text : List ℕ) → IsQuiet s (print_effect text s).state
  by_text [] = quiet-self s
  by_text (byte ∷ bytes) = quiet-self s
quiet-plain script s t (Stmt.Say what) free nobody = by_text (said_text what (thread_at s t)) where
  by_text : (text : List ℕ) → IsQuiet s (print_effect text s).state
  by_text [] = quiet-self s
  by_text (byte ∷ bytes) = quiet-self s
quiet-plain script s t (Stmt.Goto k) free nobody = quiet-row s t (record (thread_at s t) { next = target script k }) refl refl refl
quiet-plain script s t (Stmt.IfCode code k) free nobody = by_test _ where
  by_test : (c : Bool) → IsQuiet s (if c then with_next s t (target script k) else s)
  by_test true = quiet-row s t (record (thread_at s t) { next = target script k }) refl refl refl
  by_test false = quiet-self s
quiet-plain script s t (Stmt.Count n) free nobody = quiet-row s t (with_counter (thread_at s t) n) refl refl refl
quiet-plain script s t (Stmt.Next k) free nobody = by_test _ where
  lowered : State
  lowered = with_thread s t (with_counter (thread_at s t) ((thread_at s t).counter - 1))

  low : IsQuiet s lowered
  low = quiet-row s t (with_counter (thread_at s t) ((thread_at s t).counter - 1)) refl refl refl

  by_test : (c : Bool) → IsQuiet s (if c then lowered else with_next lowered t (target script k))
  by_test true = low
  by_test false = quiet-then s lowered _ low (quiet-row lowered t (record (thread_at lowered t) { next = target script k }) refl refl refl)
quiet-plain script s t Stmt.Exit free nobody = (quiet-closed s t free nobody).1
quiet-plain script s t (Stmt.Do call) free nobody = quiet-self s

-- a wait that ends at its due tick
pub quiet-timeout : (s : State) (t : ℕ) → NobodyWaits s → IsQuiet s (timeout_effect t s).state
quiet-timeout s t nobody = quiet-wake s (timeout_code (thread_at s t).stage) t (nobody t)

pub close_settles : (b : PlainBoard) (s : State) (t : ℕ) → HasNoMutex s → NobodyWaits s → settled_effect b s (close_effect t s) ≡ close_effect t s
close_settles b s t free nobody = let quiet : IsQuiet s (close_effect t s).state = (quiet-closed s t free nobody).1 in settled-kept b s (close_effect t s) quiet.graph quiet.votes
