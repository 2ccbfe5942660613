-- Each call keeps what holds of a state.
use Rattle.std.proofs.Common.{◌≡◌, ◌+◌, ◌-◌, ◌≤◌, ◌<◌, ℕ, zero, suc, List, Option, Some, None, Bool, true, false, not, ◌&&◌, eqb, nat_lt, refl, ap, subst, arith, ltb-true, leb-true, leb-false, eqb-true, if◌then◌else◌}
use Rattle.rt_base.specs.declared.codes.Code.{Code}
use Rattle.rt_plain.specs.declared.stmt.Call.{Call}
use Rattle.rt_plain.specs.kernel.State.{State, Stage, Initial, Active, Waiting, Suspended, Closed, Awaited, InCall, Nest, thread_at, find_thread, running_on, is_initial, is_closed, is_among, is_nest_of}
use Rattle.rt_plain.specs.kernel.Outcome.{By, ByThread, ByTimer, Attempt, First, Again, Outcome, refusal, with_value, with_text, may_not_wait, wait_outcome, first_wait_outcome, is_past, repeated_wait_outcome, wait_or_refusal, missing_outcome, found_outcome}
use Rattle.rt_plain.specs.kernel.ThreadCalls.{delay, yield, startup, suspend, may_suspend, resume, resume_outcome, kill, set_prio, lock, lock_outcome, nest_at, unlock, unlock_outcome, with_locks, sched_lock, sched_unlock}
use Rattle.rt_plain.specs.kernel.Sound.{is_active, is_waiting, is_span, is_timeout}
use Rattle.rt_plain.specs.kernel.Tally.{tally}
use Rattle.rt_plain.proofs.kernel.TallyLemmas.{tally-among}
use Rattle.rt_plain.specs.kernel.Kept.{Frame, Kept, parts, is_fine_awaited, IsNear, IsAhead, is_scriptless, IsNestRun}
use Rattle.rt_plain.proofs.kernel.Invariant.{IsOffNest, fine-at, thread-kept, running-active, placed-active, off-nest, off-core, active-kept, waiting-kept, suspended-kept}
use Rattle.rt_plain.proofs.kernel.WakeLemmas.{wake-kept, close-kept}
use Rattle.rt_plain.proofs.TestLemmas.{and-left, and-right, not-false, or-right, some-is}

-- what an outcome keeps
abbrev pub KeptOutcome : Frame → Outcome → Type 0
KeptOutcome f outcome = Kept f outcome.effect.state

-- who makes the call: a thread with a script, on its core
abbrev pub IsBy : Frame → State → By → Type 0
IsBy f s (ByThread t core) = (running_on s core ≡ Some t) × (is_scriptless f.board t ≡ false)
IsBy f s (ByTimer name) = Unit {0}

-- a call that is made again had its first due moment no further ahead than a row may be
abbrev pub IsAttempt : Frame → Attempt → Type 0
IsAttempt f First = Unit {0}
IsAttempt f (Again due) = IsNear f.now due

pub if-outcome : (f : Frame) (c : Bool) (x y : Outcome) → (c ≡ true → KeptOutcome f x) → (c ≡ false → KeptOutcome f y) → KeptOutcome f (if c then x else y)
if-outcome f true x y yes_case no_case = yes_case refl
if-outcome f false x y yes_case no_case = no_case refl

pub found-outcome : (f : Frame) {A : Type 0} (o : Option A) (missing : Outcome) (act : A → Outcome) → KeptOutcome f missing → ((x : A) → o ≡ Some x → KeptOutcome f (act x)) → KeptOutcome f (found_outcome o missing act)
found-outcome f None missing act none some = none
found-outcome f (Some x) missing act none some = some x refl

pub missing-kept : (f : Frame) (s : State) (attempt : Attempt) → Kept f s → KeptOutcome f (missing_outcome s attempt)
missing-kept f s First kept = kept
missing-kept f s (Again due) kept = kept

pub value-kept : (f : Frame) (s : State) (by : By) (value : ℕ) → Kept f s → Kept f (with_value s by value)
value-kept f s (ByThread t core) value kept = thread-kept f s t (record (thread_at s t) { value = value }) refl (fine-at f s t kept) kept
value-kept f s (ByTimer name) value kept = kept

pub text-kept : (f : Frame) (s : State) (by : By) (text : List ℕ) → Kept f s → Kept f (with_text s by text)
text-kept f s (ByThread t core) text kept = thread-kept f s t (record (thread_at s t) { text = text }) refl (fine-at f s t kept) kept
text-kept f s (ByTimer name) text kept = kept

-- a caller that may wait waits
pub wait-kept : (f : Frame) (s : State) (t core : ℕ) (what : Awaited) (due : Option ℕ) → running_on s core ≡ Some t → is_fine_awaited what ≡ true → IsAhead f.now due → Kept f s → KeptOutcome f (wait_outcome s t core what due)
wait-kept f s t core what due runs fine ahead kept =
    if-outcome f (may_not_wait s t core) (refusal s Code.Error) _ (λ is. kept) (λ is. waiting-kept f s t core what due runs (off-nest f s core t kept runs (or-right _ (is_nest_of core s.nest) is)) fine ahead kept)

-- so many ticks from now
span-ahead : (f : Frame) (s : State) (ticks : ℕ) → 1 ≤ ticks → is_span ticks ≡ true → Kept f s → IsAhead f.now (Some (s.moment + ticks))
span-ahead f s ticks some short kept d is = let same : s.moment + ticks ≡ d = some-is (s.moment + ticks) d is in (omega (arith, same, some, kept.moment_is), omega (arith, same, leb-true ticks 2147483647 short, kept.moment_is))

first_wait-kept : (f : Frame) (s : State) (t core : ℕ) (call : Call) (timeout : Option ℕ) (code : Code) → running_on s core ≡ Some t → is_fine_awaited (InCall call) ≡ true → is_timeout timeout ≡ true → Kept f s → KeptOutcome f (first_wait_outcome s t core call timeout code)
first_wait-kept f s t core call None code runs fine timed kept = wait-kept f s t core (InCall call) None runs fine (λ d is. absurd cc) kept
first_wait-kept f s t core call (Some zero) code runs fine timed kept = kept
first_wait-kept f s t core call (Some (suc n)) code runs fine timed kept = wait-kept f s t core (InCall call) (Some (s.moment + suc n)) runs fine (span-ahead f s (suc n) (omega arith) timed kept) kept

past-later : (moment : ℕ) (due : Option ℕ) (d : ℕ) → is_past moment due ≡ false → due ≡ Some d → moment < d
past-later moment None d is some = absurd cc
past-later moment (Some e) d is some = let same : e ≡ d = some-is e d some in omega (arith, leb-false e moment is, same)

repeated_wait-kept : (f : Frame) (s : State) (t core : ℕ) (call : Call) (due : Option ℕ) → running_on s core ≡ Some t → is_fine_awaited (InCall call) ≡ true → IsNear f.now due → Kept f s → KeptOutcome f (repeated_wait_outcome s t core call due)
repeated_wait-kept f s t core call due runs fine near kept =
    if-outcome f (is_past s.moment due) (refusal s Code.Timeout) _ (λ is. kept) (λ is. wait-kept f s t core (InCall call) due runs fine (λ d some. (omega (arith, past-later s.moment due d is some, kept.moment_is), near d some)) kept)

-- a call that can't be done now
pub wait_or-kept : (f : Frame) (s : State) (by : By) (attempt : Attempt) (call : Call) (timeout : Option ℕ) (code : Code) → IsBy f s by → IsAttempt f attempt → is_fine_awaited (InCall call) ≡ true → is_timeout timeout ≡ true → Kept f s → KeptOutcome f (wait_or_refusal s by attempt call timeout code)
wait_or-kept f s (ByThread t core) First call timeout code by tried fine timed kept = first_wait-kept f s t core call timeout code by.0 fine timed kept
wait_or-kept f s (ByThread t core) (Again due) call timeout code by tried fine timed kept = repeated_wait-kept f s t core call due by.0 fine tried kept
wait_or-kept f s (ByTimer name) attempt call timeout code by tried fine timed kept = kept

pub delay-kept : (f : Frame) (s : State) (by : By) (ticks : ℕ) → IsBy f s by → nat_lt 0 ticks && is_span ticks ≡ true → Kept f s → KeptOutcome f (delay ticks s by)
delay-kept f s (ByThread t core) ticks by timed kept = wait-kept f s t core (InCall (Call.Delay ticks)) (Some (s.moment + ticks)) by.0 timed (span-ahead f s ticks (ltb-true 0 ticks (and-left _ (is_span ticks) timed)) (and-right _ (is_span ticks) timed) kept) kept
delay-kept f s (ByTimer name) ticks by timed kept = kept

pub yield-kept : (f : Frame) (s : State) (by : By) → Kept f s → KeptOutcome f (yield s by)
yield-kept f s (ByThread t core) kept = thread-kept f s t _ refl (fine-at f s t kept) kept
yield-kept f s (ByTimer name) kept = kept

initial-idle : (stage : Stage) → is_initial stage ≡ true → (is_active stage ≡ false) × (is_closed stage ≡ false)
initial-idle Initial is = (refl, refl)
initial-idle _ is = absurd cc

pub startup-kept : (f : Frame) (s : State) (name : List ℕ) → Kept f s → KeptOutcome f (startup name s)
startup-kept f s name kept = found-outcome f (find_thread s name) (refusal s Code.Inval) _ kept (λ t is. if-outcome f (is_initial (thread_at s t).stage) _ (refusal s Code.Error)
    (λ initial. active-kept f s t (initial-idle (thread_at s t).stage initial).0 (initial-idle (thread_at s t).stage initial).1 kept) (λ started. kept))

ready-fits : (f : Frame) (s : State) (t : ℕ) → Kept f s → is_among s.ready t ≡ true → (is_active (thread_at s t).stage ≡ true) × IsOffNest (parts s) t
ready-fits f s t kept among = let some : 1 ≤ tally (λ u. eqb u t) s.ready = tally-among s.ready t among in (placed-active f s t kept (omega (arith, some)), λ n is runs. off-core f s t n.core kept some runs)

self-fits : (f : Frame) (s : State) (t core : ℕ) → Kept f s → running_on s core ≡ Some t → may_not_wait s t core ≡ false → (is_active (thread_at s t).stage ≡ true) × IsOffNest (parts s) t
self-fits f s t core kept runs may = (running-active f s core t kept runs, off-nest f s core t kept runs (or-right _ (is_nest_of core s.nest) may))

suspend-fits : (f : Frame) (s : State) (by : By) (t : ℕ) → IsBy f s by → may_suspend s by t ≡ true → Kept f s → (is_active (thread_at s t).stage ≡ true) × IsOffNest (parts s) t
suspend-fits f s (ByTimer name) t by may kept = ready-fits f s t kept may
suspend-fits f s (ByThread u core) t by may kept = by_caller (eqb u t) refl may where
  by_caller : (c : Bool) → eqb u t ≡ c → (if c then not (may_not_wait s u core) else is_among s.ready t) ≡ true → (is_active (thread_at s t).stage ≡ true) × IsOffNest (parts s) t
  by_caller true is may = subst (λ v. (is_active (thread_at s v).stage ≡ true) × IsOffNest (parts s) v) (eqb-true u t is) (self-fits f s u core kept by.0 (not-false (may_not_wait s u core) may))
  by_caller false is may = ready-fits f s t kept may

pub suspend-kept : (f : Frame) (s : State) (name : List ℕ) (by : By) → IsBy f s by → Kept f s → KeptOutcome f (suspend name s by)
suspend-kept f s name by is kept = found-outcome f (find_thread s name) (refusal s Code.Inval) _ kept (λ t found. if-outcome f (may_suspend s by t) _ (refusal s Code.Error)
    (λ may. let fits : (is_active (thread_at s t).stage ≡ true) × IsOffNest (parts s) t = suspend-fits f s by t is may kept in suspended-kept f s t fits.0 fits.1 kept) (λ may. kept))

resumed-kept : (f : Frame) (s : State) (t : ℕ) (stage : Stage) → (thread_at s t).stage ≡ stage → Kept f s → KeptOutcome f (resume_outcome t stage s)
resumed-kept f s t Suspended is kept = active-kept f s t (ap is_active is) (ap is_closed is) kept
resumed-kept f s t (Waiting what number) is kept = wake-kept f s Code.Intr t (ap is_waiting is) kept
resumed-kept f s t Initial is kept = kept
resumed-kept f s t Active is kept = kept
resumed-kept f s t Closed is kept = kept

pub resume-kept : (f : Frame) (s : State) (name : List ℕ) → Kept f s → KeptOutcome f (resume name s)
resume-kept f s name kept = found-outcome f (find_thread s name) (refusal s Code.Inval) _ kept (λ t found. resumed-kept f s t (thread_at s t).stage refl kept)

pub kill-kept : (f : Frame) (s : State) (name : List ℕ) → Kept f s → KeptOutcome f (kill name s)
kill-kept f s name kept = found-outcome f (find_thread s name) (refusal s Code.Inval) _ kept (λ t found. close-kept f s t kept)

pub set_prio-kept : (f : Frame) (s : State) (name : List ℕ) (prio : ℕ) → Kept f s → KeptOutcome f (set_prio name prio s)
set_prio-kept f s name prio kept = found-outcome f (find_thread s name) (refusal s Code.Inval) _ kept (λ t found. thread-kept f s t (record (thread_at s t) { base = prio }) refl (fine-at f s t kept) kept)

-- the lock over all cores is held otherwise
nest-kept : (f : Frame) (s : State) (nest : Option Nest) → IsNestRun f.board s.running nest → Kept f s → Kept f (record s { nest = nest })
nest-kept f s nest runs kept = record {
  moment_is = kept.moment_is;
  live = kept.live;
  ends = kept.ends;
  count = kept.count;
  cores = kept.cores;
  placed = kept.placed;
  rows = kept.rows;
  bounded = kept.bounded;
  due_few = kept.due_few;
  single = kept.single;
  owned = kept.owned;
  works_known = kept.works_known;
  fine = kept.fine;
  nest_runs = runs;
  timers_fine = kept.timers_fine;
}

-- the lock over all cores is held by this core
held-runs : (f : Frame) (s : State) (m : Nest) → (r : ℕ) × (running_on s m.core ≡ Some r) × (is_scriptless f.board r ≡ false) → IsNestRun f.board s.running (Some m)
held-runs f s m runs n is = subst (λ (x : Nest). (r : ℕ) × (running_on s x.core ≡ Some r) × (is_scriptless f.board r ≡ false)) (some-is m n is) runs

locked-kept : (f : Frame) (s : State) (t core : ℕ) (nest : Option Nest) → running_on s core ≡ Some t → is_scriptless f.board t ≡ false → s.nest ≡ nest → Kept f s → KeptOutcome f (lock_outcome core nest s)
locked-kept f s t core None runs other is kept = nest-kept f s (Some (record { core = core; depth = 1 })) (held-runs f s (record { core = core; depth = 1 }) (t, runs, other)) kept
locked-kept f s t core (Some n) runs other is kept = if-outcome f (eqb n.depth 255) (refusal s Code.Full) _ (λ full. kept) (λ room. nest-kept f s (Some (record { core = n.core; depth = n.depth + 1 })) (held-runs f s (record { core = n.core; depth = n.depth + 1 }) (kept.nest_runs n is)) kept)

pub lock-kept : (f : Frame) (s : State) (by : By) → IsBy f s by → Kept f s → KeptOutcome f (lock s by)
lock-kept f s (ByThread t core) by kept = locked-kept f s t core s.nest by.0 by.1 refl kept
lock-kept f s (ByTimer name) by kept = kept

nest_at-runs : (f : Frame) (s : State) (t core depth : ℕ) → running_on s core ≡ Some t → is_scriptless f.board t ≡ false → IsNestRun f.board s.running (nest_at core depth)
nest_at-runs f s t core zero runs other n is = absurd cc
nest_at-runs f s t core (suc depth) runs other n is = held-runs f s (record { core = core; depth = suc depth }) (t, runs, other) n is

unlocked-kept : (f : Frame) (s : State) (t core : ℕ) (nest : Option Nest) → running_on s core ≡ Some t → is_scriptless f.board t ≡ false → Kept f s → KeptOutcome f (unlock_outcome core nest s)
unlocked-kept f s t core None runs other kept = kept
unlocked-kept f s t core (Some n) runs other kept = if-outcome f (eqb n.core core) _ (refusal s Code.Error) (λ own. nest-kept f s (nest_at core (n.depth - 1)) (nest_at-runs f s t core (n.depth - 1) runs other) kept) (λ other_core. kept)

pub unlock-kept : (f : Frame) (s : State) (by : By) → IsBy f s by → Kept f s → KeptOutcome f (unlock s by)
unlock-kept f s (ByThread t core) by kept = unlocked-kept f s t core s.nest by.0 by.1 kept
unlock-kept f s (ByTimer name) by kept = kept

locks-kept : (f : Frame) (s : State) (t locks : ℕ) → Kept f s → Kept f (with_locks s t locks)
locks-kept f s t locks kept = thread-kept f s t (record (thread_at s t) { locks = locks }) refl (fine-at f s t kept) kept

pub sched_lock-kept : (f : Frame) (s : State) (by : By) → Kept f s → KeptOutcome f (sched_lock s by)
sched_lock-kept f s (ByThread t core) kept = if-outcome f (eqb (thread_at s t).locks 255) (refusal s Code.Full) _ (λ full. kept) (λ room. locks-kept f s t ((thread_at s t).locks + 1) kept)
sched_lock-kept f s (ByTimer name) kept = kept

pub sched_unlock-kept : (f : Frame) (s : State) (by : By) → Kept f s → KeptOutcome f (sched_unlock s by)
sched_unlock-kept f s (ByThread t core) kept = if-outcome f (eqb (thread_at s t).locks 0) (refusal s Code.Error) _ (λ none. kept) (λ some. locks-kept f s t ((thread_at s t).locks - 1) kept)
sched_unlock-kept f s (ByTimer name) kept = kept
