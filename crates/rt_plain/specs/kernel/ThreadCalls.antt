-- The calls on threads and on the two locks.
use Rattle.std.specs.Prelude.{ℕ, zero, suc, ◌+◌, ◌-◌, Bool, true, not, List, Option, Some, None, if◌then◌else◌, ◌==◌}
use Rattle.rt_base.specs.declared.codes.Code.{Code}
use Rattle.rt_plain.specs.declared.line.Line.{Line}
use Rattle.rt_plain.specs.declared.line.Woke.{Woke}
use Rattle.rt_plain.specs.declared.stmt.Call.{Call}
use Rattle.rt_plain.specs.kernel.State.{State, Stage, Waiting, Suspended, InCall, Nest, thread_at, with_thread, find_thread, is_initial, is_among}
use Rattle.rt_plain.specs.kernel.Effects.{Effect, line_effect, name_of, without_ready, without_core, active_state, wake_effect}
use Rattle.rt_plain.specs.kernel.Owners.{close_effect}
use Rattle.rt_plain.specs.kernel.Outcome.{By, Outcome, refusal, success, silent_success, wait_outcome, caller_may_not_wait, is_caller, found_outcome, thread_outcome}

-- delay: waits so many ticks
abbrev pub delay : ℕ → State → By → Outcome
delay ticks s by = thread_outcome s by (λ t core. wait_outcome s t core (InCall (Call.Delay ticks)) (Some (s.moment + ticks)))

-- yield: a whole slice again, and the mark
abbrev pub yield : State → By → Outcome
yield s by = thread_outcome s by (λ t core. let row = thread_at s t in silent_success (with_thread s t (record row { left = row.slice; marked = true })))

-- an initial thread becomes ready
abbrev pub start_effect : ℕ → State → Effect
start_effect t s = line_effect (active_state s t) (Line.Wake (name_of s t) Woke.Start)

-- startup: an initial thread of this name becomes ready
abbrev pub startup : List ℕ → State → Outcome
startup name s = found_outcome (find_thread s name) (refusal s Code.Inval) (λ t. if is_initial (thread_at s t).stage then success (start_effect t s) else refusal s Code.Error)

-- the thread leaves its core or the ready list and is suspended
abbrev pub suspended_state : State → ℕ → State
suspended_state s t = let row = thread_at s t in without_core (without_ready (with_thread s t (record row { stage = Suspended })) t) t

-- whether the caller may suspend the thread: itself where it may wait, another one where it is ready
abbrev pub may_suspend : State → By → ℕ → Bool
may_suspend s by t = if is_caller by t then not (caller_may_not_wait s by) else is_among s.ready t

-- suspend: a thread that may wait suspends itself, and anybody a ready thread
abbrev pub suspend : List ℕ → State → By → Outcome
suspend name s by = found_outcome (find_thread s name) (refusal s Code.Inval) (λ t. if may_suspend s by t then silent_success (suspended_state s t) else refusal s Code.Error)

-- a suspended thread becomes ready and keeps its code and any retry, and a waiting one leaves its wait with `-RT_EINTR`
abbrev pub resume_outcome : ℕ → Stage → State → Outcome
resume_outcome t Suspended s = success (line_effect (active_state s t) (Line.Wake (name_of s t) (Woke.Code Code.Ok)))
resume_outcome t (Waiting what number) s = success (wake_effect Code.Intr t s)
resume_outcome t _ s = refusal s Code.Error

-- resume: a suspended or waiting thread of this name becomes ready
abbrev pub resume : List ℕ → State → Outcome
resume name s = found_outcome (find_thread s name) (refusal s Code.Inval) (λ t. resume_outcome t (thread_at s t).stage s)

-- kill: the thread ends
abbrev pub kill : List ℕ → State → Outcome
kill name s = found_outcome (find_thread s name) (refusal s Code.Inval) (λ t. success (close_effect t s))

-- setprio: the thread has another base priority
abbrev pub set_prio : List ℕ → ℕ → State → Outcome
set_prio name prio s = found_outcome (find_thread s name) (refusal s Code.Inval) (λ t. let row = thread_at s t in silent_success (with_thread s t (record row { base = prio })))

-- the core holds the lock over all cores, one deeper than before and at most 255 deep
abbrev pub lock_outcome : ℕ → Option Nest → State → Outcome
lock_outcome core None s = silent_success (record s { nest = Some (record { core = core; depth = 1 }) })
lock_outcome core (Some n) s = if n.depth == 255 then refusal s Code.Full else silent_success (record s { nest = Some (record { core = n.core; depth = n.depth + 1 }) })

-- lock: by a thread, for its core
abbrev pub lock : State → By → Outcome
lock s by = thread_outcome s by (λ t core. lock_outcome core s.nest s)

-- the lock over all cores, held by a core at this depth, and free at 0
abbrev pub nest_at : ℕ → ℕ → Option Nest
nest_at core zero = None
nest_at core (suc depth) = Some (record { core = core; depth = suc depth })

-- the core that holds the lock over all cores holds it one less deep; no other core may unlock it
abbrev pub unlock_outcome : ℕ → Option Nest → State → Outcome
unlock_outcome core None s = refusal s Code.Error
unlock_outcome core (Some n) s = if n.core == core then silent_success (record s { nest = nest_at core (n.depth - 1) }) else refusal s Code.Error

-- unlock: by a thread, for its core
abbrev pub unlock : State → By → Outcome
unlock s by = thread_outcome s by (λ t core. unlock_outcome core s.nest s)

-- a thread has so many scheduler locks
abbrev pub with_locks : State → ℕ → ℕ → State
with_locks s t locks = let row = thread_at s t in with_thread s t (record row { locks = locks })

-- sched_lock: one scheduler lock more, up to 255
abbrev pub sched_lock : State → By → Outcome
sched_lock s by = thread_outcome s by (λ t core. let locks = (thread_at s t).locks in if locks == 255 then refusal s Code.Full else silent_success (with_locks s t (locks + 1)))

-- sched_unlock: one scheduler lock less
abbrev pub sched_unlock : State → By → Outcome
sched_unlock s by = thread_outcome s by (λ t core. let locks = (thread_at s t).locks in if locks == 0 then refusal s Code.Error else silent_success (with_locks s t (locks - 1)))
