-- What a call does and answers, and how a call waits.
use Rattle.std.specs.Prelude.{ℕ, zero, suc, ◌+◌, Bool, true, false, ◌||◌, List, [], Option, Some, None, nat_lt, nat_le, if◌then◌else◌, ◌==◌}
use Rattle.rt_base.specs.declared.codes.Code.{Code}
use Rattle.rt_plain.specs.declared.stmt.Call.{Call}
use Rattle.rt_plain.specs.kernel.State.{State, Awaited, InCall, thread_at, with_thread, is_nest_of}
use Rattle.rt_plain.specs.kernel.Effects.{Effect, waiting_state}

-- who makes a call: a thread on a core, or a timer
pub data By : Type 0 where
  ByThread : ℕ → ℕ → By
  ByTimer : List ℕ → By

-- whether a call is made for the first time, or again after a wait that was due at a moment
pub data Attempt : Type 0 where
  First : Attempt
  Again : Option ℕ → Attempt

-- a code, or a wait
pub data Answer : Type 0 where
  Answers : Code → Answer
  Waits : Answer

-- what a call does, and what it answers
pub record Outcome : Type 0 where
  pub effect : Effect
  pub answer : Answer

-- nothing happens, and the answer is this code
abbrev pub refusal : State → Code → Outcome
refusal s code = record { effect = record { state = s; lines = [] }; answer = Answers code }

-- this happened, and the answer is 0
abbrev pub success : Effect → Outcome
success e = record { effect = e; answer = Answers Code.Ok }

-- the state is this one, no line is shown, and the answer is 0
abbrev pub silent_success : State → Outcome
silent_success s = success (record { state = s; lines = [] })

-- the calling thread gets a last value
abbrev pub with_value : State → By → ℕ → State
with_value s (ByThread t core) value = let row = thread_at s t in with_thread s t (record row { value = value })
with_value s (ByTimer name) value = s

-- the calling thread gets a last text
abbrev pub with_text : State → By → List ℕ → State
with_text s (ByThread t core) text = let row = thread_at s t in with_thread s t (record row { text = text })
with_text s (ByTimer name) text = s

-- whether a thread may not wait: it has a scheduler lock, or its core holds the lock over all cores
abbrev pub may_not_wait : State → ℕ → ℕ → Bool
may_not_wait s t core = nat_lt 0 (thread_at s t).locks || is_nest_of core s.nest

-- the thread waits, if it may
abbrev pub wait_outcome : State → ℕ → ℕ → Awaited → Option ℕ → Outcome
wait_outcome s t core what due = if may_not_wait s t core then refusal s Code.Error else record { effect = record { state = waiting_state s t what due; lines = [] }; answer = Waits }

-- a call that can't be done is refused where its timeout is 0, and else waits
abbrev pub first_wait_outcome : State → ℕ → ℕ → Call → Option ℕ → Code → Outcome
first_wait_outcome s t core call None code = wait_outcome s t core (InCall call) None
first_wait_outcome s t core call (Some zero) code = refusal s code
first_wait_outcome s t core call (Some (suc n)) code = wait_outcome s t core (InCall call) (Some (s.moment + suc n))

-- whether a due moment isn't later than the moment
abbrev pub is_past : ℕ → Option ℕ → Bool
is_past moment None = false
is_past moment (Some due) = nat_le due moment

-- a call that still can't be done times out, or waits with its first due moment
abbrev pub repeated_wait_outcome : State → ℕ → ℕ → Call → Option ℕ → Outcome
repeated_wait_outcome s t core call due = if is_past s.moment due then refusal s Code.Timeout else wait_outcome s t core (InCall call) due

-- a call that can't be done now
abbrev pub wait_or_refusal : State → By → Attempt → Call → Option ℕ → Code → Outcome
wait_or_refusal s (ByThread t core) First call timeout code = first_wait_outcome s t core call timeout code
wait_or_refusal s (ByThread t core) (Again due) call timeout code = repeated_wait_outcome s t core call due
wait_or_refusal s (ByTimer name) attempt call timeout code = refusal s code

-- the object of a call is not there
abbrev pub missing_outcome : State → Attempt → Outcome
missing_outcome s First = refusal s Code.Inval
missing_outcome s (Again due) = refusal s Code.Error

-- what is done with something that is there, and what is answered where it is missing
abbrev pub found_outcome : {A : Type 0} → Option A → Outcome → (A → Outcome) → Outcome
found_outcome None missing act = missing
found_outcome (Some x) missing act = act x

-- whether the caller is this thread
abbrev pub is_caller : By → ℕ → Bool
is_caller (ByThread u core) t = u == t
is_caller (ByTimer name) t = false

-- whether the caller may not wait; a timer never does
abbrev pub caller_may_not_wait : State → By → Bool
caller_may_not_wait s (ByThread t core) = may_not_wait s t core
caller_may_not_wait s (ByTimer name) = true

-- what only a thread does
abbrev pub thread_outcome : State → By → (ℕ → ℕ → Outcome) → Outcome
thread_outcome s (ByThread t core) act = act t core
thread_outcome s (ByTimer name) act = refusal s Code.Error
