-- A call that a woken thread makes again.
use Rattle.std.specs.Prelude.{◌≡◌, ℕ, ◌-◌, true, Option, Some, None}
use Rattle.rt_plain.specs.declared.line.Line.{Line}
use Rattle.rt_plain.specs.declared.stmt.Call.{Call}
use Rattle.rt_plain.specs.PlainBoard.{PlainBoard}
use Rattle.rt_plain.specs.kernel.State.{State, Retry, InCall, thread_at, with_thread}
use Rattle.rt_plain.specs.kernel.Kept.{IsNear}
use Rattle.rt_plain.specs.kernel.Outcome.{Outcome, ByThread, Again}
use Rattle.rt_plain.specs.kernel.Calls.{outcome_of}
use Rattle.rt_base.specs.Roomy.{Roomy}
use Rattle.kernel_tables.specs.Repeated.{is_repeated_call}
use Rattle.kernel_tables.specs.Threads.{row_at}
use Rattle.rt_kernel.specs.declared.answer.Answer.{Answer}
use Rattle.rt_kernel.specs.declared.caller.Attempt.{Attempt}
use Rattle.rt_kernel.specs.declared.state.State.{State as KernelState}
use Rattle.rt_kernel.specs.Does.{Does, headed}
use Rattle.rt_kernel.specs.Settles.{settled}
use Rattle.rt_kernel.specs.View.{state_of}

-- the first wait of a call that is made again is due no further ahead than a row may be
abbrev pub IsNearAttempt : ℕ → Attempt → Type 0
IsNearAttempt moment Attempt.First = Unit {0}
IsNearAttempt moment (Attempt.Again due) = IsNear moment due

-- the state in which a thread makes its call again: it has none to make again any more
abbrev pub resumed : State → ℕ → State
resumed s t = let row = thread_at s t in with_thread s t (record row { retry = None })

-- the call that a thread makes again, with its line
abbrev pub again_call : PlainBoard → ℕ → ℕ → Option ℕ → Call → State → Outcome
again_call b t core due call s = let row = thread_at s t in headed t (Line.Again row.name (row.next - 1)) (outcome_of b call (resumed s t) (ByThread t core) (Again due))

-- a thread makes the call that it has to make again
pub record MakesAgain (b : PlainBoard) (t core : ℕ) (old new : KernelState) (before after : Roomy Line) (answered : Answer) (most : ℕ) : Type 0 where
  pub retry : Retry
  pub call : Call
  pub is : (row_at old.tables.threads t).retry ≡ Some retry
  pub what : retry.what ≡ InCall call
  pub repeated : is_repeated_call call ≡ true
  pub does : Does old new before after answered most (settled b (state_of old) (again_call b t core retry.due call (state_of old)))
