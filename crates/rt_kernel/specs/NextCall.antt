-- The next statement of a thread, where it is a call.
use Rattle.std.specs.Prelude.{ℕ, ◌+◌}
use Rattle.rt_plain.specs.declared.line.Line.{Line}
use Rattle.rt_plain.specs.declared.stmt.Call.{Call}
use Rattle.rt_plain.specs.PlainBoard.{PlainBoard}
use Rattle.rt_plain.specs.kernel.State.{State, thread_at}
use Rattle.rt_plain.specs.kernel.Effects.{name_of}
use Rattle.rt_plain.specs.kernel.Outcome.{Outcome, ByThread, First}
use Rattle.rt_plain.specs.kernel.Calls.{outcome_of, settled_effect}
use Rattle.rt_plain.specs.kernel.Statements.{with_next}
use Rattle.rt_kernel.specs.Does.{headed}

-- the state in which the next statement of a thread is done
abbrev pub begun : State → ℕ → State
begun s t = with_next s t ((thread_at s t).next + 1)

-- the call that a thread makes next, with its line
abbrev pub next_call : PlainBoard → ℕ → ℕ → Call → State → Outcome
next_call b t core call s = headed t (Line.Done (name_of (begun s t) t) (thread_at s t).next) (outcome_of b call (begun s t) (ByThread t core) First)

-- the same with what follows from it
abbrev pub settled_call : PlainBoard → ℕ → ℕ → Call → State → Outcome
settled_call b t core call s = let outcome = next_call b t core call s in record { effect = settled_effect b s outcome.effect; answer = outcome.answer }
