-- What becomes of threads that get a block of a memory pool, or ask for one.
use Rattle.std.specs.Prelude.{ℕ, Bool, true, false}
use Rattle.rt_base.specs.declared.codes.Code.{Code}
use Rattle.rt_plain.specs.kernel.State.{State, thread_at, with_thread}
use Rattle.rt_kernel.specs.declared.answer.Answer.{Answer}

-- a thread with a last value
abbrev pub valued : State → ℕ → ℕ → State
valued s t place = with_thread s t (record (thread_at s t) { value = place })

-- what a timer is answered that asks for a block, by whether one is free
abbrev pub block_refusal : Bool → Answer
block_refusal true = Answer.Code Code.Error
block_refusal false = Answer.Code Code.Timeout
