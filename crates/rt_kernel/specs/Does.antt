-- What a call does to the kernel's state and to the lines.
use Rattle.std.specs.Prelude.{ℕ, ◌≡◌, ◌+◌, ◌≤◌, ◌++◌, Option, length}
use Rattle.rt_base.specs.declared.codes.Code.{Code}
use Rattle.rt_base.specs.Roomy.{Roomy}
use Rattle.rt_plain.specs.declared.line.Line.{Line}
use Rattle.rt_plain.specs.kernel.Effects.{Effect}
use Rattle.rt_plain.specs.kernel.Outcome.{Outcome, success}
use Rattle.rt_plain.specs.kernel.Statements.{call_effect}
use Rattle.rt_kernel.specs.declared.answer.Answer.{Answer}
use Rattle.rt_kernel.specs.declared.state.State.{State as KernelState}
use Rattle.rt_kernel.specs.Answer.{plain_answer}
use Rattle.rt_kernel.specs.Limits.{limits_of}
use Rattle.rt_kernel.specs.View.{state_of}

-- the outcome, with at most so many lines and 2 numbers. There are as many threads as before, and as much room
pub record Does (old new : KernelState) (before after : Roomy Line) (answered : Answer) (most : ℕ) (outcome : Outcome) : Type 0 where
  pub state : state_of new ≡ outcome.effect.state
  pub lines : after.items ≡ before.items ++ outcome.effect.lines
  pub answer : plain_answer answered ≡ outcome.answer
  pub limits : limits_of new.tables ≡ limits_of old.tables
  pub threads : length new.tables.threads ≡ length old.tables.threads
  pub numbers : new.numbers ≤ old.numbers + 2
  pub few : length after.items ≤ length before.items + most
  pub out_room : after.room ≡ before.room

-- the same of an effect that has no answer
abbrev pub Acts : KernelState → KernelState → Roomy Line → Roomy Line → ℕ → Effect → Type 0
Acts old new before after most effect = Does old new before after (Answer.Code Code.Ok) most (success effect)

-- a call of a thread with its line in front, and its answer as the last code of the thread
abbrev pub headed : ℕ → (Option Code → Line) → Outcome → Outcome
headed t line outcome = record { effect = call_effect t line outcome; answer = outcome.answer }
