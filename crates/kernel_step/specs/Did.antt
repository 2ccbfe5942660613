-- What an event did, and what it answered.
use Rattle.std.specs.Prelude.{◌≡◌, ◌+◌, ◌≤◌, ◌&&◌, ◌==◌, if◌then◌else◌, ℕ, List, [], length, Option, Some, None}
use Rattle.rt_base.specs.declared.codes.Halt.{Halt}
use Rattle.rt_base.specs.declared.codes.Event.{Event}
use Rattle.rt_plain.specs.declared.line.Line.{Line}
use Rattle.rt_plain.specs.PlainBoard.{PlainBoard}
use Rattle.rt_plain.specs.kernel.State.{State}
use Rattle.rt_plain.specs.kernel.Sleeps.{Did as Happened, Made, Same as Nothing, Halted as Ended, rest_did}
use Rattle.rt_plain.specs.kernel.Steps.{happens, is_all_idle}
use Rattle.rt_plain.specs.runs.Runs.{Course}
use Rattle.kernel_step.specs.declared.did.Did.{Did}
use Rattle.kernel_step.specs.declared.did.Did.TheVariants.{Entry as Entered, Same as Stayed, Halted}

-- the answer is that of the definition, with the new state and the lines that an entry has
abbrev pub Gives : Happened → Did → State → State → List Line → Type 0
Gives happened Entered old new lines = happened ≡ Made new lines
Gives happened Stayed old new lines = (happened ≡ Nothing) × (new ≡ old) × (lines ≡ [])
Gives happened (Halted h) old new lines = (happened ≡ Ended h) × (new ≡ old) × (lines ≡ [])

-- the lines that an event makes, and 16 more, have room
abbrev pub FitsIn : Happened → ℕ → Type 0
FitsIn happened room = (new : State) (lines : List Line) → happened ≡ Made new lines → length lines + 16 ≤ room

-- what a core does that has no thread and takes none
abbrev pub idle_did : PlainBoard → State → ℕ → Happened
idle_did b s core = if (core == 0) && is_all_idle s then rest_did b s else Nothing

-- what the code calls what an event did
abbrev pub did_of : Happened → Did
did_of (Made s lines) = Entered
did_of Nothing = Stayed
did_of (Ended h) = Halted h

-- the same, where it may have halted before
abbrev pub did_in : Option Halt → Happened → Did
did_in None answer = did_of answer
did_in (Some h) answer = Halted h

-- what an event of a machine answers
abbrev pub did_by : PlainBoard → Course → Event → Did
did_by b c e = did_in c.halt (happens b c.state e)
