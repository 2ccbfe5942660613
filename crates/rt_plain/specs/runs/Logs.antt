-- The log of a machine under the lock over all cores, and what a log continues.
use Rattle.std.specs.Prelude.{◌≡◌, ◌≢◌, ℕ, List, [], ◌∷◌, ◌++◌, Option, Some, None}
use Rattle.std.specs.List.{All}
use Rattle.rt_base.specs.declared.codes.Event.{Event}
use Rattle.rt_base.specs.declared.codes.Halt.{Halt}
use Rattle.rt_plain.specs.declared.entry.Entry.{Entry}
use Rattle.rt_plain.specs.runs.Runs.{events_of}
use Rattle.rt_plain.specs.runs.Live.{owner}

-- the step that halted a machine otherwise than at the last tick
abbrev pub halting_step : Option Halt → List Event
halting_step None = []
halting_step (Some Halt.Until) = []
halting_step (Some Halt.Quiet) = Event.Step 0 ∷ []
halting_step (Some Halt.Standby) = Event.Step 0 ∷ []
halting_step (Some Halt.Shutdown) = Event.Step 0 ∷ []

-- the log of a machine: the events of its journal, and the step that halted it otherwise than at the last tick
abbrev pub log_of : List Entry → Option Halt → List Event
log_of journal halt = events_of journal ++ halting_step halt

-- what a contract sees of a pass besides its lock: its core, the root of the locked value, its tries, the word that the last one found, and the log that its last hold left
pub record PassView : Type 0 where
  pub core : ℕ
  pub root : List ℕ
  pub tries : ℕ
  pub found : ℕ
  pub log : List Event

-- a log begins with an older one, and no later event is of this core
pub record Continues (core : ℕ) (older log : List Event) : Type 0 where
  pub later : List Event
  pub log_is : log ≡ older ++ later
  pub of_others : All (λ event. owner event ≢ core) later

-- a log continues what a pass has
abbrev pub ContinuesPass : PassView → List Event → Type 0
ContinuesPass pass log = Continues pass.core pass.log log
