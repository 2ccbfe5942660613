-- Whether what a machine did last was a sleep.
use Rattle.std.specs.Prelude.{◌≡◌, Bool, false, List, [], ◌∷◌, ◌++◌}
use Rattle.rt_plain.specs.declared.entry.Entry.{Entry}
use Rattle.rt_plain.specs.runs.Schedules.{is_sleep}
use Rattle.kernel_step.specs.declared.did.Did.{Did}
use Rattle.kernel_step.specs.declared.did.Did.TheVariants.{Entry as Entered, Same as Stayed, Halted}

-- whether the last entry of a journal is a sleep
abbrev pub TellsSleep : List Entry → Bool → Type 0
TellsSleep journal slept = (before : List Entry) (e : Entry) → journal ≡ before ++ e ∷ [] → slept ≡ is_sleep e.lines

-- whether an event that answered so made a sleep
abbrev pub TellsSleepOf : Did → List Entry → Bool → Type 0
TellsSleepOf Entered journal slept = TellsSleep journal slept
TellsSleepOf Stayed journal slept = slept ≡ false
TellsSleepOf (Halted halt) journal slept = slept ≡ false
