-- What a try to enter answers.
use Rattle.std.specs.Prelude.{◌≡◌, ◌≢◌, ◌<◌, ◌+◌, true, false}
use Rattle.rt_plain.specs.kernel.State.{is_nest_of_other}
use Rattle.rt_plain.specs.runs.Logs.{ContinuesPass}
use Rattle.cpus_lock.specs.Depths.{nest_of}
use Rattle.cpus_lock.specs.Passes.{LockPass, tried, AreOwnersBelow, IsNestBelow}
use Rattle.cpus_lock.specs.Holds.{Hold}
use Rattle.cpus_lock.specs.declared.nested.Nested.{Ghosts}
use Rattle.cpus_lock.specs.declared.enter.Enter.{Enter}
use Rattle.cpus_lock.specs.declared.enter.Enter.TheVariants.{Busy, Nested, Held}

module _ {T : Type 0} (meanings : Ghosts T) where
  -- the pass has tried once more and found 0. Its hold has a value with its root and a log that continues it, and no core from the lock's number of cores on
  pub record IsWonBy (pass : LockPass) (hold : Hold T) : Type 0 where
    pub pass_is : hold.pass ≡ tried pass 0
    pub entered_is : hold.entered ≡ meanings.log hold.value
    pub root_is : meanings.root hold.value ≡ pass.known.root
    pub log : ContinuesPass pass.known (meanings.log hold.value)
    pub owners : AreOwnersBelow pass.lock.cores (meanings.log hold.value)
    pub nest : IsNestBelow pass.lock.cores (meanings.nest hold.value)

  abbrev pub Answers : LockPass → Enter T → Type 0
  Answers pass (Busy after core) = (after ≡ tried pass (core + 1)) × (core < pass.lock.cores) × (core ≢ pass.known.core)
  Answers pass (Nested hold) = IsWonBy pass hold × (is_nest_of_other pass.known.core (nest_of (meanings.nest hold.value)) ≡ true)
  Answers pass (Held hold) = IsWonBy pass hold × (is_nest_of_other pass.known.core (nest_of (meanings.nest hold.value)) ≡ false)
