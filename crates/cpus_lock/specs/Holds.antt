-- What contracts see of a hold.
use Rattle.std.specs.Prelude.{List}
use Rattle.rt_base.specs.declared.codes.Event.{Event}
use Rattle.cpus_lock.specs.Passes.{LockPass}

-- its pass, the value, and the log that the value had at entering
pub record Hold (T : Type 0) : Type 0 where
  pub pass : LockPass
  pub value : T
  pub entered : List Event
