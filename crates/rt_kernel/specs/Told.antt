-- What an action on mutexes tells.
use Rattle.std.specs.Prelude.{List}
use Rattle.rt_plain.specs.kernel.Ownership.{CurChange}
use Rattle.mutex_tables.specs.declared.passed.Passed.{Passed}

-- the current priorities that it changed, and the mutexes that passed
pub record PlainTold : Type 0 where
  pub changes : List CurChange
  pub passed : List Passed
