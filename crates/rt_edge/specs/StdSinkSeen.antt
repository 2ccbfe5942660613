-- What contracts see of a stream.
use Rattle.std.specs.Prelude.{ℕ, List, Option}

pub record StdSinkSeen : Type 0 where
  pub holds : Option (List ℕ)
  pub faults : ℕ
