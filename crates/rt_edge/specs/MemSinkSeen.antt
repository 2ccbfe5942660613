-- What contracts see of a sink in memory.
use Rattle.std.specs.Prelude.{ℕ, List}

pub record MemSinkSeen : Type 0 where
  pub bytes : List ℕ
  pub faults : ℕ
