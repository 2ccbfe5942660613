-- What contracts see of files in memory.
use Rattle.std.specs.Prelude.{ℕ, List}
use Rattle.rt_edge.specs.Named.{Named}

pub record MemFilesSeen : Type 0 where
  pub files : List Named
  pub left : List ℕ
  pub missing : ℕ
  pub faults : ℕ
  pub taken : ℕ
