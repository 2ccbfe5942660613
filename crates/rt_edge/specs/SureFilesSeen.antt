-- What contracts see of files in memory that never fail.
use Rattle.std.specs.Prelude.{ℕ, List}
use Rattle.rt_edge.specs.Named.{Named}

pub record SureFilesSeen : Type 0 where
  pub files : List Named
  pub left : List ℕ
  pub missing : ℕ
  pub taken : ℕ
