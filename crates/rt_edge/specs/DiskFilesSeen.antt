-- What contracts see of the files of a runtime.
use Rattle.std.specs.Prelude.{ℕ, List, Option}

pub record DiskFilesSeen : Type 0 where
  pub left : Option (List ℕ)
  pub missing : ℕ
  pub faults : ℕ
  pub taken : ℕ
