-- What a semaphore is for contracts: its value and its waiters.
use Rattle.std.specs.Prelude.{ℕ}
use Rattle.susp_list.specs.Rows.{Waits}

pub record Counted : Type 0 where
  pub value : ℕ
  pub waiters : Waits
