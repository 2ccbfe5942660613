-- What the works are for contracts: a list of timers by number.
use Rattle.std.specs.Prelude.{ℕ, ◌<◌, List}
use Rattle.rt_base.specs.Chains.{IsAmong, IsApart}

-- the works of timers below a number, the one to be done first at the front
pub record WorkList : Type 0 where
  pub timers : ℕ
  pub works : List ℕ

-- no timer stands twice, and each is below the number of timers
pub record IsSound (w : WorkList) : Type 0 where
  pub apart : IsApart w.works
  pub below : (x : ℕ) → IsAmong x w.works → x < w.timers
