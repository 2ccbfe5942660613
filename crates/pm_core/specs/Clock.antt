-- What a low-power clock is, as its holder sees it, and what its type keeps.
use Rattle.std.specs.Prelude.{ℕ, ◌≡◌, ◌+◌, ◌*◌, ◌/◌, ◌%◌, ◌<◌, ◌≤◌, List}
use Rattle.rt_plain.specs.kernel.LpClock.{ticks_ahead}
use Rattle.rt_plain.specs.kernel.Sleeps.{length_to}

-- the counts and the ticks of a second, and how many ticks have passed
pub record Clock : Type 0 where
  pub h : ℕ
  pub q : ℕ
  pub moment : ℕ

-- the ticks of a sleep that must not pass any of the moments, nor its longest length
abbrev pub sleep_ticks : Clock → List ℕ → ℕ → ℕ
sleep_ticks c moments longest = ticks_ahead c.h c.q c.moment (length_to moments longest c.moment)

-- the ticks that have passed are those of the counts made and of what is made of the next one
abbrev pub moment_of : ℕ → ℕ → ℕ → ℕ → ℕ
moment_of h q count rem = (count * q + rem) / h

-- what a clock keeps: a moment's counts, and what is left of the moment behind them
pub record IsRunning (h q count rem : ℕ) : Type 0 where
  pub some_counts : 1 ≤ h
  pub few_counts : h ≤ 1000000
  pub some_ticks : 1 ≤ q
  pub few_ticks : q ≤ 1000
  pub less_than_one : rem < q
  pub whole_ticks : (count * q + rem) % h ≡ 0
  pub early : moment_of h q count rem < 2199023255552
