-- The votes for sleep modes, and the mode of a board without votes.
use Rattle.std.specs.Prelude.{ℕ, List}
use Rattle.rt_base.specs.declared.codes.Sleep.{Sleep}
use Rattle.rt_plain.specs.kernel.PowerCalls.{votes_for, with_votes}

-- the mode where none has a vote, and the number of votes for each mode, from the lightest on
pub record PlainVotes : Type 0 where
  pub default_mode : Sleep
  pub votes : List ℕ

-- how many votes a mode has
abbrev pub count_of : PlainVotes → Sleep → ℕ
count_of v mode = votes_for v.votes mode

-- the votes where a mode has so many
abbrev pub with_count : PlainVotes → Sleep → ℕ → PlainVotes
with_count v mode count = record v { votes = with_votes mode count v.votes }
