-- What the tables of a graph keep.
use Rattle.std.specs.Prelude.{ℕ, ◌≡◌, List, length, map}
use Rattle.std.specs.List.{range_with_len}
use Rattle.rt_plain.specs.kernel.Ownership.{Ownership, cur_in}
use Rattle.susp_list.specs.Rows.{Waits}
use Rattle.mutex_chain.specs.Owners.{IsSound, AreOwned}
use Rattle.mutex_chain.specs.Lines.{lines_of}

-- the current priorities of all threads
unfoldable pub curs_of : Ownership → List ℕ
curs_of o = map (cur_in o) (range_with_len 0 (length o.members))

-- sound tables, in which awaited mutexes have owners, with the current priorities of all threads and the wait lists by them
pub record IsCurrent (o : Ownership) (numbers : List ℕ) (lists : List Waits) : Type 0 where
  pub sound : IsSound o
  pub owned : AreOwned o
  pub curs : numbers ≡ curs_of o
  pub places : length numbers ≡ length o.members
  pub lines : lists ≡ lines_of o numbers
