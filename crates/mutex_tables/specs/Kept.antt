-- What the tables keep: each thread that hasn't ended stands in its lists by its current priority.
use Rattle.std.specs.Prelude.{ℕ, ◌≡◌, ◌<◌, false, List, length, slice_index}
use Rattle.rt_plain.specs.kernel.State.{is_closed}
use Rattle.rt_plain.specs.kernel.Ownership.{Ownership, cur_in}
use Rattle.object_box.specs.Objects.{ClassObjects}
use Rattle.kernel_tables.specs.Tabled.{Tabled}
use Rattle.kernel_tables.specs.Threads.{row_at}
use Rattle.mutex_tie.specs.Tie.{IsGraphOf}
use Rattle.mutex_tables.specs.MutexTabled.{based}

-- the lists go by the current priorities of the graph
abbrev pub AreCurrent : Tabled → Ownership → Type 0
AreCurrent k o = (t : ℕ) → t < length k.threads → is_closed (row_at k.threads t).stage ≡ false → (row_at k.threads t).base ≡ cur_in o t

-- a base priority for each thread, below the levels; the graph stands for the threads with these and for the mutexes
pub record AreMutexTables (k : Tabled) (bases : List ℕ) (c : ClassObjects) (o : Ownership) : Type 0 where
  pub sized : length bases ≡ length k.threads
  pub levels : (t : ℕ) → t < length bases → slice_index bases t < k.levels
  pub graph : IsGraphOf (based bases k.threads) c o
  pub current : AreCurrent k o
