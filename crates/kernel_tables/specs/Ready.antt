-- The ready list, whose rows are those of the threads.
use Rattle.std.specs.Prelude.{ℕ, ◌≡◌, ◌<◌, true, false, not, List, [], ◌∷◌, ◌++◌, length, map, filter, take, slice_index, if◌then◌else◌, ◌==◌}
use Rattle.std.specs.List.{range_with_len}
use Rattle.rt_plain.specs.kernel.Pick.{ReadyRow}
use Rattle.rt_plain.specs.kernel.Sound.{is_active}
use Rattle.rt_plain.specs.kernel.State.{Thread, is_among, is_initial}
use Rattle.ready_set.specs.ReadyLists.{IsBinding, row_of}
use Rattle.ready_list.specs.Ordered.{ReadySeen, has_row}
use Rattle.kernel_tables.specs.declared.lists.Lists.{Lists}
use Rattle.kernel_tables.specs.Tabled.{Tabled}
use Rattle.kernel_tables.specs.Threads.{row_at}
use Rattle.kernel_tables.specs.Tied.{IsTied}

-- the row of a ready thread: its priority is its base
abbrev pub row_for : List Thread → ℕ → ReadyRow
row_for threads t = row_of t (row_at threads t).base (row_at threads t).core

-- the threads of the rows, in order
abbrev pub threads_in : List ReadyRow → List ℕ
threads_in rows = map (λ row. row.thread) rows

-- a thread has a level and a binding of the machine
abbrev pub IsWithin : ReadySeen → Thread → Type 0
IsWithin r row = (row.base < r.levels) × IsBinding r.cores row.core

-- the rows are those of active threads, and each thread may have one
pub record IsReady (threads : List Thread) (r : ReadySeen) : Type 0 where
  pub count : r.threads ≡ length threads
  pub rows : r.rows ≡ map (row_for threads) (threads_in r.rows)
  pub active : (t : ℕ) → is_among (threads_in r.rows) t ≡ true → is_active (row_at threads t).stage ≡ true
  pub within : (t : ℕ) → t < length threads → IsWithin r (row_at threads t)

-- what contracts see, with who is ready
abbrev pub with_ready : Tabled → ReadySeen → Tabled
with_ready k r = record k { ready = threads_in r.rows; cores = r.cores; levels = r.levels }

-- what the tables keep
pub record AreTables (threads : List Thread) (l : Lists) (r : ReadySeen) : Type 0 where
  pub tied : IsTied threads l
  pub ready : IsReady threads r

-- some threads may go to the end one after the other
pub record MayEnter (threads : List Thread) (r : ReadySeen) (ts : List ℕ) : Type 0 where
  pub there : (i : ℕ) → i < length ts → slice_index ts i < length threads
  pub count : r.threads ≡ length threads
  pub within : (i : ℕ) → i < length ts → IsWithin r (row_at threads (slice_index ts i))
  pub absent : (i : ℕ) → i < length ts → has_row (r.rows ++ map (row_for threads) (take i ts)) (slice_index ts i) ≡ false

-- of the threads below a number those that are not initial
abbrev pub started : List Thread → ℕ → List ℕ
started threads n = filter (λ t. not (is_initial (row_at threads t).stage)) (range_with_len 0 n)
