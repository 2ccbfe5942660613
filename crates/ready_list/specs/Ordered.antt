-- The ready list as rows in order.
use Rattle.std.specs.Prelude.{ℕ, ◌≡◌, ◌+◌, ◌*◌, ◌<◌, ◌==◌, ◌++◌, Bool, List, [], ◌∷◌, Option, Some, None, length, map, slice_index_or}
use Rattle.std.specs.List.{All, find, list_any}
use Rattle.rt_plain.specs.kernel.Pick.{ReadyRow}
use Rattle.ready_set.specs.Links.{Queued}
use Rattle.ready_set.specs.ReadyLists.{ReadyView, IsBinding, StandsForRows, row_of, rows_without}
use Rattle.ready_list.specs.declared.list.Place.{Place}

-- the rows of the ready threads in order, and below which numbers threads, cores and levels lie
pub record ReadySeen : Type 0 where
  pub threads : ℕ
  pub cores : ℕ
  pub levels : ℕ
  pub rows : List ReadyRow

-- no thread is ready
abbrev pub none_ready : ℕ → ℕ → ℕ → ReadySeen
none_ready threads cores levels = record { threads = threads; cores = cores; levels = levels; rows = [] }

-- the list with other rows
abbrev pub with_rows : ReadySeen → List ReadyRow → ReadySeen
with_rows seen rows = record seen { rows = rows }

-- each row has a level and a core of the machine
abbrev pub AreWithin : ReadySeen → Type 0
AreWithin seen = All (λ row. (row.prio < seen.levels) × IsBinding seen.cores row.core) seen.rows

-- whether it is the row of a thread
abbrev pub is_row_of : ℕ → ReadyRow → Bool
is_row_of thread row = row.thread == thread

-- whether a thread has a row
abbrev pub has_row : List ReadyRow → ℕ → Bool
has_row rows thread = list_any (is_row_of thread) rows

-- the rows where the row of a thread, if it has one, goes to the end with another priority
abbrev pub moved_row : List ReadyRow → ℕ → Option ReadyRow → List ReadyRow
moved_row rows prio None = rows
moved_row rows prio (Some row) = rows_without rows row.thread ++ record row { prio = prio } ∷ []

abbrev pub rows_moved : List ReadyRow → ℕ → ℕ → List ReadyRow
rows_moved rows thread prio = moved_row rows prio (find (is_row_of thread) rows)

-- ---- inside

-- where a thread stands if it is ready
abbrev pub place_at : List Place → ℕ → Place
place_at places thread = slice_index_or places thread (record { prio = 0; core = None })

-- the row of a ready thread
abbrev pub row_at : List Place → ℕ → ReadyRow
row_at places thread = row_of thread (place_at places thread).prio (place_at places thread).core

-- the threads in order, which stand in one ring
abbrev pub order_of : Queued → List ℕ
order_of ring = slice_index_or ring.queues 0 []

-- the rows in order
abbrev pub rows_in : List Place → List ℕ → List ReadyRow
rows_in places threads = map (row_at places) threads

-- what contracts see, by a set and rows
abbrev pub seen_with : ReadyView → List ReadyRow → ReadySeen
seen_with set rows = record { threads = set.threads; cores = set.cores; levels = set.levels; rows = rows }

abbrev pub seen_of : ReadyView → Queued → List Place → ReadySeen
seen_of set ring places = seen_with set (rows_in places (order_of ring))

-- the set stands for the rows
pub record IsReadyList (set : ReadyView) (ring : Queued) (places : List Place) : Type 0 where
  pub one : length ring.queues ≡ 1
  pub same : ring.threads ≡ set.threads
  pub placed : length places ≡ set.threads
  pub sized : length set.queues ≡ (set.cores + 1) * set.levels
  pub stands : StandsForRows set (rows_in places (order_of ring))
