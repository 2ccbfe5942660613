-- A ready set as a list for each priority and binding, and the ready lists that it stands for.
use Rattle.std.specs.Prelude.{ℕ, ◌≡◌, ◌+◌, ◌*◌, ◌<◌, ◌≤◌, ◌==◌, Bool, cond, nat_lt, not, List, [], Option, Some, None, length, filter, map, replicate, slice_index_or, slice_set}
use Rattle.std.specs.List.{All}
use Rattle.rt_plain.specs.kernel.Pick.{ReadyRow, ready_queue}
use Rattle.rt_base.specs.Chains.{without}
use Rattle.ready_set.specs.Links.{is_queued, Queued, occupied}
use Rattle.ready_set.specs.Levels.{Bitmaps, level_bit}

-- the queues stand by binding, unbound first, and then by priority
pub record ReadyView : Type 0 where
  pub threads : ℕ
  pub cores : ℕ
  pub levels : ℕ
  pub queues : List (List ℕ)

-- 0 for unbound, else the core's number plus 1
abbrev pub binding_place : Option ℕ → ℕ
binding_place None = 0
binding_place (Some core) = core + 1

abbrev pub queue_place : ℕ → ℕ → Option ℕ → ℕ
queue_place levels prio core = binding_place core * levels + prio

-- the threads of a priority and binding, in order
abbrev pub queue_of : ReadyView → ℕ → Option ℕ → List ℕ
queue_of view prio core = slice_index_or view.queues (queue_place view.levels prio core) []

-- a binding of a machine with so many cores
abbrev pub IsBinding : ℕ → Option ℕ → Type 0
IsBinding cores None = Unit {0}
IsBinding cores (Some core) = core < cores

abbrev pub is_held : ReadyView → ℕ → Bool
is_held view thread = is_queued view.queues thread

-- the view with other threads of a priority and binding
abbrev pub with_queue : ReadyView → ℕ → Option ℕ → List ℕ → ReadyView
with_queue view prio core queue = record view { queues = slice_set view.queues (queue_place view.levels prio core) queue }

abbrev pub without_thread : ReadyView → ℕ → ReadyView
without_thread view thread = record view { queues = map (without thread) view.queues }

abbrev pub empty_view : ℕ → ℕ → ℕ → ReadyView
empty_view threads cores levels = record { threads = threads; cores = cores; levels = levels; queues = replicate ((cores + 1) * levels) [] }

-- the ready list has rows of these levels and cores, and each queue is its part of that priority and binding
pub record StandsForRows (view : ReadyView) (rows : List ReadyRow) : Type 0 where
  pub within : All (λ row. (row.prio < view.levels) × IsBinding view.cores row.core) rows
  pub queues : (prio : ℕ) (core : Option ℕ) → prio < view.levels → IsBinding view.cores core → queue_of view prio core ≡ ready_queue rows prio core

-- no queue has a thread that may run on the core
abbrev pub HasNoneFor : ReadyView → ℕ → Type 0
HasNoneFor view core = (prio : ℕ) → prio < view.levels → (queue_of view prio None ≡ []) × (queue_of view prio (Some core) ≡ [])

-- of the least levels with a bound and with an unbound thread, the binding and level to take
abbrev pub chosen : ℕ → Option ℕ → Option ℕ → Option (Option ℕ × ℕ)
chosen core None None = None
chosen core None (Some level) = Some (None, level)
chosen core (Some level) None = Some (Some core, level)
chosen core (Some level) (Some other) = cond (nat_lt other level) (Some (None, other)) (Some (Some core, level))

-- a row of the ready list
abbrev pub row_of : ℕ → ℕ → Option ℕ → ReadyRow
row_of thread prio core = record { thread = thread; prio = prio; core = core }

-- the ready list without a thread
abbrev pub rows_without : List ReadyRow → ℕ → List ReadyRow
rows_without rows thread = filter (λ row. not (row.thread == thread)) rows

-- the bit of each level and binding says whether its queue has a thread
pub record IsReadySet (groups_each cores : ℕ) (bits : Bitmaps) (queued : Queued) : Type 0 where
  pub few : groups_each ≤ 32
  pub cores_fit : cores < 256
  pub bindings : bits.bindings ≡ cores + 1
  pub places : length queued.queues ≡ (cores + 1) * (8 * groups_each)
  pub bits_are : (b l : ℕ) → b < cores + 1 → l < 8 * groups_each → level_bit groups_each bits.groups b l ≡ occupied (slice_index_or queued.queues (b * (8 * groups_each) + l) [])
