-- Queues of threads that are linked in rings: the nodes are the threads, and after them a head for each queue.
use Rattle.std.specs.Prelude.{ℕ, ◌≡◌, ◌+◌, ◌-◌, ◌<◌, ◌≤◌, ◌==◌, Bool, false, List, [], ◌∷◌, length, map, count_by, slice_index, slice_index_or, slice_get, Option, Some, None}
use Rattle.std.specs.List.{range_with_len, list_any}
use Rattle.rt_base.specs.Chains.{walk, is_among, IsChain, IsAmong, IsApart}

-- queues of threads below a number
pub record Queued : Type 0 where
  pub threads : ℕ
  pub queues : List (List ℕ)

abbrev pub queue_at : ℕ → List ℕ → ℕ → List ℕ
queue_at threads next place = walk threads threads next (slice_index next (threads + place))

abbrev pub queues_of : ℕ → List ℕ → List (List ℕ)
queues_of threads next = map (queue_at threads next) (range_with_len 0 (length next - threads))

-- whether a thread is in one of the queues
abbrev pub is_queued : List (List ℕ) → ℕ → Bool
is_queued queues thread = list_any (is_among thread) queues

-- 1 where the queue has a thread, else 0
abbrev pub occupied : List ℕ → ℕ
occupied [] = 0
occupied (thread ∷ rest) = 1

-- which queue has become empty, if any; the others are as empty as they were
abbrev pub IsEmptied : Option ℕ → List (List ℕ) → List (List ℕ) → Type 0
IsEmptied None was now = (p : ℕ) → occupied (slice_index_or now p []) ≡ occupied (slice_index_or was p [])
IsEmptied (Some place) was now = (place < length was) × (slice_index_or now place [] ≡ [])
    × ((p : ℕ) → (p ≡ place → ⊥) → occupied (slice_index_or now p []) ≡ occupied (slice_index_or was p []))

abbrev pub is_place : ℕ → Option ℕ → Bool
is_place place None = false
is_place place (Some other) = other == place

-- the links and marks hold these queues
pub record IsLinked (threads : ℕ) (next prev : List ℕ) (places : List (Option ℕ)) (queues : List (List ℕ)) : Type 0 where
  pub few : length queues ≤ 65536
  pub nodes : length next ≡ threads + length queues
  pub nodes_back : length prev ≡ threads + length queues
  pub marks : length places ≡ threads
  pub chained : (p : ℕ) → p < length queues → IsChain next prev (threads + p) (slice_index_or queues p []) (threads + p)
  pub marked : (p x : ℕ) → IsAmong x (slice_index_or queues p []) → slice_get places x ≡ Some (Some p)
  pub listed : (p x : ℕ) → slice_get places x ≡ Some (Some p) → (p < length queues) × IsAmong x (slice_index_or queues p [])
  pub counted : (p : ℕ) → length (slice_index_or queues p []) ≡ count_by (is_place p) places
  pub apart : (p : ℕ) → IsApart (slice_index_or queues p [])
