-- What a memory pool is for contracts: who holds which block, which was got when, and who waits.
use Rattle.std.specs.Prelude.{ℕ, ◌≡◌, ◌+◌, ◌*◌, ◌<◌, ◌≤◌, ◌==◌, Bool, false, not, List, [], ◌∷◌, ◌++◌, Option, Some, None, count_by, filter, length, reverse, is_some, slice_get, slice_set, slice_index_or, if◌then◌else◌}
use Rattle.std.specs.List.{find, range_with_len}
use Rattle.std.specs.Int.{bit_at}
use Rattle.susp_list.specs.Rows.{Waits}

-- the bytes of a block, for each block the thread that holds it, the held blocks in the order in which they were
-- got, and the waiters
pub record PoolBlocks : Type 0 where
  pub size : ℕ
  pub blocks : List (Option ℕ)
  pub held : List ℕ
  pub waiters : Waits

-- who holds a block
abbrev pub holder_of : PoolBlocks → ℕ → Option ℕ
holder_of p block = slice_index_or p.blocks block None

-- whether a block with this holder is free
abbrev pub is_free : Option ℕ → Bool
is_free holder = not (is_some holder)

-- the free block of least number
abbrev pub free_block : PoolBlocks → Option ℕ
free_block p = find (λ block. is_free (holder_of p block)) (range_with_len 0 (length p.blocks))

-- whether the holder is this thread
abbrev pub holds_block : ℕ → Option ℕ → Bool
holds_block t None = false
holds_block t (Some other) = other == t

-- the block that a thread got last, of those that it holds
abbrev pub last_block : PoolBlocks → ℕ → Option ℕ
last_block p t = find (λ block. holds_block t (holder_of p block)) (reverse p.held)

-- the held blocks but for one
abbrev pub others : ℕ → List ℕ → List ℕ
others block held = filter (λ other. not (other == block)) held

-- a block is held no more
abbrev pub with_block_freed : PoolBlocks → ℕ → PoolBlocks
with_block_freed p block = record p { blocks = slice_set p.blocks block None; held = others block p.held }

-- a thread holds a block, got last
abbrev pub with_block_held : PoolBlocks → ℕ → ℕ → PoolBlocks
with_block_held p block t = record p { blocks = slice_set p.blocks block (Some t); held = others block p.held ++ block ∷ [] }

-- the place of a block
abbrev pub place_of : PoolBlocks → ℕ → ℕ
place_of p block = block * p.size

-- the pool after a thread has asked for a block, where this one is free
abbrev pub after_alloc : PoolBlocks → Option ℕ → ℕ → PoolBlocks
after_alloc p None t = p
after_alloc p (Some block) t = with_block_held p block t

-- how often a block with this holder stands among the held ones
abbrev pub times_held : Option ℕ → ℕ
times_held holder = if is_free holder then 0 else 1

-- each held block stands once among the held ones and a free one doesn't, and together they are all
pub record IsSound (blocks : List (Option ℕ)) (held : List ℕ) : Type 0 where
  pub listed : (block : ℕ) → count_by (λ other. other == block) held ≡ times_held (slice_index_or blocks block None)
  pub all_told : length held + count_by is_free blocks ≡ length blocks

-- 1 where a block is there and free, else 0
abbrev pub free_bit : Option (Option ℕ) → ℕ
free_bit (Some None) = 1
free_bit _ = 0

-- what is kept of the fields of a pool: the bitmap has the free blocks, and there is room for all blocks to be held
pub record IsKept (blocks : List (Option ℕ)) (word : ℕ) (held : List ℕ) (room : ℕ) : Type 0 where
  pub few : length blocks ≤ 64
  pub roomy : length blocks ≤ room
  pub mapped : (block : ℕ) → block < 64 → bit_at word block ≡ free_bit (slice_get blocks block)
  pub sound : IsSound blocks held
