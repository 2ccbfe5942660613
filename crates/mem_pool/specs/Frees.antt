-- What giving a block back does.
use Rattle.std.specs.Prelude.{ℕ, ◌≡◌, Option, Some, None, slice_set}
use Rattle.rt_plain.specs.kernel.Waiting.{first_of}
use Rattle.susp_list.specs.Rows.{Waits, waiters}
use Rattle.mem_pool.specs.Pools.{PoolBlocks, last_block, place_of, with_block_freed, with_block_held}
use Rattle.mem_pool.specs.declared.freed.Freed.{Freed}
use Rattle.mem_pool.specs.declared.freed.Freed.TheVariants.{NotHeld, Passed, Back}

-- the waiters without a thread
abbrev pub without : Waits → ℕ → Waits
without w t = record w { rows = slice_set w.rows t None }

-- the block goes to the first waiter
pub record IsPassed (old : PoolBlocks) (t : ℕ) (new : PoolBlocks) (next place : ℕ) : Type 0 where
  pub block : ℕ
  pub last : last_block old t ≡ Some block
  pub first : first_of old.waiters.order (waiters old.waiters) ≡ Some next
  pub place_is : place ≡ place_of old block
  pub state : new ≡ record (with_block_held old block next) { waiters = without old.waiters next }

-- the block is free
pub record IsBack (old : PoolBlocks) (t : ℕ) (new : PoolBlocks) (place : ℕ) : Type 0 where
  pub block : ℕ
  pub last : last_block old t ≡ Some block
  pub first : first_of old.waiters.order (waiters old.waiters) ≡ None
  pub place_is : place ≡ place_of old block
  pub state : new ≡ with_block_freed old block

-- the block of a thread is handed to another one
pub record IsHanded (old : PoolBlocks) (t : ℕ) (new : PoolBlocks) (next place : ℕ) : Type 0 where
  pub block : ℕ
  pub last : last_block old t ≡ Some block
  pub place_is : place ≡ place_of old block
  pub state : new ≡ with_block_held old block next

-- the block of a thread is free
pub record IsFreed (old : PoolBlocks) (t : ℕ) (new : PoolBlocks) (place : ℕ) : Type 0 where
  pub block : ℕ
  pub last : last_block old t ≡ Some block
  pub place_is : place ≡ place_of old block
  pub state : new ≡ with_block_freed old block

-- each answer where it is known who is to have the block next, with its cause and what it leaves
abbrev pub GivesBack : PoolBlocks → ℕ → Option ℕ → PoolBlocks → Freed → Type 0
GivesBack old t next new NotHeld = (last_block old t ≡ None) × (new ≡ old)
GivesBack old t next new (Passed other place) = (next ≡ Some other) × IsHanded old t new other place
GivesBack old t next new (Back place) = (next ≡ None) × IsFreed old t new place

-- each answer, with its cause and what it leaves
abbrev pub Frees : PoolBlocks → ℕ → PoolBlocks → Freed → Type 0
Frees old t new NotHeld = (last_block old t ≡ None) × (new ≡ old)
Frees old t new (Passed next place) = IsPassed old t new next place
Frees old t new (Back place) = IsBack old t new place
