-- What contracts see of the memory pools of a board.
use Rattle.std.specs.Prelude.{ℕ, ◌≡◌, ◌≢◌, ◌<◌, ◌≤◌, List, [], Option, Some, None, AllPairs, length, map, slice_index_or, if◌then◌else◌}
use Rattle.std.specs.List.{find}
use Rattle.std.specs.Str.{bytes_eq}
use Rattle.rt_base.specs.declared.codes.WaitOrder.{WaitOrder}
use Rattle.rt_plain.specs.declared.board.PoolDef.{PoolDef}
use Rattle.rt_plain.specs.kernel.State.{Pool}
use Rattle.rt_plain.specs.kernel.PoolCalls.{last_block, place_of, with_block_freed, with_block_held}
use Rattle.mem_pool.specs.Pools.{PoolBlocks}
use Rattle.mem_pool.specs.declared.freed.Freed.{Freed}
use Rattle.mem_pool.specs.declared.freed.Freed.TheVariants.{NotHeld, Passed, Back}

-- a pool by its name, the order of its waiters and its blocks
abbrev pub plain_pool : List ℕ → WaitOrder → PoolBlocks → Pool
plain_pool name order p = record { name = name; size = p.size; order = order; blocks = p.blocks; held = p.held }

-- what stands where there is no pool
abbrev pub no_pool : Pool
no_pool = record { name = []; size = 0; order = WaitOrder.Fifo; blocks = []; held = [] }

-- the pool of a number
abbrev pub pool_at : List Pool → ℕ → Pool
pool_at pools o = slice_index_or pools o no_pool

-- the pool of a name
abbrev pub found_pool : List Pool → List ℕ → Option Pool
found_pool pools name = find (λ o. bytes_eq o.name name) pools

-- with another row for the pool of its name
abbrev pub put_pool : List Pool → Pool → List Pool
put_pool pools pool = map (λ o. if bytes_eq o.name pool.name then pool else o) pools

-- a pool of this number is there, and has this name
pub record IsPool (pools : List Pool) (name : List ℕ) (o : ℕ) : Type 0 where
  pub there : o < length pools
  pub named : (pool_at pools o).name ≡ name
  pub found : found_pool pools name ≡ Some (pool_at pools o)

abbrev pub names_of : List Pool → List (List ℕ)
names_of pools = map (λ o. o.name) pools

-- no two pools have one name
abbrev pub AreApart : List Pool → Type 0
AreApart pools = AllPairs (λ one other. one ≢ other) (names_of pools)

-- what always holds: there are at most 64, and no two have one name
pub record ArePooled (pools : List Pool) : Type 0 where
  pub few : length pools ≤ 64
  pub apart : AreApart pools

-- a board's pool has blocks, and not too many
abbrev pub IsSized : PoolDef → Type 0
IsSized def = (1 ≤ def.blocks) × ((def.blocks ≤ 64) × (1 ≤ def.size))

-- a pool after a thread has asked for a block, where this one is free
abbrev pub given_to : Pool → Option ℕ → ℕ → Pool
given_to pool None t = pool
given_to pool (Some block) t = with_block_held pool block t

-- the pools after that
abbrev pub pools_given : List Pool → Pool → Option ℕ → ℕ → List Pool
pools_given pools pool None t = pools
pools_given pools pool (Some block) t = put_pool pools (with_block_held pool block t)

-- the block that a thread got last, at its place, goes to another thread
pub record HandsOver (old : Pool) (t : ℕ) (new : Pool) (next place : ℕ) : Type 0 where
  pub block : ℕ
  pub last : last_block old t ≡ Some block
  pub place_is : place ≡ place_of old block
  pub state : new ≡ with_block_held old block next

-- or is free
pub record SetsFree (old : Pool) (t : ℕ) (new : Pool) (place : ℕ) : Type 0 where
  pub block : ℕ
  pub last : last_block old t ≡ Some block
  pub place_is : place ≡ place_of old block
  pub state : new ≡ with_block_freed old block

-- each answer to a block that is given back, with its cause and what it leaves
abbrev pub ReturnsBlock : Pool → ℕ → Option ℕ → Pool → Freed → Type 0
ReturnsBlock old t next new NotHeld = (last_block old t ≡ None) × (new ≡ old)
ReturnsBlock old t next new (Passed other place) = (next ≡ Some other) × HandsOver old t new other place
ReturnsBlock old t next new (Back place) = (next ≡ None) × SetsFree old t new place

-- the same among all pools
pub record HandsOverIn (old : List Pool) (pool : Pool) (t : ℕ) (new : List Pool) (next place : ℕ) : Type 0 where
  pub block : ℕ
  pub last : last_block pool t ≡ Some block
  pub place_is : place ≡ place_of pool block
  pub state : new ≡ put_pool old (with_block_held pool block next)

pub record SetsFreeIn (old : List Pool) (pool : Pool) (t : ℕ) (new : List Pool) (place : ℕ) : Type 0 where
  pub block : ℕ
  pub last : last_block pool t ≡ Some block
  pub place_is : place ≡ place_of pool block
  pub state : new ≡ put_pool old (with_block_freed pool block)

abbrev pub Returns : List Pool → Pool → ℕ → Option ℕ → List Pool → Freed → Type 0
Returns old pool t next new NotHeld = (last_block pool t ≡ None) × (new ≡ old)
Returns old pool t next new (Passed other place) = (next ≡ Some other) × HandsOverIn old pool t new other place
Returns old pool t next new (Back place) = (next ≡ None) × SetsFreeIn old pool t new place
