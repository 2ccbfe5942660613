-- The calls on memory pools.
use Rattle.std.specs.Prelude.{ℕ, ◌*◌, not, List, [], ◌∷◌, ◌++◌, Option, Some, None, map, filter, length, reverse, slice_set, slice_index_or, is_some, if◌then◌else◌, ◌==◌}
use Rattle.std.specs.List.{find, range_with_len}
use Rattle.std.specs.Str.{bytes_eq}
use Rattle.rt_base.specs.declared.codes.Code.{Code}
use Rattle.rt_plain.specs.declared.stmt.Call.{Call}
use Rattle.rt_plain.specs.kernel.State.{State, Pool, thread_at, with_thread, is_number}
use Rattle.rt_plain.specs.kernel.Waiting.{first_waiter, takes_block}
use Rattle.rt_plain.specs.kernel.Effects.{wake_effect}
use Rattle.rt_plain.specs.kernel.Outcome.{By, First, Outcome, refusal, success, silent_success, with_value, wait_or_refusal, found_outcome, thread_outcome}

-- the pool of a name
abbrev pub find_pool : State → List ℕ → Option Pool
find_pool s name = find (λ o. bytes_eq o.name name) s.pools

-- the state with another row for a pool
abbrev pub with_pool : State → Pool → State
with_pool s pool = record s { pools = map (λ o. if bytes_eq o.name pool.name then pool else o) s.pools }

-- who holds a block
abbrev pub holder_of : Pool → ℕ → Option ℕ
holder_of pool block = slice_index_or pool.blocks block None

-- the free block of least number
abbrev pub free_block : Pool → Option ℕ
free_block pool = find (λ block. not (is_some (holder_of pool block))) (range_with_len 0 (length pool.blocks))

-- the block that a thread got last, of those that it holds
abbrev pub last_block : Pool → ℕ → Option ℕ
last_block pool t = find (λ block. is_number t (holder_of pool block)) (reverse pool.held)

-- a block is held no more
abbrev pub with_block_freed : Pool → ℕ → Pool
with_block_freed pool block = record pool { blocks = slice_set pool.blocks block None; held = filter (λ other. not (other == block)) pool.held }

-- a thread holds a block, got last
abbrev pub with_block_held : Pool → ℕ → ℕ → Pool
with_block_held pool block t = let free = with_block_freed pool block in record free { blocks = slice_set free.blocks block (Some t); held = free.held ++ block ∷ [] }

-- the place of a block
abbrev pub place_of : Pool → ℕ → ℕ
place_of pool block = block * pool.size

-- a free block is held and its place is the value, and where there is none the call waits
abbrev pub mp_alloc_outcome : Pool → Option ℕ → Option ℕ → State → By → Outcome
mp_alloc_outcome pool None timeout s by = wait_or_refusal s by First (Call.MpAlloc pool.name timeout) timeout Code.Timeout
mp_alloc_outcome pool (Some block) timeout s by = thread_outcome s by (λ t core. silent_success (with_value (with_pool s (with_block_held pool block t)) by (place_of pool block)))

-- mp_alloc: from the pool of a name
abbrev pub mp_alloc : List ℕ → Option ℕ → State → By → Outcome
mp_alloc name timeout s by = found_outcome (find_pool s name) (refusal s Code.Inval) (λ pool. mp_alloc_outcome pool (free_block pool) timeout s by)

-- a thread holds a block from now on, and its place is the thread's value
abbrev pub state_with_block : Pool → ℕ → ℕ → State → State
state_with_block pool block t s = let row = thread_at s t in with_thread (with_pool s (with_block_held pool block t)) t (record row { value = place_of pool block })

-- the block passes to the first waiter, which wakes, or is free
abbrev pub passed_block_outcome : Pool → ℕ → Option ℕ → State → Outcome
passed_block_outcome pool block None s = silent_success (with_pool s (with_block_freed pool block))
passed_block_outcome pool block (Some t) s = success (wake_effect Code.Ok t (state_with_block pool block t s))

-- the block that a thread got last is given back, where it holds one
abbrev pub mp_free_outcome : Pool → Option ℕ → State → Outcome
mp_free_outcome pool None s = refusal s Code.Error
mp_free_outcome pool (Some block) s = passed_block_outcome pool block (first_waiter s pool.order (takes_block pool.name)) s

-- mp_free: to the pool of a name
abbrev pub mp_free : List ℕ → State → By → Outcome
mp_free name s by = found_outcome (find_pool s name) (refusal s Code.Inval) (λ pool. thread_outcome s by (λ t core. mp_free_outcome pool (last_block pool t) s))
