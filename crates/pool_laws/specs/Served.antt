-- Threads that wait for blocks of memory pools.
use Rattle.std.specs.Prelude.{ℕ, ◌≡◌, Bool, true, List, Some, None, is_some}
use Rattle.std.specs.List.{AllByRecursion, find}
use Rattle.std.specs.Str.{bytes_eq}
use Rattle.rt_plain.specs.kernel.PoolCalls.{free_block}
use Rattle.rt_plain.specs.kernel.State.{State, Stage, Waiting, Awaited, Thread, Pool}
use Rattle.rt_plain.specs.kernel.Waiting.{number_in, takes_block}

-- whether a thread at this stage waits for a block of the pool of a name
abbrev pub awaits_block : List ℕ → Stage → Bool
awaits_block name stage = is_some (number_in (takes_block name) stage)

-- the pool of a name, if there is one, has no free block
abbrev pub IsUsedUp : List Pool → List ℕ → Type 0
IsUsedUp pools name = (pool : Pool) → find (λ o. bytes_eq o.name name) pools ≡ Some pool → free_block pool ≡ None

-- a thread waits only for a block of a pool that has none free
abbrev pub IsServedThread : List Pool → Thread → Type 0
IsServedThread pools row = (name : List ℕ) → awaits_block name row.stage ≡ true → IsUsedUp pools name

-- the same of what a thread begins to wait for
abbrev pub IsServedWait : List Pool → Awaited → Type 0
IsServedWait pools what = (number : ℕ) (name : List ℕ) → awaits_block name (Waiting what number) ≡ true → IsUsedUp pools name

-- and of all threads
abbrev pub IsServed : State → Type 0
IsServed s = AllByRecursion (IsServedThread s.pools) s.threads
