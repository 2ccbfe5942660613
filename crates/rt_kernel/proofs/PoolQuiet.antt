-- The calls on memory pools change no base priority and no name, so they settle to themselves.
use Rattle.std.proofs.Common.{◌≡◌, ℕ, List, Option, Some, None, true, refl}
use Rattle.rt_base.specs.declared.codes.Code.{Code}
use Rattle.rt_plain.specs.declared.stmt.Call.{Call}
use Rattle.rt_plain.specs.kernel.State.{State, Pool, thread_at, with_thread}
use Rattle.rt_plain.specs.kernel.Waiting.{first_waiter, takes_block}
use Rattle.rt_plain.specs.kernel.Outcome.{By, ByThread, ByTimer, First, refusal}
use Rattle.rt_plain.specs.kernel.PoolCalls.{find_pool, free_block, last_block, mp_alloc, mp_alloc_outcome, mp_free, mp_free_outcome, passed_block_outcome, place_of, state_with_block, with_block_freed, with_block_held, with_pool}
use Rattle.rt_kernel.proofs.ObjectQuiet.{quiet-turn}
use Rattle.rt_kernel.proofs.Quiet.{ForNoMutex, IsLively, IsQuiet, IsQuietCall, apart-kept, first-apart, quiet-else, quiet-self, quiet-then, quiet-row, quiet-wake, quiet-found}

-- the calls of its list wait for no mutex
block-lists : (name : List ℕ) → ForNoMutex (takes_block name)
block-lists name (Call.MpAlloc other timeout) is = refl
block-lists name _ is = absurd cc

-- other pools alone
quiet-pool : (s : State) (pool : Pool) → IsQuiet s (with_pool s pool)
quiet-pool s pool = quiet-else s (with_pool s pool) refl refl refl refl

-- and a value
quiet-valued : (s : State) (pool : Pool) (t value : ℕ) → IsQuiet s (with_thread (with_pool s pool) t (record (thread_at s t) { value = value }))
quiet-valued s pool t value = quiet-then s (with_pool s pool) _ (quiet-pool s pool) (quiet-row (with_pool s pool) t (record (thread_at s t) { value = value }) refl refl refl)

pub quiet-mp_alloc : (s : State) (name : List ℕ) (timeout : Option ℕ) (by : By) → IsLively s by → IsQuietCall s (mp_alloc name timeout s by)
quiet-mp_alloc s name timeout by on = quiet-found s (find_pool s name) (refusal s Code.Inval) _ (quiet-self s) (λ pool. by_block pool (free_block pool) by on) where
  by_block : (pool : Pool) (block : Option ℕ) (who : By) → IsLively s who → IsQuietCall s (mp_alloc_outcome pool block timeout s who)
  by_block pool None who on = quiet-turn s who First (Call.MpAlloc pool.name timeout) timeout Code.Timeout on refl
  by_block pool (Some block) (ByThread t core) on = quiet-valued s (with_block_held pool block t) t (place_of pool block)
  by_block pool (Some block) (ByTimer name) on = quiet-self s

pub quiet-mp_free : (s : State) (name : List ℕ) (by : By) → IsQuietCall s (mp_free name s by)
quiet-mp_free s name (ByTimer timer) = quiet-found s (find_pool s name) (refusal s Code.Inval) _ (quiet-self s) (λ pool. quiet-self s)
quiet-mp_free s name (ByThread t core) = quiet-found s (find_pool s name) (refusal s Code.Inval) _ (quiet-self s) (λ pool. by_block pool (last_block pool t)) where
  by_first : (pool : Pool) (block : ℕ) (first : Option ℕ) → first_waiter s pool.order (takes_block pool.name) ≡ first → IsQuietCall s (passed_block_outcome pool block first s)
  by_first pool block None is = quiet-pool s (with_block_freed pool block)
  by_first pool block (Some u) is =
      let valued : IsQuiet s (state_with_block pool block u s) = quiet-valued s (with_block_held pool block u) u (place_of pool block) in
      quiet-then s (state_with_block pool block u s) _ valued (quiet-wake (state_with_block pool block u s) Code.Ok u (apart-kept s (state_with_block pool block u s) u valued (first-apart s pool.order (takes_block pool.name) u (block-lists pool.name) is)))

  by_block : (pool : Pool) (block : Option ℕ) → IsQuietCall s (mp_free_outcome pool block s)
  by_block pool None = quiet-self s
  by_block pool (Some block) = by_first pool block (first_waiter s pool.order (takes_block pool.name)) refl
