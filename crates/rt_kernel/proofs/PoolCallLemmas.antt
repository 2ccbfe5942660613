-- What the calls on memory pools do, by what the pools do.
use Rattle.std.proofs.Common.{◌≡◌, ℕ, List, Option, Some, None, Bool, true, false, refl, sym, ap, ◌∙◌, is_some, cond}
use Rattle.std.specs.Option.{option_map}
use Rattle.std.proofs.lemmas.Option.{same_Some}
use Rattle.std.proofs.lemmas.Bool.{false≢true}
use Rattle.rt_base.specs.declared.codes.Code.{Code}
use Rattle.rt_plain.specs.declared.stmt.Call.{Call}
use Rattle.rt_plain.specs.kernel.State.{State, Stage, Pool, Waiting, InCall}
use Rattle.rt_plain.specs.kernel.Effects.{wake_effect}
use Rattle.rt_plain.specs.kernel.Priority.{awaited_mutex}
use Rattle.rt_plain.specs.kernel.Sound.{is_waiting}
use Rattle.rt_plain.specs.kernel.Waiting.{first_waiter, number_in, takes_block}
use Rattle.rt_plain.specs.kernel.Outcome.{By, ByThread, ByTimer, First, Outcome, refusal, success, silent_success, found_outcome, thread_outcome, wait_or_refusal, with_value}
use Rattle.rt_plain.specs.kernel.PoolCalls.{free_block, last_block, mp_alloc, mp_alloc_outcome, mp_free, mp_free_outcome, passed_block_outcome, place_of}
use Rattle.mem_pool.specs.declared.freed.Freed.TheVariants.{NotHeld, Passed, Back}
use Rattle.kernel_pools.specs.Pooled.{IsPool, Returns, pool_at, pools_given}
use Rattle.mutex_tables.specs.MutexTabled.{plain_state}
use Rattle.rt_kernel.specs.Answer.{plain_answer}
use Rattle.rt_kernel.specs.Blocks.{block_refusal, valued}
use Rattle.rt_kernel.specs.declared.state.State.{State as KernelState}
use Rattle.rt_kernel.specs.View.{state_of}

-- the call on the pool of a name
alloc-head : (s : State) (name : List ℕ) (pool : Pool) (timeout : Option ℕ) (by : By) (o : ℕ) → IsPool s.pools name o → pool ≡ pool_at s.pools o → mp_alloc name timeout s by ≡ mp_alloc_outcome pool (free_block pool) timeout s by
alloc-head s name pool timeout by o is at =
    ap (λ (p : Option Pool). found_outcome p (refusal s Code.Inval) (λ x. mp_alloc_outcome x (free_block x) timeout s by)) (is.found ∙ ap (λ p. Some p) (sym at))

-- a free block is the caller's
pub alloc-gives : (r : KernelState) (new : List Pool) (name : List ℕ) (timeout : Option ℕ) (o t core place : ℕ) → IsPool r.pools name o → Some place ≡ option_map (place_of (pool_at r.pools o)) (free_block (pool_at r.pools o)) → new ≡ pools_given r.pools (pool_at r.pools o) (free_block (pool_at r.pools o)) t
    → mp_alloc name timeout (state_of r) (ByThread t core) ≡ silent_success (with_value (state_of (record r { pools = new })) (ByThread t core) place)
alloc-gives r new name timeout o t core place is given pools = alloc-head (state_of r) name (pool_at r.pools o) timeout (ByThread t core) o is refl ∙ by_block (free_block (pool_at r.pools o)) given pools where
  by_block : (block : Option ℕ) → Some place ≡ option_map (place_of (pool_at r.pools o)) block → new ≡ pools_given r.pools (pool_at r.pools o) block t
      → mp_alloc_outcome (pool_at r.pools o) block timeout (state_of r) (ByThread t core) ≡ silent_success (with_value (state_of (record r { pools = new })) (ByThread t core) place)
  by_block None given pools = absurd (let never : ◌≡◌ {A = Option ℕ} (Some place) None = given in cc)
  by_block (Some block) given pools =
      ap (λ (p : ℕ). silent_success (with_value (state_of (record r { pools = pools_given r.pools (pool_at r.pools o) (Some block) t })) (ByThread t core) p)) (sym (same_Some place (place_of (pool_at r.pools o) block) given))
      ∙ ap (λ (l : List Pool). silent_success (with_value (state_of (record r { pools = l })) (ByThread t core) place)) (sym pools)

-- where none is free, the call waits
pub alloc-waits : (r : KernelState) (new : List Pool) (name copy : List ℕ) (timeout : Option ℕ) (o t core : ℕ) → copy ≡ name → IsPool r.pools name o → None ≡ option_map (place_of (pool_at r.pools o)) (free_block (pool_at r.pools o)) → new ≡ pools_given r.pools (pool_at r.pools o) (free_block (pool_at r.pools o)) t
    → (new ≡ r.pools) × (mp_alloc name timeout (state_of r) (ByThread t core) ≡ wait_or_refusal (state_of r) (ByThread t core) First (Call.MpAlloc copy timeout) timeout Code.Timeout)
alloc-waits r new name copy timeout o t core same is none pools = by_block (free_block (pool_at r.pools o)) refl none pools where
  by_block : (block : Option ℕ) → free_block (pool_at r.pools o) ≡ block → None ≡ option_map (place_of (pool_at r.pools o)) block → new ≡ pools_given r.pools (pool_at r.pools o) block t
      → (new ≡ r.pools) × (mp_alloc name timeout (state_of r) (ByThread t core) ≡ wait_or_refusal (state_of r) (ByThread t core) First (Call.MpAlloc copy timeout) timeout Code.Timeout)
  by_block None free none pools = (
    pools,
    alloc-head (state_of r) name (pool_at r.pools o) timeout (ByThread t core) o is refl
        ∙ ap (λ (b : Option ℕ). mp_alloc_outcome (pool_at r.pools o) b timeout (state_of r) (ByThread t core)) free
        ∙ ap (λ (n : List ℕ). wait_or_refusal (state_of r) (ByThread t core) First (Call.MpAlloc n timeout) timeout Code.Timeout) (is.named ∙ sym same),
  )
  by_block (Some block) free none pools = absurd (let never : ◌≡◌ {A = Option ℕ} None (Some (place_of (pool_at r.pools o) block)) = none in cc)

-- a timer gets none
pub alloc-refused : (r : KernelState) (name timer : List ℕ) (timeout : Option ℕ) (o : ℕ) → IsPool r.pools name o
    → mp_alloc name timeout (state_of r) (ByTimer timer) ≡ record { effect = (refusal (state_of r) Code.Error).effect; answer = plain_answer (block_refusal (is_some (free_block (pool_at r.pools o)))) }
alloc-refused r name timer timeout o is = alloc-head (state_of r) name (pool_at r.pools o) timeout (ByTimer timer) o is refl ∙ by_block (free_block (pool_at r.pools o)) where
  by_block : (block : Option ℕ) → mp_alloc_outcome (pool_at r.pools o) block timeout (state_of r) (ByTimer timer) ≡ record { effect = (refusal (state_of r) Code.Error).effect; answer = plain_answer (block_refusal (is_some block)) }
  by_block None = refl
  by_block (Some block) = refl

-- a block is given back to the pool of a name
free-head : (r : KernelState) (name : List ℕ) (o t core : ℕ) (block : Option ℕ) → IsPool r.pools name o → last_block (pool_at r.pools o) t ≡ block → mp_free name (state_of r) (ByThread t core) ≡ mp_free_outcome (pool_at r.pools o) block (state_of r)
free-head r name o t core block is last =
    ap (λ (p : Option Pool). found_outcome p (refusal (state_of r) Code.Inval) (λ x. mp_free_outcome x (last_block x t) (state_of r))) is.found
    ∙ ap (λ (b : Option ℕ). mp_free_outcome (pool_at r.pools o) b (state_of r)) last

-- by who waits first
free-first : (r : KernelState) (name : List ℕ) (o block : ℕ) (first : Option ℕ) → IsPool r.pools name o → first ≡ first_waiter (plain_state r.tables) (pool_at r.pools o).order (takes_block name)
    → mp_free_outcome (pool_at r.pools o) (Some block) (state_of r) ≡ passed_block_outcome (pool_at r.pools o) block first (state_of r)
free-first r name o block first is same =
    ap (λ (n : List ℕ). passed_block_outcome (pool_at r.pools o) block (first_waiter (state_of r) (pool_at r.pools o).order (takes_block n)) (state_of r)) is.named
    ∙ ap (λ (f : Option ℕ). passed_block_outcome (pool_at r.pools o) block f (state_of r)) (sym same)

pub free-none : (r : KernelState) (new : List Pool) (name : List ℕ) (o t core : ℕ) (first : Option ℕ) → IsPool r.pools name o → Returns r.pools (pool_at r.pools o) t first new NotHeld
    → (new ≡ r.pools) × (mp_free name (state_of r) (ByThread t core) ≡ refusal (state_of r) Code.Error)
free-none r new name o t core first is (none, same) = (same, free-head r name o t core None is none)

pub free-back : (r : KernelState) (new : List Pool) (name : List ℕ) (o t core place : ℕ) (first : Option ℕ) → IsPool r.pools name o → first ≡ first_waiter (plain_state r.tables) (pool_at r.pools o).order (takes_block name) → Returns r.pools (pool_at r.pools o) t first new (Back place)
    → mp_free name (state_of r) (ByThread t core) ≡ silent_success (state_of (record r { pools = new }))
free-back r new name o t core place first is waiter (none, back) =
    free-head r name o t core (Some back.block) is back.last
    ∙ free-first r name o back.block None is (sym none ∙ waiter)
    ∙ ap (λ (l : List Pool). silent_success (state_of (record r { pools = l }))) (sym back.state)

pub free-passed : (r : KernelState) (new : List Pool) (name : List ℕ) (o t core u place : ℕ) (first : Option ℕ) → IsPool r.pools name o → first ≡ first_waiter (plain_state r.tables) (pool_at r.pools o).order (takes_block name) → Returns r.pools (pool_at r.pools o) t first new (Passed u place)
    → mp_free name (state_of r) (ByThread t core) ≡ success (wake_effect Code.Ok u (valued (state_of (record r { pools = new })) u place))
free-passed r new name o t core u place first is waiter (some, passed) =
    free-head r name o t core (Some passed.block) is passed.last
    ∙ free-first r name o passed.block (Some u) is (sym some ∙ waiter)
    ∙ ap (λ (l : List Pool). success (wake_effect Code.Ok u (valued (state_of (record r { pools = l })) u (place_of (pool_at r.pools o) passed.block)))) (sym passed.state)
    ∙ ap (λ (p : ℕ). success (wake_effect Code.Ok u (valued (state_of (record r { pools = new })) u p))) (sym passed.place_is)

-- who waits for a block waits, and for no mutex
pub waits-for-block : (name : List ℕ) (stage : Stage) → is_some (number_in (takes_block name) stage) ≡ true → (is_waiting stage ≡ true) × (awaited_mutex stage ≡ None)
waits-for-block name (Waiting (InCall (Call.MpAlloc pool timeout)) number) is = (refl, refl)
waits-for-block name _ is = absurd (false≢true is)
