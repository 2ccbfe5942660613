-- A pool lends its waiters.
use Rattle.std.specs.Borrow.{Lends, MutBor, Fml}
use Rattle.susp_list.specs.Rows.{Waits}
use Rattle.susp_list.specs.contracts.list.SuspList.{the_row as list_row}
use Rattle.mem_pool.specs.Pools.{PoolBlocks}
use Rattle.mem_pool.specs.contracts.pool.MemPool.{the_row}

-- the pool ends with the waiters that are left behind r
abbrev pub LendsWaiters : MutBor PoolBlocks → MutBor Waits → Fml
LendsWaiters p r = Lends the_row list_row p r (λ w. record p.now { waiters = w })
