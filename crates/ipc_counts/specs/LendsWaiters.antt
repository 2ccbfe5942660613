-- A semaphore lends its waiters.
use Rattle.std.specs.Borrow.{Lends, MutBor, Fml}
use Rattle.susp_list.specs.Rows.{Waits}
use Rattle.susp_list.specs.contracts.list.SuspList.{the_row as list_row}
use Rattle.ipc_counts.specs.Counted.{Counted}
use Rattle.ipc_counts.specs.contracts.sem.Sem.{the_row}

-- the semaphore ends with the waiters that are left behind r
abbrev pub LendsWaiters : MutBor Counted → MutBor Waits → Fml
LendsWaiters s r = Lends the_row list_row s r (λ w. record s.now { waiters = w })
