use Rattle.std.proofs.Common.{Option, None, ap}
use Rattle.rt_plain.specs.kernel.State.{Thread, Retry}
use Rattle.kernel_tables.specs.Threads.{plain_thread}
use Rattle.kernel_tables.proofs.ThreadLemmas.{written}
use Rattle.kernel_tables.proofs.threads.Threads.take_retry.Goals as goal

pub returns-clause-threads : goal.returns-clause-threads
returns-clause-threads c =
    written _ _ _ _ _ _ (λ (row : Thread). record row { retry = None }) c.self.view_is c.t.view_is c.requires c.index_mut-row.ensures.value
    (ap (λ (o : Option Retry). record (plain_thread c.index_mut-row.result.now) { retry = o }) c.take.ensures.after)
