use Rattle.std.proofs.Common.{refl, None}
use Rattle.rt_plain.specs.kernel.State.{Thread, Closed}
use Rattle.kernel_tables.proofs.ThreadLemmas.{written}
use Rattle.kernel_tables.proofs.threads.Threads.close.Goals as goal

pub returns : goal.returns
returns c = written _ _ _ _ _ _ (λ (row : Thread). record row { stage = Closed; retry = None }) c.self.view_is c.t.view_is c.requires c.index_mut-row.ensures.value refl
