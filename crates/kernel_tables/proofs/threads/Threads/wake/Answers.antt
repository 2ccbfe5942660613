use Rattle.std.proofs.Common.{refl}
use Rattle.kernel_tables.specs.Tabled.{woken_row}
use Rattle.kernel_tables.proofs.ThreadLemmas.{written}
use Rattle.kernel_tables.proofs.threads.Threads.wake.Goals as goal

pub returns : goal.returns
returns c = written _ _ _ _ _ _ (woken_row c.args.code) c.self.view_is c.t.view_is c.requires c.index_mut-row.ensures.value refl
