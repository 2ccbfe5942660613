use Rattle.std.proofs.Common.{refl}
use Rattle.kernel_tables.specs.Tabled.{given_row}
use Rattle.kernel_tables.proofs.ThreadLemmas.{written}
use Rattle.kernel_tables.proofs.threads.Threads.give.Goals as goal

pub returns : goal.returns
returns c = written _ _ _ _ _ _ (given_row c.args.flags) c.self.view_is c.t.view_is c.requires c.index_mut-row.ensures.value refl
