use Rattle.std.proofs.Common.{refl}
use Rattle.kernel_tables.specs.Threads.{with_vars}
use Rattle.kernel_tables.proofs.ThreadLemmas.{written}
use Rattle.kernel_tables.proofs.threads.Threads.set_vars.Goals as goal

pub returns : goal.returns
returns c = written _ _ _ _ _ _ (with_vars c.args.vars) c.self.view_is c.t.view_is c.requires c.index_mut-row.ensures.value refl
