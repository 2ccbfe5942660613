use Rattle.std.proofs.Common.{refl}
use Rattle.rt_plain.specs.kernel.State.{Thread}
use Rattle.kernel_tables.specs.Threads.{stage_of}
use Rattle.kernel_tables.proofs.ThreadLemmas.{written}
use Rattle.kernel_tables.proofs.threads.Threads.stand.Goals as goal

pub returns : goal.returns
returns c = written _ _ _ _ _ _ (λ (row : Thread). record row { stage = stage_of c.args.stage }) c.self.view_is c.t.view_is c.requires c.index_mut-row.ensures.value refl
