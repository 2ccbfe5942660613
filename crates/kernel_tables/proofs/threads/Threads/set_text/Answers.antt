use Rattle.std.proofs.Common.{refl, [], unwrap_or}
use Rattle.rt_plain.specs.kernel.State.{Thread}
use Rattle.kernel_tables.proofs.ThreadLemmas.{written}
use Rattle.kernel_tables.proofs.threads.Threads.set_text.Goals as goal

pub returns : goal.returns
returns c = written _ _ _ _ _ _ (λ (row : Thread). record row { text = unwrap_or c.args.text [] }) c.self.view_is c.t.view_is c.requires c.index_mut-row.ensures.value refl
