use Rattle.std.proofs.Common.{◌∙◌, sym, ap, length, List}
use Rattle.rt_plain.specs.kernel.State.{Thread}
use Rattle.mutex_tables.specs.MutexTabled.{MutexTabled}
use Rattle.mutex_tables.proofs.BaseLemmas.{length-based}
use Rattle.mutex_tables.proofs.tables.MutexTables.thread_count.Goals as goal

pub returns-clause-len : goal.returns-clause-len
returns-clause-len c =
    c.len.ensures.len
    ∙ ap (λ (rows : List Thread). length rows) c.threads.ensures
    ∙ sym (length-based c.self.inside.bases.items c.self.inside.tables.threads)
    ∙ ap (λ (v : MutexTabled). length v.threads) c.self.view_is
