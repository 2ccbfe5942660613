use Rattle.std.proofs.Common.{◌<◌, sym, ap, ◌∙◌, subst, length, List, is_some}
use Rattle.rt_plain.specs.kernel.State.{Thread}
use Rattle.kernel_tables.specs.Threads.{row_at}
use Rattle.mutex_tables.proofs.SeenLemmas.{inside-there, inside-row}
use Rattle.mutex_tables.proofs.tables.MutexTables.retries.Goals as goal

pub retries-requires : goal.retries-requires
retries-requires c = subst (λ (rows : List Thread). c.args.t < length rows) (sym c.threads.ensures) (inside-there c.self.inside c.args.self.now c.args.t c.self.view_is c.requires)

pub returns : goal.returns
returns c =
    c.retries.ensures
    ∙ ap (λ (rows : List Thread). is_some (row_at rows c.args.t).retry) c.threads.ensures
    ∙ sym (ap (λ (row : Thread). is_some row.retry) (inside-row c.self.inside c.args.self.now c.args.t c.self.view_is c.self.invariant c.requires))
