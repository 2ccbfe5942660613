use Rattle.std.proofs.Common.{◌<◌, sym, ap, ◌∙◌, subst, length, List}
use Rattle.rt_plain.specs.kernel.State.{Thread}
use Rattle.kernel_tables.specs.Repeated.{has_call}
use Rattle.kernel_tables.specs.Threads.{row_at}
use Rattle.mutex_tables.proofs.SeenLemmas.{inside-there, inside-row}
use Rattle.mutex_tables.proofs.tables.MutexTables.has_call.Goals as goal

pub has_call-requires : goal.has_call-requires
has_call-requires c = subst (λ (rows : List Thread). c.args.t < length rows) (sym c.threads.ensures) (inside-there c.self.inside c.args.self.now c.args.t c.self.view_is c.requires)

pub returns : goal.returns
returns c =
    c.has_call.ensures
    ∙ ap (λ (rows : List Thread). has_call (row_at rows c.args.t).retry) c.threads.ensures
    ∙ sym (ap (λ (row : Thread). has_call row.retry) (inside-row c.self.inside c.args.self.now c.args.t c.self.view_is c.self.invariant c.requires))
