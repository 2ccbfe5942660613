use Rattle.std.proofs.Common.{◌<◌, sym, ap, ◌∙◌, subst, length, List}
use Rattle.rt_plain.specs.kernel.State.{Thread}
use Rattle.kernel_tables.specs.Threads.{row_at}
use Rattle.mutex_tables.proofs.SeenLemmas.{inside-there, inside-row}
use Rattle.mutex_tables.proofs.tables.MutexTables.is_marked.Goals as goal

pub is_marked-requires : goal.is_marked-requires
is_marked-requires c = subst (λ (rows : List Thread). c.args.t < length rows) (sym c.threads.ensures) (inside-there c.self.inside c.args.self.now c.args.t c.self.view_is c.requires)

pub returns : goal.returns
returns c =
    c.is_marked.ensures
    ∙ ap (λ (rows : List Thread). (row_at rows c.args.t).marked) c.threads.ensures
    ∙ sym (ap (λ (row : Thread). row.marked) (inside-row c.self.inside c.args.self.now c.args.t c.self.view_is c.self.invariant c.requires))
