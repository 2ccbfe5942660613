use Rattle.std.proofs.Common.{◌<◌, sym, ap, ◌∙◌, subst, length, List}
use Rattle.rt_plain.specs.kernel.State.{Thread}
use Rattle.kernel_tables.specs.Threads.{row_at}
use Rattle.mutex_tables.proofs.SeenLemmas.{inside-there, inside-row}
use Rattle.mutex_tables.proofs.tables.MutexTables.next.Goals as goal

pub next-requires : goal.next-requires
next-requires c = subst (λ (rows : List Thread). c.args.t < length rows) (sym c.threads.ensures) (inside-there c.self.inside c.args.self.now c.args.t c.self.view_is c.requires)

pub returns : goal.returns
returns c =
    c.next.ensures
    ∙ ap (λ (rows : List Thread). (row_at rows c.args.t).next) c.threads.ensures
    ∙ sym (ap (λ (row : Thread). row.next) (inside-row c.self.inside c.args.self.now c.args.t c.self.view_is c.self.invariant c.requires))
