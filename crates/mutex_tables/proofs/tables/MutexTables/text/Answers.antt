use Rattle.std.proofs.Common.{◌<◌, sym, ap, ◌∙◌, subst, length, List}
use Rattle.rt_plain.specs.kernel.State.{Thread}
use Rattle.kernel_tables.specs.Threads.{row_at}
use Rattle.mutex_tables.proofs.SeenLemmas.{inside-there, inside-row}
use Rattle.mutex_tables.proofs.tables.MutexTables.text.Goals as goal

pub text-requires : goal.text-requires
text-requires c = subst (λ (rows : List Thread). c.args.t < length rows) (sym c.threads.ensures) (inside-there c.self.inside c.args.self.now c.args.t c.self.view_is c.requires)

pub returns-clause-text : goal.returns-clause-text
returns-clause-text c =
    c.text.ensures.text
    ∙ ap (λ (rows : List Thread). (row_at rows c.args.t).text) c.threads.ensures
    ∙ sym (ap (λ (row : Thread). row.text) (inside-row c.self.inside c.args.self.now c.args.t c.self.view_is c.self.invariant c.requires))
