use Rattle.std.proofs.Common.{◌<◌, sym, ap, ◌∙◌, subst, length, List}
use Rattle.rt_plain.specs.kernel.State.{Thread}
use Rattle.rt_plain.specs.kernel.Due.{timeout_code}
use Rattle.kernel_tables.specs.Threads.{row_at}
use Rattle.mutex_tables.proofs.SeenLemmas.{inside-there, inside-row}
use Rattle.mutex_tables.proofs.tables.MutexTables.timeout_code.Goals as goal

pub timeout_code-requires : goal.timeout_code-requires
timeout_code-requires c = subst (λ (rows : List Thread). c.args.t < length rows) (sym c.threads.ensures) (inside-there c.self.inside c.args.self.now c.args.t c.self.view_is c.requires)

pub returns : goal.returns
returns c =
    c.timeout_code.ensures
    ∙ ap (λ (rows : List Thread). timeout_code (row_at rows c.args.t).stage) c.threads.ensures
    ∙ sym (ap (λ (row : Thread). timeout_code row.stage) (inside-row c.self.inside c.args.self.now c.args.t c.self.view_is c.self.invariant c.requires))
