use Rattle.std.proofs.Common.{◌<◌, sym, ap, ◌∙◌, subst, length, List}
use Rattle.rt_plain.specs.kernel.State.{Thread, is_suspended}
use Rattle.kernel_tables.specs.Threads.{row_at}
use Rattle.mutex_tables.proofs.SeenLemmas.{inside-there, inside-row}
use Rattle.mutex_tables.proofs.tables.MutexTables.is_suspended.Goals as goal

pub is_suspended-requires : goal.is_suspended-requires
is_suspended-requires c = subst (λ (rows : List Thread). c.args.t < length rows) (sym c.threads.ensures) (inside-there c.self.inside c.args.self.now c.args.t c.self.view_is c.requires)

pub returns : goal.returns
returns c =
    c.is_suspended.ensures
    ∙ ap (λ (rows : List Thread). is_suspended (row_at rows c.args.t).stage) c.threads.ensures
    ∙ sym (ap (λ (row : Thread). is_suspended row.stage) (inside-row c.self.inside c.args.self.now c.args.t c.self.view_is c.self.invariant c.requires))
