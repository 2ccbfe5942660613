use Rattle.std.proofs.Common.{◌<◌, sym, ap, ◌∙◌, subst, length, List}
use Rattle.rt_plain.specs.kernel.State.{Thread}
use Rattle.kernel_tables.specs.Threads.{row_at}
use Rattle.mutex_tables.proofs.SeenLemmas.{inside-there, inside-cur}
use Rattle.mutex_tables.proofs.tables.MutexTables.cur.Goals as goal

pub base-requires : goal.base-requires
base-requires c = subst (λ (rows : List Thread). c.args.t < length rows) (sym c.threads.ensures) (inside-there c.self.inside c.args.self.now c.args.t c.self.view_is c.requires.there)

pub returns : goal.returns
returns c =
    c.base.ensures
    ∙ ap (λ (rows : List Thread). (row_at rows c.args.t).base) c.threads.ensures
    ∙ inside-cur c.self.inside c.args.self.now c.args.t c.self.view_is c.self.invariant c.requires.there c.requires.live
