use Rattle.std.proofs.Common.{◌<◌, ap, ◌∙◌, subst, length, List}
use Rattle.std.specs.Prelude.{IfSome}
use Rattle.std.specs.List.{position_from}
use Rattle.rt_plain.specs.kernel.State.{Thread}
use Rattle.kernel_tables.specs.Threads.{is_found}
use Rattle.mutex_tables.proofs.ShownLemmas.{found-seen, count-seen}
use Rattle.mutex_tables.proofs.tables.MutexTables.find.Goals as goal

pub returns-clause-found : goal.returns-clause-found
returns-clause-found c =
    c.find.ensures.found
    ∙ ap (λ (rows : List Thread). position_from (is_found c.args.name.now) 0 rows) c.threads.ensures
    ∙ found-seen c.self.inside c.args.self.now c.args.name.now c.self.view_is

pub returns-clause-there : goal.returns-clause-there
returns-clause-there c = subst (λ n. IfSome c.find.result (λ t. t < n)) (ap (λ (rows : List Thread). length rows) c.threads.ensures ∙ count-seen c.self.inside c.args.self.now c.self.view_is) c.find.ensures.there
