use Rattle.std.proofs.Common.{◌∙◌, ap}
use Rattle.rt_plain.specs.kernel.Sleeps.{is_empty}
use Rattle.mutex_tables.specs.MutexTabled.{MutexTabled}
use Rattle.mutex_tables.proofs.tables.MutexTables.is_idle.Goals as goal

pub returns : goal.returns
returns c = c.is_idle.ensures ∙ ap (λ (v : MutexTabled). is_empty v.ready) c.self.view_is
