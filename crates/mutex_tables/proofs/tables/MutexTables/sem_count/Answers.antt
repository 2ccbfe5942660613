use Rattle.std.proofs.Common.{◌∙◌, ◌≤◌, ap, subst, length}
use Rattle.mutex_tables.specs.MutexTabled.{MutexTabled}
use Rattle.mutex_tables.proofs.tables.MutexTables.sem_count.Goals as goal

pub returns-clause-count : goal.returns-clause-count
returns-clause-count c = c.sem_count.ensures.count ∙ ap (λ (v : MutexTabled). length v.sems) c.self.view_is

pub returns-clause-few : goal.returns-clause-few
returns-clause-few c = subst (λ (v : MutexTabled). c.sem_count.result ≤ v.sem_limit) c.self.view_is c.sem_count.ensures.few
