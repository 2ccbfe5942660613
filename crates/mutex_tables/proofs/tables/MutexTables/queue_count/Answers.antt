use Rattle.std.proofs.Common.{◌∙◌, ◌≤◌, ap, subst, length}
use Rattle.mutex_tables.specs.MutexTabled.{MutexTabled}
use Rattle.mutex_tables.proofs.tables.MutexTables.queue_count.Goals as goal

pub returns-clause-count : goal.returns-clause-count
returns-clause-count c = c.queue_count.ensures.count ∙ ap (λ (v : MutexTabled). length v.queues) c.self.view_is

pub returns-clause-few : goal.returns-clause-few
returns-clause-few c = subst (λ (v : MutexTabled). c.queue_count.result ≤ v.queue_limit) c.self.view_is c.queue_count.ensures.few
