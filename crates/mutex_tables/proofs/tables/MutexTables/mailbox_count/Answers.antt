use Rattle.std.proofs.Common.{◌∙◌, ◌≤◌, ap, subst, length}
use Rattle.mutex_tables.specs.MutexTabled.{MutexTabled}
use Rattle.mutex_tables.proofs.tables.MutexTables.mailbox_count.Goals as goal

pub returns-clause-count : goal.returns-clause-count
returns-clause-count c = c.mailbox_count.ensures.count ∙ ap (λ (v : MutexTabled). length v.mailboxes) c.self.view_is

pub returns-clause-few : goal.returns-clause-few
returns-clause-few c = subst (λ (v : MutexTabled). c.mailbox_count.result ≤ v.mailbox_limit) c.self.view_is c.mailbox_count.ensures.few
