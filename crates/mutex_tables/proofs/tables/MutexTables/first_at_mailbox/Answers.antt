use Rattle.std.proofs.Common.{◌∙◌, ap}
use Rattle.rt_plain.specs.kernel.Waiting.{head_of}
use Rattle.kernel_tables.specs.Tabled.{found_mailbox}
use Rattle.mutex_tables.specs.MutexTabled.{MutexTabled}
use Rattle.mutex_tables.proofs.EndLemmas.{first-repeats, first-there, mail-seen}
use Rattle.mutex_tables.proofs.tables.MutexTables.first_at_mailbox.Goals as goal

pub returns-clause-first : goal.returns-clause-first
returns-clause-first c mailbox found =
    c.first_at_mailbox.ensures.first mailbox (ap (λ (v : MutexTabled). found_mailbox v.mailboxes c.args.name.now) c.self.view_is ∙ found)
    ∙ ap head_of (mail-seen c.self.inside c.args.self.now mailbox c.args.end c.self.view_is c.self.invariant)

pub returns-clause-there : goal.returns-clause-there
returns-clause-there c = first-there c.self.inside c.args.self.now c.first_at_mailbox.result c.self.view_is c.first_at_mailbox.ensures.there

pub returns-clause-waits : goal.returns-clause-waits
returns-clause-waits c = first-repeats c.self.inside c.args.self.now c.first_at_mailbox.result c.self.view_is c.first_at_mailbox.ensures.waits
