use Rattle.std.proofs.Common.{ℕ, ◌∙◌, ◌++◌, List, arith, length, is_some, ap}
use Rattle.ipc_queues.specs.declared.ends.End.{End}
use Rattle.kernel_tables.specs.Tabled.{found_mailbox}
use Rattle.mutex_tables.specs.MutexTabled.{MutexTabled}
use Rattle.mutex_tables.proofs.BaseLemmas.{length-based}
use Rattle.mutex_tables.proofs.EndLemmas.{mail-seens, mailbox-deleted-keeps, mailbox-deleted-state}
use Rattle.mutex_tables.proofs.ObjectLemmas.{not-deleted}
use Rattle.mutex_tables.proofs.tables.MutexTables.delete_mailbox.Goals as goal

pub invariant_of-self : goal.invariant_of-self
invariant_of-self c =
    mailbox-deleted-keeps c.self.inside c.delete_mailbox.new.self c.args.name.now c.delete_mailbox.new.woken c.delete_mailbox.result c.self.invariant
    (record { answered = c.delete_mailbox.ensures.answer; missing = c.delete_mailbox.ensures.missing; waiters_are = c.delete_mailbox.ensures.woken; state = c.delete_mailbox.ensures.state })

pub returns-clause-answer : goal.returns-clause-answer
returns-clause-answer c = c.delete_mailbox.ensures.answer ∙ ap (λ (v : MutexTabled). is_some (found_mailbox v.mailboxes c.args.name.now)) c.self.view_is

pub returns-clause-missing : goal.returns-clause-missing
returns-clause-missing c = not-deleted c.self.inside c.args.self.now c.delete_mailbox.new.self c.delete_mailbox.result c.self.view_is c.delete_mailbox.ensures.missing

pub returns-clause-woken : goal.returns-clause-woken
returns-clause-woken c mailbox found =
    c.delete_mailbox.ensures.woken mailbox (ap (λ (v : MutexTabled). found_mailbox v.mailboxes c.args.name.now) c.self.view_is ∙ found)
    ∙ mail-seens c.self.inside c.args.self.now mailbox c.self.view_is c.self.invariant

pub returns-clause-state : goal.returns-clause-state
returns-clause-state c = mailbox-deleted-state c.self.inside c.args.self.now c.delete_mailbox.new.self c.args.name.now c.delete_mailbox.new.woken c.delete_mailbox.result c.self.view_is c.self.invariant c.delete_mailbox.ensures.state

pub returns-clause-few : goal.returns-clause-few
returns-clause-few c = omega (arith, c.delete_mailbox.ensures.few, length-based c.self.inside.bases.items c.self.inside.tables.threads, ap (λ (v : MutexTabled). length v.threads) c.self.view_is)
