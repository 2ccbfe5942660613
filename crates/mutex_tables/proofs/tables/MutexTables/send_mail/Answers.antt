use Rattle.std.proofs.Common.{◌∙◌, ◌++◌, ◌∷◌, [], ap}
use Rattle.std.specs.Option.{option_map}
use Rattle.std.specs.Prelude.{slice_get}
use Rattle.rt_plain.specs.kernel.MailboxCalls.{has_mail_room}
use Rattle.kernel_tables.specs.Tabled.{Tabled, found_mailbox, mails_put}
use Rattle.mutex_tables.specs.MutexTabled.{MutexTabled}
use Rattle.mutex_tables.proofs.SeenLemmas.{keeps-same}
use Rattle.mutex_tables.proofs.ObjectLemmas.{seen_by}
use Rattle.mutex_tables.proofs.tables.MutexTables.send_mail.Goals as goal

pub invariant_of-self : goal.invariant_of-self
invariant_of-self c = keeps-same c.self.inside c.send_mail.new.self c.self.invariant (ap (λ (x : Tabled). x.threads) c.send_mail.ensures.state) (ap (λ (x : Tabled). x.levels) c.send_mail.ensures.state)

pub returns-clause-answer : goal.returns-clause-answer
returns-clause-answer c = c.send_mail.ensures.answer ∙ ap (λ (v : MutexTabled). option_map has_mail_room (found_mailbox v.mailboxes c.args.name.now)) c.self.view_is

pub returns-clause-state : goal.returns-clause-state
returns-clause-state c = ap (seen_by c.self.inside) c.send_mail.ensures.state ∙ ap (λ (v : MutexTabled). record v { mailboxes = mails_put v.mailboxes (λ words. words ++ c.args.word ∷ []) (found_mailbox v.mailboxes c.args.name.now) }) c.self.view_is
