use Rattle.std.proofs.Common.{◌∙◌, ◌++◌, ◌∷◌, [], ap}
use Rattle.std.specs.Option.{option_map}
use Rattle.std.specs.Prelude.{slice_get}
use Rattle.kernel_tables.specs.Tabled.{Tabled, found_mailbox, mails_taken}
use Rattle.mutex_tables.specs.MutexTabled.{MutexTabled}
use Rattle.mutex_tables.proofs.SeenLemmas.{keeps-same}
use Rattle.mutex_tables.proofs.ObjectLemmas.{seen_by}
use Rattle.mutex_tables.proofs.tables.MutexTables.receive_mail.Goals as goal

pub invariant_of-self : goal.invariant_of-self
invariant_of-self c = keeps-same c.self.inside c.receive_mail.new.self c.self.invariant (ap (λ (x : Tabled). x.threads) c.receive_mail.ensures.state) (ap (λ (x : Tabled). x.levels) c.receive_mail.ensures.state)

pub returns-clause-answer : goal.returns-clause-answer
returns-clause-answer c = c.receive_mail.ensures.answer ∙ ap (λ (v : MutexTabled). option_map (λ mailbox. slice_get mailbox.words 0) (found_mailbox v.mailboxes c.args.name.now)) c.self.view_is

pub returns-clause-state : goal.returns-clause-state
returns-clause-state c = ap (seen_by c.self.inside) c.receive_mail.ensures.state ∙ ap (λ (v : MutexTabled). record v { mailboxes = mails_taken v.mailboxes (found_mailbox v.mailboxes c.args.name.now) }) c.self.view_is
