use Rattle.std.proofs.Common.{◌∙◌, sym}
use Rattle.std.proofs.lemmas.Option.{none-some}
use Rattle.ipc_queues.specs.declared.channels.ChannelKind.{ChannelKind}
use Rattle.kernel_tables.specs.declared.wait_list.WaitList.{WaitList}
use Rattle.kernel_tables.proofs.FoundLemmas.{found-below}
use Rattle.kernel_tables.proofs.MailboxLemmas.{mail-there, mail-none, first-seen, first-there}
use Rattle.kernel_tables.proofs.RetryLemmas.{first-repeats}
use Rattle.kernel_tables.proofs.tables.Tables.first_at_mailbox.Goals as goal

pub returns-in_err-no-clause-first : goal.returns-in_err-no-clause-first
returns-in_err-no-clause-first c =
    let l = c.self.inside.lists in
    rw (← c.self.view_is) (λ mailbox found. absurd (none-some mailbox (sym (mail-none l.channels l.objects.mailbox.objects c.args.name.now (sym c.find.ensures ∙ c.in_err-no.was)) ∙ found)))

pub first-requires : goal.first-requires
first-requires c = mail-there c.self.inside.threads c.self.inside.lists c.args.name.now c.in_ok-no.no c.self.invariant.tied (sym c.find.ensures ∙ c.in_ok-no.was)

pub returns-clause-first : goal.returns-clause-first
returns-clause-first c =
    let l = c.self.inside.lists in
    rw (← c.self.view_is) (λ mailbox found. c.first.ensures.first ∙ first-seen c.self.inside.threads l c.args.name.now c.in_ok-no.no c.args.end mailbox c.self.invariant.tied (sym c.find.ensures ∙ c.in_ok-no.was) found)

pub returns-clause-there : goal.returns-clause-there
returns-clause-there c =
    rw (← c.self.view_is) (first-there c.self.inside.threads c.self.inside.lists c.args.name.now c.in_ok-no.no c.args.end c.first.result c.self.invariant.tied (sym c.find.ensures ∙ c.in_ok-no.was) c.first.ensures.first)

pub returns-clause-waits : goal.returns-clause-waits
returns-clause-waits c =
    let l = c.self.inside.lists in
    rw (← c.self.view_is) (first-repeats c.self.inside.threads l ChannelKind.Mailbox c.args.end c.in_ok-no.no c.first.result c.self.invariant.tied (found-below l.objects.mailbox c.args.name.now c.in_ok-no.no (c.self.invariant.tied.lists.sound (WaitList.Channel ChannelKind.Mailbox c.args.end)) (sym c.find.ensures ∙ c.in_ok-no.was)) c.first.ensures.first)
