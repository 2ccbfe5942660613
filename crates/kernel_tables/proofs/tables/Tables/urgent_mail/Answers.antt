use Rattle.std.proofs.Common.{◌≡◌, ◌∷◌, ◌∙◌, Some, None, Bool, sym, ap, refl}
use Rattle.std.specs.Option.{option_map}
use Rattle.rt_plain.specs.kernel.MailboxCalls.{has_mail_room}
use Rattle.object_box.specs.Objects.{number_of}
use Rattle.ipc_queues.specs.declared.ends.End.{End}
use Rattle.ipc_queues.specs.declared.channels.ChannelKind.{ChannelKind}
use Rattle.kernel_tables.specs.Ready.{with_ready}
use Rattle.kernel_tables.specs.Tied.{tabled}
use Rattle.kernel_tables.specs.declared.wait_list.WaitList.{WaitList}
use Rattle.kernel_tables.proofs.MadeLemmas.{lists-kept}
use Rattle.kernel_tables.proofs.ChannelLemmas.{channels-keep}
use Rattle.kernel_tables.proofs.MailboxLemmas.{mail-there, mail-some, mail-none, put-state, put-keeps, put-others, other-queues}
use Rattle.kernel_tables.proofs.tables.Tables.urgent_mail.Goals as goal

pub returns-in_err-no-clause-answer : goal.returns-in_err-no-clause-answer
returns-in_err-no-clause-answer c =
    let l = c.self.inside.lists in
    let none : number_of l.objects.mailbox.objects c.args.name.now ≡ None = sym c.find.ensures ∙ c.in_err-no.was in
    c.from_residual.ensures ∙ rw (← c.self.view_is) (ap (option_map has_mail_room) (sym (mail-none l.channels l.objects.mailbox.objects c.args.name.now none)))

pub returns-in_err-no-clause-state : goal.returns-in_err-no-clause-state
returns-in_err-no-clause-state c =
    let l = c.self.inside.lists in
    let none : number_of l.objects.mailbox.objects c.args.name.now ≡ None = sym c.find.ensures ∙ c.in_err-no.was in
    rw (← c.self.view_is) (sym (rw (mail-none l.channels l.objects.mailbox.objects c.args.name.now none) refl))

pub urgent_mail-requires : goal.urgent_mail-requires
urgent_mail-requires c = mail-there c.self.inside.threads c.self.inside.lists c.args.name.now c.in_ok-no.no c.self.invariant.tied (sym c.find.ensures ∙ c.in_ok-no.was)

pub returns-clause-answer : goal.returns-clause-answer
returns-clause-answer c =
    let l = c.self.inside.lists in
    rw (← c.self.view_is) (ap (λ (b : Bool). Some b) c.urgent_mail.ensures.room ∙ ap (option_map has_mail_room) (sym (mail-some l.channels l.objects.mailbox.objects c.args.name.now c.in_ok-no.no (sym c.find.ensures ∙ c.in_ok-no.was))))

pub returns-clause-state : goal.returns-clause-state
returns-clause-state c =
    let l = c.self.inside.lists in
    let is : number_of l.objects.mailbox.objects c.args.name.now ≡ Some c.in_ok-no.no = sym c.find.ensures ∙ c.in_ok-no.was in
    let e = c.urgent_mail.ensures in
    rw (← c.self.view_is) (λ k. record (with_ready (tabled c.self.inside.threads l) c.self.inside.ready) {
      mailboxes = put-state l c.args.name.now c.in_ok-no.no (λ words. c.args.word ∷ words) c.urgent_mail.result c.urgent_mail.new.self (c.self.invariant.tied.lists.sound (WaitList.Channel ChannelKind.Mailbox End.Receivers)) is (mail-there c.self.inside.threads l c.args.name.now c.in_ok-no.no c.self.invariant.tied is) e.room e.sent e.full k;
      queues = other-queues l c.urgent_mail.new.self (put-others l.channels c.urgent_mail.new.self c.in_ok-no.no _ c.urgent_mail.result e.sent e.full) k;
    })

pub invariant_of-self : goal.invariant_of-self
invariant_of-self c = record {
  tied =
      let l = c.self.inside.lists in
      let e = c.urgent_mail.ensures in
      lists-kept c.self.inside.threads l _ c.self.invariant.tied refl (channels-keep l _ refl refl (put-keeps l.channels c.urgent_mail.new.self c.in_ok-no.no _ c.urgent_mail.result e.sent e.full));
  ready = c.self.invariant.ready;
}
