use Rattle.std.proofs.Common.{◌≡◌, ◌∷◌, ◌∙◌, Some, None, sym, ap, refl}
use Rattle.std.specs.Prelude.{Result}
use Rattle.std.specs.Option.{option_map}
use Rattle.ipc_queues.specs.declared.fault.PutFault.{PutFault}
use Rattle.kernel_tables.specs.Tabled.{message_answer}
use Rattle.object_box.specs.Objects.{number_of}
use Rattle.ipc_queues.specs.declared.ends.End.{End}
use Rattle.ipc_queues.specs.declared.channels.ChannelKind.{ChannelKind}
use Rattle.kernel_tables.specs.Ready.{with_ready}
use Rattle.kernel_tables.specs.Tied.{tabled}
use Rattle.kernel_tables.specs.declared.wait_list.WaitList.{WaitList}
use Rattle.kernel_tables.proofs.MadeLemmas.{lists-kept}
use Rattle.kernel_tables.proofs.ChannelLemmas.{channels-keep}
use Rattle.kernel_tables.proofs.QueueLemmas.{queue-there, queue-some, queue-none, put-state, put-keeps, put-others, other-mailboxes}
use Rattle.kernel_tables.proofs.tables.Tables.urgent_message.Goals as goal

pub returns-in_err-no-clause-answer : goal.returns-in_err-no-clause-answer
returns-in_err-no-clause-answer c =
    let l = c.self.inside.lists in
    let none : number_of l.objects.msgqueue.objects c.args.name.now ≡ None = sym c.find.ensures ∙ c.in_err-no.was in
    c.from_residual.ensures ∙ rw (← c.self.view_is) (ap (option_map (message_answer c.args.text.now)) (sym (queue-none l.channels l.objects.msgqueue.objects c.args.name.now none)))

pub returns-in_err-no-clause-state : goal.returns-in_err-no-clause-state
returns-in_err-no-clause-state c =
    let l = c.self.inside.lists in
    let none : number_of l.objects.msgqueue.objects c.args.name.now ≡ None = sym c.find.ensures ∙ c.in_err-no.was in
    rw (← c.self.view_is) (sym (rw (queue-none l.channels l.objects.msgqueue.objects c.args.name.now none) refl))

pub urgent_message-requires : goal.urgent_message-requires
urgent_message-requires c = queue-there c.self.inside.threads c.self.inside.lists c.args.name.now c.in_ok-no.no c.self.invariant.tied (sym c.find.ensures ∙ c.in_ok-no.was)

pub returns-clause-answer : goal.returns-clause-answer
returns-clause-answer c =
    let l = c.self.inside.lists in
    rw (← c.self.view_is) (ap (λ (r : Result Unit PutFault). Some r) c.urgent_message.ensures.answer ∙ ap (option_map (message_answer c.args.text.now)) (sym (queue-some l.channels l.objects.msgqueue.objects c.args.name.now c.in_ok-no.no (sym c.find.ensures ∙ c.in_ok-no.was))))

pub returns-clause-state : goal.returns-clause-state
returns-clause-state c =
    let l = c.self.inside.lists in
    let is : number_of l.objects.msgqueue.objects c.args.name.now ≡ Some c.in_ok-no.no = sym c.find.ensures ∙ c.in_ok-no.was in
    let e = c.urgent_message.ensures in
    rw (← c.self.view_is) (λ k. record (with_ready (tabled c.self.inside.threads l) c.self.inside.ready) {
      queues = put-state l c.args.name.now c.in_ok-no.no c.args.text.now (λ messages. c.args.text.now ∷ messages) c.urgent_message.result c.urgent_message.new.self (c.self.invariant.tied.lists.sound (WaitList.Channel ChannelKind.MsgQueue End.Receivers)) is (queue-there c.self.inside.threads l c.args.name.now c.in_ok-no.no c.self.invariant.tied is) e.answer e.sent e.refused k;
      mailboxes = other-mailboxes l c.urgent_message.new.self (put-others l.channels c.urgent_message.new.self c.in_ok-no.no _ c.urgent_message.result e.sent e.refused) k;
    })

pub invariant_of-self : goal.invariant_of-self
invariant_of-self c = record {
  tied =
      let l = c.self.inside.lists in
      let e = c.urgent_message.ensures in
      lists-kept c.self.inside.threads l _ c.self.invariant.tied refl (channels-keep l _ refl refl (put-keeps l.channels c.urgent_message.new.self c.in_ok-no.no _ c.urgent_message.result e.sent e.refused));
  ready = c.self.invariant.ready;
}
