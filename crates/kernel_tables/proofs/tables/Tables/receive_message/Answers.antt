use Rattle.std.proofs.Common.{◌≡◌, ◌∙◌, ℕ, Option, Some, None, slice_get, sym, ap, refl, List}
use Rattle.std.specs.Option.{option_map}
use Rattle.rt_plain.specs.kernel.State.{MsgQueue as PlainQueue}
use Rattle.object_box.specs.Objects.{number_of}
use Rattle.ipc_queues.specs.declared.ends.End.{End}
use Rattle.ipc_queues.specs.declared.channels.ChannelKind.{ChannelKind}
use Rattle.kernel_tables.specs.Ready.{with_ready}
use Rattle.kernel_tables.specs.Tied.{tabled}
use Rattle.kernel_tables.specs.declared.wait_list.WaitList.{WaitList}
use Rattle.kernel_tables.proofs.MadeLemmas.{lists-kept}
use Rattle.kernel_tables.proofs.ChannelLemmas.{channels-keep}
use Rattle.kernel_tables.proofs.QueueLemmas.{queue-there, queue-some, queue-none, taken-state, taken-keeps, taken-others, other-mailboxes}
use Rattle.kernel_tables.proofs.tables.Tables.receive_message.Goals as goal

pub returns-in_err-no-clause-answer : goal.returns-in_err-no-clause-answer
returns-in_err-no-clause-answer c =
    let l = c.self.inside.lists in
    let none : number_of l.objects.msgqueue.objects c.args.name.now ≡ None = sym c.find.ensures ∙ c.in_err-no.was in
    c.from_residual.ensures ∙ rw (← c.self.view_is) (ap (option_map (λ (m : PlainQueue). slice_get m.messages 0)) (sym (queue-none l.channels l.objects.msgqueue.objects c.args.name.now none)))

pub returns-in_err-no-clause-state : goal.returns-in_err-no-clause-state
returns-in_err-no-clause-state c =
    let l = c.self.inside.lists in
    let none : number_of l.objects.msgqueue.objects c.args.name.now ≡ None = sym c.find.ensures ∙ c.in_err-no.was in
    rw (← c.self.view_is) (sym (rw (queue-none l.channels l.objects.msgqueue.objects c.args.name.now none) refl))

pub receive_message-requires : goal.receive_message-requires
receive_message-requires c = queue-there c.self.inside.threads c.self.inside.lists c.args.name.now c.in_ok-no.no c.self.invariant.tied (sym c.find.ensures ∙ c.in_ok-no.was)

pub returns-clause-answer : goal.returns-clause-answer
returns-clause-answer c =
    let l = c.self.inside.lists in
    rw (← c.self.view_is) (ap (λ (o : Option (List ℕ)). Some o) c.receive_message.ensures.message ∙ ap (option_map (λ (m : PlainQueue). slice_get m.messages 0)) (sym (queue-some l.channels l.objects.msgqueue.objects c.args.name.now c.in_ok-no.no (sym c.find.ensures ∙ c.in_ok-no.was))))

pub returns-clause-state : goal.returns-clause-state
returns-clause-state c =
    let l = c.self.inside.lists in
    let is : number_of l.objects.msgqueue.objects c.args.name.now ≡ Some c.in_ok-no.no = sym c.find.ensures ∙ c.in_ok-no.was in
    let e = c.receive_message.ensures in
    rw (← c.self.view_is) (λ k. record (with_ready (tabled c.self.inside.threads l) c.self.inside.ready) {
      queues = taken-state l c.args.name.now c.in_ok-no.no c.receive_message.result c.receive_message.new.self (c.self.invariant.tied.lists.sound (WaitList.Channel ChannelKind.MsgQueue End.Receivers)) is (queue-there c.self.inside.threads l c.args.name.now c.in_ok-no.no c.self.invariant.tied is) e.message e.taken e.empty k;
      mailboxes = other-mailboxes l c.receive_message.new.self (taken-others l.channels c.receive_message.new.self c.in_ok-no.no _ c.receive_message.result e.taken e.empty) k;
    })

pub invariant_of-self : goal.invariant_of-self
invariant_of-self c = record {
  tied =
      let l = c.self.inside.lists in
      let e = c.receive_message.ensures in
      lists-kept c.self.inside.threads l _ c.self.invariant.tied refl (channels-keep l _ refl refl (taken-keeps l.channels c.receive_message.new.self c.in_ok-no.no _ c.receive_message.result e.taken e.empty));
  ready = c.self.invariant.ready;
}
