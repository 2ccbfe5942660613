use Rattle.std.proofs.Common.{◌++◌, map, ◌∙◌, is_some, refl, sym, subst, ap}
use Rattle.std.proofs.lemmas.Option.{none-some}
use Rattle.object_box.specs.Classes.{AllObjects}
use Rattle.object_box.specs.Objects.{number_of, has_number}
use Rattle.ipc_queues.specs.declared.channels.ChannelKind.{ChannelKind}
use Rattle.ipc_queues.specs.declared.ends.End.{End}
use Rattle.kernel_tables.specs.Ready.{IsReady, row_for}
use Rattle.kernel_tables.specs.Tabled.{without_queue}
use Rattle.kernel_tables.specs.Tied.{tabled}
use Rattle.kernel_tables.specs.declared.wait_list.WaitList.{WaitList}
use Rattle.kernel_tables.proofs.FoundLemmas.{found-has}
use Rattle.kernel_tables.proofs.QueueLemmas.{queue-there, queue-none, queue-some, woken-seen, removed-seen, tied-removed}
use Rattle.kernel_tables.proofs.ReadyLemmas.{IsEntered, ends-entered, removed-with, more-threads}
use Rattle.kernel_tables.proofs.SemLemmas.{shown}
use Rattle.kernel_tables.proofs.tables.Tables.delete_queue.Goals as goal

pub returns-in_default-clause-answer : goal.returns-in_default-clause-answer
returns-in_default-clause-answer c =
    let l = c.self.inside.lists in
    rw (← c.self.view_is) (sym (ap is_some (queue-none l.channels l.objects.msgqueue.objects c.args.name.now (sym c.find.ensures ∙ c.in_default.is))))

pub returns-in_default-clause-woken : goal.returns-in_default-clause-woken
returns-in_default-clause-woken c =
    let l = c.self.inside.lists in
    rw (← c.self.view_is) (λ queue found. absurd (none-some queue (sym (queue-none l.channels l.objects.msgqueue.objects c.args.name.now (sym c.find.ensures ∙ c.in_default.is)) ∙ found)))

pub wake_ends-requires-clause-there : goal.wake_ends-requires-clause-there
wake_ends-requires-clause-there c = queue-there c.self.inside.threads c.self.inside.lists c.args.name.now c.in-Some.no c.self.invariant.tied (sym c.find.ensures ∙ c.in-Some.is)

entered : (c : goal.After-count) → IsEntered c.wake_ends.new.threads c.self.inside.ready c.wake_ends.new.woken
entered c =
    ends-entered c.self.inside.threads c.wake_ends.new.threads c.self.inside.lists c.self.inside.ready ChannelKind.MsgQueue c.in-Some.no c.wake_ends.new.woken c.self.invariant
    (queue-there c.self.inside.threads c.self.inside.lists c.args.name.now c.in-Some.no c.self.invariant.tied (sym c.find.ensures ∙ c.in-Some.is)) c.wake_ends.ensures.woken c.wake_ends.ensures.threads

pub enter_all-requires : goal.enter_all-requires
enter_all-requires c =
    (ends-entered c.self.inside.threads c.wake_ends.new.threads c.self.inside.lists c.self.inside.ready ChannelKind.MsgQueue c.in-Some.no c.wake_ends.new.woken c.self.invariant
    (queue-there c.self.inside.threads c.self.inside.lists c.args.name.now c.in-Some.no c.self.invariant.tied (sym c.find.ensures ∙ c.in-Some.is)) c.wake_ends.ensures.woken c.wake_ends.ensures.threads).may

pub remove-requires : goal.remove-requires
remove-requires c = ap (λ (a : AllObjects). has_number a.msgqueue.objects c.in-Some.no) c.wake_ends.ensures.shown.objects ∙ found-has c.self.inside.lists.objects.msgqueue.objects c.args.name.now c.in-Some.no (sym c.find.ensures ∙ c.in-Some.is)

pub invariant_of-self : goal.invariant_of-self
invariant_of-self c = record {
  tied =
      let w = c.wake_ends.ensures in
      tied-removed c.wake_ends.new.threads c.wake_ends.new.lists _ c.args.name.now c.in-Some.no w.tied (ap (λ (a : AllObjects). number_of a.msgqueue.objects c.args.name.now) w.shown.objects ∙ (sym c.find.ensures ∙ c.in-Some.is)) w.empty
      c.remove.ensures c.count.ensures.sound refl refl refl;
  ready = subst (IsReady c.wake_ends.new.threads) (sym c.enter_all.ensures) (entered c).ready;
}

pub returns-clause-answer : goal.returns-clause-answer
returns-clause-answer c =
    let l = c.self.inside.lists in
    rw (← c.self.view_is) (sym (ap is_some (queue-some l.channels l.objects.msgqueue.objects c.args.name.now c.in-Some.no (sym c.find.ensures ∙ c.in-Some.is))))

pub returns-clause-woken : goal.returns-clause-woken
returns-clause-woken c =
    rw (← c.self.view_is) (λ queue found. woken-seen c.self.inside.threads c.self.inside.lists c.args.name.now c.in-Some.no c.wake_ends.new.woken queue c.self.invariant.tied (sym c.find.ensures ∙ c.in-Some.is) c.wake_ends.ensures.woken found)

pub returns-clause-state : goal.returns-clause-state
returns-clause-state c =
    let l = c.self.inside.lists in
    let w = c.wake_ends.ensures in
    let r = c.self.inside.ready in
    rw (← c.self.view_is, c.enter_all.ensures) (removed-with r (r.rows ++ map (row_for c.wake_ends.new.threads) c.wake_ends.new.woken) (shown c.wake_ends.new.threads c.remove.new.self c.wake_ends.new.lists.sems.items c.wake_ends.new.lists.events.items c.wake_ends.new.lists.channels) (without_queue (tabled c.self.inside.threads l) c.args.name.now c.wake_ends.new.woken) c.wake_ends.new.woken (more-threads c.wake_ends.new.threads r.rows c.wake_ends.new.woken)
    (removed-seen c.self.inside.threads c.wake_ends.new.threads l c.wake_ends.new.lists c.remove.new.self c.args.name.now c.in-Some.no c.wake_ends.new.woken (c.self.invariant.tied.lists.sound (WaitList.Channel ChannelKind.MsgQueue End.Receivers)) (sym c.find.ensures ∙ c.in-Some.is) w.threads w.shown c.remove.ensures))

pub returns-clause-few : goal.returns-clause-few
returns-clause-few c = rw (← c.self.view_is) c.wake_ends.ensures.few
