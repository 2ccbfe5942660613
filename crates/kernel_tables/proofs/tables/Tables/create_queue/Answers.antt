use Rattle.std.proofs.Common.{arith, ◌<◌, [], sym, length, subst, refl}
use Rattle.std.specs.Prelude.{Result, Ok}
use Rattle.rt_plain.specs.kernel.State.{MsgQueue as PlainQueue}
use Rattle.object_box.specs.declared.fault.Make.{Make}
use Rattle.ipc_queues.specs.declared.channels.ChannelKind.{ChannelKind}
use Rattle.ipc_queues.specs.declared.ends.End.{End}
use Rattle.kernel_tables.specs.declared.wait_list.WaitList.{WaitList}
use Rattle.kernel_tables.specs.Tabled.{Tabled, CreatesQueue}
use Rattle.kernel_tables.specs.Tied.{tabled}
use Rattle.kernel_tables.proofs.SemLemmas.{shown, err-is}
use Rattle.kernel_tables.proofs.QueueLemmas.{tied-made, free-end, made-seen, refused-seen}
use Rattle.kernel_tables.proofs.ReadyLemmas.{creates-queue}
use Rattle.kernel_tables.proofs.tables.Tables.create_queue.Goals as goal

pub returns-in_err-no : goal.returns-in_err-no
returns-in_err-no c =
    let l = c.self.inside.lists in
    let made : PlainQueue = record { name = c.args.name; max = c.args.queue.max; size = c.args.queue.size; order = c.args.order; messages = [] } in
    let after : Tabled = shown c.self.inside.threads c.make.new.self l.sems.items l.events.items l.channels in
    rw (← c.self.view_is) (creates-queue c.self.inside.ready (tabled c.self.inside.threads l) after made c.from_residual.result
    (subst (λ (r : Result Unit Make). CreatesQueue (tabled c.self.inside.threads l) after made r)
    (sym (err-is c.from_residual.result c.in_err-no.field-0.0 c.from_residual.ensures))
    (refused-seen c.self.inside.threads l c.make.new.self made c.in_err-no.field-0.0 c.in_err-no.ensures.cause c.in_err-no.ensures.state)))

pub put_queue-requires-clause-there : goal.put_queue-requires-clause-there
put_queue-requires-clause-there c = omega (arith, c.in_ok-no.ensures.cause.1.1.1, c.self.invariant.tied.slots (WaitList.Channel ChannelKind.MsgQueue End.Receivers))

pub put_queue-requires-clause-receivers : goal.put_queue-requires-clause-receivers
put_queue-requires-clause-receivers c = let cause = c.in_ok-no.ensures.cause in free-end c.self.inside.threads c.self.inside.lists c.in_ok-no.no End.Receivers c.self.invariant.tied cause.1.1.1 cause.1.1.0.free

pub put_queue-requires-clause-senders : goal.put_queue-requires-clause-senders
put_queue-requires-clause-senders c = let cause = c.in_ok-no.ensures.cause in free-end c.self.inside.threads c.self.inside.lists c.in_ok-no.no End.Senders c.self.invariant.tied cause.1.1.1 cause.1.1.0.free

pub invariant_of-self-2 : goal.invariant_of-self-2
invariant_of-self-2 c = record {
  tied =
      tied-made c.self.inside.threads c.self.inside.lists _ c.args.name c.in_ok-no.no c.args.queue c.args.order c.self.invariant.tied c.in_ok-no.ensures.state c.in_ok-no.ensures.cause.0 c.count.ensures.sound refl refl c.put_queue.ensures;
  ready = c.self.invariant.ready;
}

pub returns : goal.returns
returns c =
    let l = c.self.inside.lists in
    let cause = c.in_ok-no.ensures.cause in
    let there : c.in_ok-no.no < length l.channels.messages = omega (arith, cause.1.1.1, c.self.invariant.tied.slots (WaitList.Channel ChannelKind.MsgQueue End.Receivers)) in
    rw (← c.self.view_is) (creates-queue c.self.inside.ready (tabled c.self.inside.threads l) (shown c.self.inside.threads c.make.new.self l.sems.items l.events.items c.put_queue.new.self) (record { name = c.args.name; max = c.args.queue.max; size = c.args.queue.size; order = c.args.order; messages = [] }) (Ok tt)
    (made-seen c.self.inside.threads l c.make.new.self c.put_queue.new.self c.args.name c.args.queue c.args.order c.in_ok-no.no there cause.0 cause.1.0 cause.1.1.0.free c.in_ok-no.ensures.state c.requires c.put_queue.ensures))
