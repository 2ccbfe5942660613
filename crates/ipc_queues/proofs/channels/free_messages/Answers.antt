use Rattle.std.proofs.Common.{◌≡◌, ◌+◌, arith, subst, sym, ◌∙◌, ap}
use Rattle.std.specs.List.{All}
use Rattle.ipc_queues.specs.Ends.{empty_ends}
use Rattle.ipc_queues.specs.declared.channels.MessageSlot.{MessageSlot}
use Rattle.ipc_queues.proofs.FreeLemmas.{message_more}
use Rattle.ipc_queues.proofs.channels.free_messages.Goals as goal

pub loop-preserved : goal.loop-preserved
loop-preserved c = record {
  free = subst (All (λ (slot : MessageSlot). slot.ends ≡ empty_ends c.args.threads)) (sym c.push_reserved.ensures.items) (message_more c.loop.messages.items _ c.args.threads c.loop.invariant.free c.in_ok-ends.ensures);
  len = c.push_reserved.ensures.len ∙ ap (λ n. n + 1) c.loop.invariant.len;
  room = omega (arith, c.loop.invariant.room, c.push_reserved.ensures.capacity);
}
