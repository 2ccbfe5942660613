use Rattle.std.proofs.Common.{◌≡◌, ◌≤◌}
use Rattle.std.specs.List.{All}
use Rattle.std.specs.Prelude.{vec_len, vec_capacity}
use Rattle.ipc_queues.specs.Ends.{empty_ends}
use Rattle.ipc_queues.specs.declared.channels.MessageSlot.{MessageSlot}
use Rattle.ipc_queues.proofs.channels.free_messages.Given as goal

abbrev pub invariant-loop : goal.invariant-loop
invariant-loop l = record { free : All (λ (slot : MessageSlot). slot.ends ≡ empty_ends l.threads) l.messages.items; len : vec_len l.messages ≡ l.counter; room : l.count ≤ vec_capacity l.messages }
