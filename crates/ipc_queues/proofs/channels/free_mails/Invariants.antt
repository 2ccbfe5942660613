use Rattle.std.proofs.Common.{◌≡◌, ◌≤◌}
use Rattle.std.specs.List.{All}
use Rattle.std.specs.Prelude.{vec_len, vec_capacity}
use Rattle.ipc_queues.specs.Ends.{empty_ends}
use Rattle.ipc_queues.specs.declared.channels.MailSlot.{MailSlot}
use Rattle.ipc_queues.proofs.channels.free_mails.Given as goal

abbrev pub invariant-loop : goal.invariant-loop
invariant-loop l = record { free : All (λ (slot : MailSlot). slot.ends ≡ empty_ends l.threads) l.mails.items; len : vec_len l.mails ≡ l.counter; room : l.count ≤ vec_capacity l.mails }
