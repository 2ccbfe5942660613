use Rattle.ipc_counts.proofs.SendLemmas.{IsSending}
use Rattle.ipc_counts.proofs.event.EventObj.send.Given as goal

abbrev pub invariant-loop : goal.invariant-loop
invariant-loop l = IsSending l.fn.self l.flags l.fn.woken.threads l.self-inside.waiters l.self-inside.wants.items l.woken l.left l.next l.counter
