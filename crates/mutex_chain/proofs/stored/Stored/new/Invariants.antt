use Rattle.std.proofs.Common.{◌≡◌, ◌≤◌, None, replicate}
use Rattle.std.specs.Prelude.{vec_len, vec_capacity}
use Rattle.rt_base.specs.declared.codes.WaitOrder.{WaitOrder}
use Rattle.mutex_chain.proofs.stored.Stored.new.Given as goal

abbrev pub invariant-loop : goal.invariant-loop
invariant-loop l =
    (l.lines.items ≡ replicate l.counter (record { order = WaitOrder.Prio; rows = replicate l.threads None })) × (vec_len l.lines ≡ l.counter) × (l.mutexes ≤ vec_capacity l.lines)
