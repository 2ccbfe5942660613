use Rattle.std.proofs.Common.{◌≡◌, ◌+◌, length, take, drop, true}
use Rattle.std.specs.Prelude.{IfSome}
use Rattle.rt_plain.specs.kernel.Waiting.{head_of}
use Rattle.susp_list.specs.Rows.{line, holds}
use Rattle.mutex_chain.proofs.ends.list_line.Given as goal

abbrev pub invariant-loop : goal.invariant-loop
invariant-loop g l =
    (l.woken.threads ≡ l.fn.woken.threads) × (l.woken.woken ≡ take l.counter (line l.list)) × (l.next ≡ head_of (drop l.counter (line l.list))) × IfSome l.next (λ t. holds l.list t ≡ true)
    × (l.steps ≡ l.initial.steps + length l.woken.woken)
