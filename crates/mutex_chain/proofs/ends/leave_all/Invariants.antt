use Rattle.std.proofs.Common.{◌≡◌, ◌+◌, ◌*◌, ◌-◌, length, drop}
use Rattle.rt_plain.specs.kernel.Ownership.{leave_edits}
use Rattle.mutex_chain.specs.Lines.{lines_of}
use Rattle.mutex_chain.proofs.ends.leave_all.Given as goal

abbrev pub invariant-loop-i : goal.invariant-loop-i
invariant-loop-i g l =
    (length l.owners.members ≡ length l.initial.owners.members) × (l.owners.ceilings ≡ l.initial.owners.ceilings)
    × (leave_edits (drop l.i l.threads) l.owners ≡ leave_edits l.threads l.initial.owners)
    × (l.curs.numbers.items ≡ l.initial.curs.numbers.items) × (l.curs.lines.items ≡ lines_of l.owners l.curs.numbers.items)
    × (l.steps + 2 * (length l.threads - l.i) ≡ l.initial.steps + 2 * length l.threads)
