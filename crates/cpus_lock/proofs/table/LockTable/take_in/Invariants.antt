use Rattle.std.proofs.Common.{◌≡◌, true, false, length}
use Rattle.cpus_lock.specs.Seats.{AreOf, taker}
use Rattle.cpus_lock.proofs.table.LockTable.take_in.Given as goal

abbrev pub invariant-loop-pass : goal.invariant-loop-pass
invariant-loop-pass g l =
    (l.seat.table_id ≡ l.initial.seat.table_id) × (l.seat.me.0.live ≡ true) × (l.seat.me.0.holding ≡ false) × (l.seat.me.1 ≡ l.initial.seat.me.1)
    × AreOf l.self.table.shared.table_id l.passes
    × (taker l.seat.me.0 l.passes ≡ taker l.initial.seat.me.0 l.fn.passes)

abbrev pub decreases-loop-pass : goal.decreases-loop-pass
decreases-loop-pass g l = length l.passes
