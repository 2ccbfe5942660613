use Rattle.std.proofs.Common.{◌≡◌, ◌++◌, reverse}
use Rattle.std.specs.Prelude.{vec_len}
use Rattle.cpus_lock.specs.Seats.{AreOf}
use Rattle.cpus_lock.proofs.table.LockTable.list.Given as goal

abbrev pub invariant-loop-pass : goal.invariant-loop-pass
invariant-loop-pass g l =
    let table = l.self.table.shared.table_id in
    (l.passes ++ reverse l.row.items ≡ reverse l.fn.row.items) × AreOf table l.row.items × AreOf table l.passes

abbrev pub decreases-loop-pass : goal.decreases-loop-pass
decreases-loop-pass g l = vec_len l.row
