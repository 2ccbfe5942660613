use Rattle.std.proofs.Common.{◌≡◌, ◌+◌, ◌≤◌, [], map, reverse}
use Rattle.std.specs.Prelude.{vec_len, vec_capacity}
use Rattle.std.specs.List.{range_with_len}
use Rattle.cpus_lock.specs.Passes.{first_pass}
use Rattle.cpus_lock.specs.Rule.{first_seat}
use Rattle.cpus_lock.specs.Seats.{AreOf, lock_of}
use Rattle.cpus_lock.proofs.table.LockTable.deal.Given as goal

abbrev pub invariant-loop-core : goal.invariant-loop-core
invariant-loop-core g l =
    let table = l.fn.seat.table_id in
    let root = l.fn.seat.me.0.root in
    let log = l.fn.seat.me.0.log in
    (vec_len l.row + 1 ≡ l.core) × (l.self.cores ≤ vec_capacity l.row) × (l.seat.table_id ≡ table)
    × (l.seat.me ≡ (record (first_seat l.self.cores root log) { given = l.core }, []))
    × AreOf table l.row.items
    × (reverse l.row.items ≡ map (first_pass (lock_of table l.self.cores) root log) (range_with_len 1 (vec_len l.row)))
