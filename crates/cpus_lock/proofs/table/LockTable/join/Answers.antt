use Rattle.std.proofs.Common.{arith}
use Rattle.cpus_lock.proofs.Joins.{joins}
use Rattle.cpus_lock.proofs.table.LockTable.join.Goals as goal

pub join_seat-requires : goal.join_seat-requires
join_seat-requires g c =
    let table = c.args.self.now.table.shared in
    let seat = c.args.seat.now in
    let other = c.args.other in (
      c.requires.table.0,
      c.requires.table.1,
      c.requires.other.0,
      omega (arith, c.args.self.now.sized.0),
      joins g.K.Nested table.key.cores table.key.value.value seat.id seat.me.0 other.id other.me.0 c.requires.idle.0 c.requires.idle.1 c.requires.other.1 c.requires.other.2,
    )
