use Rattle.std.proofs.Common.{arith}
use Rattle.cpus_lock.proofs.Shares.{splits}
use Rattle.cpus_lock.proofs.table.LockTable.split.Goals as goal

pub split_seat-requires : goal.split_seat-requires
split_seat-requires g c =
    let table = c.args.self.now.table.shared in (
      c.requires.table,
      omega (arith, c.args.self.now.sized.0),
      splits g.K.Nested table.key.cores table.key.value.value c.args.seat.now.id c.args.seat.now.me.0 c.requires.idle.0 c.requires.idle.1 c.requires.next.0 c.requires.next.1,
    )
