use Rattle.std.proofs.Common.{ℕ, List, ◌+◌, eqb, Option, subst, sym, arith}
use prog.Atomic.{either}
use mathlib.Core.Option.{none}
use Rattle.atomic_table.specs.Table.{Allows, step}
use Rattle.cpus_lock.specs.Rule.{Locked, Took}
use Rattle.cpus_lock.proofs.Turns.{takes_word}
use Rattle.cpus_lock.proofs.table.LockTable.take.Goals as goal

pub compare_exchange-requires : goal.compare_exchange-requires
compare_exchange-requires g c =
    let table = c.args.self.now.table.shared in
    let seat = c.args.seat.now in
    let core = c.args.core in
    let meanings = g.K.Nested in
    let first = table.key.value.value in
    let idle = c.requires.idle in
    let P : List (ℕ × Option g.row.K.Denot) → Type 0 = λ held. Allows (Locked meanings table.key.cores first) table.table_id.slots seat.id (seat.me.0, held) 0 (λ n. either (eqb n 0) (core + 1) n) (Took meanings (step 1 0 0 (core + 1) none) (seat.me.0, held)) in (
      c.requires.table,
      omega (arith, c.args.self.now.sized.0),
      subst P (sym idle.0) (takes_word meanings table.key.cores first table.table_id.slots seat.id core seat.me.0 idle.1 idle.2 c.requires.core),
    )
