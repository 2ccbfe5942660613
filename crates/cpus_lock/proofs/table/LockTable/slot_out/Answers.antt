use Rattle.std.proofs.Common.{Some, ap, sym, ◌∙◌, ◌∷◌}
use Rattle.atomic_table.specs.Table.{rest}
use Rattle.cpus_lock.proofs.table.LockTable.slot_out.Goals as goal

pub exchange-was-requires : goal.exchange-was-requires
exchange-was-requires g c =
    let home = c.requires.home in
    (c.requires.table, (Some home.0, home.1 ∙ ap (λ l. (0, Some home.0) ∷ rest l) (sym home.1)))
