use Rattle.std.proofs.Common.{◌∷◌, Option, Some, ap, subst, sym, ◌∙◌, arith}
use mathlib.Core.Option.{none}
use Rattle.atomic_table.specs.Table.{Allows, Me, step, rest}
use Rattle.cpus_lock.specs.declared.knows.Knows.{Knows}
use Rattle.cpus_lock.specs.Rule.{Locked, Left}
use Rattle.cpus_lock.proofs.Turns.{leaves_word}
use Rattle.cpus_lock.proofs.table.LockTable.release.Goals as goal

pub store-requires : goal.store-requires
store-requires g c =
    let table = c.args.self.now.table.shared in
    let seat = c.args.seat.now in
    let after = c.exchange-was.new.seat in
    let value = c.args.value in
    let meanings = g.K.Nested in
    let first = table.key.value.value in
    let me_is = c.exchange-was.ensures.3 ∙ ap (λ l. (seat.me.0, (0, Some value) ∷ rest l)) c.requires.out in
    let P : Me (Option g.row.K.Denot) Knows → Type 0 = λ me. Allows (Locked meanings table.key.cores first) table.table_id.slots after.id me 0 (λ _. 0) (λ _. Left meanings (step table.table_id.slots 0 0 0 none) me 0) in (
      c.exchange-was.ensures.0 ∙ c.requires.table,
      omega (arith, c.args.self.now.sized.0),
      subst P (sym me_is) (leaves_word meanings table.key.cores first table.table_id.slots after.id seat.me.0 value c.requires.holds.0 c.requires.holds.1 c.requires.holds.2 c.requires.root c.requires.log c.requires.nest),
    )
