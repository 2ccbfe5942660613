use Rattle.std.proofs.Common.{arith, sym, subst, ◌∙◌, ◌≡◌, ℕ, Some}
use Rattle.cpus_lock.specs.Rule.{IsBack}
use Rattle.cpus_lock.proofs.Ends.{closes}
use Rattle.cpus_lock.proofs.table.LockTable.close.Goals as goal

pub unreachable-requires : goal.unreachable-requires
unreachable-requires g c =
    let seat = c.args.seat in
    let lock = c.args.self in
    let key = lock.table.shared.key in
    let last = closes g.K.Nested key.cores key.value.value seat.id seat.me.0 _ _ c.take-was.result c.requires.idle.0 c.requires.idle.1 (λ k less. c.requires.all k (omega (arith, less, lock.counted.0))) c.close_with-closed.ensures.values.2 c.take-was.ensures.value in
    c.in_default.not-Some last.0 last.1

pub returns : goal.returns
returns g c =
    let seat = c.args.seat in
    let lock = c.args.self in
    let key = lock.table.shared.key in
    let last = closes g.K.Nested key.cores key.value.value seat.id seat.me.0 _ _ c.take-was.result c.requires.idle.0 c.requires.idle.1 (λ k less. c.requires.all k (omega (arith, less, lock.counted.0))) c.close_with-closed.ensures.values.2 c.take-was.ensures.value in
    let both : Some last.0 ≡ Some c.in-Some.value = sym last.1 ∙ c.in-Some.is in
    let is : last.0 ≡ c.in-Some.value = cc in
    let P : g.row.K.Denot → Type 0 = λ v. IsBack g.K.Nested key.cores key.value.value seat.me.0 v in
    let Q : ℕ → Type 0 = λ n. IsBack g.K.Nested n key.value.value seat.me.0 c.in-Some.value in
    subst Q lock.counted.0 (subst P is last.2)
