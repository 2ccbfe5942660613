use Rattle.std.proofs.Common.{◌≡◌, ◌+◌, ◌-◌, ℕ, drop, get_or, subst, sym, arith}
use Rattle.std.proofs.lemmas.Bool.{eq-eqb}
use Rattle.rt_plain.proofs.text.FieldLemmas.{IsWithout, last_found}
use Rattle.rt_plain.proofs.fields.last_place.Goals as goal

pub returns-then-word-rest : goal.returns-then-word-rest
returns-then-word-rest c =
    let place = c.loop-rest.rest - 1 in
    let same : place + 1 ≡ c.loop-rest.rest = omega arith in
    (omega arith, last_found c.args.byte c.args.word.now place (omega arith) (subst (λ (n : ℕ). IsWithout c.args.byte (drop n c.args.word.now)) (sym same) c.loop-rest.invariant.1) (eq-eqb (get_or c.args.word.now place 0) c.args.byte c.if-word-rest.true))
