use Rattle.std.proofs.Common.{◌≡◌, ◌∙◌, sym, arith}
use Rattle.std.proofs.lemmas.Bool.{eq-eqb, ne_eqb}
use Rattle.mutex_tables.proofs.PassedLemmas.{find-behind, found-before, name-here}
use Rattle.mutex_tables.proofs.passed.name_of.Goals as goal

pub returns-then-other-no : goal.returns-then-other-no
returns-then-other-no c =
    name-here c.args.names.now.mutex.objects c.args.no c.loop-place.place (record { no = c.at-other.result.0; name = c.at-other.result.1 }) c.at-other.ensures c.loop-place.invariant
    (eq-eqb c.at-other.result.0 c.args.no (sym c.other.view_is ∙ c.if-other-no.true ∙ c.no.view_is))

pub loop-place-preserved : goal.loop-place-preserved
loop-place-preserved c =
    find-behind c.args.names.now.mutex.objects c.args.no c.loop-place.place (record { no = c.at-other.result.0; name = c.at-other.result.1 }) c.at-other.ensures c.loop-place.invariant
    (ne_eqb c.at-other.result.0 c.args.no (λ same. c.if-other-no.false (c.other.view_is ∙ same ∙ sym c.no.view_is)))

pub unreachable-requires : goal.unreachable-requires
unreachable-requires c = found-before c.args.names.now.mutex.objects c.args.no c.loop-place.place c.requires c.loop-place.invariant (omega (arith, c.loop-place-test.false, c.count-place-end.ensures.count))
