use Rattle.std.proofs.Common.{◌≡◌, ◌∙◌, true, sym, subst}
use Rattle.std.specs.Str.{bytes_eq}
use Rattle.rt_edge.proofs.ShelfLemmas.{names_of-drop}
use Rattle.rt_edge.proofs.shelf.find.Goals as goal

pub returns-then-eq-clause-found : goal.returns-then-eq-clause-found
returns-then-eq-clause-found c =
    let same : bytes_eq c.index-files-number.result.0 c.args.name.now ≡ true =
    subst (λ x. bytes_eq x c.args.name.now ≡ true) c.as_slice.ensures (sym c.eq.ensures ∙ c.if-eq.true)
    in
    c.loop-number.invariant
    ∙ names_of-drop _ _ _ _ c.loop-number-test.true c.index-files-number.is same
