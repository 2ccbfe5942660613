use Rattle.std.proofs.Common.{ℕ, ◌<◌, List, [], ◌∷◌, map, sym, subst}
use Rattle.std.specs.List.{All, AllByRecursion}
use Rattle.std.proofs.lemmas.List.Elements.{recursion_from_All, All-from_recursion}
use Rattle.timer_skip.specs.Armed.{Armed, ArmedRow, row_after}
use Rattle.timer_skip_tests.proofs.tests.pass.Goals as goal

kept : (n at : ℕ) (rows : List ArmedRow) → AllByRecursion (λ (row : ArmedRow). row.number < at) rows → AllByRecursion (λ (row : ArmedRow). row.number < at) (map (row_after n) rows)
kept n at [] h = tt
kept n at (r ∷ rs) h = (h.0, kept n at rs h.1)

pub returns-clause-latest : goal.returns-clause-latest
returns-clause-latest g c = λ at h.
    let rows = c.args.timers.now.rows in
    subst (λ (a : Armed). All (λ (row : ArmedRow). row.number < at) a.rows) (sym c.advance.ensures)
    (All-from_recursion (λ (row : ArmedRow). row.number < at) (map (row_after c.args.n) rows) (kept c.args.n at rows (recursion_from_All (λ (row : ArmedRow). row.number < at) rows h)))
