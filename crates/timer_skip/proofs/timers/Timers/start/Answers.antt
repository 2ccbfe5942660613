use Rattle.std.proofs.Common.{rules, ◌≡◌, ◌<◌, ◌∷◌, ◌++◌, [], List, false, ◌∙◌, ap, arith}
use Rattle.std.specs.List.{All, AllByRecursion}
use Rattle.std.proofs.lemmas.List.Elements.{recursion_from_All}
use Rattle.timer_skip.specs.Armed.{Armed, ArmedRow, by_number, is_armed}
use Rattle.timer_skip.specs.Firing.{IsAnew}
use Rattle.timer_skip.specs.Links.{line}
use Rattle.timer_skip.proofs.Lines.{is_anew, started_last, armed-is}
use Rattle.timer_skip.proofs.timers.Timers.start.Goals as goal

-- what is required, of the rows in the order in which they fire
anew : (row : ArmedRow) (rows : List ArmedRow) (a : Armed) → by_number rows ≡ a.rows → is_armed row.timer a.rows ≡ false → All (λ (t : ArmedRow). t.number < row.number) a.rows → AllByRecursion (IsAnew row) rows
anew row rows a is free latest =
    is_anew row rows (ap (is_armed row.timer) is ∙ free) (recursion_from_All (λ (t : ArmedRow). t.number < row.number) (by_number rows) (rw is latest))

pub insert-requires : goal.insert-requires
insert-requires g c =
    let row : ArmedRow = record { left = c.args.after; number = c.args.at; timer = c.args.no } in
    let fresh = anew row (line c.self.inside.rows) c.args.self.now (ap (λ (a : Armed). a.rows) c.self.view_is) c.requires.free c.requires.latest in
    (search rules, (c.self.invariant, (omega (arith, ap (λ (a : Armed). a.count) c.self.view_is, c.requires.below), (c.requires.near, fresh))))

pub returns : goal.returns
returns g c =
    let row : ArmedRow = record { left = c.args.after; number = c.args.at; timer = c.args.no } in
    let rows = line c.self.inside.rows in
    let fresh = anew row rows c.args.self.now (ap (λ (a : Armed). a.rows) c.self.view_is) c.requires.free c.requires.latest in
    armed-is _ _ _ _ _ _ c.insert.ensures.tick c.insert.ensures.count (ap by_number c.insert.ensures.line ∙ started_last row rows fresh)
    ∙ ap (λ (a : Armed). record a { rows = a.rows ++ row ∷ [] }) c.self.view_is
