use Rattle.std.proofs.Common.{rules, ◌≤◌, ◌∙◌, sym, ap, subst}
use Rattle.std.specs.List.{All}
use Rattle.std.proofs.lemmas.List.Elements.{recursion_from_All}
use Rattle.timer_skip.specs.Armed.{Armed, ArmedRow, by_number, after_ticks}
use Rattle.timer_skip.specs.Links.{line}
use Rattle.timer_skip.proofs.Starts.{Each-from_by_number}
use Rattle.timer_skip.proofs.Lines.{by_number-after, armed-is}
use Rattle.timer_skip.proofs.timers.Timers.advance.Goals as goal

pub advance-requires : goal.advance-requires
advance-requires g c =
    let n = c.args.n in
    let ahead = subst (λ (a : Armed). All (λ (row : ArmedRow). n ≤ row.left) a.rows) (sym c.self.view_is) c.requires in
    (search rules, (c.self.invariant, Each-from_by_number (λ (row : ArmedRow). n ≤ row.left) (line c.self.inside.rows) (recursion_from_All (λ (row : ArmedRow). n ≤ row.left) (by_number (line c.self.inside.rows)) ahead)))

pub returns : goal.returns
returns g c =
    armed-is _ _ _ _ _ _ c.advance.ensures.tick c.advance.ensures.count
    (ap by_number c.advance.ensures.line ∙ by_number-after c.args.n (line c.self.inside.rows))
    ∙ ap (after_ticks c.args.n) c.self.view_is
