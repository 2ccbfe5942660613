use Rattle.std.proofs.Common.{◌≡◌, ℕ, List, [], ◌∷◌, Bool, true, false, cond, ◌||◌, Option, Some, None, is_some, refl, ◌∙◌, sym, ap}
use Rattle.std.specs.List.{find}
use Rattle.std.specs.Option.{option_map}
use Rattle.timer_skip.specs.Armed.{Armed, ArmedRow, left_of, due_of, tick_after, is_armed, is_row_of}
use Rattle.timer_skip.specs.Links.{line}
use Rattle.timer_skip.proofs.Lines.{left-by_number}
use Rattle.timer_skip.proofs.timers.Timers.due.Goals as goal

pub returns-clause-due : goal.returns-clause-due
returns-clause-due g c =
    let rows = c.self.inside.rows in
    c.due.ensures ∙ ap (option_map (tick_after rows.tick)) (sym (left-by_number c.args.no (line rows) c.self.invariant.in_order.in_order)) ∙ ap (λ (a : Armed). due_of c.args.no a) c.self.view_is

-- ticks that are left are found exactly where a timer is armed
found-armed : (timer : ℕ) (rows : List ArmedRow) → is_some (left_of timer rows) ≡ is_armed timer rows
found-armed timer [] = refl
found-armed timer (r ∷ rs) = by_test (is_row_of timer r) (found-armed timer rs)
  where
    by_test : (b : Bool) → is_some (left_of timer rs) ≡ is_armed timer rs → is_some (option_map (λ (t : ArmedRow). t.left) (cond b (Some r) (find (is_row_of timer) rs))) ≡ (b || is_armed timer rs)
    by_test true e = refl
    by_test false e = e

mapped : (f : ℕ → ℕ) (o : Option ℕ) → is_some (option_map f o) ≡ is_some o
mapped f None = refl
mapped f (Some n) = refl

pub returns-clause-armed : goal.returns-clause-armed
returns-clause-armed g c =
    ap is_some (returns-clause-due g c) ∙ mapped (tick_after c.args.self.now.tick) (left_of c.args.no c.args.self.now.rows) ∙ found-armed c.args.no c.args.self.now.rows
