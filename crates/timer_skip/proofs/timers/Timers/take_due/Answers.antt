use Rattle.std.proofs.Common.{rules, ◌≡◌, ◌<◌, ◌∷◌, [], List, Some, None, slice_get, drop, map, refl, ◌∙◌, sym, ap, arith}
use Rattle.timer_skip.specs.Armed.{Armed, ArmedRow, by_number, due_rows, without}
use Rattle.timer_skip.specs.Firing.{armed_row, take_out, IsInOrder}
use Rattle.timer_skip.specs.Links.{line}
use Rattle.timer_skip.proofs.Lines.{due_later, due_first, take_out_first, by_start-take_out, armed-is}
use Rattle.timer_skip.proofs.timers.Timers.take_due.Goals as goal

-- without a first row nothing is due
no_first : (rows : List ArmedRow) → slice_get rows 0 ≡ None → due_rows (by_number rows) ≡ []
no_first [] e = refl
no_first (r ∷ rs) e = cc

-- where something is left of the first row, nothing is due
not_yet : (row : ArmedRow) (rows : List ArmedRow) → slice_get rows 0 ≡ Some row → IsInOrder rows → 0 < row.left → due_rows (by_number rows) ≡ []
not_yet row [] e h left = cc
not_yet row (r ∷ rs) e h left =
    let same : r ≡ row = cc in
    let is : r.left ≡ row.left = ap (λ (s : ArmedRow). s.left) same in
    due_later r rs h (omega arith)

-- a first row of which nothing is left is the first that is due, and the others are due behind it
at_once : (row : ArmedRow) (rows : List ArmedRow) → slice_get rows 0 ≡ Some row → IsInOrder rows → row.left ≡ 0 → due_rows (by_number rows) ≡ row ∷ due_rows (by_number (drop 1 rows))
at_once row [] e h is = cc
at_once row (r ∷ rs) e h is =
    let same : r ≡ row = cc in
    due_first r rs h (ap (λ (s : ArmedRow). s.left) same ∙ is) ∙ ap (λ (s : ArmedRow). s ∷ due_rows (by_number rs)) same

-- what is left of the rows
rest_is : (row : ArmedRow) (rows : List ArmedRow) → slice_get rows 0 ≡ Some row → take_out row.timer rows ≡ drop 1 rows
rest_is row [] e = cc
rest_is row (r ∷ rs) e =
    let same : r ≡ row = cc in
    sym (ap (λ (s : ArmedRow). take_out s.timer (r ∷ rs)) same) ∙ take_out_first r rs

pub returns-in_err-row-clause-due : goal.returns-in_err-row-clause-due
returns-in_err-row-clause-due g c =
    let none : c.from_residual.result ≡ None = search rules in
    let empty = no_first (line c.self.inside.rows) (sym c.in_err-row.ensures.row) in
    let nothing : due_rows c.args.self.now.rows ≡ [] = sym (ap (λ (a : Armed). due_rows a.rows) c.self.view_is) ∙ empty in
    rw none nothing

pub returns-then-left-gt0-clause-due : goal.returns-then-left-gt0-clause-due
returns-then-left-gt0-clause-due g c =
    let row = armed_row c.self.inside.rows.tick c.in_ok-row.row in
    let some : 0 < row.left = omega (arith, c.left.ensures, c.if-left-gt0.true) in
    sym (ap (λ (a : Armed). due_rows a.rows) c.self.view_is)
    ∙ not_yet row (line c.self.inside.rows) (sym c.in_ok-row.ensures.row) c.self.invariant.in_order.in_order some

pub returns-clause-due : goal.returns-clause-due
returns-clause-due g c =
    let rows = line c.self.inside.rows in
    let row = armed_row c.self.inside.rows.tick c.in_ok-row.row in
    let is : slice_get rows 0 ≡ Some row = sym c.in_ok-row.ensures.row in
    let none : row.left ≡ 0 = omega (arith, c.left.ensures, c.if-left-gt0.false) in
    let first = at_once row rows is c.self.invariant.in_order.in_order none in
    let rest : drop 1 rows ≡ line c.remove.new.self = sym (c.remove.ensures.line ∙ rest_is row rows is) in
    ap (map (λ (t : ArmedRow). t.timer))
    (sym (ap (λ (a : Armed). due_rows a.rows) c.self.view_is) ∙ first ∙ ap (λ (l : List ArmedRow). row ∷ due_rows (by_number l)) rest)

pub returns-clause-rows : goal.returns-clause-rows
returns-clause-rows g c =
    armed-is _ _ _ _ _ _ c.remove.ensures.tick c.remove.ensures.count
    (ap by_number c.remove.ensures.line ∙ by_start-take_out c.in_ok-row.row.no (line c.self.inside.rows) c.self.invariant.in_order.in_order)
    ∙ ap (λ (a : Armed). record a { rows = without c.in_ok-row.row.no a.rows }) c.self.view_is
