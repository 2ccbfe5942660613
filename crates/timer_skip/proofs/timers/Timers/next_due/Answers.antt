use Rattle.std.proofs.Common.{None, Some, ◌≡◌, ◌≤◌, List, [], ◌∷◌, ℕ, ◌==◌, Option, true, IsTrue, IfSome, MatchOption, ◌||◌, refl, ◌∙◌, sym, ap, subst, arith, slice_get}
use Rattle.std.specs.List.{All, AllByRecursion, list_any}
use Rattle.std.specs.Option.{option_map}
use Rattle.std.proofs.lemmas.List.Elements.{All-from_recursion}
use Rattle.std.proofs.lemmas.Bool.Decides.{nat_tests}
use Rattle.timer_skip.specs.Armed.{Armed, ArmedRow, by_number, IsLeastLeft}
use Rattle.timer_skip.specs.Firing.{IsInOrder, FiresBefore}
use Rattle.timer_skip.specs.Links.{line}
use Rattle.timer_skip.proofs.Starts.{Each-weaker, Each-by_number, any-by_number}
use Rattle.timer_skip.proofs.timers.Timers.next_due.Goals as goal

first_left : List ArmedRow → Option ℕ
first_left rows = option_map (λ (r : ArmedRow). r.left) (slice_get rows 0)

cause : (rows : List ArmedRow) → MatchOption (first_left rows) (by_number rows ≡ []) (λ left. IsTrue (list_any (λ (t : ArmedRow). t.left == left) (by_number rows)))
unfolding first_left
cause [] = refl
cause (r ∷ rs) =
    let here : (r.left == r.left) ≡ true = grind (arith, nat_tests) in
    any-by_number (λ t. t.left == r.left) (r ∷ rs) ∙ ap (λ b. b || list_any (λ (s : ArmedRow). s.left == r.left) rs) here

least : (rows : List ArmedRow) → IsInOrder rows → MatchOption (first_left rows) (by_number rows ≡ []) (λ left. All (λ (t : ArmedRow). left ≤ t.left) (by_number rows))
unfolding first_left
least [] h = refl
least (r ∷ rs) h =
    All-from_recursion (λ (t : ArmedRow). r.left ≤ t.left) (by_number (r ∷ rs))
    (Each-by_number (λ (t : ArmedRow). r.left ≤ t.left) (r ∷ rs) (omega arith, Each-weaker (FiresBefore r) (λ (s : ArmedRow). r.left ≤ s.left) (λ s f. f.sooner) rs h.0))

both : (o : Option ℕ) (rows : List ArmedRow) → MatchOption o (rows ≡ []) (λ left. IsTrue (list_any (λ (t : ArmedRow). t.left == left) rows)) → MatchOption o (rows ≡ []) (λ left. All (λ (t : ArmedRow). left ≤ t.left) rows)
    → MatchOption o (rows ≡ []) (λ left. IsLeastLeft left rows)
both None rows c l = c
both (Some left) rows c l = record { one_has_it = c; none_has_less = l }

first_near : (rows : List ArmedRow) → AllByRecursion (λ (r : ArmedRow). r.left ≤ 2147483647) rows → IfSome (first_left rows) (λ left. left ≤ 2147483647)
unfolding first_left
first_near [] h = tt
first_near (r ∷ rs) h = h.0

pub returns-clause-near : goal.returns-clause-near
unfolding first_left
returns-clause-near g c =
    subst (λ (o : Option ℕ). IfSome o (λ left. left ≤ 2147483647)) (sym c.next_due.ensures) (first_near (line c.self.inside.rows) c.self.invariant.in_order.near)

pub returns-clause-least : goal.returns-clause-least
unfolding first_left
returns-clause-least g c =
    let rows = line c.self.inside.rows in
    subst (λ (a : Armed). MatchOption c.next_due.result (a.rows ≡ []) (λ left. IsLeastLeft left a.rows)) c.self.view_is
    (subst (λ (o : Option ℕ). MatchOption o (by_number rows ≡ []) (λ left. IsLeastLeft left (by_number rows))) (sym c.next_due.ensures)
    (both (first_left rows) (by_number rows) (cause rows) (least rows c.self.invariant.in_order.in_order)))
