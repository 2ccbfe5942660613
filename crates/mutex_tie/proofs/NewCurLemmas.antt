-- The changes that the graph lists are those of the plain states.
use Rattle.std.proofs.Common.{ℕ, ◌≡◌, ◌<◌, Option, None, Bool, true, false, not, ◌&&◌, refl, sym, ap, ◌∙◌, arith, length, map, ◌⊎◌, inl, inr}
use Rattle.std.specs.Prelude.{◌==◌}
use Rattle.std.specs.List.{range_with_len, filter_map}
use Rattle.std.specs.Option.{option_map}
use Rattle.std.proofs.lemmas.Bool.{cases_Bool}
use Rattle.rt_plain.specs.kernel.State.{State, thread_at}
use Rattle.rt_plain.specs.kernel.Priority.{cur}
use Rattle.rt_plain.specs.kernel.Calls.{prio_line, prio_lines}
use Rattle.rt_plain.specs.kernel.Ownership.{Ownership, CurChange, member_at, is_there, cur_in, change_at, changes}
use Rattle.object_box.specs.Objects.{ClassObjects}
use Rattle.mutex_tie.specs.Tie.{StandsFor}
use Rattle.mutex_tie.specs.Changes.{change_line, new_cur_of, new_curs, CameFrom}
use Rattle.mutex_tie.proofs.CurLemmas.{cur-tied, members-length}
use Rattle.mutex_tie.proofs.HoldingLemmas.{member-tied}
use Rattle.mutex_tie.proofs.WaiterLemmas.{filter_map-below}
use Rattle.mutex_tie.proofs.ChangeLemmas.{made_if, line_if, change_by, member-closed, there-tied, filter_map-map, is_ended}

abbrev new_by : Bool → ℕ → ℕ → ℕ → Option CurChange
new_by d t x y = made_if (not d && not (x == y)) t x y

-- the change of a thread
change-is : (before after : State) (c d : ClassObjects) (o p : Ownership) (t : ℕ) → StandsFor before c o → StandsFor after d p → CameFrom before after → t < length after.threads → change_at o p t ≡ new_cur_of before after t
change-is before after c d o p t first last came low = sym (by_case (cases_Bool (is_ended after t)))
  where
    off : (a : Bool) (x y : ℕ) → change_by a false t x y ≡ None
    off true x y = refl
    off false x y = refl

    by_case : (is_ended after t ≡ true) ⊎ (is_ended after t ≡ false) → new_cur_of before after t ≡ change_at o p t
    by_case (inl gone) =
        ap (λ e. new_by e t (cur before t) (cur after t)) gone
        ∙ sym (ap (λ m. change_by (is_there (member_at o t)) (is_there m) t (cur_in o t) (cur_in p t)) (member-tied after d p t last ∙ member-closed d.objects (thread_at after t) gone)
        ∙ off (is_there (member_at o t)) (cur_in o t) (cur_in p t))
    by_case (inr lives) =
        let lived : is_ended before t ≡ false = came.ended t lives in
        ap (λ e. new_by e t (cur before t) (cur after t)) lives
        ∙ ap (λ x. new_by false t x (cur after t)) (cur-tied before c o t first (omega (arith, low, came.size)) lived)
        ∙ ap (λ y. new_by false t (cur_in o t) y) (cur-tied after d p t last low lives)
        ∙ sym (ap (λ a. change_by a (is_there (member_at p t)) t (cur_in o t) (cur_in p t)) (there-tied before c o t first lived)
        ∙ ap (λ a. change_by true a t (cur_in o t) (cur_in p t)) (there-tied after d p t last lives))

-- what an edit lists is by the plain states alone
pub changes-tied : (before after : State) (c d : ClassObjects) (o p : Ownership) → StandsFor before c o → StandsFor after d p → CameFrom before after → changes o p ≡ new_curs before after
changes-tied before after c d o p first last came =
    ap (λ n. filter_map (change_at o p) (range_with_len 0 n)) (members-length after d p last)
    ∙ filter_map-below (change_at o p) (new_cur_of before after) 0 (length after.threads) (λ t below. change-is before after c d o p t first last came (omega (arith, below)))

-- the lines of the definition are those of the changes, whatever the states
pub prio-lines-new : (before after : State) → prio_lines before after ≡ map (change_line after) (new_curs before after)
prio-lines-new before after =
    filter_map-below (prio_line before after) (λ t. option_map (change_line after) (new_cur_of before after t)) 0 (length after.threads) (λ t below. by_test t (not (is_ended after t) && not (cur before t == cur after t)))
    ∙ filter_map-map (change_line after) (new_cur_of before after) (range_with_len 0 (length after.threads))
  where
    by_test : (t : ℕ) (e : Bool) → line_if e after t (cur before t) (cur after t) ≡ option_map (change_line after) (made_if e t (cur before t) (cur after t))
    by_test t true = refl
    by_test t false = refl
