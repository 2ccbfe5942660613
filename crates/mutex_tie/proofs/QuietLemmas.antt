-- An action that leaves the graph settles to itself.
use Rattle.std.proofs.Common.{ℕ, ◌≡◌, List, [], ◌∷◌, ◌++◌, Option, None, Bool, true, false, not, cond, ◌&&◌, refl, ap, ◌∙◌, arith, eqb, length}
use Rattle.std.specs.Prelude.{filter, ◌==◌, if◌then◌else◌}
use Rattle.std.specs.List.{range_with_len, filter_map, cons_option}
use Rattle.std.proofs.lemmas.List.{append-nil}
use Rattle.rt_base.specs.Codes.{sleep_number}
use Rattle.rt_plain.specs.declared.line.Line.{Line}
use Rattle.rt_plain.specs.PlainBoard.{PlainBoard}
use Rattle.rt_plain.specs.kernel.State.{State, is_among}
use Rattle.rt_plain.specs.kernel.PowerCalls.{sleep_mode, voted_mode}
use Rattle.rt_plain.specs.kernel.Effects.{Effect}
use Rattle.rt_plain.specs.kernel.Calls.{settled_effect, mode_lines}
use Rattle.rt_plain.specs.kernel.Ownership.{Ownership, CurChange, member_at, is_there, cur_in, change_at, changes}
use Rattle.object_box.specs.Objects.{ClassObjects}
use Rattle.mutex_tie.specs.Tie.{StandsFor}
use Rattle.mutex_tie.specs.Changes.{followed_effect, CameFrom, AreLive}
use Rattle.mutex_tie.proofs.ChangeLemmas.{settled-tied, made_if}

-- the changes between a moment and itself
none-same : (o : Ownership) (t : ℕ) → change_at o o t ≡ None
none-same o t = ap (λ e. made_if (is_there (member_at o t) && (is_there (member_at o t) && not e)) t (cur_in o t) (cur_in o t)) (self (cur_in o t)) ∙ by_there (is_there (member_at o t))
  where
    self : (m : ℕ) → eqb m m ≡ true
    self m = grind arith

    by_there : (a : Bool) → made_if (a && (a && false)) t (cur_in o t) (cur_in o t) ≡ None
    by_there true = refl
    by_there false = refl

filter_map-none : (h : ℕ → Option CurChange) → ((x : ℕ) → h x ≡ None) → (xs : List ℕ) → filter_map h xs ≡ []
filter_map-none h none [] = refl
filter_map-none h none (x ∷ xs) = ap (λ r. cons_option r (filter_map h xs)) (none x) ∙ filter_map-none h none xs

pub changes-self : (o : Ownership) → changes o o ≡ []
changes-self o = filter_map-none (change_at o o) (none-same o) (range_with_len 0 (length o.members))

and-false : (b : Bool) → b && false ≡ false
and-false true = refl
and-false false = refl

all-stay : (p : ℕ → Bool) (xs : List ℕ) → filter (λ x. not (p x && false)) xs ≡ xs
all-stay p [] = refl
all-stay p (x ∷ xs) = ap (λ c. cond (not c) (x ∷ filter (λ y. not (p y && false)) xs) (filter (λ y. not (p y && false)) xs)) (and-false (p x)) ∙ ap (λ ys. x ∷ ys) (all-stay p xs)

none-goes : (p : ℕ → Bool) (xs : List ℕ) → filter (λ x. p x && false) xs ≡ []
none-goes p [] = refl
none-goes p (x ∷ xs) = ap (λ c. cond c (x ∷ filter (λ y. p y && false) xs) (filter (λ y. p y && false) xs)) (and-false (p x)) ∙ none-goes p xs

abbrev mode_by : PlainBoard → List ℕ → List ℕ → List Line
mode_by b old new = if sleep_number (voted_mode b.default_mode old) == sleep_number (voted_mode b.default_mode new) then [] else Line.Mode (voted_mode b.default_mode new) ∷ []

same-mode : (b : PlainBoard) (before after : State) → before.votes ≡ after.votes → mode_lines b before after ≡ []
same-mode b before after same = ap (λ votes. mode_by b votes after.votes) same ∙ ap (λ (c : Bool). if c then [] else Line.Mode (sleep_mode b after) ∷ []) (self (sleep_number (sleep_mode b after)))
  where
    self : (m : ℕ) → eqb m m ≡ true
    self m = grind arith

abbrev settled_by : Effect → List ℕ → List ℕ → List Line → List Line → Effect
settled_by e stay go prio mode = record { state = record (e.state) { ready = stay ++ go }; lines = e.lines ++ prio ++ mode }

-- an action that leaves the graph settles to itself
pub settled-quiet : (b : PlainBoard) (before : State) (e : Effect) (c d : ClassObjects) (o : Ownership) → StandsFor before c o → StandsFor e.state d o → CameFrom before e.state → AreLive e.state → before.votes ≡ e.state.votes → settled_effect b before e ≡ e
settled-quiet b before e c d o first last came live votes =
    settled-tied b before e c d o o first last came live
    ∙ ap (λ cs. followed_effect b before cs e) (changes-self o)
    ∙ ap (λ xs. settled_by e xs (filter (λ t. is_among before.ready t && false) e.state.ready) [] (mode_lines b before e.state)) (all-stay (is_among before.ready) e.state.ready)
    ∙ ap (λ xs. settled_by e e.state.ready xs [] (mode_lines b before e.state)) (none-goes (is_among before.ready) e.state.ready)
    ∙ ap (λ xs. settled_by e e.state.ready [] [] xs) (same-mode b before e.state votes)
    ∙ ap (λ xs. record { state = record (e.state) { ready = xs }; lines = e.lines ++ [] ++ [] }) (append-nil e.state.ready)
    ∙ ap (λ xs. record { state = e.state; lines = xs ++ [] }) (append-nil e.lines)
    ∙ ap (λ xs. record { state = e.state; lines = xs }) (append-nil e.lines)
