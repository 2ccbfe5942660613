-- What follows from an action is what the graph lists.
use Rattle.std.proofs.Common.{ℕ, ◌≡◌, ◌+◌, ◌<◌, ◌≤◌, zero, suc, List, [], ◌∷◌, ◌++◌, Option, Some, None, Bool, true, false, not, cond, ◌||◌, ◌&&◌, refl, sym, ap, ◌∙◌, arith, eqb, map, length, is_some, ◌⊎◌, inl, inr}
use Rattle.std.specs.Prelude.{filter, ◌==◌, if◌then◌else◌, IfSome}
use Rattle.std.specs.List.{AllByRecursion, range_with_len, filter_map, cons_option}
use Rattle.std.specs.Option.{option_map}
use Rattle.std.proofs.lemmas.Bool.{ne_eqb, cases_lt, cases_Bool}
use Rattle.rt_plain.specs.declared.line.Line.{Line}
use Rattle.rt_plain.specs.PlainBoard.{PlainBoard}
use Rattle.rt_plain.specs.kernel.State.{State, Thread, thread_at, is_closed, is_among}
use Rattle.rt_plain.specs.kernel.Priority.{cur}
use Rattle.rt_plain.specs.kernel.Effects.{Effect, name_of}
use Rattle.rt_plain.specs.kernel.Calls.{settled_effect, has_new_cur, prio_line, prio_lines, is_moved, reordered_state, mode_lines}
use Rattle.rt_plain.specs.kernel.Ownership.{Ownership, Member, CurChange, member_at, is_there, cur_in, change_at, changes}
use Rattle.object_box.specs.declared.object.Object.{Object}
use Rattle.object_box.specs.Objects.{ClassObjects}
use Rattle.mutex_tie.specs.Tie.{StandsFor, member_of, wait_in}
use Rattle.mutex_tie.specs.Changes.{change_line, is_changed, moves_in, followed_state, followed_effect, CameFrom, AreLive}
use Rattle.mutex_tie.proofs.CurLemmas.{cur-tied, members-length}
use Rattle.mutex_tie.proofs.HoldingLemmas.{member-tied}
use Rattle.mutex_tie.proofs.WaiterLemmas.{filter_map-below}

abbrev pub is_ended : State → ℕ → Bool
is_ended s t = is_closed (thread_at s t).stage

abbrev pub made_if : Bool → ℕ → ℕ → ℕ → Option CurChange
made_if e t x y = if e then Some (record { thread = t; old = x; new = y }) else None

abbrev member_if : Bool → List Object → Thread → Option Member
member_if d xs row = if d then None else Some (record { base = row.base; wait = wait_in xs row.stage })

abbrev pub line_if : Bool → State → ℕ → ℕ → ℕ → Option Line
line_if e s t x y = if e then Some (Line.Cur (name_of s t) x y) else None

abbrev pub change_by : Bool → Bool → ℕ → ℕ → ℕ → Option CurChange
change_by a b t x y = made_if (a && (b && not (x == y))) t x y

abbrev line_by : State → Bool → ℕ → ℕ → ℕ → Option Line
line_by s d t x y = line_if (not d && not (x == y)) s t x y

pub member-closed : (xs : List Object) (row : Thread) → is_closed row.stage ≡ true → member_of xs row ≡ None
member-closed xs row is = ap (λ d. member_if d xs row) is

member-live : (xs : List Object) (row : Thread) → is_closed row.stage ≡ false → is_there (member_of xs row) ≡ true
member-live xs row is = ap (λ d. is_there (member_if d xs row)) is

pub there-tied : (s : State) (c : ClassObjects) (o : Ownership) (t : ℕ) → StandsFor s c o → is_ended s t ≡ false → is_there (member_at o t) ≡ true
there-tied s c o t tie live = ap is_there (member-tied s c o t tie) ∙ member-live c.objects (thread_at s t) live

line-change : (s : State) (t x y : ℕ) → line_by s false t x y ≡ option_map (change_line s) (change_by true true t x y)
line-change s t x y = by_test (x == y) where
  by_test : (d : Bool) → line_if (not d) s t x y ≡ option_map (change_line s) (made_if (not d) t x y)
  by_test true = refl
  by_test false = refl

-- the line of a thread is that of its change
pub line-tied : (before after : State) (c d : ClassObjects) (o p : Ownership) (t : ℕ) → StandsFor before c o → StandsFor after d p → CameFrom before after → t < length after.threads → prio_line before after t ≡ option_map (change_line after) (change_at o p t)
line-tied before after c d o p t first last came low = by_case (cases_Bool (is_ended after t))
  where
    off : (a : Bool) (x y : ℕ) → option_map (change_line after) (change_by a false t x y) ≡ None
    off true x y = refl
    off false x y = refl

    by_case : (is_ended after t ≡ true) ⊎ (is_ended after t ≡ false) → prio_line before after t ≡ option_map (change_line after) (change_at o p t)
    by_case (inl gone) =
        ap (λ e. line_by after e t (cur before t) (cur after t)) gone
        ∙ sym (ap (λ m. option_map (change_line after) (change_by (is_there (member_at o t)) (is_there m) t (cur_in o t) (cur_in p t))) (member-tied after d p t last ∙ member-closed d.objects (thread_at after t) gone)
        ∙ off (is_there (member_at o t)) (cur_in o t) (cur_in p t))
    by_case (inr live) =
        let opened : is_ended before t ≡ false = came.ended t live in
        ap (λ e. line_by after e t (cur before t) (cur after t)) live
        ∙ ap (λ x. line_by after false t x (cur after t)) (cur-tied before c o t first (omega (arith, low, came.size)) opened)
        ∙ ap (λ y. line_by after false t (cur_in o t) y) (cur-tied after d p t last low live)
        ∙ line-change after t (cur_in o t) (cur_in p t)
        ∙ sym (ap (λ a. option_map (change_line after) (change_by a (is_there (member_at p t)) t (cur_in o t) (cur_in p t))) (there-tied before c o t first opened)
        ∙ ap (λ a. option_map (change_line after) (change_by true a t (cur_in o t) (cur_in p t))) (there-tied after d p t last live))

pub filter_map-map : (f : CurChange → Line) (g : ℕ → Option CurChange) (xs : List ℕ) → filter_map (λ x. option_map f (g x)) xs ≡ map f (filter_map g xs)
filter_map-map f g [] = refl
filter_map-map f g (x ∷ xs) = by_row (g x) (filter_map-map f g xs)
  where
    by_row : (r : Option CurChange) → filter_map (λ y. option_map f (g y)) xs ≡ map f (filter_map g xs) → cons_option (option_map f r) (filter_map (λ y. option_map f (g y)) xs) ≡ map f (cons_option r (filter_map g xs))
    by_row None rest = rest
    by_row (Some y) rest = ap (λ zs. f y ∷ zs) rest

-- all lines are those of the changes, in thread order
pub prio-lines-tied : (before after : State) (c d : ClassObjects) (o p : Ownership) → StandsFor before c o → StandsFor after d p → CameFrom before after → prio_lines before after ≡ map (change_line after) (changes o p)
prio-lines-tied before after c d o p first last came =
    filter_map-below (prio_line before after) (λ t. option_map (change_line after) (change_at o p t)) 0 (length after.threads) (λ t below. line-tied before after c d o p t first last came (omega (arith, below)))
    ∙ filter_map-map (change_line after) (change_at o p) (range_with_len 0 (length after.threads))
    ∙ ap (λ n. map (change_line after) (filter_map (change_at o p) (range_with_len 0 n))) (sym (members-length after d p last))

-- who is among the changes

abbrev pub Own : (ℕ → Option CurChange) → Type 0
Own h = (x : ℕ) → IfSome (h x) (λ c. c.thread ≡ x)

and-false : (b : Bool) → b && false ≡ false
and-false true = refl
and-false false = refl

one-step : (r : Option CurChange) (a t : ℕ) (rest : List CurChange) → IfSome r (λ c. c.thread ≡ a) → is_changed (cons_option r rest) t ≡ (is_some r && eqb a t) || is_changed rest t
one-step None a t rest own = refl
one-step (Some c) a t rest own = ap (λ n. eqb n t || is_changed rest t) own

changed-later : (h : ℕ → Option CurChange) → Own h → (a n t : ℕ) → t < a → is_changed (filter_map h (range_with_len a n)) t ≡ false
changed-later h own a zero t low = refl
changed-later h own a (suc n) t low =
    one-step (h a) a t (filter_map h (range_with_len (a + 1) n)) (own a)
    ∙ ap (λ e. (is_some (h a) && e) || is_changed (filter_map h (range_with_len (a + 1) n)) t) (ne_eqb a t (λ same. omega (arith, same, low)))
    ∙ ap (λ e. e || is_changed (filter_map h (range_with_len (a + 1) n)) t) (and-false (is_some (h a)))
    ∙ changed-later h own (a + 1) n t (omega (arith, low))

changed-at : (h : ℕ → Option CurChange) → Own h → (a n t : ℕ) → a ≤ t → t < a + n → is_changed (filter_map h (range_with_len a n)) t ≡ is_some (h t)
changed-at h own a zero t from to = absurd (omega (arith, from, to))
changed-at h own a (suc n) t from to = one-step (h a) a t (filter_map h (range_with_len (a + 1) n)) (own a) ∙ by_case (cases_lt a t) (λ later. changed-at h own (a + 1) n t (omega (arith, later)) (omega (arith, to)))
  where
    on : (b : Bool) → (b && true) || false ≡ b
    on true = refl
    on false = refl

    self : (m : ℕ) → eqb m m ≡ true
    self m = grind arith

    by_case : (a < t) ⊎ (t ≤ a) → (a < t → is_changed (filter_map h (range_with_len (a + 1) n)) t ≡ is_some (h t)) → (is_some (h a) && eqb a t) || is_changed (filter_map h (range_with_len (a + 1) n)) t ≡ is_some (h t)
    by_case (inl later) rest =
        ap (λ e. (is_some (h a) && e) || is_changed (filter_map h (range_with_len (a + 1) n)) t) (ne_eqb a t (λ same. omega (arith, same, later)))
        ∙ ap (λ e. e || is_changed (filter_map h (range_with_len (a + 1) n)) t) (and-false (is_some (h a)))
        ∙ rest later
    by_case (inr here) rest =
        let same : a ≡ t = omega (arith, from, here) in
        ap (λ e. (is_some (h a) && eqb a t) || e) (changed-later h own (a + 1) n t (omega (arith, here)))
        ∙ ap (λ m. (is_some (h m) && eqb m t) || false) same
        ∙ ap (λ e. (is_some (h t) && e) || false) (self t)
        ∙ on (is_some (h t))

pub change-own : (o p : Ownership) → Own (change_at o p)
change-own o p t = by_test (is_there (member_at o t) && (is_there (member_at p t) && not (cur_in o t == cur_in p t)))
  where
    by_test : (e : Bool) → IfSome (made_if e t (cur_in o t) (cur_in p t)) (λ (c : CurChange). c.thread ≡ t)
    by_test true = refl
    by_test false = tt

some-change : (t x y : ℕ) → is_some (change_by true true t x y) ≡ not (x == y)
some-change t x y = by_test (not (x == y))
  where
    by_test : (e : Bool) → is_some (made_if e t x y) ≡ e
    by_test true = refl
    by_test false = refl

-- a thread that hasn't ended has a new current priority exactly where it is among the changes
pub changed-tied : (before after : State) (c d : ClassObjects) (o p : Ownership) (t : ℕ) → StandsFor before c o → StandsFor after d p → CameFrom before after → t < length after.threads → is_ended after t ≡ false → has_new_cur before after t ≡ is_changed (changes o p) t
changed-tied before after c d o p t first last came low live =
    let opened : is_ended before t ≡ false = came.ended t live in
    ap (λ x. not (x == cur after t)) (cur-tied before c o t first (omega (arith, low, came.size)) opened)
    ∙ ap (λ y. not (cur_in o t == y)) (cur-tied after d p t last low live)
    ∙ sym (some-change t (cur_in o t) (cur_in p t))
    ∙ sym (ap (λ a. is_some (change_by a (is_there (member_at p t)) t (cur_in o t) (cur_in p t))) (there-tied before c o t first opened)
    ∙ ap (λ a. is_some (change_by true a t (cur_in o t) (cur_in p t))) (there-tied after d p t last live))
    ∙ sym (changed-at (change_at o p) (change-own o p) 0 (length p.members) t (omega arith) (omega (arith, low, members-length after d p last)))

filter-agree : (p q : ℕ → Bool) (xs : List ℕ) → AllByRecursion (λ x. p x ≡ q x) xs → filter p xs ≡ filter q xs
filter-agree p q [] same = refl
filter-agree p q (x ∷ xs) (this, same) = ap (λ c. cond c (x ∷ filter p xs) (filter p xs)) this ∙ ap (λ ys. cond (q x) (x ∷ ys) ys) (filter-agree p q xs same)

all-moved : (before after : State) (c d : ClassObjects) (o p : Ownership) → StandsFor before c o → StandsFor after d p → CameFrom before after → (xs : List ℕ) → AllByRecursion (λ t. (t < length after.threads) × (is_closed (thread_at after t).stage ≡ false)) xs
    → AllByRecursion (λ t. is_moved before after t ≡ moves_in before (changes o p) t) xs
all-moved before after c d o p first last came [] live = tt
all-moved before after c d o p first last came (t ∷ ts) (this, live) = (ap (λ e. is_among before.ready t && e) (changed-tied before after c d o p t first last came (this.0) (this.1)), all-moved before after c d o p first last came ts live)

all-not : (p q : ℕ → Bool) (xs : List ℕ) → AllByRecursion (λ x. p x ≡ q x) xs → AllByRecursion (λ x. not (p x) ≡ not (q x)) xs
all-not p q [] same = tt
all-not p q (x ∷ xs) (this, same) = (ap not this, all-not p q xs same)

-- the ready threads that move are those of the changes
pub reordered-tied : (before after : State) (c d : ClassObjects) (o p : Ownership) → StandsFor before c o → StandsFor after d p → CameFrom before after → AreLive after → reordered_state before after ≡ followed_state before (changes o p) after
reordered-tied before after c d o p first last came live =
    let same : AllByRecursion (λ t. is_moved before after t ≡ moves_in before (changes o p) t) after.ready = all-moved before after c d o p first last came after.ready live in
    ap (λ xs. record after { ready = xs ++ filter (is_moved before after) after.ready }) (filter-agree (λ t. not (is_moved before after t)) (λ t. not (moves_in before (changes o p) t)) after.ready (all-not (is_moved before after) (moves_in before (changes o p)) after.ready same))
    ∙ ap (λ xs. record after { ready = filter (λ t. not (moves_in before (changes o p) t)) after.ready ++ xs }) (filter-agree (is_moved before after) (moves_in before (changes o p)) after.ready same)

-- what follows from any action is by the changes of the graph
pub settled-tied : (b : PlainBoard) (before : State) (e : Effect) (c d : ClassObjects) (o p : Ownership) → StandsFor before c o → StandsFor e.state d p → CameFrom before e.state → AreLive e.state → settled_effect b before e ≡ followed_effect b before (changes o p) e
settled-tied b before e c d o p first last came live =
    ap (λ s. record { state = s; lines = e.lines ++ prio_lines before e.state ++ mode_lines b before e.state }) (reordered-tied before e.state c d o p first last came live)
    ∙ ap (λ xs. record { state = followed_state before (changes o p) e.state; lines = e.lines ++ xs ++ mode_lines b before e.state }) (prio-lines-tied before e.state c d o p first last came)
