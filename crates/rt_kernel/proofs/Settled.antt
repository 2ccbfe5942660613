-- What follows from an action that changes no current priority.
use Rattle.std.proofs.Common.{◌≡◌, ℕ, ◌&&◌, not, eqb, arith, List, [], ◌∷◌, ◌++◌, Option, Some, None, Bool, true, false, refl, sym, ap, ◌∙◌, filter, filter_map, subst, cond}
use Rattle.std.specs.List.{range_with_len, cons_option}
use Rattle.std.specs.Prelude.{if◌then◌else◌, ◌==◌}
use Rattle.std.proofs.lemmas.List.{append-nil}
use Rattle.rt_base.specs.declared.codes.Code.{Code}
use Rattle.rt_base.specs.Codes.{sleep_number}
use Rattle.rt_plain.specs.declared.line.Line.{Line}
use Rattle.rt_plain.specs.PlainBoard.{PlainBoard}
use Rattle.rt_plain.specs.kernel.State.{State, Thread, no_thread, thread_at, with_thread, thread_numbers, is_closed, is_among}
use Rattle.rt_plain.specs.kernel.Priority.{awaited_mutex, cur}
use Rattle.rt_plain.specs.kernel.PowerCalls.{sleep_mode, voted_mode}
use Rattle.rt_plain.specs.kernel.Effects.{Effect, name_of, no_effect}
use Rattle.rt_plain.specs.kernel.Outcome.{Answer, Answers, Waits, Outcome}
use Rattle.rt_plain.specs.kernel.Statements.{call_effect, code_of_answer, with_answer}
use Rattle.rt_plain.specs.kernel.Calls.{settled_effect, has_new_cur, prio_line, prio_lines, is_moved, mode_lines}
use Rattle.rt_plain.specs.kernel.Ownership.{CurChange}
use Rattle.rt_plain.proofs.kernel.TallyLemmas.{length-set_at, same-set}
use Rattle.mutex_tie.specs.Changes.{new_cur_of, new_curs}
use Rattle.rt_kernel.specs.Settles.{settled}
use Rattle.rt_kernel.proofs.CurLemmas.{KeepsGraph, cur-same, graph-back, graph-self}

eqb-self : (n : ℕ) → eqb n n ≡ true
eqb-self n = grind arith

and-false : (b : Bool) → b && false ≡ false
and-false true = refl
and-false false = refl

-- where all that current priorities depend on is as it was, no thread has a new one
pub no-new : (before after : State) (t : ℕ) → KeepsGraph before after → has_new_cur before after t ≡ false
no-new before after t kept = subst (λ n. not (eqb (cur before t) n) ≡ false) (cur-same before after kept t) (ap not (eqb-self (cur before t)))

filter_map-none : {A B : Type 0} (h : A → Option B) → ((x : A) → h x ≡ None) → (xs : List A) → filter_map h xs ≡ []
filter_map-none h none [] = refl
filter_map-none h none (x ∷ xs) = rw (none x) (filter_map-none h none xs)

filter-all : {A : Type 0} (p : A → Bool) → ((x : A) → p x ≡ true) → (xs : List A) → filter p xs ≡ xs
filter-all p h [] = refl
filter-all p h (x ∷ xs) = rw (h x) (ap (λ ys. x ∷ ys) (filter-all p h xs))

filter-none : {A : Type 0} (p : A → Bool) → ((x : A) → p x ≡ false) → (xs : List A) → filter p xs ≡ []
filter-none p h [] = refl
filter-none p h (x ∷ xs) = rw (h x) (filter-none p h xs)

abbrev pub change_if : Bool → ℕ → ℕ → ℕ → Option CurChange
change_if c t old new = if c then Some (record { thread = t; old = old; new = new }) else None

abbrev line_if : Bool → Line → Option Line
line_if c line = if c then Some line else None

abbrev cur_line : State → State → ℕ → Line
cur_line before after t = Line.Cur (name_of after t) (cur before t) (cur after t)

no-line : (before after : State) (t : ℕ) → has_new_cur before after t ≡ false → prio_line before after t ≡ None
no-line before after t e = ap (λ c. line_if (not (is_closed (thread_at after t).stage) && c) (cur_line before after t)) e ∙ ap (λ c. line_if c (cur_line before after t)) (and-false (not (is_closed (thread_at after t).stage)))

not-moved : (before after : State) (t : ℕ) → has_new_cur before after t ≡ false → is_moved before after t ≡ false
not-moved before after t e = ap (λ c. is_among before.ready t && c) e ∙ and-false (is_among before.ready t)

no-cur : (before after : State) (t : ℕ) → has_new_cur before after t ≡ false → new_cur_of before after t ≡ None
no-cur before after t e =
    ap (λ c. change_if (not (is_closed (thread_at after t).stage) && c) t (cur before t) (cur after t)) e
    ∙ ap (λ c. change_if c t (cur before t) (cur after t)) (and-false (not (is_closed (thread_at after t).stage)))

pub no-curs : (before after : State) → KeepsGraph before after → new_curs before after ≡ []
no-curs before after kept = filter_map-none _ (λ t. no-cur before after t (no-new before after t kept)) (thread_numbers after)

-- the settled effect by its parts
abbrev settled_by : Effect → List ℕ → List ℕ → List Line → List Line → Effect
settled_by e stay go prio mode = record { state = record (e.state) { ready = stay ++ go }; lines = e.lines ++ prio ++ mode }

abbrev mode_by : PlainBoard → List ℕ → List ℕ → List Line
mode_by b old new = if sleep_number (voted_mode b.default_mode old) == sleep_number (voted_mode b.default_mode new) then [] else Line.Mode (voted_mode b.default_mode new) ∷ []

pub same-mode : (b : PlainBoard) (before after : State) → before.votes ≡ after.votes → mode_lines b before after ≡ []
same-mode b before after same = ap (λ votes. mode_by b votes after.votes) same ∙ ap (λ c. if c then [] else Line.Mode (sleep_mode b after) ∷ []) (eqb-self (sleep_number (sleep_mode b after)))

-- an action that changes no current priority settles to itself
pub settled-still : (b : PlainBoard) (before : State) (e : Effect) → ((t : ℕ) → has_new_cur before e.state t ≡ false) → before.votes ≡ e.state.votes → settled_effect b before e ≡ e
settled-still b before e new mode =
    let stay : filter (λ t. not (is_moved before e.state t)) e.state.ready ≡ e.state.ready = filter-all _ (λ t. ap not (not-moved before e.state t (new t))) e.state.ready in
    let go : filter (is_moved before e.state) e.state.ready ≡ [] = filter-none _ (λ t. not-moved before e.state t (new t)) e.state.ready in
    let prio : prio_lines before e.state ≡ [] = filter_map-none _ (λ t. no-line before e.state t (new t)) (thread_numbers e.state) in
    let moded : mode_lines b before e.state ≡ [] = same-mode b before e.state mode in
    ap (λ xs. settled_by e xs (filter (is_moved before e.state) e.state.ready) (prio_lines before e.state) (mode_lines b before e.state)) stay
    ∙ ap (λ xs. settled_by e e.state.ready xs (prio_lines before e.state) (mode_lines b before e.state)) go
    ∙ ap (λ xs. settled_by e e.state.ready [] xs (mode_lines b before e.state)) prio
    ∙ ap (λ xs. settled_by e e.state.ready [] [] xs) moded
    ∙ ap (λ xs. record { state = record (e.state) { ready = xs }; lines = e.lines ++ [] ++ [] }) (append-nil e.state.ready)
    ∙ ap (λ xs. record { state = e.state; lines = xs ++ [] }) (append-nil e.lines)
    ∙ ap (λ xs. record { state = e.state; lines = xs }) (append-nil e.lines)

pub settled-kept : (b : PlainBoard) (before : State) (e : Effect) → KeepsGraph before e.state → before.votes ≡ e.state.votes → settled_effect b before e ≡ e
settled-kept b before e kept mode = settled-still b before e (λ t. no-new before e.state t kept) mode

-- what does nothing settles to itself
pub settled-nothing : (b : PlainBoard) (s : State) → settled_effect b s (no_effect s) ≡ no_effect s
settled-nothing b s = settled-still b s (no_effect s) (λ t. ap not (eqb-self (cur s t))) refl

-- what settling reads of a state beside its graph
pub record IsAlike (a b : State) : Type 0 where
  pub graph : KeepsGraph a b
  pub ready : a.ready ≡ b.ready
  pub votes : a.votes ≡ b.votes
  pub names : (t : ℕ) → (thread_at a t).name ≡ (thread_at b t).name
  pub closed : (t : ℕ) → is_closed (thread_at a t).stage ≡ is_closed (thread_at b t).stage

pub alike-self : (s : State) → IsAlike s s
alike-self s = record { graph = graph-self s; ready = refl; votes = refl; names = λ t. refl; closed = λ t. refl }

pub alike-back : (a b : State) → IsAlike a b → IsAlike b a
alike-back a b alike = record { graph = graph-back a b alike.graph; ready = sym alike.ready; votes = sym alike.votes; names = λ t. sym (alike.names t); closed = λ t. sym (alike.closed t) }

new-alike : (s u x y : State) → KeepsGraph s u → KeepsGraph x y → (t : ℕ) → has_new_cur s x t ≡ has_new_cur u y t
new-alike s u x y before after t = ap (λ n. not (eqb n (cur x t))) (cur-same s u before t) ∙ ap (λ n. not (eqb (cur u t) n)) (cur-same x y after t)

line-alike : (s u x y : State) → IsAlike s u → IsAlike x y → (t : ℕ) → prio_line s x t ≡ prio_line u y t
line-alike s u x y before after t =
    ap (λ c. line_if (not c && has_new_cur s x t) (cur_line s x t)) (after.closed t)
    ∙ ap (λ c. line_if (not (is_closed (thread_at y t).stage) && c) (cur_line s x t)) (new-alike s u x y before.graph after.graph t)
    ∙ ap (λ (name : List ℕ). line_if (not (is_closed (thread_at y t).stage) && has_new_cur u y t) (Line.Cur name (cur s t) (cur x t))) (after.names t)
    ∙ ap (λ n. line_if (not (is_closed (thread_at y t).stage) && has_new_cur u y t) (Line.Cur (name_of y t) n (cur x t))) (cur-same s u before.graph t)
    ∙ ap (λ n. line_if (not (is_closed (thread_at y t).stage) && has_new_cur u y t) (Line.Cur (name_of y t) (cur u t) n)) (cur-same x y after.graph t)

moved-alike : (s u x y : State) → IsAlike s u → KeepsGraph x y → (t : ℕ) → is_moved s x t ≡ is_moved u y t
moved-alike s u x y before after t =
    ap (λ (ready : List ℕ). is_among ready t && has_new_cur s x t) before.ready
    ∙ ap (λ c. is_among u.ready t && c) (new-alike s u x y before.graph after t)

filter-ext : (p q : ℕ → Bool) → ((t : ℕ) → p t ≡ q t) → (ts : List ℕ) → filter p ts ≡ filter q ts
filter-ext p q same [] = refl
filter-ext p q same (t ∷ ts) = ap (λ c. cond c (t ∷ filter p ts) (filter p ts)) (same t) ∙ ap (λ us. cond (q t) (t ∷ us) us) (filter-ext p q same ts)

filter_map-ext : {B : Type 0} (f g : ℕ → Option B) → ((t : ℕ) → f t ≡ g t) → (ts : List ℕ) → filter_map f ts ≡ filter_map g ts
filter_map-ext f g same [] = refl
filter_map-ext f g same (t ∷ ts) = ap (λ o. cons_option o (filter_map f ts)) (same t) ∙ ap (λ us. cons_option (g t) us) (filter_map-ext f g same ts)

-- the ready list behind an action
abbrev pub reordered : State → State → List ℕ
reordered before after = filter (λ t. not (is_moved before after t)) after.ready ++ filter (is_moved before after) after.ready

-- what follows is the same for states that are alike
pub reordered-alike : (s u x y : State) → IsAlike s u → IsAlike x y → reordered s x ≡ reordered u y
reordered-alike s u x y before after =
    ap (λ (ready : List ℕ). filter (λ t. not (is_moved s x t)) ready ++ filter (is_moved s x) ready) after.ready
    ∙ ap (λ (stay : List ℕ). stay ++ filter (is_moved s x) y.ready) (filter-ext (λ t. not (is_moved s x t)) (λ t. not (is_moved u y t)) (λ t. ap not (moved-alike s u x y before after.graph t)) y.ready)
    ∙ ap (λ (go : List ℕ). filter (λ t. not (is_moved u y t)) y.ready ++ go) (filter-ext (is_moved s x) (is_moved u y) (moved-alike s u x y before after.graph) y.ready)

pub prio-alike : (s u x y : State) → IsAlike s u → IsAlike x y → prio_lines s x ≡ prio_lines u y
prio-alike s u x y before after = filter_map-ext (prio_line s x) (prio_line u y) (line-alike s u x y before after) (thread_numbers x) ∙ ap (λ n. filter_map (prio_line u y) (range_with_len 0 n)) after.graph.size

pub mode-alike : (b : PlainBoard) (s u x y : State) → s.votes ≡ u.votes → x.votes ≡ y.votes → mode_lines b s x ≡ mode_lines b u y
mode-alike b s u x y before after = ap (λ votes. mode_by b votes x.votes) before ∙ ap (mode_by b u.votes) after

-- another row with the same base, stage and name
pub row-alike : (s : State) (t : ℕ) (row : Thread) → row.base ≡ (thread_at s t).base → row.stage ≡ (thread_at s t).stage → row.name ≡ (thread_at s t).name → IsAlike (with_thread s t row) s
row-alike s t row base stage name = record {
  graph = record { holdings = refl; mutexes = refl; size = length-set_at s.threads t row; bases = λ u. same-set (λ (r : Thread). r.base) s.threads t u row no_thread base; waits = λ u. ap awaited_mutex (same-set (λ (r : Thread). r.stage) s.threads t u row no_thread stage) };
  ready = refl;
  votes = refl;
  names = λ u. same-set (λ (r : Thread). r.name) s.threads t u row no_thread name;
  closed = λ u. ap is_closed (same-set (λ (r : Thread). r.stage) s.threads t u row no_thread stage);
}

-- the last code of a thread is nothing that settling reads
pub answered-alike : (t : ℕ) (answer : Answer) (s : State) → IsAlike (with_answer t answer s) s
answered-alike t (Answers code) s = row-alike s t (record (thread_at s t) { code = code }) refl refl refl
answered-alike t Waits s = alike-self s

-- a call of a thread with its line in front settles as the call by itself
pub call-settled : (b : PlainBoard) (s u : State) (t : ℕ) (line : Option Code → Line) (outcome : Outcome) → IsAlike s u → settled_effect b s (call_effect t line outcome) ≡ call_effect t line (settled b u outcome)
call-settled b s u t line outcome before = by_parts ∙ by_answer outcome.answer where
  x : State
  x = with_answer t outcome.answer outcome.effect.state

  y : State
  y = outcome.effect.state

  after : IsAlike x y
  after = answered-alike t outcome.answer outcome.effect.state

  e : Effect
  e = call_effect t line outcome

  by_parts : settled_effect b s e ≡ record { state = record x { ready = reordered u y }; lines = e.lines ++ prio_lines u y ++ mode_lines b u y }
  by_parts =
      ap (λ (ready : List ℕ). record { state = record x { ready = ready }; lines = e.lines ++ prio_lines s x ++ mode_lines b s x }) (reordered-alike s u x y before after)
      ∙ ap (λ (lines : List Line). record { state = record x { ready = reordered u y }; lines = e.lines ++ lines ++ mode_lines b s x }) (prio-alike s u x y before after)
      ∙ ap (λ (lines : List Line). record { state = record x { ready = reordered u y }; lines = e.lines ++ prio_lines u y ++ lines }) (mode-alike b s u x y before.votes after.votes)

  by_answer : (answer : Answer) → record { state = record (with_answer t answer outcome.effect.state) { ready = reordered u y }; lines = (line (code_of_answer answer) ∷ outcome.effect.lines) ++ prio_lines u y ++ mode_lines b u y } ≡ call_effect t line (record { effect = settled_effect b u outcome.effect; answer = answer })
  by_answer (Answers code) = refl
  by_answer Waits = refl
