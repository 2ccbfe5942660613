-- The rows of the mutexes.
use Rattle.std.proofs.Common.{ℕ, zero, suc, ◌≡◌, ◌≢◌, ◌<◌, List, [], ◌∷◌, Option, Some, None, Bool, true, false, cond, ◌||◌, refl, sym, ap, ◌∙◌, subst, length, map, slice_get, slice_index_or, eqb}
use Rattle.std.specs.Prelude.{All, find, ◌==◌}
use Rattle.std.specs.List.{AllPairs}
use Rattle.std.specs.Option.{option_map}
use Rattle.std.proofs.lemmas.Bool.{eq-eqb, ne_eqb}
use Rattle.std.proofs.lemmas.Option.{none-some, same_Some}
use Rattle.std.proofs.lemmas.List.Elements.{All-head, All-tail}
use Rattle.rt_base.specs.declared.codes.WaitOrder.{WaitOrder}
use Rattle.rt_plain.specs.declared.row.Row.{Row}
use Rattle.rt_plain.specs.kernel.State.{State, Mutex, Holding, Thread}
use Rattle.rt_plain.specs.kernel.Effects.{name_of}
use Rattle.rt_plain.specs.kernel.Priority.{holding_of}
use Rattle.rt_plain.specs.kernel.Ownership.{Ownership, Taken, taken_of, waiters_in}
use Rattle.rt_plain.specs.kernel.Rows.{hold_of as plain_hold, mutex_row}
use Rattle.rt_plain.specs.kernel.Waiting.{takes_mutex, waiters}
use Rattle.object_box.specs.declared.object.Object.{Object}
use Rattle.object_box.specs.Objects.{ClassObjects, has_number, number_of}
use Rattle.kernel_tables.specs.Threads.{row_at}
use Rattle.mutex_chain.specs.Graph.{hold_of}
use Rattle.mutex_chain.specs.Owners.{ceiling_at}
use Rattle.mutex_tie.specs.Tie.{StandsFor, ceiling_or, name_at, name_or, plain_holding, plain_mutex, plain_mutexes}
use Rattle.mutex_tie.proofs.CloseLemmas.{number-back}
use Rattle.mutex_tie.proofs.NameLemmas.{NamesApart, NumbersApart, pairs-head, pairs-tail}
use Rattle.mutex_tie.proofs.WaiterLemmas.{waiters-tied}
use Rattle.mutex_tables.specs.declared.tables.MutexTables.TheInside.{Inside}
use Rattle.mutex_tables.specs.MutexTabled.{MutexTabled, plain_state}
use Rattle.mutex_tables.proofs.BaseLemmas.{based-name}
use Rattle.mutex_tables.proofs.SeenLemmas.{view_of, Keeps, inside-stands}
use Rattle.mutex_tables.proofs.TakeLemmas.{holding-is}

all-at : (P : Object → Type 0) (xs : List Object) (place : ℕ) (x : Object) → All P xs → slice_get xs place ≡ Some x → P x
all-at P [] place x all e = absurd (none-some x e)
all-at P (y ∷ ys) zero x all e = subst P (same_Some y x e) (All-head P y ys all)
all-at P (y ∷ ys) (suc place) x all e = all-at P ys place x (All-tail P y ys all) e

-- the object at a place is the one of its number
pub found-at : (xs : List Object) (place : ℕ) (x : Object) → NumbersApart xs → slice_get xs place ≡ Some x → find (λ (y : Object). y.no == x.no) xs ≡ Some x
found-at [] place x apart e = absurd (none-some x e)
found-at (y ∷ ys) zero x apart e =
    ap (λ d. cond d (Some y) (find (λ (z : Object). z.no == x.no) ys)) (eq-eqb y.no x.no (ap (λ (z : Object). z.no) (same_Some y x e))) ∙ ap Some (same_Some y x e)
found-at (y ∷ ys) (suc place) x apart e =
    ap (λ d. cond d (Some y) (find (λ (z : Object). z.no == x.no) ys)) (ne_eqb y.no x.no (all-at (λ z. y.no ≢ z.no) ys place x (pairs-head (λ a b. a.no ≢ b.no) y ys apart) e))
    ∙ found-at ys place x (pairs-tail (λ a b. a.no ≢ b.no) y ys apart) e

pub has-at : (xs : List Object) (place : ℕ) (x : Object) → slice_get xs place ≡ Some x → has_number xs x.no ≡ true
has-at [] place x e = absurd (none-some x e)
has-at (y ∷ ys) zero x e = ap (λ d. d || has_number ys x.no) (eq-eqb y.no x.no (ap (λ (z : Object). z.no) (same_Some y x e)))
has-at (y ∷ ys) (suc place) x e = ap (λ d. (y.no == x.no) || d) (has-at ys place x e) ∙ or-true (y.no == x.no)
  where
    or-true : (b : Bool) → b || true ≡ true
    or-true true = refl
    or-true false = refl

-- its name has its number
pub number-at : (xs : List Object) (place : ℕ) (x : Object) → NamesApart xs → NumbersApart xs → slice_get xs place ≡ Some x → number_of xs x.name ≡ Some x.no
number-at xs place x names numbers e =
    ap (number_of xs) (sym (ap name_or (found-at xs place x numbers e)))
    ∙ number-back xs x.no names numbers (has-at xs place x e)

slice-map : (f : Object → Mutex) (xs : List Object) (place : ℕ) (x : Object) → slice_get xs place ≡ Some x → slice_get (map f xs) place ≡ Some (f x)
slice-map f [] place x e = absurd (none-some x e)
slice-map f (y ∷ ys) zero x e = ap (λ z. Some (f z)) (same_Some y x e)
slice-map f (y ∷ ys) (suc place) x e = slice-map f ys place x e

owner-same : (k : Inside) (objects : List Object) (r : Option Taken) → option_map (λ (h : Holding). name_of (plain_state (view_of k)) h.owner) (option_map (plain_holding objects) r) ≡ option_map (λ (h : Taken). (row_at k.tables.threads h.owner).name) r
owner-same k objects None = refl
owner-same k objects (Some h) = ap Some (based-name k.bases.items k.tables.threads h.owner)

hold-same : (objects : List Object) (r : Option Taken) → plain_hold (option_map (plain_holding objects) r) ≡ hold_of r
hold-same objects None = refl
hold-same objects (Some h) = refl

ceiling-same : (c : Option ℕ) (n : ℕ) → Some n ≡ c → ceiling_or c ≡ n
ceiling-same None n e = absurd (none-some n (sym e))
ceiling-same (Some m) n e = sym (same_Some n m e)

-- the row of the mutex at a place
pub mutex-row : (k : Inside) (place ceiling : ℕ) (x : Object) → Keeps k → slice_get k.names.mutex.objects place ≡ Some x → Some ceiling ≡ ceiling_at k.graph x.no
    → option_map (mutex_row (plain_state (view_of k))) (slice_get (view_of k).mutexes place)
    ≡ Some (Row.Mutex x.name (option_map (λ (h : Taken). (row_at k.tables.threads h.owner).name) (taken_of k.graph x.no)) (hold_of (taken_of k.graph x.no)) ceiling (length (waiters_in k.graph x.no)))
mutex-row k place ceiling x keeps e is =
    ap (option_map (mutex_row s)) (slice-map (plain_mutex k.graph.ceilings) k.names.mutex.objects place x e)
    ∙ ap (λ (h : Option Holding). Some (Row.Mutex x.name (option_map (λ (y : Holding). name_of s y.owner) h) (plain_hold h) (ceiling_or (slice_index_or k.graph.ceilings x.no None)) (length (waiters s WaitOrder.Prio (takes_mutex x.name)))))
    (holding-is s k.names.mutex k.graph x.name x.no (inside-stands k keeps) at)
    ∙ (λ j. Some (Row.Mutex x.name (owner-same k k.names.mutex.objects (taken_of k.graph x.no) j) (hold-same k.names.mutex.objects (taken_of k.graph x.no) j) (ceiling-same (slice_index_or k.graph.ceilings x.no None) ceiling is j) (length (waiters-tied s k.names.mutex k.graph x.name x.no (inside-stands k keeps) at j))))
  where
    s : State
    s = plain_state (view_of k)

    at : number_of k.names.mutex.objects x.name ≡ Some x.no
    at = number-at k.names.mutex.objects place x keeps.graph.sound.names keeps.graph.sound.numbers e
