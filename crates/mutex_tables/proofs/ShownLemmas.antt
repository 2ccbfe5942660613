-- What is found and shown of the threads doesn't depend on their bases.
use Rattle.std.proofs.Common.{ℕ, ◌≡◌, ◌+◌, List, [], ◌∷◌, Option, Some, None, Bool, true, not, cond, refl, sym, ap, ◌∙◌, subst, length, map, is_some, reverse}
use Rattle.std.specs.Prelude.{filter}
use Rattle.std.specs.List.{position_from, range_with_len}
use Rattle.std.specs.Option.{option_map}
use Rattle.std.proofs.lemmas.Bool.{false≢true}
use Rattle.rt_plain.specs.declared.stmt.Call.{Call}
use Rattle.rt_plain.specs.kernel.DeviceCalls.{waits_at_console}
use Rattle.rt_plain.specs.kernel.State.{Thread, Stage, Waiting, InCall, find_thread, is_closed}
use Rattle.rt_plain.specs.kernel.Priority.{awaited_mutex}
use Rattle.rt_plain.specs.kernel.Ownership.{MutexWait, awaited_in}
use Rattle.object_box.specs.declared.object.Object.{Object}
use Rattle.object_box.specs.Objects.{number_of}
use Rattle.kernel_tables.specs.Shown.{shown, shown_below}
use Rattle.kernel_tables.specs.Threads.{is_found, row_at}
use Rattle.mutex_tie.specs.Tie.{knows_mutex, wait_for, wait_in}
use Rattle.mutex_tie.proofs.HoldingLemmas.{wait-tied}
use Rattle.mutex_tables.specs.declared.tables.MutexTables.TheInside.{Inside}
use Rattle.mutex_tables.specs.MutexTabled.{MutexTabled, based, plain_state}
use Rattle.mutex_tables.proofs.BaseLemmas.{based-stage, length-based}
use Rattle.mutex_tables.proofs.SeenLemmas.{view_of, Keeps, inside-stands}

pub count-seen : (k : Inside) (v : MutexTabled) → view_of k ≡ v → length k.tables.threads ≡ length v.threads
count-seen k v is = sym (length-based k.bases.items k.tables.threads) ∙ ap (λ (x : MutexTabled). length x.threads) is

position-based : (p : Thread → Bool) → ((row : Thread) (base : ℕ) → p (record row { base = base }) ≡ p row) → (i : ℕ) (bases : List ℕ) (rows : List Thread) → position_from p i rows ≡ position_from p i (based bases rows)
position-based p apart i [] rows = refl
position-based p apart i (b ∷ bases) [] = refl
position-based p apart i (b ∷ bases) (r ∷ rows) =
    ap (λ (o : Option ℕ). cond (p r) (Some i) o) (position-based p apart (i + 1) bases rows)
    ∙ ap (λ (c : Bool). cond c (Some i) (position_from p (i + 1) (based bases rows))) (sym (apart r b))

pub found-seen : (k : Inside) (v : MutexTabled) (name : List ℕ) → view_of k ≡ v → position_from (is_found name) 0 k.tables.threads ≡ find_thread (plain_state v) name
found-seen k v name is =
    position-based (is_found name) (λ row base. refl) 0 k.bases.items k.tables.threads
    ∙ ap (λ (x : MutexTabled). find_thread (plain_state x) name) is

pub console-seen : (k : Inside) (v : MutexTabled) → view_of k ≡ v → position_from (λ (row : Thread). waits_at_console row.stage) 0 k.tables.threads ≡ position_from (λ (row : Thread). waits_at_console row.stage) 0 v.threads
console-seen k v is =
    position-based (λ (row : Thread). waits_at_console row.stage) (λ row base. refl) 0 k.bases.items k.tables.threads
    ∙ ap (λ (x : MutexTabled). position_from (λ (row : Thread). waits_at_console row.stage) 0 x.threads) is

filter-each : (p q : ℕ → Bool) (xs : List ℕ) → ((x : ℕ) → p x ≡ q x) → filter p xs ≡ filter q xs
filter-each p q [] same = refl
filter-each p q (x ∷ xs) same = ap (λ (c : Bool). cond c (x ∷ filter p xs) (filter p xs)) (same x) ∙ ap (λ (ys : List ℕ). cond (q x) (x ∷ ys) ys) (filter-each p q xs same)

pub shown-seen : (k : Inside) (v : MutexTabled) → view_of k ≡ v → shown k.tables.threads ≡ shown v.threads
shown-seen k v is =
    ap (λ n. shown_below k.tables.threads n) (sym (length-based k.bases.items k.tables.threads))
    ∙ ap reverse (filter-each (λ t. not (is_closed (row_at k.tables.threads t).stage)) (λ t. not (is_closed (row_at (view_of k).threads t).stage)) (range_with_len 0 (length (view_of k).threads)) (λ t. ap (λ (s : Stage). not (is_closed s)) (sym (based-stage k.bases.items k.tables.threads t))))
    ∙ ap (λ (x : MutexTabled). shown x.threads) is

-- who waits for a mutex in the graph does so by its stage
stage-awaits : (objects : List Object) (stage : Stage) → knows_mutex objects stage ≡ true → is_some (option_map (λ (w : MutexWait). w.mutex) (wait_in objects stage)) ≡ is_some (awaited_mutex stage)
stage-awaits objects (Waiting (InCall (Call.MutexTake name timeout)) number) known = by_number (number_of objects name) known
  where
    by_number : (n : Option ℕ) → is_some n ≡ true → is_some (option_map (λ (w : MutexWait). w.mutex) (wait_for number n)) ≡ true
    by_number None is = absurd (false≢true is)
    by_number (Some i) is = refl
stage-awaits objects _ known = refl

pub awaits-seen : (k : Inside) (v : MutexTabled) (t : ℕ) → view_of k ≡ v → Keeps k → is_some (awaited_in k.graph t) ≡ is_some (awaited_mutex (row_at v.threads t).stage)
awaits-seen k v t is keeps =
    ap (λ (w : Option MutexWait). is_some (option_map (λ (x : MutexWait). x.mutex) w)) (wait-tied (plain_state (view_of k)) k.names.mutex k.graph t (inside-stands k keeps))
    ∙ stage-awaits k.names.mutex.objects (row_at (view_of k).threads t).stage (keeps.graph.known t)
    ∙ ap (λ (x : MutexTabled). is_some (awaited_mutex (row_at x.threads t).stage)) is

-- where there is no mutex, nobody waits for one
none-awaits : (stage : Stage) → knows_mutex [] stage ≡ true → awaited_mutex stage ≡ None
none-awaits (Waiting (InCall (Call.MutexTake name timeout)) number) known = absurd (false≢true known)
none-awaits _ known = refl

no-objects : {A : Type 0} (f : Object → A) (objects : List Object) → map f objects ≡ [] → objects ≡ []
no-objects f [] none = refl
no-objects f (x ∷ xs) none = absurd cc

pub nobody-awaits : (k : Inside) (v : MutexTabled) (t : ℕ) → view_of k ≡ v → Keeps k → v.mutexes ≡ [] → awaited_mutex (row_at v.threads t).stage ≡ None
nobody-awaits k v t is keeps none =
    let objects : k.names.mutex.objects ≡ [] = no-objects _ k.names.mutex.objects (ap (λ (x : MutexTabled). x.mutexes) is ∙ none) in
    subst (λ (x : MutexTabled). awaited_mutex (row_at x.threads t).stage ≡ None) is (none-awaits (row_at (view_of k).threads t).stage (subst (λ (xs : List Object). knows_mutex xs (row_at (view_of k).threads t).stage ≡ true) objects (keeps.graph.known t)))
