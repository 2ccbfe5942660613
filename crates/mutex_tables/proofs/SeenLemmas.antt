-- What contracts see of the tables, by what they keep.
use Rattle.std.proofs.Common.{ℕ, ◌≡◌, ◌<◌, arith, List, Option, Some, None, Bool, false, refl, sym, ap, ◌∙◌, subst, length, slice_index, slice_set}
use Rattle.std.specs.Prelude.{if◌then◌else◌}
use Rattle.std.proofs.lemmas.List.{length-set}
use Rattle.std.proofs.Math.Seq.{map-set_same}
use Rattle.rt_plain.specs.kernel.State.{Thread, no_thread, is_closed, thread_at}
use Rattle.rt_plain.specs.kernel.Ownership.{Ownership, Member, MutexWait}
use Rattle.rt_plain.specs.kernel.Priority.{cur}
use Rattle.rt_plain.proofs.kernel.TallyLemmas.{same-set}
use Rattle.object_box.specs.declared.object.Object.{Object}
use Rattle.object_box.specs.Objects.{ClassObjects}
use Rattle.kernel_tables.specs.Tabled.{Tabled}
use Rattle.kernel_tables.specs.Threads.{row_at, with_row}
use Rattle.mutex_tie.specs.Tie.{IsGraphOf, StandsFor, member_of, wait_in, knows_mutex}
use Rattle.mutex_tie.proofs.CurLemmas.{cur-tied}
use Rattle.mutex_tables.specs.declared.tables.MutexTables.TheInside.{Inside}
use Rattle.mutex_tables.specs.MutexTabled.{MutexTabled, based, seen, plain_state}
use Rattle.mutex_tables.specs.Kept.{AreCurrent, AreMutexTables}
use Rattle.mutex_tables.proofs.BaseLemmas.{length-based, based-row, based-written, based-changed, IsApart, seen-there, seen-row}

abbrev pub view_of : Inside → MutexTabled
view_of k = seen k.tables k.bases.items k.names.mutex k.graph

abbrev pub Keeps : Inside → Type 0
Keeps k = AreMutexTables k.tables k.bases.items k.names.mutex k.graph

-- a thread that contracts see is there
pub inside-there : (k : Inside) (v : MutexTabled) (t : ℕ) → view_of k ≡ v → t < length v.threads → t < length k.tables.threads
inside-there k v t is below = seen-there k.tables k.bases.items k.names.mutex k.graph v t is below

pub inside-row : (k : Inside) (v : MutexTabled) (t : ℕ) → view_of k ≡ v → Keeps k → t < length v.threads → row_at v.threads t ≡ record (row_at k.tables.threads t) { base = slice_index k.bases.items t }
inside-row k v t is keeps below = seen-row k.tables k.bases.items k.names.mutex k.graph v t is keeps.sized below

-- the graph stands for the state that contracts see
pub inside-stands : (k : Inside) → Keeps k → StandsFor (plain_state (view_of k)) k.names.mutex k.graph
inside-stands k keeps = record { owned = keeps.graph; mutexes = refl; holdings = refl }

-- the lists go by the current priorities of that state
pub inside-cur : (k : Inside) (v : MutexTabled) (t : ℕ) → view_of k ≡ v → Keeps k → t < length v.threads → is_closed (row_at v.threads t).stage ≡ false → (row_at k.tables.threads t).base ≡ cur (plain_state v) t
inside-cur k v t is keeps below live =
    let here : t < length k.tables.threads = inside-there k v t is below in
    let seen_here : t < length (based k.bases.items k.tables.threads) = subst (λ n. t < n) (sym (length-based k.bases.items k.tables.threads)) here in
    let row = inside-row k v t is keeps below in
    let open_row : is_closed (row_at k.tables.threads t).stage ≡ false = sym (ap (λ (r : Thread). is_closed r.stage) row) ∙ live in
    let open_seen : is_closed (thread_at (plain_state (view_of k)) t).stage ≡ false = ap (λ (x : MutexTabled). is_closed (row_at x.threads t).stage) is ∙ live in
    keeps.current t here open_row
    ∙ sym (cur-tied (plain_state (view_of k)) k.names.mutex k.graph t (inside-stands k keeps) seen_here open_seen)
    ∙ ap (λ (x : MutexTabled). cur (plain_state x) t) is

-- a row that is for the graph what another one is
pub record IsSameFor (objects : List Object) (new old : Thread) : Type 0 where
  pub base : new.base ≡ old.base
  pub closed : is_closed new.stage ≡ is_closed old.stage
  pub wait : wait_in objects new.stage ≡ wait_in objects old.stage
  pub known : knows_mutex objects new.stage ≡ knows_mutex objects old.stage

abbrev made_by : Bool → ℕ → Option MutexWait → Option Member
made_by closed base wait = if closed then None else Some (record { base = base; wait = wait })

same-member : (objects : List Object) (new old : Thread) → IsSameFor objects new old → member_of objects new ≡ member_of objects old
same-member objects new old same =
    ap (λ b. made_by (is_closed new.stage) b (wait_in objects new.stage)) same.base
    ∙ ap (λ d. made_by d old.base (wait_in objects new.stage)) same.closed
    ∙ ap (made_by (is_closed old.stage) old.base) same.wait

-- a row is written that is the same for the graph
pub graph-kept : (rows : List Thread) (c : ClassObjects) (o : Ownership) (t : ℕ) (row : Thread) → IsGraphOf rows c o → IsSameFor c.objects row (row_at rows t) → IsGraphOf (slice_set rows t row) c o
graph-kept rows c o t row tied same = record {
  members = tied.members ∙ sym (map-set_same (member_of c.objects) rows t row no_thread (same-member c.objects row (row_at rows t) same));
  places = tied.places;
  sound = tied.sound;
  there = tied.there;
  taken = tied.taken;
  once = tied.once;
  known = λ u. same-set (λ (r : Thread). knows_mutex c.objects r.stage) rows t u row no_thread same.known ∙ tied.known u;
}

-- the lists go on going by the current priorities
pub current-kept : (k new : Tabled) (o : Ownership) (t : ℕ) (row : Thread) → AreCurrent k o → new.threads ≡ slice_set k.threads t row → row.base ≡ (row_at k.threads t).base → is_closed row.stage ≡ is_closed (row_at k.threads t).stage → AreCurrent new o
current-kept k new o t row current threads base closed u below live =
    let rows = slice_set k.threads t row in
    let there : u < length k.threads = omega (arith, below, ap length threads, length-set k.threads t row) in
    let still : is_closed (row_at rows u).stage ≡ is_closed (row_at k.threads u).stage = same-set (λ (r : Thread). is_closed r.stage) k.threads t u row no_thread closed in
    let lives : is_closed (row_at rows u).stage ≡ false = subst (λ (rs : List Thread). is_closed (row_at rs u).stage ≡ false) threads live in
    ap (λ (rs : List Thread). (row_at rs u).base) threads
    ∙ same-set (λ (r : Thread). r.base) k.threads t u row no_thread base
    ∙ current u there (sym still ∙ lives)

-- a row is written in the tables that is the same for the graph
pub keeps-row : (k new : Tabled) (bases : List ℕ) (c : ClassObjects) (o : Ownership) (t : ℕ) (row : Thread) → AreMutexTables k bases c o → t < length k.threads → new.threads ≡ slice_set k.threads t row → new.levels ≡ k.levels → IsSameFor c.objects row (row_at k.threads t) → AreMutexTables new bases c o
keeps-row k new bases c o t row keeps there threads levels same = record {
  sized = keeps.sized ∙ sym (length-set k.threads t row) ∙ sym (ap length threads);
  levels = λ u below. subst (λ n. slice_index bases u < n) (sym levels) (keeps.levels u below);
  graph = subst (λ (rs : List Thread). IsGraphOf rs c o) (sym (ap (based bases) threads ∙ based-written bases k.threads t row keeps.sized)) (graph-kept (based bases k.threads) c o t own keeps.graph own_same);
  current = current-kept k new o t row keeps.current threads same.base same.closed;
} where
  own : Thread
  own = record row { base = slice_index bases t }

  own_same : IsSameFor c.objects own (row_at (based bases k.threads) t)
  own_same = subst (λ (r : Thread). IsSameFor c.objects own r) (sym (based-row bases k.threads t keeps.sized there)) (record { base = refl; closed = same.closed; wait = same.wait; known = same.known })

-- a change of a thread's row, and of who is ready, is seen as it is
pub view-row : (k : Inside) (new : Tabled) (v : MutexTabled) (t : ℕ) (change : Thread → Thread) (place : List ℕ → List ℕ) → view_of k ≡ v → Keeps k → new ≡ record (k.tables) { threads = with_row k.tables.threads t change; ready = place k.tables.ready } → IsApart change
    → seen new k.bases.items k.names.mutex k.graph ≡ record v { threads = with_row v.threads t change; ready = place v.ready }
view-row k new v t change place is keeps written apart =
    ap (λ (x : Tabled). seen x k.bases.items k.names.mutex k.graph) written
    ∙ ap (λ (rows : List Thread). record (view_of k) { threads = rows; ready = place k.tables.ready }) (based-changed k.bases.items k.tables.threads t change keeps.sized apart)
    ∙ ap (λ (x : MutexTabled). record x { threads = with_row x.threads t change; ready = place x.ready }) is

-- the same threads are in the tables
pub keeps-again : (k new : Tabled) (bases : List ℕ) (c : ClassObjects) (o : Ownership) → AreMutexTables k bases c o → new.threads ≡ k.threads → new.levels ≡ k.levels → AreMutexTables new bases c o
keeps-again k new bases c o keeps threads levels = record {
  sized = keeps.sized ∙ sym (ap length threads);
  levels = λ u below. subst (λ n. slice_index bases u < n) (sym levels) (keeps.levels u below);
  graph = subst (λ (rows : List Thread). IsGraphOf (based bases rows) c o) (sym threads) keeps.graph;
  current = λ u below live. ap (λ (rows : List Thread). (row_at rows u).base) threads ∙ keeps.current u (subst (λ (rows : List Thread). u < length rows) threads below) (subst (λ (rows : List Thread). is_closed (row_at rows u).stage ≡ false) threads live);
}

pub keeps-same : (k : Inside) (new : Tabled) → Keeps k → new.threads ≡ k.tables.threads → new.levels ≡ k.tables.levels → AreMutexTables new k.bases.items k.names.mutex k.graph
keeps-same k new keeps threads levels = keeps-again k.tables new k.bases.items k.names.mutex k.graph keeps threads levels
