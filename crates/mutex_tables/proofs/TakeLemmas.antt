-- A thread takes a mutex, or waits for one.
use Rattle.std.proofs.Common.{ℕ, ◌≡◌, ◌<◌, ◌+◌, inl, arith, List, Option, Some, None, Bool, true, false, not, ◌&&◌, refl, sym, ap, ◌∙◌, subst, length, slice_index_or}
use Rattle.std.specs.Prelude.{find, nat_lt, ◌==◌, if◌then◌else◌}
use Rattle.std.specs.Option.{option_and_then, option_map}
use Rattle.std.specs.Str.{bytes_eq}
use Rattle.std.proofs.lemmas.List.{length-set}
use Rattle.std.proofs.lemmas.Option.{none-some, same_Some}
use Rattle.rt_plain.specs.declared.stmt.Call.{Call}
use Rattle.rt_plain.specs.kernel.State.{State, Thread, Waiting, InCall, Holding, Mutex, no_thread, is_closed, is_number}
use Rattle.rt_plain.specs.kernel.Priority.{holding_of, owner_of, awaited_mutex}
use Rattle.rt_plain.specs.kernel.Ownership.{Ownership, Taken, MutexWait, awaited_in, owner_in, ceiling_edit, taken_of, take_edit, take_edit_of, wait_edit, with_taken_times, changes}
use Rattle.rt_plain.specs.kernel.MutexCalls.{with_hold, with_mutex}
use Rattle.rt_plain.proofs.kernel.TallyLemmas.{same-set}
use Rattle.object_box.specs.declared.object.Object.{Object}
use Rattle.object_box.specs.Objects.{ClassObjects, number_of}
use Rattle.kernel_tables.specs.Tabled.{Tabled}
use Rattle.kernel_tables.specs.Threads.{row_at, with_row}
use Rattle.mutex_chain.specs.Graph.{IsOther, took_of}
use Rattle.mutex_tie.specs.Tie.{IsGraphOf, StandsFor, ceiling_or, plain_holding, plain_mutex}
use Rattle.mutex_chain.specs.Owners.{ceiling_at}
use Rattle.mutex_tie.specs.Changes.{new_curs}
use Rattle.mutex_tie.proofs.HoldingLemmas.{holding-tied, owner-tied, wait-tied}
use Rattle.mutex_tie.proofs.HoldLemmas.{stands-ceiling, stands-held}
use Rattle.mutex_tie.proofs.TakeLemmas.{seen-mutex}
use Rattle.mutex_tie.proofs.EditLemmas.{stands-got, stands-waits}
use Rattle.mutex_tables.specs.declared.tables.MutexTables.TheInside.{Inside}
use Rattle.mutex_tables.specs.MutexTabled.{MutexTabled, based, seen, plain_state}
use Rattle.mutex_tables.specs.Kept.{AreMutexTables}
use Rattle.mutex_tables.specs.Moved.{moved_behind, renewed, AreWithin}
use Rattle.mutex_tables.specs.Created.{found_mutex}
use Rattle.mutex_tables.specs.Mutexes.{took_by, taken_state, followed}
use Rattle.mutex_tables.proofs.BaseLemmas.{based-changed, based-stage}
use Rattle.mutex_tables.proofs.SeenLemmas.{view_of, Keeps, inside-stands}
use Rattle.mutex_tables.proofs.StageLemmas.{unawaited}
use Rattle.mutex_tables.proofs.FollowLemmas.{MayFollow, graph-there, follow-within, follow-keeps, follow-seen, follow-changes}

-- an edit of the graph that leaves the threads

pub still-follows : (k : Inside) (c : ClassObjects) (p : Ownership) → Keeps k → IsGraphOf (based k.bases.items k.tables.threads) c p → MayFollow k.tables.ready k.tables k.bases.items c k.graph p
still-follows k c p keeps graph = record {
  sized = keeps.sized;
  levels = keeps.levels;
  graph = graph;
  near = λ u low opens. inl (keeps.current u low opens, refl);
  was = λ u low opens. graph-there k.tables k.bases.items k.names.mutex k.graph u keeps.graph ∙ ap not opens;
}

-- the graph stands for a state of these threads, which has these mutexes and owners
pub still-graph : (k : Inside) (s : State) (c : ClassObjects) (p : Ownership) → s.threads ≡ based k.bases.items k.tables.threads → StandsFor s c p → IsGraphOf (based k.bases.items k.tables.threads) c p
still-graph k s c p threads stands = subst (λ (rows : List Thread). IsGraphOf rows c p) threads stands.owned

pub still-seen : (k : Inside) (s : State) (c : ClassObjects) (p : Ownership) → Keeps k → s.threads ≡ based k.bases.items k.tables.threads → s.ready ≡ k.tables.ready → c.limit ≡ k.names.mutex.limit → StandsFor s c p
    → seen (renewed k.tables (changes k.graph p)) k.bases.items c p ≡ followed (view_of k) s (changes k.graph p)
still-seen k s c p keeps threads ready limit stands =
    follow-seen k.tables.ready k.tables k.bases.items c k.graph p (still-follows k c p keeps (still-graph k s c p threads stands))
    ∙ (λ j. record (view_of k) { threads = sym threads j; mutexes = sym stands.mutexes j; holdings = sym stands.holdings j; mutex_limit = limit j; ready = moved_behind k.tables.ready (changes k.graph p) (sym ready j) })

pub still-changes : (k : Inside) (v : MutexTabled) (c : ClassObjects) (p : Ownership) → view_of k ≡ v → Keeps k → IsGraphOf (based k.bases.items k.tables.threads) c p
    → changes k.graph p ≡ new_curs (plain_state v) (plain_state (seen (renewed k.tables (changes k.graph p)) k.bases.items c p))
still-changes k v c p is keeps graph =
    follow-changes k v k.tables k.bases.items c p is keeps (subst (λ (ready : List ℕ). MayFollow ready k.tables k.bases.items c k.graph p) (ap (λ (x : MutexTabled). x.ready) is) (still-follows k c p keeps graph)) refl (λ u opens. opens)

-- a thread takes a mutex

taken-threads : (name : List ℕ) (t : ℕ) (h : Option Holding) (s : State) → (taken_state name t h s).threads ≡ s.threads
taken-threads name t None s = refl
taken-threads name t (Some h) s = by_tests (h.owner == t) (nat_lt h.hold 255)
  where
    by_tests : (a b : Bool) → (if a then (if b then with_hold s h (h.hold + 1) else s) else s).threads ≡ s.threads
    by_tests true true = refl
    by_tests true false = refl
    by_tests false b = refl

taken-ready : (name : List ℕ) (t : ℕ) (h : Option Holding) (s : State) → (taken_state name t h s).ready ≡ s.ready
taken-ready name t None s = refl
taken-ready name t (Some h) s = by_tests (h.owner == t) (nat_lt h.hold 255)
  where
    by_tests : (a b : Bool) → (if a then (if b then with_hold s h (h.hold + 1) else s) else s).ready ≡ s.ready
    by_tests true true = refl
    by_tests true false = refl
    by_tests false b = refl

-- who owns a mutex that is there
pub holding-is : (s : State) (c : ClassObjects) (o : Ownership) (name : List ℕ) (i : ℕ) → StandsFor s c o → number_of c.objects name ≡ Some i → holding_of s name ≡ option_map (plain_holding c.objects) (taken_of o i)
holding-is s c o name i tie is = holding-tied s c o name tie ∙ ap (λ (n : Option ℕ). option_map (plain_holding c.objects) (find (λ (h : Taken). is_number h.mutex n) o.taken)) is

pub took-is : (objects : List Object) (t : ℕ) (r : Option Taken) → took_of t r ≡ took_by t (option_map (plain_holding objects) r)
took-is objects t None = refl
took-is objects t (Some k) = refl

pub taken-stands : (s : State) (c : ClassObjects) (o : Ownership) (name : List ℕ) (i t : ℕ) → StandsFor s c o → number_of c.objects name ≡ Some i → StandsFor (taken_state name t (holding_of s name) s) c (take_edit t i o)
taken-stands s c o name i t tie is =
    subst (λ (h : Option Holding). StandsFor (taken_state name t h s) c (take_edit t i o)) (sym (holding-is s c o name i tie is)) (by_taken (taken_of o i) refl)
  where
    by_tests : (k : Taken) → taken_of o i ≡ Some k → (a b : Bool) → StandsFor (if a then (if b then with_hold s (plain_holding c.objects k) (k.hold + 1) else s) else s) c (if a && b then with_taken_times i (k.hold + 1) o else o)
    by_tests k taken true true = stands-held s c o i (k.hold + 1) k tie taken
    by_tests k taken true false = tie
    by_tests k taken false b = tie

    by_taken : (r : Option Taken) → taken_of o i ≡ r → StandsFor (taken_state name t (option_map (plain_holding c.objects) r) s) c (take_edit_of t i r o)
    by_taken None taken = stands-got s c o name i t tie is
    by_taken (Some k) taken = by_tests k taken (k.owner == t) (nat_lt k.hold 255)

pub take-graph : (k : Inside) (name : List ℕ) (i t : ℕ) → Keeps k → number_of k.names.mutex.objects name ≡ Some i → IsGraphOf (based k.bases.items k.tables.threads) k.names.mutex (take_edit t i k.graph)
take-graph k name i t keeps is =
    still-graph k (taken_state name t (holding_of s name) s) k.names.mutex (take_edit t i k.graph) (taken-threads name t (holding_of s name) s) (taken-stands s k.names.mutex k.graph name i t (inside-stands k keeps) is)
  where
    s : State
    s = plain_state (view_of k)

pub take-seen : (k : Inside) (v : MutexTabled) (name : List ℕ) (i t : ℕ) → view_of k ≡ v → Keeps k → number_of k.names.mutex.objects name ≡ Some i
    → seen (renewed k.tables (changes k.graph (take_edit t i k.graph))) k.bases.items k.names.mutex (take_edit t i k.graph) ≡ followed v (taken_state name t (holding_of (plain_state v) name) (plain_state v)) (changes k.graph (take_edit t i k.graph))
take-seen k v name i t is keeps at =
    still-seen k (taken_state name t (holding_of s name) s) k.names.mutex p keeps (taken-threads name t (holding_of s name) s) (taken-ready name t (holding_of s name) s) refl (taken-stands s k.names.mutex k.graph name i t (inside-stands k keeps) at)
    ∙ ap (λ (x : MutexTabled). followed x (taken_state name t (holding_of (plain_state x) name) (plain_state x)) (changes k.graph p)) is
  where
    s : State
    s = plain_state (view_of k)

    p : Ownership
    p = take_edit t i k.graph

-- a thread waits for a mutex

abbrev pub waiting_row : List ℕ → Option ℕ → ℕ → Thread → Thread
waiting_row name timeout at row = record row { stage = Waiting (InCall (Call.MutexTake name timeout)) at }

module _ (k : Inside) (v : MutexTabled) (name : List ℕ) (i t at : ℕ) (timeout : Option ℕ) (is : view_of k ≡ v) (keeps : Keeps k) (found : number_of k.names.mutex.objects name ≡ Some i) (there : t < length k.tables.threads) (live : is_closed (row_at k.tables.threads t).stage ≡ false) where
  abbrev pub after_wait : Ownership
  after_wait = wait_edit t i at k.graph

  abbrev pub waiting : Tabled
  waiting = record (k.tables) { threads = with_row k.tables.threads t (waiting_row name timeout at) }

  size : length waiting.threads ≡ length k.tables.threads
  size = length-set k.tables.threads t (waiting_row name timeout at (row_at k.tables.threads t))

  rows : based k.bases.items waiting.threads ≡ with_row (based k.bases.items k.tables.threads) t (waiting_row name timeout at)
  rows = based-changed k.bases.items k.tables.threads t (waiting_row name timeout at) keeps.sized (λ row base. refl)

  abbrev s : State
  s = record (plain_state (view_of k)) { numbers = at }

  stands : StandsFor s k.names.mutex k.graph
  stands = record { owned = keeps.graph; mutexes = refl; holdings = refl }

  graph : IsGraphOf (based k.bases.items waiting.threads) k.names.mutex after_wait
  graph = subst (λ (rs : List Thread). IsGraphOf rs k.names.mutex after_wait) (sym rows) (stands-waits s k.names.mutex k.graph name i t timeout None stands found (ap is_closed (based-stage k.bases.items k.tables.threads t) ∙ live)).owned

  open_before : (u : ℕ) → is_closed (row_at waiting.threads u).stage ≡ false → is_closed (row_at k.tables.threads u).stage ≡ false
  open_before u opens = sym (same-set (λ (r : Thread). is_closed r.stage) k.tables.threads t u (waiting_row name timeout at (row_at k.tables.threads t)) no_thread (sym live)) ∙ opens

  follows : MayFollow k.tables.ready waiting k.bases.items k.names.mutex k.graph after_wait
  follows = record {
    sized = keeps.sized ∙ sym size;
    levels = keeps.levels;
    graph = graph;
    near = λ u low opens. inl (same-set (λ (r : Thread). r.base) k.tables.threads t u (waiting_row name timeout at (row_at k.tables.threads t)) no_thread refl ∙ keeps.current u (omega (arith, low, size)) (open_before u opens), refl);
    was = λ u low opens. graph-there k.tables k.bases.items k.names.mutex k.graph u keeps.graph ∙ ap not (open_before u opens);
  }

  pub wait-within : AreWithin waiting (changes k.graph after_wait)
  wait-within = follow-within k.tables.ready waiting k.bases.items k.names.mutex k.graph after_wait follows

  pub wait-keeps : AreMutexTables (renewed waiting (changes k.graph after_wait)) k.bases.items k.names.mutex after_wait
  wait-keeps = follow-keeps k.tables.ready waiting k.bases.items k.names.mutex k.graph after_wait follows

  pub wait-seen : seen (renewed waiting (changes k.graph after_wait)) k.bases.items k.names.mutex after_wait ≡ record v { threads = with_row v.threads t (waiting_row name timeout at); ready = moved_behind v.ready (changes k.graph after_wait) v.ready }
  wait-seen =
      follow-seen k.tables.ready waiting k.bases.items k.names.mutex k.graph after_wait follows
      ∙ ap (λ (rs : List Thread). record (view_of k) { threads = rs; ready = moved_behind k.tables.ready (changes k.graph after_wait) k.tables.ready }) rows
      ∙ ap (λ (x : MutexTabled). record x { threads = with_row x.threads t (waiting_row name timeout at); ready = moved_behind x.ready (changes k.graph after_wait) x.ready }) is

  pub wait-changes : changes k.graph after_wait ≡ new_curs (plain_state v) (plain_state (seen (renewed waiting (changes k.graph after_wait)) k.bases.items k.names.mutex after_wait))
  wait-changes = follow-changes k v waiting k.bases.items k.names.mutex after_wait is keeps (subst (λ (ready : List ℕ). MayFollow ready waiting k.bases.items k.names.mutex k.graph after_wait) (ap (λ (x : MutexTabled). x.ready) is) follows) size open_before

-- who waits for no mutex waits for none in the graph
pub inside-idle : (k : Inside) (v : MutexTabled) (t : ℕ) → view_of k ≡ v → Keeps k → awaited_mutex (row_at v.threads t).stage ≡ None → awaited_in k.graph t ≡ None
inside-idle k v t is keeps none =
    ap (option_map (λ (w : MutexWait). w.mutex)) (wait-tied (plain_state (view_of k)) k.names.mutex k.graph t (inside-stands k keeps))
    ∙ ap (option_map (λ (w : MutexWait). w.mutex)) (unawaited k.names.mutex.objects (row_at (view_of k).threads t).stage (ap (λ (x : MutexTabled). awaited_mutex (row_at x.threads t).stage) is ∙ none)).0

-- another thread owns it in the graph too
pub inside-other : (k : Inside) (v : MutexTabled) (name : List ℕ) (i t : ℕ) → view_of k ≡ v → Keeps k → number_of k.names.mutex.objects name ≡ Some i → IsOther t (owner_of (plain_state v) name) → IsOther t (owner_in k.graph i)
inside-other k v name i t is keeps found other =
    subst (IsOther t) (ap (λ (x : MutexTabled). owner_of (plain_state x) name) (sym is) ∙ owner-tied (plain_state (view_of k)) k.names.mutex k.graph name (inside-stands k keeps) ∙ ap (option_and_then (owner_in k.graph)) found) other

-- a mutex gets another ceiling

pub ceiling-graph : (k : Inside) (name : List ℕ) (i ceiling : ℕ) → Keeps k → number_of k.names.mutex.objects name ≡ Some i → IsGraphOf (based k.bases.items k.tables.threads) k.names.mutex (ceiling_edit i ceiling k.graph)
ceiling-graph k name i ceiling keeps is = (stands-ceiling (plain_state (view_of k)) k.names.mutex k.graph name i ceiling (inside-stands k keeps) is).owned

pub ceiling-seen : (k : Inside) (v : MutexTabled) (name : List ℕ) (i ceiling : ℕ) → view_of k ≡ v → Keeps k → number_of k.names.mutex.objects name ≡ Some i
    → seen (renewed k.tables (changes k.graph (ceiling_edit i ceiling k.graph))) k.bases.items k.names.mutex (ceiling_edit i ceiling k.graph) ≡ followed v (with_mutex (plain_state v) (record { name = name; ceiling = ceiling })) (changes k.graph (ceiling_edit i ceiling k.graph))
ceiling-seen k v name i ceiling is keeps at =
    still-seen k (with_mutex (plain_state (view_of k)) (record { name = name; ceiling = ceiling })) k.names.mutex p keeps refl refl refl (stands-ceiling (plain_state (view_of k)) k.names.mutex k.graph name i ceiling (inside-stands k keeps) at)
    ∙ ap (λ (x : MutexTabled). followed x (with_mutex (plain_state x) (record { name = name; ceiling = ceiling })) (changes k.graph p)) is
  where
    p : Ownership
    p = ceiling_edit i ceiling k.graph

-- the ceiling that a mutex has
pub ceiling-found : (k : Inside) (v : MutexTabled) (name : List ℕ) (i ceiling : ℕ) → view_of k ≡ v → number_of k.names.mutex.objects name ≡ Some i → Some ceiling ≡ ceiling_at k.graph i → option_map (λ (m : Mutex). m.ceiling) (found_mutex v.mutexes name) ≡ Some ceiling
ceiling-found k v name i ceiling is at has =
    sym (ap (λ (x : MutexTabled). option_map (λ (m : Mutex). m.ceiling) (found_mutex x.mutexes name)) is)
    ∙ ap (option_map (λ (m : Mutex). m.ceiling)) (seen-mutex k.graph.ceilings k.names.mutex.objects name)
    ∙ by_found (find (λ (x : Object). bytes_eq x.name name) k.names.mutex.objects) at
  where
    by_found : (r : Option Object) → option_map (λ (x : Object). x.no) r ≡ Some i → option_map (λ (m : Mutex). m.ceiling) (option_map (plain_mutex k.graph.ceilings) r) ≡ Some ceiling
    by_found None e = absurd (none-some i e)
    by_found (Some x) e = ap (λ (n : Option ℕ). Some (ceiling_or n)) (ap (λ m. slice_index_or k.graph.ceilings m None) (same_Some x.no i e) ∙ sym has)
