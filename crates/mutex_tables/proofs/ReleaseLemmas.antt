-- A thread releases a mutex, which may pass to its first waiter.
use Rattle.std.proofs.Common.{ℕ, ◌≡◌, ◌≢◌, ◌<◌, ◌≤◌, ◌++◌, ◌∷◌, [], ◌-◌, arith, List, Option, Some, None, Bool, true, false, not, refl, sym, ap, ◌∙◌, subst, length, slice_set, eqb, ◌⊎◌, inl, inr}
use Rattle.std.specs.Prelude.{IfSome, nat_lt, ◌==◌, if◌then◌else◌}
use Rattle.std.specs.Option.{option_map}
use Rattle.std.proofs.lemmas.Bool.{cases_lt, eqb-true, eqb-false}
use Rattle.std.proofs.lemmas.List.{length-set}
use Rattle.std.proofs.lemmas.Option.{none-some}
use Rattle.rt_base.specs.declared.codes.Code.{Code}
use Rattle.rt_base.specs.declared.codes.WaitOrder.{WaitOrder}
use Rattle.rt_plain.specs.kernel.State.{State, Thread, Stage, Active, Waiting, InCall, Holding, no_thread, thread_at, is_closed}
use Rattle.rt_plain.specs.declared.stmt.Call.{Call}
use Rattle.rt_plain.specs.kernel.Sound.{is_active}
use Rattle.rt_plain.specs.kernel.Priority.{holding_of, awaited_mutex}
use Rattle.rt_plain.specs.kernel.Owners.{give_back_effect, pass_effect}
use Rattle.rt_plain.specs.kernel.Outcome.{Outcome, ByThread, refusal, silent_success, success}
use Rattle.rt_plain.specs.kernel.MutexCalls.{with_hold, mutex_release, mutex_release_outcome}
use Rattle.rt_plain.specs.kernel.Waiting.{first_waiter, takes_mutex}
use Rattle.rt_plain.specs.kernel.Ownership.{CurChange, Ownership, Taken, MutexWait, awaited_in, cur_in, first_in, taken_of, changes, is_there, member_at}
use Rattle.rt_plain.proofs.kernel.TallyLemmas.{here-set}
use Rattle.object_box.specs.declared.object.Object.{Object}
use Rattle.object_box.specs.Objects.{ClassObjects, number_of}
use Rattle.kernel_tables.specs.Tabled.{woken_row}
use Rattle.kernel_tables.specs.Threads.{row_at}
use Rattle.mutex_chain.specs.Graph.{released_of, passed_of}
use Rattle.mutex_chain.specs.declared.answers.Released.{Released}
use Rattle.mutex_chain.proofs.EditLemmas.{first_awaits}
use Rattle.mutex_tie.specs.Tie.{IsGraphOf, StandsFor, plain_holding, name_at, wait_in}
use Rattle.mutex_tie.specs.Changes.{new_curs}
use Rattle.mutex_tie.proofs.NameLemmas.{number-name}
use Rattle.mutex_tie.proofs.HoldLemmas.{found-mutex}
use Rattle.mutex_tie.proofs.HoldingLemmas.{wait-tied}
use Rattle.mutex_tie.proofs.WaiterLemmas.{first-tied}
use Rattle.mutex_tie.proofs.ReleaseLemmas.{release-found}
use Rattle.mutex_tables.specs.declared.tables.MutexTables.TheInside.{Inside}
use Rattle.mutex_tables.specs.MutexTabled.{MutexTabled, based, seen, plain_state}
use Rattle.mutex_tables.specs.Moved.{moved_behind, renewed, roused}
use Rattle.mutex_tables.specs.Mutexes.{AreOut, MayWake, followed, passed_to, released_by, woken_next}
use Rattle.mutex_tables.proofs.BaseLemmas.{based-row, based-stage, length-based, set-past}
use Rattle.mutex_tables.proofs.SeenLemmas.{view_of, Keeps, inside-stands}
use Rattle.mutex_tables.proofs.RenewLemmas.{cur-below}
use Rattle.mutex_tables.proofs.FollowLemmas.{MayFollow, graph-there, follow-seen, follow-changes}
use Rattle.mutex_tables.proofs.RouseLemmas.{set-set, rouse-follows, roused-based, roused-here, roused-other}
use Rattle.mutex_tables.proofs.WokenLemmas.{live-there}
use Rattle.mutex_tables.proofs.StopLemmas.{waiting-open}
use Rattle.mutex_tables.proofs.TakeLemmas.{holding-is, still-follows}

-- whom a release passed the mutex to has waited for it, and is woken with 0; else no thread is changed
abbrev pub IsReleased : State → State → Option ℕ → Option ℕ → Type 0
IsReleased s after first None = (after.threads ≡ s.threads) × (after.ready ≡ s.ready)
IsReleased s after first (Some w) = (first ≡ Some w) × ((after.threads ≡ slice_set s.threads w (woken_row Code.Ok (thread_at s w))) × (after.ready ≡ s.ready ++ w ∷ []))

-- a code and then a place, at one row
pub code-stage : (rows : List Thread) (w : ℕ) (code : Code) → slice_set (slice_set rows w (record (row_at rows w) { code = code })) w (record (row_at (slice_set rows w (record (row_at rows w) { code = code })) w) { stage = Active }) ≡ slice_set rows w (woken_row code (row_at rows w))
code-stage rows w code = set-set rows w coded (record (row_at (slice_set rows w coded) w) { stage = Active }) ∙ by_size (cases_lt w (length rows))
  where
    coded : Thread
    coded = record (row_at rows w) { code = code }

    by_size : (w < length rows) ⊎ (length rows ≤ w) → slice_set rows w (record (row_at (slice_set rows w coded) w) { stage = Active }) ≡ slice_set rows w (record coded { stage = Active })
    by_size (inl low) = ap (λ (r : Thread). slice_set rows w (record r { stage = Active })) (here-set rows w coded no_thread low)
    by_size (inr past) = set-past rows w (record (row_at (slice_set rows w coded) w) { stage = Active }) (record coded { stage = Active }) past

passed-shape : (s : State) (name : List ℕ) (first : Option ℕ) → IsReleased s (pass_effect name first s).state first (passed_to (passed_of first))
passed-shape s name None = (refl, refl)
passed-shape s name (Some w) = (refl, (code-stage s.threads w Code.Ok, refl))

-- what a release does to the threads and the ready list
pub release-shape : (s : State) (c : ClassObjects) (o : Ownership) (name : List ℕ) (i t : ℕ) → StandsFor s c o → number_of c.objects name ≡ Some i
    → IsReleased s (mutex_release name s (ByThread t 0)).effect.state (first_in o i) (passed_to (released_of t (taken_of o i) (first_in o i)))
release-shape s c o name i t tie is =
    subst (λ (x : Outcome). IsReleased s x.effect.state (first_in o i) (passed_to (released_of t (taken_of o i) (first_in o i)))) (sym (release-found s c o name i (ByThread t 0) tie is)) (by_taken (taken_of o i) refl)
  where
    back : (k : Taken) → taken_of o i ≡ Some k → IsReleased s (give_back_effect (name_at c.objects k.mutex) s).state (first_in o i) (passed_to (passed_of (first_in o i)))
    back k taken =
        let same : name_at c.objects k.mutex ≡ name = ap (name_at c.objects) (found-mutex i o.taken k taken) ∙ number-name c.objects name i tie.owned.sound.names tie.owned.sound.numbers is in
        let first : first_waiter s WaitOrder.Prio (takes_mutex (name_at c.objects k.mutex)) ≡ first_in o i = ap (λ n. first_waiter s WaitOrder.Prio (takes_mutex n)) same ∙ first-tied s c o name i tie is in
        subst (λ (f : Option ℕ). IsReleased s (pass_effect (name_at c.objects k.mutex) f s).state (first_in o i) (passed_to (passed_of (first_in o i)))) (sym first) (passed-shape s (name_at c.objects k.mutex) (first_in o i))

    by_tests : (k : Taken) → taken_of o i ≡ Some k → (a b : Bool)
        → IsReleased s (if a then (if b then silent_success (with_hold s (plain_holding c.objects k) (k.hold - 1)) else success (give_back_effect (name_at c.objects k.mutex) s)) else refusal s Code.Error).effect.state (first_in o i) (passed_to (if a then (if b then Released.Held (k.hold - 1) else passed_of (first_in o i)) else Released.NotOwner (Some k.owner)))
    by_tests k taken true true = (refl, refl)
    by_tests k taken true false = back k taken
    by_tests k taken false b = (refl, refl)

    by_taken : (r : Option Taken) → taken_of o i ≡ r → IsReleased s (mutex_release_outcome (option_map (plain_holding c.objects) r) s (ByThread t 0)).effect.state (first_in o i) (passed_to (released_of t r (first_in o i)))
    by_taken None taken = (refl, refl)
    by_taken (Some k) taken = by_tests k taken (k.owner == t) (nat_lt 1 k.hold)

-- who waits for a mutex in the graph waits for one
pub awaits-stage : (k : Inside) (w i : ℕ) → Keeps k → awaited_in k.graph w ≡ Some i → awaited_mutex (row_at (view_of k).threads w).stage ≢ None
awaits-stage k w i keeps is = by_stage (row_at (view_of k).threads w).stage (sym (ap (option_map (λ (x : MutexWait). x.mutex)) (wait-tied (plain_state (view_of k)) k.names.mutex k.graph w (inside-stands k keeps))) ∙ is)
  where
    by_stage : (stage : Stage) → option_map (λ (x : MutexWait). x.mutex) (wait_in k.names.mutex.objects stage) ≡ Some i → awaited_mutex stage ≢ None
    by_stage (Waiting (InCall (Call.MutexTake name timeout)) number) e none = none-some name (sym none)
    by_stage _ e none = none-some i e

-- the graph stands for the threads with who was passed to awake
released-graph : (k : Inside) (after : State) (p : Ownership) (first q : Option ℕ) → Keeps k → StandsFor after k.names.mutex p → IsReleased (plain_state (view_of k)) after first q → IfSome q (λ w. w < length k.tables.threads) → IsGraphOf (based k.bases.items (woken_next k.tables p q).threads) k.names.mutex p
released-graph k after p first None keeps stands shape there = subst (λ (rows : List Thread). IsGraphOf rows k.names.mutex p) shape.0 stands.owned
released-graph k after p first (Some w) keeps stands shape there = subst (λ (rows : List Thread). IsGraphOf rows k.names.mutex p) (shape.1.0 ∙ sym (roused-based k.bases.items k.tables w (cur_in p w) Code.Ok keeps.sized there)) stands.owned

-- the first waiter may wake
first-wakes : (k : Inside) (v : MutexTabled) (after : State) (i w : ℕ) (p : Ownership) → view_of k ≡ v → Keeps k → AreOut v → first_in k.graph i ≡ Some w → StandsFor after k.names.mutex p → IsReleased (plain_state (view_of k)) after (first_in k.graph i) (Some w) → MayWake k.tables p w
first-wakes k v after i w p is keeps out first stands shape = record {
  there = there;
  live = live;
  idle = ap is_active (sym stage) ∙ both.1;
  unready = subst (λ (x : MutexTabled). AreOut x) (sym is) out w some;
  level = cur-below (based k.bases.items (roused k.tables w Code.Ok (cur_in p w)).threads) k.names.mutex p w k.tables.levels graph (omega (arith, there, size, length-based k.bases.items (roused k.tables w Code.Ok (cur_in p w)).threads)) member base;
  member = member;
}
  where
    some : awaited_mutex (row_at (view_of k).threads w).stage ≢ None
    some = awaits-stage k w i keeps (first_awaits k.graph i w first)

    stage : (row_at (view_of k).threads w).stage ≡ (row_at k.tables.threads w).stage
    stage = based-stage k.bases.items k.tables.threads w

    both : (is_closed (row_at (view_of k).threads w).stage ≡ false) × (is_active (row_at (view_of k).threads w).stage ≡ false)
    both = waiting-open (row_at (view_of k).threads w).stage some

    live : is_closed (row_at k.tables.threads w).stage ≡ false
    live = ap is_closed (sym stage) ∙ both.0

    there : w < length k.tables.threads
    there = live-there k.tables.threads w live

    size : length (roused k.tables w Code.Ok (cur_in p w)).threads ≡ length k.tables.threads
    size = length-set k.tables.threads w (record (row_at k.tables.threads w) { base = cur_in p w; code = Code.Ok; stage = Active })

    graph : IsGraphOf (based k.bases.items (roused k.tables w Code.Ok (cur_in p w)).threads) k.names.mutex p
    graph = released-graph k after p (first_in k.graph i) (Some w) keeps stands shape there

    member : is_there (member_at p w) ≡ true
    member = graph-there (roused k.tables w Code.Ok (cur_in p w)) k.bases.items k.names.mutex p w graph ∙ ap (λ (r : Thread). not (is_closed r.stage)) (roused-here k.tables w (cur_in p w) Code.Ok there)

    base : (row_at (based k.bases.items (roused k.tables w Code.Ok (cur_in p w)).threads) w).base < k.tables.levels
    base = subst (λ (r : Thread). r.base < k.tables.levels) (sym (based-row k.bases.items (roused k.tables w Code.Ok (cur_in p w)).threads w (keeps.sized ∙ sym size) (omega (arith, there, size)))) (keeps.levels w (omega (arith, there, keeps.sized)))

-- whoever was passed to may wake
pub next-wakes : (k : Inside) (v : MutexTabled) (after : State) (i : ℕ) (q : Option ℕ) (p : Ownership) → view_of k ≡ v → Keeps k → AreOut v → StandsFor after k.names.mutex p → IsReleased (plain_state (view_of k)) after (first_in k.graph i) q → IfSome q (MayWake k.tables p)
next-wakes k v after i None p is keeps out stands shape = tt
next-wakes k v after i (Some w) p is keeps out stands shape = first-wakes k v after i w p is keeps out shape.0 stands shape

-- the lists may follow a release
module _ (k : Inside) (after : State) (p : Ownership) (first : Option ℕ) (keeps : Keeps k) (stands : StandsFor after k.names.mutex p) where
  pub released-follows : (q : Option ℕ) → IsReleased (plain_state (view_of k)) after first q → IfSome q (MayWake k.tables p) → MayFollow k.tables.ready (woken_next k.tables p q) k.bases.items k.names.mutex k.graph p
  released-follows None shape may = still-follows k k.names.mutex p keeps (released-graph k after p first None keeps stands shape tt)
  released-follows (Some w) shape may = rouse-follows k.tables k.bases.items k.names.mutex k.graph p w Code.Ok keeps.sized keeps.levels keeps.current keeps.graph may.there may.live may.unready (released-graph k after p first (Some w) keeps stands shape may.there)

  -- what contracts see of the tables before the lists follow
  released-shown : (q : Option ℕ) → IsReleased (plain_state (view_of k)) after first q → IfSome q (MayWake k.tables p) → (cs : List CurChange)
      → record (seen (woken_next k.tables p q) k.bases.items k.names.mutex p) { ready = moved_behind k.tables.ready cs (woken_next k.tables p q).ready } ≡ followed (view_of k) after cs
  released-shown None shape may cs = λ j. record (view_of k) { threads = sym shape.0 j; mutexes = sym stands.mutexes j; holdings = sym stands.holdings j; ready = moved_behind k.tables.ready cs (sym shape.1 j) }
  released-shown (Some w) shape may cs =
      let rows : based k.bases.items (roused k.tables w Code.Ok (cur_in p w)).threads ≡ after.threads = roused-based k.bases.items k.tables w (cur_in p w) Code.Ok keeps.sized may.there ∙ sym shape.1.0 in
      λ j. record (view_of k) { threads = rows j; mutexes = sym stands.mutexes j; holdings = sym stands.holdings j; ready = moved_behind k.tables.ready cs (sym shape.1.1 j) }

  pub released-seen : (q : Option ℕ) → IsReleased (plain_state (view_of k)) after first q → IfSome q (MayWake k.tables p)
      → seen (renewed (woken_next k.tables p q) (changes k.graph p)) k.bases.items k.names.mutex p ≡ followed (view_of k) after (changes k.graph p)
  released-seen q shape may =
      follow-seen k.tables.ready (woken_next k.tables p q) k.bases.items k.names.mutex k.graph p (released-follows q shape may)
      ∙ released-shown q shape may (changes k.graph p)

  same-count : (q : Option ℕ) → length (woken_next k.tables p q).threads ≡ length k.tables.threads
  same-count None = refl
  same-count (Some w) = length-set k.tables.threads w (record (row_at k.tables.threads w) { base = cur_in p w; code = Code.Ok; stage = Active })

  lived : (q : Option ℕ) → IfSome q (MayWake k.tables p) → (u : ℕ) → is_closed (row_at (woken_next k.tables p q).threads u).stage ≡ false → is_closed (row_at k.tables.threads u).stage ≡ false
  lived None may u opens = opens
  lived (Some w) may u opens = by_case (eqb u w) refl
    where
      by_case : (d : Bool) → eqb u w ≡ d → is_closed (row_at k.tables.threads u).stage ≡ false
      by_case true same = ap (λ x. is_closed (row_at k.tables.threads x).stage) (eqb-true u w same) ∙ may.live
      by_case false apart = ap (λ (r : Thread). is_closed r.stage) (sym (roused-other k.tables w (cur_in p w) u Code.Ok (eqb-false u w apart))) ∙ opens

  pub released-changes : (v : MutexTabled) → view_of k ≡ v → (q : Option ℕ) → IsReleased (plain_state (view_of k)) after first q → IfSome q (MayWake k.tables p)
      → changes k.graph p ≡ new_curs (plain_state v) (plain_state (seen (renewed (woken_next k.tables p q) (changes k.graph p)) k.bases.items k.names.mutex p))
  released-changes v is q shape may =
      follow-changes k v (woken_next k.tables p q) k.bases.items k.names.mutex p is keeps
      (subst (λ (ready : List ℕ). MayFollow ready (woken_next k.tables p q) k.bases.items k.names.mutex k.graph p) (ap (λ (x : MutexTabled). x.ready) is) (released-follows q shape may))
      (same-count q) (lived q may)

-- the answer of a release, by what contracts see
released-same : (objects : List Object) (t : ℕ) (r : Option Taken) (first : Option ℕ) → released_of t r first ≡ released_by t (option_map (plain_holding objects) r) first
released-same objects t None first = refl
released-same objects t (Some k) first = refl

pub released-is : (k : Inside) (v : MutexTabled) (name : List ℕ) (i t : ℕ) → view_of k ≡ v → Keeps k → number_of k.names.mutex.objects name ≡ Some i
    → released_of t (taken_of k.graph i) (first_in k.graph i) ≡ released_by t (holding_of (plain_state v) name) (first_waiter (plain_state v) WaitOrder.Prio (takes_mutex name))
released-is k v name i t is keeps at =
    released-same k.names.mutex.objects t (taken_of k.graph i) (first_in k.graph i)
    ∙ ap (λ (h : Option Holding). released_by t h (first_in k.graph i)) (sym (holding-is s k.names.mutex k.graph name i (inside-stands k keeps) at))
    ∙ ap (released_by t (holding_of s name)) (sym (first-tied s k.names.mutex k.graph name i (inside-stands k keeps) at))
    ∙ ap (λ (x : MutexTabled). released_by t (holding_of (plain_state x) name) (first_waiter (plain_state x) WaitOrder.Prio (takes_mutex name))) is
  where
    s : State
    s = plain_state (view_of k)
