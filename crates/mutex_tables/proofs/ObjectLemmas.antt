-- Semaphores and event objects, and those who wait for them.
use Rattle.std.proofs.Common.{ℕ, ◌≡◌, ◌<◌, ◌++◌, ◌∷◌, [], List, Option, Some, None, Result, Ok, Err, Bool, true, false, refl, sym, ap, ◌∙◌, subst, map, is_some, cond}
use Rattle.std.specs.Prelude.{bit_and, bit_or}
use Rattle.std.specs.Bool.{OnFalse, OnTrue}
use Rattle.std.specs.List.{AllByRecursion}
use Rattle.std.proofs.lemmas.Bool.{OnTrue_at, OnTrue_from, OnFalse_at, OnFalse_from}
use Rattle.std.proofs.lemmas.Option.{none-some, same_Some}
use Rattle.rt_base.specs.declared.codes.Code.{Code}
use Rattle.rt_base.specs.declared.codes.WaitOrder.{WaitOrder}
use Rattle.rt_plain.specs.declared.stmt.Call.{Call}
use Rattle.rt_plain.specs.kernel.State.{Thread, Stage, Sem, EventObj}
use Rattle.rt_plain.specs.kernel.Waiting.{head_of, takes_sem, receives_event}
use Rattle.rt_plain.specs.kernel.EventCalls.{Wanting, flags_left, is_satisfied, satisfied_waiters, want_of, wanting_threads}
use Rattle.object_box.specs.declared.fault.Make.{Make}
use Rattle.object_box.specs.declared.fault.Make.TheVariants.{Taken, ClassFull}
use Rattle.ipc_counts.specs.declared.sem.SemReleased.{SemReleased}
use Rattle.ipc_counts.specs.declared.sem.SemReleased.TheVariants.{Woke, Raised, Full}
use Rattle.kernel_tables.specs.Tabled.{Tabled, all_given, all_woken, event_line, found_event, found_sem, given_row, line_of, put_event, sem_line, woken_row}
use Rattle.kernel_tables.specs.Tabled as Below
use Rattle.kernel_tables.specs.Threads.{row_at}
use Rattle.mutex_tables.specs.declared.tables.MutexTables.TheInside.{Inside}
use Rattle.mutex_tables.specs.MutexTabled.{MutexTabled, based, plain_state, seen}
use Rattle.mutex_tables.specs.Kept.{AreMutexTables}
use Rattle.mutex_tables.specs.Woken.{CreatesEvent, CreatesSem, Releases, sem_waiters, sent_to, without_event, without_sem, woken_on}
use Rattle.mutex_tables.proofs.BaseLemmas.{based-stage, length-based}
use Rattle.mutex_tables.proofs.SeenLemmas.{view_of, Keeps, keeps-same, view-row}
use Rattle.mutex_tables.proofs.LineLemmas.{TakesNoMutex, WaitsIn, line-seen, line-waits, waits-apart}
use Rattle.mutex_tables.proofs.WokenLemmas.{IsOff, IsWaking, changed-based, changed-keeps}

-- threads that wake with a code
pub woken-wakes : (code : Code) → IsWaking (woken_row code)
woken-wakes code = record { apart = λ row base. refl; base = λ row. refl; opens = λ row. refl; off = λ row. refl }

pub given-wakes : (flags : ℕ) → IsWaking (given_row flags)
given-wakes flags = record { apart = λ row base. refl; base = λ row. refl; opens = λ row. refl; off = λ row. refl }

abbrev pub itself : ℕ → ℕ
itself t = t

-- who waits in a list in which nobody waits for a mutex hasn't ended, and waits for none
pub off-all : (threads : List Thread) (p : Call → Bool) (ts : List ℕ) → TakesNoMutex p → AllByRecursion (WaitsIn threads p) ts → AllByRecursion (λ t. IsOff threads (itself t)) ts
off-all threads p [] none all = tt
off-all threads p (t ∷ ts) none (this, all) = (waits-apart p (row_at threads t).stage none this, off-all threads p ts none all)

head-all : (P : ℕ → Type 0) (ts : List ℕ) (t : ℕ) → head_of ts ≡ Some t → AllByRecursion P ts → P t
head-all P [] t is all = absurd (none-some t is)
head-all P (u ∷ us) t is all = subst P (same_Some u t is) all.0

no-mutex-sem : (name : List ℕ) → TakesNoMutex (takes_sem name)
no-mutex-sem name mutex timeout = refl

no-mutex-event : (name : List ℕ) → TakesNoMutex (receives_event name)
no-mutex-event name mutex timeout = refl

-- the tables with those of a wait list awake
pub all-woken-keeps : (k : Inside) (new : Tabled) (code : Code) (order : WaitOrder) (p : Call → Bool) (ts : List ℕ) → Keeps k → TakesNoMutex p → ts ≡ line_of k.tables.threads order p → new.threads ≡ all_woken code k.tables.threads ts → new.levels ≡ k.tables.levels → AreMutexTables new k.bases.items k.names.mutex k.graph
all-woken-keeps k new code order p ts keeps none is threads levels =
    changed-keeps itself (λ t. woken_row code) k.tables new k.bases.items k.names.mutex k.graph ts (λ t. woken-wakes code)
    (off-all k.tables.threads p ts none (subst (AllByRecursion (WaitsIn k.tables.threads p)) (sym is) (line-waits k.tables.threads order p))) keeps threads levels

pub all-woken-based : (k : Inside) (code : Code) (ts : List ℕ) → Keeps k → based k.bases.items (all_woken code k.tables.threads ts) ≡ all_woken code (based k.bases.items k.tables.threads) ts
all-woken-based k code ts keeps = changed-based itself (λ t. woken_row code) k.bases.items k.tables.threads ts (λ t. woken-wakes code) keeps.sized

-- a release of a semaphore

pub release-keeps : (k : Inside) (new : Tabled) (name : List ℕ) (answer : Option SemReleased) → Keeps k → Below.Releases k.tables new name answer → AreMutexTables new k.bases.items k.names.mutex k.graph
release-keeps k new name None keeps is = keeps-same k new keeps (ap (λ (x : Tabled). x.threads) is.1) (ap (λ (x : Tabled). x.levels) is.1)
release-keeps k new name (Some (Woke t)) keeps (sem, (found, (head, (there, is)))) =
    changed-keeps itself (λ u. woken_row Code.Ok) k.tables new k.bases.items k.names.mutex k.graph (t ∷ []) (λ u. woken-wakes Code.Ok)
    (waits-apart (takes_sem sem.name) (row_at k.tables.threads t).stage (no-mutex-sem sem.name) (head-all (WaitsIn k.tables.threads (takes_sem sem.name)) (sem_line k.tables.threads sem) t head (line-waits k.tables.threads sem.order (takes_sem sem.name))), tt)
    keeps (ap (λ (x : Tabled). x.threads) is) (ap (λ (x : Tabled). x.levels) is)
release-keeps k new name (Some Full) keeps (sem, (found, (head, (full, is)))) = keeps-same k new keeps (ap (λ (x : Tabled). x.threads) is) (ap (λ (x : Tabled). x.levels) is)
release-keeps k new name (Some Raised) keeps (sem, (found, (head, (room, is)))) = keeps-same k new keeps (ap (λ (x : Tabled). x.threads) is) (ap (λ (x : Tabled). x.levels) is)

abbrev pub seen_by : Inside → Tabled → MutexTabled
seen_by k new = seen new k.bases.items k.names.mutex k.graph

pub release-seen : (k : Inside) (v : MutexTabled) (new : Tabled) (name : List ℕ) (answer : Option SemReleased) → view_of k ≡ v → Keeps k → Below.Releases k.tables new name answer → Releases v (seen_by k new) name answer
release-seen k v new name answer is keeps releases = subst (λ (x : MutexTabled). Releases x (seen_by k new) name answer) is (by_answer answer releases)
  where
    head_is : (sem : Sem) → head_of (sem_waiters (view_of k) sem) ≡ head_of (sem_line k.tables.threads sem)
    head_is sem = ap head_of (sym (line-seen k (view_of k) sem.order (takes_sem sem.name) refl keeps))

    by_answer : (answer : Option SemReleased) → Below.Releases k.tables new name answer → Releases (view_of k) (seen_by k new) name answer
    by_answer None (missing, same) = (missing, ap (seen_by k) same)
    by_answer (Some (Woke t)) (sem, (found, (head, (there, same)))) = (sem, (found, (head_is sem ∙ head, (subst (λ n. t < n) (sym (length-based k.bases.items k.tables.threads)) there, view-row k new (view_of k) t (woken_row Code.Ok) (λ ready. ready ++ t ∷ []) refl keeps same (λ row base. refl)))))
    by_answer (Some Full) (sem, (found, (head, (full, same)))) = (sem, (found, (head_is sem ∙ head, (full, ap (seen_by k) same))))
    by_answer (Some Raised) (sem, (found, (head, (room, same)))) = (sem, (found, (head_is sem ∙ head, (room, ap (seen_by k) same))))

-- creations

pub sem-created : (k : Inside) (v : MutexTabled) (new : Tabled) (sem : Sem) (r : Result Unit Make) → view_of k ≡ v → Keeps k → Below.CreatesSem k.tables new sem r → (CreatesSem v (seen_by k new) sem r) × (AreMutexTables new k.bases.items k.names.mutex k.graph)
sem-created k v new sem r is keeps creates = (subst (λ (x : MutexTabled). CreatesSem x (seen_by k new) sem r) is (shown r creates), kept r creates)
  where
    shown : (r : Result Unit Make) → Below.CreatesSem k.tables new sem r → CreatesSem (view_of k) (seen_by k new) sem r
    shown (Ok done) (free, (room, same)) = (free, (room, ap (seen_by k) same))
    shown (Err (Taken number)) (taken, same) = (taken, ap (seen_by k) same)
    shown (Err (ClassFull limit)) (free, (full, same)) = (free, (full, ap (seen_by k) same))

    kept : (r : Result Unit Make) → Below.CreatesSem k.tables new sem r → AreMutexTables new k.bases.items k.names.mutex k.graph
    kept (Ok done) (free, (room, same)) = keeps-same k new keeps (ap (λ (x : Tabled). x.threads) same) (ap (λ (x : Tabled). x.levels) same)
    kept (Err (Taken number)) (taken, same) = keeps-same k new keeps (ap (λ (x : Tabled). x.threads) same) (ap (λ (x : Tabled). x.levels) same)
    kept (Err (ClassFull limit)) (free, (full, same)) = keeps-same k new keeps (ap (λ (x : Tabled). x.threads) same) (ap (λ (x : Tabled). x.levels) same)

pub event-created : (k : Inside) (v : MutexTabled) (new : Tabled) (event : EventObj) (r : Result Unit Make) → view_of k ≡ v → Keeps k → Below.CreatesEvent k.tables new event r → (CreatesEvent v (seen_by k new) event r) × (AreMutexTables new k.bases.items k.names.mutex k.graph)
event-created k v new event r is keeps creates = (subst (λ (x : MutexTabled). CreatesEvent x (seen_by k new) event r) is (shown r creates), kept r creates)
  where
    shown : (r : Result Unit Make) → Below.CreatesEvent k.tables new event r → CreatesEvent (view_of k) (seen_by k new) event r
    shown (Ok done) (free, (room, same)) = (free, (room, ap (seen_by k) same))
    shown (Err (Taken number)) (taken, same) = (taken, ap (seen_by k) same)
    shown (Err (ClassFull limit)) (free, (full, same)) = (free, (full, ap (seen_by k) same))

    kept : (r : Result Unit Make) → Below.CreatesEvent k.tables new event r → AreMutexTables new k.bases.items k.names.mutex k.graph
    kept (Ok done) (free, (room, same)) = keeps-same k new keeps (ap (λ (x : Tabled). x.threads) same) (ap (λ (x : Tabled). x.levels) same)
    kept (Err (Taken number)) (taken, same) = keeps-same k new keeps (ap (λ (x : Tabled). x.threads) same) (ap (λ (x : Tabled). x.levels) same)
    kept (Err (ClassFull limit)) (free, (full, same)) = keeps-same k new keeps (ap (λ (x : Tabled). x.threads) same) (ap (λ (x : Tabled). x.levels) same)

-- deletions

-- what is so where a test answers that there is something
pub by-found : {A : Type 0} (o : Option A) (b : Bool) (P : Type 0) → b ≡ is_some o → (b ≡ false → P) → ((x : A) → o ≡ Some x → b ≡ true → P) → P
by-found None b P is none some = none is
by-found (Some x) b P is none some = some x refl is

-- what a deletion of a semaphore answers and leaves, as the tables below have it
pub record DeletesSem (old new : Tabled) (name woken : List ℕ) (answer : Bool) : Type 0 where
  pub answered : answer ≡ is_some (found_sem old.sems name)
  pub missing : OnFalse answer (new ≡ old)
  pub waiters_are : (sem : Sem) → found_sem old.sems name ≡ Some sem → woken ≡ sem_line old.threads sem
  pub state : OnTrue answer (new ≡ Below.without_sem old name woken)

pub sem-deleted-keeps : (k : Inside) (new : Tabled) (name woken : List ℕ) (answer : Bool) → Keeps k → DeletesSem k.tables new name woken answer → AreMutexTables new k.bases.items k.names.mutex k.graph
sem-deleted-keeps k new name woken answer keeps d =
    by-found (found_sem k.tables.sems name) answer (AreMutexTables new k.bases.items k.names.mutex k.graph) d.answered
    (λ no. keeps-same k new keeps (ap (λ (x : Tabled). x.threads) (OnFalse_at no d.missing)) (ap (λ (x : Tabled). x.levels) (OnFalse_at no d.missing)))
    (λ sem found yes. all-woken-keeps k new Code.Error sem.order (takes_sem sem.name) woken keeps (no-mutex-sem sem.name) (d.waiters_are sem found) (ap (λ (x : Tabled). x.threads) (OnTrue_at yes d.state)) (ap (λ (x : Tabled). x.levels) (OnTrue_at yes d.state)))

pub sem-deleted-state : (k : Inside) (v : MutexTabled) (new : Tabled) (name woken : List ℕ) (answer : Bool) → view_of k ≡ v → Keeps k → OnTrue answer (new ≡ Below.without_sem k.tables name woken) → OnTrue answer (seen_by k new ≡ without_sem v name woken)
sem-deleted-state k v new name woken answer is keeps state = OnTrue_from answer (seen_by k new ≡ without_sem v name woken) (λ yes.
    ap (seen_by k) (OnTrue_at yes state)
    ∙ ap (λ (rows : List Thread). record (without_sem (view_of k) name woken) { threads = rows }) (all-woken-based k Code.Error woken keeps)
    ∙ ap (λ (x : MutexTabled). without_sem x name woken) is)

pub record DeletesEvent (old new : Tabled) (name woken : List ℕ) (answer : Bool) : Type 0 where
  pub answered : answer ≡ is_some (found_event old.events name)
  pub missing : OnFalse answer (new ≡ old)
  pub waiters_are : (event : EventObj) → found_event old.events name ≡ Some event → woken ≡ event_line old.threads event
  pub state : OnTrue answer (new ≡ Below.without_event old name woken)

pub event-deleted-keeps : (k : Inside) (new : Tabled) (name woken : List ℕ) (answer : Bool) → Keeps k → DeletesEvent k.tables new name woken answer → AreMutexTables new k.bases.items k.names.mutex k.graph
event-deleted-keeps k new name woken answer keeps d =
    by-found (found_event k.tables.events name) answer (AreMutexTables new k.bases.items k.names.mutex k.graph) d.answered
    (λ no. keeps-same k new keeps (ap (λ (x : Tabled). x.threads) (OnFalse_at no d.missing)) (ap (λ (x : Tabled). x.levels) (OnFalse_at no d.missing)))
    (λ event found yes. all-woken-keeps k new Code.Error event.order (receives_event event.name) woken keeps (no-mutex-event event.name) (d.waiters_are event found) (ap (λ (x : Tabled). x.threads) (OnTrue_at yes d.state)) (ap (λ (x : Tabled). x.levels) (OnTrue_at yes d.state)))

pub event-deleted-state : (k : Inside) (v : MutexTabled) (new : Tabled) (name woken : List ℕ) (answer : Bool) → view_of k ≡ v → Keeps k → OnTrue answer (new ≡ Below.without_event k.tables name woken) → OnTrue answer (seen_by k new ≡ without_event v name woken)
event-deleted-state k v new name woken answer is keeps state = OnTrue_from answer (seen_by k new ≡ without_event v name woken) (λ yes.
    ap (seen_by k) (OnTrue_at yes state)
    ∙ ap (λ (rows : List Thread). record (without_event (view_of k) name woken) { threads = rows }) (all-woken-based k Code.Error woken keeps)
    ∙ ap (λ (x : MutexTabled). without_event x name woken) is)

pub not-deleted : (k : Inside) (v : MutexTabled) (new : Tabled) (answer : Bool) → view_of k ≡ v → OnFalse answer (new ≡ k.tables) → OnFalse answer (seen_by k new ≡ v)
not-deleted k v new answer is missing = OnFalse_from answer (seen_by k new ≡ v) (λ no. ap (seen_by k) (OnFalse_at no missing) ∙ is)

-- flags are sent

map-same : {A B : Type 0} (f g : A → B) (xs : List A) → ((x : A) → f x ≡ g x) → map f xs ≡ map g xs
map-same f g [] same = refl
map-same {B = B} f g (x ∷ xs) same = ap (λ (y : B). y ∷ map f xs) (same x) ∙ ap (λ (ys : List B). g x ∷ ys) (map-same f g xs same)

abbrev wanting : List Thread → ℕ → Wanting
wanting threads t = record { thread = t; want = want_of (row_at threads t).stage }

-- who waits for an event object, and what each wants
wanting-same : (k : Inside) (event : EventObj) → Keeps k → Below.wanting_on k.tables.threads event ≡ wanting_threads (plain_state (view_of k)) event
wanting-same k event keeps =
    map-same (wanting k.tables.threads) (wanting (view_of k).threads) (event_line k.tables.threads event) (λ t. ap (λ (s : Stage). record { thread = t; want = want_of s }) (sym (based-stage k.bases.items k.tables.threads t)))
    ∙ ap (map (wanting (view_of k).threads)) (line-seen k (view_of k) event.order (receives_event event.name) refl keeps)

abbrev got : ℕ → Wanting → ℕ × ℕ
got flags w = (w.thread, bit_and flags w.want.mask)

-- those whom flags wake are off
off-satisfied : (threads : List Thread) (flags : ℕ) (ts : List ℕ) → AllByRecursion (λ t. IsOff threads t) ts → AllByRecursion (λ (w : ℕ × ℕ). IsOff threads w.0) (map (got flags) (satisfied_waiters flags (map (wanting threads) ts)))
off-satisfied threads flags [] all = tt
off-satisfied threads flags (t ∷ ts) (this, all) = by_test (is_satisfied flags (want_of (row_at threads t).stage)) (off-satisfied threads flags ts all)
  where
    rest : List Wanting
    rest = satisfied_waiters flags (map (wanting threads) ts)

    by_test : (c : Bool) → AllByRecursion (λ (w : ℕ × ℕ). IsOff threads w.0) (map (got flags) rest) → AllByRecursion (λ (w : ℕ × ℕ). IsOff threads w.0) (map (got flags) (cond c (wanting threads t ∷ rest) rest))
    by_test true again = (this, again)
    by_test false again = again

pub sent-keeps : (k : Inside) (new : Tabled) (event : EventObj) (mask : ℕ) → Keeps k → new ≡ Below.sent_to k.tables event mask → AreMutexTables new k.bases.items k.names.mutex k.graph
sent-keeps k new event mask keeps is =
    changed-keeps (λ (w : ℕ × ℕ). w.0) (λ (w : ℕ × ℕ). given_row w.1) k.tables new k.bases.items k.names.mutex k.graph (Below.woken_on k.tables.threads event mask) (λ w. given-wakes w.1)
    (off-satisfied k.tables.threads (bit_or event.flags mask) (event_line k.tables.threads event) (off-all k.tables.threads (receives_event event.name) (event_line k.tables.threads event) (no-mutex-event event.name) (line-waits k.tables.threads event.order (receives_event event.name))))
    keeps (ap (λ (x : Tabled). x.threads) is) (ap (λ (x : Tabled). x.levels) is)

-- whom flags wake, and with what
pub woken-same : (k : Inside) (v : MutexTabled) (event : EventObj) (mask : ℕ) → view_of k ≡ v → Keeps k → Below.woken_on k.tables.threads event mask ≡ woken_on v event mask
woken-same k v event mask is keeps =
    ap (λ (ws : List Wanting). map (got (bit_or event.flags mask)) (satisfied_waiters (bit_or event.flags mask) ws)) (wanting-same k event keeps)
    ∙ ap (λ (x : MutexTabled). woken_on x event mask) is

pub sent-seen : (k : Inside) (v : MutexTabled) (new : Tabled) (event : EventObj) (mask : ℕ) → view_of k ≡ v → Keeps k → new ≡ Below.sent_to k.tables event mask → seen_by k new ≡ sent_to v event mask
sent-seen k v new event mask is keeps sent =
    ap (seen_by k) sent
    ∙ ap (λ (rows : List Thread). record (view_of k) { threads = rows; ready = k.tables.ready ++ map (λ (w : ℕ × ℕ). w.0) woken; events = put_event k.tables.events (record event { flags = flags_left flags (Below.wanting_on k.tables.threads event) }) })
    (changed-based (λ (w : ℕ × ℕ). w.0) (λ (w : ℕ × ℕ). given_row w.1) k.bases.items k.tables.threads woken (λ w. given-wakes w.1) keeps.sized)
    ∙ ap (λ (ws : List (ℕ × ℕ)). record (view_of k) { threads = all_given (view_of k).threads ws; ready = k.tables.ready ++ map (λ (w : ℕ × ℕ). w.0) ws; events = put_event k.tables.events (record event { flags = flags_left flags (Below.wanting_on k.tables.threads event) }) }) (woken-same k (view_of k) event mask refl keeps)
    ∙ ap (λ (ws : List Wanting). record (view_of k) { threads = all_given (view_of k).threads (woken_on (view_of k) event mask); ready = k.tables.ready ++ map (λ (w : ℕ × ℕ). w.0) (woken_on (view_of k) event mask); events = put_event k.tables.events (record event { flags = flags_left flags ws }) }) (wanting-same k event keeps)
    ∙ ap (λ (x : MutexTabled). sent_to x event mask) is
  where
    flags : ℕ
    flags = bit_or event.flags mask

    woken : List (ℕ × ℕ)
    woken = Below.woken_on k.tables.threads event mask

pub record SendsFlags (old new : Tabled) (name : List ℕ) (mask : ℕ) (answer : Bool) : Type 0 where
  pub answered : answer ≡ is_some (found_event old.events name)
  pub missing : OnFalse answer (new ≡ old)
  pub state : (event : EventObj) → found_event old.events name ≡ Some event → new ≡ Below.sent_to old event mask

pub send-keeps : (k : Inside) (new : Tabled) (name : List ℕ) (mask : ℕ) (answer : Bool) → Keeps k → SendsFlags k.tables new name mask answer → AreMutexTables new k.bases.items k.names.mutex k.graph
send-keeps k new name mask answer keeps d =
    by-found (found_event k.tables.events name) answer (AreMutexTables new k.bases.items k.names.mutex k.graph) d.answered
    (λ no. keeps-same k new keeps (ap (λ (x : Tabled). x.threads) (OnFalse_at no d.missing)) (ap (λ (x : Tabled). x.levels) (OnFalse_at no d.missing)))
    (λ event found yes. sent-keeps k new event mask keeps (d.state event found))
