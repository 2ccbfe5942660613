-- A thread ends, and those whom its mutexes pass to wake one after the other.
use Rattle.std.proofs.Common.{ℕ, zero, suc, ◌≡◌, ◌≢◌, ◌<◌, ◌+◌, ◌++◌, ◌∷◌, [], arith, List, Option, Some, None, Bool, true, false, not, ◌||◌, cond, refl, sym, ap, ◌∙◌, subst, length, map, slice_index, slice_set, slice_index_or, eqb, ◌⊎◌, inl, inr}
use Rattle.std.specs.Prelude.{filter, ◌==◌}
use Rattle.std.specs.List.{AllByRecursion, cons_option}
use Rattle.std.proofs.lemmas.Bool.{eqb-true, eqb-false, ne_eqb, false≢true}
use Rattle.std.proofs.lemmas.List.{length-set}
use Rattle.rt_base.specs.declared.codes.Code.{Code}
use Rattle.rt_plain.specs.kernel.State.{State, Thread, Closed, no_thread, is_closed, is_among}
use Rattle.rt_plain.specs.kernel.Sound.{is_active}
use Rattle.rt_plain.specs.kernel.Effects.{each_effect}
use Rattle.rt_plain.specs.kernel.Owners.{close_effect, give_back_effect, mutexes_of, pass_effect, with_owner, withdrawn_state}
use Rattle.rt_plain.specs.kernel.Priority.{awaited_mutex}
use Rattle.rt_plain.specs.kernel.Ownership.{Member, Ownership, changes, cur_in, first_in, is_there, kill_thread_edit, member_at, owned_in, pass_edit, with_member}
use Rattle.rt_plain.proofs.kernel.TallyLemmas.{here-set, other-set}
use Rattle.object_box.specs.Objects.{ClassObjects}
use Rattle.kernel_tables.specs.Tabled.{Tabled, woken_row}
use Rattle.kernel_tables.specs.Threads.{row_at, with_row}
use Rattle.mutex_chain.proofs.PassLemmas.{waits}
use Rattle.mutex_tie.specs.Tie.{IsGraphOf, StandsFor, name_at}
use Rattle.mutex_tie.specs.Changes.{new_curs}
use Rattle.mutex_tie.proofs.CloseLemmas.{IsNumbered, mutexes-tied, stands-closed, stands-given-back, stands-withdrawn}
use Rattle.mutex_tie.proofs.WaiterLemmas.{first-tied}
use Rattle.mutex_tables.specs.declared.tables.MutexTables.TheInside.{Inside}
use Rattle.mutex_tables.specs.MutexTabled.{MutexTabled, based, plain_state, seen}
use Rattle.mutex_tables.specs.Moved.{moved_behind, renewed, roused}
use Rattle.mutex_tables.specs.Mutexes.{AreOut, MayWake, MayWakeAll, followed, roused_all}
use Rattle.mutex_tables.proofs.BaseLemmas.{based-row, based-stage, based-written, length-based}
use Rattle.mutex_tables.proofs.SeenLemmas.{view_of, Keeps, inside-stands}
use Rattle.mutex_tables.proofs.RenewLemmas.{cur-below}
use Rattle.mutex_tables.proofs.FollowLemmas.{MayFollow, graph-there, follow-changes, follow-seen}
use Rattle.mutex_tables.proofs.RouseLemmas.{roused-based}
use Rattle.mutex_tables.proofs.WokenLemmas.{live-there}
use Rattle.mutex_tables.proofs.StopLemmas.{waiting-open}
use Rattle.mutex_tables.proofs.ReleaseLemmas.{awaits-stage, code-stage}
use Rattle.mutex_tables.proofs.DeleteLemmas.{AreThere, Near, all-among, all-live, all-lived, all-near, later-there, roused-count, roused-levels, roused-rest}
use Rattle.mutex_tables.proofs.PassedLemmas.{all-numbered, owned-there, takers, takers-apart, takers-cons, takers-wait, waits-some}

-- a thread leaves the lists
abbrev pub shut : Tabled → ℕ → Tabled
shut k t = record k { threads = with_row k.threads t (λ row. record row { stage = Closed; retry = None }); ready = filter (λ u. not (u == t)) k.ready }

among-without : (ready : List ℕ) (t u : ℕ) → u ≢ t → is_among (filter (λ x. not (x == t)) ready) u ≡ is_among ready u
among-without [] t u apart = refl
among-without (x ∷ xs) t u apart = by_test (x == t) refl (among-without xs t u apart)
  where
    by_test : (d : Bool) → (x == t) ≡ d → is_among (filter (λ y. not (y == t)) xs) u ≡ is_among xs u → is_among (cond (not d) (x ∷ filter (λ y. not (y == t)) xs) (filter (λ y. not (y == t)) xs)) u ≡ eqb x u || is_among xs u
    by_test true same rest = rest ∙ sym (ap (λ d. d || is_among xs u) (ne_eqb x u (λ e. apart (sym e ∙ eqb-true x t same))))
    by_test false other rest = ap (λ d. eqb x u || d) rest

-- the threads and the ready list after mutexes have passed, as the definitions have them
abbrev RowsGiven : List ℕ → Ownership → List ℕ → Tabled → State → Type 0
RowsGiven bases p ws k after = (based bases (roused_all k p Code.Ok ws).threads ≡ after.threads) × ((roused_all k p Code.Ok ws).ready ≡ after.ready)

abbrev GivesRows : List ℕ → Ownership → List ℕ → State → State → Type 0
GivesRows bases p ws s after = (k : Tabled) → length bases ≡ length k.threads → AreThere k ws → based bases k.threads ≡ s.threads → k.ready ≡ s.ready → RowsGiven bases p ws k after

rows-given : (bases : List ℕ) (p : Ownership) (c : ClassObjects) (is : List ℕ) (s : State) (o : Ownership) → StandsFor s c o → AllByRecursion (IsNumbered c.objects) is
    → GivesRows bases p (takers is o) s (each_effect give_back_effect (map (name_at c.objects) is) s).state
rows-given bases p c [] s o tie all k sized there rows ready = (rows, ready)
rows-given bases p c (i ∷ is) s o tie (this, all) k sized there rows ready =
    subst (λ us. RowsGiven bases p us k (each_effect give_back_effect (map (name_at c.objects) is) (give_back_effect name s).state).state) (sym (takers-cons i is o))
    (by_first (first_in o i) (subst (AreThere k) (takers-cons i is o) there)
    (subst (λ (r : Option ℕ). GivesRows bases p (takers is (pass_edit i o)) (pass_effect name r s).state (each_effect give_back_effect (map (name_at c.objects) is) (give_back_effect name s).state).state) (first-tied s c o name i tie this)
    (rows-given bases p c is (give_back_effect name s).state (pass_edit i o) (stands-given-back s c o name i tie this) all)))
  where
    name : List ℕ
    name = name_at c.objects i

    after : State
    after = (each_effect give_back_effect (map (name_at c.objects) is) (give_back_effect (name_at c.objects i) s).state).state

    by_first : (r : Option ℕ) → AreThere k (cons_option r (takers is (pass_edit i o))) → GivesRows bases p (takers is (pass_edit i o)) (pass_effect (name_at c.objects i) r s).state after → RowsGiven bases p (cons_option r (takers is (pass_edit i o))) k after
    by_first None all rest = rest k sized all rows ready
    by_first (Some w) (low, all) rest =
        rest (roused k w Code.Ok (cur_in p w))
        (sized ∙ sym (length-set k.threads w _))
        (later-there k p Code.Ok w (takers is (pass_edit i o)) all)
        (roused-based bases k w (cur_in p w) Code.Ok sized low ∙ ap (λ (rs : List Thread). with_row rs w (woken_row Code.Ok)) rows ∙ sym (code-stage s.threads w Code.Ok))
        (ap (λ (xs : List ℕ). xs ++ w ∷ []) ready)

module _ (k : Inside) (v : MutexTabled) (t : ℕ) (is : view_of k ≡ v) (keeps : Keeps k) (out : AreOut v) (low : t < length k.tables.threads) (lives : is_closed (row_at k.tables.threads t).stage ≡ false) where
  abbrev pub before : State
  before = plain_state (view_of k)

  abbrev pub ended : State
  ended = (close_effect t (plain_state (view_of k))).state

  abbrev pub killed : Ownership
  killed = kill_thread_edit t k.graph

  abbrev pub waking : List ℕ
  waking = takers (owned_in k.graph t) (with_member k.graph t None)

  abbrev pub left : Tabled
  left = shut k.tables t

  abbrev pub awake : Tabled
  awake = roused_all (shut k.tables t) (kill_thread_edit t k.graph) Code.Ok (takers (owned_in k.graph t) (with_member k.graph t None))

  stands : StandsFor ended k.names.mutex killed
  stands = stands-closed before k.names.mutex k.graph t (inside-stands k keeps)

  -- whoever a mutex passes to is another thread, which waited
  other-waits : (w : ℕ) → is_among waking w ≡ true → (w ≢ t) × (waits (member_at k.graph w) ≡ true)
  other-waits w among = (apart, ap waits (sym (other-set k.graph.members t w None None apart)) ∙ still)
    where
      still : waits (member_at (with_member k.graph t None) w) ≡ true
      still = takers-wait (owned_in k.graph t) (with_member k.graph t None) w among

      gone : waits (member_at (with_member k.graph t None) t) ≡ false
      gone = ap waits (here-none k.graph.members t)
        where
          here-none : (ms : List (Option Member)) (u : ℕ) → slice_index_or (slice_set ms u None) u None ≡ None
          here-none [] u = refl
          here-none (m ∷ ms) zero = refl
          here-none (m ∷ ms) (suc u) = here-none ms u

      apart : w ≢ t
      apart same = false≢true (sym gone ∙ ap (λ x. waits (member_at (with_member k.graph t None) x)) (sym same) ∙ still)

  some : (w : ℕ) → is_among waking w ≡ true → awaited_mutex (row_at (view_of k).threads w).stage ≢ None
  some w among = let found = waits-some (member_at k.graph w) (other-waits w among).1 in awaits-stage k w found.0 keeps found.1

  stage : (w : ℕ) → (row_at (view_of k).threads w).stage ≡ (row_at k.tables.threads w).stage
  stage w = based-stage k.bases.items k.tables.threads w

  row_left : (w : ℕ) → w ≢ t → row_at left.threads w ≡ row_at k.tables.threads w
  row_left w apart = other-set k.tables.threads t w (record (row_at k.tables.threads t) { stage = Closed; retry = None }) no_thread apart

  size_left : length left.threads ≡ length k.tables.threads
  size_left = length-set k.tables.threads t (record (row_at k.tables.threads t) { stage = Closed; retry = None })

  live : (w : ℕ) → is_among waking w ≡ true → is_closed (row_at left.threads w).stage ≡ false
  live w among = ap (λ (r : Thread). is_closed r.stage) (row_left w (other-waits w among).0) ∙ ap is_closed (sym (stage w)) ∙ (waiting-open (row_at (view_of k).threads w).stage (some w among)).0

  there : (w : ℕ) → is_among waking w ≡ true → w < length left.threads
  there w among = live-there left.threads w (live w among)

  out_before : (w : ℕ) → is_among waking w ≡ true → is_among k.tables.ready w ≡ false
  out_before w among = subst (λ (x : MutexTabled). AreOut x) (sym is) out w (some w among)

  size : length awake.threads ≡ length left.threads
  size = roused-count left killed Code.Ok waking

  based_left : based k.bases.items left.threads ≡ (withdrawn_state before t).threads
  based_left = based-written k.bases.items k.tables.threads t (record (row_at k.tables.threads t) { stage = Closed; retry = None }) keeps.sized ∙ ap (λ (r : Thread). slice_set (based k.bases.items k.tables.threads) t (record r { stage = Closed; retry = None })) (sym (based-row k.bases.items k.tables.threads t keeps.sized low))

  given : RowsGiven k.bases.items killed waking left ended
  given =
      subst (λ (names : List (List ℕ)). RowsGiven k.bases.items killed waking left (each_effect give_back_effect names (withdrawn_state before t)).state) (sym (mutexes-tied before k.names.mutex k.graph t (inside-stands k keeps)))
      (rows-given k.bases.items killed k.names.mutex (owned_in k.graph t) (withdrawn_state before t) (with_member k.graph t None) (stands-withdrawn before k.names.mutex k.graph t (inside-stands k keeps))
      (all-numbered k.names.mutex.objects (owned_in k.graph t) keeps.graph.sound.names keeps.graph.sound.numbers (owned-there k.names.mutex.objects t k.graph.taken keeps.graph.taken))
      left (keeps.sized ∙ sym size_left) (all-among (λ w. w < length left.threads) waking there) based_left refl)

  graph : IsGraphOf (based k.bases.items awake.threads) k.names.mutex killed
  graph = subst (λ (rs : List Thread). IsGraphOf rs k.names.mutex killed) (sym given.0) stands.owned

  member : (w : ℕ) → is_among waking w ≡ true → is_there (member_at killed w) ≡ true
  member w among = graph-there awake k.bases.items k.names.mutex killed w graph ∙ ap not (all-live left killed Code.Ok waking w (live w among))

  level : (w : ℕ) → is_among waking w ≡ true → cur_in killed w < left.levels
  level w among =
      let here : w < length awake.threads = omega (arith, there w among, size) in
      let base : (row_at (based k.bases.items awake.threads) w).base < k.tables.levels = subst (λ (r : Thread). r.base < k.tables.levels) (sym (based-row k.bases.items awake.threads w (keeps.sized ∙ sym size_left ∙ sym size) here)) (keeps.levels w (omega (arith, there w among, size_left, keeps.sized))) in
      cur-below (based k.bases.items awake.threads) k.names.mutex killed w k.tables.levels graph (omega (arith, here, length-based k.bases.items awake.threads)) (member w among) base

  may_one : (w : ℕ) → is_among waking w ≡ true → MayWake left killed w
  may_one w among = record {
    there = there w among;
    live = live w among;
    idle = ap (λ (r : Thread). is_active r.stage) (row_left w (other-waits w among).0) ∙ ap is_active (sym (stage w)) ∙ (waiting-open (row_at (view_of k).threads w).stage (some w among)).1;
    unready = among-without k.tables.ready t w (other-waits w among).0 ∙ out_before w among;
    level = level w among;
    member = member w among;
  }

  pub closed-may : MayWakeAll left killed waking
  closed-may = record { all = all-among (MayWake left killed) waking may_one; apart = takers-apart (owned_in k.graph t) (with_member k.graph t None) }

  -- who hasn't ended then hadn't before, and is another thread
  lived : (u : ℕ) → is_closed (row_at left.threads u).stage ≡ false → (u ≢ t) × (is_closed (row_at k.tables.threads u).stage ≡ false)
  lived u opens = by_case (eqb u t) refl
    where
      by_case : (d : Bool) → eqb u t ≡ d → (u ≢ t) × (is_closed (row_at k.tables.threads u).stage ≡ false)
      by_case true same = absurd (false≢true (sym opens ∙ ap (λ x. is_closed (row_at left.threads x).stage) (eqb-true u t same) ∙ ap (λ (r : Thread). is_closed r.stage) (here-set k.tables.threads t (record (row_at k.tables.threads t) { stage = Closed; retry = None }) no_thread low)))
      by_case false apart = (eqb-false u t apart, ap (λ (r : Thread). is_closed r.stage) (sym (row_left u (eqb-false u t apart))) ∙ opens)

  near : Near k.tables.ready left k.graph killed
  near u below opens =
      let was = lived u opens in
      inl (ap (λ (r : Thread). r.base) (row_left u was.0) ∙ keeps.current u (omega (arith, below, size_left)) was.1, among-without k.tables.ready t u was.0)

  pub closed-follows : MayFollow k.tables.ready awake k.bases.items k.names.mutex k.graph killed
  closed-follows = record {
    sized = keeps.sized ∙ sym size_left ∙ sym size;
    levels = λ u below. subst (λ n. slice_index k.bases.items u < n) (sym (roused-levels left killed Code.Ok waking)) (keeps.levels u below);
    graph = graph;
    near = all-near k.tables.ready left k.graph killed Code.Ok waking near closed-may (all-among (λ w. is_among k.tables.ready w ≡ false) waking out_before);
    was = λ u below opens. graph-there k.tables k.bases.items k.names.mutex k.graph u keeps.graph ∙ ap not (lived u (all-lived left killed Code.Ok waking u closed-may opens)).1;
  }

  pub closed-seen : seen (renewed awake (changes k.graph killed)) k.bases.items k.names.mutex killed ≡ followed v (close_effect t (plain_state v)).state (changes k.graph killed)
  closed-seen =
      follow-seen k.tables.ready awake k.bases.items k.names.mutex k.graph killed closed-follows
      ∙ ap (λ (x : Tabled). record (seen x k.bases.items k.names.mutex killed) { ready = moved_behind k.tables.ready (changes k.graph killed) x.ready }) (roused-rest left killed Code.Ok waking)
      ∙ (λ j. record (view_of k) { threads = given.0 j; mutexes = sym stands.mutexes j; holdings = sym stands.holdings j; ready = moved_behind k.tables.ready (changes k.graph killed) (given.1 j) })
      ∙ ap (λ (x : MutexTabled). followed x (close_effect t (plain_state x)).state (changes k.graph killed)) is

  pub closed-changes : changes k.graph killed ≡ new_curs (plain_state v) (plain_state (seen (renewed awake (changes k.graph killed)) k.bases.items k.names.mutex killed))
  closed-changes =
      follow-changes k v awake k.bases.items k.names.mutex killed is keeps
      (subst (λ (xs : List ℕ). MayFollow xs awake k.bases.items k.names.mutex k.graph killed) (ap (λ (x : MutexTabled). x.ready) is) closed-follows)
      (size ∙ size_left) (λ u opens. (lived u (all-lived left killed Code.Ok waking u closed-may opens)).1)
