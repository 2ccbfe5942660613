-- At most one ready thread gets another current priority.
use Rattle.std.proofs.Common.{ℕ, zero, suc, ◌≡◌, ◌≢◌, ◌<◌, ◌+◌, ◌-◌, ◌++◌, ◌∷◌, [], arith, List, Option, Some, None, IfSome, Bool, true, false, not, ◌||◌, ◌&&◌, cond, refl, sym, ap, ◌∙◌, subst, length, map, is_some, eqb, slice_set, slice_index_or, ◌⊎◌, inl, inr}
use Rattle.std.specs.Prelude.{All, filter, find, nat_lt, ◌==◌, if◌then◌else◌}
use Rattle.std.specs.List.{AllPairs, cons_option, filter_map, range_with_len}
use Rattle.std.specs.Option.{option_map, option_and_then, option_to_list}
use Rattle.std.proofs.lemmas.Bool.{cases_Bool, cases_eq, eqb-true, eqb-false, eq-eqb, ne_eqb, false≢true}
use Rattle.std.proofs.lemmas.Option.{none-some, same_Some}
use Rattle.std.proofs.lemmas.List.Elements.{All-head, All-tail}
use Rattle.rt_plain.specs.kernel.State.{is_among}
use Rattle.rt_plain.specs.kernel.Priority.{awaited_mutex}
use Rattle.rt_plain.specs.kernel.Ownership.{CurChange, Member, MutexWait, Ownership, Pass, Taken, awaited_in, base_edit, ceiling_edit, change_at, changes, cur_in, first_in, is_there, kill_mutex_edit, kill_thread_edit, leave_edit, leave_edits, member_at, owned_in, owner_in, pass_edit, pass_edit_to, pass_edits, passes_of, release_edit, release_edit_of, take_edit, take_edit_of, taken_of, wait_edit, waiters_in, with_base, with_member, with_mutex_free, with_taken_times, with_wait}
use Rattle.rt_plain.specs.kernel.Weight.{passed_by}
use Rattle.rt_plain.proofs.kernel.TallyLemmas.{here-set, other-set, same-set}
use Rattle.kernel_tables.specs.Threads.{row_at}
use Rattle.mutex_chain.specs.Equations.{IsTouched, Touches}
use Rattle.mutex_chain.specs.Graph.{pair_of}
use Rattle.mutex_chain.specs.Owners.{AreOwned, blocker_in}
use Rattle.mutex_chain.proofs.EditLemmas.{first_awaits, waiter_awaits}
use Rattle.mutex_chain.proofs.HolderLemmas.{owner_among, others_none, others_other}
use Rattle.mutex_chain.proofs.OwnerLemmas.{Apart, others}
use Rattle.mutex_chain.proofs.TouchLemmas.{among_append, leaves_taken, touches_ceiling, touches_member, touches_mutex_end, touches_release, touches_take, touches_thread_end}
use Rattle.mutex_tie.specs.Changes.{is_changed}
use Rattle.mutex_tie.specs.Tie.{wait_in}
use Rattle.mutex_tie.proofs.ChangeLemmas.{Own, change-own, made_if}
use Rattle.mutex_tie.proofs.HoldingLemmas.{wait-tied}
use Rattle.mutex_tie.proofs.NameLemmas.{pairs-head, pairs-tail}
use Rattle.mutex_tables.specs.declared.tables.MutexTables.TheInside.{Inside}
use Rattle.mutex_tables.specs.MutexTabled.{MutexTabled, plain_state}
use Rattle.mutex_tables.specs.Moved.{MovesOne}
use Rattle.mutex_tables.specs.Mutexes.{AreOut}
use Rattle.mutex_tables.proofs.LeadLemmas.{AreSteps, FromTouched, Leads, changed-from, leads-back, leads-end, leads-itself, leads-next, leads-once, only-one}
use Rattle.mutex_tables.proofs.PassedLemmas.{takers, takers-cons}
use Rattle.mutex_tables.proofs.SeenLemmas.{view_of, Keeps, inside-stands}
use Rattle.mutex_tables.proofs.StageLemmas.{unawaited}

-- what the list of changes says of a thread

changed-some : (h : ℕ → Option CurChange) → Own h → (a n t : ℕ) → is_changed (filter_map h (range_with_len a n)) t ≡ true → (is_some (h t) ≡ true) × (t < a + n)
changed-some h own a zero t e = absurd (false≢true e)
changed-some h own a (suc n) t e = by_row (h a) refl (own a) e (changed-some h own (a + 1) n t)
  where
    Rest : Type 0
    Rest = is_changed (filter_map h (range_with_len (a + 1) n)) t ≡ true → (is_some (h t) ≡ true) × (t < a + 1 + n)

    on : Rest → is_changed (filter_map h (range_with_len (a + 1) n)) t ≡ true → (is_some (h t) ≡ true) × (t < a + suc n)
    on rest f = let w = rest f in (w.0, omega (arith, w.1))

    by_test : (c : CurChange) → h a ≡ Some c → c.thread ≡ a → (d : Bool) → eqb c.thread t ≡ d → d || is_changed (filter_map h (range_with_len (a + 1) n)) t ≡ true → Rest → (is_some (h t) ≡ true) × (t < a + suc n)
    by_test c is at true same f rest =
        let here : a ≡ t = sym at ∙ eqb-true c.thread t same in
        (ap (λ x. is_some (h x)) (sym here) ∙ ap is_some is, omega (arith, here))
    by_test c is at false other f rest = on rest f

    by_row : (r : Option CurChange) → h a ≡ r → IfSome r (λ c. c.thread ≡ a) → is_changed (cons_option r (filter_map h (range_with_len (a + 1) n))) t ≡ true → Rest → (is_some (h t) ≡ true) × (t < a + suc n)
    by_row None is at f rest = on rest f
    by_row (Some c) is at f rest = by_test c is at (eqb c.thread t) refl f rest

-- it is there in the end, with another current priority
changed-is : (o p : Ownership) (a : ℕ) → is_changed (changes o p) a ≡ true → (a < length p.members) × (cur_in o a ≢ cur_in p a)
changed-is o p a e = let w = changed-some (change_at o p) (change-own o p) 0 (length p.members) a e in (omega (arith, w.1), by_tests (is_there (member_at o a)) (is_there (member_at p a)) (cur_in o a == cur_in p a) refl w.0)
  where
    by_tests : (b c d : Bool) → (cur_in o a == cur_in p a) ≡ d → is_some (made_if (b && (c && not d)) a (cur_in o a) (cur_in p a)) ≡ true → cur_in o a ≢ cur_in p a
    by_tests false c d is f same = false≢true f
    by_tests true false d is f same = false≢true f
    by_tests true true true is f same = false≢true f
    by_tests true true false is f same = false≢true (sym is ∙ eq-eqb (cur_in o a) (cur_in p a) same)

-- an edit that changes ready threads at the end of one chain alone
one-moves : (before : List ℕ) (o p g : Ownership) (f : ℕ) → ((a : ℕ) → is_among before a ≡ true → blocker_in g a ≡ None) → ((a : ℕ) → is_among before a ≡ true → a < length p.members → cur_in o a ≢ cur_in p a → Leads (blocker_in g) f a) → MovesOne before (changes o p)
one-moves before o p g f roots from a b ra rb ca cb =
    let one = changed-is o p a ca in
    let two = changed-is o p b cb in
    leads-once (blocker_in g) f a b (roots a ra) (roots b rb) (from a ra one.0 one.1) (from b rb two.0 two.1)

none-moves : (before : List ℕ) (o p : Ownership) → ((a : ℕ) → is_among before a ≡ true → a < length p.members → cur_in o a ≢ cur_in p a → ⊥) → MovesOne before (changes o p)
none-moves before o p from a b ra rb ca cb = let one = changed-is o p a ca in absurd (from a ra one.0 one.1)

-- ready threads wait for nobody
ready-root : (k : Inside) (v : MutexTabled) (a : ℕ) → view_of k ≡ v → Keeps k → AreOut v → is_among v.ready a ≡ true → awaited_in k.graph a ≡ None
ready-root k v a is keeps out ready =
    ap (option_map (λ (w : MutexWait). w.mutex)) (wait-tied (plain_state (view_of k)) k.names.mutex k.graph a (inside-stands k keeps) ∙ (unawaited k.names.mutex.objects (row_at (view_of k).threads a).stage none).0)
  where
    by_mutex : (r : Option (List ℕ)) → awaited_mutex (row_at v.threads a).stage ≡ r → r ≡ None
    by_mutex None e = refl
    by_mutex (Some name) e = absurd (false≢true (sym (out a (λ gone. none-some name (sym gone ∙ e))) ∙ ready))

    none : awaited_mutex (row_at (view_of k).threads a).stage ≡ None
    none = ap (λ (x : MutexTabled). awaited_mutex (row_at x.threads a).stage) is ∙ by_mutex (awaited_mutex (row_at v.threads a).stage) refl

unblocked : (o : Ownership) (a : ℕ) → awaited_in o a ≡ None → blocker_in o a ≡ None
unblocked o a none = ap (option_and_then (owner_in o)) none

abbrev AreRoots : Ownership → List ℕ → Type 0
AreRoots o before = (a : ℕ) → is_among before a ≡ true → awaited_in o a ≡ None

-- steps after an edit that touches one thread
touched-steps : (o p : Ownership) (f a : ℕ) → Touches (f ∷ []) o p → ((z : ℕ) → blocker_in p f ≡ Some z → blocker_in o f ≡ Some z) → AreSteps (blocker_in p) (blocker_in o) f a
touched-steps o p f a touches at y z e = by_test (is_among (f ∷ []) y) refl
  where
    into : (r : Option ℕ) → r ≡ Some z → IsTouched (f ∷ []) r → z ≡ f
    into None is inside = absurd (none-some z is)
    into (Some x) is inside = subst (λ n. n ≡ f) (same_Some x z is) (only-one f x inside)

    by_kind : (blocker_in o y ≡ blocker_in p y) ⊎ (IsTouched (f ∷ []) (blocker_in o y) × IsTouched (f ∷ []) (blocker_in p y)) → (blocker_in o y ≡ Some z) ⊎ ((z ≡ f) ⊎ (Leads (blocker_in p) z a → ⊥))
    by_kind (inl same) = inl (same ∙ e)
    by_kind (inr (before, after)) = inr (inl (into (blocker_in p y) e after))

    by_test : (d : Bool) → is_among (f ∷ []) y ≡ d → (blocker_in o y ≡ Some z) ⊎ ((z ≡ f) ⊎ (Leads (blocker_in p) z a → ⊥))
    by_test true is = inl (let same : y ≡ f = only-one f y is in ap (blocker_in o) same ∙ at z (ap (blocker_in p) (sym same) ∙ e))
    by_test false is = by_kind (touches.blockers y is)

-- another base
based-awaits : (o : Ownership) (t base y : ℕ) → awaited_in (base_edit t base o) y ≡ awaited_in o y
based-awaits o t base y = same-set awaits o.members t y (option_map (with_base base) (member_at o t)) None (by_member (member_at o t))
  where
    awaits : Option Member → Option ℕ
    awaits m = option_map (λ (w : MutexWait). w.mutex) (option_and_then (λ (x : Member). x.wait) m)

    by_member : (m : Option Member) → awaits (option_map (with_base base) m) ≡ awaits m
    by_member None = refl
    by_member (Some m) = refl

base-one : (before : List ℕ) (o : Ownership) (t base : ℕ) → AreRoots o before → MovesOne before (changes o (base_edit t base o))
base-one before o t base roots = one-moves before o p o t (λ a ready. unblocked o a (roots a ready)) from
  where
    p : Ownership
    p = base_edit t base o

    touches : Touches (t ∷ []) o (base_edit t base o)
    touches = touches_member (with_base base) t o

    from : (a : ℕ) → is_among before a ≡ true → a < length p.members → cur_in o a ≢ cur_in p a → Leads (blocker_in o) t a
    from a ready low differs = by_side (changed-from (t ∷ []) o (base_edit t base o) a touches (omega (arith, low, touches.size)) differs)
      where
        by_side : FromTouched (t ∷ []) o (base_edit t base o) a → Leads (blocker_in o) t a
        by_side (x, (among, inl leads)) = subst (λ y. Leads (blocker_in o) y a) (only-one t x among) leads
        by_side (x, (among, inr leads)) =
            leads-back (blocker_in (base_edit t base o)) (blocker_in o) t a
            (touched-steps o (base_edit t base o) t a touches (λ z e. ap (option_and_then (owner_in o)) (sym (based-awaits o t base t)) ∙ e))
            (subst (λ y. Leads (blocker_in (base_edit t base o)) y a) (only-one t x among) leads)

pub based-one : (k : Inside) (v : MutexTabled) (t base : ℕ) → view_of k ≡ v → Keeps k → AreOut v → MovesOne v.ready (changes k.graph (base_edit t base k.graph))
based-one k v t base is keeps out = base-one v.ready k.graph t base (λ a ready. ready-root k v a is keeps out ready)

-- edits of a thread that waits for nobody before and after
at-rest : (before : List ℕ) (o p : Ownership) (t : ℕ) → AreRoots o before → Touches (t ∷ []) o p → blocker_in p t ≡ None → MovesOne before (changes o p)
at-rest before o p t roots touches rest = one-moves before o p o t (λ a ready. unblocked o a (roots a ready)) from
  where
    from : (a : ℕ) → is_among before a ≡ true → a < length p.members → cur_in o a ≢ cur_in p a → Leads (blocker_in o) t a
    from a ready low differs = by_side (changed-from (t ∷ []) o p a touches (omega (arith, low, touches.size)) differs)
      where
        by_side : FromTouched (t ∷ []) o p a → Leads (blocker_in o) t a
        by_side (x, (among, inl leads)) = subst (λ y. Leads (blocker_in o) y a) (only-one t x among) leads
        by_side (x, (among, inr leads)) =
            subst (λ y. Leads (blocker_in o) y a) (sym (leads-end (blocker_in p) t a rest (subst (λ y. Leads (blocker_in p) y a) (only-one t x among) leads))) (leads-itself (blocker_in o) a)

take-members : (t m : ℕ) (o : Ownership) → (take_edit t m o).members ≡ o.members
take-members t m o = by_row (taken_of o m)
  where
    by_test : (h : Taken) (d : Bool) → (if d then with_taken_times m (h.hold + 1) o else o).members ≡ o.members
    by_test h true = refl
    by_test h false = refl

    by_row : (r : Option Taken) → (take_edit_of t m r o).members ≡ o.members
    by_row None = refl
    by_row (Some h) = by_test h ((h.owner == t) && nat_lt h.hold 255)

abbrev awaits-by : List (Option Member) → ℕ → Option ℕ
awaits-by ms t = option_map (λ (w : MutexWait). w.mutex) (option_and_then (λ (x : Member). x.wait) (slice_index_or ms t None))

pub take-one : (k : Inside) (v : MutexTabled) (t m : ℕ) → view_of k ≡ v → Keeps k → AreOut v → awaited_in k.graph t ≡ None → MovesOne v.ready (changes k.graph (take_edit t m k.graph))
take-one k v t m is keeps out idle =
    at-rest v.ready k.graph (take_edit t m k.graph) t (λ a ready. ready-root k v a is keeps out ready) (touches_take t m k.graph)
    (unblocked (take_edit t m k.graph) t (ap (λ ms. awaits-by ms t) (take-members t m k.graph) ∙ idle))

-- a thread that isn't ready begins to wait, or waits no more
pub wait-one : (k : Inside) (v : MutexTabled) (t m at : ℕ) → view_of k ≡ v → Keeps k → AreOut v → awaited_in k.graph t ≡ None → is_among v.ready t ≡ false → MovesOne v.ready (changes k.graph (wait_edit t m at k.graph))
wait-one k v t m at is keeps out idle unready = one-moves v.ready k.graph p p t roots from
  where
    o : Ownership
    o = k.graph

    p : Ownership
    p = wait_edit t m at k.graph

    touches : Touches (t ∷ []) k.graph (wait_edit t m at k.graph)
    touches = touches_member (with_wait (Some (record { mutex = m; number = at }))) t k.graph

    other : (a : ℕ) → is_among v.ready a ≡ true → a ≢ t
    other a ready same = false≢true (sym unready ∙ ap (is_among v.ready) (sym same) ∙ ready)

    roots : (a : ℕ) → is_among v.ready a ≡ true → blocker_in p a ≡ None
    roots a ready =
        unblocked p a
        (ap (λ (x : Option Member). option_map (λ (w : MutexWait). w.mutex) (option_and_then (λ (y : Member). y.wait) x)) (other-set o.members t a (option_map (with_wait (Some (record { mutex = m; number = at }))) (member_at o t)) None (other a ready))
        ∙ ready-root k v a is keeps out ready)

    from : (a : ℕ) → is_among v.ready a ≡ true → a < length p.members → cur_in o a ≢ cur_in p a → Leads (blocker_in p) t a
    from a ready low differs = by_side (changed-from (t ∷ []) k.graph (wait_edit t m at k.graph) a touches (omega (arith, low, touches.size)) differs)
      where
        by_side : FromTouched (t ∷ []) k.graph (wait_edit t m at k.graph) a → Leads (blocker_in (wait_edit t m at k.graph)) t a
        by_side (x, (among, inl leads)) = absurd (other a ready (sym (leads-end (blocker_in k.graph) t a (unblocked k.graph t idle) (subst (λ y. Leads (blocker_in k.graph) y a) (only-one t x among) leads))))
        by_side (x, (among, inr leads)) = subst (λ y. Leads (blocker_in (wait_edit t m at k.graph)) y a) (only-one t x among) leads

gone-awaits : (ms : List (Option Member)) (t : ℕ) → awaits-by (slice_set ms t (option_map (with_wait None) (slice_index_or ms t None))) t ≡ None
gone-awaits [] t = refl
gone-awaits (None ∷ ms) zero = refl
gone-awaits (Some m ∷ ms) zero = refl
gone-awaits (m ∷ ms) (suc t) = gone-awaits ms t

pub leave-one : (k : Inside) (v : MutexTabled) (t : ℕ) → view_of k ≡ v → Keeps k → AreOut v → MovesOne v.ready (changes k.graph (leave_edit t k.graph))
leave-one k v t is keeps out =
    at-rest v.ready k.graph (leave_edit t k.graph) t (λ a ready. ready-root k v a is keeps out ready) (touches_member (with_wait None) t k.graph)
    (unblocked (leave_edit t k.graph) t (gone-awaits k.graph.members t))

-- another ceiling
pub ceiling-one : (k : Inside) (v : MutexTabled) (m ceiling : ℕ) → view_of k ≡ v → Keeps k → AreOut v → MovesOne v.ready (changes k.graph (ceiling_edit m ceiling k.graph))
ceiling-one k v m ceiling is keeps out = by_owner (owner_in k.graph m) (touches_ceiling m ceiling k.graph keeps.graph.once)
  where
    by_owner : (r : Option ℕ) → Touches (option_to_list r) k.graph (ceiling_edit m ceiling k.graph) → MovesOne v.ready (changes k.graph (ceiling_edit m ceiling k.graph))
    by_owner None touches = none-moves v.ready k.graph (ceiling_edit m ceiling k.graph) (λ a ready low differs. absurd (nobody (changed-from [] k.graph (ceiling_edit m ceiling k.graph) a touches (omega (arith, low, touches.size)) differs)))
      where
        nobody : {a : ℕ} → FromTouched [] k.graph (ceiling_edit m ceiling k.graph) a → ⊥
        nobody (x, (among, side)) = false≢true among
    by_owner (Some u) touches = one-moves v.ready k.graph (ceiling_edit m ceiling k.graph) k.graph u (λ a ready. unblocked k.graph a (ready-root k v a is keeps out ready)) from
      where
        from : (a : ℕ) → is_among v.ready a ≡ true → a < length k.graph.members → cur_in k.graph a ≢ cur_in (ceiling_edit m ceiling k.graph) a → Leads (blocker_in k.graph) u a
        from a ready low differs = by_side (changed-from (u ∷ []) k.graph (ceiling_edit m ceiling k.graph) a touches low differs)
          where
            by_side : FromTouched (u ∷ []) k.graph (ceiling_edit m ceiling k.graph) a → Leads (blocker_in k.graph) u a
            by_side (x, (among, inl leads)) = subst (λ y. Leads (blocker_in k.graph) y a) (only-one u x among) leads
            by_side (x, (among, inr leads)) = subst (λ y. Leads (blocker_in k.graph) y a) (only-one u x among) leads

-- who waits no more

still-idle : (ms : List (Option Member)) (w t : ℕ) → awaits-by ms t ≡ None → awaits-by (slice_set ms w (option_map (with_wait None) (slice_index_or ms w None))) t ≡ None
still-idle ms w t idle = by_case (eqb t w) refl
  where
    by_case : (d : Bool) → eqb t w ≡ d → awaits-by (slice_set ms w (option_map (with_wait None) (slice_index_or ms w None))) t ≡ None
    by_case true same = ap (awaits-by (slice_set ms w (option_map (with_wait None) (slice_index_or ms w None)))) (eqb-true t w same) ∙ gone-awaits ms w
    by_case false apart = ap (λ (x : Option Member). option_map (λ (y : MutexWait). y.mutex) (option_and_then (λ (y : Member). y.wait) x)) (other-set ms w t (option_map (with_wait None) (slice_index_or ms w None)) None (eqb-false t w apart)) ∙ idle

-- who waits after others have left waited before
left-back : (ms : List (Option Member)) (w t j : ℕ) → awaits-by (slice_set ms w (option_map (with_wait None) (slice_index_or ms w None))) t ≡ Some j → awaits-by ms t ≡ Some j
left-back ms w t j e = by_case (eqb t w) refl
  where
    by_case : (d : Bool) → eqb t w ≡ d → awaits-by ms t ≡ Some j
    by_case true same = absurd (none-some j (sym (gone-awaits ms w) ∙ ap (awaits-by (slice_set ms w (option_map (with_wait None) (slice_index_or ms w None)))) (sym (eqb-true t w same)) ∙ e))
    by_case false apart = ap (λ (x : Option Member). option_map (λ (y : MutexWait). y.mutex) (option_and_then (λ (y : Member). y.wait) x)) (sym (other-set ms w t (option_map (with_wait None) (slice_index_or ms w None)) None (eqb-false t w apart))) ∙ e

pass-back : (i t j : ℕ) (r : Option ℕ) (o : Ownership) → awaits-by (pass_edit_to i r o).members t ≡ Some j → awaits-by o.members t ≡ Some j
pass-back i t j None o e = e
pass-back i t j (Some w) o e = left-back o.members w t j e

passes-back : (is : List ℕ) (o : Ownership) (t j : ℕ) → awaits-by (pass_edits is o).members t ≡ Some j → awaits-by o.members t ≡ Some j
passes-back [] o t j e = e
passes-back (i ∷ is) o t j e = pass-back i t j (first_in o i) o (passes-back is (pass_edit i o) t j e)

leaves-back : (ts : List ℕ) (o : Ownership) (t j : ℕ) → awaits-by (leave_edits ts o).members t ≡ Some j → awaits-by o.members t ≡ Some j
leaves-back [] o t j e = e
leaves-back (w ∷ ts) o t j e = left-back o.members w t j (leaves-back ts (leave_edit w o) t j e)

-- a thread that waits isn't ready
waiting-apart : (before : List ℕ) (o : Ownership) (w a m : ℕ) → AreRoots o before → is_among before a ≡ true → awaited_in o w ≡ Some m → w ≢ a
waiting-apart before o w a m roots ready waits same = none-some m (sym (roots a ready) ∙ ap (awaited_in o) (sym same) ∙ waits)

-- a mutex passes from a thread that waits for nobody
pass-one : (before : List ℕ) (o : Ownership) (t m w : ℕ) → AreRoots o before → owner_in o m ≡ Some t → first_in o m ≡ Some w → awaited_in o t ≡ None → Touches (t ∷ w ∷ []) o (pass_edit_to m (Some w) o) → MovesOne before (changes o (pass_edit_to m (Some w) o))
pass-one before o t m w roots owns first idle touches = one-moves before o p o t (λ a ready. unblocked o a (roots a ready)) from
  where
    p : Ownership
    p = pass_edit_to m (Some w) o

    waits : awaited_in o w ≡ Some m
    waits = first_awaits o m w first

    from : (a : ℕ) → is_among before a ≡ true → a < length p.members → cur_in o a ≢ cur_in p a → Leads (blocker_in o) t a
    from a ready low differs = by_side (changed-from (t ∷ w ∷ []) o (pass_edit_to m (Some w) o) a touches (omega (arith, low, touches.size)) differs)
      where
        this : (x : ℕ) → x ≡ t → Leads (blocker_in o) x a ⊎ Leads (blocker_in (pass_edit_to m (Some w) o)) x a → Leads (blocker_in o) t a
        this x same (inl leads) = subst (λ y. Leads (blocker_in o) y a) same leads
        this x same (inr leads) =
            subst (λ y. Leads (blocker_in o) y a)
            (sym (leads-end (blocker_in (pass_edit_to m (Some w) o)) t a (unblocked (pass_edit_to m (Some w) o) t (still-idle o.members w t idle)) (subst (λ y. Leads (blocker_in (pass_edit_to m (Some w) o)) y a) same leads)))
            (leads-itself (blocker_in o) a)

        that : (x : ℕ) → x ≡ w → Leads (blocker_in o) x a ⊎ Leads (blocker_in (pass_edit_to m (Some w) o)) x a → Leads (blocker_in o) t a
        that x same (inl leads) = leads-next (blocker_in o) w t a (ap (option_and_then (owner_in o)) waits ∙ owns) (subst (λ y. Leads (blocker_in o) y a) same leads) (waiting-apart before o w a m roots ready waits)
        that x same (inr leads) =
            absurd (waiting-apart before o w a m roots ready waits
            (leads-end (blocker_in (pass_edit_to m (Some w) o)) w a (unblocked (pass_edit_to m (Some w) o) w (gone-awaits o.members w)) (subst (λ y. Leads (blocker_in (pass_edit_to m (Some w) o)) y a) same leads)))

        by_test : (x : ℕ) → (d : Bool) → eqb t x ≡ d → d || is_among (w ∷ []) x ≡ true → Leads (blocker_in o) x a ⊎ Leads (blocker_in (pass_edit_to m (Some w) o)) x a → Leads (blocker_in o) t a
        by_test x true same among side = this x (sym (eqb-true t x same)) side
        by_test x false other among side = that x (only-one w x among) side

        by_side : FromTouched (t ∷ w ∷ []) o (pass_edit_to m (Some w) o) a → Leads (blocker_in o) t a
        by_side (x, (among, side)) = by_test x (eqb t x) refl among side

pub release-one : (k : Inside) (v : MutexTabled) (t m : ℕ) → view_of k ≡ v → Keeps k → AreOut v → awaited_in k.graph t ≡ None → MovesOne v.ready (changes k.graph (release_edit t m k.graph))
release-one k v t m is keeps out idle = by_taken (taken_of k.graph m) refl (touches_release t m k.graph keeps.graph.once)
  where
    roots : AreRoots k.graph v.ready
    roots a ready = ready-root k v a is keeps out ready

    by_first : (h : Taken) → taken_of k.graph m ≡ Some h → (h.owner == t) ≡ true → (r : Option ℕ) → first_in k.graph m ≡ r → Touches (t ∷ option_to_list r) k.graph (pass_edit_to m r k.graph) → MovesOne v.ready (changes k.graph (pass_edit_to m r k.graph))
    by_first h taken owns None first touches = at-rest v.ready k.graph (with_mutex_free m k.graph) t roots touches (unblocked (with_mutex_free m k.graph) t idle)
    by_first h taken owns (Some w) first touches = pass-one v.ready k.graph t m w roots (ap (option_map (λ (x : Taken). x.owner)) taken ∙ ap Some (eqb-true h.owner t owns)) first idle touches

    by_tests : (h : Taken) → taken_of k.graph m ≡ Some h → (a : Bool) → (h.owner == t) ≡ a → (b : Bool) → Touches (t ∷ option_to_list (if a && not b then first_in k.graph m else None)) k.graph (if a then (if b then with_taken_times m (h.hold - 1) k.graph else pass_edit m k.graph) else k.graph)
        → MovesOne v.ready (changes k.graph (if a then (if b then with_taken_times m (h.hold - 1) k.graph else pass_edit m k.graph) else k.graph))
    by_tests h taken true owns true touches = at-rest v.ready k.graph (with_taken_times m (h.hold - 1) k.graph) t roots touches (unblocked (with_taken_times m (h.hold - 1) k.graph) t idle)
    by_tests h taken true owns false touches = by_first h taken owns (first_in k.graph m) refl touches
    by_tests h taken false owns b touches = at-rest v.ready k.graph k.graph t roots touches (unblocked k.graph t idle)

    by_taken : (r : Option Taken) → taken_of k.graph m ≡ r → Touches (t ∷ option_to_list (passed_by k.graph t m r)) k.graph (release_edit_of t m r k.graph) → MovesOne v.ready (changes k.graph (release_edit_of t m r k.graph))
    by_taken None taken touches = at-rest v.ready k.graph k.graph t roots touches (unblocked k.graph t idle)
    by_taken (Some h) taken touches = by_tests h taken (h.owner == t) refl (nat_lt 1 h.hold) touches

-- a mutex is deleted

pub delete-one : (k : Inside) (v : MutexTabled) (m : ℕ) → view_of k ≡ v → Keeps k → AreOut v → AreOwned k.graph → MovesOne v.ready (changes k.graph (kill_mutex_edit m k.graph))
delete-one k v m is keeps out owned = by_owner (owner_in k.graph m) refl (touches_mutex_end m k.graph keeps.graph.once)
  where
    o : Ownership
    o = k.graph

    p : Ownership
    p = kill_mutex_edit m k.graph

    roots : AreRoots k.graph v.ready
    roots a ready = ready-root k v a is keeps out ready

    rows : p.taken ≡ others m o.taken
    rows = leaves_taken (waiters_in o m) (with_mutex_free m o)

    -- each step was one before
    stays : (y z : ℕ) → blocker_in p y ≡ Some z → blocker_in o y ≡ Some z
    stays y z e = by_awaited (awaited_in p y) refl e
      where
        by_mutex : (j : ℕ) → awaited_in p y ≡ Some j → owner_in p j ≡ Some z → (j ≡ m) ⊎ (j ≢ m) → blocker_in o y ≡ Some z
        by_mutex j waits owner (inl same) = absurd (none-some z (sym (others_none m o.taken) ∙ sym (ap (owner_among (others m o.taken)) same) ∙ sym (ap (λ hs. owner_among hs j) rows) ∙ owner))
        by_mutex j waits owner (inr apart) =
            ap (option_and_then (owner_in o)) (leaves-back (waiters_in o m) (with_mutex_free m o) y j waits)
            ∙ sym (others_other m j o.taken apart)
            ∙ sym (ap (λ hs. owner_among hs j) rows)
            ∙ owner

        by_awaited : (r : Option ℕ) → awaited_in p y ≡ r → option_and_then (owner_in p) r ≡ Some z → blocker_in o y ≡ Some z
        by_awaited None waits f = absurd (none-some z f)
        by_awaited (Some j) waits f = by_mutex j waits f (cases_eq j m)

    -- the waiters wait for nobody
    free : (w : ℕ) → awaited_in o w ≡ Some m → blocker_in p w ≡ None
    free w waits = by_awaited (awaited_in p w) refl
      where
        by_awaited : (r : Option ℕ) → awaited_in p w ≡ r → option_and_then (owner_in p) r ≡ None
        by_awaited None e = refl
        by_awaited (Some j) e =
            let same : j ≡ m = same_Some j m (sym (leaves-back (waiters_in o m) (with_mutex_free m o) w j e) ∙ waits) in
            ap (owner_in p) same ∙ ap (λ hs. owner_among hs m) rows ∙ others_none m o.taken

    by_owner : (r : Option ℕ) → owner_in k.graph m ≡ r → Touches (option_to_list r ++ waiters_in k.graph m) k.graph (kill_mutex_edit m k.graph) → MovesOne v.ready (changes k.graph (kill_mutex_edit m k.graph))
    by_owner None owns touches = none-moves v.ready k.graph (kill_mutex_edit m k.graph) (λ a ready low differs. nobody a (changed-from (waiters_in k.graph m) k.graph (kill_mutex_edit m k.graph) a touches (omega (arith, low, touches.size)) differs))
      where
        nobody : (a : ℕ) → FromTouched (waiters_in k.graph m) k.graph (kill_mutex_edit m k.graph) a → ⊥
        nobody a (x, (among, side)) = owned x m (waiter_awaits k.graph m x among) owns
    by_owner (Some u) owns touches = one-moves v.ready k.graph (kill_mutex_edit m k.graph) k.graph u (λ a ready. unblocked k.graph a (roots a ready)) from
      where
        from : (a : ℕ) → is_among v.ready a ≡ true → a < length p.members → cur_in k.graph a ≢ cur_in (kill_mutex_edit m k.graph) a → Leads (blocker_in k.graph) u a
        from a ready low differs = by_side (changed-from (u ∷ waiters_in k.graph m) k.graph (kill_mutex_edit m k.graph) a touches (omega (arith, low, touches.size)) differs)
          where
            this : (x : ℕ) → x ≡ u → Leads (blocker_in k.graph) x a ⊎ Leads (blocker_in (kill_mutex_edit m k.graph)) x a → Leads (blocker_in k.graph) u a
            this x same (inl leads) = subst (λ y. Leads (blocker_in k.graph) y a) same leads
            this x same (inr leads) = leads-back (blocker_in (kill_mutex_edit m k.graph)) (blocker_in k.graph) u a (λ y z e. inl (stays y z e)) (subst (λ y. Leads (blocker_in (kill_mutex_edit m k.graph)) y a) same leads)

            that : (x : ℕ) → awaited_in k.graph x ≡ Some m → Leads (blocker_in k.graph) x a ⊎ Leads (blocker_in (kill_mutex_edit m k.graph)) x a → Leads (blocker_in k.graph) u a
            that x waits (inl leads) = leads-next (blocker_in k.graph) x u a (ap (option_and_then (owner_in k.graph)) waits ∙ owns) leads (waiting-apart v.ready k.graph x a m roots ready waits)
            that x waits (inr leads) = absurd (waiting-apart v.ready k.graph x a m roots ready waits (leads-end (blocker_in (kill_mutex_edit m k.graph)) x a (free x waits) leads))

            by_test : (x : ℕ) → (d : Bool) → eqb u x ≡ d → d || is_among (waiters_in k.graph m) x ≡ true → Leads (blocker_in k.graph) x a ⊎ Leads (blocker_in (kill_mutex_edit m k.graph)) x a → Leads (blocker_in k.graph) u a
            by_test x true same among side = this x (sym (eqb-true u x same)) side
            by_test x false other among side = that x (waiter_awaits k.graph m x among) side

            by_side : FromTouched (u ∷ waiters_in k.graph m) k.graph (kill_mutex_edit m k.graph) a → Leads (blocker_in k.graph) u a
            by_side (x, (among, side)) = by_test x (eqb u x) refl among side

-- a thread ends

takers-own : (is : List ℕ) (o : Ownership) (x : ℕ) → is_among (takers is o) x ≡ true → (i : ℕ) × ((is_among is i ≡ true) × (awaits-by o.members x ≡ Some i))
takers-own [] o x among = absurd (false≢true among)
takers-own (i ∷ is) o x among = by_first (first_in o i) refl (ap (λ us. is_among us x) (sym (takers-cons i is o)) ∙ among) (takers-own is (pass_edit i o) x)
  where
    Goal : Type 0
    Goal = (j : ℕ) × ((is_among (i ∷ is) j ≡ true) × (awaits-by o.members x ≡ Some j))

    Rest : Type 0
    Rest = is_among (takers is (pass_edit i o)) x ≡ true → (j : ℕ) × ((is_among is j ≡ true) × (awaits-by (pass_edit i o).members x ≡ Some j))

    or-true : (b : Bool) → b || true ≡ true
    or-true true = refl
    or-true false = refl

    on : is_among (takers is (pass_edit i o)) x ≡ true → Rest → Goal
    on all rest = let w = rest all in (w.0, (ap (λ d. eqb i w.0 || d) w.1.0 ∙ or-true (eqb i w.0), pass-back i x w.0 (first_in o i) o w.1.1))

    by_test : (u : ℕ) → first_in o i ≡ Some u → (d : Bool) → eqb u x ≡ d → d || is_among (takers is (pass_edit i o)) x ≡ true → Rest → Goal
    by_test u e true same all rest = (i, (ap (λ d. d || is_among is i) (eq-eqb i i refl), ap (awaits-by o.members) (sym (eqb-true u x same)) ∙ first_awaits o i u e))
    by_test u e false other all rest = on all rest

    by_first : (r : Option ℕ) → first_in o i ≡ r → is_among (cons_option r (takers is (pass_edit i o))) x ≡ true → Rest → Goal
    by_first None e all rest = on all rest
    by_first (Some u) e all rest = by_test u e (eqb u x) refl all rest

passes-idle : (is : List ℕ) (o : Ownership) (t : ℕ) → awaits-by o.members t ≡ None → awaits-by (pass_edits is o).members t ≡ None
passes-idle is o t idle = by_awaited (awaits-by (pass_edits is o).members t) refl
  where
    by_awaited : (r : Option ℕ) → awaits-by (pass_edits is o).members t ≡ r → r ≡ None
    by_awaited None e = refl
    by_awaited (Some j) e = absurd (none-some j (sym idle ∙ passes-back is o t j e))

takers-rest : (is : List ℕ) (o : Ownership) (x : ℕ) → is_among (takers is o) x ≡ true → awaits-by (pass_edits is o).members x ≡ None
takers-rest [] o x among = absurd (false≢true among)
takers-rest (i ∷ is) o x among = by_first (first_in o i) refl (ap (λ us. is_among us x) (sym (takers-cons i is o)) ∙ among) (takers-rest is (pass_edit i o) x)
  where
    Rest : Type 0
    Rest = is_among (takers is (pass_edit i o)) x ≡ true → awaits-by (pass_edits is (pass_edit i o)).members x ≡ None

    by_test : (u : ℕ) → first_in o i ≡ Some u → (d : Bool) → eqb u x ≡ d → d || is_among (takers is (pass_edit i o)) x ≡ true → Rest → awaits-by (pass_edits is (pass_edit i o)).members x ≡ None
    by_test u e true same all rest = passes-idle is (pass_edit i o) x (ap (λ r. awaits-by (pass_edit_to i r o).members x) e ∙ ap (awaits-by (pass_edit_to i (Some u) o).members) (sym (eqb-true u x same)) ∙ gone-awaits o.members u)
    by_test u e false other all rest = rest all

    by_first : (r : Option ℕ) → first_in o i ≡ r → is_among (cons_option r (takers is (pass_edit i o))) x ≡ true → Rest → awaits-by (pass_edits is (pass_edit i o)).members x ≡ None
    by_first None e all rest = rest all
    by_first (Some u) e all rest = by_test u e (eqb u x) refl all rest

threads-same : (ps : List Pass) → map (λ (q : Pass). q.thread) ps ≡ map (λ (q : ℕ × ℕ). q.1) (map pair_of ps)
threads-same [] = refl
threads-same (q ∷ ps) = ap (λ us. q.thread ∷ us) (threads-same ps)

set-none : (ms : List (Option Member)) (t : ℕ) → awaits-by (slice_set ms t None) t ≡ None
set-none [] t = refl
set-none (m ∷ ms) zero = refl
set-none (m ∷ ms) (suc t) = set-none ms t

not-among : (i t : ℕ) (hs : List Taken) → All (λ (h : Taken). i ≢ h.mutex) hs → is_among (map (λ (h : Taken). h.mutex) (filter (λ (h : Taken). h.owner == t) hs)) i ≡ true → ⊥
not-among i t [] all among = false≢true among
not-among i t (h ∷ hs) all among = by_test (h.owner == t) among (not-among i t hs (All-tail (λ (k : Taken). i ≢ k.mutex) h hs all))
  where
    by_test : (d : Bool) → is_among (map (λ (k : Taken). k.mutex) (cond d (h ∷ filter (λ (k : Taken). k.owner == t) hs) (filter (λ (k : Taken). k.owner == t) hs))) i ≡ true → (is_among (map (λ (k : Taken). k.mutex) (filter (λ (k : Taken). k.owner == t) hs)) i ≡ true → ⊥) → ⊥
    by_test true f rest = rest (sym (ap (λ d. d || is_among (map (λ (k : Taken). k.mutex) (filter (λ (k : Taken). k.owner == t) hs)) i) (ne_eqb h.mutex i (λ e. All-head (λ (k : Taken). i ≢ k.mutex) h hs all (sym e)))) ∙ f)
    by_test false f rest = rest f

-- who owns a mutex is its owner
owned-owner : (i t : ℕ) (hs : List Taken) → AllPairs Apart hs → is_among (map (λ (h : Taken). h.mutex) (filter (λ (h : Taken). h.owner == t) hs)) i ≡ true → owner_among hs i ≡ Some t
owned-owner i t [] apart among = absurd (false≢true among)
owned-owner i t (h ∷ hs) apart among = by_tests (h.owner == t) refl (eqb h.mutex i) refl among (owned-owner i t hs (pairs-tail Apart h hs apart))
  where
    Rest : Type 0
    Rest = is_among (map (λ (k : Taken). k.mutex) (filter (λ (k : Taken). k.owner == t) hs)) i ≡ true → owner_among hs i ≡ Some t

    here : (d : Bool) → eqb h.mutex i ≡ d → owner_among (h ∷ hs) i ≡ option_map (λ (k : Taken). k.owner) (cond d (Some h) (find (λ (k : Taken). k.mutex == i) hs))
    here d e = ap (λ c. option_map (λ (k : Taken). k.owner) (cond c (Some h) (find (λ (k : Taken). k.mutex == i) hs))) e

    by_tests : (b : Bool) → (h.owner == t) ≡ b → (d : Bool) → eqb h.mutex i ≡ d → is_among (map (λ (k : Taken). k.mutex) (cond b (h ∷ filter (λ (k : Taken). k.owner == t) hs) (filter (λ (k : Taken). k.owner == t) hs))) i ≡ true → Rest → owner_among (h ∷ hs) i ≡ Some t
    by_tests true owns true same f rest = here true same ∙ ap Some (eqb-true h.owner t owns)
    by_tests true owns false other f rest = here false other ∙ rest (sym (ap (λ d. d || is_among (map (λ (k : Taken). k.mutex) (filter (λ (k : Taken). k.owner == t) hs)) i) other) ∙ f)
    by_tests false owns true same f rest =
        absurd (not-among i t hs (subst (λ n. All (λ (k : Taken). n ≢ k.mutex) hs) (eqb-true h.mutex i same) (pairs-head Apart h hs apart)) f)
    by_tests false owns false other f rest = here false other ∙ rest f

pub close-one : (k : Inside) (v : MutexTabled) (t : ℕ) → view_of k ≡ v → Keeps k → AreOut v → MovesOne v.ready (changes k.graph (kill_thread_edit t k.graph))
close-one k v t is keeps out = one-moves v.ready o p o t (λ a ready. unblocked o a (roots a ready)) from
  where
    o : Ownership
    o = k.graph

    gone : Ownership
    gone = with_member k.graph t None

    p : Ownership
    p = kill_thread_edit t k.graph

    touches : Touches (t ∷ map (λ (q : Pass). q.thread) (passes_of t k.graph)) k.graph (kill_thread_edit t k.graph)
    touches = touches_thread_end t k.graph keeps.graph.once

    roots : AreRoots k.graph v.ready
    roots a ready = ready-root k v a is keeps out ready

    ended : blocker_in p t ≡ None
    ended = unblocked p t (passes-idle (owned_in k.graph t) (with_member k.graph t None) t (set-none k.graph.members t))

    waited : (w i : ℕ) → awaited_in gone w ≡ Some i → awaited_in o w ≡ Some i
    waited w i e = by_case (eqb w t) refl
      where
        by_case : (d : Bool) → eqb w t ≡ d → awaited_in o w ≡ Some i
        by_case true same = absurd (none-some i (sym (set-none k.graph.members t) ∙ ap (awaits-by (slice_set k.graph.members t None)) (sym (eqb-true w t same)) ∙ e))
        by_case false apart = ap (λ (x : Option Member). option_map (λ (y : MutexWait). y.mutex) (option_and_then (λ (y : Member). y.wait) x)) (sym (other-set k.graph.members t w None None (eqb-false w t apart))) ∙ e

    from : (a : ℕ) → is_among v.ready a ≡ true → a < length p.members → cur_in o a ≢ cur_in p a → Leads (blocker_in o) t a
    from a ready low differs = by_side (changed-from (t ∷ map (λ (q : Pass). q.thread) (passes_of t k.graph)) k.graph (kill_thread_edit t k.graph) a touches (omega (arith, low, touches.size)) differs)
      where
        this : (x : ℕ) → x ≡ t → Leads (blocker_in k.graph) x a ⊎ Leads (blocker_in (kill_thread_edit t k.graph)) x a → Leads (blocker_in k.graph) t a
        this x same (inl leads) = subst (λ y. Leads (blocker_in k.graph) y a) same leads
        this x same (inr leads) =
            subst (λ y. Leads (blocker_in k.graph) y a) (sym (leads-end (blocker_in (kill_thread_edit t k.graph)) t a ended (subst (λ y. Leads (blocker_in (kill_thread_edit t k.graph)) y a) same leads))) (leads-itself (blocker_in k.graph) a)

        that : (x : ℕ) → is_among (takers (owned_in k.graph t) (with_member k.graph t None)) x ≡ true → Leads (blocker_in k.graph) x a ⊎ Leads (blocker_in (kill_thread_edit t k.graph)) x a → Leads (blocker_in k.graph) t a
        that x among (inl leads) =
            let found = takers-own (owned_in k.graph t) (with_member k.graph t None) x among in
            let waits : awaited_in k.graph x ≡ Some found.0 = waited x found.0 found.1.1 in
            leads-next (blocker_in k.graph) x t a (ap (option_and_then (owner_in k.graph)) waits ∙ owned-owner found.0 t k.graph.taken keeps.graph.once found.1.0) leads (waiting-apart v.ready k.graph x a found.0 roots ready waits)
        that x among (inr leads) =
            let found = takers-own (owned_in k.graph t) (with_member k.graph t None) x among in
            let waits : awaited_in k.graph x ≡ Some found.0 = waited x found.0 found.1.1 in
            absurd (waiting-apart v.ready k.graph x a found.0 roots ready waits
            (leads-end (blocker_in (kill_thread_edit t k.graph)) x a (unblocked (kill_thread_edit t k.graph) x (takers-rest (owned_in k.graph t) (with_member k.graph t None) x among)) leads))

        by_test : (x : ℕ) → (d : Bool) → eqb t x ≡ d → d || is_among (map (λ (q : Pass). q.thread) (passes_of t k.graph)) x ≡ true → Leads (blocker_in k.graph) x a ⊎ Leads (blocker_in (kill_thread_edit t k.graph)) x a → Leads (blocker_in k.graph) t a
        by_test x true same among side = this x (sym (eqb-true t x same)) side
        by_test x false other among side = that x (ap (λ us. is_among us x) (sym (threads-same (passes_of t k.graph))) ∙ among) side

        by_side : FromTouched (t ∷ map (λ (q : Pass). q.thread) (passes_of t k.graph)) k.graph (kill_thread_edit t k.graph) a → Leads (blocker_in k.graph) t a
        by_side (x, (among, side)) = by_test x (eqb t x) refl among side
