-- A mutex is deleted: nobody owns it or waits on it any more, and it is gone.
use Rattle.std.proofs.Common.{ℕ, ◌≡◌, ◌≢◌, ◌<◌, List, [], ◌∷◌, Option, Some, None, Bool, true, false, not, cond, ◌||◌, refl, sym, ap, ◌∙◌, subst, arith, eqb, map, length, is_some, slice_index_or, slice_set, ◌≤◌, ◌⊎◌, inl, inr}
use Rattle.std.specs.Prelude.{find, filter, All, ◌==◌}
use Rattle.std.specs.List.{AllByRecursion}
use Rattle.std.specs.Option.{option_map}
use Rattle.std.specs.Str.{bytes_eq}
use Rattle.std.proofs.lemmas.Bool.{false≢true, eqb-true, eqb-false, ne_eqb, cases_lt}
use Rattle.std.proofs.lemmas.List.Elements.{All-head, All-tail, All-cons, All-nil}
use Rattle.std.proofs.lemmas.Option.{none-some}
use Rattle.rt_base.specs.declared.codes.Code.{Code}
use Rattle.rt_base.specs.declared.codes.WaitOrder.{WaitOrder}
use Rattle.rt_plain.specs.declared.stmt.Call.{Call}
use Rattle.rt_plain.specs.kernel.State.{State, Thread, Stage, Active, Closed, Waiting, InCall, Mutex, no_thread, thread_at, with_thread, is_closed, is_among}
use Rattle.rt_plain.specs.kernel.Effects.{each_effect, wake_effect}
use Rattle.rt_plain.specs.kernel.Owners.{without_owner}
use Rattle.rt_plain.specs.kernel.Waiting.{waiters, takes_mutex}
use Rattle.rt_plain.specs.kernel.DeleteCall.{deletion_outcome, mutex_deletion}
use Rattle.rt_plain.specs.kernel.Outcome.{Outcome, refusal, found_outcome}
use Rattle.rt_plain.specs.kernel.Ownership.{Ownership, MutexWait, Taken, taken_of, awaited_in, waiters_in, with_mutex_free, leave_edit, leave_edits, kill_mutex_edit}
use Rattle.rt_plain.proofs.kernel.TallyLemmas.{here-set, other-set, past-end, length-set_at}
use Rattle.object_box.specs.declared.object.Object.{Object}
use Rattle.object_box.specs.Objects.{ClassObjects, has_number, number_of, removed}
use Rattle.object_box.proofs.ObjectLemmas.{number_below, sound_removed}
use Rattle.mutex_chain.specs.Owners.{is_ceiling, AreOwned}
use Rattle.mutex_chain.proofs.OwnedLemmas.{owned_mutex_end}
use Rattle.mutex_chain.proofs.TouchLemmas.{leaves_taken}
use Rattle.mutex_chain.proofs.EditLemmas.{waiter_awaits}
use Rattle.mutex_tie.specs.Tie.{named, held_as, plain_mutex, plain_holding, member_of, wait_in, wait_for, name_at, name_or, knows_mutex, StandsFor}
use Rattle.mutex_tie.proofs.NameLemmas.{number-there}
use Rattle.mutex_tie.proofs.HoldingLemmas.{HasObjects, wait-tied}
use Rattle.mutex_tie.proofs.WaiterLemmas.{waiters-tied}
use Rattle.mutex_tie.proofs.EditLemmas.{stands-free, stage-kept}
use Rattle.mutex_tie.proofs.HoldLemmas.{names-of, number-same}
use Rattle.mutex_tie.proofs.MakeLemmas.{map-each, member_with, or-true}
use Rattle.mutex_tie.proofs.WakeLemmas.{stands-woken}
use Rattle.mutex_tie.proofs.TakeLemmas.{seen-mutex, found-some}

-- the objects but for one
abbrev others : ℕ → List Object → List Object
others i xs = filter (λ (x : Object). not (x.no == i)) xs

-- the number of a name that isn't that of the one
number-kept : (xs : List Object) (i j : ℕ) (name : List ℕ) → number_of xs name ≡ Some j → j ≢ i → number_of (others i xs) name ≡ Some j
number-kept [] i j name is apart = is
number-kept (x ∷ xs) i j name is apart = by_name (bytes_eq x.name name) refl (eqb x.no i) refl is (number-kept xs i j name)
  where
    by_name : (c : Bool) → bytes_eq x.name name ≡ c → (d : Bool) → eqb x.no i ≡ d → option_map (λ (y : Object). y.no) (cond c (Some x) (find (λ (y : Object). bytes_eq y.name name) xs)) ≡ Some j
        → (number_of xs name ≡ Some j → j ≢ i → number_of (others i xs) name ≡ Some j)
        → number_of (cond (not d) (x ∷ others i xs) (others i xs)) name ≡ Some j
    by_name true same true gone e rest = absurd (apart (sym (number-same x.no j e) ∙ eqb-true x.no i gone))
    by_name true same false stays e rest = ap (λ c. option_map (λ (y : Object). y.no) (cond c (Some x) (find (λ (y : Object). bytes_eq y.name name) (others i xs)))) same ∙ e
    by_name false other true gone e rest = rest e apart
    by_name false other false stays e rest = ap (λ c. option_map (λ (y : Object). y.no) (cond c (Some x) (find (λ (y : Object). bytes_eq y.name name) (others i xs)))) other ∙ rest e apart

-- who waits on another mutex waits on it still
abbrev mutex_in : Option MutexWait → Option ℕ
mutex_in wait = option_map (λ (w : MutexWait). w.mutex) wait

wait-kept : (xs : List Object) (i : ℕ) (stage : Stage) → knows_mutex xs stage ≡ true → mutex_in (wait_in xs stage) ≢ Some i → wait_in (others i xs) stage ≡ wait_in xs stage
wait-kept xs i (Waiting (InCall (Call.MutexTake name timeout)) number) known apart = by_number (number_of xs name) refl known apart
  where
    by_number : (n : Option ℕ) → number_of xs name ≡ n → is_some n ≡ true → mutex_in (wait_for number n) ≢ Some i → wait_for number (number_of (others i xs) name) ≡ wait_for number (number_of xs name)
    by_number None e some other = absurd (false≢true some)
    by_number (Some j) e some other = ap (wait_for number) (number-kept xs i j name e (λ same. other (ap Some same)) ∙ sym e)
wait-kept xs i _ known apart = refl

knows-kept : (xs : List Object) (i : ℕ) (stage : Stage) → knows_mutex xs stage ≡ true → mutex_in (wait_in xs stage) ≢ Some i → knows_mutex (others i xs) stage ≡ true
knows-kept xs i (Waiting (InCall (Call.MutexTake name timeout)) number) known apart = by_number (number_of xs name) refl known apart
  where
    by_number : (n : Option ℕ) → number_of xs name ≡ n → is_some n ≡ true → mutex_in (wait_for number n) ≢ Some i → is_some (number_of (others i xs) name) ≡ true
    by_number None e some other = absurd (false≢true some)
    by_number (Some j) e some other = ap is_some (number-kept xs i j name e (λ same. other (ap Some same)))
knows-kept xs i _ known apart = refl

-- which numbers are there
none-left : (xs : List Object) (i : ℕ) → has_number (others i xs) i ≡ false
none-left [] i = refl
none-left (x ∷ xs) i = by_test (eqb x.no i) refl (none-left xs i)
  where
    by_test : (d : Bool) → eqb x.no i ≡ d → has_number (others i xs) i ≡ false → has_number (cond (not d) (x ∷ others i xs) (others i xs)) i ≡ false
    by_test true gone rest = rest
    by_test false stays rest = ap (λ c. c || has_number (others i xs) i) stays ∙ rest

rest-there : (xs : List Object) (i j : ℕ) → j ≢ i → has_number (others i xs) j ≡ has_number xs j
rest-there [] i j apart = refl
rest-there (x ∷ xs) i j apart = by_test (eqb x.no i) refl (rest-there xs i j apart)
  where
    by_test : (d : Bool) → eqb x.no i ≡ d → has_number (others i xs) j ≡ has_number xs j → has_number (cond (not d) (x ∷ others i xs) (others i xs)) j ≡ eqb x.no j || has_number xs j
    by_test true gone rest = rest ∙ sym (ap (λ c. c || has_number xs j) (ne_eqb x.no j (λ e. apart (sym e ∙ eqb-true x.no i gone))))
    by_test false stays rest = ap (λ c. eqb x.no j || c) rest

-- the name of a number
name-left : (xs : List Object) (i j : ℕ) → j ≢ i → name_at (others i xs) j ≡ name_at xs j
name-left [] i j apart = refl
name-left (x ∷ xs) i j apart = by_test (eqb x.no i) refl (name-left xs i j apart)
  where
    by_number : (c : Bool) → name_at (others i xs) j ≡ name_at xs j → name_or (cond c (Some x) (find (λ (y : Object). eqb y.no j) (others i xs))) ≡ name_or (cond c (Some x) (find (λ (y : Object). eqb y.no j) xs))
    by_number true rest = refl
    by_number false rest = rest

    by_test : (d : Bool) → eqb x.no i ≡ d → name_at (others i xs) j ≡ name_at xs j → name_at (cond (not d) (x ∷ others i xs) (others i xs)) j ≡ name_or (cond (eqb x.no j) (Some x) (find (λ (y : Object). eqb y.no j) xs))
    by_test true gone rest = rest ∙ sym (ap (λ c. name_or (cond c (Some x) (find (λ (y : Object). eqb y.no j) xs))) (ne_eqb x.no j (λ e. apart (sym e ∙ eqb-true x.no i gone))))
    by_test false stays rest = by_number (eqb x.no j) rest

-- who owns other mutexes

untaken : (i : ℕ) (hs : List Taken) → find (λ (h : Taken). h.mutex == i) hs ≡ None → All (λ (h : Taken). h.mutex ≢ i) hs
untaken i [] none = All-nil (λ (h : Taken). h.mutex ≢ i)
untaken i (h ∷ hs) none = by_test (eqb h.mutex i) refl none (untaken i hs)
  where
    by_test : (c : Bool) → eqb h.mutex i ≡ c → cond c (Some h) (find (λ (k : Taken). k.mutex == i) hs) ≡ None → (find (λ (k : Taken). k.mutex == i) hs ≡ None → All (λ (k : Taken). k.mutex ≢ i) hs) → All (λ (k : Taken). k.mutex ≢ i) (h ∷ hs)
    by_test true same e rest = absurd (none-some h (sym e))
    by_test false apart e rest = All-cons (λ (k : Taken). k.mutex ≢ i) h hs (eqb-false h.mutex i apart) (rest e)

there-left : (xs : List Object) (i : ℕ) (hs : List Taken) → HasObjects xs hs → All (λ (h : Taken). h.mutex ≢ i) hs → HasObjects (others i xs) hs
there-left xs i [] all apart = All-nil (λ (h : Taken). has_number (others i xs) h.mutex ≡ true)
there-left xs i (h ∷ hs) all apart =
    All-cons (λ (k : Taken). has_number (others i xs) k.mutex ≡ true) h hs
    (rest-there xs i h.mutex (All-head (λ (k : Taken). k.mutex ≢ i) h hs apart) ∙ All-head (λ (k : Taken). has_number xs k.mutex ≡ true) h hs all)
    (there-left xs i hs (All-tail (λ (k : Taken). has_number xs k.mutex ≡ true) h hs all) (All-tail (λ (k : Taken). k.mutex ≢ i) h hs apart))

holdings-left : (xs : List Object) (i : ℕ) (hs : List Taken) → All (λ (h : Taken). h.mutex ≢ i) hs → map (plain_holding (others i xs)) hs ≡ map (plain_holding xs) hs
holdings-left xs i [] apart = refl
holdings-left xs i (h ∷ hs) apart =
    ap (λ n. held_as h n ∷ map (plain_holding (others i xs)) hs) (name-left xs i h.mutex (All-head (λ (k : Taken). k.mutex ≢ i) h hs apart))
    ∙ ap (λ ks. plain_holding xs h ∷ ks) (holdings-left xs i hs (All-tail (λ (k : Taken). k.mutex ≢ i) h hs apart))

-- the mutexes but for that of the name
mutexes-left : (cs : List (Option ℕ)) (name : List ℕ) (i : ℕ) (xs : List Object) → AllByRecursion (λ (x : Object). bytes_eq x.name name ≡ eqb x.no i) xs
    → filter (λ (m : Mutex). not (bytes_eq m.name name)) (map (plain_mutex cs) xs) ≡ map (plain_mutex (slice_set cs i None)) (others i xs)
mutexes-left cs name i [] same = refl
mutexes-left cs name i (x ∷ xs) (this, same) =
    ap (λ c. cond (not c) (plain_mutex cs x ∷ rest) rest) this ∙ by_test (eqb x.no i) refl (mutexes-left cs name i xs same)
  where
    rest : List Mutex
    rest = filter (λ (m : Mutex). not (bytes_eq m.name name)) (map (plain_mutex cs) xs)

    by_test : (d : Bool) → eqb x.no i ≡ d → rest ≡ map (plain_mutex (slice_set cs i None)) (others i xs) → cond (not d) (plain_mutex cs x ∷ rest) rest ≡ map (plain_mutex (slice_set cs i None)) (cond (not d) (x ∷ others i xs) (others i xs))
    by_test true gone again = again
    by_test false stays again =
        ap (λ ms. plain_mutex cs x ∷ ms) again
        ∙ sym (ap (λ r. named x.name r ∷ map (plain_mutex (slice_set cs i None)) (others i xs)) (other-set cs i x.no None None (eqb-false x.no i stays)))

-- a mutex that nobody owns or waits on is gone
stands-dropped : (s : State) (c : ClassObjects) (o : Ownership) (name : List ℕ) (i : ℕ) → StandsFor s c o → number_of c.objects name ≡ Some i → taken_of o i ≡ None → ((t : ℕ) → awaited_in o t ≢ Some i)
    → StandsFor (record s { mutexes = filter (λ (m : Mutex). not (bytes_eq m.name name)) s.mutexes }) (removed c i) (record o { ceilings = slice_set o.ceilings i None })
stands-dropped s c o name i tie is free unawaited = record {
  owned = record {
    members = tie.owned.members ∙ sym (map-each (member_of (others i c.objects)) (member_of c.objects) no_thread s.threads (λ t. ap (member_with (thread_at s t)) (wait-kept c.objects i (thread_at s t).stage (tie.owned.known t) (apart t))));
    places = length-set_at o.ceilings i None ∙ tie.owned.places;
    sound = sound_removed c i tie.owned.sound;
    there = λ j. by_test j (eqb j i) refl;
    taken = there-left c.objects i o.taken tie.owned.taken (untaken i o.taken free);
    once = tie.owned.once;
    known = λ t. knows-kept c.objects i (thread_at s t).stage (tie.owned.known t) (apart t);
  };
  mutexes = ap (filter (λ (m : Mutex). not (bytes_eq m.name name))) tie.mutexes ∙ mutexes-left o.ceilings name i c.objects (names-of s c o name i tie is);
  holdings = tie.holdings ∙ sym (holdings-left c.objects i o.taken (untaken i o.taken free));
}
  where
    low : i < length o.ceilings
    low = omega (arith, number_below c.limit c.objects i tie.owned.sound.below (number-there c.objects name i is), tie.owned.places)

    apart : (t : ℕ) → mutex_in (wait_in c.objects (thread_at s t).stage) ≢ Some i
    apart t e = unawaited t (ap mutex_in (wait-tied s c o t tie) ∙ e)

    by_test : (j : ℕ) (b : Bool) → eqb j i ≡ b → is_ceiling (slice_index_or (slice_set o.ceilings i None) j None) ≡ has_number (others i c.objects) j
    by_test j true same =
        ap (λ m. is_ceiling (slice_index_or (slice_set o.ceilings i None) m None)) (eqb-true j i same)
        ∙ ap is_ceiling (here-set o.ceilings i None None low)
        ∙ sym (ap (has_number (others i c.objects)) (eqb-true j i same) ∙ none-left c.objects i)
    by_test j false differs =
        ap is_ceiling (other-set o.ceilings i j None None (eqb-false j i differs))
        ∙ tie.owned.there j
        ∙ sym (rest-there c.objects i j (eqb-false j i differs))

-- threads that haven't ended wake one after the other
abbrev AreLiveIn : State → List ℕ → Type 0
AreLiveIn s ts = AllByRecursion (λ t. is_closed (thread_at s t).stage ≡ false) ts

live-woken : (s : State) (code : Code) (t u : ℕ) → is_closed (thread_at s t).stage ≡ false → is_closed (thread_at s u).stage ≡ false → is_closed (thread_at (wake_effect code t s).state u).stage ≡ false
live-woken s code t u this other = by_case (eqb u t) refl
  where
    coded : State
    coded = with_thread s t (record (thread_at s t) { code = code })

    row : Thread
    row = record (thread_at coded t) { stage = Active }

    by_case : (d : Bool) → eqb u t ≡ d → is_closed (slice_index_or (slice_set coded.threads t row) u no_thread).stage ≡ false
    by_case true same = by_size (cases_lt t (length coded.threads))
      where
        by_size : (t < length coded.threads) ⊎ (length coded.threads ≤ t) → is_closed (slice_index_or (slice_set coded.threads t row) u no_thread).stage ≡ false
        by_size (inl low) = ap (λ v. is_closed (slice_index_or (slice_set coded.threads t row) v no_thread).stage) (eqb-true u t same) ∙ ap (λ (r : Thread). is_closed r.stage) (here-set coded.threads t row no_thread low)
        by_size (inr high) = absurd (false≢true (sym this ∙ ap (λ (r : Thread). is_closed r.stage) (past-end s.threads t no_thread (omega (arith, high, length-set_at s.threads t (record (thread_at s t) { code = code }))))))
    by_case false apart = ap (λ (r : Thread). is_closed r.stage) (other-set coded.threads t u row no_thread (eqb-false u t apart)) ∙ ap is_closed (stage-kept s.threads t u (record (thread_at s t) { code = code }) refl) ∙ other

all-live : (s : State) (code : Code) (t : ℕ) (ts : List ℕ) → is_closed (thread_at s t).stage ≡ false → AreLiveIn s ts → AreLiveIn (wake_effect code t s).state ts
all-live s code t [] this all = tt
all-live s code t (u ∷ us) this (other, all) = (live-woken s code t u this other, all-live s code t us this all)

stands-all-woken : (c : ClassObjects) (code : Code) (ts : List ℕ) (s : State) (o : Ownership) → StandsFor s c o → AreLiveIn s ts → StandsFor (each_effect (wake_effect code) ts s).state c (leave_edits ts o)
stands-all-woken c code [] s o tie all = tie
stands-all-woken c code (t ∷ ts) s o tie (this, all) = stands-all-woken c code ts (wake_effect code t s).state (leave_edit t o) (stands-woken s c o t code tie this) (all-live s code t ts this all)

-- waking leaves the mutexes, and doesn't look at them
woken-apart : (code : Code) (ts : List ℕ) (s : State) (ms : List Mutex) → (each_effect (wake_effect code) ts (record s { mutexes = ms })).state ≡ record ((each_effect (wake_effect code) ts s).state) { mutexes = ms }
woken-apart code [] s ms = refl
woken-apart code (t ∷ ts) s ms = woken-apart code ts (wake_effect code t s).state ms

woken-mutexes : (code : Code) (ts : List ℕ) (s : State) → (each_effect (wake_effect code) ts s).state.mutexes ≡ s.mutexes
woken-mutexes code [] s = refl
woken-mutexes code (t ∷ ts) s = woken-mutexes code ts (wake_effect code t s).state

-- a waiter hasn't ended
waiter-live : (s : State) (c : ClassObjects) (o : Ownership) (i t : ℕ) → StandsFor s c o → awaited_in o t ≡ Some i → is_closed (thread_at s t).stage ≡ false
waiter-live s c o i t tie is = by_stage (thread_at s t).stage (sym (ap mutex_in (wait-tied s c o t tie)) ∙ is)
  where
    by_stage : (stage : Stage) → mutex_in (wait_in c.objects stage) ≡ Some i → is_closed stage ≡ false
    by_stage Closed e = absurd (none-some i e)
    by_stage _ e = refl

all-waiters : (s : State) (c : ClassObjects) (o : Ownership) (i : ℕ) → StandsFor s c o → (ts : List ℕ) → ((t : ℕ) → is_among ts t ≡ true → awaited_in o t ≡ Some i) → AreLiveIn s ts
all-waiters s c o i tie [] wait = tt
all-waiters s c o i tie (t ∷ ts) wait = (waiter-live s c o i t tie (wait t here), all-waiters s c o i tie ts (λ u among. wait u (later u among)))
  where
    here : eqb t t || is_among ts t ≡ true
    here = let same : eqb t t ≡ true = grind arith in ap (λ b. b || is_among ts t) same

    later : (u : ℕ) → is_among ts u ≡ true → eqb t u || is_among ts u ≡ true
    later u among = ap (λ b. eqb t u || b) among ∙ or-true (eqb t u)

no-owner : (i : ℕ) (hs : List Taken) → find (λ (h : Taken). h.mutex == i) (filter (λ (h : Taken). not (h.mutex == i)) hs) ≡ None
no-owner i [] = refl
no-owner i (h ∷ hs) = by_test (eqb h.mutex i) refl (no-owner i hs)
  where
    by_test : (c : Bool) → eqb h.mutex i ≡ c → find (λ (k : Taken). k.mutex == i) (filter (λ (k : Taken). not (k.mutex == i)) hs) ≡ None
        → find (λ (k : Taken). k.mutex == i) (cond (not c) (h ∷ filter (λ (k : Taken). not (k.mutex == i)) hs) (filter (λ (k : Taken). not (k.mutex == i)) hs)) ≡ None
    by_test true gone rest = rest
    by_test false stays rest = ap (λ c. cond c (Some h) (find (λ (k : Taken). k.mutex == i) (filter (λ (k : Taken). not (k.mutex == i)) hs))) stays ∙ rest

-- the waiters of a mutex wake with an error, in their order, and it is gone
pub stands-deleted : (s : State) (c : ClassObjects) (o : Ownership) (name : List ℕ) (i : ℕ) → StandsFor s c o → AreOwned o → number_of c.objects name ≡ Some i
    → StandsFor (deletion_outcome (record (without_owner s name) { mutexes = filter (λ (m : Mutex). not (bytes_eq m.name name)) s.mutexes }) (waiters s WaitOrder.Prio (takes_mutex name))).effect.state (removed c i) (kill_mutex_edit i o)
stands-deleted s c o name i tie owned is =
    subst (λ ts. StandsFor (each_effect (wake_effect Code.Error) ts (record free { mutexes = left })).state (removed c i) (kill_mutex_edit i o)) (sym (waiters-tied s c o name i tie is))
    (subst (λ (u : State). StandsFor u (removed c i) (kill_mutex_edit i o)) (sym (woken-apart Code.Error ts free left))
    (subst (λ (ms : List Mutex). StandsFor (record woken { mutexes = filter (λ (m : Mutex). not (bytes_eq m.name name)) ms }) (removed c i) (kill_mutex_edit i o)) (woken-mutexes Code.Error ts free)
    (stands-dropped woken c rest name i after is untaken_now unawaited)))
  where
    free : State
    free = without_owner s name

    left : List Mutex
    left = filter (λ (m : Mutex). not (bytes_eq m.name name)) s.mutexes

    ts : List ℕ
    ts = waiters_in o i

    woken : State
    woken = (each_effect (wake_effect Code.Error) ts free).state

    rest : Ownership
    rest = leave_edits ts (with_mutex_free i o)

    after : StandsFor woken c rest
    after = stands-all-woken c Code.Error ts free (with_mutex_free i o) (stands-free s c o name i tie is) (all-waiters s c o i tie ts (λ t among. waiter_awaits o i t among))

    untaken_now : taken_of rest i ≡ None
    untaken_now = ap (find (λ (h : Taken). h.mutex == i)) (leaves_taken ts (with_mutex_free i o)) ∙ no-owner i o.taken

    unawaited : (t : ℕ) → awaited_in rest t ≢ Some i
    unawaited t e = owned_mutex_end o i owned t i e (ap (option_map (λ (h : Taken). h.owner)) untaken_now)

-- the same of the whole call
pub deletion-stands : (s : State) (c : ClassObjects) (o : Ownership) (name : List ℕ) (i : ℕ) → StandsFor s c o → AreOwned o → number_of c.objects name ≡ Some i
    → StandsFor (mutex_deletion name s).effect.state (removed c i) (kill_mutex_edit i o)
deletion-stands s c o name i tie owned is =
    subst (λ (x : Outcome). StandsFor x.effect.state (removed c i) (kill_mutex_edit i o)) (sym found) (stands-deleted s c o name i tie owned is)
  where
    done : Outcome
    done = deletion_outcome (record (without_owner s name) { mutexes = filter (λ (m : Mutex). not (bytes_eq m.name name)) s.mutexes }) (waiters s WaitOrder.Prio (takes_mutex name))

    found : mutex_deletion name s ≡ done
    found =
        ap (λ (m : Option Mutex). found_outcome m (refusal s Code.Inval) (λ mutex. done)) (ap (find (λ (m : Mutex). bytes_eq m.name name)) tie.mutexes ∙ seen-mutex o.ceilings c.objects name)
        ∙ found-some o.ceilings (find (λ (x : Object). bytes_eq x.name name) c.objects) i (refusal s Code.Inval) done is
