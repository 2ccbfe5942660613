-- What the calls on mutexes leave, by the edits of the graph.
use Rattle.std.proofs.Common.{ℕ, ◌≡◌, ◌≢◌, ◌≤◌, ◌+◌, ◌-◌, List, [], ◌∷◌, Option, Some, None, Bool, true, false, not, cond, ◌&&◌, refl, sym, ap, ◌∙◌, subst, arith, eqb, length, is_some}
use Rattle.std.specs.Prelude.{find, nat_lt, nat_le, ◌==◌, if◌then◌else◌}
use Rattle.std.specs.Option.{option_map}
use Rattle.std.specs.Str.{bytes_eq}
use Rattle.std.proofs.lemmas.Option.{none-some}
use Rattle.rt_base.specs.declared.codes.Code.{Code}
use Rattle.std.proofs.lemmas.Slice.Eq.{bytes_eq-Decides}
use Rattle.rt_plain.specs.declared.stmt.Call.{Call}
use Rattle.rt_plain.specs.PlainBoard.{PlainBoard}
use Rattle.rt_plain.specs.kernel.State.{State, Mutex, Holding, thread_at, is_number}
use Rattle.rt_plain.specs.kernel.Owners.{give_back_effect}
use Rattle.rt_plain.specs.kernel.Outcome.{Outcome, By, ByThread, ByTimer, First, refusal, success, silent_success, found_outcome, with_value, wait_or_refusal}
use Rattle.rt_plain.specs.kernel.MutexCalls.{find_mutex, with_mutex, with_hold, mutex_take, mutex_take_outcome, hold_more_outcome, mutex_release, mutex_release_outcome, hold_less_outcome, mutex_ceiling, mutex_create}
use Rattle.rt_plain.specs.kernel.Priority.{holding_of}
use Rattle.rt_plain.specs.kernel.Ownership.{Ownership, Taken, taken_of, take_edit, take_edit_of, release_edit, release_edit_of, ceiling_edit, with_taken_times, pass_edit}
use Rattle.object_box.specs.declared.object.Object.{Object}
use Rattle.object_box.specs.Objects.{ClassObjects, number_of}
use Rattle.mutex_chain.specs.Graph.{hold_of}
use Rattle.mutex_tie.specs.Tie.{is_own_or_free, plain_mutex, plain_holding, name_at, StandsFor}
use Rattle.mutex_tie.proofs.NameLemmas.{number-name}
use Rattle.mutex_tie.proofs.HoldingLemmas.{holding-tied}
use Rattle.mutex_tie.proofs.HoldLemmas.{stands-held, stands-ceiling, found-mutex}
use Rattle.mutex_tie.proofs.EditLemmas.{stands-got, stands-kept}
use Rattle.mutex_tie.proofs.TakeLemmas.{seen-mutex, found-some, take-found}
use Rattle.mutex_tie.proofs.CloseLemmas.{stands-given-back}

-- take: a free mutex is got, and its own is taken once more

hold-more : (hold : ℕ) → hold ≤ 255 → nat_lt hold 255 ≡ not (hold == 255)
hold-more hold h = grind (arith, h)

abbrev taken_if : Bool → ℕ → ℕ → Ownership → Ownership
taken_if c i hold o = if c then with_taken_times i hold o else o

abbrev more_if : Bool → Holding → State → Outcome
more_if c h s = if c then refusal s Code.Full else silent_success (with_hold s h (h.hold + 1))

pub stands-again : (s : State) (c : ClassObjects) (o : Ownership) (i t : ℕ) (k : Taken) → StandsFor s c o → taken_of o i ≡ Some k → eqb k.owner t ≡ true → k.hold ≤ 255
    → StandsFor (hold_more_outcome (plain_holding c.objects k) s).effect.state c (take_edit_of t i (Some k) o)
stands-again s c o i t k tie is owns few =
    subst (λ e. StandsFor (hold_more_outcome (plain_holding c.objects k) s).effect.state c (taken_if (e && nat_lt k.hold 255) i (k.hold + 1) o)) (sym owns)
    (subst (λ e. StandsFor (hold_more_outcome (plain_holding c.objects k) s).effect.state c (taken_if e i (k.hold + 1) o)) (sym (hold-more k.hold few)) (by_test (k.hold == 255)))
  where
    by_test : (e : Bool) → StandsFor (more_if e (plain_holding c.objects k) s).effect.state c (taken_if (not e) i (k.hold + 1) o)
    by_test true = tie
    by_test false = stands-held s c o i (k.hold + 1) k tie is

-- release: its owner holds it once less, or it passes

pub release-found : (s : State) (c : ClassObjects) (o : Ownership) (name : List ℕ) (i : ℕ) (by : By) → StandsFor s c o → number_of c.objects name ≡ Some i
    → mutex_release name s by ≡ mutex_release_outcome (option_map (plain_holding c.objects) (taken_of o i)) s by
release-found s c o name i by tie is =
    ap (λ (m : Option Mutex). found_outcome m (refusal s Code.Inval) (λ mutex. mutex_release_outcome (holding_of s name) s by)) (ap (find (λ (m : Mutex). bytes_eq m.name name)) tie.mutexes ∙ seen-mutex o.ceilings c.objects name)
    ∙ found-some o.ceilings (find (λ (x : Object). bytes_eq x.name name) c.objects) i (refusal s Code.Inval) (mutex_release_outcome (holding_of s name) s by) is
    ∙ ap (λ (h : Option Holding). mutex_release_outcome h s by) (holding-tied s c o name tie ∙ ap (λ (n : Option ℕ). option_map (plain_holding c.objects) (find (λ (h : Taken). is_number h.mutex n) o.taken)) is)

abbrev less_if : Bool → Holding → State → Outcome
less_if c h s = if c then silent_success (with_hold s h (h.hold - 1)) else success (give_back_effect h.mutex s)

abbrev less_edit : Bool → ℕ → ℕ → Ownership → Ownership
less_edit c i hold o = if c then with_taken_times i hold o else pass_edit i o

stands-less : (s : State) (c : ClassObjects) (o : Ownership) (name : List ℕ) (i : ℕ) (k : Taken) → StandsFor s c o → number_of c.objects name ≡ Some i → taken_of o i ≡ Some k
    → StandsFor (hold_less_outcome (plain_holding c.objects k) s).effect.state c (less_edit (nat_lt 1 k.hold) i (k.hold - 1) o)
stands-less s c o name i k tie is taken = by_test (nat_lt 1 k.hold)
  where
    same : name_at c.objects k.mutex ≡ name
    same = ap (name_at c.objects) (found-mutex i o.taken k taken) ∙ number-name c.objects name i tie.owned.sound.names tie.owned.sound.numbers is

    by_test : (e : Bool) → StandsFor (less_if e (plain_holding c.objects k) s).effect.state c (less_edit e i (k.hold - 1) o)
    by_test true = stands-held s c o i (k.hold - 1) k tie taken
    by_test false = subst (λ n. StandsFor (give_back_effect n s).state c (pass_edit i o)) (sym same) (stands-given-back s c o name i tie is)

abbrev release_if : Bool → Holding → State → Outcome
release_if e h s = if e then hold_less_outcome h s else refusal s Code.Error

abbrev release_edit_if : Bool → ℕ → Taken → Ownership → Ownership
release_edit_if e i k o = if e then (if nat_lt 1 k.hold then with_taken_times i (k.hold - 1) o else pass_edit i o) else o

-- what a thread's mutex_release of a mutex that is there leaves
pub stands-released : (s : State) (c : ClassObjects) (o : Ownership) (name : List ℕ) (i t core : ℕ) → StandsFor s c o → number_of c.objects name ≡ Some i
    → StandsFor (mutex_release name s (ByThread t core)).effect.state c (release_edit t i o)
stands-released s c o name i t core tie is =
    subst (λ (x : Outcome). StandsFor x.effect.state c (release_edit t i o)) (sym (release-found s c o name i (ByThread t core) tie is)) (by_taken (taken_of o i) refl)
  where
    by_owner : (k : Taken) → taken_of o i ≡ Some k → (e : Bool) → StandsFor (release_if e (plain_holding c.objects k) s).effect.state c (release_edit_if e i k o)
    by_owner k taken true = stands-less s c o name i k tie is taken
    by_owner k taken false = tie

    by_taken : (r : Option Taken) → taken_of o i ≡ r → StandsFor (mutex_release_outcome (option_map (plain_holding c.objects) r) s (ByThread t core)).effect.state c (release_edit_of t i r o)
    by_taken None taken = tie
    by_taken (Some k) taken = by_owner k taken (eqb k.owner t)

abbrev name_of_or : Option Mutex → List ℕ → List ℕ
name_of_or None d = d
name_of_or (Some m) d = m.name

-- the mutex that is found has the name
found-name : (ms : List Mutex) (name : List ℕ) (m : Mutex) → find (λ (x : Mutex). bytes_eq x.name name) ms ≡ Some m → m.name ≡ name
found-name [] name m is = absurd (none-some m is)
found-name (x ∷ xs) name m is = by_test (bytes_eq x.name name) refl is (found-name xs name m)
  where
    by_test : (c : Bool) → bytes_eq x.name name ≡ c → cond c (Some x) (find (λ (y : Mutex). bytes_eq y.name name) xs) ≡ Some m → (find (λ (y : Mutex). bytes_eq y.name name) xs ≡ Some m → m.name ≡ name) → m.name ≡ name
    by_test true same e rest = ap (λ (o : Option Mutex). name_of_or o name) (sym e) ∙ (bytes_eq-Decides x.name name).0 same
    by_test false apart e rest = rest e

-- take: of a mutex that is free, or its own
abbrev take_if : Bool → ℕ → List ℕ → Option ℕ → Holding → State → ℕ → ℕ → Outcome
take_if e i name timeout h s t core = if e then hold_more_outcome h s else wait_or_refusal s (ByThread t core) First (Call.MutexTake name timeout) timeout Code.Timeout

-- what a thread's mutex_take of a mutex that nobody else owns leaves
pub stands-taken : (s : State) (c : ClassObjects) (o : Ownership) (name : List ℕ) (i t core : ℕ) (timeout : Option ℕ) → StandsFor s c o → number_of c.objects name ≡ Some i → hold_of (taken_of o i) ≤ 255 → is_own_or_free t (taken_of o i) ≡ true
    → StandsFor (mutex_take name timeout s (ByThread t core)).effect.state c (take_edit t i o)
stands-taken s c o name i t core timeout tie is few may =
    subst (λ (x : Outcome). StandsFor x.effect.state c (take_edit t i o)) (sym (take-found s c o name i timeout (ByThread t core) tie is)) (by_taken (taken_of o i) refl few may)
  where
    by_taken : (r : Option Taken) → taken_of o i ≡ r → hold_of r ≤ 255 → is_own_or_free t r ≡ true → StandsFor (mutex_take_outcome name (option_map (plain_holding c.objects) r) timeout s (ByThread t core)).effect.state c (take_edit_of t i r o)
    by_taken None taken low own = stands-got s c o name i t tie is
    by_taken (Some k) taken low own =
        subst (λ e. StandsFor (take_if e i name timeout (plain_holding c.objects k) s t core).effect.state c (take_edit_of t i (Some k) o)) (sym own) (stands-again s c o i t k tie taken own low)

-- what mutex_create leaves, where the name is free and the class has room
pub create-settled : (b : PlainBoard) (s : State) (name : List ℕ) (ceiling : ℕ) → is_some (find_mutex s name) ≡ false → nat_le b.limits.mutex (length s.mutexes) ≡ false
    → mutex_create b name ceiling s ≡ silent_success (record s { mutexes = record { name = name; ceiling = ceiling } ∷ s.mutexes })
create-settled b s name ceiling free room =
    ap (λ (e : Bool). if e then refusal s Code.Busy else if nat_le b.limits.mutex (length s.mutexes) then refusal s Code.NoMem else made) free
    ∙ ap (λ (e : Bool). if e then refusal s Code.NoMem else made) room
  where
    made : Outcome
    made = silent_success (record s { mutexes = record { name = name; ceiling = ceiling } ∷ s.mutexes })

-- what mutex_ceiling of a mutex that is there leaves
stands-valued : (s : State) (c : ClassObjects) (o : Ownership) (by : By) (value : ℕ) → StandsFor s c o → StandsFor (with_value s by value) c o
stands-valued s c o (ByThread t core) value tie = stands-kept s (with_value s (ByThread t core) value) c o t (record (thread_at s t) { value = value }) tie refl refl refl refl refl
stands-valued s c o (ByTimer name) value tie = tie

pub stands-ceiled : (s : State) (c : ClassObjects) (o : Ownership) (name : List ℕ) (i ceiling : ℕ) (by : By) → StandsFor s c o → number_of c.objects name ≡ Some i
    → StandsFor (mutex_ceiling name ceiling s by).effect.state c (ceiling_edit i ceiling o)
stands-ceiled s c o name i ceiling by tie is = by_found (find_mutex s name) refl
  where
    found : find_mutex s name ≡ option_map (plain_mutex o.ceilings) (find (λ (x : Object). bytes_eq x.name name) c.objects)
    found = ap (find (λ (m : Mutex). bytes_eq m.name name)) tie.mutexes ∙ seen-mutex o.ceilings c.objects name

    nobody : (r : Option Object) → option_map (λ (x : Object). x.no) r ≡ Some i → option_map (plain_mutex o.ceilings) r ≢ None
    nobody None e none = none-some i e
    nobody (Some x) e none = none-some (plain_mutex o.ceilings x) (sym none)

    by_found : (r : Option Mutex) → find_mutex s name ≡ r → StandsFor (found_outcome r (refusal s Code.Inval) (λ mutex. silent_success (with_value (with_mutex s (record mutex { ceiling = ceiling })) by mutex.ceiling))).effect.state c (ceiling_edit i ceiling o)
    by_found None e = absurd (nobody (find (λ (x : Object). bytes_eq x.name name) c.objects) is (sym found ∙ e))
    by_found (Some m) e =
        stands-valued (with_mutex s (record m { ceiling = ceiling })) c (ceiling_edit i ceiling o) by m.ceiling
        (subst (λ n. StandsFor (with_mutex s (record { name = n; ceiling = ceiling })) c (ceiling_edit i ceiling o)) (sym (found-name s.mutexes name m e)) (stands-ceiling s c o name i ceiling tie is))
