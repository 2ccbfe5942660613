-- Mutexes that pass, and threads that end.
use Rattle.std.proofs.Common.{ℕ, ◌≡◌, List, [], ◌∷◌, Option, Some, None, Bool, true, false, cond, refl, sym, ap, ◌∙◌, subst, eqb, map, ◌⊎◌, inl, inr}
use Rattle.std.specs.Prelude.{filter, All, slice_set, slice_index_or}
use Rattle.std.specs.List.{AllByRecursion}
use Rattle.std.specs.Option.{option_map}
use Rattle.std.specs.Str.{bytes_eq}
use Rattle.std.proofs.lemmas.Slice.Eq.{bytes_eq-Decides}
use Rattle.rt_plain.proofs.kernel.TallyLemmas.{same-set}
use Rattle.std.proofs.lemmas.Bool.{false≢true, eqb-true, cases_Bool}
use Rattle.std.proofs.lemmas.List.Elements.{All-head, All-tail}
use Rattle.rt_base.specs.declared.codes.Code.{Code}
use Rattle.rt_plain.specs.kernel.State.{State, Thread, Active, Closed, Holding, no_thread, thread_at, with_thread, is_closed, is_number}
use Rattle.rt_plain.specs.kernel.Effects.{each_effect}
use Rattle.rt_plain.specs.kernel.Owners.{with_owner, withdrawn_state, pass_effect, give_back_effect, mutexes_of, close_effect}
use Rattle.rt_plain.specs.kernel.Ownership.{Ownership, Member, Taken, member_at, with_member, with_wait, with_mutex_got, pass_edit, pass_edit_to, pass_edits, owned_in, first_in, kill_thread_edit}
use Rattle.object_box.specs.declared.object.Object.{Object}
use Rattle.object_box.specs.Objects.{ClassObjects, has_number, number_of}
use Rattle.mutex_chain.proofs.PassLemmas.{waits, first_waits}
use Rattle.mutex_tie.specs.Tie.{plain_holding, member_of, name_at, StandsFor}
use Rattle.mutex_tie.proofs.NameLemmas.{NamesApart, NumbersApart, name-is}
use Rattle.mutex_tie.proofs.HoldingLemmas.{member-tied}
use Rattle.mutex_tie.proofs.WaiterLemmas.{first-tied}
use Rattle.mutex_tie.proofs.EditLemmas.{member_if, stands-free, stands-got, stands-row, stands-kept}

abbrev pub free_member : ℕ → Option Member
free_member base = Some (record { base = base; wait = None })

pub same-base : (rows : List Thread) (t : ℕ) (row : Thread) → row.base ≡ (slice_index_or rows t no_thread).base → (slice_index_or (slice_set rows t row) t no_thread).base ≡ (slice_index_or rows t no_thread).base
same-base rows t row same = same-set (λ (r : Thread). r.base) rows t t row no_thread same

-- the mutex passes to a thread that hasn't ended
pub stands-passed : (s : State) (c : ClassObjects) (o : Ownership) (name : List ℕ) (i t : ℕ) → StandsFor s c o → number_of c.objects name ≡ Some i → is_closed (thread_at s t).stage ≡ false → StandsFor (pass_effect name (Some t) s).state c (pass_edit_to i (Some t) o)
stands-passed s c o name i t tie is lives =
    subst (λ (m : Option Member). StandsFor (pass_effect name (Some t) s).state c (with_member (with_mutex_got i t o) t m)) same
    (stands-row coded (pass_effect name (Some t) s).state c (with_mutex_got i t o) t row
    (stands-kept got coded c (with_mutex_got i t o) t (record (thread_at got t) { code = Code.Ok }) (stands-got s c o name i t tie is) refl refl refl refl refl) refl refl refl refl)
  where
    got : State
    got = with_owner s name t

    coded : State
    coded = with_thread got t (record (thread_at got t) { code = Code.Ok })

    row : Thread
    row = record (thread_at coded t) { stage = Active }

    base_same : (thread_at coded t).base ≡ (thread_at s t).base
    base_same = same-base s.threads t (record (thread_at s t) { code = Code.Ok }) refl

    same : member_of c.objects row ≡ option_map (with_wait None) (member_at o t)
    same =
        ap (λ n. free_member n) base_same
        ∙ sym (ap (option_map (with_wait None)) (member-tied s c o t tie) ∙ ap (λ d. option_map (with_wait None) (member_if d c.objects (thread_at s t))) lives)

-- a thread that waits on a mutex hasn't ended
waits-live : (s : State) (c : ClassObjects) (o : Ownership) (t : ℕ) → StandsFor s c o → waits (member_at o t) ≡ true → is_closed (thread_at s t).stage ≡ false
waits-live s c o t tie wait = by_case (cases_Bool (is_closed (thread_at s t).stage))
  where
    by_case : (is_closed (thread_at s t).stage ≡ true) ⊎ (is_closed (thread_at s t).stage ≡ false) → is_closed (thread_at s t).stage ≡ false
    by_case (inl gone) = absurd (false≢true (sym (ap waits (member-tied s c o t tie) ∙ ap (λ d. waits (member_if d c.objects (thread_at s t))) gone) ∙ wait))
    by_case (inr lives) = lives

-- the owner gives the mutex back, to its first waiter or to nobody
pub stands-given-back : (s : State) (c : ClassObjects) (o : Ownership) (name : List ℕ) (i : ℕ) → StandsFor s c o → number_of c.objects name ≡ Some i → StandsFor (give_back_effect name s).state c (pass_edit i o)
stands-given-back s c o name i tie is =
    subst (λ (f : Option ℕ). StandsFor (pass_effect name f s).state c (pass_edit i o)) (sym (first-tied s c o name i tie is)) (by_first (first_in o i) refl)
  where
    by_first : (f : Option ℕ) → first_in o i ≡ f → StandsFor (pass_effect name f s).state c (pass_edit_to i f o)
    by_first None e = stands-free s c o name i tie is
    by_first (Some t) e = stands-passed s c o name i t tie is (waits-live s c o t tie (first_waits o i t e))

-- a thread that ends leaves the graph
pub stands-withdrawn : (s : State) (c : ClassObjects) (o : Ownership) (t : ℕ) → StandsFor s c o → StandsFor (withdrawn_state s t) c (with_member o t None)
stands-withdrawn s c o t tie = stands-row s (withdrawn_state s t) c o t (record (thread_at s t) { stage = Closed; retry = None }) tie refl refl refl refl

-- the mutexes that a thread owns
seen-owned : (xs : List Object) (t : ℕ) (hs : List Taken) → map (λ (h : Holding). h.mutex) (filter (λ (h : Holding). eqb h.owner t) (map (plain_holding xs) hs)) ≡ map (name_at xs) (map (λ (h : Taken). h.mutex) (filter (λ (h : Taken). eqb h.owner t) hs))
seen-owned xs t [] = refl
seen-owned xs t (h ∷ hs) = by_test (eqb h.owner t) (seen-owned xs t hs)
  where
    by_test : (e : Bool) → map (λ (k : Holding). k.mutex) (filter (λ (k : Holding). eqb k.owner t) (map (plain_holding xs) hs)) ≡ map (name_at xs) (map (λ (k : Taken). k.mutex) (filter (λ (k : Taken). eqb k.owner t) hs))
        → map (λ (k : Holding). k.mutex) (cond e (plain_holding xs h ∷ filter (λ (k : Holding). eqb k.owner t) (map (plain_holding xs) hs)) (filter (λ (k : Holding). eqb k.owner t) (map (plain_holding xs) hs)))
        ≡ map (name_at xs) (map (λ (k : Taken). k.mutex) (cond e (h ∷ filter (λ (k : Taken). eqb k.owner t) hs) (filter (λ (k : Taken). eqb k.owner t) hs)))
    by_test true rest = ap (λ ns. name_at xs h.mutex ∷ ns) rest
    by_test false rest = rest

pub mutexes-tied : (s : State) (c : ClassObjects) (o : Ownership) (t : ℕ) → StandsFor s c o → mutexes_of s t ≡ map (name_at c.objects) (owned_in o t)
mutexes-tied s c o t tie = ap (λ (hs : List Holding). map (λ (h : Holding). h.mutex) (filter (λ (h : Holding). eqb h.owner t) hs)) tie.holdings ∙ seen-owned c.objects t o.taken

-- the name of a number has that number
abbrev pub IsNumbered : List Object → ℕ → Type 0
IsNumbered xs i = number_of xs (name_at xs i) ≡ Some i

pub number-back : (xs : List Object) (i : ℕ) → NamesApart xs → NumbersApart xs → has_number xs i ≡ true → IsNumbered xs i
number-back xs i names numbers has = by_number (number_of xs (name_at xs i)) (sym (name-is xs i (name_at xs i) names numbers has) ∙ self (name_at xs i))
  where
    self : (n : List ℕ) → bytes_eq n n ≡ true
    self n = (bytes_eq-Decides n n).1 refl

    by_number : (n : Option ℕ) → is_number i n ≡ true → n ≡ Some i
    by_number None e = absurd (false≢true e)
    by_number (Some j) e = ap Some (sym (eqb-true i j e))

all-numbered : (xs : List Object) (t : ℕ) (hs : List Taken) → NamesApart xs → NumbersApart xs → All (λ (h : Taken). has_number xs h.mutex ≡ true) hs → AllByRecursion (IsNumbered xs) (map (λ (h : Taken). h.mutex) (filter (λ (h : Taken). eqb h.owner t) hs))
all-numbered xs t [] names numbers all = tt
all-numbered xs t (h ∷ hs) names numbers all = by_test (eqb h.owner t) (all-numbered xs t hs names numbers (All-tail (λ (k : Taken). has_number xs k.mutex ≡ true) h hs all))
  where
    by_test : (e : Bool) → AllByRecursion (IsNumbered xs) (map (λ (k : Taken). k.mutex) (filter (λ (k : Taken). eqb k.owner t) hs))
        → AllByRecursion (IsNumbered xs) (map (λ (k : Taken). k.mutex) (cond e (h ∷ filter (λ (k : Taken). eqb k.owner t) hs) (filter (λ (k : Taken). eqb k.owner t) hs)))
    by_test true rest = (number-back xs h.mutex names numbers (All-head (λ (k : Taken). has_number xs k.mutex ≡ true) h hs all), rest)
    by_test false rest = rest

-- mutexes pass one after the other
pub stands-all-given : (c : ClassObjects) (is : List ℕ) (s : State) (o : Ownership) → StandsFor s c o → AllByRecursion (IsNumbered c.objects) is → StandsFor (each_effect give_back_effect (map (name_at c.objects) is) s).state c (pass_edits is o)
stands-all-given c [] s o tie all = tie
stands-all-given c (i ∷ is) s o tie all = stands-all-given c is (give_back_effect (name_at c.objects i) s).state (pass_edit i o) (stands-given-back s c o (name_at c.objects i) i tie all.0) all.1

-- a thread ends, and gives back its mutexes
pub stands-closed : (s : State) (c : ClassObjects) (o : Ownership) (t : ℕ) → StandsFor s c o → StandsFor (close_effect t s).state c (kill_thread_edit t o)
stands-closed s c o t tie =
    subst (λ (ns : List (List ℕ)). StandsFor (each_effect give_back_effect ns (withdrawn_state s t)).state c (kill_thread_edit t o)) (sym (mutexes-tied s c o t tie))
    (stands-all-given c (owned_in o t) (withdrawn_state s t) (with_member o t None) (stands-withdrawn s c o t tie) (all-numbered c.objects t o.taken tie.owned.sound.names tie.owned.sound.numbers tie.owned.taken))
