-- A mutex has another ceiling, or its owner holds it once more or less.
use Rattle.std.proofs.Common.{ℕ, ◌≡◌, ◌≢◌, ◌<◌, List, [], ◌∷◌, Option, Some, None, Bool, true, false, cond, refl, sym, ap, ◌∙◌, subst, arith, eqb, map, length, slice_index_or, slice_set}
use Rattle.std.specs.Prelude.{find, All, ◌==◌, if◌then◌else◌}
use Rattle.std.specs.List.{AllByRecursion, AllPairs}
use Rattle.std.specs.Str.{bytes_eq}
use Rattle.std.proofs.lemmas.Bool.{eqb-true, eqb-false, ne_eqb}
use Rattle.std.proofs.lemmas.List.Elements.{All-head, All-tail, All-cons}
use Rattle.std.proofs.lemmas.List.{get_or-map, length-map}
use Rattle.std.proofs.lemmas.Option.{none-some}
use Rattle.std.proofs.lemmas.Slice.Eq.{bytes_eq-Decides}
use Rattle.rt_plain.specs.kernel.State.{State, Mutex, Holding, is_number}
use Rattle.rt_plain.specs.kernel.MutexCalls.{with_mutex, with_hold}
use Rattle.rt_plain.specs.kernel.Ownership.{Ownership, Taken, taken_of, ceiling_edit, with_taken_times}
use Rattle.rt_plain.proofs.kernel.TallyLemmas.{here-set, other-set, length-set_at}
use Rattle.object_box.specs.declared.object.Object.{Object}
use Rattle.object_box.specs.Objects.{ClassObjects, has_number, number_of}
use Rattle.object_box.proofs.ObjectLemmas.{number_below}
use Rattle.mutex_chain.specs.Owners.{has_mutex, is_ceiling}
use Rattle.mutex_chain.proofs.CurLemmas.{found}
use Rattle.mutex_chain.proofs.OwnerLemmas.{Apart, apart_head, apart_tail}
use Rattle.mutex_tie.specs.Tie.{named, plain_mutex, plain_holding, name_at, ceiling_or, StandsFor}
use Rattle.mutex_tie.proofs.NameLemmas.{name-is, number-there, number-name}
use Rattle.mutex_tie.proofs.HoldingLemmas.{HasObjects}
use Rattle.mutex_tie.proofs.UrgencyLemmas.{OwnNumber, own-numbers}
use Rattle.mutex_tie.proofs.CloseLemmas.{number-back}

-- ceilings

abbrev with_ceiling : Mutex → List Mutex → List Mutex
with_ceiling new ms = map (λ (m : Mutex). if bytes_eq m.name new.name then new else m) ms

abbrev mutex_if : Bool → Mutex → Mutex → Mutex
mutex_if c new m = if c then new else m

ceiling-put : (cs : List (Option ℕ)) (name : List ℕ) (i ceiling : ℕ) → i < length cs → (xs : List Object)
    → AllByRecursion (λ (x : Object). bytes_eq x.name name ≡ eqb x.no i) xs
    → with_ceiling (record { name = name; ceiling = ceiling }) (map (plain_mutex cs) xs) ≡ map (plain_mutex (slice_set cs i (Some ceiling))) xs
ceiling-put cs name i ceiling low [] same = refl
ceiling-put cs name i ceiling low (x ∷ xs) (this, same) =
    ap (λ m. m ∷ with_ceiling new (map (plain_mutex cs) xs)) (by_test (bytes_eq x.name name) refl)
    ∙ ap (λ ms. plain_mutex (slice_set cs i (Some ceiling)) x ∷ ms) (ceiling-put cs name i ceiling low xs same)
  where
    new : Mutex
    new = record { name = name; ceiling = ceiling }

    by_test : (c : Bool) → bytes_eq x.name name ≡ c → mutex_if c new (plain_mutex cs x) ≡ plain_mutex (slice_set cs i (Some ceiling)) x
    by_test true is =
        ap (λ n. named n (Some ceiling)) (sym ((bytes_eq-Decides x.name name).0 is))
        ∙ sym (ap (λ r. named x.name r) (ap (λ n. slice_index_or (slice_set cs i (Some ceiling)) n None) (eqb-true x.no i (sym this ∙ is)) ∙ here-set cs i (Some ceiling) None low))
    by_test false is = sym (ap (λ r. named x.name r) (other-set cs i x.no (Some ceiling) None (eqb-false x.no i (sym this ∙ is))))

pub number-same : (m n : ℕ) → ◌≡◌ {A = Option ℕ} (Some m) (Some n) → m ≡ n
number-same m n e = ap (λ (o : Option ℕ). ceiling_or o) e

-- an object has a name exactly where it has the number of the name
pub names-are : (all : List Object) (name : List ℕ) (i : ℕ) → number_of all name ≡ Some i → (name_at all i ≡ name) → (xs : List Object) → AllByRecursion (OwnNumber all) xs
    → ((x : Object) → OwnNumber all x → x.no ≡ i → x.name ≡ name) → AllByRecursion (λ (x : Object). bytes_eq x.name name ≡ eqb x.no i) xs
names-are all name i is at [] own back = tt
names-are all name i is at (x ∷ xs) (this, own) back = (by_test (eqb x.no i) refl, names-are all name i is at xs own back)
  where
    no-name : eqb x.no i ≡ false → (c : Bool) → bytes_eq x.name name ≡ c → bytes_eq x.name name ≡ false
    no-name apart true same = absurd (eqb-false x.no i apart (number-same x.no i (sym this ∙ ap (number_of all) ((bytes_eq-Decides x.name name).0 same) ∙ is)))
    no-name apart false same = same

    by_test : (c : Bool) → eqb x.no i ≡ c → bytes_eq x.name name ≡ eqb x.no i
    by_test true same = (bytes_eq-Decides x.name name).1 (back x this (eqb-true x.no i same)) ∙ sym same
    by_test false apart = no-name apart (bytes_eq x.name name) refl ∙ sym apart

pub names-of : (s : State) (c : ClassObjects) (o : Ownership) (name : List ℕ) (i : ℕ) → StandsFor s c o → number_of c.objects name ≡ Some i → AllByRecursion (λ (x : Object). bytes_eq x.name name ≡ eqb x.no i) c.objects
names-of s c o name i tie is =
    names-are c.objects name i is (number-name c.objects name i tie.owned.sound.names tie.owned.sound.numbers is) c.objects (own-numbers c.objects tie.owned.sound.names)
    (λ x own at. sym (number-name c.objects x.name i tie.owned.sound.names tie.owned.sound.numbers (own ∙ ap Some at)) ∙ number-name c.objects name i tie.owned.sound.names tie.owned.sound.numbers is)

-- another ceiling of a mutex that is there
pub stands-ceiling : (s : State) (c : ClassObjects) (o : Ownership) (name : List ℕ) (i ceiling : ℕ) → StandsFor s c o → number_of c.objects name ≡ Some i
    → StandsFor (with_mutex s (record { name = name; ceiling = ceiling })) c (ceiling_edit i ceiling o)
stands-ceiling s c o name i ceiling tie is = record {
  owned = record {
    members = tie.owned.members;
    places = length-set_at o.ceilings i (Some ceiling) ∙ tie.owned.places;
    sound = tie.owned.sound;
    there = λ j. by_test j (eqb i j) refl;
    taken = tie.owned.taken;
    once = tie.owned.once;
    known = tie.owned.known;
  };
  mutexes = ap (with_ceiling (record { name = name; ceiling = ceiling })) tie.mutexes ∙ ceiling-put o.ceilings name i ceiling low c.objects (names-of s c o name i tie is);
  holdings = tie.holdings;
}
  where
    low : i < length o.ceilings
    low = omega (arith, number_below c.limit c.objects i tie.owned.sound.below (number-there c.objects name i is), tie.owned.places)

    by_test : (j : ℕ) (b : Bool) → eqb i j ≡ b → has_mutex (ceiling_edit i ceiling o) j ≡ has_number c.objects j
    by_test j true same =
        ap (λ m. is_ceiling (slice_index_or (slice_set o.ceilings i (Some ceiling)) m None)) (sym (eqb-true i j same))
        ∙ ap is_ceiling (here-set o.ceilings i (Some ceiling) None low)
        ∙ sym (ap (has_number c.objects) (sym (eqb-true i j same)) ∙ number-there c.objects name i is)
    by_test j false apart = ap is_ceiling (other-set o.ceilings i j (Some ceiling) None (λ e. eqb-false i j apart (sym e))) ∙ tie.owned.there j

-- holds

abbrev plain_hold : Holding → List Holding → List Holding
plain_hold new hs = map (λ (h : Holding). if bytes_eq h.mutex new.mutex then new else h) hs

abbrev taken_hold : ℕ → ℕ → List Taken → List Taken
taken_hold i hold hs = map (λ (h : Taken). if h.mutex == i then record { mutex = i; owner = h.owner; hold = hold } else h) hs

abbrev hold_if : Bool → Holding → Holding → Holding
hold_if c new h = if c then new else h

abbrev taken_if : Bool → ℕ → ℕ → Taken → Taken
taken_if c i hold h = if c then record { mutex = i; owner = h.owner; hold = hold } else h

-- a name is that of the number i, among the mutexes that are there
abbrev IsNameOf : List Object → List ℕ → ℕ → Type 0
IsNameOf xs name i = (m : ℕ) → has_number xs m ≡ true → bytes_eq (name_at xs m) name ≡ eqb m i

-- none of these is the mutex
hold-rest : (xs : List Object) (hs : List Taken) (i hold : ℕ) (new : Holding) → IsNameOf xs new.mutex i → HasObjects xs hs → All (λ (h : Taken). i ≢ h.mutex) hs → plain_hold new (map (plain_holding xs) hs) ≡ map (plain_holding xs) (taken_hold i hold hs)
hold-rest xs [] i hold new names all apart = refl
hold-rest xs (h ∷ hs) i hold new names all apart =
    ap (λ b. hold_if b new (plain_holding xs h) ∷ plain_hold new (map (plain_holding xs) hs)) (names h.mutex (All-head (λ (k : Taken). has_number xs k.mutex ≡ true) h hs all) ∙ off)
    ∙ sym (ap (λ b. plain_holding xs (taken_if b i hold h) ∷ plain_hold new (map (plain_holding xs) hs)) off)
    ∙ ap (λ ks. plain_holding xs (taken_if (eqb h.mutex i) i hold h) ∷ ks) (hold-rest xs hs i hold new names (All-tail (λ (k : Taken). has_number xs k.mutex ≡ true) h hs all) (All-tail (λ (k : Taken). i ≢ k.mutex) h hs apart))
  where
    off : eqb h.mutex i ≡ false
    off = ne_eqb h.mutex i (λ e. All-head (λ (k : Taken). i ≢ k.mutex) h hs apart (sym e))

abbrev taken_or : Option Taken → Taken → Taken
taken_or None d = d
taken_or (Some a) d = a

some-same : (a b : Taken) → ◌≡◌ {A = Option Taken} (Some a) (Some b) → a ≡ b
some-same a b e = ap (λ (o : Option Taken). taken_or o a) e

pub found-mutex : (i : ℕ) (hs : List Taken) (k : Taken) → find (λ (h : Taken). h.mutex == i) hs ≡ Some k → k.mutex ≡ i
found-mutex i [] k is = absurd (none-some k is)
found-mutex i (h ∷ hs) k is = by_test (eqb h.mutex i) refl is (found-mutex i hs k)
  where
    by_test : (c : Bool) → eqb h.mutex i ≡ c → cond c (Some h) (find (λ (r : Taken). r.mutex == i) hs) ≡ Some k → (find (λ (r : Taken). r.mutex == i) hs ≡ Some k → k.mutex ≡ i) → k.mutex ≡ i
    by_test true same e rest = ap (λ (r : Taken). r.mutex) (sym (some-same h k e)) ∙ eqb-true h.mutex i same
    by_test false apart e rest = rest e

-- the holding of a mutex is that of who took it
hold-put : (xs : List Object) (hs : List Taken) (i hold : ℕ) (k : Taken) → k.mutex ≡ i → IsNameOf xs (name_at xs k.mutex) i → HasObjects xs hs → AllPairs Apart hs → find (λ (h : Taken). h.mutex == i) hs ≡ Some k
    → plain_hold (record (plain_holding xs k) { hold = hold }) (map (plain_holding xs) hs) ≡ map (plain_holding xs) (taken_hold i hold hs)
hold-put xs [] i hold k at names all once is = refl
hold-put xs (h ∷ hs) i hold k at names all once is =
    ap (λ b. hold_if b new (plain_holding xs h) ∷ plain_hold new (map (plain_holding xs) hs)) (names h.mutex (All-head (λ (r : Taken). has_number xs r.mutex ≡ true) h hs all))
    ∙ by_test (eqb h.mutex i) refl is (hold-put xs hs i hold k at names rest (apart_tail h hs once))
  where
    new : Holding
    new = record (plain_holding xs k) { hold = hold }

    rest : HasObjects xs hs
    rest = All-tail (λ (r : Taken). has_number xs r.mutex ≡ true) h hs all

    by_test : (c : Bool) → eqb h.mutex i ≡ c → cond c (Some h) (find (λ (r : Taken). r.mutex == i) hs) ≡ Some k
        → (find (λ (r : Taken). r.mutex == i) hs ≡ Some k → plain_hold new (map (plain_holding xs) hs) ≡ map (plain_holding xs) (taken_hold i hold hs))
        → hold_if c new (plain_holding xs h) ∷ plain_hold new (map (plain_holding xs) hs) ≡ plain_holding xs (taken_if c i hold h) ∷ map (plain_holding xs) (taken_hold i hold hs)
    by_test true same found again =
        ap (λ (n : ℕ). record { mutex = name_at xs n; owner = k.owner; hold = hold } ∷ plain_hold new (map (plain_holding xs) hs)) at
        ∙ sym (ap (λ (r : Taken). record { mutex = name_at xs i; owner = r.owner; hold = hold } ∷ plain_hold new (map (plain_holding xs) hs)) (some-same h k found))
        ∙ ap (λ ks. record { mutex = name_at xs i; owner = h.owner; hold = hold } ∷ ks) (hold-rest xs hs i hold new names rest (subst (λ n. All (λ (r : Taken). n ≢ r.mutex) hs) (eqb-true h.mutex i same) (apart_head h hs once)))
    by_test false apart found again = ap (λ ks. plain_holding xs h ∷ ks) (again found)

hold-mutex : (i hold : ℕ) (h : Taken) (c : Bool) → eqb h.mutex i ≡ c → (taken_if c i hold h).mutex ≡ h.mutex
hold-mutex i hold h true e = sym (eqb-true h.mutex i e)
hold-mutex i hold h false e = refl

mutex-at : (i hold : ℕ) (hs : List Taken) (a : ℕ) (d : Taken) → a < length hs → (slice_index_or (taken_hold i hold hs) a d).mutex ≡ (slice_index_or hs a d).mutex
mutex-at i hold hs a d low =
    ap (λ (h : Taken). h.mutex) (get_or-map (λ (h : Taken). taken_if (eqb h.mutex i) i hold h) hs a d d low)
    ∙ hold-mutex i hold (slice_index_or hs a d) (eqb (slice_index_or hs a d).mutex i) refl

hold-there : (xs : List Object) (i hold : ℕ) (hs : List Taken) → HasObjects xs hs → HasObjects xs (taken_hold i hold hs)
hold-there xs i hold [] all = all
hold-there xs i hold (h ∷ hs) all =
    All-cons (λ (k : Taken). has_number xs k.mutex ≡ true) (taken_if (eqb h.mutex i) i hold h) (taken_hold i hold hs)
    (ap (has_number xs) (hold-mutex i hold h (eqb h.mutex i) refl) ∙ All-head (λ (k : Taken). has_number xs k.mutex ≡ true) h hs all)
    (hold-there xs i hold hs (All-tail (λ (k : Taken). has_number xs k.mutex ≡ true) h hs all))

hold-once : (i hold : ℕ) (hs : List Taken) → AllPairs Apart hs → AllPairs Apart (taken_hold i hold hs)
hold-once i hold hs once a b d lt within e =
    let low : b < length hs = omega (arith, within, length-map hs (λ (h : Taken). taken_if (eqb h.mutex i) i hold h)) in
    once a b d lt low (sym (mutex-at i hold hs a d (omega (arith, lt, low))) ∙ e ∙ mutex-at i hold hs b d low)

-- the owner of a mutex has taken it so many times
pub stands-held : (s : State) (c : ClassObjects) (o : Ownership) (i hold : ℕ) (k : Taken) → StandsFor s c o → taken_of o i ≡ Some k → StandsFor (with_hold s (plain_holding c.objects k) hold) c (with_taken_times i hold o)
stands-held s c o i hold k tie is = record {
  owned = record {
    members = tie.owned.members;
    places = tie.owned.places;
    sound = tie.owned.sound;
    there = tie.owned.there;
    taken = hold-there c.objects i hold o.taken tie.owned.taken;
    once = hold-once i hold o.taken tie.owned.once;
    known = tie.owned.known;
  };
  mutexes = tie.mutexes;
  holdings = ap (plain_hold (record (plain_holding c.objects k) { hold = hold })) tie.holdings ∙ hold-put c.objects o.taken i hold k at names tie.owned.taken tie.owned.once is;
}
  where
    at : k.mutex ≡ i
    at = found-mutex i o.taken k is

    there : has_number c.objects k.mutex ≡ true
    there = found (λ (h : Taken). has_number c.objects h.mutex ≡ true) (λ (h : Taken). h.mutex == i) o.taken k tie.owned.taken is

    names : IsNameOf c.objects (name_at c.objects k.mutex) i
    names m has = name-is c.objects m (name_at c.objects k.mutex) tie.owned.sound.names tie.owned.sound.numbers has ∙ ap (is_number m) (number-back c.objects k.mutex tie.owned.sound.names tie.owned.sound.numbers there ∙ ap Some at)
