-- A mutex is made.
use Rattle.std.proofs.Common.{ℕ, ◌≡◌, ◌<◌, zero, suc, List, [], ◌∷◌, Option, Some, None, Bool, true, false, cond, ◌||◌, refl, sym, ap, ◌∙◌, arith, eqb, map, length, is_some, slice_index_or, slice_set}
use Rattle.std.specs.Prelude.{find, All, if◌then◌else◌}
use Rattle.std.specs.Option.{option_map}
use Rattle.std.specs.Str.{bytes_eq}
use Rattle.std.proofs.lemmas.Bool.{false≢true, eqb-true, eqb-false, ne_eqb}
use Rattle.std.proofs.lemmas.List.Elements.{All-head, All-tail, All-weaker}
use Rattle.std.proofs.lemmas.Slice.Eq.{bytes_eq-Decides}
use Rattle.rt_plain.specs.declared.stmt.Call.{Call}
use Rattle.rt_plain.specs.kernel.State.{State, Thread, Stage, Waiting, InCall, no_thread, is_closed}
use Rattle.rt_plain.specs.kernel.Ownership.{Ownership, Member, MutexWait, Taken, ceiling_edit}
use Rattle.rt_plain.proofs.kernel.TallyLemmas.{here-set, other-set, length-set_at}
use Rattle.object_box.specs.declared.object.Object.{Object}
use Rattle.object_box.specs.Objects.{ClassObjects, IsLeastFree, has_number, number_of}
use Rattle.object_box.proofs.ObjectLemmas.{sound_made}
use Rattle.mutex_chain.specs.Owners.{has_mutex, is_ceiling}
use Rattle.mutex_tie.specs.Tie.{named, held_as, plain_mutex, plain_holding, member_of, wait_in, wait_for, name_at, name_or, knows_mutex, StandsFor}

-- the number of a name that is there
number-made : (xs : List Object) (x : Object) (name : List ℕ) → is_some (number_of xs name) ≡ true → number_of xs x.name ≡ None → number_of (x ∷ xs) name ≡ number_of xs name
number-made xs x name known none = by_test (bytes_eq x.name name) refl
  where
    by_test : (c : Bool) → bytes_eq x.name name ≡ c → option_map (λ (y : Object). y.no) (cond c (Some x) (find (λ (y : Object). bytes_eq y.name name) xs)) ≡ number_of xs name
    by_test true is = absurd (false≢true (sym (ap is_some none) ∙ ap (λ n. is_some (number_of xs n)) ((bytes_eq-Decides x.name name).0 is) ∙ known))
    by_test false is = refl

-- a thread that waits on a mutex that is there waits on it still
wait-made : (xs : List Object) (x : Object) (stage : Stage) → knows_mutex xs stage ≡ true → number_of xs x.name ≡ None → wait_in (x ∷ xs) stage ≡ wait_in xs stage
wait-made xs x (Waiting (InCall (Call.MutexTake name timeout)) number) known none = ap (wait_for number) (number-made xs x name known none)
wait-made xs x _ known none = refl

knows-made : (xs : List Object) (x : Object) (stage : Stage) → knows_mutex xs stage ≡ true → number_of xs x.name ≡ None → knows_mutex (x ∷ xs) stage ≡ true
knows-made xs x (Waiting (InCall (Call.MutexTake name timeout)) number) known none = ap is_some (number-made xs x name known none) ∙ known
knows-made xs x _ known none = refl

abbrev pub member_with : Thread → Option MutexWait → Option Member
member_with row wait = if is_closed row.stage then None else Some (record { base = row.base; wait = wait })

member-made : (xs : List Object) (x : Object) (row : Thread) → knows_mutex xs row.stage ≡ true → number_of xs x.name ≡ None → member_of (x ∷ xs) row ≡ member_of xs row
member-made xs x row known none = ap (member_with row) (wait-made xs x row.stage known none)

pub map-each : {A B : Type 0} (f g : A → B) (d : A) (xs : List A) → ((i : ℕ) → f (slice_index_or xs i d) ≡ g (slice_index_or xs i d)) → map f xs ≡ map g xs
map-each f g d [] same = refl
map-each f g d (x ∷ xs) same = ap (λ y. y ∷ map f xs) (same zero) ∙ ap (λ ys. g x ∷ ys) (map-each f g d xs (λ i. same (suc i)))

-- the ceilings of the mutexes that are there
ceilings-kept : (cs : List (Option ℕ)) (i : ℕ) (v : Option ℕ) (xs : List Object) → has_number xs i ≡ false → map (plain_mutex (slice_set cs i v)) xs ≡ map (plain_mutex cs) xs
ceilings-kept cs i v [] free = refl
ceilings-kept cs i v (x ∷ xs) free =
    ap (λ c. named x.name c ∷ map (plain_mutex (slice_set cs i v)) xs) (other-set cs i x.no v None (λ e. false≢true (sym free ∙ here e)))
    ∙ ap (λ ms. plain_mutex cs x ∷ ms) (ceilings-kept cs i v xs (or-false (eqb x.no i) free))
  where
    here : x.no ≡ i → eqb x.no i || has_number xs i ≡ true
    here e = let one : eqb x.no i ≡ true = grind (arith, e) in ap (λ c. c || has_number xs i) one

    or-false : (c : Bool) → c || has_number xs i ≡ false → has_number xs i ≡ false
    or-false true e = absurd (false≢true (sym e))
    or-false false e = e

-- the names of those that are there
name-kept : (xs : List Object) (x : Object) (m : ℕ) → has_number xs x.no ≡ false → has_number xs m ≡ true → name_at (x ∷ xs) m ≡ name_at xs m
name-kept xs x m free has = ap (λ c. name_or (cond c (Some x) (find (λ (y : Object). eqb y.no m) xs))) (ne_eqb x.no m (λ e. false≢true (sym free ∙ ap (has_number xs) e ∙ has)))

holdings-kept : (xs : List Object) (x : Object) (hs : List Taken) → has_number xs x.no ≡ false → All (λ (h : Taken). has_number xs h.mutex ≡ true) hs → map (plain_holding (x ∷ xs)) hs ≡ map (plain_holding xs) hs
holdings-kept xs x [] free all = refl
holdings-kept xs x (h ∷ hs) free all =
    ap (λ n. held_as h n ∷ map (plain_holding (x ∷ xs)) hs) (name-kept xs x h.mutex free (All-head (λ (k : Taken). has_number xs k.mutex ≡ true) h hs all))
    ∙ ap (λ ks. plain_holding xs h ∷ ks) (holdings-kept xs x hs free (All-tail (λ (k : Taken). has_number xs k.mutex ≡ true) h hs all))

pub or-true : (c : Bool) → c || true ≡ true
or-true true = refl
or-true false = refl

-- a mutex of a new name, with the least free number, which nobody owns
pub stands-made : (s : State) (c : ClassObjects) (o : Ownership) (name : List ℕ) (i ceiling : ℕ) → StandsFor s c o → number_of c.objects name ≡ None → length c.objects < c.limit → IsLeastFree c.objects i → i < c.limit
    → StandsFor (record s { mutexes = record { name = name; ceiling = ceiling } ∷ s.mutexes }) (record c { objects = record { no = i; name = name } ∷ c.objects }) (ceiling_edit i ceiling o)
stands-made s c o name i ceiling tie none few least low = record {
  owned = record {
    members = tie.owned.members ∙ sym (map-each (member_of (x ∷ c.objects)) (member_of c.objects) no_thread s.threads (λ t. member-made c.objects x (slice_index_or s.threads t no_thread) (tie.owned.known t) none));
    places = length-set_at o.ceilings i (Some ceiling) ∙ tie.owned.places;
    sound = (sound_made c i name tie.owned.sound none few least).1;
    there = λ j. by_test j (eqb i j) refl;
    taken = All-weaker (λ (h : Taken). has_number c.objects h.mutex ≡ true) (λ (h : Taken). has_number (x ∷ c.objects) h.mutex ≡ true) (λ h has. ap (λ b. eqb i h.mutex || b) has ∙ or-true (eqb i h.mutex)) o.taken tie.owned.taken;
    once = tie.owned.once;
    known = λ t. knows-made c.objects x (slice_index_or s.threads t no_thread).stage (tie.owned.known t) none;
  };
  mutexes = ap (λ ms. named name (Some ceiling) ∷ ms) (tie.mutexes ∙ sym (ceilings-kept o.ceilings i (Some ceiling) c.objects least.free))
      ∙ sym (ap (λ r. named name r ∷ map (plain_mutex (slice_set o.ceilings i (Some ceiling))) c.objects) (here-set o.ceilings i (Some ceiling) None (omega (arith, low, tie.owned.places))));
  holdings = tie.holdings ∙ sym (holdings-kept c.objects x o.taken least.free tie.owned.taken);
}
  where
    x : Object
    x = record { no = i; name = name }

    by_test : (j : ℕ) (b : Bool) → eqb i j ≡ b → has_mutex (ceiling_edit i ceiling o) j ≡ eqb i j || has_number c.objects j
    by_test j true is =
        ap (λ m. is_ceiling (slice_index_or (slice_set o.ceilings i (Some ceiling)) m None)) (sym (eqb-true i j is))
        ∙ ap is_ceiling (here-set o.ceilings i (Some ceiling) None (omega (arith, low, tie.owned.places)))
        ∙ sym (ap (λ b. b || has_number c.objects j) is)
    by_test j false is =
        ap is_ceiling (other-set o.ceilings i j (Some ceiling) None (λ e. eqb-false i j is (sym e)))
        ∙ tie.owned.there j
        ∙ sym (ap (λ b. b || has_number c.objects j) is)
