-- Whom the mutexes of an ending thread pass to.
use Rattle.std.proofs.Common.{ℕ, zero, suc, ◌≡◌, ◌≢◌, ◌<◌, ◌≤◌, ◌+◌, ◌∷◌, [], arith, List, Option, Some, None, Bool, true, false, ◌||◌, cond, refl, sym, ap, ◌∙◌, subst, length, map, eqb, slice_set, slice_index_or, ◌⊎◌, inl, inr, drop, drop-cons, add-one, get_or, slice_get}
use Rattle.std.specs.Prelude.{filter, find, All, ◌==◌}
use Rattle.std.specs.List.{AllByRecursion, filter_map, cons_option}
use Rattle.std.specs.Option.{option_map, option_and_then}
use Rattle.std.proofs.lemmas.Bool.{cases_lt, cases_Bool, eqb-true, eqb-false, false≢true}
use Rattle.std.proofs.lemmas.Option.{none-some, same_Some}
use Rattle.std.proofs.lemmas.List.{length-set, get_or_past}
use Rattle.std.proofs.lemmas.List.Elements.{All-head, All-tail}
use Rattle.rt_base.specs.declared.codes.WaitOrder.{WaitOrder}
use Rattle.rt_plain.specs.kernel.State.{State, is_among}
use Rattle.rt_plain.specs.kernel.Owners.{give_back_effect, mutexes_of, withdrawn_state}
use Rattle.rt_plain.specs.kernel.Waiting.{first_waiter, takes_mutex}
use Rattle.rt_plain.specs.kernel.Ownership.{Ownership, Member, MutexWait, Pass, Taken, awaited_in, first_in, member_at, owned_in, pass_edit, pass_edit_to, passes_from, passes_of, with_member, with_wait}
use Rattle.rt_plain.proofs.kernel.TallyLemmas.{here-set, other-set}
use Rattle.object_box.specs.declared.object.Object.{Object}
use Rattle.object_box.specs.Objects.{ClassObjects, has_number}
use Rattle.mutex_chain.specs.Graph.{pair_of}
use Rattle.mutex_chain.proofs.PassLemmas.{first_waits, waiting, waits}
use Rattle.mutex_tie.specs.Tie.{StandsFor, name_at, name_or}
use Rattle.mutex_tie.proofs.CloseLemmas.{IsNumbered, mutexes-tied, number-back, stands-given-back, stands-withdrawn}
use Rattle.mutex_tie.proofs.NameLemmas.{NamesApart, NumbersApart}
use Rattle.mutex_tie.proofs.WaiterLemmas.{first-tied}
use Rattle.mutex_tables.specs.declared.passed.Passed.{Passed}
use Rattle.mutex_tables.specs.Mutexes.{AreApart}
use Rattle.mutex_tables.specs.Passed.{named_pass, passed_at_end, passed_first, passed_from}

-- the passes as pairs
abbrev pub pairs_from : List ℕ → Ownership → List (ℕ × ℕ)
pairs_from is o = map pair_of (filter_map (λ p. p) (passes_from is o))

-- those whom these mutexes pass to
abbrev pub takers : List ℕ → Ownership → List ℕ
takers is o = map (λ (p : ℕ × ℕ). p.1) (pairs_from is o)

abbrev pair_first : ℕ → Option ℕ → Option (ℕ × ℕ)
pair_first i None = None
pair_first i (Some t) = Some (i, t)

pairs-step : (i : ℕ) (r : Option ℕ) (rest : List (Option Pass)) → map pair_of (filter_map (λ p. p) (option_map (λ t. record { mutex = i; thread = t }) r ∷ rest)) ≡ cons_option (pair_first i r) (map pair_of (filter_map (λ p. p) rest))
pairs-step i None rest = refl
pairs-step i (Some t) rest = refl

takers-step : (i : ℕ) (r : Option ℕ) (ps : List (ℕ × ℕ)) → map (λ (p : ℕ × ℕ). p.1) (cons_option (pair_first i r) ps) ≡ cons_option r (map (λ (p : ℕ × ℕ). p.1) ps)
takers-step i None ps = refl
takers-step i (Some t) ps = refl

pub takers-cons : (i : ℕ) (is : List ℕ) (o : Ownership) → takers (i ∷ is) o ≡ cons_option (first_in o i) (takers is (pass_edit i o))
takers-cons i is o = ap (map (λ (p : ℕ × ℕ). p.1)) (pairs-step i (first_in o i) (passes_from is (pass_edit i o))) ∙ takers-step i (first_in o i) (pairs_from is (pass_edit i o))

-- who waits after a pass waited before

left-waits : (m : Option Member) → waits (option_map (with_wait None) m) ≡ false
left-waits None = refl
left-waits (Some m) = refl

-- whoever a mutex passed to waits no more
passed-waits : (i u : ℕ) (o : Ownership) → waits (member_at (pass_edit_to i (Some u) o) u) ≡ false
passed-waits i u o = by_size (cases_lt u (length o.members))
  where
    row : Option Member
    row = option_map (with_wait None) (member_at o u)

    by_size : (u < length o.members) ⊎ (length o.members ≤ u) → waits (slice_index_or (slice_set o.members u row) u None) ≡ false
    by_size (inl low) = ap waits (here-set o.members u row None low) ∙ left-waits (member_at o u)
    by_size (inr past) = ap waits (get_or_past (slice_set o.members u row) u None (omega (arith, past, length-set o.members u row)))

waits-before : (i x : ℕ) (r : Option ℕ) (o : Ownership) → waits (member_at (pass_edit_to i r o) x) ≡ true → waits (member_at o x) ≡ true
waits-before i x None o e = e
waits-before i x (Some u) o e = by_case (eqb x u) refl
  where
    by_case : (d : Bool) → eqb x u ≡ d → waits (member_at o x) ≡ true
    by_case true same = absurd (false≢true (sym (passed-waits i u o) ∙ ap (λ y. waits (member_at (pass_edit_to i (Some u) o) y)) (sym (eqb-true x u same)) ∙ e))
    by_case false apart = ap waits (sym (other-set o.members u x (option_map (with_wait None) (member_at o u)) None (eqb-false x u apart))) ∙ e

pub takers-wait : (is : List ℕ) (o : Ownership) (x : ℕ) → is_among (takers is o) x ≡ true → waits (member_at o x) ≡ true
takers-wait [] o x among = absurd (false≢true among)
takers-wait (i ∷ is) o x among = by_first (first_in o i) refl (ap (λ us. is_among us x) (sym (takers-cons i is o)) ∙ among) (takers-wait is (pass_edit i o) x)
  where
    by_test : (u : ℕ) → first_in o i ≡ Some u → (d : Bool) → eqb u x ≡ d → d || is_among (takers is (pass_edit i o)) x ≡ true → (is_among (takers is (pass_edit i o)) x ≡ true → waits (member_at (pass_edit i o) x) ≡ true) → waits (member_at o x) ≡ true
    by_test u e true same all rest = subst (λ y. waits (member_at o y) ≡ true) (eqb-true u x same) (first_waits o i u e)
    by_test u e false apart all rest = waits-before i x (first_in o i) o (rest all)

    by_first : (r : Option ℕ) → first_in o i ≡ r → is_among (cons_option r (takers is (pass_edit i o))) x ≡ true → (is_among (takers is (pass_edit i o)) x ≡ true → waits (member_at (pass_edit i o) x) ≡ true) → waits (member_at o x) ≡ true
    by_first None e all rest = waits-before i x (first_in o i) o (rest all)
    by_first (Some u) e all rest = by_test u e (eqb u x) refl all rest

-- each is passed to once
pub takers-apart : (is : List ℕ) (o : Ownership) → AreApart (takers is o)
takers-apart [] o = tt
takers-apart (i ∷ is) o = subst AreApart (sym (takers-cons i is o)) (by_first (first_in o i) refl (takers-apart is (pass_edit i o)))
  where
    out : (u : ℕ) → first_in o i ≡ Some u → (d : Bool) → is_among (takers is (pass_edit i o)) u ≡ d → d ≡ false
    out u e true among = absurd (false≢true (sym (passed-waits i u o) ∙ ap (λ r. waits (member_at (pass_edit_to i r o) u)) (sym e) ∙ takers-wait is (pass_edit i o) u among))
    out u e false among = refl

    by_first : (r : Option ℕ) → first_in o i ≡ r → AreApart (takers is (pass_edit i o)) → AreApart (cons_option r (takers is (pass_edit i o)))
    by_first None e rest = rest
    by_first (Some u) e rest = (out u e (is_among (takers is (pass_edit i o)) u) refl, rest)

-- there are no more of them than threads that wait

count-left : (ms : List (Option Member)) (u : ℕ) → waits (slice_index_or ms u None) ≡ true → waiting (slice_set ms u (option_map (with_wait None) (slice_index_or ms u None))) + 1 ≡ waiting ms
count-left [] u h = absurd (false≢true h)
count-left (m ∷ ms) zero h = by_tests (waits (option_map (with_wait None) m)) (left-waits m) (waits m) h
  where
    by_tests : (b : Bool) → b ≡ false → (c : Bool) → c ≡ true → cond b 1 0 + waiting ms + 1 ≡ cond c 1 0 + waiting ms
    by_tests true e c f = absurd (false≢true (sym e))
    by_tests false e true f = omega arith
    by_tests false e false f = absurd (false≢true f)
count-left (m ∷ ms) (suc u) h = omega (arith, count-left ms u h)

waiting-few : (ms : List (Option Member)) → waiting ms ≤ length ms
waiting-few [] = omega arith
waiting-few (m ∷ ms) = by_test (waits m) (waiting-few ms)
  where
    by_test : (b : Bool) → waiting ms ≤ length ms → cond b 1 0 + waiting ms ≤ length (m ∷ ms)
    by_test true h = omega arith
    by_test false h = omega arith

takers-count : (is : List ℕ) (o : Ownership) → length (takers is o) ≤ waiting o.members
takers-count [] o = omega arith
takers-count (i ∷ is) o = subst (λ us. length us ≤ waiting o.members) (sym (takers-cons i is o)) (by_first (first_in o i) refl (takers-count is (pass_edit i o)))
  where
    by_first : (r : Option ℕ) → first_in o i ≡ r → length (takers is (pass_edit i o)) ≤ waiting (pass_edit i o).members → length (cons_option r (takers is (pass_edit i o))) ≤ waiting o.members
    by_first None e rest = subst (λ q. length (takers is (pass_edit i o)) ≤ waiting (pass_edit_to i q o).members) e rest
    by_first (Some u) e rest =
        let again : length (takers is (pass_edit i o)) ≤ waiting (pass_edit_to i (Some u) o).members = subst (λ q. length (takers is (pass_edit i o)) ≤ waiting (pass_edit_to i q o).members) e rest in
        omega (arith, again, count-left o.members u (first_waits o i u e))

pairs-length : (ps : List (ℕ × ℕ)) → length (map (λ (p : ℕ × ℕ). p.1) ps) ≡ length ps
pairs-length [] = refl
pairs-length (p ∷ ps) = ap suc (pairs-length ps)

pub pairs-few : (is : List ℕ) (o : Ownership) → length (pairs_from is o) ≤ length o.members
pairs-few is o = omega (arith, takers-count is o, waiting-few o.members, pairs-length (pairs_from is o))

-- the mutexes that pass are there

abbrev pub AreThere : List Object → List (ℕ × ℕ) → Type 0
AreThere xs ps = AllByRecursion (λ (p : ℕ × ℕ). has_number xs p.0 ≡ true) ps

pub pairs-there : (xs : List Object) (is : List ℕ) (o : Ownership) → AllByRecursion (λ i. has_number xs i ≡ true) is → AreThere xs (pairs_from is o)
pairs-there xs [] o all = tt
pairs-there xs (i ∷ is) o (this, all) = subst (AreThere xs) (sym (pairs-step i (first_in o i) (passes_from is (pass_edit i o)))) (by_first (first_in o i) (pairs-there xs is (pass_edit i o) all))
  where
    by_first : (r : Option ℕ) → AreThere xs (pairs_from is (pass_edit i o)) → AreThere xs (cons_option (pair_first i r) (pairs_from is (pass_edit i o)))
    by_first None rest = rest
    by_first (Some t) rest = (this, rest)

pub owned-there : (xs : List Object) (t : ℕ) (hs : List Taken) → All (λ (h : Taken). has_number xs h.mutex ≡ true) hs → AllByRecursion (λ i. has_number xs i ≡ true) (map (λ (h : Taken). h.mutex) (filter (λ (h : Taken). h.owner == t) hs))
owned-there xs t [] all = tt
owned-there xs t (h ∷ hs) all = by_test (h.owner == t) (owned-there xs t hs (All-tail (λ (k : Taken). has_number xs k.mutex ≡ true) h hs all))
  where
    by_test : (e : Bool) → AllByRecursion (λ i. has_number xs i ≡ true) (map (λ (k : Taken). k.mutex) (filter (λ (k : Taken). k.owner == t) hs))
        → AllByRecursion (λ i. has_number xs i ≡ true) (map (λ (k : Taken). k.mutex) (cond e (h ∷ filter (λ (k : Taken). k.owner == t) hs) (filter (λ (k : Taken). k.owner == t) hs)))
    by_test true rest = (All-head (λ (k : Taken). has_number xs k.mutex ≡ true) h hs all, rest)
    by_test false rest = rest

pub all-numbered : (xs : List Object) (is : List ℕ) → NamesApart xs → NumbersApart xs → AllByRecursion (λ i. has_number xs i ≡ true) is → AllByRecursion (IsNumbered xs) is
all-numbered xs [] names numbers all = tt
all-numbered xs (i ∷ is) names numbers (this, all) = (number-back xs i names numbers this, all-numbered xs is names numbers all)

-- the passes by name are those of the definitions

named-from : (c : ClassObjects) (is : List ℕ) (s : State) (o : Ownership) → StandsFor s c o → AllByRecursion (IsNumbered c.objects) is → map (named_pass c.objects) (pairs_from is o) ≡ passed_from (map (name_at c.objects) is) s
named-from c [] s o tie all = refl
named-from c (i ∷ is) s o tie (this, all) =
    ap (map (named_pass c.objects)) (pairs-step i (first_in o i) (passes_from is (pass_edit i o)))
    ∙ by_first (first_in o i) (named-from c is (give_back_effect name s).state (pass_edit i o) (stands-given-back s c o name i tie this) all)
    ∙ ap (λ (r : Option ℕ). passed_first name r (passed_from (map (name_at c.objects) is) (give_back_effect name s).state)) (sym (first-tied s c o name i tie this))
  where
    name : List ℕ
    name = name_at c.objects i

    by_first : (r : Option ℕ) → map (named_pass c.objects) (pairs_from is (pass_edit i o)) ≡ passed_from (map (name_at c.objects) is) (give_back_effect (name_at c.objects i) s).state
        → map (named_pass c.objects) (cons_option (pair_first i r) (pairs_from is (pass_edit i o))) ≡ passed_first (name_at c.objects i) r (passed_from (map (name_at c.objects) is) (give_back_effect (name_at c.objects i) s).state)
    by_first None rest = rest
    by_first (Some t) rest = ap (λ (ps : List Passed). record { mutex = name_at c.objects i; thread = t } ∷ ps) rest

pub named-end : (c : ClassObjects) (s : State) (o : Ownership) (t : ℕ) → StandsFor s c o → map (named_pass c.objects) (map pair_of (passes_of t o)) ≡ passed_at_end t s
named-end c s o t tie =
    named-from c (owned_in o t) (withdrawn_state s t) (with_member o t None) (stands-withdrawn s c o t tie)
    (all-numbered c.objects (owned_in o t) tie.owned.sound.names tie.owned.sound.numbers (owned-there c.objects t o.taken tie.owned.taken))
    ∙ ap (λ (names : List (List ℕ)). passed_from names (withdrawn_state s t)) (sym (mutexes-tied s c o t tie))

-- who waits, waits for a mutex
pub waits-some : (m : Option Member) → waits m ≡ true → (i : ℕ) × (option_map (λ (w : MutexWait). w.mutex) (option_and_then (λ (x : Member). x.wait) m) ≡ Some i)
waits-some None e = absurd (false≢true e)
waits-some (Some m) e = by_wait m.wait e
  where
    by_wait : (w : Option MutexWait) → waits (Some (record { base = 0; wait = w })) ≡ true → (i : ℕ) × (option_map (λ (x : MutexWait). x.mutex) w ≡ Some i)
    by_wait None f = absurd (false≢true f)
    by_wait (Some w) f = (w.mutex, refl)

-- the pass at a place, and those behind it
pub split : (ps : List (ℕ × ℕ)) (i : ℕ) (p : ℕ × ℕ) → i < length ps → map (λ (q : ℕ × ℕ). q.1) (drop i ps) ≡ (get_or ps i p).1 ∷ map (λ (q : ℕ × ℕ). q.1) (drop (i + 1) ps)
split ps i p low =
    ap (map (λ (q : ℕ × ℕ). q.1)) (drop-cons ps i p low)
    ∙ ap (λ n. (get_or ps i p).1 ∷ map (λ (q : ℕ × ℕ). q.1) (drop n ps)) (sym (add-one i))

-- a search goes on behind a place, where it doesn't end there
pub find-on : (xs : List Object) (i place : ℕ) (x : Object) → slice_get xs place ≡ Some x → find (λ (y : Object). y.no == i) (drop place xs) ≡ cond (x.no == i) (Some x) (find (λ (y : Object). y.no == i) (drop (suc place) xs))
find-on [] i place x e = absurd (none-some x e)
find-on (y ∷ ys) i zero x e = ap (λ (z : Object). cond (z.no == i) (Some z) (find (λ (w : Object). w.no == i) ys)) (same_Some y x e)
find-on (y ∷ ys) i (suc place) x e = find-on ys i place x e

-- the name of a number that is there
pub name-here : (xs : List Object) (i place : ℕ) (x : Object) → slice_get xs place ≡ Some x → find (λ (y : Object). y.no == i) (drop place xs) ≡ find (λ (y : Object). y.no == i) xs → (x.no == i) ≡ true → x.name ≡ name_at xs i
name-here xs i place x e so same = ap name_or (sym (sym so ∙ find-on xs i place x e ∙ ap (λ d. cond d (Some x) (find (λ (y : Object). y.no == i) (drop (suc place) xs))) same))

pub find-behind : (xs : List Object) (i place : ℕ) (x : Object) → slice_get xs place ≡ Some x → find (λ (y : Object). y.no == i) (drop place xs) ≡ find (λ (y : Object). y.no == i) xs → (x.no == i) ≡ false → find (λ (y : Object). y.no == i) (drop (place + 1) xs) ≡ find (λ (y : Object). y.no == i) xs
find-behind xs i place x e so other =
    ap (λ n. find (λ (y : Object). y.no == i) (drop n xs)) (add-one place)
    ∙ sym (find-on xs i place x e ∙ ap (λ d. cond d (Some x) (find (λ (y : Object). y.no == i) (drop (suc place) xs))) other)
    ∙ so

-- a number that is there is found
found-some : (xs : List Object) (i : ℕ) → has_number xs i ≡ true → find (λ (y : Object). y.no == i) xs ≡ None → ⊥
found-some [] i has none = false≢true has
found-some (x ∷ xs) i has none = by_test (x.no == i) has none (found-some xs i)
  where
    by_test : (d : Bool) → d || has_number xs i ≡ true → cond d (Some x) (find (λ (y : Object). y.no == i) xs) ≡ None → (has_number xs i ≡ true → find (λ (y : Object). y.no == i) xs ≡ None → ⊥) → ⊥
    by_test true all gone rest = none-some x (sym gone)
    by_test false all gone rest = rest all gone

drop-past : (xs : List Object) (place : ℕ) → length xs ≤ place → drop place xs ≡ []
drop-past [] zero past = refl
drop-past [] (suc place) past = refl
drop-past (x ∷ xs) zero past = absurd (omega (arith, past))
drop-past (x ∷ xs) (suc place) past = drop-past xs place (omega (arith, past))

pub found-before : (xs : List Object) (i place : ℕ) → has_number xs i ≡ true → find (λ (y : Object). y.no == i) (drop place xs) ≡ find (λ (y : Object). y.no == i) xs → length xs ≤ place → ⊥
found-before xs i place has so past = found-some xs i has (sym so ∙ ap (find (λ (y : Object). y.no == i)) (drop-past xs place past))
