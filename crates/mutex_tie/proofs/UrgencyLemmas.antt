-- A thread's own urgency, by names as by numbers.
use Rattle.std.proofs.Common.{ℕ, ◌≡◌, ◌≢◌, List, [], ◌∷◌, Option, Some, None, Bool, true, false, cond, ◌||◌, ◌&&◌, refl, sym, ap, ◌∙◌, eqb, map}
use Rattle.std.specs.Prelude.{filter, find, All, slice_index_or, if◌then◌else◌}
use Rattle.std.specs.List.{AllByRecursion, list_any}
use Rattle.std.specs.Option.{option_map}
use Rattle.std.specs.Str.{bytes_eq}
use Rattle.std.proofs.lemmas.Bool.{false≢true}
use Rattle.std.proofs.lemmas.List.Elements.{All-head, All-tail}
use Rattle.std.proofs.lemmas.Slice.Eq.{bytes_eq-Decides}
use Rattle.rt_plain.specs.kernel.State.{State, Thread, Mutex, Holding, thread_at, is_closed, is_number}
use Rattle.rt_plain.specs.kernel.Priority.{least, is_owned_by, ceilings_of, own_urgency}
use Rattle.rt_plain.specs.kernel.Ownership.{Ownership, Taken, base_of, member_urgency}
use Rattle.object_box.specs.declared.object.Object.{Object}
use Rattle.object_box.specs.Objects.{ClassObjects, has_number, number_of}
use Rattle.mutex_chain.specs.Owners.{is_ceiling}
use Rattle.mutex_tie.specs.Tie.{plain_mutex, plain_holding, member_of, wait_in, ceiling_or, StandsFor}
use Rattle.mutex_tie.proofs.NameLemmas.{NamesApart, NumbersApart, name-is, pairs-head, pairs-tail, bytes-apart}
use Rattle.mutex_tie.proofs.CeilingLemmas.{owns, object_ceilings, taken_ceilings, least-owned}
use Rattle.mutex_tie.proofs.HoldingLemmas.{HasObjects, member-tied}

-- the ceilings that a thread owns

abbrev pub OwnNumber : List Object → Object → Type 0
OwnNumber xs y = number_of xs y.name ≡ Some y.no

own-later : (x : Object) (xs ys : List Object) → All (λ (y : Object). x.name ≢ y.name) ys → AllByRecursion (OwnNumber xs) ys → AllByRecursion (OwnNumber (x ∷ xs)) ys
own-later x xs [] apart own = tt
own-later x xs (y ∷ ys) apart (this, own) = (
  ap (λ c. option_map (λ (z : Object). z.no) (cond c (Some x) (find (λ (z : Object). bytes_eq z.name y.name) xs))) (bytes-apart x.name y.name (All-head (λ (z : Object). x.name ≢ z.name) y ys apart)) ∙ this,
  own-later x xs ys (All-tail (λ (z : Object). x.name ≢ z.name) y ys apart) own,
)

pub own-numbers : (xs : List Object) → NamesApart xs → AllByRecursion (OwnNumber xs) xs
own-numbers [] names = tt
own-numbers (x ∷ xs) names = (
  ap (λ c. option_map (λ (z : Object). z.no) (cond c (Some x) (find (λ (z : Object). bytes_eq z.name x.name) xs))) ((bytes_eq-Decides x.name x.name).1 refl),
  own-later x xs xs (pairs-head (λ (a b : Object). a.name ≢ b.name) x xs names) (own-numbers xs (pairs-tail (λ (a b : Object). a.name ≢ b.name) x xs names)),
)

owned-seen : (xs : List Object) (t : ℕ) (y : Object) (hs : List Taken) → NamesApart xs → NumbersApart xs → OwnNumber xs y → HasObjects xs hs
    → list_any (λ (h : Holding). bytes_eq h.mutex y.name && eqb h.owner t) (map (plain_holding xs) hs) ≡ owns hs t y.no
owned-seen xs t y [] names numbers own all = refl
owned-seen xs t y (h ∷ hs) names numbers own all =
    ap (λ c. (c && eqb h.owner t) || list_any (λ (k : Holding). bytes_eq k.mutex y.name && eqb k.owner t) (map (plain_holding xs) hs))
    (name-is xs h.mutex y.name names numbers (All-head (λ (k : Taken). has_number xs k.mutex ≡ true) h hs all) ∙ ap (is_number h.mutex) own)
    ∙ ap (λ c. (eqb h.mutex y.no && eqb h.owner t) || c) (owned-seen xs t y hs names numbers own (All-tail (λ (k : Taken). has_number xs k.mutex ≡ true) h hs all))

abbrev ceiling_number : List (Option ℕ) → ℕ → ℕ
ceiling_number cs m = ceiling_or (slice_index_or cs m None)

ceilings-seen : (owned : Mutex → Bool) (has : ℕ → Bool) (cs : List (Option ℕ)) (ys : List Object) → AllByRecursion (λ (y : Object). owned (plain_mutex cs y) ≡ has y.no) ys
    → map (λ (m : Mutex). m.ceiling) (filter owned (map (plain_mutex cs) ys)) ≡ object_ceilings (ceiling_number cs) has ys
ceilings-seen owned has cs [] same = refl
ceilings-seen owned has cs (y ∷ ys) (this, same) =
    ap (λ c. map (λ (m : Mutex). m.ceiling) (cond c (plain_mutex cs y ∷ filter owned (map (plain_mutex cs) ys)) (filter owned (map (plain_mutex cs) ys)))) this
    ∙ by_test (has y.no) (ceilings-seen owned has cs ys same)
  where
    by_test : (c : Bool) → map (λ (m : Mutex). m.ceiling) (filter owned (map (plain_mutex cs) ys)) ≡ object_ceilings (ceiling_number cs) has ys
        → map (λ (m : Mutex). m.ceiling) (cond c (plain_mutex cs y ∷ filter owned (map (plain_mutex cs) ys)) (filter owned (map (plain_mutex cs) ys)))
        ≡ map (λ (z : Object). ceiling_number cs z.no) (cond c (y ∷ filter (λ (z : Object). has z.no) ys) (filter (λ (z : Object). has z.no) ys))
    by_test true rest = ap (λ ns. ceiling_number cs y.no ∷ ns) rest
    by_test false rest = rest

all-owned : (xs : List Object) (t : ℕ) (hs : List Taken) (cs : List (Option ℕ)) (owned : Mutex → Bool) → ((y : Object) → OwnNumber xs y → owned (plain_mutex cs y) ≡ owns hs t y.no)
    → (ys : List Object) → AllByRecursion (OwnNumber xs) ys → AllByRecursion (λ (y : Object). owned (plain_mutex cs y) ≡ owns hs t y.no) ys
all-owned xs t hs cs owned each [] own = tt
all-owned xs t hs cs owned each (y ∷ ys) (this, own) = (each y this, all-owned xs t hs cs owned each ys own)

pub ceilings-tied : (s : State) (c : ClassObjects) (o : Ownership) (t : ℕ) → StandsFor s c o → ceilings_of s t ≡ object_ceilings (ceiling_number o.ceilings) (owns o.taken t) c.objects
ceilings-tied s c o t tie =
    ap (λ (ms : List Mutex). map (λ (m : Mutex). m.ceiling) (filter (is_owned_by s t) ms)) tie.mutexes
    ∙ ceilings-seen (is_owned_by s t) (owns o.taken t) o.ceilings c.objects
    (all-owned c.objects t o.taken o.ceilings (is_owned_by s t) each c.objects (own-numbers c.objects tie.owned.sound.names))
  where
    each : (y : Object) → OwnNumber c.objects y → is_owned_by s t (plain_mutex o.ceilings y) ≡ owns o.taken t y.no
    each y own =
        ap (list_any (λ (h : Holding). bytes_eq h.mutex y.name && eqb h.owner t)) tie.holdings
        ∙ owned-seen c.objects t y o.taken tie.owned.sound.names tie.owned.sound.numbers own tie.owned.taken

some-ceiling : (r : Option ℕ) → is_ceiling r ≡ true → r ≡ Some (ceiling_or r)
some-ceiling None is = absurd (false≢true is)
some-ceiling (Some n) is = refl

live-base : (xs : List Object) (row : Thread) → is_closed row.stage ≡ false → base_of (member_of xs row) ≡ row.base
live-base xs row is = ap (λ d. base_of (if d then None else Some (record { base = row.base; wait = wait_in xs row.stage }))) is

-- a thread's own urgency
pub urgency-tied : (s : State) (c : ClassObjects) (o : Ownership) (t : ℕ) → StandsFor s c o → is_closed (thread_at s t).stage ≡ false → own_urgency s t ≡ member_urgency o t
urgency-tied s c o t tie is =
    ap (least (thread_at s t).base) (ceilings-tied s c o t tie)
    ∙ least-owned (thread_at s t).base t (ceiling_number o.ceilings) (λ m. slice_index_or o.ceilings m None) c.objects o.taken tie.owned.taken (λ m has. some-ceiling (slice_index_or o.ceilings m None) (tie.owned.there m ∙ has))
    ∙ ap (λ n. least n (taken_ceilings (λ m. slice_index_or o.ceilings m None) t o.taken)) (sym (ap base_of (member-tied s c o t tie) ∙ live-base c.objects (thread_at s t) is))
