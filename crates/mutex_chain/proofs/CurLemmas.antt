-- Current priorities by the tables.
use Rattle.std.proofs.Common.{ℕ, ◌≡◌, ◌+◌, ◌<◌, ◌≤◌, zero, suc, List, [], ◌∷◌, length, map, get_or, Bool, true, false, cond, Option, Some, None, refl, sym, ap, ◌∙◌, arith, ◌⊎◌, inl, inr}
use Rattle.std.specs.Prelude.{All, ◌==◌}
use Rattle.std.specs.List.{range_with_len, find}
use Rattle.std.specs.Option.{IfSome, option_map, option_and_then}
use Rattle.std.proofs.lemmas.List.Elements.{All-head, All-tail}
use Rattle.std.proofs.lemmas.List.{get_or_past}
use Rattle.std.proofs.lemmas.Bool.{cases_lt}
use Rattle.std.proofs.lemmas.Option.{none-some}
use Rattle.rt_plain.specs.kernel.Priority.{blocker_of, urgency_of}
use Rattle.rt_plain.specs.kernel.Ownership.{Ownership, Member, MutexWait, Taken, member_at, member_urgency, taken_of, owner_in, awaited_in, graph_in, cur_in}
use Rattle.mutex_chain.specs.Owners.{IsSound, blocker_in}
use Rattle.mutex_chain.specs.Walks.{curs_of}

pub map_range_at : {X : Type 0} (f : ℕ → X) (a n i : ℕ) (d : X) → i < n → get_or (map f (range_with_len a n)) i d ≡ f (a + i)
map_range_at f a zero i d h = absurd (omega arith)
map_range_at f a (suc n) zero d h = let e : a ≡ a + 0 = omega arith in ap f e
map_range_at f a (suc n) (suc i) d h = let e : a + 1 + i ≡ a + suc i = omega arith in map_range_at f (a + 1) n i d (omega arith) ∙ ap f e

pub length-map_range : {X : Type 0} (f : ℕ → X) (a n : ℕ) → length (map f (range_with_len a n)) ≡ n
length-map_range f a zero = refl
length-map_range f a (suc n) = let e : length (map f (range_with_len (a + 1) n)) ≡ n = length-map_range f (a + 1) n in omega arith

-- what is found among rows has what all of them have
pub found : (P : Taken → Type 0) (p : Taken → Bool) (hs : List Taken) (h : Taken) → All P hs → find p hs ≡ Some h → P h
found P p [] h all e = absurd (none-some h e)
found P p (k ∷ ks) h all e = by_test (p k) e (All-head P k ks all) (found P p ks h (All-tail P k ks all))
  where
    by_test : (b : Bool) → cond b (Some k) (find p ks) ≡ Some h → P k → (find p ks ≡ Some h → P h) → P h
    by_test true e at rest = let same : k ≡ h = cc in rw (← same) at
    by_test false e at rest = rest e

pub found_has : (P : Taken → Type 0) (p : Taken → Bool) (hs : List Taken) → All P hs → IfSome (find p hs) P
found_has P p hs all = by_row (find p hs) refl
  where
    by_row : (r : Option Taken) → find p hs ≡ r → IfSome r P
    by_row None e = tt
    by_row (Some h) e = found P p hs h all e

-- no owner of an awaited mutex stands outside the table
pub owner_within : (o : Ownership) (m b : ℕ) → IsSound o → owner_in o m ≡ Some b → b < length o.members
owner_within o m b s e = by_row (taken_of o m) refl e
  where
    by_row : (r : Option Taken) → taken_of o m ≡ r → option_map (λ (h : Taken). h.owner) r ≡ Some b → b < length o.members
    by_row None at e = absurd (none-some b e)
    by_row (Some h) at e =
        let within : h.owner < length o.members = found (λ (h : Taken). h.owner < length o.members) (λ (h : Taken). h.mutex == m) o.taken h s.owners at in
        let same : h.owner ≡ b = cc in
        omega arith

pub blocker_within : (o : Ownership) (x b : ℕ) → IsSound o → blocker_in o x ≡ Some b → b < length o.members
blocker_within o x b s e = by_mutex (awaited_in o x) e
  where
    by_mutex : (m : Option ℕ) → option_and_then (owner_in o) m ≡ Some b → b < length o.members
    by_mutex None e = absurd (none-some b e)
    by_mutex (Some m) e = owner_within o m b s e

abbrev pub awaited_by : Option Member → Option ℕ
awaited_by m = option_map (λ (w : MutexWait). w.mutex) (option_and_then (λ (m : Member). m.wait) m)

pub blocker_same : (o : Ownership) (t : ℕ) → blocker_of (graph_in o) t ≡ blocker_in o t
blocker_same o t = by_size (cases_lt t (length o.members))
  where
    by_size : (t < length o.members) ⊎ (length o.members ≤ t) → blocker_of (graph_in o) t ≡ blocker_in o t
    by_size (inl h) = let e : 0 + t ≡ t = omega arith in map_range_at (blocker_in o) 0 (length o.members) t None h ∙ ap (blocker_in o) e
    by_size (inr h) =
        let none : member_at o t ≡ None = get_or_past o.members t None h in
        let long : length (graph_in o).blockers ≡ length o.members = length-map_range (blocker_in o) 0 (length o.members) in
        get_or_past (graph_in o).blockers t None (omega arith) ∙ sym (ap (λ m. option_and_then (owner_in o) (awaited_by m)) none)

pub graph_urgency : (o : Ownership) (t : ℕ) → t < length o.members → urgency_of (graph_in o) t ≡ member_urgency o t
graph_urgency o t h = let e : 0 + t ≡ t = omega arith in map_range_at (member_urgency o) 0 (length o.members) t 0 h ∙ ap (member_urgency o) e

pub cur_at : (o : Ownership) (t : ℕ) → t < length o.members → get_or (curs_of o) t 0 ≡ cur_in o t
unfolding curs_of
cur_at o t h = let e : 0 + t ≡ t = omega arith in map_range_at (cur_in o) 0 (length o.members) t 0 h ∙ ap (cur_in o) e

pub length-curs : (o : Ownership) → length (curs_of o) ≡ length o.members
unfolding curs_of
length-curs o = length-map_range (cur_in o) 0 (length o.members)
