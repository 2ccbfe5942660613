-- The graph goes on standing for the state, edit by edit.
use Rattle.std.proofs.Common.{ℕ, ◌≡◌, List, [], ◌∷◌, Option, Some, None, Bool, true, false, not, cond, refl, sym, ap, ◌∙◌, subst, eqb, map, is_some, slice_index_or}
use Rattle.std.specs.Prelude.{filter, All, slice_set, ◌==◌, if◌then◌else◌}
use Rattle.std.specs.Option.{option_map}
use Rattle.std.specs.Str.{bytes_eq}
use Rattle.std.proofs.lemmas.List.{map-set}
use Rattle.std.proofs.lemmas.List.Elements.{All-head, All-tail, All-cons, All-filter}
use Rattle.std.proofs.lemmas.List.Kept.{AllPairs-cons, AllPairs-filter}
use Rattle.rt_plain.specs.declared.stmt.Call.{Call}
use Rattle.rt_plain.specs.kernel.State.{State, Thread, Stage, Waiting, InCall, Holding, no_thread, thread_at, is_closed, is_number}
use Rattle.rt_plain.specs.kernel.Effects.{waiting_state}
use Rattle.rt_plain.specs.kernel.Owners.{with_owner, without_owner}
use Rattle.rt_plain.specs.kernel.Ownership.{Ownership, Member, MutexWait, Taken, member_at, with_member, with_wait, wait_edit, with_mutex_free, with_mutex_got}
use Rattle.rt_plain.proofs.kernel.TallyLemmas.{same-set}
use Rattle.object_box.specs.declared.object.Object.{Object}
use Rattle.object_box.specs.Objects.{ClassObjects, has_number, number_of}
use Rattle.mutex_chain.proofs.OwnerLemmas.{Apart, others, others_apart}
use Rattle.mutex_tie.specs.Tie.{plain_holding, plain_holdings, member_of, wait_in, wait_for, name_at, knows_mutex, IsGraphOf, StandsFor}
use Rattle.mutex_tie.proofs.NameLemmas.{name-is, number-there, number-name}
use Rattle.mutex_tie.proofs.HoldingLemmas.{member-tied}
use Rattle.std.proofs.Math.Seq.{map-set_same}

-- a row is written, and each awaited mutex is still there
kept-known : (xs : List Object) (threads : List Thread) (t : ℕ) (row : Thread) → ((u : ℕ) → knows_mutex xs (slice_index_or threads u no_thread).stage ≡ true) → knows_mutex xs row.stage ≡ true
    → (u : ℕ) → knows_mutex xs (slice_index_or (slice_set threads t row) u no_thread).stage ≡ true
kept-known xs threads t row known is u = same-set (λ (r : Thread). knows_mutex xs r.stage) threads t u row no_thread (is ∙ sym (known t)) ∙ known u

-- a row of a thread is written
pub owned-row : (threads : List Thread) (c : ClassObjects) (o : Ownership) (t : ℕ) (row : Thread) → IsGraphOf threads c o → knows_mutex c.objects row.stage ≡ true → IsGraphOf (slice_set threads t row) c (with_member o t (member_of c.objects row))
owned-row threads c o t row tied is = record {
  members = ap (λ (ms : List (Option Member)). slice_set ms t (member_of c.objects row)) tied.members ∙ sym (map-set (member_of c.objects) threads t row);
  places = tied.places;
  sound = tied.sound;
  there = tied.there;
  taken = tied.taken;
  once = tied.once;
  known = kept-known c.objects threads t row tied.known is;
}

-- nobody owns a mutex
pub owned-free : (threads : List Thread) (c : ClassObjects) (o : Ownership) (i : ℕ) → IsGraphOf threads c o → IsGraphOf threads c (with_mutex_free i o)
owned-free threads c o i tied = record {
  members = tied.members;
  places = tied.places;
  sound = tied.sound;
  there = tied.there;
  taken = All-filter (λ (h : Taken). not (h.mutex == i)) (λ (h : Taken). has_number c.objects h.mutex ≡ true) o.taken tied.taken;
  once = AllPairs-filter Apart (λ (h : Taken). not (h.mutex == i)) o.taken tied.once;
  known = tied.known;
}

-- a thread gets a mutex that is there
pub owned-got : (threads : List Thread) (c : ClassObjects) (o : Ownership) (i t : ℕ) → IsGraphOf threads c o → has_number c.objects i ≡ true → IsGraphOf threads c (with_mutex_got i t o)
owned-got threads c o i t tied there =
    let free : IsGraphOf threads c (with_mutex_free i o) = owned-free threads c o i tied in
    let row : Taken = record { mutex = i; owner = t; hold = 1 } in
    record {
      members = tied.members;
      places = tied.places;
      sound = tied.sound;
      there = tied.there;
      taken = All-cons (λ (h : Taken). has_number c.objects h.mutex ≡ true) row (others i o.taken) there free.taken;
      once = AllPairs-cons Apart row (others i o.taken) (others_apart i o.taken) free.once;
      known = tied.known;
    }

-- the holdings but for those of a mutex, by its name and by its number
seen-others : (xs : List Object) (hs : List Taken) (name : List ℕ) (i : ℕ) → ((m : ℕ) → has_number xs m ≡ true → bytes_eq (name_at xs m) name ≡ eqb m i) → All (λ (h : Taken). has_number xs h.mutex ≡ true) hs
    → filter (λ (h : Holding). not (bytes_eq h.mutex name)) (map (plain_holding xs) hs) ≡ map (plain_holding xs) (others i hs)
seen-others xs [] name i same all = refl
seen-others xs (h ∷ hs) name i same all =
    ap (λ c. cond (not c) (plain_holding xs h ∷ filter (λ (k : Holding). not (bytes_eq k.mutex name)) (map (plain_holding xs) hs)) (filter (λ (k : Holding). not (bytes_eq k.mutex name)) (map (plain_holding xs) hs)))
    (same h.mutex (All-head (λ (k : Taken). has_number xs k.mutex ≡ true) h hs all))
    ∙ by_test (eqb h.mutex i) (seen-others xs hs name i same (All-tail (λ (k : Taken). has_number xs k.mutex ≡ true) h hs all))
  where
    by_test : (c : Bool) → filter (λ (k : Holding). not (bytes_eq k.mutex name)) (map (plain_holding xs) hs) ≡ map (plain_holding xs) (others i hs)
        → cond (not c) (plain_holding xs h ∷ filter (λ (k : Holding). not (bytes_eq k.mutex name)) (map (plain_holding xs) hs)) (filter (λ (k : Holding). not (bytes_eq k.mutex name)) (map (plain_holding xs) hs))
        ≡ map (plain_holding xs) (cond (not c) (h ∷ others i hs) (others i hs))
    by_test true rest = rest
    by_test false rest = ap (λ ks. plain_holding xs h ∷ ks) rest

free-holdings : (s : State) (c : ClassObjects) (o : Ownership) (name : List ℕ) (i : ℕ) → StandsFor s c o → number_of c.objects name ≡ Some i → (without_owner s name).holdings ≡ plain_holdings c.objects (with_mutex_free i o)
free-holdings s c o name i tie is =
    ap (filter (λ (h : Holding). not (bytes_eq h.mutex name))) tie.holdings
    ∙ seen-others c.objects o.taken name i (λ m has. name-is c.objects m name tie.owned.sound.names tie.owned.sound.numbers has ∙ ap (is_number m) is) tie.owned.taken

-- the end of an ownership
pub stands-free : (s : State) (c : ClassObjects) (o : Ownership) (name : List ℕ) (i : ℕ) → StandsFor s c o → number_of c.objects name ≡ Some i → StandsFor (without_owner s name) c (with_mutex_free i o)
stands-free s c o name i tie is = record { owned = owned-free s.threads c o i tie.owned; mutexes = tie.mutexes; holdings = free-holdings s c o name i tie is }

-- a mutex is got
pub stands-got : (s : State) (c : ClassObjects) (o : Ownership) (name : List ℕ) (i t : ℕ) → StandsFor s c o → number_of c.objects name ≡ Some i → StandsFor (with_owner s name t) c (with_mutex_got i t o)
stands-got s c o name i t tie is = record {
  owned = owned-got s.threads c o i t tie.owned (number-there c.objects name i is);
  mutexes = tie.mutexes;
  holdings = ap (λ (hs : List Holding). record { mutex = name; owner = t; hold = 1 } ∷ hs) (free-holdings s c o name i tie is)
      ∙ ap (λ (n : List ℕ). record { mutex = n; owner = t; hold = 1 } ∷ plain_holdings c.objects (with_mutex_free i o)) (sym (number-name c.objects name i tie.owned.sound.names tie.owned.sound.numbers is));
}

-- a row of a thread is written, in the state
pub stands-row : (s after : State) (c : ClassObjects) (o : Ownership) (t : ℕ) (row : Thread) → StandsFor s c o → knows_mutex c.objects row.stage ≡ true → after.threads ≡ slice_set s.threads t row → after.mutexes ≡ s.mutexes → after.holdings ≡ s.holdings → StandsFor after c (with_member o t (member_of c.objects row))
stands-row s after c o t row tie is threads mutexes holdings = record {
  owned = subst (λ (ts : List Thread). IsGraphOf ts c (with_member o t (member_of c.objects row))) (sym threads) (owned-row s.threads c o t row tie.owned is);
  mutexes = mutexes ∙ tie.mutexes;
  holdings = holdings ∙ tie.holdings;
}

abbrev made_with : ℕ → ℕ → Option ℕ → Option Member
made_with base number n = Some (record { base = base; wait = wait_for number n })

abbrev pub member_if : Bool → List Object → Thread → Option Member
member_if d xs row = if d then None else Some (record { base = row.base; wait = wait_in xs row.stage })

-- a thread that hasn't ended waits on a mutex
pub stands-waits : (s : State) (c : ClassObjects) (o : Ownership) (name : List ℕ) (i t : ℕ) (timeout due : Option ℕ) → StandsFor s c o → number_of c.objects name ≡ Some i → is_closed (thread_at s t).stage ≡ false
    → StandsFor (waiting_state s t (InCall (Call.MutexTake name timeout)) due) c (wait_edit t i s.numbers o)
stands-waits s c o name i t timeout due tie is live =
    subst (λ (m : Option Member). StandsFor (waiting_state s t (InCall (Call.MutexTake name timeout)) due) c (with_member o t m)) same (by_due due)
  where
    row : Thread
    row = record (thread_at s t) { stage = Waiting (InCall (Call.MutexTake name timeout)) s.numbers }

    new : MutexWait
    new = record { mutex = i; number = s.numbers }

    by_due : (d : Option ℕ) → StandsFor (waiting_state s t (InCall (Call.MutexTake name timeout)) d) c (with_member o t (member_of c.objects row))
    by_due None = stands-row s (waiting_state s t (InCall (Call.MutexTake name timeout)) None) c o t row tie (ap is_some is) refl refl refl
    by_due (Some n) = stands-row s (waiting_state s t (InCall (Call.MutexTake name timeout)) (Some n)) c o t row tie (ap is_some is) refl refl refl

    same : member_of c.objects row ≡ option_map (with_wait (Some new)) (member_at o t)
    same =
        ap (λ (n : Option ℕ). made_with (thread_at s t).base s.numbers n) is
        ∙ sym (ap (option_map (with_wait (Some new))) (member-tied s c o t tie)
        ∙ ap (λ d. option_map (with_wait (Some new)) (member_if d c.objects (thread_at s t))) live)

abbrev member_by : List Object → ℕ → Stage → Option Member
member_by xs base stage = if is_closed stage then None else Some (record { base = base; wait = wait_in xs stage })

-- the graph sees the base and the stage of a row
member-same : (xs : List Object) (row old : Thread) → row.base ≡ old.base → row.stage ≡ old.stage → member_of xs row ≡ member_of xs old
member-same xs row old base stage = ap (λ b. member_by xs b row.stage) base ∙ ap (member_by xs old.base) stage

-- a row is written that the graph doesn't see
pub stands-kept : (s after : State) (c : ClassObjects) (o : Ownership) (t : ℕ) (row : Thread) → StandsFor s c o → row.base ≡ (thread_at s t).base → row.stage ≡ (thread_at s t).stage
    → after.threads ≡ slice_set s.threads t row → after.mutexes ≡ s.mutexes → after.holdings ≡ s.holdings → StandsFor after c o
stands-kept s after c o t row tie base stage threads mutexes holdings = record {
  owned = record {
    members = tie.owned.members ∙ sym (map-set_same (member_of c.objects) s.threads t row no_thread (member-same c.objects row (thread_at s t) base stage)) ∙ sym (ap (λ (ts : List Thread). map (member_of c.objects) ts) threads);
    places = tie.owned.places;
    sound = tie.owned.sound;
    there = tie.owned.there;
    taken = tie.owned.taken;
    once = tie.owned.once;
    known = λ u. ap (λ (ts : List Thread). knows_mutex c.objects (slice_index_or ts u no_thread).stage) threads ∙ same-set (λ (r : Thread). knows_mutex c.objects r.stage) s.threads t u row no_thread (ap (knows_mutex c.objects) stage) ∙ tie.owned.known u;
  };
  mutexes = mutexes ∙ tie.mutexes;
  holdings = holdings ∙ tie.holdings;
}

pub stage-kept : (rows : List Thread) (t u : ℕ) (row : Thread) → row.stage ≡ (slice_index_or rows t no_thread).stage → (slice_index_or (slice_set rows t row) u no_thread).stage ≡ (slice_index_or rows u no_thread).stage
stage-kept rows t u row same = same-set (λ (r : Thread). r.stage) rows t u row no_thread same
