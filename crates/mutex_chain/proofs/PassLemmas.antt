-- The mutexes of a thread that is gone pass one after the other.
use Rattle.std.proofs.Common.{ℕ, ◌≡◌, ◌+◌, ◌<◌, ◌≤◌, zero, suc, List, [], ◌∷◌, ◌++◌, length, map, get_or, drop, Bool, true, false, not, cond, Option, Some, None, refl, sym, ap, ◌∙◌, arith, append_assoc}
use Rattle.std.specs.Prelude.{filter, slice_set, All, ◌==◌}
use Rattle.std.specs.List.{filter_map, AllPairs, find}
use Rattle.std.specs.Option.{IfSome, option_map, option_and_then}
use Rattle.std.proofs.Math.ListN.{length-set}
use Rattle.std.proofs.lemmas.Option.{none-some}
use Rattle.std.proofs.lemmas.Bool.{eq-eqb, ne_eqb, false≢true}
use Rattle.std.proofs.lemmas.List.{length_push}
use Rattle.std.proofs.lemmas.List.Kept.{AllPairs-filter}
use Rattle.rt_base.specs.declared.codes.WaitOrder.{WaitOrder}
use Rattle.rt_plain.specs.kernel.Waiting.{Waiter, head_of, in_order}
use Rattle.rt_plain.specs.kernel.Ownership.{Ownership, Member, MutexWait, Taken, Pass, member_at, is_there, wait_row, owned_in, first_in, with_wait, pass_edit_to, pass_edit, pass_edits, passes_from, wait_rows_in}
use Rattle.mutex_chain.specs.Owners.{IsSound, has_thread}
use Rattle.mutex_chain.specs.Graph.{PassList, pair_of, passed_to, row_in}
use Rattle.mutex_chain.proofs.OwnerLemmas.{Apart, others, others_same, apart_head}
use Rattle.mutex_chain.proofs.CurLemmas.{found_has}
use Rattle.mutex_chain.proofs.KeepLemmas.{keeps_pass}
use Rattle.mutex_chain.proofs.LineLemmas.{AreRows, rows_are}

abbrev has_wait : Option MutexWait → Bool
has_wait None = false
has_wait (Some w) = true

-- whether it is the row of a thread that waits
abbrev pub waits : Option Member → Bool
waits None = false
waits (Some m) = has_wait m.wait

pub waits_there : (m : Option Member) → waits m ≡ true → is_there m ≡ true
waits_there None h = h
waits_there (Some m) h = refl

pub find_head : (t : ℕ) (hs : List Taken) → option_map (λ (h : Taken). h.mutex) (find (λ h. h.owner == t) hs) ≡ head_of (map (λ h. h.mutex) (filter (λ h. h.owner == t) hs))
find_head t [] = refl
find_head t (h ∷ hs) = by_test (h.owner == t) (find_head t hs)
  where
    by_test : (b : Bool) → option_map (λ (h : Taken). h.mutex) (find (λ h. h.owner == t) hs) ≡ head_of (map (λ h. h.mutex) (filter (λ h. h.owner == t) hs))
        → option_map (λ (h : Taken). h.mutex) (cond b (Some h) (find (λ h. h.owner == t) hs)) ≡ head_of (map (λ h. h.mutex) (cond b (h ∷ filter (λ h. h.owner == t) hs) (filter (λ h. h.owner == t) hs)))
    by_test true e = refl
    by_test false e = e

pub mutex_has : (n : ℕ) (p : Taken → Bool) (hs : List Taken) → All (λ h. h.mutex < n) hs → IfSome (option_map (λ (h : Taken). h.mutex) (find p hs)) (λ m. m < n)
mutex_has n p hs all = by_row (find p hs) (found_has (λ (h : Taken). h.mutex < n) p hs all)
  where
    by_row : (r : Option Taken) → IfSome r (λ h. h.mutex < n) → IfSome (option_map (λ (h : Taken). h.mutex) r) (λ m. m < n)
    by_row None k = tt
    by_row (Some h) k = k

pub head_split : (xs : List ℕ) (x : ℕ) → head_of xs ≡ Some x → xs ≡ x ∷ drop 1 xs
head_split [] x e = absurd (none-some x e)
head_split (y ∷ ys) x e = let same : y ≡ x = cc in ap (λ z. z ∷ ys) same

pub head_none : (xs : List ℕ) → head_of xs ≡ None → xs ≡ []
head_none [] e = refl
head_none (y ∷ ys) e = absurd (none-some y (sym e))

filter_swap : (t mutex : ℕ) (hs : List Taken) → filter (λ h. h.owner == t) (others mutex hs) ≡ others mutex (filter (λ h. h.owner == t) hs)
filter_swap t mutex [] = refl
filter_swap t mutex (h ∷ hs) = by_tests (h.owner == t) refl (h.mutex == mutex) refl (filter_swap t mutex hs)
  where
    by_tests : (b : Bool) → (h.owner == t) ≡ b → (c : Bool) → (h.mutex == mutex) ≡ c → filter (λ h. h.owner == t) (others mutex hs) ≡ others mutex (filter (λ h. h.owner == t) hs)
        → filter (λ h. h.owner == t) (cond (not c) (h ∷ others mutex hs) (others mutex hs)) ≡ others mutex (cond b (h ∷ filter (λ h. h.owner == t) hs) (filter (λ h. h.owner == t) hs))
    by_tests true e true f r = r ∙ sym (ap (λ d. cond (not d) (h ∷ others mutex (filter (λ h. h.owner == t) hs)) (others mutex (filter (λ h. h.owner == t) hs))) f)
    by_tests true e false f r =
        ap (λ d. cond d (h ∷ filter (λ h. h.owner == t) (others mutex hs)) (filter (λ h. h.owner == t) (others mutex hs))) e
        ∙ ap (λ l. h ∷ l) r
        ∙ sym (ap (λ d. cond (not d) (h ∷ others mutex (filter (λ h. h.owner == t) hs)) (others mutex (filter (λ h. h.owner == t) hs))) f)
    by_tests false e true f r = r
    by_tests false e false f r = ap (λ d. cond d (h ∷ filter (λ h. h.owner == t) (others mutex hs)) (filter (λ h. h.owner == t) (others mutex hs))) e ∙ r

rest_owned : (mutex : ℕ) (ms : List ℕ) (hs : List Taken) → AllPairs Apart hs → map (λ h. h.mutex) hs ≡ mutex ∷ ms → map (λ h. h.mutex) (others mutex hs) ≡ ms
rest_owned mutex ms [] p e = absurd (no_cons e)
  where
    no_cons : {x : ℕ} {xs : List ℕ} → [] ≡ x ∷ xs → ⊥
    no_cons e = cc
rest_owned mutex ms (h ∷ hs) p e =
    let first : h.mutex ≡ mutex = cc in
    let rest : map (λ h. h.mutex) hs ≡ ms = cc in
    ap (λ b. map (λ (h : Taken). h.mutex) (cond (not b) (h ∷ others mutex hs) (others mutex hs))) (eq-eqb h.mutex mutex first)
    ∙ ap (λ m. map (λ (h : Taken). h.mutex) (others m hs)) (sym first)
    ∙ ap (map (λ (h : Taken). h.mutex)) (others_same h.mutex hs (apart_head h hs p))
    ∙ rest

-- the mutexes that a thread owns, one of them being free
owned_free : (o : Ownership) (t mutex : ℕ) (ms : List ℕ) → AllPairs Apart o.taken → owned_in o t ≡ mutex ∷ ms → map (λ h. h.mutex) (filter (λ h. h.owner == t) (others mutex o.taken)) ≡ ms
owned_free o t mutex ms s e =
    ap (map (λ (h : Taken). h.mutex)) (filter_swap t mutex o.taken)
    ∙ rest_owned mutex ms (filter (λ h. h.owner == t) o.taken) (AllPairs-filter Apart (λ (h : Taken). h.owner == t) o.taken s) e

row_waits : (o : Ownership) (mutex t : ℕ) (w : Waiter) → row_in o mutex t ≡ Some w → waits (member_at o t) ≡ true
row_waits o mutex t w e = by_member (member_at o t) e
  where
    by_wait : (wait : Option MutexWait) → wait_row o mutex t wait ≡ Some w → has_wait wait ≡ true
    by_wait None k = absurd (none-some w k)
    by_wait (Some wait) k = refl

    by_member : (m : Option Member) → wait_row o mutex t (option_and_then (λ (m : Member). m.wait) m) ≡ Some w → waits m ≡ true
    by_member None k = absurd (none-some w k)
    by_member (Some m) k = by_wait m.wait k

-- the first waiter waits
pub first_waits : (o : Ownership) (mutex u : ℕ) → first_in o mutex ≡ Some u → waits (member_at o u) ≡ true
first_waits o mutex u e = by_line (in_order WaitOrder.Prio (wait_rows_in o mutex)) (rows_are o mutex 0 (length o.members)) e
  where
    by_line : (ws : List Waiter) → AreRows o mutex ws → head_of (map (λ w. w.thread) ws) ≡ Some u → waits (member_at o u) ≡ true
    by_line [] rs k = absurd (none-some u k)
    by_line (w ∷ ws) rs k = let same : w.thread ≡ u = cc in row_waits o mutex u w (sym (ap (row_in o mutex) same) ∙ rs.0)

-- who got a mutex isn't a thread that is gone
pub owned_passed : (o : Ownership) (t mutex : ℕ) (ms : List ℕ) (first : Option ℕ) → AllPairs Apart o.taken → has_thread o t ≡ false → first ≡ first_in o mutex → owned_in o t ≡ mutex ∷ ms
    → owned_in (pass_edit_to mutex first o) t ≡ ms
owned_passed o t mutex ms None s gone e at = owned_free o t mutex ms s at
owned_passed o t mutex ms (Some u) s gone e at =
    let there : has_thread o u ≡ true = waits_there (member_at o u) (first_waits o mutex u (sym e)) in
    let row : Taken = record { mutex = mutex; owner = u; hold = 1 } in
    ap (λ b. map (λ (h : Taken). h.mutex) (cond b (row ∷ filter (λ h. h.owner == t) (others mutex o.taken)) (filter (λ h. h.owner == t) (others mutex o.taken))))
    (ne_eqb u t (λ same. false≢true (sym gone ∙ ap (has_thread o) (sym same) ∙ there)))
    ∙ owned_free o t mutex ms s at

left_waits : (m : Option Member) → waits (option_map (with_wait None) m) ≡ false
left_waits None = refl
left_waits (Some m) = refl

-- how many threads wait
abbrev pub waiting : List (Option Member) → ℕ
waiting [] = 0
waiting (m ∷ ms) = cond (waits m) 1 0 + waiting ms

waiting_le : (ms : List (Option Member)) → waiting ms ≤ length ms
waiting_le [] = omega arith
waiting_le (m ∷ ms) = by_test (waits m) (waiting_le ms)
  where
    by_test : (b : Bool) → waiting ms ≤ length ms → cond b 1 0 + waiting ms ≤ length (m ∷ ms)
    by_test true h = omega arith
    by_test false h = omega arith

-- one fewer waits
count_left : (ms : List (Option Member)) (u : ℕ) → waits (get_or ms u None) ≡ true → waiting (slice_set ms u (option_map (with_wait None) (get_or ms u None))) + 1 ≡ waiting ms
count_left [] u h = absurd (false≢true h)
count_left (m ∷ ms) zero h = by_tests (waits (option_map (with_wait None) m)) (left_waits m) (waits m) h
  where
    by_tests : (b : Bool) → b ≡ false → (c : Bool) → c ≡ true → cond b 1 0 + waiting ms + 1 ≡ cond c 1 0 + waiting ms
    by_tests true e c f = absurd (false≢true (sym e))
    by_tests false e true f = omega arith
    by_tests false e false f = absurd (false≢true f)
count_left (m ∷ ms) (suc u) h = omega (arith, count_left ms u h)

-- the passes so far, of a thread that is gone
pub record IsPassing (t : ℕ) (first : Ownership) (empty : PassList) (o : Ownership) (ns : List ℕ) (p : PassList) : Type 0 where
  pub gone : has_thread o t ≡ false
  pub places : length ns ≡ length o.members
  pub size : length o.members ≡ length first.members
  pub mutexes : length o.ceilings ≡ length first.ceilings
  pub owners : pass_edits (owned_in o t) o ≡ pass_edits (owned_in first t) first
  pub passes : p.passes ++ map pair_of (filter_map (λ p. p) (passes_from (owned_in o t) o)) ≡ map pair_of (filter_map (λ p. p) (passes_from (owned_in first t) first))
  pub room : p.threads ≡ empty.threads
  pub few : length p.passes + waiting o.members ≤ length o.members

pub begins : (t : ℕ) (o : Ownership) (ns : List ℕ) (empty : PassList) → has_thread o t ≡ false → length ns ≡ length o.members → IsPassing t o empty o ns (record empty { passes = [] })
begins t o ns empty gone places = record {
  gone = gone;
  places = places;
  size = refl;
  mutexes = refl;
  owners = refl;
  passes = refl;
  room = refl;
  few = omega (arith, waiting_le o.members);
}

pub room_for_pass : (t : ℕ) (first : Ownership) (empty : PassList) (o : Ownership) (ns : List ℕ) (p : PassList) (mutex : ℕ) → IsPassing t first empty o ns p
    → length first.members ≤ empty.threads → IfSome (first_in o mutex) (λ _. length p.passes < p.threads)
room_for_pass t first empty o ns p mutex i room = by_first (first_in o mutex) refl
  where
    by_first : (r : Option ℕ) → first_in o mutex ≡ r → IfSome r (λ _. length p.passes < p.threads)
    by_first None e = tt
    by_first (Some u) e = omega (arith, count_left o.members u (first_waits o mutex u e), i.few, i.size, i.room)

same_mutexes : (mutex : ℕ) (first : Option ℕ) (o : Ownership) → length (pass_edit_to mutex first o).ceilings ≡ length o.ceilings
same_mutexes mutex None o = refl
same_mutexes mutex (Some u) o = refl

pub still_gone : (o : Ownership) (t mutex : ℕ) (first : Option ℕ) → has_thread o t ≡ false → has_thread (pass_edit_to mutex first o) t ≡ false
still_gone o t mutex first gone = by_test (has_thread (pass_edit_to mutex first o) t) ((keeps_pass mutex first o).there t)
  where
    by_test : (b : Bool) → (b ≡ true → has_thread o t ≡ true) → b ≡ false
    by_test true f = absurd (false≢true (sym gone ∙ f refl))
    by_test false f = refl

passes_step : (mutex : ℕ) (first : Option ℕ) (p : PassList) (rest : List (Option Pass)) (all : List (ℕ × ℕ))
    → p.passes ++ map pair_of (filter_map (λ p. p) (option_map (λ t. record { mutex = mutex; thread = t }) first ∷ rest)) ≡ all
    → (passed_to mutex first p).passes ++ map pair_of (filter_map (λ p. p) rest) ≡ all
passes_step mutex None p rest all e = e
passes_step mutex (Some u) p rest all e = append_assoc p.passes ((mutex, u) ∷ []) (map pair_of (filter_map (λ p. p) rest)) ∙ e

passes_room : (mutex : ℕ) (first : Option ℕ) (p : PassList) → (passed_to mutex first p).threads ≡ p.threads
passes_room mutex None p = refl
passes_room mutex (Some u) p = refl

passes_few : (o : Ownership) (mutex : ℕ) (first : Option ℕ) (p : PassList) → first ≡ first_in o mutex → length p.passes + waiting o.members ≤ length o.members
    → length (passed_to mutex first p).passes + waiting (pass_edit_to mutex first o).members ≤ length (pass_edit_to mutex first o).members
passes_few o mutex None p e h = h
passes_few o mutex (Some u) p e h =
    omega (
      arith,
      count_left o.members u (first_waits o mutex u (sym e)),
      length_push p.passes (mutex, u),
      length-set o.members u (option_map (with_wait None) (member_at o u)),
    )

pub passes_on : (t : ℕ) (begin : Ownership) (empty : PassList) (o : Ownership) (ns ms : List ℕ) (p : PassList) (mutex : ℕ) (first : Option ℕ)
    → IsPassing t begin empty o ns p → IsSound o → first ≡ first_in o mutex → head_of (owned_in o t) ≡ Some mutex → length ms ≡ length o.members
    → IsPassing t begin empty (pass_edit_to mutex first o) ms (passed_to mutex first p)
passes_on t begin empty o ns ms p mutex first i s e head long =
    let owned : owned_in o t ≡ mutex ∷ drop 1 (owned_in o t) = head_split (owned_in o t) mutex head in
    let rest : owned_in (pass_edit_to mutex first o) t ≡ drop 1 (owned_in o t) = owned_passed o t mutex (drop 1 (owned_in o t)) first s.once i.gone e owned in
    let edit : pass_edit_to mutex first o ≡ pass_edit mutex o = ap (λ r. pass_edit_to mutex r o) e in
    record {
      gone = still_gone o t mutex first i.gone;
      places = long ∙ (keeps_pass mutex first o).size;
      size = sym (keeps_pass mutex first o).size ∙ i.size;
      mutexes = same_mutexes mutex first o ∙ i.mutexes;
      owners = ap (λ l. pass_edits l (pass_edit_to mutex first o)) rest ∙ ap (pass_edits (drop 1 (owned_in o t))) edit ∙ sym (ap (λ l. pass_edits l o) owned) ∙ i.owners;
      passes = ap (λ l. (passed_to mutex first p).passes ++ map pair_of (filter_map (λ p. p) (passes_from l (pass_edit_to mutex first o)))) rest
          ∙ ap (λ q. (passed_to mutex first p).passes ++ map pair_of (filter_map (λ p. p) (passes_from (drop 1 (owned_in o t)) q))) edit
          ∙ passes_step mutex first p (passes_from (drop 1 (owned_in o t)) (pass_edit mutex o)) (map pair_of (filter_map (λ p. p) (passes_from (owned_in begin t) begin)))
          (ap (λ r. p.passes ++ map pair_of (filter_map (λ p. p) (option_map (λ t. record { mutex = mutex; thread = t }) r ∷ passes_from (drop 1 (owned_in o t)) (pass_edit mutex o)))) e
          ∙ sym (ap (λ l. p.passes ++ map pair_of (filter_map (λ p. p) (passes_from l o))) owned) ∙ i.passes);
      room = passes_room mutex first p ∙ i.room;
      few = passes_few o mutex first p e i.few;
    }

pub fewer_owned : (o : Ownership) (t mutex : ℕ) (first : Option ℕ) → IsSound o → has_thread o t ≡ false → first ≡ first_in o mutex → head_of (owned_in o t) ≡ Some mutex
    → length (owned_in (pass_edit_to mutex first o) t) < length (owned_in o t)
fewer_owned o t mutex first s gone e head =
    let owned : owned_in o t ≡ mutex ∷ drop 1 (owned_in o t) = head_split (owned_in o t) mutex head in
    omega (arith, ap length owned, ap length (owned_passed o t mutex (drop 1 (owned_in o t)) first s.once gone e owned))
