-- The lists get the new current priorities.
use Rattle.std.proofs.Common.{ℕ, zero, suc, ◌≡◌, ◌≢◌, ◌<◌, ◌≤◌, ◌+◌, min, arith, List, [], ◌∷◌, ◌++◌, Option, Some, None, IfSome, Bool, true, false, not, ◌&&◌, ◌||◌, cond, refl, sym, ap, ◌∙◌, subst, length, map, slice_index, slice_index_or, slice_set, eqb, ◌⊎◌, inl, inr}
use Rattle.std.specs.Prelude.{filter, ◌==◌, if◌then◌else◌}
use Rattle.std.specs.List.{AllByRecursion, range_with_len, filter_map, cons_option}
use Rattle.std.proofs.lemmas.Bool.{cases_lt, eqb-true, eqb-false, ne_eqb, false≢true}
use Rattle.std.proofs.lemmas.List.{length-set, length-map}
use Rattle.rt_plain.specs.kernel.State.{Thread, no_thread, is_closed, is_among}
use Rattle.rt_plain.specs.kernel.Priority.{least, reach, urgency_of}
use Rattle.rt_plain.specs.kernel.Ownership.{Ownership, Member, MutexWait, CurChange, member_at, is_there, base_of, member_urgency, owned_in, graph_in, cur_in, change_at, changes}
use Rattle.rt_plain.proofs.kernel.TallyLemmas.{here-set, other-set, map-at}
use Rattle.object_box.specs.Objects.{ClassObjects}
use Rattle.kernel_tables.specs.Tabled.{Tabled, moved_last, rebased}
use Rattle.kernel_tables.specs.Threads.{row_at}
use Rattle.mutex_chain.proofs.CurLemmas.{graph_urgency}
use Rattle.mutex_tie.specs.Tie.{IsGraphOf, member_of, wait_in}
use Rattle.mutex_tie.proofs.ChangeLemmas.{Own, change-own, made_if}
use Rattle.mutex_tables.specs.MutexTabled.{based, seen}
use Rattle.mutex_tables.specs.Kept.{AreCurrent}
use Rattle.mutex_tables.specs.Moved.{moved_behind, renewed, renewed_by, AreWithin}
use Rattle.mutex_tables.proofs.BaseLemmas.{based-over, based-row, length-based}

-- what changes leave

pub renewed-length : (k : Tabled) (cs : List CurChange) → length (renewed k cs).threads ≡ length k.threads
renewed-length k [] = refl
renewed-length k (c ∷ cs) = renewed-length (renewed_by k c) cs ∙ length-set k.threads c.thread (record (row_at k.threads c.thread) { base = c.new })

pub renewed-rest : (k : Tabled) (cs : List CurChange) → renewed k cs ≡ record k { threads = (renewed k cs).threads; ready = (renewed k cs).ready }
renewed-rest k [] = refl
renewed-rest k (c ∷ cs) = renewed-rest (renewed_by k c) cs

pub renewed-based : (bases : List ℕ) (k : Tabled) (cs : List CurChange) → length bases ≡ length k.threads → based bases (renewed k cs).threads ≡ based bases k.threads
renewed-based bases k [] same = refl
renewed-based bases k (c ∷ cs) same =
    renewed-based bases (renewed_by k c) cs (same ∙ sym (length-set k.threads c.thread (record (row_at k.threads c.thread) { base = c.new })))
    ∙ based-over bases k.threads c.thread c.new same

-- contracts see the ready list alone
pub renewed-seen : (bases : List ℕ) (c : ClassObjects) (o : Ownership) (k : Tabled) (cs : List CurChange) → length bases ≡ length k.threads → seen (renewed k cs) bases c o ≡ record (seen k bases c o) { ready = (renewed k cs).ready }
renewed-seen bases c o k cs same =
    ap (λ (x : Tabled). seen x bases c o) (renewed-rest k cs)
    ∙ ap (λ (rows : List Thread). record (seen k bases c o) { threads = rows; ready = (renewed k cs).ready }) (renewed-based bases k cs same)

-- the row of each thread

abbrev pub changed_row : Option CurChange → Thread → Thread
changed_row None row = row
changed_row (Some c) row = record row { base = c.new }

renewed-before : (h : ℕ → Option CurChange) → Own h → (a n t : ℕ) (k : Tabled) → t < a → row_at (renewed k (filter_map h (range_with_len a n))).threads t ≡ row_at k.threads t
renewed-before h own a zero t k low = refl
renewed-before h own a (suc n) t k low = by_row (h a) (own a) (λ x. renewed-before h own (a + 1) n t x (omega (arith, low)))
  where
    by_row : (r : Option CurChange) → IfSome r (λ c. c.thread ≡ a) → ((x : Tabled) → row_at (renewed x (filter_map h (range_with_len (a + 1) n))).threads t ≡ row_at x.threads t)
        → row_at (renewed k (cons_option r (filter_map h (range_with_len (a + 1) n)))).threads t ≡ row_at k.threads t
    by_row None is rest = rest k
    by_row (Some c) is rest = rest (renewed_by k c) ∙ other-set k.threads c.thread t (record (row_at k.threads c.thread) { base = c.new }) no_thread (λ e. omega (arith, e, is, low))

renewed-here : (h : ℕ → Option CurChange) → Own h → (a n : ℕ) (k : Tabled) → a < length k.threads → row_at (renewed k (filter_map h (range_with_len a (suc n)))).threads a ≡ changed_row (h a) (row_at k.threads a)
renewed-here h own a n k there = by_row (h a) (own a)
  where
    by_row : (r : Option CurChange) → IfSome r (λ c. c.thread ≡ a) → row_at (renewed k (cons_option r (filter_map h (range_with_len (a + 1) n)))).threads a ≡ changed_row r (row_at k.threads a)
    by_row None is = renewed-before h own (a + 1) n a k (omega arith)
    by_row (Some c) is =
        renewed-before h own (a + 1) n a (renewed_by k c) (omega arith)
        ∙ ap (λ u. row_at (slice_set k.threads u (record (row_at k.threads u) { base = c.new })) a) is
        ∙ here-set k.threads a (record (row_at k.threads a) { base = c.new }) no_thread there

pub renewed-at : (h : ℕ → Option CurChange) → Own h → (a n t : ℕ) (k : Tabled) → a ≤ t → t < a + n → t < length k.threads → row_at (renewed k (filter_map h (range_with_len a n))).threads t ≡ changed_row (h t) (row_at k.threads t)
renewed-at h own a zero t k from to there = absurd (omega (arith, from, to))
renewed-at h own a (suc n) t k from to there = by_case (cases_lt a t) (λ later x below. renewed-at h own (a + 1) n t x (omega (arith, later)) (omega (arith, to)) below)
  where
    Rest : Tabled → Type 0
    Rest x = row_at (renewed x (filter_map h (range_with_len (a + 1) n))).threads t ≡ changed_row (h t) (row_at x.threads t)

    by_row : (r : Option CurChange) → IfSome r (λ c. c.thread ≡ a) → a < t → ((x : Tabled) → t < length x.threads → row_at (renewed x (filter_map h (range_with_len (a + 1) n))).threads t ≡ changed_row (h t) (row_at x.threads t))
        → row_at (renewed k (cons_option r (filter_map h (range_with_len (a + 1) n)))).threads t ≡ changed_row (h t) (row_at k.threads t)
    by_row None is later rest = rest k there
    by_row (Some c) is later rest =
        rest (renewed_by k c) (omega (arith, there, length-set k.threads c.thread (record (row_at k.threads c.thread) { base = c.new })))
        ∙ ap (changed_row (h t)) (other-set k.threads c.thread t (record (row_at k.threads c.thread) { base = c.new }) no_thread (λ e. omega (arith, e, is, later)))

    by_case : (a < t) ⊎ (t ≤ a) → (a < t → (x : Tabled) → t < length x.threads → row_at (renewed x (filter_map h (range_with_len (a + 1) n))).threads t ≡ changed_row (h t) (row_at x.threads t))
        → row_at (renewed k (filter_map h (range_with_len a (suc n)))).threads t ≡ changed_row (h t) (row_at k.threads t)
    by_case (inl later) rest = by_row (h a) (own a) later (rest later)
    by_case (inr past) rest =
        let same : a ≡ t = omega (arith, from, past) in
        ap (λ u. row_at (renewed k (filter_map h (range_with_len a (suc n)))).threads u) (sym same)
        ∙ renewed-here h own a n k (omega (arith, same, there))
        ∙ ap (λ u. changed_row (h u) (row_at k.threads u)) same

-- the lists go by the current priorities again

changed-stage : (r : Option CurChange) (row : Thread) → (changed_row r row).stage ≡ row.stage
changed-stage None row = refl
changed-stage (Some c) row = refl

abbrev made_of : Bool → ℕ → Option MutexWait → Option Member
made_of closed base wait = if closed then None else Some (record { base = base; wait = wait })

changed-base : (t x y : ℕ) (row : Thread) → (row.base ≡ x) ⊎ (row.base ≡ y) → (changed_row (made_if (true && (true && not (x == y))) t x y) row).base ≡ y
changed-base t x y row near = by_test (x == y) refl
  where
    by_near : (row.base ≡ x) ⊎ (row.base ≡ y) → x ≡ y → row.base ≡ y
    by_near (inl old) same = old ∙ same
    by_near (inr new) same = new

    by_test : (e : Bool) → (x == y) ≡ e → (changed_row (made_if (not e) t x y) row).base ≡ y
    by_test true is = by_near near (eqb-true x y is)
    by_test false is = refl

-- each thread that hasn't ended goes by its current priority before, and is ready as before; or it goes by that of now, and wasn't ready. It was there and is there
pub record AreNear (before : List ℕ) (k : Tabled) (o p : Ownership) : Type 0 where
  pub sized : length p.members ≡ length k.threads
  pub near : (t : ℕ) → t < length k.threads → is_closed (row_at k.threads t).stage ≡ false
      → (((row_at k.threads t).base ≡ cur_in o t) × (is_among k.ready t ≡ is_among before t)) ⊎ (((row_at k.threads t).base ≡ cur_in p t) × (is_among before t ≡ false))
  pub was : (t : ℕ) → t < length k.threads → is_closed (row_at k.threads t).stage ≡ false → is_there (member_at o t) ≡ true
  pub is : (t : ℕ) → t < length k.threads → is_there (member_at p t) ≡ not (is_closed (row_at k.threads t).stage)

near-base : {A B : Type 0} (n x y : ℕ) → ((n ≡ x) × A) ⊎ ((n ≡ y) × B) → (n ≡ x) ⊎ (n ≡ y)
near-base n x y (inl (is, rest)) = inl is
near-base n x y (inr (is, rest)) = inr is

pub renewed-current : (before : List ℕ) (o p : Ownership) (k : Tabled) → AreNear before k o p → AreCurrent (renewed k (changes o p)) p
renewed-current before o p k near t below live =
    let there : t < length k.threads = omega (arith, below, renewed-length k (changes o p)) in
    let row_is : row_at (renewed k (changes o p)).threads t ≡ changed_row (change_at o p t) (row_at k.threads t) = renewed-at (change_at o p) (change-own o p) 0 (length p.members) t k (omega arith) (omega (arith, there, near.sized)) there in
    let lives : is_closed (row_at k.threads t).stage ≡ false = ap is_closed (sym (changed-stage (change_at o p t) (row_at k.threads t))) ∙ ap (λ (r : Thread). is_closed r.stage) (sym row_is) ∙ live in
    ap (λ (r : Thread). r.base) row_is
    ∙ ap (λ a. (changed_row (made_if (a && (is_there (member_at p t) && not (cur_in o t == cur_in p t))) t (cur_in o t) (cur_in p t)) (row_at k.threads t)).base) (near.was t there lives)
    ∙ ap (λ a. (changed_row (made_if (true && (a && not (cur_in o t == cur_in p t))) t (cur_in o t) (cur_in p t)) (row_at k.threads t)).base) (near.is t there ∙ ap not lives)
    ∙ changed-base t (cur_in o t) (cur_in p t) (row_at k.threads t) (near-base (row_at k.threads t).base (cur_in o t) (cur_in p t) (near.near t there lives))

-- the changes are of threads that are there, and of priorities below the levels

least-low : (n : ℕ) (xs : List ℕ) → least n xs ≤ n
least-low n [] = omega arith
least-low n (x ∷ xs) = omega (arith, least-low (min n x) xs)

pub cur-low : (p : Ownership) (t : ℕ) → t < length p.members → cur_in p t ≤ base_of (member_at p t)
cur-low p t there =
    let own : urgency_of (graph_in p) t ≡ member_urgency p t = graph_urgency p t there in
    let one : cur_in p t ≤ urgency_of (graph_in p) t = least-low (urgency_of (graph_in p) t) (map (urgency_of (graph_in p)) (reach (graph_in p) t)) in
    let two : member_urgency p t ≤ base_of (member_at p t) = least-low (base_of (member_at p t)) (filter_map (λ mutex. slice_index_or p.ceilings mutex None) (owned_in p t)) in
    omega (arith, own, one, two)

base-there : (row : Thread) (wait : Option MutexWait) → is_there (made_of (is_closed row.stage) row.base wait) ≡ true → base_of (made_of (is_closed row.stage) row.base wait) ≡ row.base
base-there row wait is = by_test (is_closed row.stage) is
  where
    by_test : (d : Bool) → is_there (made_of d row.base wait) ≡ true → base_of (made_of d row.base wait) ≡ row.base
    by_test true is = absurd (false≢true is)
    by_test false is = refl

pub member-at : (rows : List Thread) (c : ClassObjects) (o : Ownership) (t : ℕ) → IsGraphOf rows c o → member_at o t ≡ member_of c.objects (row_at rows t)
member-at rows c o t tied = ap (λ (ms : List (Option Member)). slice_index_or ms t None) tied.members ∙ sym (map-at (member_of c.objects) rows t no_thread)

pub members-count : (rows : List Thread) (c : ClassObjects) (o : Ownership) → IsGraphOf rows c o → length o.members ≡ length rows
members-count rows c o tied = ap length tied.members ∙ length-map rows (member_of c.objects)

-- no current priority is less urgent than the base
pub cur-below : (rows : List Thread) (c : ClassObjects) (p : Ownership) (t levels : ℕ) → IsGraphOf rows c p → t < length rows → is_there (member_at p t) ≡ true → (row_at rows t).base < levels → cur_in p t < levels
cur-below rows c p t levels tied there is below =
    let row : Thread = row_at rows t in
    let at = member-at rows c p t tied in
    let base : base_of (member_at p t) ≡ row.base = ap base_of at ∙ base-there row (wait_in c.objects row.stage) (ap is_there (sym at) ∙ is) in
    omega (arith, cur-low p t (omega (arith, there, members-count rows c p tied)), base, below)

filter_map-all : (P : CurChange → Type 0) (h : ℕ → Option CurChange) (a n : ℕ) → ((t : ℕ) → t < a + n → IfSome (h t) P) → AllByRecursion P (filter_map h (range_with_len a n))
filter_map-all P h a zero each = tt
filter_map-all P h a (suc n) each = by_row (h a) (each a (omega arith)) (filter_map-all P h (a + 1) n (λ t below. each t (omega (arith, below))))
  where
    by_row : (r : Option CurChange) → IfSome r P → AllByRecursion P (filter_map h (range_with_len (a + 1) n)) → AllByRecursion P (cons_option r (filter_map h (range_with_len (a + 1) n)))
    by_row None is rest = rest
    by_row (Some c) is rest = (is, rest)

if-made : (P : CurChange → Type 0) (t x y : ℕ) (a b e : Bool) → (b ≡ true → P (record { thread = t; old = x; new = y })) → IfSome (made_if (a && (b && e)) t x y) P
if-made P t x y true true true is = is refl
if-made P t x y true true false is = tt
if-made P t x y true false e is = tt
if-made P t x y false b e is = tt

pub changes-within : (k : Tabled) (bases : List ℕ) (c : ClassObjects) (o p : Ownership) → length bases ≡ length k.threads → ((t : ℕ) → t < length bases → slice_index bases t < k.levels) → IsGraphOf (based bases k.threads) c p → AreWithin k (changes o p)
changes-within k bases c o p same levels tied = filter_map-all (λ d. (d.thread < length k.threads) × (d.new < k.levels)) (change_at o p) 0 (length p.members) each
  where
    each : (t : ℕ) → t < 0 + length p.members → IfSome (change_at o p t) (λ d. (d.thread < length k.threads) × (d.new < k.levels))
    each t below =
        let rows : List Thread = based bases k.threads in
        let count = members-count rows c p tied in
        let there : t < length k.threads = omega (arith, below, count, length-based bases k.threads) in
        let base : (row_at rows t).base < k.levels = subst (λ (r : Thread). r.base < k.levels) (sym (based-row bases k.threads t same there)) (levels t (omega (arith, there, same))) in
        if-made (λ d. (d.thread < length k.threads) × (d.new < k.levels)) t (cur_in o t) (cur_in p t) (is_there (member_at o t)) (is_there (member_at p t)) (not (cur_in o t == cur_in p t))
        (λ is. (there, cur-below rows c p t k.levels tied (omega (arith, below, count)) is base))

-- who is ready

among-apart : (xs : List ℕ) (t u : ℕ) → t ≢ u → is_among (filter (λ v. not (eqb v t)) xs ++ t ∷ []) u ≡ is_among xs u
among-apart [] t u apart = ap (λ b. b || false) (ne_eqb t u apart)
among-apart (x ∷ xs) t u apart = by_test (eqb x t) refl (among-apart xs t u apart)
  where
    rest : List ℕ
    rest = filter (λ v. not (eqb v t)) xs

    by_test : (d : Bool) → eqb x t ≡ d → is_among (rest ++ t ∷ []) u ≡ is_among xs u → is_among (cond (not d) (x ∷ rest) rest ++ t ∷ []) u ≡ eqb x u || is_among xs u
    by_test true is again = again ∙ ap (λ b. b || is_among xs u) (sym (ne_eqb x u (λ e. apart (sym (eqb-true x t is) ∙ e))))
    by_test false is again = ap (λ b. eqb x u || b) again

among-moved : (ready : List ℕ) (t u : ℕ) → t ≢ u → is_among (moved_last ready t) u ≡ is_among ready u
among-moved ready t u apart = by_test (is_among ready t)
  where
    by_test : (d : Bool) → is_among (if d then filter (λ v. not (v == t)) ready ++ t ∷ [] else ready) u ≡ is_among ready u
    by_test true = among-apart ready t u apart
    by_test false = refl

-- a changed thread goes by the new priority already and wasn't ready before, or is ready as before
abbrev IsPlaced : List ℕ → Tabled → CurChange → Type 0
IsPlaced before k c = (((row_at k.threads c.thread).base ≡ c.new) × (is_among before c.thread ≡ false)) ⊎ (((row_at k.threads c.thread).base ≢ c.new) × (is_among k.ready c.thread ≡ is_among before c.thread))

ready-step : (before : List ℕ) (k : Tabled) (c : CurChange) → IsPlaced before k c → rebased k c.thread c.new ≡ (if is_among before c.thread then moved_last k.ready c.thread else k.ready)
ready-step before k c (inl (same, out)) =
    ap (λ d. if d then k.ready else moved_last k.ready c.thread) test ∙ sym (ap (λ d. if d then moved_last k.ready c.thread else k.ready) out)
  where
    test : ((row_at k.threads c.thread).base == c.new) ≡ true
    test = grind (arith, same)
ready-step before k c (inr (apart, among)) =
    ap (λ d. if d then k.ready else moved_last k.ready c.thread) (ne_eqb (row_at k.threads c.thread).base c.new apart) ∙ by_test (is_among before c.thread) among
  where
    by_test : (d : Bool) → is_among k.ready c.thread ≡ d → moved_last k.ready c.thread ≡ (if d then moved_last k.ready c.thread else k.ready)
    by_test true is = refl
    by_test false is = ap (λ d. if d then filter (λ v. not (v == c.thread)) k.ready ++ c.thread ∷ [] else k.ready) is

later-placed : (before : List ℕ) (k : Tabled) (c d : CurChange) → c.thread ≢ d.thread → (d.thread ≢ c.thread) → IsPlaced before k d → IsPlaced before (renewed_by k c) d
later-placed before k c d apart turned placed = by_case placed
  where
    base_is : (row_at (renewed_by k c).threads d.thread).base ≡ (row_at k.threads d.thread).base
    base_is = ap (λ (r : Thread). r.base) (other-set k.threads c.thread d.thread (record (row_at k.threads c.thread) { base = c.new }) no_thread turned)

    among_is : is_among (renewed_by k c).ready d.thread ≡ is_among k.ready d.thread
    among_is = by_test ((row_at k.threads c.thread).base == c.new)
      where
        by_test : (e : Bool) → is_among (if e then k.ready else moved_last k.ready c.thread) d.thread ≡ is_among k.ready d.thread
        by_test true = refl
        by_test false = among-moved k.ready c.thread d.thread apart

    by_case : IsPlaced before k d → IsPlaced before (renewed_by k c) d
    by_case (inl (same, out)) = inl (base_is ∙ same, out)
    by_case (inr (other, among)) = inr (λ e. other (sym base_is ∙ e), among_is ∙ among)

moved-ready : (h : ℕ → Option CurChange) → Own h → (before : List ℕ) (a n : ℕ) (k : Tabled) → ((t : ℕ) → a ≤ t → t < a + n → IfSome (h t) (IsPlaced before k))
    → (renewed k (filter_map h (range_with_len a n))).ready ≡ moved_behind before (filter_map h (range_with_len a n)) k.ready
moved-ready h own before a zero k each = refl
moved-ready h own before a (suc n) k each =
    by_row (h a) (own a) (each a (omega arith) (omega arith)) (λ x every. moved-ready h own before (a + 1) n x every)
  where
    cs : List CurChange
    cs = filter_map h (range_with_len (a + 1) n)

    shifted : (c : CurChange) → c.thread ≡ a → (t : ℕ) → a + 1 ≤ t → (r : Option CurChange) → IfSome r (λ d. d.thread ≡ t) → IfSome r (IsPlaced before k) → IfSome r (IsPlaced before (renewed_by k c))
    shifted c is t from None own_is placed = tt
    shifted c is t from (Some d) own_is placed = later-placed before k c d (λ e. omega (arith, e, is, own_is, from)) (λ e. omega (arith, e, is, own_is, from)) placed

    by_row : (r : Option CurChange) → IfSome r (λ c. c.thread ≡ a) → IfSome r (IsPlaced before k)
        → ((x : Tabled) → ((t : ℕ) → a + 1 ≤ t → t < a + 1 + n → IfSome (h t) (IsPlaced before x)) → (renewed x cs).ready ≡ moved_behind before cs x.ready)
        → (renewed k (cons_option r cs)).ready ≡ moved_behind before (cons_option r cs) k.ready
    by_row None is placed rest = rest k (λ t from to. each t (omega (arith, from)) (omega (arith, to)))
    by_row (Some c) is placed rest =
        rest (renewed_by k c) (λ t from to. shifted c is t from (h t) (own t) (each t (omega (arith, from)) (omega (arith, to))))
        ∙ ap (moved_behind before cs) (ready-step before k c placed)

if-changed : (P : CurChange → Type 0) (t x y : ℕ) (a b : Bool) → (b ≡ true → x ≢ y → P (record { thread = t; old = x; new = y })) → IfSome (made_if (a && (b && not (x == y))) t x y) P
if-changed P t x y a b is = by_test (x == y) refl a b is
  where
    by_test : (e : Bool) → (x == y) ≡ e → (a b : Bool) → (b ≡ true → x ≢ y → P (record { thread = t; old = x; new = y })) → IfSome (made_if (a && (b && not e)) t x y) P
    by_test false apart true true is = is refl (eqb-false x y apart)
    by_test true same true true is = tt
    by_test e test true false is = tt
    by_test e test false b is = tt

pub renewed-ready : (before : List ℕ) (o p : Ownership) (k : Tabled) → AreNear before k o p → (renewed k (changes o p)).ready ≡ moved_behind before (changes o p) k.ready
renewed-ready before o p k near = moved-ready (change_at o p) (change-own o p) before 0 (length p.members) k (λ t from to. each t (omega (arith, to, near.sized)))
  where
    each : (t : ℕ) → t < length k.threads → IfSome (change_at o p t) (IsPlaced before k)
    each t there =
        if-changed (IsPlaced before k) t (cur_in o t) (cur_in p t) (is_there (member_at o t)) (is_there (member_at p t)) (λ is apart. by_near apart (near.near t there (live (is_closed (row_at k.threads t).stage) (sym (near.is t there) ∙ is))))
      where
        live : (d : Bool) → not d ≡ true → d ≡ false
        live false e = refl
        live true e = absurd (false≢true e)

        by_near : cur_in o t ≢ cur_in p t → (((row_at k.threads t).base ≡ cur_in o t) × (is_among k.ready t ≡ is_among before t)) ⊎ (((row_at k.threads t).base ≡ cur_in p t) × (is_among before t ≡ false)) → IsPlaced before k (record { thread = t; old = cur_in o t; new = cur_in p t })
        by_near apart (inl (old, among)) = inr (λ e. apart (sym old ∙ e), among)
        by_near apart (inr (new, out)) = inl (new, out)

-- the changes that are left are of threads and priorities that there are
pub later-within : (k : Tabled) (c : CurChange) (cs : List CurChange) → AreWithin k cs → AreWithin (renewed_by k c) cs
later-within k c [] all = tt
later-within k c (d ∷ cs) (this, all) = ((omega (arith, this.0, length-set k.threads c.thread (record (row_at k.threads c.thread) { base = c.new })), this.1), later-within k c cs all)
