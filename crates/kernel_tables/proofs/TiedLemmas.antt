-- The wait lists and the threads that they hold.
use Rattle.std.proofs.Common.{◌≡◌, ◌≢◌, ℕ, zero, suc, ◌+◌, ◌<◌, arith, List, [], ◌∷◌, Option, Some, None, Bool, true, false, refl, sym, ap, ◌∙◌, subst, length, map, filter_map, slice_get, slice_set, slice_index_or, is_some, eqb}
use Rattle.std.specs.Prelude.{if◌then◌else◌}
use Rattle.std.specs.List.{range_with_len, cons_option}
use Rattle.std.proofs.lemmas.List.{length-map, map-set, length-set}
use Rattle.rt_base.specs.declared.codes.WaitOrder.{WaitOrder}
use Rattle.rt_plain.specs.declared.stmt.Call.{Call}
use Rattle.rt_plain.specs.kernel.State.{Thread, Stage, Waiting, InCall, no_thread}
use Rattle.rt_plain.specs.kernel.Waiting.{number_in, threads_in_order}
use Rattle.rt_plain.specs.kernel.EventCalls.{want_of}
use Rattle.susp_list.specs.Rows.{Waits, line, waiter_of as row_waiter}
use Rattle.object_box.specs.Classes.{AllObjects}
use Rattle.ipc_counts.specs.Sent.{want_at}
use Rattle.ipc_counts.specs.declared.want.Want.{Want}
use Rattle.kernel_tables.specs.declared.wait_list.WaitList.{WaitList}
use Rattle.kernel_tables.specs.Listed.{wait_row, row_with, waits_with}
use Rattle.kernel_tables.specs.Tabled.{base_waiter, waiter_with, line_of}
use Rattle.kernel_tables.specs.Threads.{row_at}
use Rattle.kernel_tables.specs.Tied.{AreTied, AreWanted}
use Rattle.kernel_tables.specs.WaitLists.{is_at, objects_in, calls_in, is_known}

filter_map-below : {B : Type 0} (f g : ℕ → Option B) (a n : ℕ) → ((t : ℕ) → t < a + n → f t ≡ g t) → filter_map f (range_with_len a n) ≡ filter_map g (range_with_len a n)
filter_map-below f g a zero same = refl
filter_map-below f g a (suc n) same = ap (λ o. cons_option o (filter_map f (range_with_len (a + 1) n))) (same a (omega arith)) ∙ ap (cons_option (g a)) (filter_map-below f g (a + 1) n (λ t below. same t (omega (arith, below))))

-- the row of a thread in the table of a list
pub row-got : (p : Call → Bool) (threads : List Thread) (t : ℕ) → t < length threads → slice_get (map (wait_row p) threads) t ≡ Some (wait_row p (row_at threads t))
row-got p [] t there = absurd (omega (arith, there))
row-got p (x ∷ xs) zero there = refl
row-got p (x ∷ xs) (suc t) there = row-got p xs t (omega (arith, there))

same-waiter : (t prio : ℕ) (number : Option ℕ) → row_waiter t (Some (row_with prio number)) ≡ waiter_with t prio number
same-waiter t prio None = refl
same-waiter t prio (Some number) = refl

-- the wait list that is tied to the threads stands in the order of the definition
pub tied-line : (threads : List Thread) (w : Waits) (p : Call → Bool) → w.rows ≡ map (wait_row p) threads → line w ≡ line_of threads w.order p
tied-line threads w p tied =
    ap (λ (rows : List _). threads_in_order w.order (filter_map (λ t. row_waiter t (slice_get rows t)) (range_with_len 0 (length rows)))) tied
    ∙ ap (λ n. threads_in_order w.order (filter_map (λ t. row_waiter t (slice_get (map (wait_row p) threads) t)) (range_with_len 0 n))) (length-map threads (wait_row p))
    ∙ ap (threads_in_order w.order) (filter_map-below (λ t. row_waiter t (slice_get (map (wait_row p) threads) t)) (base_waiter threads p) 0 (length threads) (λ t there. ap (row_waiter t) (row-got p threads t (omega (arith, there))) ∙ same-waiter t (row_at threads t).base (number_in p (row_at threads t).stage)))

-- calls that pass the same test wait in the same list
pub number-same : (p q : Call → Bool) → ((call : Call) → p call ≡ q call) → (stage : Stage) → number_in p stage ≡ number_in q stage
number-same p q same (Waiting (InCall call) number) = rw (same call) refl
number-same p q same _ = refl

pub line-same : (threads : List Thread) (order : WaitOrder) (p q : Call → Bool) → ((call : Call) → p call ≡ q call) → line_of threads order p ≡ line_of threads order q
line-same threads order p q same = ap (threads_in_order order) (filter_map-below (base_waiter threads p) (base_waiter threads q) 0 (length threads) (λ t there. ap (waiter_with t (row_at threads t).base) (number-same p q same (row_at threads t).stage)))

-- one place of a list
pub set-here : {A : Type 0} (xs : List A) (j : ℕ) (x d : A) → j < length xs → slice_index_or (slice_set xs j x) j d ≡ x
set-here [] j x d there = absurd (omega (arith, there))
set-here (y ∷ ys) zero x d there = refl
set-here (y ∷ ys) (suc j) x d there = set-here ys j x d (omega (arith, there))

pub set-there : {A : Type 0} (xs : List A) (i j : ℕ) (x d : A) → i ≢ j → slice_index_or (slice_set xs j x) i d ≡ slice_index_or xs i d
set-there [] i j x d apart = refl
set-there (y ∷ ys) zero zero x d apart = absurd (apart refl)
set-there (y ∷ ys) zero (suc j) x d apart = refl
set-there (y ∷ ys) (suc i) zero x d apart = refl
set-there (y ∷ ys) (suc i) (suc j) x d apart = set-there ys i j x d (λ same. apart (ap suc same))

pub set-itself : {A : Type 0} (xs : List A) (t : ℕ) (x : A) → slice_get xs t ≡ Some x → slice_set xs t x ≡ xs
set-itself [] t x is = refl
set-itself {A = A} (y ∷ ys) zero x is = ap (λ (z : A). z ∷ ys) (sym (same y x is)) where
  same : (a b : A) → Some a ≡ Some b → a ≡ b
  same a b e = cc
set-itself {A = A} (y ∷ ys) (suc t) x is = ap (λ (zs : List A). y ∷ zs) (set-itself ys t x is)

eqb-is : (m n : ℕ) → eqb m n ≡ true → m ≡ n
eqb-is m n is = grind arith

eqb-not : (m n : ℕ) → eqb m n ≡ false → m ≢ n
eqb-not m n is same = grind (arith, is, same)

-- a row that stays keeps a table
pub kept-rows : (p : Call → Bool) (threads : List Thread) (t : ℕ) (row : Thread) → t < length threads → wait_row p row ≡ wait_row p (row_at threads t) → map (wait_row p) (slice_set threads t row) ≡ map (wait_row p) threads
kept-rows p threads t row there same =
    map-set (wait_row p) threads t row
    ∙ ap (slice_set (map (wait_row p) threads) t) same
    ∙ set-itself (map (wait_row p) threads) t (wait_row p (row_at threads t)) (row-got p threads t there)

-- of a change of one thread
pub changed-rows : (P : Stage → Type 0) (threads : List Thread) (t : ℕ) (row : Thread) → t < length threads → P row.stage → ((u : ℕ) → P (row_at threads u).stage) → (u : ℕ) → P (row_at (slice_set threads t row) u).stage
changed-rows P threads t row there new old u = by_test (eqb u t) refl where
  by_test : (c : Bool) → eqb u t ≡ c → P (row_at (slice_set threads t row) u).stage
  by_test true is = subst (λ (x : Thread). P x.stage) (sym (ap (λ k. row_at (slice_set threads t row) k) (eqb-is u t is) ∙ set-here threads t row no_thread there)) new
  by_test false is = subst (λ (x : Thread). P x.stage) (sym (set-there threads u t row no_thread (eqb-not u t is))) (old u)

-- the wants of those who stay, and of the changed one
pub changed-wants : (p : Call → Bool) (threads : List Thread) (wants new_wants : List Want) (t : ℕ) (row : Thread) → t < length threads
    → ((u : ℕ) → u ≢ t → slice_get new_wants u ≡ slice_get wants u)
    → (is_some (wait_row p row) ≡ true → want_at (slice_get new_wants t) ≡ want_of row.stage)
    → ((u : ℕ) → u < length threads → is_some (wait_row p (row_at threads u)) ≡ true → want_at (slice_get wants u) ≡ want_of (row_at threads u).stage)
    → (u : ℕ) → u < length (slice_set threads t row) → is_some (wait_row p (row_at (slice_set threads t row) u)) ≡ true → want_at (slice_get new_wants u) ≡ want_of (row_at (slice_set threads t row) u).stage
changed-wants p threads wants new_wants t row there others new old u within = by_test (eqb u t) refl where
  by_test : (c : Bool) → eqb u t ≡ c → is_some (wait_row p (row_at (slice_set threads t row) u)) ≡ true → want_at (slice_get new_wants u) ≡ want_of (row_at (slice_set threads t row) u).stage
  by_test true is some =
      let at : u ≡ t = eqb-is u t is in
      let row_is : row_at (slice_set threads t row) u ≡ row = ap (λ k. row_at (slice_set threads t row) k) at ∙ set-here threads t row no_thread there in
      ap (λ k. want_at (slice_get new_wants k)) at ∙ new (ap (λ (x : Thread). is_some (wait_row p x)) (sym row_is) ∙ some) ∙ ap (λ (x : Thread). want_of x.stage) (sym row_is)
  by_test false is some =
      let row_is : row_at (slice_set threads t row) u ≡ row_at threads u = set-there threads u t row no_thread (eqb-not u t is) in
      ap want_at (others u (eqb-not u t is)) ∙ old u (subst (λ n. u < n) (length-set threads t row) within) (ap (λ (x : Thread). is_some (wait_row p x)) (sym row_is) ∙ some) ∙ ap (λ (x : Thread). want_of x.stage) (sym row_is)

-- the tie by lists that are the same
pub tied-same : (threads : List Thread) (a : AllObjects) (waits after : WaitList → ℕ → Waits) → ((list : WaitList) (i : ℕ) → i < (objects_in a list).limit → (after list i).rows ≡ (waits list i).rows) → AreTied threads a waits → AreTied threads a after
tied-same threads a waits after same tied = record { sound = tied.sound; rows = λ list i within. same list i within ∙ tied.rows list i within; known = tied.known }

-- a change of one thread, and of the list at which it goes on or off
module _ (threads : List Thread) (a : AllObjects) (waits : WaitList → ℕ → Waits) (t : ℕ) (row : Thread) (tied : AreTied threads a waits) (there : t < length threads) where
  -- the table of a list in which the row of the thread stays
  stays : (list : WaitList) (i : ℕ) → i < (objects_in a list).limit → wait_row (calls_in a list i) row ≡ wait_row (calls_in a list i) (row_at threads t) → (waits list i).rows ≡ slice_set (waits list i).rows t (wait_row (calls_in a list i) row)
  stays list i within same =
      sym (ap (slice_set (waits list i).rows t) same
      ∙ set-itself (waits list i).rows t (wait_row (calls_in a list i) (row_at threads t)) (ap (λ (rows : List (Option _)). slice_get rows t) (tied.rows list i within) ∙ row-got (calls_in a list i) threads t there))

  pub tied-at : (at : Option (WaitList × ℕ)) (change : Waits → Waits) → is_known a row.stage ≡ true
      → ((list : WaitList) (i : ℕ) → i < (objects_in a list).limit → is_at list i at ≡ true → (change (waits list i)).rows ≡ slice_set (waits list i).rows t (wait_row (calls_in a list i) row))
      → ((list : WaitList) (i : ℕ) → is_at list i at ≡ false → wait_row (calls_in a list i) row ≡ wait_row (calls_in a list i) (row_at threads t))
      → AreTied (slice_set threads t row) a (waits_with at change waits)
  tied-at at change known hit miss = record {
    sound = tied.sound;
    rows = λ list i within. by_test list i within (is_at list i at) refl
        ∙ ap (λ (rows : List (Option _)). slice_set rows t (wait_row (calls_in a list i) row)) (tied.rows list i within)
        ∙ sym (map-set (wait_row (calls_in a list i)) threads t row);
    known = changed-rows (λ (stage : Stage). is_known a stage ≡ true) threads t row there known tied.known;
  } where
    by_test : (list : WaitList) (i : ℕ) → i < (objects_in a list).limit → (c : Bool) → is_at list i at ≡ c → (if is_at list i at then change (waits list i) else waits list i).rows ≡ slice_set (waits list i).rows t (wait_row (calls_in a list i) row)
    by_test list i within true e = ap (λ c. (if c then change (waits list i) else waits list i).rows) e ∙ hit list i within e
    by_test list i within false e = ap (λ c. (if c then change (waits list i) else waits list i).rows) e ∙ stays list i within (miss list i e)

  -- a change that no wait list sees
  pub tied-kept : row.base ≡ (row_at threads t).base → row.stage ≡ (row_at threads t).stage → AreTied (slice_set threads t row) a waits
  tied-kept base stage = record {
    sound = tied.sound;
    rows = λ list i within. tied.rows list i within ∙ sym (kept-rows (calls_in a list i) threads t row there (same-row (calls_in a list i)));
    known = changed-rows (λ (st : Stage). is_known a st ≡ true) threads t row there (ap (is_known a) stage ∙ tied.known t) tied.known;
  } where
    same-row : (p : Call → Bool) → wait_row p row ≡ wait_row p (row_at threads t)
    same-row p = ap (λ prio. row_with prio (number_in p row.stage)) base ∙ ap (λ (st : Stage). row_with (row_at threads t).base (number_in p st)) stage

-- what is wanted after a change of one thread
pub wanted-changed : (threads : List Thread) (a : AllObjects) (wants new_wants : ℕ → List Want) (t : ℕ) (row : Thread) → AreWanted threads a wants → t < length threads
    → ((i u : ℕ) → u ≢ t → slice_get (new_wants i) u ≡ slice_get (wants i) u)
    → ((i : ℕ) → i < a.event.limit → is_some (wait_row (calls_in a WaitList.Event i) row) ≡ true → want_at (slice_get (new_wants i) t) ≡ want_of row.stage)
    → AreWanted (slice_set threads t row) a new_wants
wanted-changed threads a wants new_wants t row wanted there others new i u within = changed-wants (calls_in a WaitList.Event i) threads (wants i) (new_wants i) t row there (others i) (new i within) (λ v. wanted i v within) u
