-- Threads that wait in a list, and wake.
use Rattle.std.proofs.Common.{ℕ, ◌≡◌, ◌+◌, ◌<◌, ◌≤◌, zero, suc, List, [], ◌∷◌, ◌++◌, length, map, set, Option, Some, None, Bool, true, false, cond, refl, sym, ap, subst, ◌∙◌, arith, filter_map, slice_get, length-set, length-append, inl, inr, ◌⊎◌}
use Rattle.std.specs.Prelude.{filter, fold, is_some, slice_set, if◌then◌else◌}
use Rattle.std.specs.List.{range_with_len, cons_option}
use Rattle.std.proofs.lemmas.Bool.{false≢true}
use Rattle.std.proofs.lemmas.List.{length-map, map-set, append_assoc}
use Rattle.std.proofs.lemmas.Grind.{fold-append}
use Rattle.std.proofs.lemmas.List.FromFn.{length-range_with_len}
use Rattle.std.proofs.lemmas.Option.{none-some, same_Some}
use Rattle.rt_base.specs.declared.codes.Code.{Code}
use Rattle.rt_base.specs.declared.codes.WaitOrder.{WaitOrder}
use Rattle.rt_plain.specs.declared.stmt.Call.{Call}
use Rattle.rt_plain.specs.kernel.State.{Thread, Stage, Active, Waiting, InCall}
use Rattle.rt_plain.specs.kernel.Waiting.{Waiter, number_in, in_order, head_of}
use Rattle.rt_plain.specs.kernel.EventCalls.{want_of}
use Rattle.susp_list.specs.declared.row.Row.{Row as WaitRow}
use Rattle.susp_list.specs.Rows.{Waits, line}
use Rattle.susp_list.proofs.OrderLemmas.{Each, Each-in_order, length-in_order}
use Rattle.susp_list.proofs.TableLemmas.{first_held, left_line}
use Rattle.object_box.specs.Classes.{AllObjects}
use Rattle.ipc_counts.specs.Sent.{want_at}
use Rattle.ipc_counts.specs.declared.want.Want.{Want}
use Rattle.kernel_tables.specs.declared.lists.Lists.{Lists}
use Rattle.kernel_tables.specs.declared.wait_list.WaitList.{WaitList}
use Rattle.kernel_tables.specs.Listed.{wait_row, row_with, waits_in, wants_in, slots_in, taken, IsRelisted, IsShownAs}
use Rattle.kernel_tables.specs.Tabled.{base_waiter, waiter_with, line_of, all_woken, woken_row}
use Rattle.kernel_tables.specs.Threads.{row_at, with_row}
use Rattle.kernel_tables.specs.Tied.{AreTied, AreWanted, IsTied}
use Rattle.kernel_tables.specs.WaitLists.{is_at, objects_in, calls_in, is_known}
use Rattle.kernel_tables.proofs.WaitListLemmas.{lists-apart, at-itself}
use Rattle.kernel_tables.proofs.TiedLemmas.{row-got, tied-line, tied-same, set-itself}
use Rattle.kernel_tables.proofs.ListChangeLemmas.{shown-again, relisted-waits, relisted-slots, relisted-wants, relisted-shown}

-- a thread stands in a line
pub record InLine (threads : List Thread) (p : Call → Bool) (t : ℕ) : Type 0 where
  pub there : t < length threads
  pub waits : is_some (wait_row p (row_at threads t)) ≡ true

-- what holds of each of a list
abbrev pub EachOf : {A : Type 0} → (A → Type 0) → List A → Type 0
EachOf P [] = Unit {0}
EachOf P (x ∷ xs) = P x × EachOf P xs

in-waiters : (threads : List Thread) (p : Call → Bool) (a n : ℕ) → a + n ≤ length threads → Each (λ w. InLine threads p w.thread) (filter_map (base_waiter threads p) (range_with_len a n))
in-waiters threads p a zero within = tt
in-waiters threads p a (suc n) within = by_number (number_in p (row_at threads a).stage) refl (in-waiters threads p (a + 1) n (omega (arith, within)))
  where
    rest : List Waiter
    rest = filter_map (base_waiter threads p) (range_with_len (a + 1) n)

    by_number : (o : Option ℕ) → number_in p (row_at threads a).stage ≡ o → Each (λ w. InLine threads p w.thread) rest → Each (λ w. InLine threads p w.thread) (cons_option (waiter_with a (row_at threads a).base o) rest)
    by_number None e h = h
    by_number (Some n) e h = (record { there = omega (arith, within); waits = ap (λ o. is_some (row_with (row_at threads a).base o)) e }, h)

in-threads : (threads : List Thread) (p : Call → Bool) (ws : List Waiter) → Each (λ w. InLine threads p w.thread) ws → EachOf (InLine threads p) (map (λ w. w.thread) ws)
in-threads threads p [] h = tt
in-threads threads p (w ∷ ws) h = (h.0, in-threads threads p ws h.1)

-- each of a line stands in it
pub line-in : (threads : List Thread) (order : WaitOrder) (p : Call → Bool) → EachOf (InLine threads p) (line_of threads order p)
line-in threads order p =
    let ws = filter_map (base_waiter threads p) (range_with_len 0 (length threads)) in
    in-threads threads p (in_order order ws) (Each-in_order (λ w. InLine threads p w.thread) order ws (in-waiters threads p 0 (length threads) (omega arith)))

length-filter_map_le : {A B : Type 0} (f : A → Option B) (xs : List A) → length (filter_map f xs) ≤ length xs
length-filter_map_le f [] = omega arith
length-filter_map_le {A} {B} f (x ∷ xs) = by_value (f x) (length-filter_map_le f xs)
  where
    by_value : (o : Option B) → length (filter_map f xs) ≤ length xs → length (cons_option o (filter_map f xs)) ≤ suc (length xs)
    by_value None h = omega (arith, h)
    by_value (Some y) h = omega (arith, h)

length-filter_le : {A : Type 0} (p : A → Bool) (xs : List A) → length (filter p xs) ≤ length xs
length-filter_le p [] = omega arith
length-filter_le {A} p (x ∷ xs) = by_test (p x) (length-filter_le p xs)
  where
    by_test : (b : Bool) → length (filter p xs) ≤ length xs → length (cond b (x ∷ filter p xs) (filter p xs)) ≤ suc (length xs)
    by_test true h = omega (arith, h)
    by_test false h = omega (arith, h)

-- no more wait than there are threads
pub line-few : (threads : List Thread) (order : WaitOrder) (p : Call → Bool) → length (line_of threads order p) ≤ length threads
line-few threads order p =
    let ws = filter_map (base_waiter threads p) (range_with_len 0 (length threads)) in
    omega (
      arith,
      length-map (in_order order ws) (λ (w : Waiter). w.thread),
      length-in_order order ws,
      length-filter_map_le (base_waiter threads p) (range_with_len 0 (length threads)),
      length-range_with_len 0 (length threads),
    )

-- a table without the rows of some threads
abbrev pub cleared : List (Option WaitRow) → List ℕ → List (Option WaitRow)
cleared rows ts = fold (λ all t. slice_set all t None) rows ts

-- of these threads some are awake, and the others are as they were
pub record Wakes (threads woken : List Thread) (ts : List ℕ) : Type 0 where
  pub len : length woken ≡ length threads
  pub rows : (p : Call → Bool) → map (wait_row p) woken ≡ cleared (map (wait_row p) threads) ts
  pub row : (t : ℕ) → (row_at woken t ≡ row_at threads t) ⊎ ((row_at woken t).stage ≡ Active)

row-after : (threads : List Thread) (t u : ℕ) (new : Thread) → new.stage ≡ Active → (row_at (set threads t new) u ≡ row_at threads u) ⊎ ((row_at (set threads t new) u).stage ≡ Active)
row-after [] t u new active = inl refl
row-after (x ∷ xs) zero zero new active = inr active
row-after (x ∷ xs) zero (suc u) new active = inl refl
row-after (x ∷ xs) (suc t) zero new active = inl refl
row-after (x ∷ xs) (suc t) (suc u) new active = row-after xs t u new active

-- threads that wake one after the other
pub wakes : {A : Type 0} (at : A → ℕ) (change : A → Thread → Thread) → ((a : A) (row : Thread) → (change a row).stage ≡ Active) → (threads : List Thread) (ws : List A)
    → Wakes threads (fold (λ rows a. with_row rows (at a) (change a)) threads ws) (map at ws)
wakes at change active threads [] = record { len = refl; rows = λ p. refl; row = λ t. inl refl }
wakes at change active threads (w ∷ ws) =
    let new : Thread = change w (row_at threads (at w)) in
    let rest = wakes at change active (set threads (at w) new) ws in
    let gone : (p : Call → Bool) → wait_row p new ≡ None = λ p. ap (λ stage. row_with new.base (number_in p stage)) (active w (row_at threads (at w))) in
    let one : (p : Call → Bool) → map (wait_row p) (set threads (at w) new) ≡ set (map (wait_row p) threads) (at w) None = λ p. map-set (wait_row p) threads (at w) new ∙ ap (set (map (wait_row p) threads) (at w)) (gone p) in
    record {
      len = rest.len ∙ length-set threads (at w) new;
      rows = λ p. rest.rows p ∙ ap (λ rows. cleared rows (map at ws)) (one p);
      row = λ t. by_row t (fold (λ rows a. with_row rows (at a) (change a)) (set threads (at w) new) ws) (rest.row t) (row-after threads (at w) t new (active w (row_at threads (at w))));
    }
  where
    by_row : (t : ℕ) (woken : List Thread) → (row_at woken t ≡ row_at (set threads (at w) (change w (row_at threads (at w)))) t) ⊎ ((row_at woken t).stage ≡ Active)
        → (row_at (set threads (at w) (change w (row_at threads (at w)))) t ≡ row_at threads t) ⊎ ((row_at (set threads (at w) (change w (row_at threads (at w)))) t).stage ≡ Active)
        → (row_at woken t ≡ row_at threads t) ⊎ ((row_at woken t).stage ≡ Active)
    by_row t woken (inr e) h = inr e
    by_row t woken (inl e) (inl h) = inl (e ∙ h)
    by_row t woken (inl e) (inr h) = inr (ap (λ (row : Thread). row.stage) e ∙ h)

-- who waits in one list has no row in a list of other calls
pub other-call : (p q : Call → Bool) → ((call : Call) → p call ≡ true → q call ≡ false) → (base : ℕ) (stage : Stage) → is_some (row_with base (number_in p stage)) ≡ true → row_with base (number_in q stage) ≡ None
other-call p q apart base (Waiting (InCall call) number) waits = by_test (p call) refl waits
  where
    by_test : (c : Bool) → p call ≡ c → is_some (row_with base (cond c (Some number) None)) ≡ true → row_with base (cond (q call) (Some number) None) ≡ None
    by_test true e waits = ap (λ c. row_with base (cond c (Some number) None)) (apart call e)
    by_test false e waits = absurd (false≢true waits)
other-call p q apart base _ waits = absurd (false≢true waits)

cleared-empty : (rows : List (Option WaitRow)) (ts : List ℕ) → EachOf (λ t. slice_get rows t ≡ Some None) ts → cleared rows ts ≡ rows
cleared-empty rows [] h = refl
cleared-empty rows (t ∷ ts) h = ap (λ r. cleared r ts) (set-itself rows t None h.0) ∙ cleared-empty rows ts h.1

pub EachOf-weaker : {A : Type 0} (P Q : A → Type 0) → ((x : A) → P x → Q x) → (xs : List A) → EachOf P xs → EachOf Q xs
EachOf-weaker P Q f [] h = tt
EachOf-weaker P Q f (x ∷ xs) h = (f x h.0, EachOf-weaker P Q f xs h.1)

-- the list of other calls stays where threads wake
untouched : (p q : Call → Bool) → ((call : Call) → p call ≡ true → q call ≡ false) → (threads woken : List Thread) (ts : List ℕ) → EachOf (InLine threads p) ts → Wakes threads woken ts
    → map (wait_row q) woken ≡ map (wait_row q) threads
untouched p q apart threads woken ts each w =
    w.rows q
    ∙ cleared-empty (map (wait_row q) threads) ts
    (EachOf-weaker (InLine threads p) (λ t. slice_get (map (wait_row q) threads) t ≡ Some None) (λ t h. row-got q threads t h.there ∙ ap Some (other-call p q apart (row_at threads t).base (row_at threads t).stage h.waits)) ts each)

-- threads that wait in a list wake, and leave it
pub tied-woken : (threads woken : List Thread) (ts : List ℕ) (a : AllObjects) (waits after : WaitList → ℕ → Waits) (list : WaitList) (i : ℕ) → AreTied threads a waits → EachOf (InLine threads (calls_in a list i)) ts → Wakes threads woken ts
    → ((other : WaitList) (j : ℕ) → (after other j).rows ≡ (if is_at other j (Some (list, i)) then cleared (waits other j).rows ts else (waits other j).rows)) → AreTied woken a after
tied-woken threads woken ts a waits after list i t each w rows = record {
  sound = t.sound;
  rows = λ other j within. rows other j ∙ by_list other j within (is_at other j (Some (list, i))) refl;
  known = λ u. by_stage u (w.row u);
}
  where
    by_list : (other : WaitList) (j : ℕ) → j < (objects_in a other).limit → (c : Bool) → is_at other j (Some (list, i)) ≡ c → (if c then cleared (waits other j).rows ts else (waits other j).rows) ≡ map (wait_row (calls_in a other j)) woken
    by_list other j within true e = ap (λ rows. cleared rows ts) (t.rows other j within) ∙ sym (w.rows (calls_in a other j))
    by_list other j within false e = t.rows other j within ∙ sym (untouched (calls_in a list i) (calls_in a other j) (lists-apart a list other i j t.sound e) threads woken ts each w)

    by_stage : (u : ℕ) → (row_at woken u ≡ row_at threads u) ⊎ ((row_at woken u).stage ≡ Active) → is_known a (row_at woken u).stage ≡ true
    by_stage u (inl same) = ap (λ (row : Thread). is_known a row.stage) same ∙ t.known u
    by_stage u (inr active) = ap (is_known a) active

-- those who still wait for an event object want what they wanted
pub wanted-woken : (threads woken : List Thread) (ts : List ℕ) (a : AllObjects) (wants new_wants : ℕ → List Want) → AreWanted threads a wants → Wakes threads woken ts → ((j : ℕ) → new_wants j ≡ wants j) → AreWanted woken a new_wants
wanted-woken threads woken ts a wants new_wants wanted w same j u within below waits = ap (λ (ws : List Want). want_at (slice_get ws u)) (same j) ∙ by_row (w.row u) waits
  where
    by_row : (row_at woken u ≡ row_at threads u) ⊎ ((row_at woken u).stage ≡ Active) → is_some (wait_row (calls_in a WaitList.Event j) (row_at woken u)) ≡ true → want_at (slice_get (wants j) u) ≡ want_of (row_at woken u).stage
    by_row (inl same) waits = wanted j u within (omega (arith, below, w.len)) (ap (λ (row : Thread). is_some (wait_row (calls_in a WaitList.Event j) row)) (sym same) ∙ waits) ∙ ap (λ (row : Thread). want_of row.stage) (sym same)
    by_row (inr active) waits = absurd (false≢true (sym (ap (λ stage. is_some (row_with (row_at woken u).base (number_in (calls_in a WaitList.Event j) stage))) active) ∙ waits))

-- the list begins with its first
record Begins (t : ℕ) (l : List ℕ) : Type 0 where
  others : List ℕ
  is : l ≡ t ∷ others

begins : (t : ℕ) (l : List ℕ) → head_of l ≡ Some t → Begins t l
begins t [] e = absurd (none-some t e)
begins t (x ∷ l) e = record { others = l; is = ap (λ u. u ∷ l) (same_Some x t e) }

pub no-head : (l : List ℕ) → head_of l ≡ None → l ≡ []
no-head [] e = refl
no-head (x ∷ l) e = absurd (none-some x (sym e))

-- the first of a list waits in it
pub first-in : (threads : List Thread) (a : AllObjects) (waits : WaitList → ℕ → Waits) (list : WaitList) (i t : ℕ) → AreTied threads a waits → i < (objects_in a list).limit → head_of (line (waits list i)) ≡ Some t → InLine threads (calls_in a list i) t
first-in threads a waits list i t tied there first =
    let p = calls_in a list i in
    let w = waits list i in
    let b = begins t (line w) first in
    (subst (EachOf (InLine threads p)) (sym (tied-line threads w p (tied.rows list i there)) ∙ b.is) (line-in threads w.order p)).0

-- it wakes, and leaves the list
module _ (threads woken : List Thread) (l new : Lists) (list : WaitList) (i t : ℕ) (change : Thread → Thread) (wakes_so : (row : Thread) → (change row).stage ≡ Active) (tied : IsTied threads l) (within : i < slots_in l list)
    (first : head_of (line (waits_in l list i)) ≡ Some t) (is : IsRelisted l new (Some (list, i)) (taken (Some t))) (woken_is : woken ≡ with_row threads t change) where
  below : i < (objects_in l.objects list).limit
  below = subst (λ n. i < n) (tied.slots list) within

  pub taken-there : t < length threads
  taken-there = (first-in threads l.objects (waits_in l) list i t tied.lists below first).there

  wakes-one : Wakes threads woken (t ∷ [])
  wakes-one = subst (λ all. Wakes threads all (t ∷ [])) (sym woken_is) (wakes (λ (u : ℕ). u) (λ u. change) (λ u row. wakes_so row) threads (t ∷ []))

  taken-rows : (other : WaitList) (j : ℕ) → (waits_in new other j).rows ≡ (if is_at other j (Some (list, i)) then cleared (waits_in l other j).rows (t ∷ []) else (waits_in l other j).rows)
  taken-rows other j = ap (λ (w : Waits). w.rows) (relisted-waits l new (Some (list, i)) (taken (Some t)) (λ w. refl) is within other j) ∙ by_test (is_at other j (Some (list, i)))
    where
      by_test : (c : Bool) → (if c then taken (Some t) (waits_in l other j) else waits_in l other j).rows ≡ (if c then cleared (waits_in l other j).rows (t ∷ []) else (waits_in l other j).rows)
      by_test true = refl
      by_test false = refl

  pub tied-taken : IsTied woken new
  tied-taken = record {
    slots = λ other. relisted-slots l new (Some (list, i)) (taken (Some t)) is other ∙ tied.slots other ∙ ap (λ (a : AllObjects). (objects_in a other).limit) (sym is.objects);
    lists = subst (λ (a : AllObjects). AreTied woken a (waits_in new)) (sym is.objects) (tied-woken threads woken (t ∷ []) l.objects (waits_in l) (waits_in new) list i tied.lists (first-in threads l.objects (waits_in l) list i t tied.lists below first, tt) wakes-one taken-rows);
    wants = subst (λ (a : AllObjects). AreWanted woken a (wants_in new)) (sym is.objects) (wanted-woken threads woken (t ∷ []) l.objects (wants_in l) (wants_in new) tied.wants wakes-one (relisted-wants l new (Some (list, i)) (taken (Some t)) is));
  }

-- the waiters of a list wake one after the other
pub record IsWaking (code : Code) (threads : List Thread) (l : Lists) (list : WaitList) (i : ℕ) (now : List Thread) (left : Lists) (woken : List ℕ) : Type 0 where
  pub tied : IsTied now left
  pub slots : slots_in left list ≡ slots_in l list
  pub parts : line (waits_in l list i) ≡ woken ++ line (waits_in left list i)
  pub rows : now ≡ all_woken code threads woken
  pub shown : IsShownAs l left
  pub others : (other : WaitList) (j : ℕ) → is_at other j (Some (list, i)) ≡ false → waits_in left other j ≡ waits_in l other j

-- they come behind some who woke before
pub record IsWakingOn (code : Code) (threads : List Thread) (l : Lists) (list : WaitList) (i : ℕ) (before : List ℕ) (now : List Thread) (left : Lists) (woken : List ℕ) : Type 0 where
  pub done : List ℕ
  pub is : woken ≡ before ++ done
  pub waking : IsWaking code threads l list i now left done

pub waking-start : (code : Code) (threads : List Thread) (l : Lists) (list : WaitList) (i : ℕ) (woken : List ℕ) → IsTied threads l → woken ≡ [] → IsWaking code threads l list i threads l woken
waking-start code threads l list i woken tied none = record {
  tied = tied;
  slots = refl;
  parts = ap (λ ts. ts ++ line (waits_in l list i)) (sym none);
  rows = ap (all_woken code threads) (sym none);
  shown = record { objects = refl; sems = refl; events = refl; mailboxes = refl; queues = refl };
  others = λ other j off. refl;
}

-- those who woke and those who still wait are no more than there are threads
pub waking-room : (code : Code) (threads : List Thread) (l : Lists) (list : WaitList) (i : ℕ) (now : List Thread) (left : Lists) (woken : List ℕ) → IsTied threads l → i < slots_in l list → IsWaking code threads l list i now left woken → length woken + length (line (waits_in left list i)) ≤ length threads
waking-room code threads l list i now left woken tied within s =
    let below : i < (objects_in l.objects list).limit = subst (λ n. i < n) (tied.slots list) within in
    omega (
      arith,
      ap length s.parts,
      length-append woken (line (waits_in left list i)),
      ap length (tied-line threads (waits_in l list i) (calls_in l.objects list i) (tied.lists.rows list i below)),
      line-few threads (waits_in l list i).order (calls_in l.objects list i),
    )

pub waking-few : (code : Code) (threads : List Thread) (l : Lists) (list : WaitList) (i : ℕ) (now : List Thread) (left : Lists) (woken : List ℕ) → IsTied threads l → i < slots_in l list → IsWaking code threads l list i now left woken → length woken ≤ length threads
waking-few code threads l list i now left woken tied within s = omega (arith, waking-room code threads l list i now left woken tied within s)

module _ (code : Code) (threads : List Thread) (l : Lists) (list : WaitList) (i : ℕ) (now : List Thread) (left : Lists) (woken : List ℕ) (within : i < slots_in l list) (s : IsWaking code threads l list i now left woken) (new : Lists) where
  -- the slot is still there
  pub waking-within : i < slots_in left list
  waking-within = subst (λ n. i < n) (sym s.slots) within

  orders : (o : Option ℕ) (w : Waits) → (taken o w).order ≡ w.order
  orders None w = refl
  orders (Some t) w = refl

  list-after : (o : Option ℕ) → IsRelisted left new (Some (list, i)) (taken o) → waits_in new list i ≡ taken o (waits_in left list i)
  list-after o is = relisted-waits left new (Some (list, i)) (taken o) (orders o) is waking-within list i ∙ ap (λ c. if c then taken o (waits_in left list i) else waits_in left list i) (at-itself list i)

  -- one more wakes
  pub waking-more : (t : ℕ) (rows : List Thread) (more : List ℕ) → head_of (line (waits_in left list i)) ≡ Some t → IsRelisted left new (Some (list, i)) (taken (Some t)) → rows ≡ with_row now t (woken_row code) → more ≡ woken ++ t ∷ [] → IsWaking code threads l list i rows new more
  waking-more t rows more first is rows_is more_is =
      let w = waits_in left list i in
      let b = begins t (line w) first in
      let shorter : line (waits_in new list i) ≡ b.others = ap line (list-after (Some t) is) ∙ left_line w.order w.rows t (first_held w (Some t) (sym first)) [] b.others b.is in
      record {
        tied = tied-taken now rows left new list i t (woken_row code) (λ row. refl) s.tied waking-within first is rows_is;
        slots = relisted-slots left new (Some (list, i)) (taken (Some t)) is list ∙ s.slots;
        parts = s.parts
            ∙ ap (λ ts. woken ++ ts) b.is
            ∙ sym (append_assoc woken (t ∷ []) b.others)
            ∙ ap (λ ts. ts ++ b.others) (sym more_is)
            ∙ ap (λ ts. more ++ ts) (sym shorter);
        rows = rows_is ∙ ap (λ all. with_row all t (woken_row code)) s.rows ∙ sym (fold-append (λ all u. with_row all u (woken_row code)) threads woken (t ∷ [])) ∙ ap (all_woken code threads) (sym more_is);
        shown = shown-again l left new s.shown (relisted-shown left new (Some (list, i)) (taken (Some t)) is (orders (Some t)));
        others = λ other j off. relisted-waits left new (Some (list, i)) (taken (Some t)) (orders (Some t)) is waking-within other j ∙ ap (λ c. if c then taken (Some t) (waits_in left other j) else waits_in left other j) off ∙ s.others other j off;
      }

  -- the list gets shorter
  pub waking-less : (t : ℕ) → head_of (line (waits_in left list i)) ≡ Some t → IsRelisted left new (Some (list, i)) (taken (Some t)) → length (line (waits_in new list i)) < length (line (waits_in left list i))
  waking-less t first is =
      let w = waits_in left list i in
      let b = begins t (line w) first in
      let shorter : line (waits_in new list i) ≡ b.others = ap line (list-after (Some t) is) ∙ left_line w.order w.rows t (first_held w (Some t) (sym first)) [] b.others b.is in
      omega (arith, ap length shorter, ap length b.is)

  -- nobody is left, and the lists are as they were
  taken-none : IsRelisted left new (Some (list, i)) (taken None) → (other : WaitList) (j : ℕ) → waits_in new other j ≡ waits_in left other j
  taken-none is other j = relisted-waits left new (Some (list, i)) (taken None) (orders None) is waking-within other j ∙ by_test (is_at other j (Some (list, i)))
    where
      by_test : (c : Bool) → (if c then waits_in left other j else waits_in left other j) ≡ waits_in left other j
      by_test true = refl
      by_test false = refl

  pub waking-over : head_of (line (waits_in left list i)) ≡ None → IsRelisted left new (Some (list, i)) (taken None) → IsWaking code threads l list i now new woken × (line (waits_in new list i) ≡ [])
  waking-over none is = (
    record {
      tied = record {
        slots = λ other. relisted-slots left new (Some (list, i)) (taken None) is other ∙ s.tied.slots other ∙ ap (λ (a : AllObjects). (objects_in a other).limit) (sym is.objects);
        lists = subst (λ (a : AllObjects). AreTied now a (waits_in new)) (sym is.objects) (tied-same now left.objects (waits_in left) (waits_in new) (λ other j below. ap (λ (w : Waits). w.rows) (taken-none is other j)) s.tied.lists);
        wants = subst (λ (a : AllObjects). AreWanted now a (wants_in new)) (sym is.objects) (λ j u below there waits. ap (λ (ws : List Want). want_at (slice_get ws u)) (relisted-wants left new (Some (list, i)) (taken None) is j) ∙ s.tied.wants j u below there waits);
      };
      slots = relisted-slots left new (Some (list, i)) (taken None) is list ∙ s.slots;
      parts = s.parts ∙ ap (λ (w : Waits). woken ++ line w) (sym (taken-none is list i));
      rows = s.rows;
      shown = shown-again l left new s.shown (relisted-shown left new (Some (list, i)) (taken None) is (orders None));
      others = λ other j off. taken-none is other j ∙ s.others other j off;
    },
    ap line (taken-none is list i) ∙ no-head (line (waits_in left list i)) none,
  )
