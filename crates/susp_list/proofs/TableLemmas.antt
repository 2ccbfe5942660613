-- The waiters of a table of rows, and their links, after one row was written.
use Rattle.std.proofs.Common.{ℕ, ◌≡◌, ◌≢◌, ◌+◌, ◌-◌, ◌<◌, ◌≤◌, zero, suc, List, [], ◌∷◌, ◌++◌, length, set, get_or, Option, Some, None, true, false, refl, sym, ap, subst, ◌∙◌, arith, length-set, length-append, inl, inr, ◌⊎◌}
use Rattle.std.specs.Prelude.{slice_get, if◌then◌else◌, ◌==◌, drop, replicate, IfSome}
use Rattle.std.specs.List.{filter_map, range_with_len, cons_option}
use Rattle.std.proofs.lemmas.Bool.{cases_eq, false≢true, eq-eqb, ne_eqb}
use Rattle.std.proofs.lemmas.List.{map-append, set-set, length-map, append_assoc, length-replicate, get_or-replicate, nil_from_length}
use Rattle.std.proofs.lemmas.List.FromFn.{length-range_with_len}
use Rattle.std.proofs.lemmas.Option.{slice_get_within, slice_get_past, none-some, same_Some, get_or_from_slice_get, slice_get-get_or}
use Rattle.rt_base.specs.declared.codes.WaitOrder.{WaitOrder}
use Rattle.rt_plain.specs.kernel.Waiting.{Waiter, put_in_order, in_order, head_of}
use Rattle.susp_list.specs.declared.row.Row.{Row}
use Rattle.susp_list.specs.Rows.{Waits, waiter, waiter_of, waiters, line, is_waiting}
use Rattle.susp_list.specs.Links.{IsRing, IsPlace, IsLinkedOn, IsLinkedBack, threads_of, first_or, last_or}
use Rattle.susp_list.proofs.LinkLemmas.{NotIn, NotIn-right, Distinct, get-set_same, get-set_other, insert_on, insert_back, remove_on, remove_back, joint_on, at_on, at_back, after_back, start_on, joint_back}
use Rattle.susp_list.proofs.OrderLemmas.{length-in_order, Each, Each-in_order, Split, split, put_comm, Distinct-in_order}

abbrev pub given : List (Option Row) → ℕ → Option Waiter
given rows t = waiter_of t (slice_get rows t)

abbrev pub waits : WaitOrder → List (Option Row) → Waits
waits o rows = record { order = o; rows = rows }

-- the waiters of a table, in order
abbrev pub standing : WaitOrder → List (Option Row) → List Waiter
standing o rows = in_order o (waiters (waits o rows))

pub thread_of_given : (t : ℕ) (g : Option (Option Row)) (w : Waiter) → waiter_of t g ≡ Some w → w.thread ≡ t
thread_of_given t None w e = absurd (none-some w e)
thread_of_given t (Some None) w e = absurd (none-some w e)
thread_of_given t (Some (Some row)) w e = sym (ap (λ (v : Waiter). v.thread) (same_Some (waiter t row) w e))

-- the row of a waiter is in the table
abbrev pub HasRow : List (Option Row) → Waiter → Type 0
HasRow rows w = given rows w.thread ≡ Some w

Each-given : (rows : List (Option Row)) (ts : List ℕ) → Each (HasRow rows) (filter_map (given rows) ts)
Each-given rows [] = tt
Each-given rows (t ∷ ts) = by_case (given rows t) refl (Each-given rows ts)
  where
    by_case : (o : Option Waiter) → given rows t ≡ o → Each (HasRow rows) (filter_map (given rows) ts) → Each (HasRow rows) (cons_option o (filter_map (given rows) ts))
    by_case None e r = r
    by_case (Some w) e r = (subst (λ u. given rows u ≡ Some w) (sym (thread_of_given t (slice_get rows t) w e)) e, r)

pub Each-standing : (o : WaitOrder) (rows : List (Option Row)) → Each (HasRow rows) (standing o rows)
Each-standing o rows = Each-in_order (HasRow rows) o (waiters (waits o rows)) (Each-given rows (range_with_len 0 (length rows)))

pub NotIn-without : (rows : List (Option Row)) (t : ℕ) (ws : List Waiter) → given rows t ≡ None → Each (HasRow rows) ws → NotIn t (threads_of ws)
NotIn-without rows t [] e h = tt
NotIn-without rows t (w ∷ ws) e h =
    (λ k. none-some w (sym e ∙ subst (λ u. given rows u ≡ Some w) (sym k) h.0), NotIn-without rows t ws e h.1)

pub given-past : (rows : List (Option Row)) (t : ℕ) → length rows ≤ t → given rows t ≡ None
given-past rows t h = ap (waiter_of t) (slice_get_past rows t h)

-- neither the root nor a thread without a row is in the line
pub NotIn-standing : (o : WaitOrder) (rows : List (Option Row)) (t : ℕ) → given rows t ≡ None → NotIn t (threads_of (standing o rows))
NotIn-standing o rows t e = NotIn-without rows t (standing o rows) e (Each-standing o rows)

NotIn-given : (rows : List (Option Row)) (t : ℕ) (ts : List ℕ) → NotIn t ts → NotIn t (threads_of (filter_map (given rows) ts))
NotIn-given rows t [] n = tt
NotIn-given rows t (x ∷ ts) n = by_case (given rows x) refl (NotIn-given rows t ts n.1)
  where
    by_case : (o : Option Waiter) → given rows x ≡ o → NotIn t (threads_of (filter_map (given rows) ts)) → NotIn t (threads_of (cons_option o (filter_map (given rows) ts)))
    by_case None e r = r
    by_case (Some w) e r = (λ k. n.0 (k ∙ thread_of_given x (slice_get rows x) w e), r)

Distinct-given : (rows : List (Option Row)) (ts : List ℕ) → Distinct ts → Distinct (threads_of (filter_map (given rows) ts))
Distinct-given rows [] d = tt
Distinct-given rows (x ∷ ts) d = by_case (given rows x) refl (NotIn-given rows x ts d.0) (Distinct-given rows ts d.1)
  where
    by_case : (o : Option Waiter) → given rows x ≡ o → NotIn x (threads_of (filter_map (given rows) ts)) → Distinct (threads_of (filter_map (given rows) ts)) → Distinct (threads_of (cons_option o (filter_map (given rows) ts)))
    by_case None e n r = r
    by_case (Some w) e n r = (subst (λ u. NotIn u (threads_of (filter_map (given rows) ts))) (sym (thread_of_given x (slice_get rows x) w e)) n, r)

NotIn-range : (k a n : ℕ) → k < a → NotIn k (range_with_len a n)
NotIn-range k a zero h = tt
NotIn-range k a (suc n) h = (omega arith, NotIn-range k (a + 1) n (omega arith))

Distinct-range : (a n : ℕ) → Distinct (range_with_len a n)
Distinct-range a zero = tt
Distinct-range a (suc n) = (NotIn-range a (a + 1) n (omega arith), Distinct-range (a + 1) n)

is_in_range : (k a n : ℕ) → a ≤ k → k < a + n → NotIn k (range_with_len a n) → ⊥
is_in_range k a zero l h m = omega arith
is_in_range k a (suc n) l h m = is_in_range k (a + 1) n (let ne = m.0 in omega arith) (omega arith) m.1

pub Distinct-waiters : (o : WaitOrder) (rows : List (Option Row)) → Distinct (threads_of (waiters (waits o rows)))
Distinct-waiters o rows = Distinct-given rows (range_with_len 0 (length rows)) (Distinct-range 0 (length rows))

pub Distinct-standing : (o : WaitOrder) (rows : List (Option Row)) → Distinct (threads_of (standing o rows))
Distinct-standing o rows = Distinct-in_order o (waiters (waits o rows)) (Distinct-waiters o rows)

same_given : (rows : List (Option Row)) (t : ℕ) (y : Option Row) (ts : List ℕ) → NotIn t ts → filter_map (given (set rows t y)) ts ≡ filter_map (given rows) ts
same_given rows t y [] n = refl
same_given rows t y (x ∷ ts) n = λ i. cons_option (waiter_of x (get-set_other rows t x y (λ e. n.0 (sym e)) i)) (same_given rows t y ts n.1 i)

-- a row more is a waiter put in order
joined_given : (o : WaitOrder) (rows : List (Option Row)) (t : ℕ) (row : Row) (ts : List ℕ) → Distinct ts → (NotIn t ts → ⊥) → given rows t ≡ None → t < length rows
    → in_order o (filter_map (given (set rows t (Some row))) ts) ≡ put_in_order o (waiter t row) (in_order o (filter_map (given rows) ts))
joined_given o rows t row [] d m e h = absurd (m tt)
joined_given o rows t row (x ∷ ts) d m e h = by_place (cases_eq t x) (λ n. joined_given o rows t row ts d.1 n e h)
  where
    here : given (set rows t (Some row)) t ≡ Some (waiter t row)
    here = ap (waiter_of t) (get-set_same rows t (Some row) h)

    at_place : NotIn t ts → in_order o (filter_map (given (set rows t (Some row))) (t ∷ ts)) ≡ put_in_order o (waiter t row) (in_order o (filter_map (given rows) (t ∷ ts)))
    at_place n =
        ap (λ g. in_order o (cons_option g (filter_map (given (set rows t (Some row))) ts))) here
        ∙ ap (λ l. put_in_order o (waiter t row) (in_order o l)) (same_given rows t (Some row) ts n)
        ∙ sym (ap (λ g. put_in_order o (waiter t row) (in_order o (cons_option g (filter_map (given rows) ts)))) e)

    by_case : (g : Option Waiter) → given rows x ≡ g → t ≢ x
        → in_order o (filter_map (given (set rows t (Some row))) ts) ≡ put_in_order o (waiter t row) (in_order o (filter_map (given rows) ts))
        → in_order o (cons_option g (filter_map (given (set rows t (Some row))) ts)) ≡ put_in_order o (waiter t row) (in_order o (cons_option g (filter_map (given rows) ts)))
    by_case None k ne rest = rest
    by_case (Some v) k ne rest =
        ap (put_in_order o v) rest
        ∙ put_comm o v (waiter t row) (in_order o (filter_map (given rows) ts)) (λ same. ne (sym same ∙ thread_of_given x (slice_get rows x) v k))

    by_place : (t ≡ x) ⊎ (t ≡ x → ⊥) → ((NotIn t ts → ⊥) → in_order o (filter_map (given (set rows t (Some row))) ts) ≡ put_in_order o (waiter t row) (in_order o (filter_map (given rows) ts))) → in_order o (filter_map (given (set rows t (Some row))) (x ∷ ts)) ≡ put_in_order o (waiter t row) (in_order o (filter_map (given rows) (x ∷ ts)))
    by_place (inl same) rest =
        subst (λ u. in_order o (filter_map (given (set rows t (Some row))) (u ∷ ts)) ≡ put_in_order o (waiter t row) (in_order o (filter_map (given rows) (u ∷ ts)))) same
        (at_place (subst (λ u. NotIn u ts) (sym same) d.0))
    by_place (inr ne) rest =
        ap (λ g. in_order o (cons_option (waiter_of x g) (filter_map (given (set rows t (Some row))) ts))) (get-set_other rows t x (Some row) (λ k. ne (sym k)))
        ∙ by_case (given rows x) refl ne (rest (λ n. m (ne, n)))

pub standing_joined : (o : WaitOrder) (rows : List (Option Row)) (t : ℕ) (row : Row) → given rows t ≡ None → t < length rows
    → standing o (set rows t (Some row)) ≡ put_in_order o (waiter t row) (standing o rows)
standing_joined o rows t row e h =
    ap (λ n. in_order o (filter_map (given (set rows t (Some row))) (range_with_len 0 n))) (length-set rows t (Some row))
    ∙ joined_given o rows t row (range_with_len 0 (length rows)) (Distinct-range 0 (length rows)) (is_in_range t 0 (length rows) (omega arith) (omega arith)) e h

set-same : {X : Type 0} → (xs : List X) (i : ℕ) (y : X) → slice_get xs i ≡ Some y → set xs i y ≡ xs
set-same [] i y e = refl
set-same (x ∷ xs) zero y e = ap (λ z. z ∷ xs) (sym (same_Some x y e))
set-same (x ∷ xs) (suc i) y e = ap (λ zs. x ∷ zs) (set-same xs i y e)

-- before a thread left, it was a waiter put in order
pub standing_left : (o : WaitOrder) (rows : List (Option Row)) (t : ℕ) (row : Row) → slice_get rows t ≡ Some (Some row)
    → standing o rows ≡ put_in_order o (waiter t row) (standing o (set rows t None))
standing_left o rows t row e =
    let h : t < length rows = slice_get_within rows t (Some row) e in
    let back : set (set rows t None) t (Some row) ≡ rows = set-set rows t None (Some row) ∙ set-same rows t (Some row) e in
    let none : given (set rows t None) t ≡ None = ap (waiter_of t) (get-set_same rows t None h) in
    let same : length (set rows t None) ≡ length rows = length-set rows t None in
    let within : t < length (set rows t None) = omega arith in
    ap (standing o) (sym back) ∙ standing_joined o (set rows t None) t row none within

pub threads_split : (a b : List Waiter) → threads_of (a ++ b) ≡ threads_of a ++ threads_of b
threads_split a b = map-append (λ (w : Waiter). w.thread) a b

-- the links after a thread joined
pub ring_joined : (o : WaitOrder) (rows : List (Option Row)) (next prev : List ℕ) (root len t before after : ℕ) (row : Row)
    → IsRing (waits o rows) next prev root len → given rows t ≡ None → t < length rows → IsPlace (waits o rows) (waiter t row) before → after ≡ get_or next before 0
    → IsRing (waits o (set rows t (Some row))) (set (set next t after) before t) (set (set prev t before) after t) root (len + 1)
ring_joined o rows next prev root len t before after row ring free h place is = record {
  root_is = ring.root_is ∙ sym (length-set rows t (Some row));
  next_len = length-set (set next t after) before t ∙ length-set next t after ∙ ring.next_len;
  prev_len = length-set (set prev t before) after t ∙ length-set prev t before ∙ ring.prev_len;
  on = subst (λ l. IsLinkedOn (set (set next t after) before t) root l root) (sym new_line)
      (subst (λ a. IsLinkedOn (set (set next t a) before t) root (front ++ t ∷ rest) root) (sym after_is)
      (subst (λ p. IsLinkedOn (set (set next t (first_or root rest)) p t) root (front ++ t ∷ rest) root) (sym before_is)
      (insert_on next root front t rest root (omega (arith, ring.next_len, ring.root_is, h)) root_ne t_out root_out apart on_old)));
  back = subst (λ l. IsLinkedBack (set (set prev t before) after t) root l root) (sym new_line)
      (subst (λ a. IsLinkedBack (set (set prev t before) a t) root (front ++ t ∷ rest) root) (sym after_is)
      (subst (λ p. IsLinkedBack (set (set prev t p) (first_or root rest) t) root (front ++ t ∷ rest) root) (sym before_is)
      (insert_back prev root front t rest root (omega (arith, ring.prev_len, ring.root_is, h)) root_ne t_out root_out apart back_old)));
  counted = ap (λ n. n + 1) (ring.counted ∙ ap length old_line ∙ length-append front rest) ∙ omega (arith, length-append front (t ∷ rest)) ∙ sym (ap length new_line);
}
  where
    front : List ℕ
    front = threads_of place.front

    rest : List ℕ
    rest = threads_of place.rest

    old_line : line (waits o rows) ≡ threads_of place.front ++ threads_of place.rest
    old_line = ap threads_of place.old_line ∙ threads_split place.front place.rest

    new_line : line (waits o (set rows t (Some row))) ≡ threads_of place.front ++ t ∷ threads_of place.rest
    new_line = ap threads_of (standing_joined o rows t row free h ∙ place.new_line) ∙ threads_split place.front (waiter t row ∷ place.rest)

    before_is : before ≡ last_or root (threads_of place.front)
    before_is = place.last ∙ ap (λ n. last_or n (threads_of place.front)) (sym ring.root_is)

    on_old : IsLinkedOn next root (threads_of place.front ++ threads_of place.rest) root
    on_old = subst (λ l. IsLinkedOn next root l root) old_line ring.on

    back_old : IsLinkedBack prev root (threads_of place.front ++ threads_of place.rest) root
    back_old = subst (λ l. IsLinkedBack prev root l root) old_line ring.back

    after_is : after ≡ first_or root (threads_of place.rest)
    after_is = is ∙ ap (λ p. get_or next p 0) before_is ∙ get_or_from_slice_get next (last_or root (threads_of place.front)) (first_or root (threads_of place.rest)) 0 (joint_on next root (threads_of place.front) (threads_of place.rest) root on_old)

    root_ne : root ≢ t
    root_ne e = omega (arith, e, h, ring.root_is)

    t_out : NotIn t (threads_of place.front ++ threads_of place.rest)
    t_out = subst (λ l. NotIn t l) old_line (NotIn-standing o rows t free)

    root_out : NotIn root (threads_of place.front ++ threads_of place.rest)
    root_out = subst (λ l. NotIn root l) old_line (NotIn-standing o rows root (given-past rows root (omega (arith, ring.root_is))))

    apart : Distinct (threads_of place.front ++ threads_of place.rest)
    apart = subst Distinct old_line (Distinct-standing o rows)

-- the links after a thread left
pub ring_left : (o : WaitOrder) (rows : List (Option Row)) (next prev : List ℕ) (root len t before after : ℕ) (row : Row)
    → IsRing (waits o rows) next prev root len → slice_get rows t ≡ Some (Some row) → before ≡ get_or prev t 0 → after ≡ get_or next t 0
    → (1 ≤ len) × IsRing (waits o (set rows t None)) (set next before after) (set prev after before) root (len - 1)
ring_left o rows next prev root len t before after row ring e before_at after_at = (
  omega (arith, count),
  record {
    root_is = ring.root_is ∙ sym (length-set rows t None);
    next_len = length-set next before after ∙ ring.next_len;
    prev_len = length-set prev after before ∙ ring.prev_len;
    on = subst (λ l. IsLinkedOn (set next before after) root l root) (sym new_line)
        (subst (λ a. IsLinkedOn (set next before a) root (front ++ rest) root) (sym after_is)
        (subst (λ p. IsLinkedOn (set next p (first_or root rest)) root (front ++ rest) root) (sym before_is)
        (remove_on next root front t rest root root_out apart on_old)));
    back = subst (λ l. IsLinkedBack (set prev after before) root l root) (sym new_line)
        (subst (λ a. IsLinkedBack (set prev a before) root (front ++ rest) root) (sym after_is)
        (subst (λ p. IsLinkedBack (set prev (first_or root rest) p) root (front ++ rest) root) (sym before_is)
        (remove_back prev root front t rest root root_out apart back_old)));
    counted = omega (arith, count) ∙ sym (length-append front rest) ∙ sym (ap length new_line);
  },
)
  where
    place : Split o (waiter t row) (standing o (set rows t None))
    place = split o (waiter t row) (standing o (set rows t None))

    front : List ℕ
    front = threads_of place.front

    rest : List ℕ
    rest = threads_of place.rest

    old_line : line (waits o rows) ≡ front ++ t ∷ rest
    old_line = ap threads_of (standing_left o rows t row e ∙ place.new) ∙ threads_split place.front (waiter t row ∷ place.rest)

    new_line : line (waits o (set rows t None)) ≡ front ++ rest
    new_line = ap threads_of place.old ∙ threads_split place.front place.rest

    count : len ≡ length front + length (t ∷ rest)
    count = ring.counted ∙ ap length old_line ∙ length-append front (t ∷ rest)

    on_old : IsLinkedOn next root (front ++ t ∷ rest) root
    on_old = subst (λ l. IsLinkedOn next root l root) old_line ring.on

    back_old : IsLinkedBack prev root (front ++ t ∷ rest) root
    back_old = subst (λ l. IsLinkedBack prev root l root) old_line ring.back

    before_is : before ≡ last_or root front
    before_is = before_at ∙ get_or_from_slice_get prev t (last_or root front) 0 (at_back prev root front t rest root back_old)

    after_is : after ≡ first_or root rest
    after_is = after_at ∙ get_or_from_slice_get next t (first_or root rest) 0 (at_on next root front t rest root on_old)

    root_out : NotIn root (front ++ t ∷ rest)
    root_out = subst (λ l. NotIn root l) old_line (NotIn-standing o rows root (given-past rows root (omega (arith, ring.root_is))))

    apart : Distinct (front ++ t ∷ rest)
    apart = subst Distinct old_line (Distinct-standing o rows)

-- a thread that waits has a row
pub row_held : (g : Option (Option Row)) → is_waiting g ≡ true → (row : Row) × (g ≡ Some (Some row))
row_held None e = absurd (false≢true e)
row_held (Some None) e = absurd (false≢true e)
row_held (Some (Some row)) e = (row, refl)

-- a thread that waits stands somewhere in the line
pub line_at : (o : WaitOrder) (rows : List (Option Row)) (t : ℕ) → is_waiting (slice_get rows t) ≡ true
    → (front : List ℕ) × ((rest : List ℕ) × (line (waits o rows) ≡ front ++ t ∷ rest))
line_at o rows t e =
    let held = row_held (slice_get rows t) e in
    let place = split o (waiter t held.0) (standing o (set rows t None)) in
    (threads_of place.front, (threads_of place.rest, ap threads_of (standing_left o rows t held.0 held.1 ∙ place.new) ∙ threads_split place.front (waiter t held.0 ∷ place.rest)))

-- a thread that waits and its neighbours have links
pub record HasLinks (next prev : List ℕ) (t : ℕ) : Type 0 where
  pub on : t < length next
  pub back : t < length prev
  pub before : get_or prev t 0 < length next
  pub after : get_or next t 0 < length prev

pub links_there : (o : WaitOrder) (rows : List (Option Row)) (next prev : List ℕ) (root len t : ℕ) → IsRing (waits o rows) next prev root len
    → is_waiting (slice_get rows t) ≡ true → HasLinks next prev t
links_there o rows next prev root len t ring e =
    let at = line_at o rows t e in
    let on = subst (λ l. IsLinkedOn next root l root) at.1.1 ring.on in
    let back = subst (λ l. IsLinkedBack prev root l root) at.1.1 ring.back in
    let held = row_held (slice_get rows t) e in
    let h : t < length rows = slice_get_within rows t (Some held.0) held.1 in
    let before : get_or prev t 0 ≡ last_or root at.0 = get_or_from_slice_get prev t (last_or root at.0) 0 (at_back prev root at.0 t at.1.0 root back) in
    let after : get_or next t 0 ≡ first_or root at.1.0 = get_or_from_slice_get next t (first_or root at.1.0) 0 (at_on next root at.0 t at.1.0 root on) in
    let b : last_or root at.0 < length next = slice_get_within next (last_or root at.0) t (joint_on next root at.0 (t ∷ at.1.0) root on) in
    let a : first_or root at.1.0 < length prev = slice_get_within prev (first_or root at.1.0) t (after_back prev root at.0 t at.1.0 root back) in
    record { on = omega (arith, ring.root_is, ring.next_len); back = omega (arith, ring.root_is, ring.prev_len); before = omega arith; after = omega arith }

-- the number of waiters
pub len_is : (w : Waits) (next prev : List ℕ) (root len : ℕ) → IsRing w next prev root len → len ≡ length (waiters w)
len_is w next prev root len ring = ring.counted ∙ length-map (in_order w.order (waiters w)) (λ (v : Waiter). v.thread) ∙ length-in_order w.order (waiters w)

-- an empty list has the same links in every order
pub ring_reset : (w : Waits) (next prev : List ℕ) (root len : ℕ) (o : WaitOrder) → IsRing w next prev root len → length (line w) ≡ 0 → IsRing (waits o w.rows) next prev root len
ring_reset w next prev root len o ring e =
    let old : line w ≡ [] = nil_from_length (line w) e in
    let count : length (line w) ≡ length (waiters w) = sym ring.counted ∙ len_is w next prev root len ring in
    let none : waiters w ≡ [] = nil_from_length (waiters w) (sym count ∙ e) in
    let new : line (waits o w.rows) ≡ [] = ap (λ ws. threads_of (in_order o ws)) none in
    record {
      root_is = ring.root_is;
      next_len = ring.next_len;
      prev_len = ring.prev_len;
      on = subst (λ l. IsLinkedOn next root l root) (old ∙ sym new) ring.on;
      back = subst (λ l. IsLinkedBack prev root l root) (old ∙ sym new) ring.back;
      counted = ring.counted ∙ ap length (old ∙ sym new);
    }

root_not_in : (w : Waits) (next prev : List ℕ) (root len : ℕ) → IsRing w next prev root len → NotIn root (line w)
root_not_in w next prev root len ring = NotIn-standing w.order w.rows root (given-past w.rows root (omega (arith, ring.root_is)))

-- a number is that of a waiter, or the root where there is none
number_found : (root : ℕ) (l : List ℕ) (n : ℕ) → NotIn root l → n ≡ first_or root l → (if n == root then None else Some n) ≡ head_of l
number_found root [] n out e = ap (λ b. if b then None else Some n) (eq-eqb n root e)
number_found root (t ∷ ts) n out e = ap (λ b. if b then None else Some n) (ne_eqb n root (λ k. out.0 (sym k ∙ e))) ∙ ap (λ u. Some u) e

NotIn-drop : (t : ℕ) (l : List ℕ) → NotIn t l → NotIn t (drop 1 l)
NotIn-drop t [] n = tt
NotIn-drop t (x ∷ l) n = n.1

second_on : (next : List ℕ) (root : ℕ) (l : List ℕ) → IsLinkedOn next root l root → slice_get next (first_or root l) ≡ Some (first_or root (drop 1 l))
second_on next root [] on = on
second_on next root (t ∷ ts) on = start_on next t ts root on.1

pub first_is : (w : Waits) (next prev : List ℕ) (root len n : ℕ) → IsRing w next prev root len → n ≡ get_or next root n
    → (if n == length w.rows then None else Some n) ≡ head_of (line w)
first_is w next prev root len n ring e =
    ap (λ r. if n == r then None else Some n) (sym ring.root_is)
    ∙ number_found root (line w) n (root_not_in w next prev root len ring) (e ∙ get_or_from_slice_get next root (first_or root (line w)) n (start_on next root (line w) root ring.on))

-- the link of the first, or of the root where nobody waits
pub second_there : (w : Waits) (next prev : List ℕ) (root len n : ℕ) → IsRing w next prev root len → n ≡ get_or next root n → n < length next
second_there w next prev root len n ring e =
    let is : n ≡ first_or root (line w) = e ∙ get_or_from_slice_get next root (first_or root (line w)) n (start_on next root (line w) root ring.on) in
    let h : first_or root (line w) < length next = slice_get_within next (first_or root (line w)) _ (second_on next root (line w) ring.on) in
    omega arith

pub second_is : (w : Waits) (next prev : List ℕ) (root len n m : ℕ) → IsRing w next prev root len → n ≡ get_or next root n → m ≡ get_or next n m
    → (if m == length w.rows then None else Some m) ≡ head_of (drop 1 (line w))
second_is w next prev root len n m ring e k =
    let is : n ≡ first_or root (line w) = e ∙ get_or_from_slice_get next root (first_or root (line w)) n (start_on next root (line w) root ring.on) in
    ap (λ r. if m == r then None else Some m) (sym ring.root_is)
    ∙ number_found root (drop 1 (line w)) m (NotIn-drop root (line w) (root_not_in w next prev root len ring))
    (k ∙ ap (λ u. get_or next u m) is ∙ get_or_from_slice_get next (first_or root (line w)) (first_or root (drop 1 (line w))) m (second_on next root (line w) ring.on))

NotIn-at : (x : ℕ) (front : List ℕ) (t : ℕ) (rest : List ℕ) → NotIn x (front ++ t ∷ rest) → x ≢ t
NotIn-at x [] t rest n = n.0
NotIn-at x (y ∷ front) t rest n = NotIn-at x front t rest n.1

-- each of the line waits
abbrev pub EachHeld : List (Option Row) → List ℕ → Type 0
EachHeld rows [] = Unit {0}
EachHeld rows (t ∷ ts) = (is_waiting (slice_get rows t) ≡ true) × EachHeld rows ts

waiting_given : (t : ℕ) (g : Option (Option Row)) (w : Waiter) → waiter_of t g ≡ Some w → is_waiting g ≡ true
waiting_given t None w e = absurd (none-some w e)
waiting_given t (Some None) w e = absurd (none-some w e)
waiting_given t (Some (Some row)) w e = refl

each_held : (rows : List (Option Row)) (ws : List Waiter) → Each (HasRow rows) ws → EachHeld rows (threads_of ws)
each_held rows [] h = tt
each_held rows (w ∷ ws) h = (waiting_given w.thread (slice_get rows w.thread) w h.0, each_held rows ws h.1)

line_held : (w : Waits) → EachHeld w.rows (line w)
line_held w = each_held w.rows (in_order w.order (waiters w)) (Each-standing w.order w.rows)

held_right : (rows : List (Option Row)) (a b : List ℕ) → EachHeld rows (a ++ b) → EachHeld rows b
held_right rows [] b h = h
held_right rows (t ∷ a) b h = held_right rows a b h.1

head_held : (rows : List (Option Row)) (l : List ℕ) → EachHeld rows l → IfSome (head_of l) (λ t. is_waiting (slice_get rows t) ≡ true)
head_held rows [] h = tt
head_held rows (t ∷ ts) h = h.0

head_other : (t : ℕ) (l : List ℕ) → NotIn t l → IfSome (head_of l) (λ u. u ≢ t)
head_other t [] n = tt
head_other t (u ∷ us) n = λ e. n.0 (sym e)

-- the first waits
pub first_held : (w : Waits) (first : Option ℕ) → first ≡ head_of (line w) → IfSome first (λ t. is_waiting (slice_get w.rows t) ≡ true)
first_held w first e = subst (λ o. IfSome o (λ t. is_waiting (slice_get w.rows t) ≡ true)) (sym e) (head_held w.rows (line w) (line_held w))

-- the link of a thread is to the one behind it
pub after_split : (w : Waits) (next prev : List ℕ) (root len t n : ℕ) → IsRing w next prev root len → n ≡ get_or next t n → (front rest : List ℕ) → line w ≡ front ++ t ∷ rest
    → (if n == length w.rows then None else Some n) ≡ head_of rest
after_split w next prev root len t n ring e front rest at =
    let on = subst (λ l. IsLinkedOn next root l root) at ring.on in
    let out = NotIn-right root (front ++ t ∷ []) rest (subst (λ l. NotIn root l) (at ∙ sym (append_assoc front (t ∷ []) rest)) (root_not_in w next prev root len ring)) in
    ap (λ r. if n == r then None else Some n) (sym ring.root_is)
    ∙ number_found root rest n out (e ∙ get_or_from_slice_get next t (first_or root rest) n (at_on next root front t rest root on))

pub after_held : (w : Waits) (t : ℕ) (after : Option ℕ) (front rest : List ℕ) → line w ≡ front ++ t ∷ rest → after ≡ head_of rest → IfSome after (λ u. is_waiting (slice_get w.rows u) ≡ true)
after_held w t after front rest at e =
    subst (λ o. IfSome o (λ u. is_waiting (slice_get w.rows u) ≡ true)) (sym e) (head_held w.rows rest (held_right w.rows front (t ∷ rest) (subst (EachHeld w.rows) at (line_held w))).1)

Distinct-right : (a b : List ℕ) → Distinct (a ++ b) → Distinct b
Distinct-right [] b d = d
Distinct-right (x ∷ a) b d = Distinct-right a b d.1

pub after_other : (w : Waits) (t : ℕ) (after : Option ℕ) (front rest : List ℕ) → line w ≡ front ++ t ∷ rest → after ≡ head_of rest → IfSome after (λ u. u ≢ t)
after_other w t after front rest at e =
    subst (λ o. IfSome o (λ u. u ≢ t)) (sym e) (head_other t rest (Distinct-right front (t ∷ rest) (subst Distinct at (Distinct-standing w.order w.rows))).0)

-- a list is split in one way at a number that it has once
same_split : (t : ℕ) (a b c d : List ℕ) → Distinct (a ++ t ∷ b) → a ++ t ∷ b ≡ c ++ t ∷ d → a ++ b ≡ c ++ d
same_split t [] b [] d apart e = cc
same_split t [] b (x ∷ c) d apart e =
    let rest : b ≡ c ++ t ∷ d = cc in
    absurd (NotIn-at t c t d (subst (NotIn t) rest apart.0) refl)
same_split t (x ∷ a) b [] d apart e =
    let same : x ≡ t = cc in
    absurd (NotIn-at x a t b apart.0 same)
same_split t (x ∷ a) b (y ∷ c) d apart e =
    let first : x ≡ y = cc in
    let rest : a ++ t ∷ b ≡ c ++ t ∷ d = cc in
    λ i. first i ∷ same_split t a b c d apart.1 rest i

-- the others stay where they stand
pub left_line : (o : WaitOrder) (rows : List (Option Row)) (t : ℕ) → is_waiting (slice_get rows t) ≡ true → (front rest : List ℕ) → line (waits o rows) ≡ front ++ t ∷ rest
    → line (waits o (set rows t None)) ≡ front ++ rest
left_line o rows t e front rest at =
    let held = row_held (slice_get rows t) e in
    let place = split o (waiter t held.0) (standing o (set rows t None)) in
    let old : line (waits o rows) ≡ threads_of place.front ++ t ∷ threads_of place.rest = ap threads_of (standing_left o rows t held.0 held.1 ∙ place.new) ∙ threads_split place.front (waiter t held.0 ∷ place.rest) in
    let new : line (waits o (set rows t None)) ≡ threads_of place.front ++ threads_of place.rest = ap threads_of place.old ∙ threads_split place.front place.rest in
    new ∙ same_split t (threads_of place.front) (threads_of place.rest) front rest (subst Distinct old (Distinct-standing o rows)) (sym old ∙ at)

given-none : (n t : ℕ) → given (replicate n None) t ≡ None
given-none zero t = refl
given-none (suc n) zero = refl
given-none (suc n) (suc t) = nowhere t (slice_get (replicate n None) t) (given-none n t)
  where
    nowhere : (t : ℕ) (g : Option (Option Row)) → waiter_of t g ≡ None → waiter_of (suc t) g ≡ None
    nowhere t None e = refl
    nowhere t (Some None) e = refl
    nowhere t (Some (Some row)) e = absurd (none-some (waiter t row) (sym e))

nobody : (n : ℕ) (ts : List ℕ) → filter_map (given (replicate n None)) ts ≡ []
nobody n [] = refl
nobody n (t ∷ ts) = ap (λ o. cons_option o (filter_map (given (replicate n None)) ts)) (given-none n t) ∙ nobody n ts

-- the ring of nobody
pub ring_empty : (o : WaitOrder) (threads : ℕ) → IsRing (waits o (replicate threads None)) (replicate (threads + 1) threads) (replicate (threads + 1) threads) threads 0
ring_empty o threads = record {
  root_is = sym same_len;
  next_len = length-replicate (threads + 1) threads;
  prev_len = length-replicate (threads + 1) threads;
  on = subst (λ l. IsLinkedOn (replicate (threads + 1) threads) threads l threads) (sym empty) own;
  back = subst (λ l. IsLinkedBack (replicate (threads + 1) threads) threads l threads) (sym empty) own;
  counted = sym (ap length empty);
}
  where
    rows : List (Option Row)
    rows = replicate threads None

    same_len : length rows ≡ threads
    same_len = length-replicate threads None

    empty : line (waits o (replicate threads None)) ≡ []
    empty = ap (λ l. threads_of (in_order o l)) (nobody threads (range_with_len 0 (length (replicate threads None))))

    own : slice_get (replicate (threads + 1) threads) threads ≡ Some threads
    own = slice_get-get_or (replicate (threads + 1) threads) threads threads (omega (arith, length-replicate (threads + 1) threads)) ∙ ap (λ n. Some n) (get_or-replicate (threads + 1) threads threads threads (omega arith))

length-filter_map : (f : ℕ → Option Waiter) (ts : List ℕ) → length (filter_map f ts) ≤ length ts
length-filter_map f [] = omega arith
length-filter_map f (t ∷ ts) = by_case (f t) (length-filter_map f ts)
  where
    by_case : (o : Option Waiter) → length (filter_map f ts) ≤ length ts → length (cons_option o (filter_map f ts)) ≤ length (t ∷ ts)
    by_case None h = omega arith
    by_case (Some w) h = omega arith

-- no more wait than the table has places
pub len_within : (w : Waits) (next prev : List ℕ) (root len : ℕ) → IsRing w next prev root len → len ≤ root
len_within w next prev root len ring =
    omega (arith, len_is w next prev root len ring, length-filter_map (λ t. waiter_of t (slice_get w.rows t)) (range_with_len 0 (length w.rows)), length-range_with_len 0 (length w.rows), ring.root_is)

-- the numbers on both sides of a place have links
pub place_there : (w : Waits) (new : Waiter) (next prev : List ℕ) (root len before : ℕ) → IsRing w next prev root len → IsPlace w new before
    → (before < length next) × (get_or next before 0 < length prev)
place_there w new next prev root len before ring place =
    let front = threads_of place.front in
    let rest = threads_of place.rest in
    let lined : line w ≡ front ++ rest = ap threads_of place.old_line ∙ threads_split place.front place.rest in
    let on = subst (λ l. IsLinkedOn next root l root) lined ring.on in
    let back = subst (λ l. IsLinkedBack prev root l root) lined ring.back in
    let is : before ≡ last_or root front = place.last ∙ ap (λ n. last_or n front) (sym ring.root_is) in
    let joint = joint_on next root front rest root on in
    let after : get_or next before 0 ≡ first_or root rest = ap (λ p. get_or next p 0) is ∙ get_or_from_slice_get next (last_or root front) (first_or root rest) 0 joint in (
      omega (arith, is, slice_get_within next (last_or root front) (first_or root rest) joint),
      omega (arith, after, slice_get_within prev (first_or root rest) (last_or root front) (joint_back prev root front rest root back)),
    )

-- a thread that doesn't wait has no waiter
pub free_given : (rows : List (Option Row)) (t : ℕ) → is_waiting (slice_get rows t) ≡ false → given rows t ≡ None
free_given rows t e = nowhere (slice_get rows t) e
  where
    nowhere : (g : Option (Option Row)) → is_waiting g ≡ false → waiter_of t g ≡ None
    nowhere None e = refl
    nowhere (Some None) e = refl
    nowhere (Some (Some row)) e = absurd (false≢true (sym e))
