-- The wait lists after one thread's row changed, and what they say of who waits.
use Rattle.std.proofs.Common.{ℕ, ◌≡◌, ◌≢◌, ◌+◌, ◌<◌, ◌≤◌, List, [], ◌∷◌, ◌++◌, length, take, drop, zero, suc, not, ◌&&◌, ◌-◌, get_or, Bool, true, false, cond, Option, Some, None, refl, sym, ap, ◌∙◌, arith, ◌⊎◌, inl, inr, get_or-set_same, get_or-set_other}
use Rattle.std.specs.Prelude.{slice_set, slice_index, slice_get, slice_index_or, replicate, min, nat_lt, ◌==◌}
use Rattle.std.specs.List.{filter_map, range_with_len}
use Rattle.std.specs.Option.{option_map, option_and_then, IfSome}
use Rattle.std.proofs.Math.ListN.{length-set}
use Rattle.std.proofs.lemmas.Bool.{cases_eq, cases_lt, ne_eqb, eq-eqb, false≢true}
use Rattle.std.proofs.lemmas.Option.{none-some, slice_get-get_or, slice_get_past}
use Rattle.std.proofs.lemmas.List.{get_or-replicate, length-replicate}
use Rattle.std.proofs.lemmas.List.FromFn.{fill_by_all, get_or-map-range_with_len, length-map-range_with_len}
use Rattle.rt_base.specs.declared.codes.WaitOrder.{WaitOrder}
use Rattle.rt_plain.specs.kernel.Waiting.{first_of, head_of, threads_in_order}
use Rattle.rt_plain.specs.kernel.Ownership.{Ownership, Member, MutexWait, Taken, taken_of, with_member, with_base, with_taken_times, take_edit, take_edit_of, pass_edit, release_edit, release_edit_of, member_at, is_there, wait_of, wait_row, wait_rows_in, waiters_in, first_in, cur_in, with_wait, leave_edit, wait_edit}
use Rattle.susp_list.specs.declared.row.Row.{Row}
use Rattle.susp_list.specs.Rows.{Waits, waiter_of, waiters, line, holds, is_waiting, with_prio}
use Rattle.mutex_chain.specs.Owners.{IsSound, has_thread}
use Rattle.mutex_chain.specs.Graph.{is_last}
use Rattle.mutex_chain.specs.Walks.{curs_of}
use Rattle.mutex_chain.specs.Lines.{line_row, line_of, lines_of}
use Rattle.mutex_chain.proofs.CurLemmas.{cur_at}
use Rattle.mutex_chain.proofs.ChangeLemmas.{cur_small, filter_map_range}

pub no_waits : Waits
no_waits = record { order = WaitOrder.Prio; rows = [] }

pub length-lines : (o : Ownership) (ns : List ℕ) → length (lines_of o ns) ≡ length o.ceilings
unfolding lines_of
length-lines o ns = length-map-range_with_len (line_of o ns) 0 (length o.ceilings)

pub line_at : (o : Ownership) (ns : List ℕ) (m : ℕ) (d : Waits) → m < length o.ceilings → get_or (lines_of o ns) m d ≡ line_of o ns m
unfolding lines_of
line_at o ns m d h = get_or-map-range_with_len (line_of o ns) 0 (length o.ceilings) m m d h (omega arith)

pub length-line_rows : (o : Ownership) (ns : List ℕ) (m : ℕ) → length (line_of o ns m).rows ≡ length o.members
length-line_rows o ns m = length-map-range_with_len (λ t. line_row (slice_index ns t) m (wait_of o t)) 0 (length o.members)

pub row_at : (o : Ownership) (ns : List ℕ) (m t : ℕ) → t < length o.members → slice_get (line_of o ns m).rows t ≡ Some (line_row (slice_index ns t) m (wait_of o t))
row_at o ns m t h =
    slice_get-get_or (line_of o ns m).rows t None (omega (arith, length-line_rows o ns m))
    ∙ ap Some (get_or-map-range_with_len (λ t. line_row (slice_index ns t) m (wait_of o t)) 0 (length o.members) t t None h (omega arith))

-- lists by the same rows
line_same : (o p : Ownership) (ns more : List ℕ) (k : ℕ) → length o.members ≡ length p.members
    → ((j : ℕ) → line_row (slice_index ns j) k (wait_of o j) ≡ line_row (slice_index more j) k (wait_of p j)) → line_of o ns k ≡ line_of p more k
line_same o p ns more k size same =
    let rows : (line_of o ns k).rows ≡ (line_of p more k).rows =
    fill_by_all (λ t. line_row (slice_index more t) k (wait_of p t)) (line_of o ns k).rows (length p.members) None (length-line_rows o ns k ∙ size)
    (λ j h. get_or-map-range_with_len (λ t. line_row (slice_index ns t) k (wait_of o t)) 0 (length o.members) j j None (omega (arith, size)) (omega arith) ∙ same j) in
    ap (λ r. record { order = WaitOrder.Prio; rows = r }) rows

pub lines_same : (o p : Ownership) (ns more : List ℕ) → length o.members ≡ length p.members → length o.ceilings ≡ length p.ceilings
    → ((k j : ℕ) → line_row (slice_index ns j) k (wait_of o j) ≡ line_row (slice_index more j) k (wait_of p j)) → lines_of o ns ≡ lines_of p more
unfolding lines_of
lines_same o p ns more size mutexes same =
    fill_by_all (line_of p more) (lines_of o ns) (length p.ceilings) no_waits (length-lines o ns ∙ mutexes)
    (λ k h. line_at o ns k no_waits (omega (arith, mutexes)) ∙ line_same o p ns more k size (same k))

-- the row of one thread changes in the list of one mutex
line_put : (o p : Ownership) (ns more : List ℕ) (k t : ℕ) (r : Option Row) → length o.members ≡ length p.members → t < length o.members → r ≡ line_row (slice_index more t) k (wait_of p t)
    → ((j : ℕ) → j ≢ t → line_row (slice_index ns j) k (wait_of o j) ≡ line_row (slice_index more j) k (wait_of p j))
    → record (line_of o ns k) { rows = slice_set (line_of o ns k).rows t r } ≡ line_of p more k
line_put o p ns more k t r size h is same =
    let rows : slice_set (line_of o ns k).rows t r ≡ (line_of p more k).rows =
    fill_by_all (λ u. line_row (slice_index more u) k (wait_of p u)) (slice_set (line_of o ns k).rows t r) (length p.members) None
    (length-set (line_of o ns k).rows t r ∙ length-line_rows o ns k ∙ size) (λ j l. at j l (cases_eq j t)) in
    ap (λ r. record { order = WaitOrder.Prio; rows = r }) rows
  where
    at : (j : ℕ) → j < length p.members → (j ≡ t) ⊎ (j ≢ t) → get_or (slice_set (line_of o ns k).rows t r) j None ≡ line_row (slice_index more j) k (wait_of p j)
    at j l (inl e) =
        ap (λ i. get_or (slice_set (line_of o ns k).rows t r) i None) e ∙ get_or-set_same (line_of o ns k).rows t r None (omega (arith, length-line_rows o ns k)) ∙ is
        ∙ sym (ap (λ i. line_row (slice_index more i) k (wait_of p i)) e)
    at j l (inr ne) =
        get_or-set_other (line_of o ns k).rows t j r None ne
        ∙ get_or-map-range_with_len (λ t. line_row (slice_index ns t) k (wait_of o t)) 0 (length o.members) j j None (omega (arith, size)) (omega arith) ∙ same j ne

pub lines_put : (o p : Ownership) (ns more : List ℕ) (m t : ℕ) (r : Option Row) → length o.members ≡ length p.members → length o.ceilings ≡ length p.ceilings → m < length o.ceilings → t < length o.members
    → r ≡ line_row (slice_index more t) m (wait_of p t)
    → ((k j : ℕ) → (j ≢ t) ⊎ (k ≢ m) → line_row (slice_index ns j) k (wait_of o j) ≡ line_row (slice_index more j) k (wait_of p j))
    → slice_set (lines_of o ns) m (record (line_of o ns m) { rows = slice_set (line_of o ns m).rows t r }) ≡ lines_of p more
unfolding lines_of
lines_put o p ns more m t r size mutexes h l is same =
    fill_by_all (line_of p more) (slice_set (lines_of o ns) m changed) (length p.ceilings) no_waits
    (length-set (lines_of o ns) m changed ∙ length-lines o ns ∙ mutexes) (λ k g. at k g (cases_eq k m))
  where
    changed : Waits
    changed = record (line_of o ns m) { rows = slice_set (line_of o ns m).rows t r }

    at : (k : ℕ) → k < length p.ceilings → (k ≡ m) ⊎ (k ≢ m)
        → get_or (slice_set (lines_of o ns) m (record (line_of o ns m) { rows = slice_set (line_of o ns m).rows t r })) k no_waits ≡ line_of p more k
    at k g (inl e) =
        ap (λ i. get_or (slice_set (lines_of o ns) m (record (line_of o ns m) { rows = slice_set (line_of o ns m).rows t r })) i no_waits) e
        ∙ get_or-set_same (lines_of o ns) m (record (line_of o ns m) { rows = slice_set (line_of o ns m).rows t r }) no_waits (omega (arith, length-lines o ns))
        ∙ line_put o p ns more m t r size l is (λ j ne. same m j (inl ne))
        ∙ sym (ap (line_of p more) e)
    at k g (inr ne) =
        get_or-set_other (lines_of o ns) m k (record (line_of o ns m) { rows = slice_set (line_of o ns m).rows t r }) no_waits ne
        ∙ line_at o ns k no_waits (omega (arith, mutexes)) ∙ line_same o p ns more k size (λ j. same k j (inr ne))

other_row : (a b k : ℕ) (w : MutexWait) → w.mutex ≢ k → line_row a k (Some w) ≡ line_row b k (Some w)
other_row a b k w ne = not_here a ∙ sym (not_here b)
  where
    not_here : (n : ℕ) → line_row n k (Some w) ≡ None
    not_here n = ap (λ b. cond b (Some (record { prio = min n 255; at = w.number })) None) (ne_eqb w.mutex k ne)

-- the row of a thread in the list of the mutex that it waits on
pub here_row : (n : ℕ) (w : MutexWait) → line_row n w.mutex (Some w) ≡ Some (record { prio = min n 255; at = w.number })
here_row n w = ap (λ b. cond b (Some (record { prio = min n 255; at = w.number })) None) (eq-eqb w.mutex w.mutex refl)

pub holds_here : (o : Ownership) (ns : List ℕ) (t : ℕ) (w : MutexWait) → t < length o.members → wait_of o t ≡ Some w → holds (line_of o ns w.mutex) t ≡ true
holds_here o ns t w h e = ap is_waiting (row_at o ns w.mutex t h ∙ ap (λ v. Some (line_row (slice_index ns t) w.mutex v)) e ∙ ap Some (here_row (slice_index ns t) w))

-- a thread gets another number
pub lines_set : (o : Ownership) (ns : List ℕ) (t n : ℕ) (w : MutexWait) → t < length o.members → length ns ≡ length o.members → w.mutex < length o.ceilings → wait_of o t ≡ Some w
    → slice_set (lines_of o ns) w.mutex (record (line_of o ns w.mutex) { rows = slice_set (line_of o ns w.mutex).rows t (with_prio (slice_get (line_of o ns w.mutex).rows t) (min n 255)) })
    ≡ lines_of o (slice_set ns t n)
lines_set o ns t n w h places within e =
    lines_put o o ns (slice_set ns t n) w.mutex t (with_prio (slice_get (line_of o ns w.mutex).rows t) (min n 255)) refl refl within h
    (ap (λ r. with_prio r (min n 255)) (row_at o ns w.mutex t h ∙ ap (λ v. Some (line_row (slice_index ns t) w.mutex v)) e ∙ ap Some (here_row (slice_index ns t) w))
    ∙ sym (ap (line_row (slice_index (slice_set ns t n) t) w.mutex) e ∙ here_row (slice_index (slice_set ns t n) t) w
    ∙ ap (λ i. Some (record { prio = min i 255; at = w.number })) (get_or-set_same ns t n 0 (omega (arith, places)))))
    (λ k j c. same k j (cases_eq j t) c)
  where
    same : (k j : ℕ) → (j ≡ t) ⊎ (j ≢ t) → (j ≢ t) ⊎ (k ≢ w.mutex) → line_row (slice_index ns j) k (wait_of o j) ≡ line_row (slice_index (slice_set ns t n) j) k (wait_of o j)
    same k j (inr ne) c = ap (λ i. line_row i k (wait_of o j)) (sym (get_or-set_other ns t j n 0 ne))
    same k j (inl f) (inl ne) = absurd (ne f)
    same k j (inl f) (inr ne) =
        let at : wait_of o j ≡ Some w = ap (wait_of o) f ∙ e in
        ap (line_row (slice_index ns j) k) at ∙ other_row (slice_index ns j) (slice_index (slice_set ns t n) j) k w (λ s. ne (sym s)) ∙ sym (ap (line_row (slice_index (slice_set ns t n) j) k) at)

-- where it waits in no list, the lists stay
pub lines_set_idle : (o : Ownership) (ns : List ℕ) (t n : ℕ) → wait_of o t ≡ None → lines_of o ns ≡ lines_of o (slice_set ns t n)
lines_set_idle o ns t n e = lines_same o o ns (slice_set ns t n) refl refl (λ k j. same k j (cases_eq j t))
  where
    same : (k j : ℕ) → (j ≡ t) ⊎ (j ≢ t) → line_row (slice_index ns j) k (wait_of o j) ≡ line_row (slice_index (slice_set ns t n) j) k (wait_of o j)
    same k j (inr ne) = ap (λ i. line_row i k (wait_of o j)) (sym (get_or-set_other ns t j n 0 ne))
    same k j (inl f) =
        let at : wait_of o j ≡ None = ap (wait_of o) f ∙ e in
        ap (line_row (slice_index ns j) k) at ∙ sym (ap (line_row (slice_index (slice_set ns t n) j) k) at)

-- a mutex outside the table has no list
pub lines_set_outside : (o : Ownership) (ns : List ℕ) (t n : ℕ) (w : MutexWait) → length o.ceilings ≤ w.mutex → wait_of o t ≡ Some w → lines_of o ns ≡ lines_of o (slice_set ns t n)
unfolding lines_of
lines_set_outside o ns t n w past e =
    fill_by_all (line_of o (slice_set ns t n)) (lines_of o ns) (length o.ceilings) no_waits (length-lines o ns)
    (λ k h. line_at o ns k no_waits h ∙ line_same o o ns (slice_set ns t n) k refl (λ j. same k h j (cases_eq j t)))
  where
    same : (k : ℕ) → k < length o.ceilings → (j : ℕ) → (j ≡ t) ⊎ (j ≢ t) → line_row (slice_index ns j) k (wait_of o j) ≡ line_row (slice_index (slice_set ns t n) j) k (wait_of o j)
    same k h j (inr ne) = ap (λ i. line_row i k (wait_of o j)) (sym (get_or-set_other ns t j n 0 ne))
    same k h j (inl f) =
        let at : wait_of o j ≡ Some w = ap (wait_of o) f ∙ e in
        ap (line_row (slice_index ns j) k) at ∙ other_row (slice_index ns j) (slice_index (slice_set ns t n) j) k w (λ s. omega arith) ∙ sym (ap (line_row (slice_index (slice_set ns t n) j) k) at)

-- a thread is gone from its list
left_wait : (m : Option Member) → option_and_then (λ (m : Member). m.wait) (option_map (with_wait None) m) ≡ None
left_wait None = refl
left_wait (Some m) = refl

pub leave_here : (o : Ownership) (t : ℕ) → t < length o.members → wait_of (leave_edit t o) t ≡ None
leave_here o t h = ap (option_and_then (λ (m : Member). m.wait)) (get_or-set_same o.members t (option_map (with_wait None) (member_at o t)) None h) ∙ left_wait (member_at o t)

pub leave_other : (o : Ownership) (t j : ℕ) → j ≢ t → wait_of (leave_edit t o) j ≡ wait_of o j
leave_other o t j ne = ap (option_and_then (λ (m : Member). m.wait)) (get_or-set_other o.members t j (option_map (with_wait None) (member_at o t)) None ne)

pub lines_leave : (o : Ownership) (ns : List ℕ) (t : ℕ) (w : MutexWait) → t < length o.members → w.mutex < length o.ceilings → wait_of o t ≡ Some w
    → slice_set (lines_of o ns) w.mutex (record (line_of o ns w.mutex) { rows = slice_set (line_of o ns w.mutex).rows t None }) ≡ lines_of (leave_edit t o) ns
lines_leave o ns t w h within e =
    lines_put o (leave_edit t o) ns ns w.mutex t None (sym (length-set o.members t (option_map (with_wait None) (member_at o t)))) refl within h
    (sym (ap (line_row (slice_index ns t) w.mutex) (leave_here o t h))) (λ k j c. same k j (cases_eq j t) c)
  where
    same : (k j : ℕ) → (j ≡ t) ⊎ (j ≢ t) → (j ≢ t) ⊎ (k ≢ w.mutex) → line_row (slice_index ns j) k (wait_of o j) ≡ line_row (slice_index ns j) k (wait_of (leave_edit t o) j)
    same k j (inr ne) c = sym (ap (line_row (slice_index ns j) k) (leave_other o t j ne))
    same k j (inl f) (inl ne) = absurd (ne f)
    same k j (inl f) (inr ne) =
        ap (line_row (slice_index ns j) k) (ap (wait_of o) f ∙ e)
        ∙ ap (λ b. cond b (Some (record { prio = min (slice_index ns j) 255; at = w.number })) None) (ne_eqb w.mutex k (λ s. ne (sym s)))
        ∙ sym (ap (line_row (slice_index ns j) k) (ap (wait_of (leave_edit t o)) f ∙ leave_here o t h))

pub lines_leave_idle : (o : Ownership) (ns : List ℕ) (t : ℕ) → t < length o.members → wait_of o t ≡ None → lines_of o ns ≡ lines_of (leave_edit t o) ns
lines_leave_idle o ns t h e =
    lines_same o (leave_edit t o) ns ns (sym (length-set o.members t (option_map (with_wait None) (member_at o t)))) refl (λ k j. ap (line_row (slice_index ns j) k) (same j (cases_eq j t)))
  where
    same : (j : ℕ) → (j ≡ t) ⊎ (j ≢ t) → wait_of o j ≡ wait_of (leave_edit t o) j
    same j (inl f) = ap (wait_of o) f ∙ e ∙ sym (ap (wait_of (leave_edit t o)) f ∙ leave_here o t h)
    same j (inr ne) = sym (leave_other o t j ne)

pub lines_leave_outside : (o : Ownership) (ns : List ℕ) (t : ℕ) (w : MutexWait) → t < length o.members → length o.ceilings ≤ w.mutex → wait_of o t ≡ Some w → lines_of o ns ≡ lines_of (leave_edit t o) ns
unfolding lines_of
lines_leave_outside o ns t w h past e =
    fill_by_all (line_of (leave_edit t o) ns) (lines_of o ns) (length o.ceilings) no_waits (length-lines o ns)
    (λ k g. line_at o ns k no_waits g ∙ line_same o (leave_edit t o) ns ns k (sym (length-set o.members t (option_map (with_wait None) (member_at o t)))) (λ j. same k g j (cases_eq j t)))
  where
    same : (k : ℕ) → k < length o.ceilings → (j : ℕ) → (j ≡ t) ⊎ (j ≢ t) → line_row (slice_index ns j) k (wait_of o j) ≡ line_row (slice_index ns j) k (wait_of (leave_edit t o) j)
    same k g j (inr ne) = sym (ap (line_row (slice_index ns j) k) (leave_other o t j ne))
    same k g j (inl f) =
        ap (line_row (slice_index ns j) k) (ap (wait_of o) f ∙ e)
        ∙ ap (λ b. cond b (Some (record { prio = min (slice_index ns j) 255; at = w.number })) None) (ne_eqb w.mutex k (λ s. omega arith))
        ∙ sym (ap (line_row (slice_index ns j) k) (ap (wait_of (leave_edit t o)) f ∙ leave_here o t h))

-- a thread comes into a list
pub idle_wait : (o : Ownership) (t : ℕ) → option_map (λ (w : MutexWait). w.mutex) (wait_of o t) ≡ None → wait_of o t ≡ None
idle_wait o t e = by_wait (wait_of o t) e
  where
    by_wait : (w : Option MutexWait) → option_map (λ (w : MutexWait). w.mutex) w ≡ None → w ≡ None
    by_wait None f = refl
    by_wait (Some w) f = absurd (none-some w.mutex (sym f))

join_wait : (m at : ℕ) (r : Option Member) → is_there r ≡ true → option_and_then (λ (m : Member). m.wait) (option_map (with_wait (Some (record { mutex = m; number = at }))) r) ≡ Some (record { mutex = m; number = at })
join_wait m at None h = absurd (false≢true h)
join_wait m at (Some r) h = refl

pub lines_join : (o : Ownership) (ns : List ℕ) (t m at : ℕ) → t < length o.members → m < length o.ceilings → has_thread o t ≡ true → wait_of o t ≡ None
    → slice_set (lines_of o ns) m (record (line_of o ns m) { rows = slice_set (line_of o ns m).rows t (Some (record { prio = min (slice_index ns t) 255; at = at })) }) ≡ lines_of (wait_edit t m at o) ns
lines_join o ns t m at h within there e =
    lines_put o (wait_edit t m at o) ns ns m t (Some (record { prio = min (slice_index ns t) 255; at = at })) (sym (length-set o.members t row)) refl within h
    (sym (ap (line_row (slice_index ns t) m) here ∙ here_row (slice_index ns t) (record { mutex = m; number = at }))) (λ k j c. same k j (cases_eq j t) c)
  where
    row : Option Member
    row = option_map (with_wait (Some (record { mutex = m; number = at }))) (member_at o t)

    here : wait_of (wait_edit t m at o) t ≡ Some (record { mutex = m; number = at })
    here = ap (option_and_then (λ (m : Member). m.wait)) (get_or-set_same o.members t (option_map (with_wait (Some (record { mutex = m; number = at }))) (member_at o t)) None h) ∙ join_wait m at (member_at o t) there

    same : (k j : ℕ) → (j ≡ t) ⊎ (j ≢ t) → (j ≢ t) ⊎ (k ≢ m) → line_row (slice_index ns j) k (wait_of o j) ≡ line_row (slice_index ns j) k (wait_of (wait_edit t m at o) j)
    same k j (inr ne) c =
        sym (ap (λ r. line_row (slice_index ns j) k (option_and_then (λ (m : Member). m.wait) r)) (get_or-set_other o.members t j (option_map (with_wait (Some (record { mutex = m; number = at }))) (member_at o t)) None ne))
    same k j (inl f) (inl ne) = absurd (ne f)
    same k j (inl f) (inr ne) =
        ap (line_row (slice_index ns j) k) (ap (wait_of o) f ∙ e)
        ∙ sym (ap (λ b. cond b (Some (record { prio = min (slice_index ns j) 255; at = at })) None) (ne_eqb m k (λ s. ne (sym s))))
        ∙ sym (ap (line_row (slice_index ns j) k) (ap (wait_of (wait_edit t m at o)) f ∙ here))

pub joins_free : (o : Ownership) (ns : List ℕ) (t m : ℕ) → t < length o.members → wait_of o t ≡ None → holds (line_of o ns m) t ≡ false
joins_free o ns t m h e = ap is_waiting (row_at o ns m t h ∙ ap (λ v. Some (line_row (slice_index ns t) m v)) e)

-- lists in which nobody waits
pub lines_empty : (threads mutexes n : ℕ) (o : Ownership) → o.members ≡ replicate threads None → o.ceilings ≡ replicate mutexes None
    → replicate mutexes (record { order = WaitOrder.Prio; rows = replicate threads None }) ≡ lines_of o (replicate threads n)
unfolding lines_of
lines_empty threads mutexes n o members ceilings =
    fill_by_all (line_of o (replicate threads n)) (replicate mutexes empty) (length o.ceilings) no_waits (length-replicate mutexes empty ∙ sym many)
    (λ k h. get_or-replicate mutexes k empty no_waits (omega (arith, many)) ∙ ap (λ r. record { order = WaitOrder.Prio; rows = r }) (rows k))
  where
    empty : Waits
    empty = record { order = WaitOrder.Prio; rows = replicate threads None }

    many : length o.ceilings ≡ mutexes
    many = ap length ceilings ∙ length-replicate mutexes None

    few : length o.members ≡ threads
    few = ap length members ∙ length-replicate threads None

    none : (j : ℕ) → j < threads → wait_of o j ≡ None
    none j h = ap (option_and_then (λ (m : Member). m.wait)) (ap (λ ms. get_or ms j None) members ∙ get_or-replicate threads j None None h)

    rows : (k : ℕ) → replicate threads None ≡ (line_of o (replicate threads n) k).rows
    rows k =
        fill_by_all (λ t. line_row (slice_index (replicate threads n) t) k (wait_of o t)) (replicate threads None) (length o.members) None (length-replicate threads None ∙ sym few)
        (λ j h. get_or-replicate threads j None None (omega (arith, few)) ∙ sym (ap (line_row (slice_index (replicate threads n) j) k) (none j (omega (arith, few)))))

-- the waiters of a list are those of its mutex
waits_there : (o : Ownership) (t : ℕ) (w : MutexWait) → wait_of o t ≡ Some w → has_thread o t ≡ true
waits_there o t w e = by_row (member_at o t) e
  where
    by_row : (m : Option Member) → option_and_then (λ (m : Member). m.wait) m ≡ Some w → is_there m ≡ true
    by_row None f = absurd (none-some w f)
    by_row (Some m) f = refl

pub waiters_are : (o : Ownership) (m : ℕ) → IsSound o → waiters (line_of o (curs_of o) m) ≡ wait_rows_in o m
waiters_are o m s =
    ap (λ n. filter_map (λ t. waiter_of t (slice_get (line_of o (curs_of o) m).rows t)) (range_with_len 0 n)) (length-line_rows o (curs_of o) m)
    ∙ filter_map_range (λ t. waiter_of t (slice_get (line_of o (curs_of o) m).rows t)) (λ t. wait_row o m t (wait_of o t)) 0 (length o.members) (λ t low high. at t (omega arith) (wait_of o t) refl)
  where
    row : (t : ℕ) → t < length o.members → (w : MutexWait) → wait_of o t ≡ Some w → (b : Bool)
        → waiter_of t (Some (cond b (Some (record { prio = min (slice_index (curs_of o) t) 255; at = w.number })) None)) ≡ cond b (Some (record { thread = t; prio = cur_in o t; number = w.number })) None
    row t h w e false = refl
    row t h w e true =
        let low : min (slice_index (curs_of o) t) 255 ≡ cur_in o t = omega (arith, cur_at o t h, cur_small o t s (waits_there o t w e)) in
        ap (λ p. Some (record { thread = t; prio = p; number = w.number })) low

    at : (t : ℕ) → t < length o.members → (w : Option MutexWait) → wait_of o t ≡ w → waiter_of t (slice_get (line_of o (curs_of o) m).rows t) ≡ wait_row o m t (wait_of o t)
    at t h None e = ap (waiter_of t) (row_at o (curs_of o) m t h ∙ ap (λ v. Some (line_row (slice_index (curs_of o) t) m v)) e) ∙ sym (ap (wait_row o m t) e)
    at t h (Some w) e =
        ap (waiter_of t) (row_at o (curs_of o) m t h ∙ ap (λ v. Some (line_row (slice_index (curs_of o) t) m v)) e) ∙ row t h w e (w.mutex == m) ∙ sym (ap (wait_row o m t) e)

pub first_is : (o : Ownership) (m : ℕ) → IsSound o → first_of WaitOrder.Prio (waiters (line_of o (curs_of o) m)) ≡ first_in o m
first_is o m s = ap (first_of WaitOrder.Prio) (waiters_are o m s)

pub line_is : (o : Ownership) (m : ℕ) → IsSound o → line (line_of o (curs_of o) m) ≡ waiters_in o m
line_is o m s = ap (threads_in_order WaitOrder.Prio) (waiters_are o m s)

-- edits that change no wait
pub lines_by : (o p : Ownership) (ns : List ℕ) → p.members ≡ o.members → length p.ceilings ≡ length o.ceilings → lines_of o ns ≡ lines_of p ns
lines_by o p ns members mutexes =
    lines_same o p ns ns (ap length (sym members)) (sym mutexes) (λ k j. ap (λ ms. line_row (slice_index ns j) k (option_and_then (λ (m : Member). m.wait) (slice_index_or ms j None))) (sym members))

pub lines_member : (o : Ownership) (ns : List ℕ) (t : ℕ) (row : Option Member) → t < length o.members → wait_of o t ≡ option_and_then (λ (m : Member). m.wait) row → lines_of o ns ≡ lines_of (with_member o t row) ns
lines_member o ns t row h e = lines_same o (with_member o t row) ns ns (sym (length-set o.members t row)) refl (λ k j. ap (line_row (slice_index ns j) k) (at j (cases_eq j t)))
  where
    at : (j : ℕ) → (j ≡ t) ⊎ (j ≢ t) → wait_of o j ≡ wait_of (with_member o t row) j
    at j (inl f) =
        ap (wait_of o) f ∙ e ∙ sym (ap (wait_of (with_member o t row)) f ∙ ap (option_and_then (λ (m : Member). m.wait)) (get_or-set_same o.members t row None h))
    at j (inr ne) = sym (ap (option_and_then (λ (m : Member). m.wait)) (get_or-set_other o.members t j row None ne))

pub based_wait : (base : ℕ) (m : Option Member) → option_and_then (λ (m : Member). m.wait) m ≡ option_and_then (λ (m : Member). m.wait) (option_map (with_base base) m)
based_wait base None = refl
based_wait base (Some m) = refl

pub absent_member : (m : Option Member) → is_there m ≡ false → m ≡ None
absent_member None e = refl
absent_member (Some m) e = absurd (false≢true (sym e))

pub absent_wait : (m : Option Member) → is_there m ≡ false → option_and_then (λ (m : Member). m.wait) m ≡ None
absent_wait None e = refl
absent_wait (Some m) e = absurd (false≢true (sym e))

pub take_members : (t m : ℕ) (o : Ownership) → (take_edit t m o).members ≡ o.members
take_members t m o = by_row (taken_of o m)
  where
    by_test : (n : ℕ) (b : Bool) → (cond b (with_taken_times m n o) o).members ≡ o.members
    by_test n true = refl
    by_test n false = refl

    by_row : (r : Option Taken) → (take_edit_of t m r o).members ≡ o.members
    by_row None = refl
    by_row (Some h) = by_test (h.hold + 1) ((h.owner == t) && nat_lt h.hold 255)

pub release_members : (t m : ℕ) (o : Ownership) → is_last t (taken_of o m) ≡ false → (release_edit t m o).members ≡ o.members
release_members t m o e = by_row (taken_of o m) e
  where
    by_tests : (n : ℕ) (b c : Bool) → (b && not c) ≡ false → (cond b (cond c (with_taken_times m n o) (pass_edit m o)) o).members ≡ o.members
    by_tests n true true f = refl
    by_tests n true false f = absurd (false≢true (sym f))
    by_tests n false c f = refl

    by_row : (r : Option Taken) → is_last t r ≡ false → (release_edit_of t m r o).members ≡ o.members
    by_row None f = refl
    by_row (Some h) f = by_tests (h.hold - 1) (h.owner == t) (nat_lt 1 h.hold) f

-- a list split before one of its threads
pub split_at : (xs : List ℕ) (i t : ℕ) → head_of (drop i xs) ≡ Some t → (take (i + 1) xs ≡ take i xs ++ t ∷ []) × (xs ≡ take i xs ++ t ∷ drop (i + 1) xs)
split_at [] zero t e = absurd (none-some t e)
split_at [] (suc i) t e = absurd (none-some t e)
split_at (x ∷ xs) zero t e = let same : x ≡ t = cc in (ap (λ y. y ∷ []) same, ap (λ y. y ∷ xs) same)
split_at (x ∷ xs) (suc i) t e =
    let rest = split_at xs i t e in
    let one : suc i + 1 ≡ suc (i + 1) = omega arith in
    rw one (ap (λ l. x ∷ l) rest.0, ap (λ l. x ∷ l) rest.1)

pub nothing_left : (xs : List ℕ) (i : ℕ) → head_of (drop i xs) ≡ None → take i xs ≡ xs
nothing_left [] zero e = refl
nothing_left [] (suc i) e = refl
nothing_left (x ∷ xs) zero e = absurd (none-some x (sym e))
nothing_left (x ∷ xs) (suc i) e = ap (λ l. x ∷ l) (nothing_left xs i e)

-- who stands in a list is within the table
pub first_within : (o : Ownership) (ns : List ℕ) (m : ℕ) (first : Option ℕ) → IfSome first (λ t. holds (line_of o ns m) t ≡ true) → IfSome first (λ t. t < length o.members)
first_within o ns m None held = tt
first_within o ns m (Some t) held = by_place (cases_lt t (length o.members))
  where
    by_place : (t < length o.members) ⊎ (length o.members ≤ t) → t < length o.members
    by_place (inl low) = low
    by_place (inr high) = absurd (false≢true (sym (ap is_waiting (slice_get_past (line_of o ns m).rows t (omega (arith, length-line_rows o ns m)))) ∙ held))
