-- The ready list after a change of a thread, or of who is ready.
use Rattle.std.proofs.Common.{ℕ, ◌≡◌, ◌≢◌, zero, suc, ◌+◌, ◌<◌, ◌≤◌, nat_lt, ◌||◌, arith, List, [], ◌∷◌, ◌++◌, Bool, true, false, not, cond, eqb, Option, Some, None, refl, sym, ap, ◌∙◌, subst, length, map, filter, take, slice_set, length-set}
use Rattle.std.specs.Prelude.{IfSome, Result, Ok, Err, fold, slice_get, slice_index, is_some, bit_and, if◌then◌else◌}
use Rattle.std.specs.List.{AllByRecursion, find, list_any, range_with_len}
use Rattle.std.proofs.lemmas.Bool.{false≢true, eqb-true, eqb-false}
use Rattle.std.proofs.lemmas.Option.{none-some, same_Some}
use Rattle.std.proofs.lemmas.List.{map-append, append-nil, append_assoc, map-id, map_more, length-map}
use Rattle.rt_base.specs.declared.codes.Code.{Code}
use Rattle.rt_plain.specs.declared.board.ThreadDef.{ThreadDef}
use Rattle.rt_plain.specs.declared.stmt.Call.{Call}
use Rattle.rt_plain.specs.kernel.Opening.{new_script_thread}
use Rattle.rt_plain.specs.kernel.Pick.{ReadyRow}
use Rattle.rt_plain.specs.kernel.Sleeps.{is_empty}
use Rattle.rt_plain.specs.kernel.Sound.{is_active}
use Rattle.rt_plain.specs.kernel.State.{Thread, Stage, Active, Initial, is_initial, Sem, EventObj, Mailbox, MsgQueue, is_among, no_thread}
use Rattle.rt_plain.specs.kernel.Waiting.{number_in, first_of}
use Rattle.rt_plain.specs.kernel.EventCalls.{Wanting, is_satisfied, satisfied_waiters}
use Rattle.susp_list.specs.Rows.{line, waiters}
use Rattle.susp_list.proofs.LinkLemmas.{NotIn, Distinct}
use Rattle.susp_list.proofs.TableLemmas.{Distinct-standing}
use Rattle.ipc_counts.specs.declared.sem.SemReleased.{SemReleased}
use Rattle.ipc_counts.specs.declared.sem.SemReleased.TheVariants.{Woke, Raised, Full}
use Rattle.ipc_counts.specs.Counted.{Counted}
use Rattle.ipc_counts.specs.declared.want.Want.{Want}
use Rattle.object_box.specs.Objects.{number_of}
use Rattle.object_box.specs.declared.fault.Make.{Make}
use Rattle.object_box.specs.declared.fault.Make.TheVariants.{Taken, ClassFull}
use Rattle.ipc_counts.specs.Sent.{want_at, wanting_of, wanting, woken_by}
use Rattle.ready_set.specs.ReadyLists.{IsBinding, row_of, rows_without}
use Rattle.ready_list.specs.Ordered.{ReadySeen, has_row, is_row_of, with_rows, rows_moved, moved_row}
use Rattle.ready_list.proofs.OrderLemmas.{absent_without, without-absent, row-missing}
use Rattle.ipc_queues.specs.Channels.{slots_of, waits_at}
use Rattle.ipc_queues.specs.declared.channels.ChannelKind.{ChannelKind}
use Rattle.ipc_queues.specs.declared.ends.End.{End}
use Rattle.kernel_tables.specs.declared.lists.Lists.{Lists}
use Rattle.kernel_tables.specs.declared.wait_list.WaitList.{WaitList}
use Rattle.kernel_tables.specs.Listed.{row_with, wait_row, waits_in, slots_in, sem_at, event_at}
use Rattle.kernel_tables.specs.Ready.{row_for, threads_in, started, with_ready, IsWithin, IsReady, AreTables, MayEnter}
use Rattle.kernel_tables.specs.Tabled.{Tabled, CreatesSem, CreatesEvent, CreatesMailbox, CreatesQueue, Releases, moved_last, line_of, woken_row, given_row, all_woken, all_given}
use Rattle.kernel_tables.specs.Threads.{row_at, with_row}
use Rattle.kernel_tables.specs.Tied.{tabled}
use Rattle.kernel_tables.specs.WaitLists.{objects_in, calls_in}
use Rattle.kernel_tables.proofs.EventLemmas.{sent-each}
use Rattle.kernel_tables.proofs.FoundLemmas.{found-below}
use Rattle.kernel_tables.proofs.ListLemmas.{filter_passes, filter_fails}
use Rattle.kernel_tables.proofs.TiedLemmas.{set-here, set-there, tied-line}
use Rattle.kernel_tables.proofs.WokenLemmas.{InLine, EachOf, EachOf-weaker, line-in, first-in, other-call}
use Rattle.kernel_tables.proofs.WaitListLemmas.{lists-apart}
use Rattle.kernel_tables.proofs.ChannelLemmas.{senders-apart}

-- ---- who has a row

pub has-among : (rows : List ReadyRow) (t : ℕ) → has_row rows t ≡ is_among (threads_in rows) t
has-among [] t = refl
has-among (row ∷ rows) t = ap (λ b. eqb row.thread t || b) (has-among rows t)

-- a thread that isn't active has no row
pub absent : (threads : List Thread) (r : ReadySeen) (t : ℕ) → IsReady threads r → is_active (row_at threads t).stage ≡ false → has_row r.rows t ≡ false
absent threads r t is idle = has-among r.rows t ∙ by_test (is_among (threads_in r.rows) t) refl where
  by_test : (c : Bool) → is_among (threads_in r.rows) t ≡ c → c ≡ false
  by_test true e = absurd (false≢true (sym idle ∙ is.active t e))
  by_test false e = refl

or-right : (b c : Bool) → c ≡ true → (b || c) ≡ true
or-right true c e = refl
or-right false c e = e

or-wider : (b c d : Bool) → (c ≡ true → d ≡ true) → (b || c) ≡ true → (b || d) ≡ true
or-wider true c d wider e = refl
or-wider false c d wider e = wider e

out-threads : (rows : List ReadyRow) (t : ℕ) → threads_in (rows_without rows t) ≡ filter (λ u. not (eqb u t)) (threads_in rows)
out-threads [] t = refl
out-threads (row ∷ rows) t = by_test (not (eqb row.thread t)) (out-threads rows t) where
  by_test : (c : Bool) → threads_in (rows_without rows t) ≡ filter (λ u. not (eqb u t)) (threads_in rows)
      → threads_in (cond c (row ∷ rows_without rows t) (rows_without rows t)) ≡ cond c (row.thread ∷ filter (λ u. not (eqb u t)) (threads_in rows)) (filter (λ u. not (eqb u t)) (threads_in rows))
  by_test true e = ap (λ (us : List ℕ). row.thread ∷ us) e
  by_test false e = e

-- the threads where one leaves
pub left-threads : (rows : List ReadyRow) (t : ℕ) → threads_in (rows_without rows t) ≡ filter (λ u. not (eqb u t)) (threads_in rows)
left-threads rows t = out-threads rows t

out-rows : (threads : List Thread) (ts : List ℕ) (t : ℕ) → rows_without (map (row_for threads) ts) t ≡ map (row_for threads) (filter (λ u. not (eqb u t)) ts)
out-rows threads [] t = refl
out-rows threads (u ∷ ts) t = by_test (not (eqb u t)) (out-rows threads ts t) where
  by_test : (c : Bool) → rows_without (map (row_for threads) ts) t ≡ map (row_for threads) (filter (λ v. not (eqb v t)) ts)
      → cond c (row_for threads u ∷ rows_without (map (row_for threads) ts) t) (rows_without (map (row_for threads) ts) t) ≡ map (row_for threads) (cond c (u ∷ filter (λ v. not (eqb v t)) ts) (filter (λ v. not (eqb v t)) ts))
  by_test true e = ap (λ (rows : List ReadyRow). row_for threads u ∷ rows) e
  by_test false e = e

among-out : (rows : List ReadyRow) (t u : ℕ) → is_among (threads_in (rows_without rows t)) u ≡ true → is_among (threads_in rows) u ≡ true
among-out [] t u e = e
among-out (row ∷ rows) t u e = by_test (not (eqb row.thread t)) (among-out rows t u) e where
  by_test : (c : Bool) → (is_among (threads_in (rows_without rows t)) u ≡ true → is_among (threads_in rows) u ≡ true) → is_among (threads_in (cond c (row ∷ rows_without rows t) (rows_without rows t))) u ≡ true
      → (eqb row.thread u || is_among (threads_in rows) u) ≡ true
  by_test true rest e = or-wider (eqb row.thread u) _ _ rest e
  by_test false rest e = or-right (eqb row.thread u) _ (rest e)

among-last : (ts : List ℕ) (t u : ℕ) → u ≢ t → is_among (ts ++ t ∷ []) u ≡ true → is_among ts u ≡ true
among-last [] t u apart e = by_test (eqb t u) refl e where
  by_test : (c : Bool) → eqb t u ≡ c → (c || false) ≡ true → false ≡ true
  by_test true is e = absurd (apart (sym (eqb-true t u is)))
  by_test false is e = e
among-last (v ∷ ts) t u apart e = or-wider (eqb v u) _ _ (among-last ts t u apart) e

among-first : (ts : List ℕ) (t u : ℕ) → u ≢ t → is_among (t ∷ ts) u ≡ true → is_among ts u ≡ true
among-first ts t u apart e = by_test (eqb t u) refl e where
  by_test : (c : Bool) → eqb t u ≡ c → (c || is_among ts u) ≡ true → is_among ts u ≡ true
  by_test true is e = absurd (apart (sym (eqb-true t u is)))
  by_test false is e = e

-- ---- the rows of changed threads

part-kept : {A : Type 0} (f : Thread → A) (threads : List Thread) (t u : ℕ) (row : Thread) → f row ≡ f (row_at threads t) → f (row_at (slice_set threads t row) u) ≡ f (row_at threads u)
part-kept f [] t u row same = refl
part-kept f (x ∷ xs) zero zero row same = same
part-kept f (x ∷ xs) zero (suc u) row same = refl
part-kept f (x ∷ xs) (suc t) zero row same = refl
part-kept f (x ∷ xs) (suc t) (suc u) row same = part-kept f xs t u row same

-- a change that keeps priority and binding
pub row-kept : (threads : List Thread) (t u : ℕ) (row : Thread) → row.base ≡ (row_at threads t).base → row.core ≡ (row_at threads t).core → row_for (slice_set threads t row) u ≡ row_for threads u
row-kept threads t u row base core =
    ap (λ prio. row_of u prio (row_at (slice_set threads t row) u).core) (part-kept (λ (x : Thread). x.base) threads t u row base)
    ∙ ap (row_of u (row_at threads u).base) (part-kept (λ (x : Thread). x.core) threads t u row core)

pub rows-kept : (threads : List Thread) (t : ℕ) (row : Thread) (ts : List ℕ) → row.base ≡ (row_at threads t).base → row.core ≡ (row_at threads t).core → map (row_for (slice_set threads t row)) ts ≡ map (row_for threads) ts
rows-kept threads t row ts base core = λ k. map (λ u. row-kept threads t u row base core k) ts

-- any change of a thread that has no row
rows-apart : (threads : List Thread) (t : ℕ) (row : Thread) (ts : List ℕ) → is_among ts t ≡ false → map (row_for (slice_set threads t row)) ts ≡ map (row_for threads) ts
rows-apart threads t row [] out = refl
rows-apart threads t row (u ∷ ts) out = by_test (eqb u t) refl (rows-apart threads t row ts) out where
  by_test : (c : Bool) → eqb u t ≡ c → (is_among ts t ≡ false → map (row_for (slice_set threads t row)) ts ≡ map (row_for threads) ts) → (c || is_among ts t) ≡ false
      → row_for (slice_set threads t row) u ∷ map (row_for (slice_set threads t row)) ts ≡ row_for threads u ∷ map (row_for threads) ts
  by_test true is rest out = absurd (false≢true (sym out))
  by_test false is rest out =
      ap (λ (x : Thread). row_of u x.base x.core ∷ map (row_for (slice_set threads t row)) ts) (set-there threads u t row no_thread (eqb-false u t is))
      ∙ ap (λ (rows : List ReadyRow). row_for threads u ∷ rows) (rest out)

-- what holds of each thread after a change of one
by-thread : (P : ℕ → Thread → Type 0) (threads : List Thread) (t : ℕ) (row : Thread) → t < length threads → P t row → ((u : ℕ) → u ≢ t → P u (row_at threads u)) → (u : ℕ) → P u (row_at (slice_set threads t row) u)
by-thread P threads t row there here other u = by_test (eqb u t) refl where
  by_test : (c : Bool) → eqb u t ≡ c → P u (row_at (slice_set threads t row) u)
  by_test true e = subst (λ v. P v (row_at (slice_set threads t row) v)) (sym (eqb-true u t e)) (subst (P t) (sym (set-here threads t row no_thread there)) here)
  by_test false e = subst (P u) (sym (set-there threads u t row no_thread (eqb-false u t e))) (other u (eqb-false u t e))

within-kept : (threads : List Thread) (r : ReadySeen) (t : ℕ) (row : Thread) → IsReady threads r → t < length threads → IsWithin r row → (u : ℕ) → u < length (slice_set threads t row) → IsWithin r (row_at (slice_set threads t row) u)
within-kept threads r t row is there within =
    by-thread (λ u x. u < length (slice_set threads t row) → IsWithin r x) threads t row there (λ below. within) (λ u apart below. is.within u (subst (λ n. u < n) (length-set threads t row) below))

-- a change of a thread that keeps priority and binding, and leaves an active one active
pub ready-kept : (threads : List Thread) (r : ReadySeen) (t : ℕ) (row : Thread) → IsReady threads r → t < length threads → row.base ≡ (row_at threads t).base → row.core ≡ (row_at threads t).core
    → (is_active (row_at threads t).stage ≡ true → is_active row.stage ≡ true) → IsReady (slice_set threads t row) r
ready-kept threads r t row is there base core active = record {
  count = is.count ∙ sym (length-set threads t row);
  rows = is.rows ∙ sym (rows-kept threads t row (threads_in r.rows) base core);
  active = by-thread (λ u x. is_among (threads_in r.rows) u ≡ true → is_active x.stage ≡ true) threads t row there (λ among. active (is.active t among)) (λ u apart. is.active u);
  within = within-kept threads r t row is there (within-same row base core (is.within t there));
} where
  within-same : (x : Thread) → x.base ≡ (row_at threads t).base → x.core ≡ (row_at threads t).core → IsWithin r (row_at threads t) → IsWithin r x
  within-same x base core w = (subst (λ n. n < r.levels) (sym base) w.0, subst (IsBinding r.cores) (sym core) w.1)

-- any change of a thread that isn't ready
pub ready-apart : (threads : List Thread) (r : ReadySeen) (t : ℕ) (row : Thread) → IsReady threads r → t < length threads → has_row r.rows t ≡ false → IsWithin r row → IsReady (slice_set threads t row) r
ready-apart threads r t row is there out within = record {
  count = is.count ∙ sym (length-set threads t row);
  rows = is.rows ∙ sym (rows-apart threads t row (threads_in r.rows) gone);
  active = by-thread (λ u x. is_among (threads_in r.rows) u ≡ true → is_active x.stage ≡ true) threads t row there (λ among. absurd (false≢true (sym gone ∙ among))) (λ u apart. is.active u);
  within = within-kept threads r t row is there within;
} where
  gone : is_among (threads_in r.rows) t ≡ false
  gone = sym (has-among r.rows t) ∙ out

-- ---- other rows

-- a thread leaves
pub ready-out : (threads : List Thread) (r : ReadySeen) (t : ℕ) → IsReady threads r → IsReady threads (with_rows r (rows_without r.rows t))
ready-out threads r t is = record {
  count = is.count;
  rows = ap (λ (rows : List ReadyRow). rows_without rows t) is.rows ∙ out-rows threads (threads_in r.rows) t ∙ ap (map (row_for threads)) (sym (out-threads r.rows t));
  active = λ u among. is.active u (among-out r.rows t u among);
  within = is.within;
}

-- an active thread goes to the end, or to the front
pub ready-last : (threads : List Thread) (r : ReadySeen) (t : ℕ) → IsReady threads r → is_active (row_at threads t).stage ≡ true → IsReady threads (with_rows r (r.rows ++ row_for threads t ∷ []))
ready-last threads r t is active = record {
  count = is.count;
  rows = ap (λ (rows : List ReadyRow). rows ++ row_for threads t ∷ []) is.rows ∙ sym (map-append (row_for threads) (threads_in r.rows) (t ∷ [])) ∙ ap (map (row_for threads)) (sym (map-append (λ (row : ReadyRow). row.thread) r.rows (row_for threads t ∷ [])));
  active = by_thread;
  within = is.within;
} where
  by_thread : (u : ℕ) → is_among (threads_in (r.rows ++ row_for threads t ∷ [])) u ≡ true → is_active (row_at threads u).stage ≡ true
  by_thread u among = by_test (eqb u t) refl where
    by_test : (c : Bool) → eqb u t ≡ c → is_active (row_at threads u).stage ≡ true
    by_test true e = ap (λ v. is_active (row_at threads v).stage) (eqb-true u t e) ∙ active
    by_test false e = is.active u (among-last (threads_in r.rows) t u (eqb-false u t e) (ap (λ (ts : List ℕ). is_among ts u) (sym (map-append (λ (row : ReadyRow). row.thread) r.rows (row_for threads t ∷ []))) ∙ among))

pub ready-first : (threads : List Thread) (r : ReadySeen) (t : ℕ) → IsReady threads r → is_active (row_at threads t).stage ≡ true → IsReady threads (with_rows r (row_for threads t ∷ r.rows))
ready-first threads r t is active = record {
  count = is.count;
  rows = ap (λ (rows : List ReadyRow). row_for threads t ∷ rows) is.rows;
  active = by_thread;
  within = is.within;
} where
  by_thread : (u : ℕ) → is_among (t ∷ threads_in r.rows) u ≡ true → is_active (row_at threads u).stage ≡ true
  by_thread u among = by_test (eqb u t) refl where
    by_test : (c : Bool) → eqb u t ≡ c → is_active (row_at threads u).stage ≡ true
    by_test true e = ap (λ v. is_active (row_at threads v).stage) (eqb-true u t e) ∙ active
    by_test false e = is.active u (among-first (threads_in r.rows) t u (eqb-false u t e) among)

-- the threads where one goes to the end
pub last-threads : (rows : List ReadyRow) (row : ReadyRow) → threads_in (rows ++ row ∷ []) ≡ threads_in rows ++ row.thread ∷ []
last-threads rows row = map-append (λ (x : ReadyRow). x.thread) rows (row ∷ [])

-- ---- another priority

found-row : (threads : List Thread) (ts : List ℕ) (t : ℕ) → is_among ts t ≡ true → find (is_row_of t) (map (row_for threads) ts) ≡ Some (row_for threads t)
found-row threads [] t e = absurd (false≢true e)
found-row threads (u ∷ ts) t e = by_test (eqb u t) refl (found-row threads ts t) e where
  by_test : (c : Bool) → eqb u t ≡ c → (is_among ts t ≡ true → find (is_row_of t) (map (row_for threads) ts) ≡ Some (row_for threads t)) → (c || is_among ts t) ≡ true
      → cond c (Some (row_for threads u)) (find (is_row_of t) (map (row_for threads) ts)) ≡ Some (row_for threads t)
  by_test true is rest here = ap (λ v. Some (row_for threads v)) (eqb-true u t is)
  by_test false is rest here = rest here

-- what a new base leaves of the rows, and of the threads in order
pub record IsMoved (threads : List Thread) (r : ReadySeen) (t prio : ℕ) : Type 0 where
  pub ready : IsReady (slice_set threads t (record (row_at threads t) { base = prio })) (with_rows r (rows_moved r.rows t prio))
  pub order : threads_in (rows_moved r.rows t prio) ≡ moved_last (threads_in r.rows) t

pub ready-moved : (threads : List Thread) (r : ReadySeen) (t prio : ℕ) → IsReady threads r → t < length threads → prio < r.levels → IsMoved threads r t prio
ready-moved threads r t prio is there below = by_test (is_among (threads_in r.rows) t) refl where
  row : Thread
  row = record (row_at threads t) { base = prio }

  new : List Thread
  new = slice_set threads t row

  within : IsWithin r row
  within = (below, (is.within t there).1)

  by_test : (c : Bool) → is_among (threads_in r.rows) t ≡ c → IsMoved threads r t prio
  by_test false e =
      let out : has_row r.rows t ≡ false = has-among r.rows t ∙ e in
      let stay : rows_moved r.rows t prio ≡ r.rows = ap (moved_row r.rows prio) (row-missing r.rows t out) in record {
        ready = subst (λ (rows : List ReadyRow). IsReady new (with_rows r rows)) (sym stay) (ready-apart threads r t row is there out within);
        order = ap threads_in stay ∙ sym (ap (λ c. if c then filter (λ u. not (eqb u t)) (threads_in r.rows) ++ t ∷ [] else threads_in r.rows) e);
      }
  by_test true e =
      let found : find (is_row_of t) r.rows ≡ Some (row_for threads t) = ap (find (is_row_of t)) is.rows ∙ found-row threads (threads_in r.rows) t e in
      let here : row_for new t ≡ row_of t prio (row_at threads t).core = ap (λ (x : Thread). row_of t x.base x.core) (set-here threads t row no_thread there) in
      let moves : rows_moved r.rows t prio ≡ rows_without r.rows t ++ row_for new t ∷ [] = ap (moved_row r.rows prio) found ∙ ap (λ (x : ReadyRow). rows_without r.rows t ++ x ∷ []) (sym here) in
      let gone : ReadySeen = with_rows r (rows_without r.rows t) in record {
        ready = subst (λ (rows : List ReadyRow). IsReady new (with_rows r rows)) (sym moves) (ready-last new gone t (ready-apart threads gone t row (ready-out threads r t is) there (absent_without r.rows t) within) (ap (λ (x : Thread). is_active x.stage) (set-here threads t row no_thread there) ∙ is.active t e));
        order = ap threads_in moves
            ∙ last-threads (rows_without r.rows t) (row_for new t)
            ∙ ap (λ (us : List ℕ). us ++ t ∷ []) (out-threads r.rows t)
            ∙ sym (ap (λ c. if c then filter (λ u. not (eqb u t)) (threads_in r.rows) ++ t ∷ [] else threads_in r.rows) e);
      }

-- ---- threads that wake one after the other

pub threads-rows : (threads : List Thread) (ts : List ℕ) → threads_in (map (row_for threads) ts) ≡ ts
threads-rows threads [] = refl
threads-rows threads (t ∷ ts) = ap (λ (us : List ℕ). t ∷ us) (threads-rows threads ts)

-- the threads where some go to the end
pub more-threads : (threads : List Thread) (rows : List ReadyRow) (ts : List ℕ) → threads_in (rows ++ map (row_for threads) ts) ≡ threads_in rows ++ ts
more-threads threads rows ts = map-append (λ (x : ReadyRow). x.thread) rows (map (row_for threads) ts) ∙ ap (λ (us : List ℕ). threads_in rows ++ us) (threads-rows threads ts)

pub has-last : (rows : List ReadyRow) (row : ReadyRow) (u : ℕ) → has_row rows u ≡ false → row.thread ≢ u → has_row (rows ++ row ∷ []) u ≡ false
has-last [] row u out apart = by_test (eqb row.thread u) refl where
  by_test : (c : Bool) → eqb row.thread u ≡ c → (c || false) ≡ false
  by_test true e = absurd (apart (eqb-true row.thread u e))
  by_test false e = refl
has-last (x ∷ rows) row u out apart = by_test (eqb x.thread u) out (λ gone. has-last rows row u gone apart) where
  by_test : (c : Bool) → (c || has_row rows u) ≡ false → (has_row rows u ≡ false → has_row (rows ++ row ∷ []) u ≡ false) → (c || has_row (rows ++ row ∷ []) u) ≡ false
  by_test true out rest = out
  by_test false out rest = rest out

-- a thread that may go to the end: it is there, and not ready
abbrev pub IsOut : List Thread → List ReadyRow → ℕ → Type 0
IsOut threads rows t = (t < length threads) × (has_row rows t ≡ false)

each-later : (threads one : List Thread) (rows : List ReadyRow) (row : ReadyRow) (us : List ℕ) → length one ≡ length threads → NotIn row.thread us → EachOf (IsOut threads rows) us → EachOf (IsOut one (rows ++ row ∷ [])) us
each-later threads one rows row [] same n each = tt
each-later threads one rows row (u ∷ us) same n each = ((subst (λ m. u < m) (sym same) each.0.0, has-last rows row u each.0.1 n.0), each-later threads one rows row us same n.1 each.1)

absent-each : (threads : List Thread) (rows : List ReadyRow) (ts : List ℕ) → EachOf (IsOut threads rows) ts → Distinct ts → (i : ℕ) → i < length ts → has_row (rows ++ map (row_for threads) (take i ts)) (slice_index ts i) ≡ false
absent-each threads rows [] each d i there = absurd (omega (arith, there))
absent-each threads rows (t ∷ ts) each d zero there = ap (λ (all : List ReadyRow). has_row all t) (append-nil rows) ∙ each.0.1
absent-each threads rows (t ∷ ts) each d (suc i) there =
    ap (λ (all : List ReadyRow). has_row all (slice_index ts i)) (sym (append_assoc rows (row_for threads t ∷ []) (map (row_for threads) (take i ts))))
    ∙ absent-each threads (rows ++ row_for threads t ∷ []) ts (each-later threads threads rows (row_for threads t) ts refl d.0 each.1) d.1 i (omega (arith, there))

each-index : (P : ℕ → Type 0) (ts : List ℕ) (i : ℕ) → EachOf P ts → i < length ts → P (slice_index ts i)
each-index P [] i each there = absurd (omega (arith, there))
each-index P (t ∷ ts) zero each there = each.0
each-index P (t ∷ ts) (suc i) each there = each-index P ts i each.1 (omega (arith, there))

-- what some threads that wake leave
pub record IsEntered (now : List Thread) (r : ReadySeen) (ts : List ℕ) : Type 0 where
  pub may : MayEnter now r ts
  pub ready : IsReady now (with_rows r (r.rows ++ map (row_for now) ts))

module _ {A : Type 0} (at : A → ℕ) (change : A → Thread → Thread) (wakes : (a : A) (row : Thread) → (change a row).stage ≡ Active) (base : (a : A) (row : Thread) → (change a row).base ≡ row.base) (core : (a : A) (row : Thread) → (change a row).core ≡ row.core) where
  abbrev after : List Thread → List A → List Thread
  after threads ws = fold (λ rows a. with_row rows (at a) (change a)) threads ws

  row-after-all : (threads : List Thread) (ws : List A) (u : ℕ) → row_for (after threads ws) u ≡ row_for threads u
  row-after-all threads [] u = refl
  row-after-all threads (w ∷ ws) u = row-after-all (with_row threads (at w) (change w)) ws u ∙ row-kept threads (at w) u (change w (row_at threads (at w))) (base w (row_at threads (at w))) (core w (row_at threads (at w)))

  ready-woken : (threads : List Thread) (r : ReadySeen) (ws : List A) → IsReady threads r → EachOf (IsOut threads r.rows) (map at ws) → Distinct (map at ws) → IsReady (after threads ws) (with_rows r (r.rows ++ map (row_for (after threads ws)) (map at ws)))
  ready-woken threads r [] is each d = subst (λ (rows : List ReadyRow). IsReady threads (with_rows r rows)) (sym (append-nil r.rows)) is
  ready-woken threads r (w ∷ ws) is each d = subst (λ (rows : List ReadyRow). IsReady (after one ws) (with_rows r rows)) order (ready-woken one (with_rows r (r.rows ++ row_for one t ∷ [])) ws step (each-later threads one r.rows (row_for one t) (map at ws) (length-set threads t row) d.0 each.1) d.1) where
    t : ℕ
    t = at w

    row : Thread
    row = change w (row_at threads (at w))

    one : List Thread
    one = slice_set threads (at w) (change w (row_at threads (at w)))

    within : IsWithin r (row_at threads (at w)) → IsWithin r (change w (row_at threads (at w)))
    within old = (subst (λ n. n < r.levels) (sym (base w (row_at threads (at w)))) old.0, subst (IsBinding r.cores) (sym (core w (row_at threads (at w)))) old.1)

    step : IsReady one (with_rows r (r.rows ++ row_for one t ∷ []))
    step = ready-last one r t (ready-apart threads r t row is each.0.0 each.0.1 (within (is.within t each.0.0))) (ap (λ (x : Thread). is_active x.stage) (set-here threads t row no_thread each.0.0) ∙ ap is_active (wakes w (row_at threads (at w))))

    order : (r.rows ++ row_for one t ∷ []) ++ map (row_for (after one ws)) (map at ws) ≡ r.rows ++ row_for (after one ws) t ∷ map (row_for (after one ws)) (map at ws)
    order =
        append_assoc r.rows (row_for one t ∷ []) (map (row_for (after one ws)) (map at ws))
        ∙ ap (λ (x : ReadyRow). r.rows ++ x ∷ map (row_for (after one ws)) (map at ws)) (sym (row-after-all one ws t))

  pub entered : (threads now : List Thread) (r : ReadySeen) (ws : List A) → IsReady threads r → EachOf (IsOut threads r.rows) (map at ws) → Distinct (map at ws) → now ≡ after threads ws → IsEntered now r (map at ws)
  entered threads now r ws is each d now_is = subst (λ (xs : List Thread). IsEntered xs r (map at ws)) (sym now_is) (record {
    may = record {
      there = λ i below. subst (λ n. slice_index (map at ws) i < n) same (each-index (IsOut threads r.rows) (map at ws) i each below).0;
      count = done.count;
      within = λ i below. done.within (slice_index (map at ws) i) (subst (λ n. slice_index (map at ws) i < n) same (each-index (IsOut threads r.rows) (map at ws) i each below).0);
      absent = λ i below. ap (λ (f : ℕ → ReadyRow). has_row (r.rows ++ map f (take i (map at ws))) (slice_index (map at ws) i)) (λ k u. row-after-all threads ws u k) ∙ absent-each threads r.rows (map at ws) each d i below;
    };
    ready = done;
  }) where
    done : IsReady (after threads ws) (with_rows r (r.rows ++ map (row_for (after threads ws)) (map at ws)))
    done = ready-woken threads r ws is each d

    same : length threads ≡ length (after threads ws)
    same = sym is.count ∙ done.count

-- who waits in a list isn't ready
waits-idle : (p : Call → Bool) (base : ℕ) (stage : Stage) → is_some (row_with base (number_in p stage)) ≡ true → is_active stage ≡ false
waits-idle p base Active e = absurd (false≢true e)
waits-idle p base _ e = refl

pub line-out : (threads : List Thread) (r : ReadySeen) (p : Call → Bool) (ts : List ℕ) → IsReady threads r → EachOf (InLine threads p) ts → EachOf (IsOut threads r.rows) ts
line-out threads r p ts is each = EachOf-weaker (InLine threads p) (IsOut threads r.rows) (λ t there. (there.there, absent threads r t is (waits-idle p (row_at threads t).base (row_at threads t).stage there.waits))) ts each

-- the waiters of a list that wake with a code
pub woken-entered : (code : Code) (threads now : List Thread) (l : Lists) (r : ReadySeen) (list : WaitList) (i : ℕ) (woken : List ℕ) → AreTables threads l r → i < slots_in l list → woken ≡ line (waits_in l list i) → now ≡ all_woken code threads woken → IsEntered now r woken
woken-entered code threads now l r list i woken k within is now_is =
    subst (IsEntered now r) (map-id woken) (entered (λ (t : ℕ). t) (λ t. woken_row code) (λ t row. refl) (λ t row. refl) (λ t row. refl) threads now r woken k.ready (subst (EachOf (IsOut threads r.rows)) (sym (map-id woken)) each) (subst Distinct (sym (map-id woken)) apart) now_is)
  where
    below : i < (objects_in l.objects list).limit
    below = subst (λ n. i < n) (k.tied.slots list) within

    p : Call → Bool
    p = calls_in l.objects list i

    each : EachOf (IsOut threads r.rows) woken
    each = subst (EachOf (IsOut threads r.rows)) (sym (is ∙ tied-line threads (waits_in l list i) (calls_in l.objects list i) (k.tied.lists.rows list i below))) (line-out threads r (calls_in l.objects list i) (line_of threads (waits_in l list i).order (calls_in l.objects list i)) k.ready (line-in threads (waits_in l list i).order (calls_in l.objects list i)))

    apart : Distinct woken
    apart = subst Distinct (sym is) (Distinct-standing (waits_in l list i).order (waits_in l list i).rows)

-- who waits in one list stands in no other
not-both : (threads : List Thread) (p q : Call → Bool) → ((call : Call) → p call ≡ true → q call ≡ false) → (t : ℕ) (us : List ℕ) → InLine threads p t → EachOf (InLine threads q) us → NotIn t us
not-both threads p q apart t [] here each = tt
not-both threads p q apart t (u ∷ us) here each = (
  λ same. false≢true (sym (ap is_some (other-call p q apart (row_at threads t).base (row_at threads t).stage here.waits)) ∙ ap (λ v. is_some (wait_row q (row_at threads v))) same ∙ each.0.waits),
  not-both threads p q apart t us here each.1,
)

not-in-two : (t : ℕ) (one other : List ℕ) → NotIn t one → NotIn t other → NotIn t (one ++ other)
not-in-two t [] other n m = m
not-in-two t (u ∷ one) other n m = (n.0, not-in-two t one other n.1 m)

two-apart : (threads : List Thread) (p q : Call → Bool) → ((call : Call) → p call ≡ true → q call ≡ false) → (one other : List ℕ) → EachOf (InLine threads p) one → EachOf (InLine threads q) other → Distinct one → Distinct other → Distinct (one ++ other)
two-apart threads p q apart [] other each rest d e = e
two-apart threads p q apart (t ∷ one) other each rest d e = (not-in-two t one other d.0 (not-both threads p q apart t other each.0 rest), two-apart threads p q apart one other each.1 rest d.1 e)

each-two : {A : Type 0} (P : A → Type 0) (one other : List A) → EachOf P one → EachOf P other → EachOf P (one ++ other)
each-two P [] other each rest = rest
each-two P (x ∷ one) other each rest = (each.0, each-two P one other each.1 rest)

-- all who wait at the two ends of a mailbox or a message queue
pub ends-entered : (threads now : List Thread) (l : Lists) (r : ReadySeen) (kind : ChannelKind) (i : ℕ) (woken : List ℕ) → AreTables threads l r → i < slots_of l.channels kind → woken ≡ line (waits_at l.channels kind End.Receivers i) ++ line (waits_at l.channels kind End.Senders i) → now ≡ all_woken Code.Error threads woken → IsEntered now r woken
ends-entered threads now l r kind i woken k within is now_is =
    subst (IsEntered now r) (map-id woken) (entered (λ (t : ℕ). t) (λ t. woken_row Code.Error) (λ t row. refl) (λ t row. refl) (λ t row. refl) threads now r woken k.ready (subst (EachOf (IsOut threads r.rows)) (sym (map-id woken)) each) (subst Distinct (sym (map-id woken)) apart) now_is)
  where
    at : End → WaitList
    at end = WaitList.Channel kind end

    p : End → Call → Bool
    p end = calls_in l.objects (WaitList.Channel kind end) i

    in-line : (end : End) → EachOf (InLine threads (p end)) (line (waits_in l (at end) i))
    in-line end = subst (EachOf (InLine threads (p end))) (sym (tied-line threads (waits_in l (at end) i) (p end) (k.tied.lists.rows (at end) i (subst (λ n. i < n) (k.tied.slots (at end)) within)))) (line-in threads (waits_in l (at end) i).order (p end))

    each : EachOf (IsOut threads r.rows) woken
    each = subst (EachOf (IsOut threads r.rows)) (sym is) (each-two (IsOut threads r.rows) (line (waits_in l (at End.Receivers) i)) (line (waits_in l (at End.Senders) i)) (line-out threads r (p End.Receivers) (line (waits_in l (at End.Receivers) i)) k.ready (in-line End.Receivers)) (line-out threads r (p End.Senders) (line (waits_in l (at End.Senders) i)) k.ready (in-line End.Senders)))

    apart : Distinct woken
    apart = subst Distinct (sym is) (two-apart threads (p End.Receivers) (p End.Senders) (lists-apart l.objects (at End.Receivers) (at End.Senders) i i k.tied.lists.sound (senders-apart kind i)) (line (waits_in l (at End.Receivers) i)) (line (waits_in l (at End.Senders) i)) (in-line End.Receivers) (in-line End.Senders) (Distinct-standing (waits_in l (at End.Receivers) i).order (waits_in l (at End.Receivers) i).rows) (Distinct-standing (waits_in l (at End.Senders) i).order (waits_in l (at End.Senders) i).rows))

-- those who get flags
not-woken : (t flags : ℕ) (wants : List Want) (ts : List ℕ) → NotIn t ts → NotIn t (map (λ (w : ℕ × ℕ). w.0) (woken_by flags (map (wanting_of wants) ts)))
not-woken t flags wants [] n = tt
not-woken t flags wants (u ∷ us) n = by_test (is_satisfied flags (want_at (slice_get wants u))) (not-woken t flags wants us n.1) where
  rest : List Wanting
  rest = satisfied_waiters flags (map (wanting_of wants) us)

  by_test : (c : Bool) → NotIn t (map (λ (w : ℕ × ℕ). w.0) (map (λ (w : Wanting). (w.thread, bit_and flags w.want.mask)) rest)) → NotIn t (map (λ (w : ℕ × ℕ). w.0) (map (λ (w : Wanting). (w.thread, bit_and flags w.want.mask)) (cond c (wanting_of wants u ∷ rest) rest)))
  by_test true r = (n.0, r)
  by_test false r = r

woken-apart : (flags : ℕ) (wants : List Want) (ts : List ℕ) → Distinct ts → Distinct (map (λ (w : ℕ × ℕ). w.0) (woken_by flags (map (wanting_of wants) ts)))
woken-apart flags wants [] d = tt
woken-apart flags wants (u ∷ us) d = by_test (is_satisfied flags (want_at (slice_get wants u))) (woken-apart flags wants us d.1) where
  rest : List Wanting
  rest = satisfied_waiters flags (map (wanting_of wants) us)

  by_test : (c : Bool) → Distinct (map (λ (w : ℕ × ℕ). w.0) (map (λ (w : Wanting). (w.thread, bit_and flags w.want.mask)) rest)) → Distinct (map (λ (w : ℕ × ℕ). w.0) (map (λ (w : Wanting). (w.thread, bit_and flags w.want.mask)) (cond c (wanting_of wants u ∷ rest) rest)))
  by_test true r = (not-woken u flags wants us d.0, r)
  by_test false r = r

pub given-entered : (threads now : List Thread) (l : Lists) (r : ReadySeen) (i flags : ℕ) (ws : List (ℕ × ℕ)) → AreTables threads l r → i < length l.events.items → ws ≡ woken_by flags (wanting (event_at l.events.items i)) → now ≡ all_given threads ws → IsEntered now r (map (λ w. w.0) ws)
given-entered threads now l r i flags ws k there is now_is =
    entered (λ (w : ℕ × ℕ). w.0) (λ w. given_row w.1) (λ w row. refl) (λ w row. refl) (λ w row. refl) threads now r ws k.ready
    (subst (λ (xs : List (ℕ × ℕ)). EachOf (IsOut threads r.rows) (map (λ w. w.0) xs)) (sym is) (line-out threads r (calls_in l.objects WaitList.Event i) (map (λ (w : ℕ × ℕ). w.0) (woken_by flags (wanting (event_at l.events.items i)))) k.ready (sent-each threads l i k.tied there flags)))
    (subst (λ (xs : List (ℕ × ℕ)). Distinct (map (λ w. w.0) xs)) (sym is) (woken-apart flags (event_at l.events.items i).wants (line (event_at l.events.items i).waiters) (Distinct-standing (event_at l.events.items i).waiters.order (event_at l.events.items i).waiters.rows)))
    now_is

-- ---- what contracts see

-- a creation changes nothing of who is ready
pub creates-sem : (r : ReadySeen) (old new : Tabled) (sem : Sem) (result : Result Unit Make) → CreatesSem old new sem result → CreatesSem (with_ready old r) (with_ready new r) sem result
creates-sem r old new sem (Ok done) h = (h.0, (h.1.0, ap (λ k. with_ready k r) h.1.1))
creates-sem r old new sem (Err (Taken number)) h = (h.0, ap (λ k. with_ready k r) h.1)
creates-sem r old new sem (Err (ClassFull limit)) h = (h.0, (h.1.0, ap (λ k. with_ready k r) h.1.1))

pub creates-event : (r : ReadySeen) (old new : Tabled) (event : EventObj) (result : Result Unit Make) → CreatesEvent old new event result → CreatesEvent (with_ready old r) (with_ready new r) event result
creates-event r old new event (Ok done) h = (h.0, (h.1.0, ap (λ k. with_ready k r) h.1.1))
creates-event r old new event (Err (Taken number)) h = (h.0, ap (λ k. with_ready k r) h.1)
creates-event r old new event (Err (ClassFull limit)) h = (h.0, (h.1.0, ap (λ k. with_ready k r) h.1.1))

pub creates-mailbox : (r : ReadySeen) (old new : Tabled) (mailbox : Mailbox) (result : Result Unit Make) → CreatesMailbox old new mailbox result → CreatesMailbox (with_ready old r) (with_ready new r) mailbox result
creates-mailbox r old new mailbox (Ok done) h = (h.0, (h.1.0, ap (λ k. with_ready k r) h.1.1))
creates-mailbox r old new mailbox (Err (Taken number)) h = (h.0, ap (λ k. with_ready k r) h.1)
creates-mailbox r old new mailbox (Err (ClassFull limit)) h = (h.0, (h.1.0, ap (λ k. with_ready k r) h.1.1))

pub creates-queue : (r : ReadySeen) (old new : Tabled) (queue : MsgQueue) (result : Result Unit Make) → CreatesQueue old new queue result → CreatesQueue (with_ready old r) (with_ready new r) queue result
creates-queue r old new queue (Ok done) h = (h.0, (h.1.0, ap (λ k. with_ready k r) h.1.1))
creates-queue r old new queue (Err (Taken number)) h = (h.0, ap (λ k. with_ready k r) h.1)
creates-queue r old new queue (Err (ClassFull limit)) h = (h.0, (h.1.0, ap (λ k. with_ready k r) h.1.1))

-- nor does a release that wakes nobody
pub releases-nobody : (r : ReadySeen) (old new : Tabled) (name : List ℕ) (answer : SemReleased) → ((t : ℕ) → answer ≢ Woke t) → Releases old new name (Some answer) → Releases (with_ready old r) (with_ready new r) name (Some answer)
releases-nobody r old new name (Woke t) other h = absurd (other t refl)
releases-nobody r old new name Full other h = (h.0, (h.1.0, (h.1.1.0, (h.1.1.1.0, ap (λ k. with_ready k r) h.1.1.1.1))))
releases-nobody r old new name Raised other h = (h.0, (h.1.0, (h.1.1.0, (h.1.1.1.0, ap (λ k. with_ready k r) h.1.1.1.1))))

-- the thread that a release woke is the last one
pub releases-woke : (r : ReadySeen) (rows : List ReadyRow) (old new : Tabled) (name : List ℕ) (t : ℕ) → old.ready ≡ [] → threads_in rows ≡ threads_in r.rows ++ t ∷ [] → Releases old (record new { ready = t ∷ [] }) name (Some (Woke t)) → Releases (with_ready old r) (with_ready new (with_rows r rows)) name (Some (Woke t))
releases-woke r rows old new name t none order h =
    let last : with_ready new (with_rows r rows) ≡ record (with_ready old r) { threads = with_row old.threads t (woken_row Code.Ok); ready = threads_in r.rows ++ t ∷ [] } =
    ap (λ (k : Tabled). record k { ready = threads_in rows; cores = r.cores; levels = r.levels }) h.1.1.1.1 ∙ ap (λ (ready : List ℕ). record old { threads = with_row old.threads t (woken_row Code.Ok); ready = ready; cores = r.cores; levels = r.levels }) order in
    (h.0, (h.1.0, (h.1.1.0, (h.1.1.1.0, last))))

-- the tables with other rows
pub shown-with : (threads now : List Thread) (l new : Lists) (r next : ReadySeen) (rows : List ReadyRow) (order : List ℕ) → tabled now new ≡ tabled threads l → next ≡ with_rows r rows → threads_in rows ≡ order → with_ready (tabled now new) next ≡ record (with_ready (tabled threads l) r) { ready = order }
shown-with threads now l new r next rows order same is in_order =
    ap (λ k. with_ready k next) same
    ∙ ap (with_ready (tabled threads l)) is
    ∙ ap (λ (ready : List ℕ). record (with_ready (tabled threads l) r) { ready = ready }) in_order

-- a thread may go to the end or to the front
pub record MayGo (threads : List Thread) (r : ReadySeen) (t prio : ℕ) (core : Option ℕ) : Type 0 where
  pub there : t < r.threads
  pub level : prio < r.levels
  pub binding : IsBinding r.cores core
  pub out : has_row r.rows t ≡ false
  pub last : IsReady threads (with_rows r (r.rows ++ row_of t prio core ∷ []))
  pub first : IsReady threads (with_rows r (row_of t prio core ∷ r.rows))

-- an active thread that isn't ready
pub may-go : (threads : List Thread) (r : ReadySeen) (t prio : ℕ) (core : Option ℕ) → IsReady threads r → t < length threads → has_row r.rows t ≡ false → is_active (row_at threads t).stage ≡ true → prio ≡ (row_at threads t).base → core ≡ (row_at threads t).core → MayGo threads r t prio core
may-go threads r t prio core is there out active base binding =
    let row : row_for threads t ≡ row_of t prio core = ap (λ p. row_of t p (row_at threads t).core) (sym base) ∙ ap (row_of t prio) (sym binding) in record {
      there = subst (λ n. t < n) (sym is.count) there;
      level = subst (λ n. n < r.levels) (sym base) (is.within t there).0;
      binding = subst (IsBinding r.cores) (sym binding) (is.within t there).1;
      out = out;
      last = subst (λ x. IsReady threads (with_rows r (r.rows ++ x ∷ []))) row (ready-last threads r t is active);
      first = subst (λ x. IsReady threads (with_rows r (x ∷ r.rows))) row (ready-first threads r t is active);
    }

-- one that has become active
pub may-go-active : (threads now : List Thread) (r : ReadySeen) (t prio : ℕ) (core : Option ℕ) (row : Thread) → IsReady threads r → t < length threads → has_row r.rows t ≡ false → now ≡ slice_set threads t row → row.base ≡ (row_at threads t).base → row.core ≡ (row_at threads t).core
    → is_active row.stage ≡ true → prio ≡ (row_at now t).base → core ≡ (row_at now t).core → MayGo now r t prio core
may-go-active threads now r t prio core row is there out now_is same_base same_core active base binding =
    may-go now r t prio core (subst (λ (xs : List Thread). IsReady xs r) (sym now_is) (ready-apart threads r t row is there out within)) (subst (λ n. t < n) (sym (ap length now_is ∙ length-set threads t row)) there) out
    (ap (λ (xs : List Thread). is_active (row_at xs t).stage) now_is ∙ ap (λ (x : Thread). is_active x.stage) (set-here threads t row no_thread there) ∙ active) base binding
  where
    within : IsWithin r row
    within = (subst (λ n. n < r.levels) (sym same_base) (is.within t there).0, subst (IsBinding r.cores) (sym same_core) (is.within t there).1)

-- what a call that wakes threads leaves, with those at the end
pub removed-with : (r : ReadySeen) (rows : List ReadyRow) (new left : Tabled) (woken : List ℕ) → threads_in rows ≡ threads_in r.rows ++ woken → record new { ready = woken } ≡ left → with_ready new (with_rows r rows) ≡ record left { ready = threads_in r.rows ++ woken; cores = r.cores; levels = r.levels }
removed-with r rows new left woken order is =
    ap (λ (ready : List ℕ). record new { ready = ready; cores = r.cores; levels = r.levels }) order
    ∙ ap (λ (k : Tabled). record k { ready = threads_in r.rows ++ woken; cores = r.cores; levels = r.levels }) is

-- the thread that a release woke may go to the end
pub woke-goes : (threads now : List Thread) (l : Lists) (r : ReadySeen) (name : List ℕ) (i t prio : ℕ) (core : Option ℕ) (old : Counted) → AreTables threads l r → number_of l.objects.sem.objects name ≡ Some i → old ≡ sem_at l.sems.items i → first_of old.waiters.order (waiters old.waiters) ≡ Some t
    → now ≡ with_row threads t (woken_row Code.Ok) → prio ≡ (row_at now t).base → core ≡ (row_at now t).core → MayGo now r t prio core
woke-goes threads now l r name i t prio core old k e at first now_is base binding =
    let below = found-below l.objects.sem name i (k.tied.lists.sound WaitList.Sem) e in
    let in_line = first-in threads l.objects (waits_in l) WaitList.Sem i t k.tied.lists below (ap (λ (x : Counted). first_of x.waiters.order (waiters x.waiters)) (sym at) ∙ first) in
    may-go-active threads now r t prio core (woken_row Code.Ok (row_at threads t)) k.ready in_line.there (absent threads r t k.ready (waits-idle (calls_in l.objects WaitList.Sem i) (row_at threads t).base (row_at threads t).stage in_line.waits)) now_is refl refl refl base binding

-- ---- opening

among-range : (p : ℕ → Bool) (a n u : ℕ) → a + n ≤ u → is_among (filter p (range_with_len a n)) u ≡ false
among-range p a zero u above = refl
among-range p a (suc n) u above = by_test (p a) (among-range p (a + 1) n u (omega (arith, above))) where
  apart : (c : Bool) → eqb a u ≡ c → is_among (filter p (range_with_len (a + 1) n)) u ≡ false → (c || is_among (filter p (range_with_len (a + 1) n)) u) ≡ false
  apart true e rest = absurd (omega (arith, above, eqb-true a u e))
  apart false e rest = rest

  by_test : (c : Bool) → is_among (filter p (range_with_len (a + 1) n)) u ≡ false → is_among (cond c (a ∷ filter p (range_with_len (a + 1) n)) (filter p (range_with_len (a + 1) n))) u ≡ false
  by_test true rest = apart (eqb a u) refl rest
  by_test false rest = rest

among-passes : (p : ℕ → Bool) (xs : List ℕ) (u : ℕ) → is_among (filter p xs) u ≡ true → p u ≡ true
among-passes p [] u e = absurd (false≢true e)
among-passes p (x ∷ xs) u e = by_test (p x) refl (among-passes p xs u) e where
  here : (c : Bool) → eqb x u ≡ c → p x ≡ true → (is_among (filter p xs) u ≡ true → p u ≡ true) → (c || is_among (filter p xs) u) ≡ true → p u ≡ true
  here true e passes rest among = ap p (sym (eqb-true x u e)) ∙ passes
  here false e passes rest among = rest among

  by_test : (c : Bool) → p x ≡ c → (is_among (filter p xs) u ≡ true → p u ≡ true) → is_among (cond c (x ∷ filter p xs) (filter p xs)) u ≡ true → p u ≡ true
  by_test true passes rest among = here (eqb x u) refl passes rest among
  by_test false fails rest among = rest among

-- none of the started ones below a number is that number
pub started-out : (threads : List Thread) (n : ℕ) → has_row (map (row_for threads) (started threads n)) n ≡ false
started-out threads n =
    has-among (map (row_for threads) (started threads n)) n
    ∙ ap (λ (ts : List ℕ). is_among ts n) (threads-rows threads (started threads n))
    ∙ among-range (λ t. not (is_initial (row_at threads t).stage)) 0 n n (omega arith)

-- a thread of a board is active where it isn't initial
first-active : (defs : List ThreadDef) (t : ℕ) → not (is_initial (row_at (map new_script_thread defs) t).stage) ≡ true → t < length defs → is_active (row_at (map new_script_thread defs) t).stage ≡ true
first-active [] t e there = absurd (omega (arith, there))
first-active (def ∷ defs) zero e there = by_test def.started e where
  by_test : (c : Bool) → not (is_initial (if c then Active else Initial)) ≡ true → is_active (if c then Active else Initial) ≡ true
  by_test true e = refl
  by_test false e = absurd (false≢true e)
first-active (def ∷ defs) (suc t) e there = first-active defs t e (omega (arith, there))

first-within : (levels cores : ℕ) (defs : List ThreadDef) (t : ℕ) → AllByRecursion (λ (def : ThreadDef). (def.prio < levels) × IsBinding cores def.core) defs → t < length defs → ((row_at (map new_script_thread defs) t).base < levels) × IsBinding cores (row_at (map new_script_thread defs) t).core
first-within levels cores [] t all there = absurd (omega (arith, there))
first-within levels cores (def ∷ defs) zero all there = all.0
first-within levels cores (def ∷ defs) (suc t) all there = first-within levels cores defs t all.1 (omega (arith, there))

-- the threads of a board lie within its levels and cores
pub opened-within : (r : ReadySeen) (threads : List Thread) (defs : List ThreadDef) → threads ≡ map new_script_thread defs → AllByRecursion (λ (def : ThreadDef). (def.prio < r.levels) × IsBinding r.cores def.core) defs → (t : ℕ) → t < length threads → IsWithin r (row_at threads t)
opened-within r threads defs is all t there =
    subst (λ (xs : List Thread). IsWithin r (row_at xs t)) (sym is) (first-within r.levels r.cores defs t all (omega (arith, there, ap length is, length-map defs new_script_thread)))

-- the ready list as a board opens
pub opened-ready : (r : ReadySeen) (threads : List Thread) (defs : List ThreadDef) → threads ≡ map new_script_thread defs → AllByRecursion (λ (def : ThreadDef). (def.prio < r.levels) × IsBinding r.cores def.core) defs → r.threads ≡ length threads
    → r.rows ≡ map (row_for threads) (started threads (length threads)) → IsReady threads r
opened-ready r threads defs is all count rows = record {
  count = count;
  rows = rows ∙ ap (map (row_for threads)) (sym order);
  active = λ t among. by_thread t (ap (λ (ts : List ℕ). is_among ts t) (sym order) ∙ among);
  within = opened-within r threads defs is all;
} where
  p : ℕ → Bool
  p t = not (is_initial (row_at threads t).stage)

  order : threads_in r.rows ≡ started threads (length threads)
  order = ap threads_in rows ∙ threads-rows threads (started threads (length threads))

  below : (t : ℕ) → is_among (started threads (length threads)) t ≡ true → (c : Bool) → nat_lt t (length threads) ≡ c → t < length threads
  below t among true e = grind (arith, e)
  below t among false e = absurd (false≢true (sym (among-range (λ u. not (is_initial (row_at threads u).stage)) 0 (length threads) t (grind (arith, e))) ∙ among))

  by_thread : (t : ℕ) → is_among (started threads (length threads)) t ≡ true → is_active (row_at threads t).stage ≡ true
  by_thread t among =
      let passes : not (is_initial (row_at threads t).stage) ≡ true = among-passes (λ u. not (is_initial (row_at threads u).stage)) (range_with_len 0 (length threads)) t among in
      let there = below t among (nat_lt t (length threads)) refl in
      subst (λ (xs : List Thread). not (is_initial (row_at xs t).stage) ≡ true → is_active (row_at xs t).stage ≡ true) (sym is) (λ e. first-active defs t e (omega (arith, there, ap length is, length-map defs new_script_thread))) passes

-- who is ready after a thread got another base priority
pub record IsRebased (threads : List Thread) (r next : ReadySeen) (t base : ℕ) : Type 0 where
  pub ready : IsReady (slice_set threads t (record (row_at threads t) { base = base })) next
  pub order : threads_in next.rows ≡ (if eqb (row_at threads t).base base then threads_in r.rows else moved_last (threads_in r.rows) t)
  pub cores : next.cores ≡ r.cores
  pub levels : next.levels ≡ r.levels

pub rebased-ready : (threads : List Thread) (r next : ReadySeen) (t base : ℕ) → IsReady threads r → t < length threads → base < r.levels → next ≡ (if eqb (row_at threads t).base base then r else with_rows r (rows_moved r.rows t base)) → IsRebased threads r next t base
rebased-ready threads r next t base is there below next_is = by_test (eqb (row_at threads t).base base) refl where
  by_test : (c : Bool) → eqb (row_at threads t).base base ≡ c → IsRebased threads r next t base
  by_test true e =
      let stay : next ≡ r = next_is ∙ ap (λ c. if c then r else with_rows r (rows_moved r.rows t base)) e in
      subst (λ (x : ReadySeen). IsRebased threads r x t base) (sym stay) (record {
        ready = ready-kept threads r t (record (row_at threads t) { base = base }) is there (sym (eqb-true (row_at threads t).base base e)) refl (λ active. active);
        order = sym (ap (λ c. if c then threads_in r.rows else moved_last (threads_in r.rows) t) e);
        cores = refl;
        levels = refl;
      })
  by_test false e =
      let moves : next ≡ with_rows r (rows_moved r.rows t base) = next_is ∙ ap (λ c. if c then r else with_rows r (rows_moved r.rows t base)) e in
      let moved = ready-moved threads r t base is there below in
      subst (λ (x : ReadySeen). IsRebased threads r x t base) (sym moves) (record {
        ready = moved.ready;
        order = moved.order ∙ sym (ap (λ c. if c then threads_in r.rows else moved_last (threads_in r.rows) t) e);
        cores = refl;
        levels = refl;
      })

-- ---- reading

pub none-among : (rows : List ReadyRow) → is_empty rows ≡ is_empty (threads_in rows)
none-among [] = refl
none-among (row ∷ rows) = refl

-- who is picked is there
pub picked-there : (threads : List Thread) (r : ReadySeen) (picked : Option ℕ) → IsReady threads r → IfSome picked (λ t. (t < r.threads) × (has_row r.rows t ≡ true)) → IfSome picked (λ t. (t < length threads) × (is_among (threads_in r.rows) t ≡ true))
picked-there threads r None is there = tt
picked-there threads r (Some t) is there = (subst (λ n. t < n) is.count there.0, sym (has-among r.rows t) ∙ there.1)

-- ---- one more of those who may go to the end

pub record IsEntering (threads : List Thread) (r now : ReadySeen) (ts : List ℕ) (i t prio : ℕ) (core : Option ℕ) : Type 0 where
  pub there : t < now.threads
  pub level : prio < now.levels
  pub binding : IsBinding now.cores core
  pub out : has_row now.rows t ≡ false
  pub next : (new : ReadySeen) → new ≡ with_rows now (now.rows ++ row_of t prio core ∷ []) → new ≡ with_rows r (r.rows ++ map (row_for threads) (take (i + 1) ts))

pub entering : (threads : List Thread) (r now : ReadySeen) (ts : List ℕ) (i t prio : ℕ) (core : Option ℕ) → MayEnter threads r ts → now ≡ with_rows r (r.rows ++ map (row_for threads) (take i ts)) → i < length ts → t ≡ slice_index ts i → prio ≡ (row_at threads t).base → core ≡ (row_at threads t).core
    → IsEntering threads r now ts i t prio core
entering threads r now ts i t prio core may now_is below at base binding = subst (λ (x : ReadySeen). IsEntering threads r x ts i t prio core) (sym now_is) (record {
  there = subst (λ n. t < n) (sym may.count) (subst (λ u. u < length threads) (sym at) (may.there i below));
  level = subst (λ n. n < r.levels) (sym base) within.0;
  binding = subst (IsBinding r.cores) (sym binding) within.1;
  out = ap (has_row (r.rows ++ map (row_for threads) (take i ts))) at ∙ may.absent i below;
  next = λ new is. is ∙ ap (with_rows r) (append_assoc r.rows (map (row_for threads) (take i ts)) (row_of t prio core ∷ []) ∙ ap (λ (rows : List ReadyRow). r.rows ++ rows) more);
}) where
  within : IsWithin r (row_at threads t)
  within = subst (λ u. IsWithin r (row_at threads u)) (sym at) (may.within i below)

  more : map (row_for threads) (take i ts) ++ row_of t prio core ∷ [] ≡ map (row_for threads) (take (i + 1) ts)
  more =
      ap (λ (row : ReadyRow). map (row_for threads) (take i ts) ++ row ∷ []) (ap (λ p. row_of t p core) base ∙ ap (row_of t (row_at threads t).base) binding ∙ ap (row_for threads) at)
      ∙ sym (map_more (row_for threads) ts i 0 below)

take-over : {A : Type 0} (xs : List A) (n : ℕ) → length xs ≤ n → take n xs ≡ xs
take-over [] zero over = refl
take-over [] (suc n) over = refl
take-over (x ∷ xs) zero over = absurd (omega (arith, over))
take-over {A = A} (x ∷ xs) (suc n) over = ap (λ (ys : List A). x ∷ ys) (take-over xs n (omega (arith, over)))

pub entering-over : (threads : List Thread) (r now : ReadySeen) (ts : List ℕ) (i : ℕ) → now ≡ with_rows r (r.rows ++ map (row_for threads) (take i ts)) → length ts ≤ i → now ≡ with_rows r (r.rows ++ map (row_for threads) ts)
entering-over threads r now ts i is over = is ∙ ap (λ (us : List ℕ). with_rows r (r.rows ++ map (row_for threads) us)) (take-over ts i over)

pub placed-at : (ws : List (ℕ × ℕ)) (i : ℕ) (w : ℕ × ℕ) → slice_get ws i ≡ Some w → slice_index (map (λ (x : ℕ × ℕ). x.0) ws) i ≡ w.0
placed-at [] i w e = absurd (none-some w e)
placed-at (x ∷ ws) zero w e = ap (λ (y : ℕ × ℕ). y.0) (same_Some x w e)
placed-at (x ∷ ws) (suc i) w e = placed-at ws i w e

-- ---- one more of those who are started

pub record IsStarting (threads : List Thread) (r now : ReadySeen) (i prio : ℕ) (core : Option ℕ) : Type 0 where
  pub there : i < now.threads
  pub level : prio < now.levels
  pub binding : IsBinding now.cores core
  pub out : has_row now.rows i ≡ false
  pub next : (new : ReadySeen) → new ≡ with_rows now (now.rows ++ row_of i prio core ∷ []) → not (is_initial (row_at threads i).stage) ≡ true → new ≡ with_rows r (map (row_for threads) (started threads (i + 1)))

pub starting : (threads : List Thread) (r now : ReadySeen) (i prio : ℕ) (core : Option ℕ) → now ≡ with_rows r (map (row_for threads) (started threads i)) → r.threads ≡ length threads → i < length threads → ((t : ℕ) → t < length threads → IsWithin r (row_at threads t)) → prio ≡ (row_at threads i).base → core ≡ (row_at threads i).core
    → IsStarting threads r now i prio core
starting threads r now i prio core now_is count below within base binding = subst (λ (x : ReadySeen). IsStarting threads r x i prio core) (sym now_is) (record {
  there = subst (λ n. i < n) (sym count) below;
  level = subst (λ n. n < r.levels) (sym base) (within i below).0;
  binding = subst (IsBinding r.cores) (sym binding) (within i below).1;
  out = started-out threads i;
  next = λ new is passes. is ∙ ap (with_rows r) (ap (λ (row : ReadyRow). map (row_for threads) (started threads i) ++ row ∷ []) (ap (λ p. row_of i p core) base ∙ ap (row_of i (row_at threads i).base) binding) ∙ sym (map-append (row_for threads) (started threads i) (i ∷ [])) ∙ ap (map (row_for threads)) (sym (filter_passes (λ t. not (is_initial (row_at threads t).stage)) i passes)));
})

pub not-starting : (threads : List Thread) (r now : ReadySeen) (i : ℕ) → now ≡ with_rows r (map (row_for threads) (started threads i)) → not (is_initial (row_at threads i).stage) ≡ false → now ≡ with_rows r (map (row_for threads) (started threads (i + 1)))
not-starting threads r now i is fails = is ∙ ap (λ (ts : List ℕ). with_rows r (map (row_for threads) ts)) (sym (filter_fails (λ t. not (is_initial (row_at threads t).stage)) i fails))
