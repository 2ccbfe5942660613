-- What the kernel's invariant says of its state.
use Rattle.std.proofs.Common.{◌≡◌, ◌≢◌, ◌+◌, ◌≤◌, ◌<◌, ◌&&◌, ◌||◌, ℕ, zero, suc, List, [], ◌∷◌, Option, Some, None, Bool, true, false, length, eqb, refl, sym, ap, ◌∙◌, subst, arith, eq-eqb, filter, slice_index_or, not, cond, ◌-◌}
use Rattle.std.proofs.lemmas.Bool.{lt-ltb}
use Rattle.std.specs.Prelude.{if◌then◌else◌, ◌==◌, nat_lt}
use Rattle.std.specs.List.{AllByRecursion, list_any, range_with_len}
use Rattle.rt_plain.specs.PlainBoard.{PlainBoard}
use Rattle.rt_plain.specs.kernel.State.{State, Stage, Initial, Active, Waiting, Suspended, Closed, thread_at, running_on, Alarm, OfThread, OfTimer, ArmedRow, is_closed, is_nest_of, is_among}
use Rattle.rt_plain.specs.kernel.Pick.{pick}
use Rattle.rt_plain.specs.kernel.Statements.{script_of, statement_effect}
use Rattle.rt_plain.specs.kernel.Sound.{is_active, is_waiting, IsProper}
use Rattle.rt_plain.specs.kernel.Effects.{is_alarm, without_alarm}
use Rattle.rt_plain.specs.kernel.Steps.{without_mark, is_preemptible, takes_from}
use Rattle.rt_plain.specs.kernel.Due.{due, due_rows_at, by_number, put_by_number, timeout_effect, timeout_code}
use Rattle.rt_plain.specs.kernel.Ticks.{next_tick_state, with_slice_used, thread_after_slice}
use Rattle.rt_plain.specs.kernel.Owners.{close_effect}
use Rattle.rt_plain.specs.kernel.Calls.{settled_effect}
use Rattle.rt_plain.specs.kernel.Tally.{one_if, tally}
use Rattle.rt_plain.proofs.kernel.TallyLemmas.{all-count, all-weaker, tally-filter}
use Rattle.rt_plain.specs.kernel.Kept.{Frame, Kept, stage_at, IsRowKept, IsRowBounded, IsFineThread, IsWaited}
use Rattle.rt_plain.proofs.kernel.TallyLemmas.{tally-among}
use Rattle.rt_plain.proofs.kernel.Invariant.{alarm-is, running-count, fine-at, fine-later, bounded-later, thread-kept, is-there, active-open, waiting-open, placed-active, running-active, run-kept, preempt-kept, without_alarm-kept}
use Rattle.rt_plain.proofs.kernel.TickLemmas.{IsDueRow, DropsOne, due-rows, less-fits, filter-length, slice-fine, fold-kept}
use Rattle.rt_plain.proofs.kernel.StepLemmas.{picked-ready}
use Rattle.rt_plain.proofs.kernel.StatementLemmas.{statement-kept, settled-kept}
use Rattle.rt_plain.proofs.kernel.WakeLemmas.{wake-kept, close-kept}
use Rattle.rt_kernel.specs.declared.state.State.{State as KernelState}
use Rattle.rt_kernel.specs.View.{state_of}
use Rattle.std.specs.Prelude.{All, IfSome}
use Rattle.std.specs.Option.{option_map}
use Rattle.std.proofs.lemmas.List.Elements.{All-from_recursion}
use Rattle.kernel_timers.specs.Alarmed.{first_alarm, is_armed, alarm_of, names_of}
use Rattle.rt_kernel.specs.Actions.{MayFire}
use Rattle.rt_kernel.specs.Due.{taken}
use Rattle.rt_kernel.specs.IsKernel.{frame_of}
use Rattle.rt_kernel.specs.Mutexes.{AreActive, HasNoMutex}
use Rattle.rt_kernel.proofs.Quiet.{KeepsNames}
use Rattle.rt_kernel.specs.Caller.{IsOnCore}
use Rattle.rt_kernel.specs.Switched.{switched, switched_by, effect_or, preempt_effect}

-- what holds under any frame that doesn't end later holds of now
pub loosened : (f : Frame) (s : State) → Kept f s → s.moment ≤ f.low → f.latest ≤ 1099511627775 → Kept (frame_of f.board s) s
loosened f s kept low ends = record {
  moment_is = refl;
  live = λ some on. omega (arith, kept.live some on, ends);
  ends = kept.ends;
  count = kept.count;
  cores = kept.cores;
  placed = kept.placed;
  rows = all-weaker (IsRowKept f.low s.threads) (IsRowKept s.moment s.threads) s.armed (λ row is. (omega (arith, low, is.0), is.1)) kept.rows;
  bounded = subst (λ now. AllByRecursion (IsRowBounded now s.numbers) s.armed) (sym kept.moment_is) kept.bounded;
  due_few = omega arith;
  single = kept.single;
  owned = kept.owned;
  fine = subst (λ now. AllByRecursion (IsFineThread f.board now) s.threads) (sym kept.moment_is) kept.fine;
  nest_runs = kept.nest_runs;
  timers_fine = kept.timers_fine;
  works_known = kept.works_known;
}

-- the same for an action that was made under the frame of a state, whose moment stays
pub still-now : (b : PlainBoard) (s new : State) → Kept (frame_of b s) new → Kept (frame_of b new) new
still-now b s new kept = loosened (frame_of b s) new kept (omega (arith, kept.moment_is)) (omega arith)

-- the ready threads are there
ready-there : (f : Frame) (s : State) → Kept f s → AllByRecursion (λ t. t < length s.threads) s.ready
ready-there f s kept = all-weaker (λ t. 1 ≤ tally (λ u. eqb u t) s.ready) (λ t. t < length s.threads) s.ready (λ t some. is-there s.threads t (active-open (thread_at s t).stage (placed-active f s t kept (omega (arith, some))))) (all-count s.ready)

one-most : (c : Bool) → one_if c ≤ 1
one-most true = omega arith
one-most false = omega arith

eqb-turn : (m n : ℕ) → eqb m n ≡ eqb n m
eqb-turn m n = grind arith

tally-turn : (t : ℕ) (xs : List ℕ) → tally (λ x. eqb t x) xs ≡ tally (λ x. eqb x t) xs
tally-turn t [] = refl
tally-turn t (x ∷ xs) = omega (arith, ap one_if (eqb-turn t x), tally-turn t xs)

range-has : (a n x : ℕ) → a ≤ x → x < a + n → list_any (λ m. eqb m x) (range_with_len a n) ≡ true
range-has a zero x from to = absurd (omega (arith, from, to))
range-has a (suc n) x from to = by_test (eqb a x) refl (range-has (a + 1) n x) where
  by_test : (c : Bool) → eqb a x ≡ c → (a + 1 ≤ x → x < a + 1 + n → list_any (λ m. eqb m x) (range_with_len (a + 1) n) ≡ true) → c || list_any (λ m. eqb m x) (range_with_len (a + 1) n) ≡ true
  by_test true is more = refl
  by_test false is more = more (grind (arith, from, is)) (omega (arith, to))

-- a thread stands once at most in the ready list
pub ready-once : (f : Frame) (s : State) → Kept f s → (u : ℕ) → length (filter (λ v. v == u) s.ready) ≤ 1
ready-once f s kept u = omega (arith, filter-length (λ v. v == u) s.ready, kept.placed u, one-most (is_active (stage_at s.threads u)))

-- a running thread is there, and stands at a statement or behind its script
pub running-there : (f : Frame) (s : State) (core t : ℕ) → Kept f s → running_on s core ≡ Some t → (t < length s.threads) × ((thread_at s t).next ≤ length (script_of f.board (thread_at s t).name) + 2)
running-there f s core t kept runs =
    let open_stage : is_closed (thread_at s t).stage ≡ false = active-open (thread_at s t).stage (running-active f s core t kept runs) in
    (is-there s.threads t open_stage, (fine-at f s t kept).2 open_stage)

-- a thread on a core is there, active, and not ready
pub on-core : (f : Frame) (k : KernelState) (core t : ℕ) → Kept f (state_of k) → running_on (state_of k) core ≡ Some t → IsOnCore k.tables t
on-core f k core t kept runs = record {
  there = (running-there f s core t kept runs).0;
  active = running-active f s core t kept runs;
  unready = by_test (is_among s.ready t) refl;
} where
  s : State
  s = state_of k

  by_test : (c : Bool) → is_among s.ready t ≡ c → c ≡ false
  by_test true e = absurd (omega (arith, tally-among s.ready t e, running-count s.running core t runs, kept.placed t, one-most (is_active (stage_at s.threads t))))
  by_test false e = refl

-- a running thread has not ended
pub running-open : (f : Frame) (s : State) (core t : ℕ) → Kept f s → running_on s core ≡ Some t → is_closed (thread_at s t).stage ≡ false
running-open f s core t kept runs = active-open (thread_at s t).stage (running-active f s core t kept runs)

-- a waiting thread is there
pub waiting-there : (s : State) (t : ℕ) → is_waiting (thread_at s t).stage ≡ true → t < length s.threads
waiting-there s t waits = is-there s.threads t (waiting-open (thread_at s t).stage waits)

-- a core takes a thread, or doesn't
pub switched-kept : (b : PlainBoard) (s : State) (core : ℕ) → core < b.cores → Kept (frame_of b s) s → Kept (frame_of b (effect_or s (switched s core)).state) (effect_or s (switched s core)).state
switched-kept b s core there kept = still-now b s (effect_or s (switched s core)).state (by_case (running_on s core) (pick s core) refl refl) where
  by_test : (r p : ℕ) → running_on s core ≡ Some r → pick s core ≡ Some p → (c : Bool) → (is_preemptible s core r && takes_from s p r) ≡ c → Kept (frame_of b s) (effect_or s (if c then Some (preempt_effect s core r p) else None)).state
  by_test r p runs picked false is = kept
  by_test r p runs picked true is = preempt-kept (frame_of b s) s core r p runs (off-nest (is_nest_of core s.nest) (nat_lt 0 (thread_at s r).locks) (takes_from s p r) is) (picked-ready s core p picked) kept where
    off-nest : (n l t : Bool) → (not l && not n) && t ≡ true → n ≡ false
    off-nest false l t e = refl
    off-nest true true t e = absurd cc
    off-nest true false t e = absurd cc

  by_case : (o p : Option ℕ) → running_on s core ≡ o → pick s core ≡ p → Kept (frame_of b s) (effect_or s (switched_by s core o p)).state
  by_case None None runs picked = kept
  by_case None (Some p) runs picked = run-kept (frame_of b s) s core p there runs (picked-ready s core p picked) kept
  by_case (Some r) None runs picked = kept
  by_case (Some r) (Some p) runs picked = by_test r p runs picked (is_preemptible s core r && takes_from s p r) refl

pub unmarked-kept : (b : PlainBoard) (s : State) (t : ℕ) (c : Bool) → Kept (frame_of b s) s → Kept (frame_of b (if c then without_mark s t else s)) (if c then without_mark s t else s)
unmarked-kept b s t false kept = kept
unmarked-kept b s t true kept = still-now b s (without_mark s t) (thread-kept (frame_of b s) s t (record (thread_at s t) { marked = false }) refl (fine-at (frame_of b s) s t kept) kept)

pub next-kept : (b : PlainBoard) (s : State) (t core : ℕ) → IsProper b → running_on s core ≡ Some t → Kept (frame_of b s) s → Kept (frame_of b (statement_effect b t core s).state) (statement_effect b t core s).state
next-kept b s t core proper runs kept = still-now b s (statement_effect b t core s).state (statement-kept (frame_of b s) s t core proper runs kept)

pub taken-kept : (b : PlainBoard) (s : State) (alarm : Alarm) → Kept (frame_of b s) s → Kept (frame_of b (without_alarm s alarm)) (without_alarm s alarm)
taken-kept b s alarm kept = still-now b s (without_alarm s alarm) (without_alarm-kept (frame_of b s) s alarm kept)

pub fired-kept : (b : PlainBoard) (s : State) (t : ℕ) → is_waiting (thread_at s t).stage ≡ true → Kept (frame_of b s) s → Kept (frame_of b (settled_effect b s (timeout_effect t s)).state) (settled_effect b s (timeout_effect t s)).state
fired-kept b s t waits kept = still-now b s (settled_effect b s (timeout_effect t s)).state (settled-kept (frame_of b s) s (timeout_effect t s) (wake-kept (frame_of b s) s (timeout_code (thread_at s t).stage) t waits kept))

pub closed-kept : (b : PlainBoard) (s : State) (t : ℕ) → Kept (frame_of b s) s → Kept (frame_of b (settled_effect b s (close_effect t s)).state) (settled_effect b s (close_effect t s)).state
closed-kept b s t kept = still-now b s (settled_effect b s (close_effect t s)).state (settled-kept (frame_of b s) s (close_effect t s) (close-kept (frame_of b s) s t kept))

-- nothing is due
put-some : {A : Type 0} (row : ArmedRow A) (rows : List (ArmedRow A)) → put_by_number row rows ≡ [] → ⊥
put-some row [] e = cc
put-some row (r ∷ rs) e = by_test (nat_lt row.number r.number) e where
  by_test : (c : Bool) → (if c then row ∷ r ∷ rs else r ∷ put_by_number row rs) ≡ [] → ⊥
  by_test true e = cc
  by_test false e = cc

none-due : (moment : ℕ) (rows : List (ArmedRow Alarm)) → due_rows_at moment rows ≡ [] → AllByRecursion (λ (row : ArmedRow Alarm). row.due ≢ moment) rows
none-due moment [] none = tt
none-due moment (row ∷ rows) none = by_test (row.due == moment) refl none (none-due moment rows) where
  by_test : (c : Bool) → (row.due == moment) ≡ c → by_number (cond c (row ∷ filter (λ (r : ArmedRow Alarm). r.due == moment) rows) (filter (λ (r : ArmedRow Alarm). r.due == moment) rows)) ≡ [] → (due_rows_at moment rows ≡ [] → AllByRecursion (λ (r : ArmedRow Alarm). r.due ≢ moment) rows) → AllByRecursion (λ (r : ArmedRow Alarm). r.due ≢ moment) (row ∷ rows)
  by_test true is e rest = absurd (put-some row (due_rows_at moment rows) e)
  by_test false is e rest = ((λ same. apart is (eq-eqb row.due moment same)), rest e) where
    apart : eqb row.due moment ≡ false → eqb row.due moment ≡ true → ⊥
    apart no_case yes_case = clash (sym no_case ∙ yes_case) where
      clash : false ≡ true → ⊥
      clash e = cc

both : {A : Type 0} (P Q R : A → Type 0) → ((x : A) → P x → Q x → R x) → (xs : List A) → AllByRecursion P xs → AllByRecursion Q xs → AllByRecursion R xs
both P Q R f [] p q = tt
both P Q R f (x ∷ xs) p q = (f x p.0 q.0, both P Q R f xs p.1 q.1)

-- the moment grows where nothing is due any more, and it isn't the last one
pub begun-kept : (b : PlainBoard) (s : State) → due s ≡ [] → s.moment < 1099511627775 → Kept (frame_of b s) s → Kept (frame_of b (next_tick_state s)) (next_tick_state s)
begun-kept b s none early kept = loosened next (next_tick_state s) after (omega (arith, after.moment_is)) (omega (arith, early)) where
  next : Frame
  next = record { board = b; now = s.moment + 1; low = s.moment + 1; few = tally (λ (row : ArmedRow Alarm). eqb row.due (s.moment + 1)) s.armed; latest = 1099511627775; fits = less-fits (s.moment + 1) }

  risen : Kept next (record s { moment = s.moment + 1 })
  risen = record {
    moment_is = refl;
    live = λ some on. omega (arith, early);
    ends = kept.ends;
    count = kept.count;
    cores = kept.cores;
    placed = kept.placed;
    rows = both (IsRowKept s.moment s.threads) (λ (row : ArmedRow Alarm). row.due ≢ s.moment) (IsRowKept (s.moment + 1) s.threads) (λ row is later. (omega (arith, is.0, later), is.1)) s.armed kept.rows (none-due s.moment s.armed none);
    bounded = bounded-later s.moment s.numbers s.armed kept.bounded;
    due_few = omega arith;
    single = kept.single;
    owned = kept.owned;
    fine = fine-later b s.moment s.threads kept.fine;
    nest_runs = kept.nest_runs;
    timers_fine = kept.timers_fine;
    works_known = kept.works_known;
  }

  used : (u : State) (r : Option ℕ) → Kept next u → Kept next (with_slice_used u r)
  used u None k = k
  used u (Some t) k = thread-kept next u t (thread_after_slice (thread_at u t)) (slice-fine b (s.moment + 1) (thread_at u t)).0 ((slice-fine b (s.moment + 1) (thread_at u t)).1 (fine-at next u t k)) k

  after : Kept next (next_tick_state s)
  after = fold-kept next with_slice_used used s.running (record s { moment = s.moment + 1 }) risen

-- how many rows are due
number-length : {A : Type 0} (rows : List (ArmedRow A)) → length (by_number rows) ≡ length rows
number-length [] = refl
number-length (row ∷ rows) = put-length row (by_number rows) ∙ ap suc (number-length rows) where
  put-length : {A : Type 0} (row : ArmedRow A) (rows : List (ArmedRow A)) → length (put_by_number row rows) ≡ suc (length rows)
  put-length row [] = refl
  put-length row (r ∷ rs) = by_test (nat_lt row.number r.number) (put-length row rs) where
    by_test : (c : Bool) → length (put_by_number row rs) ≡ suc (length rs) → length (if c then row ∷ r ∷ rs else r ∷ put_by_number row rs) ≡ suc (suc (length rs))
    by_test true same = refl
    by_test false same = ap suc same

pub due-tally : (moment : ℕ) (rows : List (ArmedRow Alarm)) → length (due_rows_at moment rows) ≡ tally (λ (row : ArmedRow Alarm). eqb row.due moment) rows
due-tally moment rows = number-length (filter (λ (row : ArmedRow Alarm). eqb row.due moment) rows) ∙ filter-length (λ (row : ArmedRow Alarm). eqb row.due moment) rows

-- dropping the rows of an alarm leaves no more due rows
pub due-dropped : (s : State) (alarm : Alarm) → length (due (without_alarm s alarm)) ≤ length (due s)
due-dropped s alarm = omega (arith, due-tally s.moment s.armed, due-tally s.moment (without_alarm s alarm).armed, tally-filter (λ (row : ArmedRow Alarm). eqb row.due s.moment) (λ (r : ArmedRow Alarm). not (is_alarm alarm r.alarm)) s.armed)

some-alarm : (a c : Alarm) → Some a ≡ Some c → a ≡ c
some-alarm a c e = cc

-- the first of the due rows is dropped with its alarm, and where it is that of a thread, the thread waits
pub first-due : (f : Frame) (s : State) (alarm : Alarm) → Kept f s → first_alarm (due s) ≡ Some alarm → IsWaited s.threads alarm × (length (due (without_alarm s alarm)) < length (due s))
first-due f s alarm kept first = by_rows (due s) refl (due-rows f s kept) first where
  by_rows : (rows : List (ArmedRow Alarm)) → due s ≡ rows → AllByRecursion (IsDueRow f.now s.threads s.armed) rows → first_alarm rows ≡ Some alarm → IsWaited s.threads alarm × (length (due (without_alarm s alarm)) < length (due s))
  by_rows [] is all first = absurd cc
  by_rows (row ∷ rows) is all first =
      let same : row.alarm ≡ alarm = some-alarm row.alarm alarm first in
      let drops : DropsOne f.now s.armed row = all.0.drops in
      let dropped : tally (λ (r : ArmedRow Alarm). eqb r.due s.moment) (without_alarm s alarm).armed + 1 ≤ tally (λ (r : ArmedRow Alarm). eqb r.due s.moment) s.armed = subst (λ (a : Alarm). tally (λ (r : ArmedRow Alarm). eqb r.due s.moment) (without_alarm s a).armed + 1 ≤ tally (λ (r : ArmedRow Alarm). eqb r.due s.moment) s.armed) same (subst (λ n. tally (λ (r : ArmedRow Alarm). eqb r.due n) (without_alarm s row.alarm).armed + 1 ≤ tally (λ (r : ArmedRow Alarm). eqb r.due n) s.armed) (sym kept.moment_is) drops) in
      (subst (IsWaited s.threads) same all.0.waits, omega (arith, due-tally s.moment s.armed, due-tally s.moment (without_alarm s alarm).armed, dropped))

-- no row is due before the next moment where none is due now
pub rows-ahead : (b : PlainBoard) (s : State) → due s ≡ [] → Kept (frame_of b s) s → All (λ (row : ArmedRow Alarm). s.moment + 1 ≤ row.due) s.armed
rows-ahead b s none kept =
    All-from_recursion (λ (row : ArmedRow Alarm). s.moment + 1 ≤ row.due) s.armed
    (both (IsRowKept s.moment s.threads) (λ (row : ArmedRow Alarm). row.due ≢ s.moment) (λ (row : ArmedRow Alarm). s.moment + 1 ≤ row.due) (λ row is later. omega (arith, is.0, later)) s.armed kept.rows (none-due s.moment s.armed none))

-- each start number was given
pub rows-latest : (f : Frame) (s : State) → Kept f s → All (λ (row : ArmedRow Alarm). row.number < s.numbers) s.armed
rows-latest f s kept = All-from_recursion (λ (row : ArmedRow Alarm). row.number < s.numbers) s.armed (all-weaker (IsRowBounded f.now s.numbers) (λ (row : ArmedRow Alarm). row.number < s.numbers) s.armed (λ row is. is.1) kept.bounded)

-- a thread that doesn't wait has no row
not-waited : (low : ℕ) (s : State) (t : ℕ) → is_waiting (stage_at s.threads t) ≡ false → (rows : List (ArmedRow Alarm)) → AllByRecursion (IsRowKept low s.threads) rows → is_armed (OfThread t) rows ≡ false
not-waited low s t still [] all = refl
not-waited low s t still (row ∷ rows) all = by_test (is_alarm (OfThread t) row.alarm) refl (not-waited low s t still rows all.1) where
  by_test : (c : Bool) → is_alarm (OfThread t) row.alarm ≡ c → is_armed (OfThread t) rows ≡ false → c || is_armed (OfThread t) rows ≡ false
  by_test true is rest = absurd (clash (sym (subst (IsWaited s.threads) (sym (alarm-is (OfThread t) row.alarm is)) all.0.1) ∙ still)) where
    clash : true ≡ false → ⊥
    clash e = cc
  by_test false is rest = rest

active-still : (stage : Stage) → is_active stage ≡ true → is_waiting stage ≡ false
active-still Initial is = absurd cc
active-still Active is = refl
active-still (Waiting what number) is = absurd cc
active-still Suspended is = absurd cc
active-still Closed is = absurd cc

pub running-free : (f : Frame) (s : State) (core t : ℕ) → Kept f s → running_on s core ≡ Some t → is_armed (OfThread t) s.armed ≡ false
running-free f s core t kept runs = not-waited f.low s t (active-still (thread_at s t).stage (running-active f s core t kept runs)) s.armed kept.rows

-- the row that is taken
pub taken-any : (b : PlainBoard) (s new : State) (o : Option Alarm) → new ≡ taken s o → Kept (frame_of b s) s → Kept (frame_of b new) new
taken-any b s new None is kept = subst (λ (u : State). Kept (frame_of b u) u) (sym is) kept
taken-any b s new (Some alarm) is kept = subst (λ (u : State). Kept (frame_of b u) u) (sym is) (taken-kept b s alarm kept)

-- what is so behind it
pub record Taken (s new : State) (o : Option ℕ) : Type 0 where
  pub fires : IfSome o (λ who. MayFire new who)
  pub fewer : IfSome o (λ who. length (due new) < length (due s))
  pub none : o ≡ None → due new ≡ []

nothing-due : (rows : List (ArmedRow Alarm)) → first_alarm rows ≡ None → rows ≡ []
nothing-due [] none = refl
nothing-due (row ∷ rows) none = absurd cc

pub taken-facts : (f : Frame) (s new : State) (o : Option ℕ) → Kept f s → IfSome o (λ who. who < 256 + length s.timers) → first_alarm (due s) ≡ option_map (alarm_of (names_of s.timers)) o → new ≡ taken s (option_map (alarm_of (names_of s.timers)) o) → Taken s new o
taken-facts f s new None kept there first is = record { fires = tt; fewer = tt; none = λ e. ap due is ∙ nothing-due (due s) first }
taken-facts f s new (Some who) kept there first is =
    let alarm : Alarm = alarm_of (names_of s.timers) who in
    let facts = first-due f s alarm kept first in
    record {
      fires = subst (λ (u : State). MayFire u who) (sym is) (record { there = there; waits = λ low. subst (IsWaited s.threads) (ap (λ c. cond c (OfThread who) (OfTimer (slice_index_or (names_of s.timers) (who - 256) []))) (lt-ltb who 256 low)) facts.0 });
      fewer = subst (λ (u : State). length (due u) < length (due s)) (sym is) facts.1;
      none = λ e. absurd (cc);
    }

pub taken-names : (s new : State) (o : Option Alarm) → new ≡ taken s o → KeepsNames s new
taken-names s new None is = subst (KeepsNames s) (sym is) (λ u. refl)
taken-names s new (Some alarm) is = subst (KeepsNames s) (sym is) (λ u. refl)

pub taken-free : (s new : State) (o : Option Alarm) → new ≡ taken s o → HasNoMutex s → HasNoMutex new
taken-free s new None is free = subst HasNoMutex (sym is) free
taken-free s new (Some alarm) is free = subst HasNoMutex (sym is) free

-- a thread that is ready is active
pub ready-active : (f : Frame) (k : KernelState) → Kept f (state_of k) → AreActive k.tables
ready-active f k kept u among = placed-active f (state_of k) u kept (omega (arith, tally-among k.tables.ready u among))
