-- Each event keeps what holds of a state.
use Rattle.std.proofs.Common.{◌≡◌, ◌+◌, ◌-◌, ◌≤◌, ◌<◌, ℕ, zero, suc, List, Option, Some, None, Bool, true, false, not, ◌&&◌, IsTrue, is_some, eqb, refl, subst, filter, if◌then◌else◌, option_map, ltb-true}
use Rattle.std.specs.List.{AllByRecursion, list_any}
use Rattle.rt_base.specs.declared.codes.Event.{Event}
use Rattle.rt_base.specs.declared.codes.Halt.{Halt}
use Rattle.rt_plain.specs.PlainBoard.{PlainBoard}
use Rattle.rt_plain.specs.kernel.State.{State, thread_at, running_on, is_nest_of, is_nest_of_other}
use Rattle.rt_plain.specs.kernel.Pick.{ReadyRow, is_free_for, goes_before, first_best, ready_row, ready_rows, pick}
use Rattle.rt_plain.specs.kernel.Statements.{statement_effect}
use Rattle.rt_plain.specs.kernel.Ticks.{tick_effect}
use Rattle.rt_plain.specs.kernel.Sleeps.{Did, Made, Same, Halted, ticks, sleep_did, sleep_length, may_sleep, awake_rest_did, halting_rest_did, nothing_comes, final_halt, rest_did}
use Rattle.rt_plain.specs.kernel.DeviceCalls.{is_busy}
use Rattle.rt_plain.specs.kernel.PowerCalls.{sleep_mode}
use Rattle.rt_plain.specs.kernel.Steps.{happens, without_mark, is_preemptible, takes_from, preempt_did, did_of_effect, statement_did, busy_core_did, is_all_idle, free_core_did, core_did, unhalted_step_did, unhalted_tick_did}
use Rattle.rt_plain.specs.runs.Runs.{is_event_of}
use Rattle.rt_plain.specs.kernel.Sound.{IsProper}
use Rattle.rt_plain.specs.kernel.Tally.{tally}
use Rattle.rt_plain.proofs.kernel.TallyLemmas.{all-count, all-map, all-filter, all-found}
use Rattle.rt_plain.specs.kernel.Kept.{Kept}
use Rattle.rt_plain.proofs.kernel.Invariant.{fine-at, thread-kept, run-kept, preempt-kept}
use Rattle.rt_plain.proofs.kernel.StatementLemmas.{statement-kept}
use Rattle.rt_plain.proofs.kernel.TickLemmas.{still, tick-kept}
use Rattle.rt_plain.proofs.TestLemmas.{and-left, and-right, not-false, some-is}

-- at some moment
abbrev pub KeptAt : PlainBoard → State → Type 0
KeptAt b s = (now : ℕ) × Kept (still b now) s

-- what an event leaves, where it makes an entry
abbrev pub KeptDid : PlainBoard → Did → Type 0
KeptDid b (Made s lines) = KeptAt b s
KeptDid b Same = Unit {0}
KeptDid b (Halted halt) = Unit {0}

pub if-did : (b : PlainBoard) (c : Bool) (x y : Did) → (c ≡ true → KeptDid b x) → (c ≡ false → KeptDid b y) → KeptDid b (if c then x else y)
if-did b true x y one other = one refl
if-did b false x y one other = other refl

-- a sleep is ticks one after the other
pub ticks-kept : (b : PlainBoard) (n now : ℕ) (s : State) → Kept (still b now) s → KeptAt b (ticks b n s).state
ticks-kept b zero now s kept = (now, kept)
ticks-kept b (suc n) now s kept = ticks-kept b n (now + 1) (tick_effect b s).state (tick-kept b now s kept)

sleep-kept : (b : PlainBoard) (n now : ℕ) (s : State) → Kept (still b now) s → KeptDid b (sleep_did b n s)
sleep-kept b n now s kept = let rest : KeptAt b (ticks b (n - 1) s).state = ticks-kept b (n - 1) now s kept in (rest.0 + 1, tick-kept b rest.0 (ticks b (n - 1) s).state rest.1)

halting-kept : (b : PlainBoard) (now : ℕ) (s : State) (o : Option Halt) → Kept (still b now) s → KeptDid b (halting_rest_did b o s)
halting-kept b now s (Some halt) kept = tt
halting-kept b now s None kept = if-did b (nothing_comes s) (Halted Halt.Quiet) (awake_rest_did b s) (λ is. tt) (λ is. if-did b (may_sleep b s) (sleep_did b (sleep_length b s) s) Same (λ may. sleep-kept b (sleep_length b s) now s kept) (λ may. tt))

rest-kept : (b : PlainBoard) (now : ℕ) (s : State) → Kept (still b now) s → KeptDid b (rest_did b s)
rest-kept b now s kept = if-did b (is_busy s) Same (halting_rest_did b (final_halt (sleep_mode b s)) s) (λ is. tt) (λ is. halting-kept b now s (final_halt (sleep_mode b s)) kept)

-- the picked thread is ready
pub picked-ready : (s : State) (core p : ℕ) → pick s core ≡ Some p → 1 ≤ tally (λ u. eqb u p) s.ready
picked-ready s core p is = by_row (first_best rows) refl is where
  rows : List ReadyRow
  rows = filter (λ row. is_free_for core row.core) (ready_rows s)

  counts : AllByRecursion (λ (row : ReadyRow). 1 ≤ tally (λ u. eqb u row.thread) s.ready) rows
  counts = all-filter (λ (row : ReadyRow). 1 ≤ tally (λ u. eqb u row.thread) s.ready) (λ row. is_free_for core row.core) (ready_rows s) (all-map (λ (row : ReadyRow). 1 ≤ tally (λ u. eqb u row.thread) s.ready) (ready_row s) s.ready (all-count s.ready))

  by_row : (o : Option ReadyRow) → first_best rows ≡ o → option_map (λ (row : ReadyRow). row.thread) o ≡ Some p → 1 ≤ tally (λ u. eqb u p) s.ready
  by_row None found is = absurd cc
  by_row (Some row) found is = subst (λ t. 1 ≤ tally (λ u. eqb u t) s.ready) (some-is row.thread p is) (all-found (λ (r : ReadyRow). 1 ≤ tally (λ u. eqb u r.thread) s.ready) (λ a. not (list_any (λ c. goes_before c a) rows)) rows row found counts)

module _ (b : PlainBoard) (now : ℕ) (s : State) (timed : IsProper b) (kept : Kept (still b now) s) where
  stated-kept : (core r : ℕ) → running_on s core ≡ Some r → KeptDid b (statement_did b s core r)
  stated-kept core r runs = (now, by_lock (is_preemptible s core r)) where
    by_lock : (c : Bool) → Kept (still b now) (statement_effect b r core (if c then without_mark s r else s)).state
    by_lock true = statement-kept (still b now) (without_mark s r) r core timed runs (thread-kept (still b now) s r (record (thread_at s r) { marked = false }) refl (fine-at (still b now) s r kept) kept)
    by_lock false = statement-kept (still b now) s r core timed runs kept

  busy-kept : (core r : ℕ) (p : Option ℕ) → pick s core ≡ p → running_on s core ≡ Some r → KeptDid b (busy_core_did b s core r p)
  busy-kept core r None is runs = stated-kept core r runs
  busy-kept core r (Some p) is runs = if-did b (is_preemptible s core r && takes_from s p r) (preempt_did s core r p) (statement_did b s core r)
      (λ takes. (now, preempt-kept (still b now) s core r p runs (not-false (is_nest_of core s.nest) (and-right _ (not (is_nest_of core s.nest)) (and-left (is_preemptible s core r) (takes_from s p r) takes))) (picked-ready s core p is) kept))
      (λ stays. stated-kept core r runs)

  free-kept : (core : ℕ) (p : Option ℕ) → core < b.cores → pick s core ≡ p → running_on s core ≡ None → KeptDid b (free_core_did b s core p)
  free-kept core (Some p) board_core is free = (now, run-kept (still b now) s core p board_core free (picked-ready s core p is) kept)
  free-kept core None board_core is free = if-did b (eqb core 0 && is_all_idle s) (rest_did b s) Same (λ idle. rest-kept b now s kept) (λ idle. tt)

  core-kept : (core : ℕ) (r : Option ℕ) → core < b.cores → running_on s core ≡ r → KeptDid b (core_did b s core r)
  core-kept core None board_core is = free-kept core (pick s core) board_core refl is
  core-kept core (Some r) board_core is = busy-kept core r (pick s core) refl is

  step-kept : (core : ℕ) (o : Option Halt) → core < b.cores → KeptDid b (unhalted_step_did b s core o)
  step-kept core (Some halt) board_core = tt
  step-kept core None board_core = if-did b (is_nest_of_other core s.nest) Same (core_did b s core (running_on s core)) (λ is. tt) (λ is. core-kept core (running_on s core) board_core refl)

  ticked-kept : (o : Option Halt) → KeptDid b (unhalted_tick_did b s o)
  ticked-kept (Some halt) = tt
  ticked-kept None = if-did b (is_some s.nest) Same (did_of_effect (tick_effect b s)) (λ is. tt) (λ is. (now + 1, tick-kept b now s kept))

  pub event-kept : (e : Event) → IsTrue (is_event_of b e) → KeptDid b (happens b s e)
  unfolding happens
  event-kept (Event.Step core) is = step-kept core s.halt (ltb-true core b.cores is)
  event-kept Event.Tick is = ticked-kept s.halt
