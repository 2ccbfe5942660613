-- Every state that a run reaches is sound.
use Rattle.std.proofs.Common.{◌≡◌, ◌+◌, ◌≤◌, ◌<◌, [], ℕ, List, None, Bool, true, false, length, eqb, refl, ◌∙◌, subst, arith, eq-eqb, if◌then◌else◌, sym, Option, All, IsTrue}
use Rattle.std.proofs.lemmas.List.Elements.{All-from_recursion, All-contains, All-weaker}
use Rattle.rt_plain.specs.declared.entry.Entry.{Entry}
use Rattle.rt_plain.specs.declared.stmt.Stmt.{Stmt}
use Rattle.rt_plain.specs.declared.board.TimerDef.{TimerDef}
use Rattle.rt_plain.specs.kernel.TimerKinds.{is_timer_action}
use Rattle.rt_plain.specs.kernel.Effects.{is_alarm}
use Rattle.rt_plain.specs.PlainBoard.{PlainBoard}
use Rattle.rt_plain.specs.kernel.State.{State, Alarm, OfThread, OfTimer, thread_at, is_number, ArmedRow, Timer}
use Rattle.rt_plain.specs.kernel.Opening.{open_state}
use Rattle.rt_plain.specs.runs.Runs.{IsMade, IsRun, IsRunIn, is_over, is_over_in}
use Rattle.rt_plain.specs.kernel.Sound.{is_active, place_count, IsProper, IsSound, IsWaitedFor, IsBoardTimer}
use Rattle.rt_plain.proofs.runs.RunLemmas.{IsRun-keeps}
use Rattle.rt_plain.specs.kernel.Tally.{one_if}
use Rattle.rt_plain.proofs.kernel.TallyLemmas.{tally-count, all-weaker, all-both}
use Rattle.rt_plain.specs.kernel.Kept.{places, IsRowKept, IsRowBounded, IsWaited, IsFineTimer}
use Rattle.rt_plain.proofs.kernel.Invariant.{nest-core, fine-at}
use Rattle.rt_plain.proofs.kernel.TickLemmas.{still}
use Rattle.rt_plain.proofs.kernel.StepLemmas.{KeptAt, KeptDid, event-kept}
use Rattle.rt_plain.proofs.kernel.OpenLemmas.{opened-kept}
use Rattle.rt_plain.specs.declared.board.Schedule.{Schedule}
use Rattle.rt_plain.specs.runs.Schedules.{IsDriveable, scheduled_course, driven, rounds_begun}
use Rattle.rt_plain.proofs.runs.FuelLemmas.{IsHeldRunning, IsLimited, scheduled-stops, rounds-stop}

pub made-kept : (b : PlainBoard) (s new : State) (e : Entry) → IsProper b → KeptAt b s → IsMade b s e new → KeptAt b new
made-kept b s new e timed kept made = subst (KeptDid b) made.1 (event-kept b kept.0 s timed kept.1 e.event made.0)

-- what holds of every reached state
pub reached-kept : (b : PlainBoard) (journal : List Entry) (s : State) → IsProper b → IsRun b (open_state b) journal s → KeptAt b s
reached-kept b journal s timed run = IsRun-keeps b (KeptAt b) (λ old new e kept made. made-kept b old new e timed kept made) (open_state b) s journal (0, opened-kept b timed) run

-- a core that holds the lock over all cores runs a thread
pub reached-held : (b : PlainBoard) → IsProper b → (journal : List Entry) (s : State) → IsRun b (open_state b) journal s → IsHeldRunning b s
reached-held b timed journal s run n is =
    let kept : KeptAt b s = reached-kept b journal s timed run in
    (nest-core (still b kept.0) s n kept.1 is, (kept.1.nest_runs n is).0, (kept.1.nest_runs n is).1)

one_if-cond : (c : Bool) → one_if c ≡ (if c then 1 else 0)
one_if-cond true = refl
one_if-cond false = refl

places-count : (s : State) (t : ℕ) → place_count s t ≡ places s.ready s.running t
places-count s t = omega (arith, tally-count (λ u. eqb u t) s.ready, tally-count (is_number t) s.running)

row-waits : (s : State) (alarm : Alarm) → IsWaited s.threads alarm → IsWaitedFor s alarm
row-waits s (OfThread t) waits = waits
row-waits s (OfTimer name) waits = tt

kept-sound : (b : PlainBoard) (s : State) → IsProper b → KeptAt b s → IsSound b s
kept-sound b s proper kept = record {
  live = λ on. omega (arith, kept.1.live proper.until on, proper.until);
  ends = kept.1.ends;
  places = λ t. places-count s t ∙ kept.1.placed t ∙ one_if-cond (is_active (thread_at s t).stage);
  next = λ t is. (fine-at (still b kept.0) s t kept.1).2 is;
  threads = kept.1.count;
  cores = kept.1.cores;
  ahead = All-from_recursion IsAheadRow s.armed (all-both (IsRowKept (kept.0 + 1) s.threads) (IsRowBounded kept.0 s.numbers) IsAheadRow s.armed (λ row is near. (omega (arith, is.0, kept.1.moment_is), omega (arith, near.0, kept.1.moment_is))) kept.1.rows kept.1.bounded);
  waits = All-from_recursion (λ row. IsWaitedFor s row.alarm) s.armed (all-weaker (IsRowKept (kept.0 + 1) s.threads) (λ row. IsWaitedFor s row.alarm) s.armed (λ row is. row-waits s row.alarm is.1) kept.1.rows);
  alone = λ alarm. omega (arith, tally-count (λ (row : ArmedRow Alarm). is_alarm alarm row.alarm) s.armed, kept.1.single alarm);
  nest_runs = λ n is. (nest-core (still b kept.0) s n kept.1 is, (kept.1.nest_runs n is).0, (kept.1.nest_runs n is).1);
} where
  IsAheadRow : ArmedRow Alarm → Type 0
  IsAheadRow row = (s.moment < row.due) × (row.due ≤ s.moment + 2147483647)

pub reached-sound : (b : PlainBoard) (journal : List Entry) (s : State) → IsProper b → IsRun b (open_state b) journal s → IsSound b s
reached-sound b journal s timed run = kept-sound b s timed (reached-kept b journal s timed run)

-- armed rows are near, and their start numbers were given
pub reached-near : (b : PlainBoard) (journal : List Entry) (s : State) → IsProper b → IsRun b (open_state b) journal s → All (λ row. row.due ≤ s.moment + 2147483647) s.armed
reached-near b journal s timed run = let kept : KeptAt b s = reached-kept b journal s timed run in
    All-from_recursion (λ (row : ArmedRow Alarm). row.due ≤ s.moment + 2147483647) s.armed (all-weaker (IsRowBounded kept.0 s.numbers) (λ (row : ArmedRow Alarm). row.due ≤ s.moment + 2147483647) s.armed (λ row is. omega (arith, is.0, kept.1.moment_is)) kept.1.bounded)

pub reached-numbered : (b : PlainBoard) (journal : List Entry) (s : State) → IsProper b → IsRun b (open_state b) journal s → All (λ row. row.number < s.numbers) s.armed
reached-numbered b journal s timed run = let kept : KeptAt b s = reached-kept b journal s timed run in
    All-from_recursion (λ (row : ArmedRow Alarm). row.number < s.numbers) s.armed (all-weaker (IsRowBounded kept.0 s.numbers) (λ (row : ArmedRow Alarm). row.number < s.numbers) s.armed (λ row is. is.1) kept.1.bounded)

-- timers are the board's
pub reached-timers : (b : PlainBoard) (journal : List Entry) (s : State) → IsProper b → IsRun b (open_state b) journal s → All (IsBoardTimer b) s.timers
reached-timers b journal s timed run = All-from_recursion (IsBoardTimer b) s.timers (all-weaker (IsFineTimer b) (IsBoardTimer b) s.timers (λ timer is. is.3) (reached-kept b journal s timed run).1.timers_fine)

timer-may : (b : PlainBoard) (timer : Timer) → All (λ def. IsTrue (is_timer_action def.call)) b.timers → IsBoardTimer b timer → IsTrue (is_timer_action timer.call)
timer-may b timer may is = subst (λ (call : Option Stmt). IsTrue (is_timer_action call)) (sym is.4) (All-contains (λ (def : TimerDef). IsTrue (is_timer_action def.call)) b.timers is.0 may is.1)

pub reached-may : (b : PlainBoard) (journal : List Entry) (s : State) → IsProper b → IsRun b (open_state b) journal s → All (λ def. IsTrue (is_timer_action def.call)) b.timers → All (λ timer. IsTrue (is_timer_action timer.call)) s.timers
reached-may b journal s timed run may = All-weaker (IsBoardTimer b) (λ (timer : Timer). IsTrue (is_timer_action timer.call)) (λ timer is. timer-may b timer may is) s.timers (reached-timers b journal s timed run)

-- a limit at the board's number of entries stops every run
limited : (over : List Entry → Bool) (b : PlainBoard) → IsProper b → 1 ≤ b.cores → ((journal : List Entry) → length journal ≡ b.entries → over journal ≡ true) → IsLimited over b
limited over b timed some full = record { some_core = some; full = full; held = reached-held b timed }

over-full : (b : PlainBoard) (journal : List Entry) → length journal ≡ b.entries → is_over b journal ≡ true
over-full b journal is = rw (eq-eqb (length journal) b.entries is) refl

over_in-full : (entries lines : ℕ) (b : PlainBoard) (journal : List Entry) → length journal ≡ b.entries → is_over_in entries lines b journal ≡ true
over_in-full entries lines b journal is = rw (eq-eqb (length journal) b.entries is) refl

pub scheduled-ends : (b : PlainBoard) → IsDriveable b → IsProper b → (scheduled_course (is_over b) b).halt ≡ None → is_over b (scheduled_course (is_over b) b).journal ≡ true
scheduled-ends b driveable timed = scheduled-stops (is_over b) b (limited (is_over b) b timed driveable.some_core (over-full b)) driveable

pub scheduled-ends_in : (entries lines : ℕ) (b : PlainBoard) → IsDriveable b → IsProper b → (scheduled_course (is_over_in entries lines b) b).halt ≡ None → is_over_in entries lines b (scheduled_course (is_over_in entries lines b) b).journal ≡ true
scheduled-ends_in entries lines b driveable timed = scheduled-stops (is_over_in entries lines b) b (limited (is_over_in entries lines b) b timed driveable.some_core (over_in-full entries lines b)) driveable

pub rounds-end : (b : PlainBoard) (journal : List Entry) (s : State) → 1 ≤ b.cores → IsProper b → IsRunIn (is_over b) b [] (open_state b) journal s
    → (driven (is_over b) b Schedule.Round (rounds_begun b s journal)).course.halt ≡ None → is_over b (driven (is_over b) b Schedule.Round (rounds_begun b s journal)).course.journal ≡ true
rounds-end b journal s some timed run = rounds-stop (is_over b) b journal s (limited (is_over b) b timed some (over-full b)) run
