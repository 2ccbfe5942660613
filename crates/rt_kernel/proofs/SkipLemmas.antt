-- Ticks that pass at once, and how far ahead the next row is.
use Rattle.std.proofs.Common.{◌≡◌, ◌+◌, ◌≤◌, ◌<◌, ℕ, List, [], ◌∷◌, Option, Some, None, All, map, refl, ap, arith}
use Rattle.std.specs.List.{AllByRecursion}
use Rattle.std.specs.Option.{ForSome}
use Rattle.std.proofs.lemmas.List.Elements.{All-contains, All-from_recursion, All-map, recursion_from_All}
use Rattle.rt_plain.specs.PlainBoard.{PlainBoard}
use Rattle.rt_plain.specs.kernel.State.{State, Thread, Retry, Alarm, ArmedRow}
use Rattle.rt_plain.specs.kernel.Due.{due}
use Rattle.rt_plain.specs.kernel.Tally.{tally}
use Rattle.rt_plain.specs.kernel.Kept.{Frame, Kept, IsNear, IsFineRetry, IsFineThread, IsRowKept, IsRowBounded}
use Rattle.rt_plain.proofs.kernel.TallyLemmas.{all-weaker}
use Rattle.rt_plain.proofs.kernel.TickLemmas.{less-fits}
use Rattle.kernel_timers.specs.Alarmed.{AlarmsSeen, IsNextDue}
use Rattle.pm_core.specs.Moments.{IsLeastAhead}
use Rattle.rt_kernel.specs.IsKernel.{frame_of}
use Rattle.rt_kernel.proofs.KeptLemmas.{rows-ahead}

-- so many ticks later
abbrev pub later_state : State → ℕ → State
later_state s n = record s { moment = s.moment + n }

-- what is no further ahead than it may be stays so
near-later : (now n : ℕ) (due : Option ℕ) → IsNear now due → IsNear (now + n) due
near-later now n due near d is = omega (arith, near d is)

retry-later : (now n : ℕ) (retry : Option Retry) → IsFineRetry now retry → IsFineRetry (now + n) retry
retry-later now n None fine = tt
retry-later now n (Some retry) fine = (fine.0, near-later now n retry.due fine.1)

rows-later : (s : State) (n : ℕ) (rows : List (ArmedRow Alarm)) → AllByRecursion (IsRowKept s.moment s.threads) rows → AllByRecursion (λ (row : ArmedRow Alarm). s.moment + n < row.due) rows → AllByRecursion (IsRowKept (s.moment + n) s.threads) rows
rows-later s n [] kept ahead = tt
rows-later s n (row ∷ rows) kept ahead = ((omega (arith, ahead.0), kept.0.1), rows-later s n rows kept.1 ahead.1)

-- the moment grows where no row is due up to the new one
pub skipped-kept : (b : PlainBoard) (s : State) (n : ℕ) → s.moment + n ≤ 1099511627775 → All (λ (row : ArmedRow Alarm). s.moment + n < row.due) s.armed → Kept (frame_of b s) s → Kept (frame_of b (later_state s n)) (later_state s n)
skipped-kept b s n early ahead kept = record {
  moment_is = refl;
  live = λ some on. omega (arith, early);
  ends = kept.ends;
  count = kept.count;
  cores = kept.cores;
  placed = kept.placed;
  rows = rows-later s n s.armed kept.rows (recursion_from_All (λ (row : ArmedRow Alarm). s.moment + n < row.due) s.armed ahead);
  bounded = all-weaker (IsRowBounded s.moment s.numbers) (IsRowBounded (s.moment + n) s.numbers) s.armed (λ row is. (omega (arith, is.0), is.1)) kept.bounded;
  due_few = omega arith;
  single = kept.single;
  owned = kept.owned;
  fine = all-weaker (IsFineThread b s.moment) (IsFineThread b (s.moment + n)) s.threads (λ row is. (is.0, retry-later s.moment n row.retry is.1, is.2)) kept.fine;
  nest_runs = kept.nest_runs;
  timers_fine = kept.timers_fine;
  works_known = kept.works_known;
}

-- no row is due before the last of the ticks
pub rows-clear : (moment n : ℕ) (rows : List (ArmedRow Alarm)) → All (λ (row : ArmedRow Alarm). moment + n < row.due) rows → All (λ (row : ArmedRow Alarm). moment + n ≤ row.due) rows
rows-clear moment n rows ahead = All-from_recursion (λ (row : ArmedRow Alarm). moment + n ≤ row.due) rows (all-weaker (λ (row : ArmedRow Alarm). moment + n < row.due) (λ (row : ArmedRow Alarm). moment + n ≤ row.due) rows (λ row is. omega (arith, is)) (recursion_from_All (λ (row : ArmedRow Alarm). moment + n < row.due) rows ahead))

pub least-ahead : (a : AlarmsSeen) (o : Option ℕ) → IsNextDue a o → IsLeastAhead a.moment (map (λ (row : ArmedRow Alarm). row.due) a.rows) o
least-ahead a None none = ap (map (λ (row : ArmedRow Alarm). row.due)) none
least-ahead a (Some left) next = (next.0, All-map (λ m. a.moment + left ≤ m) (λ (row : ArmedRow Alarm). row.due) a.rows next.1)

-- it is ahead where no row is due now
pub next-ahead : (b : PlainBoard) (s : State) (o : Option ℕ) → IsLeastAhead s.moment (map (λ (row : ArmedRow Alarm). row.due) s.armed) o → due s ≡ [] → Kept (frame_of b s) s → ForSome o (λ ticks. 1 ≤ ticks)
next-ahead b s None least none kept x is = absurd cc
next-ahead b s (Some ticks) least none kept x is =
    let ahead : All (λ m. s.moment + 1 ≤ m) (map (λ (row : ArmedRow Alarm). row.due) s.armed) = All-map (λ m. s.moment + 1 ≤ m) (λ (row : ArmedRow Alarm). row.due) s.armed (rows-ahead b s none kept) in
    let less : s.moment + 1 ≤ s.moment + ticks = All-contains (λ m. s.moment + 1 ≤ m) (map (λ (row : ArmedRow Alarm). row.due) s.armed) (s.moment + ticks) ahead least.0 in
    let same : ticks ≡ x = cc in
    omega (arith, less, same)
