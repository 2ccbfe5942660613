use Rattle.std.proofs.Common.{◌≡◌, ◌<◌, ◌≤◌, length}
use Rattle.std.specs.Prelude.{slice_get}
use Rattle.kernel_tables.specs.Shown.{shown_below, shown}
use Rattle.kernel_tables.proofs.threads.Threads.shown_at.Given as goal

-- it is the one with so many newer ones among those below i
abbrev pub invariant-loop-i : goal.invariant-loop-i
invariant-loop-i l = record {
  same : l.self ≡ l.fn.self;
  within : l.i ≤ length l.fn.self;
  there : l.newer < length (shown_below l.fn.self l.i);
  is : slice_get (shown_below l.fn.self l.i) l.newer ≡ slice_get (shown l.fn.self) l.fn.place;
}

abbrev pub decreases-loop-i : goal.decreases-loop-i
decreases-loop-i l = l.i
