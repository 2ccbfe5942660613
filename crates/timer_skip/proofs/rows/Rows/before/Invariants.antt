use Rattle.std.proofs.Common.{ℕ, ◌≡◌, ◌+◌, ◌<◌, ◌≤◌, None, get_or, length}
use Rattle.timer_skip.specs.Firing.{armed_row}
use Rattle.timer_skip.specs.Links.{IsFrom, IsStop}
use Rattle.timer_skip.proofs.rows.Rows.before.Given as goal

abbrev pub invariant-loop-level : goal.invariant-loop-level
invariant-loop-level g l = record {
  within : l.level ≤ g.row.L;
  long : length l.before ≡ g.row.L;
  from : (below : ℕ) → below + 1 ≡ l.level → IsFrom l.self below (armed_row l.self.tick l.row) l.from;
  stops : (level : ℕ) → l.level ≤ level → level < g.row.L → IsStop l.self level (armed_row l.self.tick l.row) (get_or l.before level None);
}

abbrev pub decreases-loop-level : goal.decreases-loop-level
decreases-loop-level g l = l.level
