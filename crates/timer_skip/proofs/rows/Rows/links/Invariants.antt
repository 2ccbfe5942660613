use Rattle.std.proofs.Common.{ℕ, ◌≡◌, ◌<◌, None, get_or, length}
use Rattle.timer_skip.specs.Links.{link_on}
use Rattle.timer_skip.proofs.rows.Rows.links.Given as goal

abbrev pub invariant-loop-level : goal.invariant-loop-level
invariant-loop-level g l = record {
  long : length l.links ≡ g.row.L;
  done : (level : ℕ) → level < l.level → get_or l.links level None ≡ link_on l.self level (get_or l.lasts level None);
}
