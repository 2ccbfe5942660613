use Rattle.std.proofs.Common.{ℕ, ◌<◌, ◌≤◌, None, get_or}
use Rattle.timer_skip.specs.Links.{SameLevel, SameRest, IsRelinked}
use Rattle.timer_skip.proofs.rows.Rows.relink.Given as goal

abbrev pub invariant-loop-level : goal.invariant-loop-level
invariant-loop-level g l = record {
  low : (level : ℕ) → level < l.level → level ≤ l.top → IsRelinked l.initial.self l.self level (get_or l.lasts level None) (get_or l.links level None);
  later : (level : ℕ) → l.level ≤ level → SameLevel l.initial.self l.self level;
  high : (level : ℕ) → l.top < level → SameLevel l.initial.self l.self level;
  rest : SameRest l.initial.self l.self;
}
