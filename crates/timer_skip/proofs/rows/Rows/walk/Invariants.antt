use Rattle.timer_skip.specs.Firing.{armed_row}
use Rattle.timer_skip.proofs.Levels.{Reached}
use Rattle.timer_skip.proofs.rows.Rows.walk.Given as goal

abbrev pub invariant-loop : goal.invariant-loop
invariant-loop g l = Reached l.self l.level (armed_row l.self.tick l.row) l.last l.counter
