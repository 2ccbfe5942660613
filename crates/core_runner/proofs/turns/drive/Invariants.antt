use Rattle.core_runner.specs.Limits.{over_by, IsOnWay}
use Rattle.core_runner.proofs.turns.drive.Given as goal

abbrev pub invariant-loop-turns : goal.invariant-loop-turns
invariant-loop-turns g l = IsOnWay (over_by l.within l.initial.machine.board) l.initial.machine.board l.machine l.place l.turns

abbrev pub decreases-loop-turns : goal.decreases-loop-turns
decreases-loop-turns g l = l.turns
