use Rattle.std.proofs.Common.{◌≡◌, ◌<◌}
use Rattle.std.specs.List.{All}
use Rattle.timer_skip.specs.Armed.{ArmedRow}
use Rattle.timer_skip_tests.proofs.tests.all_at_once.Given as goal

abbrev pub invariant-loop-no : goal.invariant-loop-no
invariant-loop-no g l = (l.timers.count ≡ 512) × All (λ (row : ArmedRow). row.number < l.no) l.timers.rows
