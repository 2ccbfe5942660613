use Rattle.std.proofs.Common.{◌≡◌, ◌<◌}
use Rattle.std.specs.List.{All}
use Rattle.timer_skip.specs.Armed.{ArmedRow}
use Rattle.timer_skip_tests.proofs.tests.random_calls.Given as goal

abbrev pub invariant-loop-moment : goal.invariant-loop-moment
invariant-loop-moment g l = record {
  count : l.timers.count ≡ 8;
  latest : All (λ (row : ArmedRow). row.number < l.moment) l.timers.rows;
}
