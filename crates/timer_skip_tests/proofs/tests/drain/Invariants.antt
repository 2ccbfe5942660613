use Rattle.std.proofs.Common.{ℕ, ◌≡◌, ◌<◌}
use Rattle.std.specs.List.{All}
use Rattle.timer_skip.specs.Armed.{ArmedRow}
use Rattle.timer_skip_tests.proofs.tests.drain.Given as goal

abbrev pub invariant-loop : goal.invariant-loop
invariant-loop g l = record {
  count : l.timers.count ≡ 8;
  latest : (at : ℕ) → All (λ (row : ArmedRow). row.number < at) l.initial.timers.rows → All (λ (row : ArmedRow). row.number < at) l.timers.rows;
}
