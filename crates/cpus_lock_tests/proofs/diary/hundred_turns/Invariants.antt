use Rattle.std.proofs.Common.{◌≡◌}
use Rattle.cpus_lock_tests.proofs.diary.hundred_turns.Given as goal

abbrev pub invariant-loop : goal.invariant-loop
invariant-loop l = (l.worker.pass.lock ≡ l.lock) × (l.worker.pass.known.core ≡ l.fn.worker.pass.known.core)
