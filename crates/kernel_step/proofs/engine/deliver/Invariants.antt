use Rattle.std.specs.Prelude.{◌≡◌, length}
use Rattle.kernel_step.specs.IsDelivering.{IsDelivering}
use Rattle.kernel_step.proofs.engine.deliver.Given as goal

abbrev pub invariant-loop-arrival : goal.invariant-loop-arrival
invariant-loop-arrival g l = IsDelivering l.fn.kernel l.kernel l.fn.out.items l.out.items × (l.out.room ≡ l.fn.out.room) × (l.steps ≡ l.fn.steps)

abbrev pub decreases-loop-arrival : goal.decreases-loop-arrival
decreases-loop-arrival g l = length l.kernel.state.arrivals
