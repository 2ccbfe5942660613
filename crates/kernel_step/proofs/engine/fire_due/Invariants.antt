use Rattle.std.specs.Prelude.{◌≡◌, length}
use Rattle.rt_plain.specs.kernel.Due.{due}
use Rattle.kernel_step.specs.IsFiring.{IsFiring}
use Rattle.kernel_step.proofs.engine.fire_due.Given as goal

abbrev pub invariant-loop-no : goal.invariant-loop-no
invariant-loop-no g l = IsFiring l.fn.kernel l.kernel l.fn.out.items l.out.items l.fn.out.room l.fn.steps l.steps × (l.out.room ≡ l.fn.out.room)

abbrev pub decreases-loop-no : goal.decreases-loop-no
decreases-loop-no g l = length (due l.kernel.state)
