use Rattle.std.proofs.Common.{ℕ, ◌≡◌, ◌<◌, ◌-◌, true, length}
use Rattle.object_box.specs.Objects.{has_number}
use Rattle.object_box.proofs.container.least_free.Given as goal

abbrev pub invariant-loop-no : goal.invariant-loop-no
invariant-loop-no l = (k : ℕ) → k < l.no → has_number l.objects k ≡ true

abbrev pub decreases-loop-no : goal.decreases-loop-no
decreases-loop-no l = length l.objects - l.no
