use Rattle.std.proofs.Common.{◌≡◌, None, if◌then◌else◌}
use Rattle.rt_plain.specs.kernel.State.{is_number}
use Rattle.kernel_cores.proofs.FrontLemmas.{changed_front}
use Rattle.kernel_cores.proofs.cores.Cores.leave.Given as goal

abbrev pub invariant-loop-r : goal.invariant-loop-r
invariant-loop-r l = l.r-items ≡ changed_front (λ r. if is_number l.t r then None else r) l.r-index l.fn.self.running
