use Rattle.std.proofs.Common.{◌≡◌, ◌+◌, ◌≤◌, ◌<◌, arith, length, ℕ, Some, false, subst, refl}
use Rattle.rt_plain.specs.kernel.State.{State, Nest, running_on, thread_at, is_closed}
use Rattle.rt_plain.specs.kernel.Due.{due}
use Rattle.rt_plain.specs.kernel.Kept.{Kept}
use Rattle.rt_plain.specs.kernel.Sound.{IsProper}
use Rattle.rt_kernel.specs.IsKernel.{frame_of}
use Rattle.rt_kernel.specs.PlainKernel.{PlainKernel, IsAlone}
use Rattle.rt_kernel.specs.View.{state_of}
use Rattle.rt_kernel.proofs.KernelDue.{due-few, threads-few}
use Rattle.rt_kernel.proofs.KeptLemmas.{running-there, running-open}
use Rattle.rt_kernel.proofs.kernel.Kernel.know_kernel.Goals as goal

pub returns-clause-proper : goal.returns-clause-proper
returns-clause-proper c = subst (λ (k : PlainKernel). IsProper k.board) c.self.view_is c.self.invariant.built.proper

pub returns-clause-due : goal.returns-clause-due
returns-clause-due c =
    let s : State = state_of c.self.inside.state in
    subst (λ (k : PlainKernel). length (due k.state) ≤ length k.board.threads + length k.board.timers) c.self.view_is (omega (arith, due-few (frame_of c.self.inside.board s) s c.self.invariant.kept, threads-few c.self.inside.board s c.self.invariant.built c.self.invariant.kept))

pub returns-clause-there : goal.returns-clause-there
returns-clause-there c =
    let s : State = state_of c.self.inside.state in
    subst (λ (k : PlainKernel). (core t : ℕ) → running_on k.state core ≡ Some t → t < length k.state.threads) c.self.view_is (λ core t runs. (running-there (frame_of c.self.inside.board s) s core t c.self.invariant.kept runs).0)

pub returns-clause-active : goal.returns-clause-active
returns-clause-active c =
    let s : State = state_of c.self.inside.state in
    subst (λ (k : PlainKernel). (core t : ℕ) → running_on k.state core ≡ Some t → is_closed (thread_at k.state t).stage ≡ false) c.self.view_is (λ core t runs. running-open (frame_of c.self.inside.board s) s core t c.self.invariant.kept runs)

pub returns-clause-alone : goal.returns-clause-alone
returns-clause-alone c =
    let s : State = state_of c.self.inside.state in
    subst (λ (k : PlainKernel). IsAlone k.state) c.self.view_is (record { halt = refl; holdings = c.self.invariant.free.0 })

pub returns-clause-held : goal.returns-clause-held
returns-clause-held c =
    let kept = c.self.invariant.kept in
    subst (λ (k : PlainKernel). (n : Nest) → k.state.nest ≡ Some n → (t : ℕ) × (running_on k.state n.core ≡ Some t)) c.self.view_is (λ n is. let held = kept.nest_runs n is in (held.0, held.1))

pub returns-clause-kept : goal.returns-clause-kept
returns-clause-kept c = subst (λ (k : PlainKernel). Kept (frame_of k.board k.state) k.state) c.self.view_is c.self.invariant.kept
