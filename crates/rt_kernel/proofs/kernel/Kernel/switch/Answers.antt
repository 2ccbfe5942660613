use Rattle.std.proofs.Common.{◌<◌, ◌∙◌, ap, sym, subst}
use Rattle.rt_plain.specs.kernel.State.{State, running_on}
use Rattle.rt_plain.specs.kernel.Kept.{Kept}
use Rattle.rt_kernel.specs.IsKernel.{frame_of}
use Rattle.rt_kernel.specs.Limits.{ObjectLimits}
use Rattle.rt_kernel.specs.Mutexes.{HasNoMutex}
use Rattle.rt_kernel.specs.PlainKernel.{PlainKernel}
use Rattle.rt_kernel.specs.Caller.{IsOnCore}
use Rattle.rt_kernel.specs.View.{state_of}
use Rattle.rt_kernel.proofs.NameLemmas.{order-kept, switched-names, switched-free}
use Rattle.rt_kernel.proofs.Quiet.{KeepsNames}
use Rattle.rt_kernel.proofs.KeptLemmas.{switched-kept}
use Rattle.rt_kernel.proofs.NextCallLemmas.{if-some}
use Rattle.rt_kernel.proofs.kernel.Kernel.switch.Goals as goal

pub switch-requires-clause-core : goal.switch-requires-clause-core
switch-requires-clause-core g c =
    let there : c.args.core < c.self.inside.board.cores = subst (λ (k : PlainKernel). c.args.core < k.board.cores) (sym c.self.view_is) c.requires.core in
    subst (λ n. c.args.core < n) (sym (ap (λ (l : ObjectLimits). l.cores) c.self.invariant.limits)) there

pub switch-requires-clause-place : goal.switch-requires-clause-place
switch-requires-clause-place g c =
    let there : c.args.core < c.self.inside.board.cores = subst (λ (k : PlainKernel). c.args.core < k.board.cores) (sym c.self.view_is) c.requires.core in
    subst (λ n. c.args.core < n) (sym c.self.invariant.kept.cores) there

pub switch-requires-clause-running : goal.switch-requires-clause-running
switch-requires-clause-running g c = if-some (running_on (state_of c.self.inside.state) c.args.core) (λ r. IsOnCore c.self.inside.state.tables r) (c.know_state.ensures.running c.args.core)

pub invariant_of-self : goal.invariant_of-self
invariant_of-self g c = record {
  built = c.self.invariant.built;
  limits = c.switch.ensures.acts.limits ∙ c.self.invariant.limits;
  free = subst HasNoMutex (sym c.switch.ensures.acts.state) (switched-free (state_of c.self.inside.state) c.args.core c.self.invariant.free);
  order = order-kept c.self.inside.board (state_of c.self.inside.state) (state_of c.switch.new.self) (subst (KeepsNames (state_of c.self.inside.state)) (sym c.switch.ensures.acts.state) (switched-names (state_of c.self.inside.state) c.args.core)) c.self.invariant.order;
  kept = subst (λ (s : State). Kept (frame_of c.self.inside.board s) s) (sym c.switch.ensures.acts.state) (switched-kept c.self.inside.board (state_of c.self.inside.state) c.args.core (subst (λ (k : PlainKernel). c.args.core < k.board.cores) (sym c.self.view_is) c.requires.core) c.self.invariant.kept);
}
