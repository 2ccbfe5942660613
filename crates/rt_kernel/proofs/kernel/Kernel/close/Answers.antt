use Rattle.std.proofs.Common.{◌++◌, refl, sym, ap, ◌∙◌, subst}
use Rattle.rt_plain.specs.kernel.State.{State}
use Rattle.rt_plain.specs.kernel.Effects.{Effect}
use Rattle.rt_plain.specs.kernel.Kept.{Kept}
use Rattle.rt_kernel.specs.Mutexes.{HasNoMutex}
use Rattle.rt_kernel.specs.IsKernel.{frame_of}
use Rattle.rt_kernel.specs.PlainKernel.{PlainKernel}
use Rattle.rt_kernel.specs.View.{state_of}
use Rattle.rt_plain.specs.kernel.Owners.{close_effect}
use Rattle.rt_plain.specs.kernel.Calls.{settled_effect}
use Rattle.rt_kernel.proofs.NameLemmas.{order-kept}
use Rattle.rt_kernel.proofs.Quiet.{KeepsNames, quiet-closed, quiet-free}
use Rattle.rt_kernel.proofs.KeptLemmas.{closed-kept}
use Rattle.rt_kernel.proofs.Quiet.{close_settles}
use Rattle.rt_kernel.proofs.kernel.Kernel.close.Goals as goal

pub invariant_of-self : goal.invariant_of-self
invariant_of-self g c =
    let s : State = state_of c.self.inside.state in
    record {
      built = c.self.invariant.built;
      limits = c.close.ensures.acts.limits ∙ c.self.invariant.limits;
      free = subst HasNoMutex (sym c.close.ensures.acts.state) (quiet-free s (close_effect c.args.thread s).state c.self.invariant.free (quiet-closed s c.args.thread c.self.invariant.free c.know_state.ensures.nobody).1);
      order = order-kept c.self.inside.board s (state_of c.close.new.self) (subst (KeepsNames s) (sym c.close.ensures.acts.state) (quiet-closed s c.args.thread c.self.invariant.free c.know_state.ensures.nobody).1.names) c.self.invariant.order;
      kept = subst (λ (u : State). Kept (frame_of c.self.inside.board u) u) (ap (λ (e : Effect). e.state) (close_settles c.self.inside.board s c.args.thread c.self.invariant.free c.know_state.ensures.nobody) ∙ sym c.close.ensures.acts.state)
          (closed-kept c.self.inside.board s c.args.thread c.self.invariant.kept);
    }

pub returns-clause-state : goal.returns-clause-state
returns-clause-state g c =
    let s : State = state_of c.self.inside.state in
    c.close.ensures.acts.state ∙ sym (ap (λ (e : Effect). e.state) (close_settles c.self.inside.board s c.args.thread c.self.invariant.free c.know_state.ensures.nobody)) ∙ ap (λ (k : PlainKernel). (settled_effect k.board k.state (close_effect c.args.thread k.state)).state) c.self.view_is

pub returns-clause-lines : goal.returns-clause-lines
returns-clause-lines g c =
    let s : State = state_of c.self.inside.state in
    c.close.ensures.acts.lines ∙ sym (ap (λ (e : Effect). c.args.out.now.items ++ e.lines) (close_settles c.self.inside.board s c.args.thread c.self.invariant.free c.know_state.ensures.nobody)) ∙ ap (λ (k : PlainKernel). c.args.out.now.items ++ (settled_effect k.board k.state (close_effect c.args.thread k.state)).lines) c.self.view_is
