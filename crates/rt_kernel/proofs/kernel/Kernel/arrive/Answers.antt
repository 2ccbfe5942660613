use Rattle.std.proofs.Common.{refl, sym, ◌∙◌, subst}
use Rattle.rt_plain.specs.kernel.DeviceCalls.{find_device}
use Rattle.rt_plain.specs.kernel.Kept.{Kept}
use Rattle.rt_plain.specs.kernel.State.{State}
use Rattle.rt_kernel.specs.IsKernel.{frame_of}
use Rattle.rt_kernel.specs.Mutexes.{HasNoMutex}
use Rattle.rt_kernel.specs.View.{state_of}
use Rattle.rt_kernel.proofs.ArrivalLemmas.{arrived-kept, arrived-quiet}
use Rattle.rt_kernel.proofs.NameLemmas.{order-kept}
use Rattle.rt_kernel.proofs.Quiet.{KeepsNames, quiet-free}
use Rattle.rt_kernel.proofs.kernel.Kernel.arrive.Goals as goal

pub invariant_of-self : goal.invariant_of-self
invariant_of-self g c =
    let s : State = state_of c.self.inside.state in
    record {
      built = c.self.invariant.built;
      limits = c.arrive.ensures.acts.limits ∙ c.self.invariant.limits;
      free = subst HasNoMutex (sym c.arrive.ensures.acts.state) (quiet-free s _ c.self.invariant.free (arrived-quiet s (find_device s c.args.device.now) c.args.text.now));
      order = order-kept c.self.inside.board s (state_of c.arrive.new.self) (subst (KeepsNames s) (sym c.arrive.ensures.acts.state) (arrived-quiet s (find_device s c.args.device.now) c.args.text.now).names) c.self.invariant.order;
      kept = subst (λ (u : State). Kept (frame_of c.self.inside.board u) u) (sym c.arrive.ensures.acts.state) (arrived-kept c.self.inside.board s (find_device s c.args.device.now) c.args.text.now c.self.invariant.kept);
    }
