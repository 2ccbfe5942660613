use Rattle.std.proofs.Common.{◌<◌, sym, ap, ◌∙◌, subst}
use Rattle.rt_plain.specs.kernel.State.{State}
use Rattle.rt_plain.specs.kernel.Kept.{Kept}
use Rattle.rt_kernel.specs.IsKernel.{frame_of}
use Rattle.rt_kernel.specs.Mutexes.{HasNoMutex}
use Rattle.rt_kernel.specs.PlainKernel.{PlainKernel}
use Rattle.rt_kernel.specs.View.{state_of}
use Rattle.rt_plain.specs.kernel.Due.{due}
use Rattle.rt_kernel.proofs.NameLemmas.{order-kept, begun-names, begun-free}
use Rattle.rt_kernel.proofs.Quiet.{KeepsNames}
use Rattle.rt_kernel.proofs.KeptLemmas.{begun-kept, rows-ahead}
use Rattle.rt_kernel.proofs.kernel.Kernel.begin_tick.Goals as goal

pub begin_tick-requires-clause-ahead : goal.begin_tick-requires-clause-ahead
begin_tick-requires-clause-ahead c = rows-ahead c.self.inside.board (state_of c.self.inside.state) (ap (λ (k : PlainKernel). due k.state) c.self.view_is ∙ c.requires.none) c.self.invariant.kept

pub begin_tick-requires-clause-running : goal.begin_tick-requires-clause-running
begin_tick-requires-clause-running c core r is = (c.know_state.ensures.running core r is).there

pub invariant_of-self : goal.invariant_of-self
invariant_of-self c = record {
  built = c.self.invariant.built;
  limits = c.begin_tick.ensures.limits ∙ c.self.invariant.limits;
  free = subst HasNoMutex (sym c.begin_tick.ensures.state) (begun-free (state_of c.self.inside.state) c.self.invariant.free);
  order = order-kept c.self.inside.board (state_of c.self.inside.state) (state_of c.begin_tick.new.self) (subst (KeepsNames (state_of c.self.inside.state)) (sym c.begin_tick.ensures.state) (begun-names (state_of c.self.inside.state))) c.self.invariant.order;
  kept = subst (λ (s : State). Kept (frame_of c.self.inside.board s) s) (sym c.begin_tick.ensures.state) (begun-kept c.self.inside.board (state_of c.self.inside.state) (ap (λ (k : PlainKernel). due k.state) c.self.view_is ∙ c.requires.none) (subst (λ (k : PlainKernel). k.state.moment < 1099511627775) (sym c.self.view_is) c.requires.moment) c.self.invariant.kept);
}
