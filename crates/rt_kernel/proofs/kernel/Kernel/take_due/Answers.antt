use Rattle.std.proofs.Common.{Option, sym, ap, ◌∙◌, subst}
use Rattle.std.specs.Option.{option_map}
use Rattle.rt_plain.specs.kernel.Due.{due}
use Rattle.rt_plain.specs.kernel.State.{State, Alarm}
use Rattle.kernel_timers.specs.Alarmed.{alarm_of, first_alarm, names_of}
use Rattle.rt_kernel.specs.Due.{taken}
use Rattle.rt_kernel.specs.IsKernel.{frame_of}
use Rattle.rt_kernel.specs.PlainKernel.{PlainKernel}
use Rattle.rt_kernel.specs.View.{state_of}
use Rattle.rt_kernel.proofs.NameLemmas.{order-kept}
use Rattle.rt_kernel.proofs.KeptLemmas.{Taken, taken-any, taken-facts, taken-free, taken-names}
use Rattle.rt_kernel.proofs.kernel.Kernel.take_due.Given.{Over}
use Rattle.rt_kernel.proofs.kernel.Kernel.take_due.Goals as goal

facts : (g : Over) (c : goal.After-take_due g) → Taken c.args.self.now.state (state_of c.take_due.new.self) c.take_due.result
facts g c = subst (λ (k : PlainKernel). Taken k.state (state_of c.take_due.new.self) c.take_due.result) c.self.view_is (taken-facts (frame_of c.self.inside.board (state_of c.self.inside.state)) (state_of c.self.inside.state) (state_of c.take_due.new.self) c.take_due.result c.self.invariant.kept c.take_due.ensures.there c.take_due.ensures.first c.take_due.ensures.state)

pub invariant_of-self : goal.invariant_of-self
invariant_of-self g c =
    let s : State = state_of c.self.inside.state in
    let whose : Option Alarm = option_map (alarm_of (names_of s.timers)) c.take_due.result in
    record {
      built = c.self.invariant.built;
      limits = c.take_due.ensures.limits ∙ c.self.invariant.limits;
      free = taken-free s (state_of c.take_due.new.self) whose c.take_due.ensures.state c.self.invariant.free;
      order = order-kept c.self.inside.board s (state_of c.take_due.new.self) (taken-names s (state_of c.take_due.new.self) whose c.take_due.ensures.state) c.self.invariant.order;
      kept = taken-any c.self.inside.board s (state_of c.take_due.new.self) whose c.take_due.ensures.state c.self.invariant.kept;
    }

pub returns-clause-first : goal.returns-clause-first
returns-clause-first g c = sym (ap (λ (k : PlainKernel). first_alarm (due k.state)) c.self.view_is) ∙ c.take_due.ensures.first ∙ ap (λ (k : PlainKernel). option_map (alarm_of (names_of k.state.timers)) c.take_due.result) c.self.view_is

pub returns-clause-state : goal.returns-clause-state
returns-clause-state g c = c.take_due.ensures.state ∙ ap (λ (k : PlainKernel). taken k.state (option_map (alarm_of (names_of k.state.timers)) c.take_due.result)) c.self.view_is

pub returns-clause-fires : goal.returns-clause-fires
returns-clause-fires g c = (facts g c).fires

pub returns-clause-fewer : goal.returns-clause-fewer
returns-clause-fewer g c = (facts g c).fewer

pub returns-clause-none : goal.returns-clause-none
returns-clause-none g c = (facts g c).none
