use Rattle.std.proofs.Common.{◌≡◌, ◌≤◌, ◌++◌, ℕ, length, refl, sym, ap, ◌∙◌, subst}
use Rattle.rt_plain.specs.PlainBoard.{PlainBoard}
use Rattle.rt_plain.specs.kernel.State.{State, Alarm}
use Rattle.rt_plain.specs.kernel.Effects.{Effect}
use Rattle.rt_plain.specs.kernel.Kept.{Kept}
use Rattle.rt_plain.specs.kernel.Due.{due, alarm_effect}
use Rattle.rt_plain.specs.kernel.Calls.{settled_effect}
use Rattle.rt_kernel.specs.Actions.{MayFire}
use Rattle.rt_kernel.specs.Mutexes.{HasNoMutex}
use Rattle.rt_kernel.specs.IsKernel.{frame_of}
use Rattle.rt_kernel.specs.PlainKernel.{PlainKernel}
use Rattle.rt_kernel.specs.View.{state_of}
use Rattle.kernel_timers.specs.Alarmed.{alarm_of, names_of}
use Rattle.rt_kernel.proofs.KernelDue.{may_act}
use Rattle.rt_kernel.proofs.NameLemmas.{order-kept}
use Rattle.rt_kernel.proofs.Quiet.{IsQuiet, KeepsNames, quiet-free}
use Rattle.rt_kernel.proofs.TimerFireLemmas.{Fires, fires_at, alarm_due, alarm_arrivals, alarm_kept, alarm_moment, quiet-alarm_fires}
use Rattle.rt_kernel.proofs.kernel.Kernel.fire.Given.{Over}
use Rattle.rt_kernel.proofs.kernel.Kernel.fire.Goals as goal

-- whose row fires, as the plain kernel says it
abbrev fired_by : PlainKernel → ℕ → Effect
fired_by k who = settled_effect k.board k.state (alarm_effect k.board (alarm_of (names_of k.state.timers) who) k.state)

may : (g : Over) (c : goal.After-fire_row g) → Fires (state_of c.self.inside.state) (alarm_of (names_of c.self.inside.state.armed.timers) c.args.no)
may g c =
    let b : PlainBoard = c.self.inside.board in
    let s : State = state_of c.self.inside.state in
    fires_at s c.args.no (subst (λ (k : PlainKernel). MayFire k.state c.args.no) (sym c.self.view_is) c.requires.fires) c.know_timers.ensures.threads c.know_timers.ensures.numbered c.know_timers.ensures.own (λ o there. may_act b (frame_of b s) s o c.self.invariant.built refl c.self.invariant.kept there)

fired : (g : Over) (c : goal.After-fire_row g) → settled_effect c.self.inside.board (state_of c.self.inside.state) (alarm_effect c.self.inside.board (alarm_of (names_of c.self.inside.state.armed.timers) c.args.no) (state_of c.self.inside.state)) ≡ fired_by c.args.self.now c.args.no
fired g c = ap (λ (k : PlainKernel). fired_by k c.args.no) c.self.view_is

quiet : (g : Over) (c : goal.After-fire_row g) → IsQuiet (state_of c.self.inside.state) (alarm_effect c.self.inside.board (alarm_of (names_of c.self.inside.state.armed.timers) c.args.no) (state_of c.self.inside.state)).state
quiet g c = quiet-alarm_fires c.self.inside.board (state_of c.self.inside.state) (alarm_of (names_of c.self.inside.state.armed.timers) c.args.no) c.know_state.ensures.nobody (may g c)

pub invariant_of-self : goal.invariant_of-self
invariant_of-self g c =
    let b : PlainBoard = c.self.inside.board in
    let s : State = state_of c.self.inside.state in
    let alarm : Alarm = alarm_of (names_of s.timers) c.args.no in
    record {
      built = c.self.invariant.built;
      limits = c.fire_row.ensures.acts.limits ∙ c.self.invariant.limits;
      free = subst HasNoMutex (sym c.fire_row.ensures.acts.state) (quiet-free s (alarm_effect b alarm s).state c.self.invariant.free (quiet g c));
      order = order-kept b s (state_of c.fire_row.new.self) (subst (KeepsNames s) (sym c.fire_row.ensures.acts.state) (quiet g c).names) c.self.invariant.order;
      kept = subst (λ (u : State). Kept (frame_of b u) u) (sym c.fire_row.ensures.acts.state) (alarm_kept b s alarm refl (may g c) c.self.invariant.kept);
    }

pub returns-clause-state : goal.returns-clause-state
returns-clause-state g c = c.fire_row.ensures.acts.state ∙ ap (λ (e : Effect). e.state) (fired g c)

pub returns-clause-lines : goal.returns-clause-lines
returns-clause-lines g c = c.fire_row.ensures.acts.lines ∙ ap (λ (e : Effect). c.args.out.now.items ++ e.lines) (fired g c)

pub returns-clause-due : goal.returns-clause-due
returns-clause-due g c =
    let b : PlainBoard = c.self.inside.board in
    let s : State = state_of c.self.inside.state in
    let alarm : Alarm = alarm_of (names_of s.timers) c.args.no in
    subst (λ (u : State). length (due u) ≤ length (due c.args.self.now.state)) (sym c.fire_row.ensures.acts.state) (subst (λ (k : PlainKernel). length (due (alarm_effect b alarm s).state) ≤ length (due k.state)) c.self.view_is (alarm_due b s alarm refl (may g c) c.self.invariant.kept))

pub returns-clause-moment : goal.returns-clause-moment
returns-clause-moment g c =
    let s : State = state_of c.self.inside.state in
    ap (λ (u : State). u.moment) c.fire_row.ensures.acts.state ∙ alarm_moment c.self.inside.board s (alarm_of (names_of s.timers) c.args.no) refl (may g c) c.self.invariant.kept ∙ ap (λ (k : PlainKernel). k.state.moment) c.self.view_is

pub returns-clause-arrivals : goal.returns-clause-arrivals
returns-clause-arrivals g c =
    let s : State = state_of c.self.inside.state in
    ap (λ (u : State). u.arrivals) c.fire_row.ensures.acts.state ∙ alarm_arrivals c.self.inside.board s (alarm_of (names_of s.timers) c.args.no) (may g c) c.self.invariant.kept ∙ ap (λ (k : PlainKernel). k.state.arrivals) c.self.view_is
