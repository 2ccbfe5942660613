use Rattle.std.proofs.Common.{◌+◌, ◌≤◌, ◌<◌, refl, sym, ap, ◌∙◌, subst}
use Rattle.std.specs.Prelude.{All}
use Rattle.rt_plain.specs.kernel.State.{State, Alarm, ArmedRow}
use Rattle.rt_plain.specs.kernel.Kept.{Kept}
use Rattle.rt_kernel.specs.IsKernel.{frame_of}
use Rattle.rt_kernel.specs.Limits.{limits_of}
use Rattle.rt_kernel.specs.Mutexes.{HasNoMutex}
use Rattle.rt_kernel.specs.PlainKernel.{PlainKernel}
use Rattle.rt_kernel.specs.View.{state_of}
use Rattle.rt_kernel.proofs.NameLemmas.{order-kept}
use Rattle.rt_kernel.proofs.Quiet.{KeepsNames}
use Rattle.rt_kernel.proofs.SkipLemmas.{later_state, skipped-kept, rows-clear}
use Rattle.rt_kernel.proofs.kernel.Kernel.skip.Goals as goal

pub skip-requires-clause-moment : goal.skip-requires-clause-moment
skip-requires-clause-moment c = subst (λ (k : PlainKernel). k.state.moment + c.args.n ≤ 1099511627775) (sym c.self.view_is) c.requires.moment

pub skip-requires-clause-ahead : goal.skip-requires-clause-ahead
skip-requires-clause-ahead c =
    let s : State = state_of c.self.inside.state in
    rows-clear s.moment c.args.n s.armed (subst (λ (k : PlainKernel). All (λ (row : ArmedRow Alarm). k.state.moment + c.args.n < row.due) k.state.armed) (sym c.self.view_is) c.requires.ahead)

pub invariant_of-self : goal.invariant_of-self
invariant_of-self c =
    let s : State = state_of c.self.inside.state in
    record {
      built = c.self.invariant.built;
      limits = ap limits_of c.skip.ensures.tables ∙ c.self.invariant.limits;
      free = subst HasNoMutex (sym c.skip.ensures.state) c.self.invariant.free;
      order = order-kept c.self.inside.board s (state_of c.skip.new.self) (subst (KeepsNames s) (sym c.skip.ensures.state) (λ u. refl)) c.self.invariant.order;
      kept = subst (λ (u : State). Kept (frame_of c.self.inside.board u) u) (sym c.skip.ensures.state)
          (skipped-kept c.self.inside.board s c.args.n (subst (λ (k : PlainKernel). k.state.moment + c.args.n ≤ 1099511627775) (sym c.self.view_is) c.requires.moment)
          (subst (λ (k : PlainKernel). All (λ (row : ArmedRow Alarm). k.state.moment + c.args.n < row.due) k.state.armed) (sym c.self.view_is) c.requires.ahead) c.self.invariant.kept);
    }

pub returns-clause-state : goal.returns-clause-state
returns-clause-state c = c.skip.ensures.state ∙ ap (λ (k : PlainKernel). later_state k.state c.args.n) c.self.view_is
