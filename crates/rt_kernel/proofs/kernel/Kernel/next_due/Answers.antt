use Rattle.std.proofs.Common.{◌≡◌, ◌≤◌, [], map, sym, ap, ◌∙◌, subst}
use Rattle.std.specs.Option.{ForSome}
use Rattle.rt_plain.specs.kernel.State.{State, Alarm, ArmedRow}
use Rattle.rt_plain.specs.kernel.Due.{due}
use Rattle.pm_core.specs.Moments.{IsLeastAhead}
use Rattle.rt_kernel.specs.PlainKernel.{PlainKernel}
use Rattle.rt_kernel.specs.View.{state_of}
use Rattle.rt_kernel.proofs.SkipLemmas.{least-ahead, next-ahead}
use Rattle.rt_kernel.proofs.kernel.Kernel.next_due.Goals as goal

pub returns-clause-least : goal.returns-clause-least
returns-clause-least c = subst (λ (k : PlainKernel). IsLeastAhead k.state.moment (map (λ (row : ArmedRow Alarm). row.due) k.state.armed) c.next_due.result) c.self.view_is (least-ahead c.self.inside.state.armed c.next_due.result c.next_due.ensures)

pub returns-clause-ahead : goal.returns-clause-ahead
returns-clause-ahead c none =
    let s : State = state_of c.self.inside.state in
    next-ahead c.self.inside.board s c.next_due.result (least-ahead c.self.inside.state.armed c.next_due.result c.next_due.ensures) (ap (λ (k : PlainKernel). due k.state) c.self.view_is ∙ none) c.self.invariant.kept
