use Rattle.std.proofs.Common.{◌≡◌, ◌∙◌, ap, is_some, subst, sym}
use Rattle.rt_plain.specs.kernel.Effects.{no_effect}
use Rattle.rt_plain.specs.kernel.State.{thread_at}
use Rattle.rt_plain.specs.kernel.Statements.{statement_effect}
use Rattle.rt_kernel.specs.PlainKernel.{PlainKernel}
use Rattle.rt_kernel.specs.View.{state_of}
use Rattle.rt_kernel.proofs.StatementLemmas.{nothing_is}
use Rattle.rt_kernel.proofs.kernel.Kernel.has_call.Goals as goal

pub returns-clause-nothing : goal.returns-clause-nothing
returns-clause-nothing c core some none =
    subst (λ (k : PlainKernel). statement_effect k.board c.args.thread core k.state ≡ no_effect k.state) c.self.view_is
    (nothing_is c.self.inside.board (state_of c.self.inside.state) c.args.thread core c.self.invariant.built.shell c.self.invariant.built.soft
    (ap (λ (k : PlainKernel). is_some (thread_at k.state c.args.thread).retry) c.self.view_is ∙ some)
    (sym c.has_call.ensures ∙ none))
