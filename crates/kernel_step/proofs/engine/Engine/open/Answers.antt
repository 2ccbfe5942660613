use Rattle.std.proofs.Common.{ap, sym, ◌∙◌, refl}
use Rattle.pm_core.specs.Clock.{Clock}
use Rattle.rt_plain.specs.PlainBoard.{PlainBoard}
use Rattle.kernel_step.proofs.StepLemmas.{here}
use Rattle.kernel_step.proofs.RestLemmas.{opened-on-time}
use Rattle.kernel_step.proofs.engine.Engine.open.Goals as goal

pub returns-clause-state : goal.returns-clause-state
returns-clause-state c = here _ refl c.know_kernel.ensures.alone.halt ∙ c.in_ok-kernel.ensures.state

pub returns-clause-clock : goal.returns-clause-clock
returns-clause-clock c = opened-on-time c.args.board c.in_ok-kernel.kernel.board c.in_ok-kernel.kernel.state c.new-clock.result c.know_kernel.ensures.proper (c.new-clock.ensures ∙ ap (λ (b : PlainBoard). (let k : Clock = record { h = b.lp_h; q = b.lp_q; moment = 0 } in k)) c.board.view_is) c.in_ok-kernel.ensures.board c.in_ok-kernel.ensures.state
