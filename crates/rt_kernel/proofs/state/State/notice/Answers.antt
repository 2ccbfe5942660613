use Rattle.std.proofs.Common.{◌≡◌, ◌∙◌, sym, ap, Bool, Option, ℕ}
use Rattle.std.specs.Prelude.{if◌then◌else◌}
use Rattle.rt_plain.specs.kernel.DeviceCalls.{console_waiter, indication_effect}
use Rattle.rt_plain.specs.kernel.Effects.{effect_for, retry_wake_effect}
use Rattle.rt_plain.specs.kernel.Outcome.{success}
use Rattle.rt_plain.specs.kernel.State.{State}
use Rattle.rt_kernel.specs.View.{state_of}
use Rattle.rt_kernel.proofs.ArrivalLemmas.{waiter-is, waiter-repeats}
use Rattle.rt_kernel.proofs.DoesLemmas.{does_by}
use Rattle.rt_kernel.proofs.state.State.notice.Goals as goal

pub wake_first-requires-clause-waits : goal.wake_first-requires-clause-waits
wake_first-requires-clause-waits c = waiter-repeats c.args.self.now.tables.threads c.console_waiter-waiter.result c.console_waiter-waiter.ensures.found

pub returns-then-arrived-clause-acts : goal.returns-then-arrived-clause-acts
returns-then-arrived-clause-acts c =
    let s : State = state_of c.args.self.now in
    does_by (
    ap (λ (b : Bool). success (if b then effect_for retry_wake_effect (console_waiter s) s else indication_effect c.args.arrived.now.ind s)) c.if-arrived.true
    ∙ ap (λ (o : Option ℕ). success (effect_for retry_wake_effect o s)) (sym (c.console_waiter-waiter.ensures.found ∙ waiter-is s))
    ) c.wake_first.ensures.acts
