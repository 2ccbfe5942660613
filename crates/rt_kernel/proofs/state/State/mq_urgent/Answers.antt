use Rattle.std.proofs.Common.{◌≡◌, ◌++◌, ◌∷◌, [], ℕ, List, Option, Some, None, refl, sym, ap, ◌∙◌, length}
use Rattle.std.specs.Prelude.{Ok, Err}
use Rattle.rt_base.specs.declared.codes.Code.{Code}
use Rattle.rt_plain.specs.declared.stmt.Call.{Call}
use Rattle.rt_plain.specs.kernel.State.{State, MsgQueue}
use Rattle.rt_plain.specs.kernel.Effects.{effect_for, retry_wake_effect}
use Rattle.rt_plain.specs.kernel.Outcome.{By, refusal, success, missing_outcome, wait_or_refusal, with_value, with_text}
use Rattle.rt_plain.specs.kernel.QueueCalls.{message_put_outcome}
use Rattle.ipc_queues.specs.declared.fault.PutFault.{PutFault}
use Rattle.kernel_tables.specs.Tabled.{found_queue, messages_put, messages_taken}
use Rattle.mutex_tables.specs.MutexTabled.{MutexTabled}
use Rattle.rt_kernel.specs.declared.answer.Answer.{Answer}
use Rattle.rt_kernel.specs.declared.state.State.{State as KernelState}
use Rattle.rt_kernel.specs.Caller.{plain_by, plain_attempt}
use Rattle.rt_kernel.specs.Limits.{limits_of}
use Rattle.rt_kernel.specs.View.{state_of}
use Rattle.rt_kernel.proofs.DoesLemmas.{does_by}
use Rattle.rt_kernel.proofs.QueueCallLemmas.{puts}
use Rattle.rt_kernel.proofs.RetryCallLemmas.{does-on}
use Rattle.rt_kernel.proofs.WakeLemmas.{on}
use Rattle.rt_kernel.proofs.state.State.mq_urgent.Goals as goal

pub returns-in-Some-Ok : goal.returns-in-Some-Ok
returns-in-Some-Ok c =
    let old : KernelState = c.args.self.now in
    let s : State = state_of old in
    let put : List (List ℕ) → List (List ℕ) = λ (messages : List (List ℕ)). c.args.text.now ∷ messages in
    let is = sym c.urgent_message.ensures.answer ∙ c.in-Some-Ok.is ∙ ap (λ o. Some o) c.in-Some-Ok.field-0-is in
    does_by (puts s c.args.name.now c.args.text.now put c.first_at_queue-first.result (refusal s Code.Inval) (λ queue. refusal s Code.Error) (λ queue. refusal s Code.Full) c.in-Some-Ok.field-0-0 is c.first_at_queue-first.ensures.first)
    (does-on old (record old { tables = c.urgent_message.new.self }) c.wake_first.new.self c.args.out.now c.wake_first.new.out (Answer.Code Code.Ok) 1 (λ (u : State). success (effect_for retry_wake_effect c.first_at_queue-first.result u)) (record s { queues = messages_put s.queues c.args.text.now put (found_queue s.queues c.args.name.now) })
    (ap (on old) c.urgent_message.ensures.state) (ap limits_of c.urgent_message.ensures.state) (ap (λ (k : MutexTabled). length k.threads) c.urgent_message.ensures.state) refl c.wake_first.ensures.acts)
