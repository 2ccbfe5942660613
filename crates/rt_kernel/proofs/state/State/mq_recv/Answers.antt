use Rattle.std.proofs.Common.{◌≡◌, ◌++◌, ◌∷◌, [], ℕ, List, Option, Some, None, refl, sym, ap, ◌∙◌, length}
use Rattle.std.specs.Prelude.{Ok, Err}
use Rattle.rt_base.specs.declared.codes.Code.{Code}
use Rattle.rt_plain.specs.declared.stmt.Call.{Call}
use Rattle.rt_plain.specs.kernel.State.{State, MsgQueue}
use Rattle.rt_plain.specs.kernel.Effects.{effect_for, retry_wake_effect}
use Rattle.rt_plain.specs.kernel.Outcome.{By, refusal, success, missing_outcome, wait_or_refusal, with_value, with_text}
use Rattle.rt_plain.specs.kernel.QueueCalls.{message_put_outcome}
use Rattle.ipc_queues.specs.declared.fault.PutFault.{PutFault}
use Rattle.kernel_tables.specs.Tabled.{found_queue, messages_put, messages_taken}
use Rattle.mutex_tables.specs.MutexTabled.{MutexTabled}
use Rattle.rt_kernel.specs.declared.answer.Answer.{Answer}
use Rattle.rt_kernel.specs.declared.state.State.{State as KernelState}
use Rattle.rt_kernel.specs.Caller.{plain_by, plain_attempt}
use Rattle.rt_kernel.specs.Limits.{limits_of}
use Rattle.rt_kernel.specs.View.{state_of}
use Rattle.rt_kernel.proofs.DoesLemmas.{does_by}
use Rattle.rt_kernel.proofs.QueueCallLemmas.{gets, finds-none, none-taken}
use Rattle.rt_kernel.proofs.RetryCallLemmas.{does-on, does-wait, by-same}
use Rattle.rt_kernel.proofs.WakeLemmas.{on}
use Rattle.rt_kernel.proofs.state.State.mq_recv.Goals as goal

pub returns-in-Some-Some : goal.returns-in-Some-Some
returns-in-Some-Some c =
    let old : KernelState = c.args.self.now in
    let s : State = state_of old in
    let is = sym c.receive_message.ensures.answer ∙ c.in-Some-Some.is ∙ ap (λ o. Some o) c.in-Some-Some.field-0-is in
    let left : MutexTabled = record old.tables { queues = messages_taken s.queues (found_queue s.queues c.args.name.now) } in
    let got : MutexTabled → By → State = λ (k : MutexTabled) (by : By). with_value (with_text (on old k) by c.in-Some-Some.text) by (length c.in-Some-Some.text) in
    does_by (gets s c.args.name.now c.in-Some-Some.text c.args.timeout (plain_by s c.args.by) (plain_attempt c.args.attempt) c.first_at_queue-first.result is c.first_at_queue-first.ensures.first)
    (does-on old c.take_text.new.self c.wake_first.new.self c.args.out.now c.wake_first.new.out (Answer.Code Code.Ok) 1 (λ (u : State). success (effect_for retry_wake_effect c.first_at_queue-first.result u)) (got left (plain_by s c.args.by))
    (c.take_text.ensures.state ∙ ap (λ (k : MutexTabled). got k (plain_by (on old k) c.args.by)) c.receive_message.ensures.state ∙ ap (got left) (by-same s (on old left) c.args.by refl))
    (c.take_text.ensures.limits ∙ ap limits_of c.receive_message.ensures.state) (c.take_text.ensures.threads ∙ ap (λ (k : MutexTabled). length k.threads) c.receive_message.ensures.state) c.take_text.ensures.numbers c.wake_first.ensures.acts)

pub returns-in-Some-None : goal.returns-in-Some-None
returns-in-Some-None c =
    let old : KernelState = c.args.self.now in
    let s : State = state_of old in
    let is = sym c.receive_message.ensures.answer ∙ c.in-Some-None.is ∙ ap (λ o. Some o) c.in-Some-None.field-0-is in
    let kept = c.receive_message.ensures.state ∙ ap (λ (queues : List MsgQueue). record old.tables { queues = queues }) (none-taken s.queues (found_queue s.queues c.args.name.now) is) in
    does_by (sym (finds-none s c.args.name.now c.copy.result c.args.timeout (plain_by s c.args.by) (plain_attempt c.args.attempt) c.copy.ensures is))
    (does-wait old c.wait_turn.new.self c.receive_message.new.self c.args.out.now c.wait_turn.result 1 (λ (u : State). wait_or_refusal u (plain_by u c.args.by) (plain_attempt c.args.attempt) (Call.MqRecv c.copy.result c.args.timeout) c.args.timeout Code.Timeout)
    kept c.wait_turn.ensures.state c.wait_turn.ensures.answer c.wait_turn.ensures.silent c.wait_turn.ensures.limits c.wait_turn.ensures.threads c.wait_turn.ensures.numbers)
