use Rattle.std.proofs.Common.{◌≡◌, ◌++◌, ◌∷◌, [], ℕ, List, Option, Some, None, refl, sym, ap, ◌∙◌, length}
use Rattle.std.specs.Prelude.{Ok, Err}
use Rattle.rt_base.specs.declared.codes.Code.{Code}
use Rattle.rt_plain.specs.declared.stmt.Call.{Call}
use Rattle.rt_plain.specs.kernel.State.{State, MsgQueue}
use Rattle.rt_plain.specs.kernel.Effects.{effect_for, retry_wake_effect}
use Rattle.rt_plain.specs.kernel.Outcome.{By, refusal, success, missing_outcome, wait_or_refusal, with_value, with_text}
use Rattle.rt_plain.specs.kernel.QueueCalls.{message_put_outcome}
use Rattle.ipc_queues.specs.declared.fault.PutFault.{PutFault}
use Rattle.kernel_tables.specs.Tabled.{found_queue, messages_put, messages_taken}
use Rattle.mutex_tables.specs.MutexTabled.{MutexTabled}
use Rattle.rt_kernel.specs.declared.answer.Answer.{Answer}
use Rattle.rt_kernel.specs.declared.state.State.{State as KernelState}
use Rattle.rt_kernel.specs.Caller.{plain_by, plain_attempt}
use Rattle.rt_kernel.specs.Limits.{limits_of}
use Rattle.rt_kernel.specs.View.{state_of}
use Rattle.rt_kernel.proofs.DoesLemmas.{does_by}
use Rattle.rt_kernel.proofs.QueueCallLemmas.{puts, refuses, none-put}
use Rattle.rt_kernel.proofs.RetryCallLemmas.{does-on, does-wait}
use Rattle.rt_kernel.proofs.WakeLemmas.{on}
use Rattle.rt_kernel.proofs.state.State.mq_send.Goals as goal

pub returns-in-Some-Ok : goal.returns-in-Some-Ok
returns-in-Some-Ok c =
    let old : KernelState = c.args.self.now in
    let s : State = state_of old in
    let put : List (List ℕ) → List (List ℕ) = λ (messages : List (List ℕ)). messages ++ c.args.text.now ∷ [] in
    let is = sym c.send_message.ensures.answer ∙ c.in-Some-Ok.is ∙ ap (λ o. Some o) c.in-Some-Ok.field-0-is in
    does_by (puts s c.args.name.now c.args.text.now put c.first_at_queue-first.result (missing_outcome s (plain_attempt c.args.attempt)) (λ queue. refusal s Code.Error) (λ queue. wait_or_refusal s (plain_by s c.args.by) (plain_attempt c.args.attempt) (Call.MqSend queue.name c.args.timeout c.args.text.now) c.args.timeout Code.Full) c.in-Some-Ok.field-0-0 is c.first_at_queue-first.ensures.first)
    (does-on old (record old { tables = c.send_message.new.self }) c.wake_first.new.self c.args.out.now c.wake_first.new.out (Answer.Code Code.Ok) 1 (λ (u : State). success (effect_for retry_wake_effect c.first_at_queue-first.result u)) (record s { queues = messages_put s.queues c.args.text.now put (found_queue s.queues c.args.name.now) })
    (ap (on old) c.send_message.ensures.state) (ap limits_of c.send_message.ensures.state) (ap (λ (k : MutexTabled). length k.threads) c.send_message.ensures.state) refl c.wake_first.ensures.acts)

pub returns-in-Some-Err-Full : goal.returns-in-Some-Err-Full
returns-in-Some-Err-Full c =
    let old : KernelState = c.args.self.now in
    let s : State = state_of old in
    let put : List (List ℕ) → List (List ℕ) = λ (messages : List (List ℕ)). messages ++ c.args.text.now ∷ [] in
    let is = sym c.send_message.ensures.answer ∙ c.in-Some-Err-Full.is ∙ ap (λ o. Some o) c.in-Some-Err-Full.field-0-is ∙ ap (λ (f : PutFault). Some (Err f)) c.in-Some-Err-Full.field-0-0-is in
    let kept = c.send_message.ensures.state ∙ ap (λ (queues : List MsgQueue). record old.tables { queues = queues }) (none-put s.queues c.args.text.now put (found_queue s.queues c.args.name.now) PutFault.Full is) in
    let waits = λ (n : List ℕ) (m : List ℕ). wait_or_refusal s (plain_by s c.args.by) (plain_attempt c.args.attempt) (Call.MqSend n c.args.timeout m) c.args.timeout Code.Full in
    does_by (refuses s c.args.name.now c.args.text.now (missing_outcome s (plain_attempt c.args.attempt)) (refusal s Code.Error) (λ (queue : MsgQueue). message_put_outcome queue (put queue.messages) s) (λ (n : List ℕ). waits n c.args.text.now) PutFault.Full is
    ∙ ap (λ (n : List ℕ). waits n c.args.text.now) (sym c.copy.ensures) ∙ ap (waits c.copy.result) (sym c.copy-in-Some-Err-Full.ensures))
    (does-wait old c.wait_turn.new.self c.send_message.new.self c.args.out.now c.wait_turn.result 1 (λ (u : State). wait_or_refusal u (plain_by u c.args.by) (plain_attempt c.args.attempt) (Call.MqSend c.copy.result c.args.timeout c.copy-in-Some-Err-Full.result) c.args.timeout Code.Full)
    kept c.wait_turn.ensures.state c.wait_turn.ensures.answer c.wait_turn.ensures.silent c.wait_turn.ensures.limits c.wait_turn.ensures.threads c.wait_turn.ensures.numbers)
