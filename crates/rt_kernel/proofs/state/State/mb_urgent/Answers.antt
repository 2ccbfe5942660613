use Rattle.std.proofs.Common.{◌≡◌, ◌++◌, ◌∷◌, ◌<◌, ◌≤◌, [], ℕ, List, Option, Some, None, true, false, refl, sym, ap, ◌∙◌, subst, arith, length, is_some, slice_get}
use Rattle.std.specs.Prelude.{IfSome}
use Rattle.std.specs.Option.{option_map}
use Rattle.rt_base.specs.declared.codes.Code.{Code}
use Rattle.rt_plain.specs.declared.stmt.Call.{Call}
use Rattle.rt_plain.specs.kernel.State.{State, Mailbox, thread_at}
use Rattle.rt_plain.specs.kernel.Effects.{effect_for, retry_wake_effect}
use Rattle.rt_plain.specs.kernel.Outcome.{By, Outcome, refusal, success, missing_outcome, wait_or_refusal, with_value}
use Rattle.kernel_tables.specs.Repeated.{is_repeated}
use Rattle.kernel_tables.specs.Tabled.{found_mailbox, mails_put, mails_taken}
use Rattle.mutex_tables.specs.Known.{knows}
use Rattle.mutex_tables.specs.MutexTabled.{MutexTabled}
use Rattle.kernel_tables.specs.Threads.{row_at}
use Rattle.rt_kernel.specs.declared.answer.Answer.{Answer}
use Rattle.rt_kernel.specs.declared.state.State.{State as KernelState}
use Rattle.rt_kernel.specs.Caller.{plain_by, plain_attempt}
use Rattle.rt_kernel.specs.Limits.{limits_of}
use Rattle.rt_kernel.specs.View.{state_of}
use Rattle.rt_kernel.proofs.DoesLemmas.{does_by}
use Rattle.rt_kernel.proofs.MailboxCallLemmas.{puts}
use Rattle.rt_kernel.proofs.RetryCallLemmas.{does-on, found-there}
use Rattle.rt_kernel.proofs.WakeLemmas.{on}
use Rattle.rt_kernel.proofs.state.State.mb_urgent.Goals as goal

pub wake_first-requires-clause-there : goal.wake_first-requires-clause-there
wake_first-requires-clause-there c = subst (λ (k : MutexTabled). IfSome c.first_at_mailbox-first.result (λ t. t < length k.threads)) (sym c.urgent_mail.ensures.state) c.first_at_mailbox-first.ensures.there

pub wake_first-requires-clause-waits : goal.wake_first-requires-clause-waits
wake_first-requires-clause-waits c = subst (λ (k : MutexTabled). IfSome c.first_at_mailbox-first.result (λ t. is_repeated (row_at k.threads t).stage ≡ true)) (sym c.urgent_mail.ensures.state) c.first_at_mailbox-first.ensures.waits

pub returns-in-Some-true : goal.returns-in-Some-true
returns-in-Some-true c =
    let old : KernelState = c.args.self.now in
    let s : State = state_of old in
    let is = sym c.urgent_mail.ensures.answer ∙ c.in-Some-true.is ∙ ap (λ b. Some b) c.in-Some-true.field-0-test in
    does_by (puts s c.args.name.now (λ (words : List ℕ). c.args.word ∷ words) c.first_at_mailbox-first.result (refusal s Code.Inval) (λ (mailbox : Mailbox). refusal s Code.Full) is c.first_at_mailbox-first.ensures.first)
    (does-on old (record old { tables = c.urgent_mail.new.self }) c.wake_first.new.self c.args.out.now c.wake_first.new.out (Answer.Code Code.Ok) 1 (λ (u : State). success (effect_for retry_wake_effect c.first_at_mailbox-first.result u)) (record s { mailboxes = mails_put s.mailboxes (λ (words : List ℕ). c.args.word ∷ words) (found_mailbox s.mailboxes c.args.name.now) })
    (ap (on old) c.urgent_mail.ensures.state) (ap limits_of c.urgent_mail.ensures.state) (ap (λ (k : MutexTabled). length k.threads) c.urgent_mail.ensures.state) refl c.wake_first.ensures.acts)
