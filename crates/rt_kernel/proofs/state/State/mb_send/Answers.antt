use Rattle.std.proofs.Common.{◌≡◌, ◌++◌, ◌∷◌, ◌<◌, ◌≤◌, [], ℕ, List, Option, Some, None, true, false, refl, sym, ap, ◌∙◌, subst, arith, length, is_some, slice_get}
use Rattle.std.specs.Prelude.{IfSome}
use Rattle.std.specs.Option.{option_map}
use Rattle.rt_base.specs.declared.codes.Code.{Code}
use Rattle.rt_plain.specs.declared.stmt.Call.{Call}
use Rattle.rt_plain.specs.kernel.State.{State, Mailbox, thread_at}
use Rattle.rt_plain.specs.kernel.Effects.{effect_for, retry_wake_effect}
use Rattle.rt_plain.specs.kernel.Outcome.{By, Outcome, refusal, success, missing_outcome, wait_or_refusal, with_value}
use Rattle.kernel_tables.specs.Repeated.{is_repeated}
use Rattle.kernel_tables.specs.Tabled.{found_mailbox, mails_put, mails_taken}
use Rattle.mutex_tables.specs.Known.{knows}
use Rattle.mutex_tables.specs.MutexTabled.{MutexTabled}
use Rattle.kernel_tables.specs.Threads.{row_at}
use Rattle.rt_kernel.specs.declared.answer.Answer.{Answer}
use Rattle.rt_kernel.specs.declared.state.State.{State as KernelState}
use Rattle.rt_kernel.specs.Caller.{plain_by, plain_attempt}
use Rattle.rt_kernel.specs.Limits.{limits_of}
use Rattle.rt_kernel.specs.View.{state_of}
use Rattle.rt_kernel.proofs.DoesLemmas.{does_by}
use Rattle.rt_kernel.proofs.MailboxCallLemmas.{puts, finds-full, none-put}
use Rattle.rt_kernel.proofs.RetryCallLemmas.{does-on, does-wait, found-there}
use Rattle.rt_kernel.proofs.WakeLemmas.{on}
use Rattle.rt_kernel.proofs.state.State.mb_send.Goals as goal

pub wake_first-requires-clause-there : goal.wake_first-requires-clause-there
wake_first-requires-clause-there c = subst (λ (k : MutexTabled). IfSome c.first_at_mailbox-first.result (λ t. t < length k.threads)) (sym c.send_mail.ensures.state) c.first_at_mailbox-first.ensures.there

pub wake_first-requires-clause-waits : goal.wake_first-requires-clause-waits
wake_first-requires-clause-waits c = subst (λ (k : MutexTabled). IfSome c.first_at_mailbox-first.result (λ t. is_repeated (row_at k.threads t).stage ≡ true)) (sym c.send_mail.ensures.state) c.first_at_mailbox-first.ensures.waits

pub wait_turn-requires-clause-known : goal.wait_turn-requires-clause-known
wait_turn-requires-clause-known c =
    let old : MutexTabled = c.args.self.now.tables in
    let is = sym c.send_mail.ensures.answer ∙ c.in-Some-false.is ∙ ap (λ b. Some b) c.in-Some-false.field-0-test in
    let kept = c.send_mail.ensures.state ∙ ap (λ (mailboxes : List Mailbox). record old { mailboxes = mailboxes }) (none-put old.mailboxes (λ (words : List ℕ). words ++ c.args.word ∷ []) (found_mailbox old.mailboxes c.args.name.now) is) in
    subst (λ (k : MutexTabled). knows k (Call.MbSend c.copy.result c.args.word c.args.timeout) ≡ true) (sym kept) (ap (λ (n : List ℕ). is_some (found_mailbox old.mailboxes n)) c.copy.ensures ∙ found-there _ (found_mailbox old.mailboxes c.args.name.now) false is)

pub returns-in-Some-true : goal.returns-in-Some-true
returns-in-Some-true c =
    let old : KernelState = c.args.self.now in
    let s : State = state_of old in
    let is = sym c.send_mail.ensures.answer ∙ c.in-Some-true.is ∙ ap (λ b. Some b) c.in-Some-true.field-0-test in
    does_by (puts s c.args.name.now (λ (words : List ℕ). words ++ c.args.word ∷ []) c.first_at_mailbox-first.result (missing_outcome s (plain_attempt c.args.attempt)) (λ (mailbox : Mailbox). wait_or_refusal s (plain_by s c.args.by) (plain_attempt c.args.attempt) (Call.MbSend mailbox.name c.args.word c.args.timeout) c.args.timeout Code.Full) is c.first_at_mailbox-first.ensures.first)
    (does-on old (record old { tables = c.send_mail.new.self }) c.wake_first.new.self c.args.out.now c.wake_first.new.out (Answer.Code Code.Ok) 1 (λ (u : State). success (effect_for retry_wake_effect c.first_at_mailbox-first.result u)) (record s { mailboxes = mails_put s.mailboxes (λ (words : List ℕ). words ++ c.args.word ∷ []) (found_mailbox s.mailboxes c.args.name.now) })
    (ap (on old) c.send_mail.ensures.state) (ap limits_of c.send_mail.ensures.state) (ap (λ (k : MutexTabled). length k.threads) c.send_mail.ensures.state) refl c.wake_first.ensures.acts)

pub returns-in-Some-false : goal.returns-in-Some-false
returns-in-Some-false c =
    let old : KernelState = c.args.self.now in
    let s : State = state_of old in
    let is = sym c.send_mail.ensures.answer ∙ c.in-Some-false.is ∙ ap (λ b. Some b) c.in-Some-false.field-0-test in
    let kept = c.send_mail.ensures.state ∙ ap (λ (mailboxes : List Mailbox). record old.tables { mailboxes = mailboxes }) (none-put s.mailboxes (λ (words : List ℕ). words ++ c.args.word ∷ []) (found_mailbox s.mailboxes c.args.name.now) is) in
    let waits = λ (n : List ℕ). wait_or_refusal s (plain_by s c.args.by) (plain_attempt c.args.attempt) (Call.MbSend n c.args.word c.args.timeout) c.args.timeout Code.Full in
    does_by (finds-full s c.args.name.now (missing_outcome s (plain_attempt c.args.attempt)) _ waits is ∙ ap waits (sym c.copy.ensures))
    (does-wait old c.wait_turn.new.self c.send_mail.new.self c.args.out.now c.wait_turn.result 1 (λ (u : State). wait_or_refusal u (plain_by u c.args.by) (plain_attempt c.args.attempt) (Call.MbSend c.copy.result c.args.word c.args.timeout) c.args.timeout Code.Full)
    kept c.wait_turn.ensures.state c.wait_turn.ensures.answer c.wait_turn.ensures.silent c.wait_turn.ensures.limits c.wait_turn.ensures.threads c.wait_turn.ensures.numbers)
