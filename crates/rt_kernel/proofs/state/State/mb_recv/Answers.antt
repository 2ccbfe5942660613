use Rattle.std.proofs.Common.{◌≡◌, ◌++◌, ◌∷◌, ◌<◌, ◌≤◌, [], ℕ, List, Option, Some, None, true, false, refl, sym, ap, ◌∙◌, subst, arith, length, is_some, slice_get}
use Rattle.std.specs.Prelude.{IfSome}
use Rattle.std.specs.Option.{option_map}
use Rattle.rt_base.specs.declared.codes.Code.{Code}
use Rattle.rt_plain.specs.declared.stmt.Call.{Call}
use Rattle.rt_plain.specs.kernel.State.{State, Mailbox, thread_at}
use Rattle.rt_plain.specs.kernel.Effects.{effect_for, retry_wake_effect}
use Rattle.rt_plain.specs.kernel.Outcome.{By, Outcome, refusal, success, missing_outcome, wait_or_refusal, with_value}
use Rattle.kernel_tables.specs.Repeated.{is_repeated}
use Rattle.kernel_tables.specs.Tabled.{found_mailbox, mails_put, mails_taken}
use Rattle.mutex_tables.specs.Known.{knows}
use Rattle.mutex_tables.specs.MutexTabled.{MutexTabled}
use Rattle.kernel_tables.specs.Threads.{row_at}
use Rattle.rt_kernel.specs.declared.answer.Answer.{Answer}
use Rattle.rt_kernel.specs.declared.state.State.{State as KernelState}
use Rattle.rt_kernel.specs.Caller.{plain_by, plain_attempt}
use Rattle.rt_kernel.specs.Limits.{limits_of}
use Rattle.rt_kernel.specs.View.{state_of}
use Rattle.rt_kernel.proofs.DoesLemmas.{does_by}
use Rattle.rt_kernel.proofs.MailboxCallLemmas.{gets, finds-none, none-taken}
use Rattle.rt_kernel.proofs.RetryCallLemmas.{does-on, does-wait, by-same, found-there, still-there, still-waits, value-stage, value-moment}
use Rattle.rt_kernel.proofs.WakeLemmas.{on}
use Rattle.rt_kernel.proofs.state.State.mb_recv.Goals as goal

pub wake_first-requires-clause-there : goal.wake_first-requires-clause-there
wake_first-requires-clause-there c = still-there c.first_at_mailbox-first.result (length c.args.self.now.tables.threads) (length c.take_value.new.self.tables.threads) (c.take_value.ensures.threads ∙ ap (λ (k : MutexTabled). length k.threads) c.receive_mail.ensures.state) c.first_at_mailbox-first.ensures.there

pub wake_first-requires-clause-waits : goal.wake_first-requires-clause-waits
wake_first-requires-clause-waits c =
    let mid : State = on c.args.self.now c.receive_mail.new.self in
    still-waits c.first_at_mailbox-first.result c.args.self.now.tables.threads c.take_value.new.self.tables.threads
    (λ u. ap (λ (s : State). (thread_at s u).stage) c.take_value.ensures.state ∙ value-stage mid (plain_by mid c.args.by) c.in-Some-Some.word u ∙ ap (λ (k : MutexTabled). (row_at k.threads u).stage) c.receive_mail.ensures.state) c.first_at_mailbox-first.ensures.waits

pub wake_first-requires-clause-moment : goal.wake_first-requires-clause-moment
wake_first-requires-clause-moment c =
    let mid : State = on c.args.self.now c.receive_mail.new.self in
    let same : c.take_value.new.self.armed.moment ≡ c.args.self.now.armed.moment = ap (λ (s : State). s.moment) c.take_value.ensures.state ∙ value-moment mid (plain_by mid c.args.by) c.in-Some-Some.word in
    omega (arith, same, c.requires.room.moment)

pub wait_turn-requires-clause-known : goal.wait_turn-requires-clause-known
wait_turn-requires-clause-known c =
    let old : MutexTabled = c.args.self.now.tables in
    let is = sym c.receive_mail.ensures.answer ∙ c.in-Some-None.is ∙ ap (λ o. Some o) c.in-Some-None.field-0-is in
    let kept = c.receive_mail.ensures.state ∙ ap (λ (mailboxes : List Mailbox). record old { mailboxes = mailboxes }) (none-taken old.mailboxes (found_mailbox old.mailboxes c.args.name.now) is) in
    subst (λ (k : MutexTabled). knows k (Call.MbRecv c.copy.result c.args.timeout) ≡ true) (sym kept) (ap (λ (n : List ℕ). is_some (found_mailbox old.mailboxes n)) c.copy.ensures ∙ found-there _ (found_mailbox old.mailboxes c.args.name.now) None is)

pub returns-in-Some-Some : goal.returns-in-Some-Some
returns-in-Some-Some c =
    let old : KernelState = c.args.self.now in
    let s : State = state_of old in
    let is = sym c.receive_mail.ensures.answer ∙ c.in-Some-Some.is ∙ ap (λ o. Some o) c.in-Some-Some.field-0-is in
    let left : MutexTabled = record old.tables { mailboxes = mails_taken s.mailboxes (found_mailbox s.mailboxes c.args.name.now) } in
    let got : MutexTabled → By → State = λ (k : MutexTabled) (by : By). with_value (on old k) by c.in-Some-Some.word in
    does_by (gets s c.args.name.now c.in-Some-Some.word c.args.timeout (plain_by s c.args.by) (plain_attempt c.args.attempt) c.first_at_mailbox-first.result is c.first_at_mailbox-first.ensures.first)
    (does-on old c.take_value.new.self c.wake_first.new.self c.args.out.now c.wake_first.new.out (Answer.Code Code.Ok) 1 (λ (u : State). success (effect_for retry_wake_effect c.first_at_mailbox-first.result u)) (got left (plain_by s c.args.by))
    (c.take_value.ensures.state ∙ ap (λ (k : MutexTabled). got k (plain_by (on old k) c.args.by)) c.receive_mail.ensures.state ∙ ap (got left) (by-same s (on old left) c.args.by refl))
    (c.take_value.ensures.limits ∙ ap limits_of c.receive_mail.ensures.state) (c.take_value.ensures.threads ∙ ap (λ (k : MutexTabled). length k.threads) c.receive_mail.ensures.state) c.take_value.ensures.numbers c.wake_first.ensures.acts)

pub returns-in-Some-None : goal.returns-in-Some-None
returns-in-Some-None c =
    let old : KernelState = c.args.self.now in
    let s : State = state_of old in
    let is = sym c.receive_mail.ensures.answer ∙ c.in-Some-None.is ∙ ap (λ o. Some o) c.in-Some-None.field-0-is in
    let kept = c.receive_mail.ensures.state ∙ ap (λ (mailboxes : List Mailbox). record old.tables { mailboxes = mailboxes }) (none-taken s.mailboxes (found_mailbox s.mailboxes c.args.name.now) is) in
    does_by (sym (finds-none s c.args.name.now c.copy.result c.args.timeout (plain_by s c.args.by) (plain_attempt c.args.attempt) c.copy.ensures is))
    (does-wait old c.wait_turn.new.self c.receive_mail.new.self c.args.out.now c.wait_turn.result 1 (λ (u : State). wait_or_refusal u (plain_by u c.args.by) (plain_attempt c.args.attempt) (Call.MbRecv c.copy.result c.args.timeout) c.args.timeout Code.Timeout)
    kept c.wait_turn.ensures.state c.wait_turn.ensures.answer c.wait_turn.ensures.silent c.wait_turn.ensures.limits c.wait_turn.ensures.threads c.wait_turn.ensures.numbers)
