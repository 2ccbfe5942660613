-- The calls on mailboxes and message queues change no base priority, so they settle to themselves.
use Rattle.std.proofs.Common.{◌≡◌, ℕ, List, [], ◌∷◌, ◌++◌, Option, Some, None, true, refl, length, not, filter}
use Rattle.std.specs.List.{AllByRecursion}
use Rattle.std.specs.Str.{bytes_eq}
use Rattle.rt_base.specs.declared.codes.Code.{Code}
use Rattle.rt_plain.specs.declared.stmt.Call.{Call}
use Rattle.rt_plain.specs.kernel.State.{State, Mailbox, MsgQueue, OfThread, thread_at, with_thread}
use Rattle.rt_plain.specs.kernel.Effects.{active_state, due_of, effect_for, retry_of, retry_wake_effect}
use Rattle.rt_plain.specs.kernel.Waiting.{waiters, first_waiter, sends_mail, receives_mail, sends_message, receives_message}
use Rattle.rt_plain.specs.kernel.Outcome.{By, Attempt, refusal, with_value, with_text, missing_outcome, wait_or_refusal}
use Rattle.rt_plain.specs.kernel.MailboxCalls.{find_mailbox, with_mailbox, has_mail_room, mail_put_outcome, mb_send, mb_urgent, mb_recv, mb_recv_outcome}
use Rattle.rt_plain.specs.kernel.QueueCalls.{find_queue, with_queue, has_message_room, is_too_long, message_put_outcome, mq_send, mq_urgent, mq_recv, mq_recv_outcome}
use Rattle.rt_plain.specs.kernel.DeleteCall.{mailbox_deletion, queue_deletion}
use Rattle.rt_kernel.proofs.ObjectQuiet.{quiet-deleted, quiet-missing, quiet-text, quiet-turn, quiet-value}
use Rattle.rt_kernel.proofs.Quiet.{ForNoMutex, IsApart, IsLively, IsQuiet, IsQuietCall, apart-kept, first-apart, quiet-else, quiet-self, quiet-then, quiet-row, quiet-active, quiet-found, quiet-if, waiters-apart}

-- the calls of each list wait for no mutex
receiver-lists : (name : List ℕ) → ForNoMutex (receives_mail name)
receiver-lists name (Call.MbRecv other timeout) is = refl
receiver-lists name _ is = absurd cc

sender-lists : (name : List ℕ) → ForNoMutex (sends_mail name)
sender-lists name (Call.MbSend other word timeout) is = refl
sender-lists name _ is = absurd cc

reader-lists : (name : List ℕ) → ForNoMutex (receives_message name)
reader-lists name (Call.MqRecv other timeout) is = refl
reader-lists name _ is = absurd cc

writer-lists : (name : List ℕ) → ForNoMutex (sends_message name)
writer-lists name (Call.MqSend other timeout message) is = refl
writer-lists name _ is = absurd cc

-- other objects alone
quiet-mailboxes : (s : State) (mailboxes : List Mailbox) → IsQuiet s (record s { mailboxes = mailboxes })
quiet-mailboxes s mailboxes = quiet-else s (record s { mailboxes = mailboxes }) refl refl refl refl

quiet-queues : (s : State) (queues : List MsgQueue) → IsQuiet s (record s { queues = queues })
quiet-queues s queues = quiet-else s (record s { queues = queues }) refl refl refl refl

-- the first waiter wakes to make its call again
pub quiet-retry : (s : State) (first : Option ℕ) → ((t : ℕ) → first ≡ Some t → IsApart s t) → IsQuiet s (effect_for retry_wake_effect first s).state
quiet-retry s None apart = quiet-self s
quiet-retry s (Some t) apart =
    let noted : State = with_thread s t (record (thread_at s t) { retry = retry_of (thread_at s t).stage (due_of s (OfThread t)) }) in
    let one : IsQuiet s noted = quiet-row s t (record (thread_at s t) { retry = retry_of (thread_at s t).stage (due_of s (OfThread t)) }) refl refl refl in
    quiet-then s noted (active_state noted t) one (quiet-active noted t (apart-kept s noted t one (apart t refl)))

quiet-then-retry : (s mid : State) (first : Option ℕ) → IsQuiet s mid → ((t : ℕ) → first ≡ Some t → IsApart s t) → IsQuiet s (effect_for retry_wake_effect first mid).state
quiet-then-retry s mid first quiet apart = quiet-then s mid _ quiet (quiet-retry mid first (λ t is. apart-kept s mid t quiet (apart t is)))

quiet-mail_put : (s : State) (mailbox : Mailbox) (words : List ℕ) → IsQuietCall s (mail_put_outcome mailbox words s)
quiet-mail_put s mailbox words = quiet-then-retry s (with_mailbox s (record mailbox { words = words })) (first_waiter s mailbox.order (receives_mail mailbox.name)) (quiet-mailboxes s (with_mailbox s (record mailbox { words = words })).mailboxes) (λ t is. first-apart s mailbox.order (receives_mail mailbox.name) t (receiver-lists mailbox.name) is)

pub quiet-mb_send : (s : State) (name : List ℕ) (word : ℕ) (timeout : Option ℕ) (by : By) (attempt : Attempt) → IsLively s by → IsQuietCall s (mb_send name word timeout s by attempt)
quiet-mb_send s name word timeout by attempt on =
    quiet-found s (find_mailbox s name) (missing_outcome s attempt) _ (quiet-missing s attempt) (λ mailbox.
    quiet-if s (has_mail_room mailbox) (mail_put_outcome mailbox (mailbox.words ++ word ∷ []) s) (wait_or_refusal s by attempt (Call.MbSend mailbox.name word timeout) timeout Code.Full)
    (quiet-mail_put s mailbox (mailbox.words ++ word ∷ [])) (quiet-turn s by attempt (Call.MbSend mailbox.name word timeout) timeout Code.Full on refl))

pub quiet-mb_urgent : (s : State) (name : List ℕ) (word : ℕ) → IsQuietCall s (mb_urgent name word s)
quiet-mb_urgent s name word =
    quiet-found s (find_mailbox s name) (refusal s Code.Inval) _ (quiet-self s) (λ mailbox.
    quiet-if s (has_mail_room mailbox) (mail_put_outcome mailbox (word ∷ mailbox.words) s) (refusal s Code.Full) (quiet-mail_put s mailbox (word ∷ mailbox.words)) (quiet-self s))

pub quiet-mb_recv : (s : State) (name : List ℕ) (timeout : Option ℕ) (by : By) (attempt : Attempt) → IsLively s by → IsQuietCall s (mb_recv name timeout s by attempt)
quiet-mb_recv s name timeout by attempt on = quiet-found s (find_mailbox s name) (missing_outcome s attempt) _ (quiet-missing s attempt) (λ mailbox. by_words mailbox mailbox.words) where
  by_words : (mailbox : Mailbox) (words : List ℕ) → IsQuietCall s (mb_recv_outcome mailbox words timeout s by attempt)
  by_words mailbox [] = quiet-turn s by attempt (Call.MbRecv mailbox.name timeout) timeout Code.Timeout on refl
  by_words mailbox (word ∷ words) =
      let left : State = with_mailbox s (record mailbox { words = words }) in
      quiet-then-retry s (with_value left by word) (first_waiter s mailbox.order (sends_mail mailbox.name)) (quiet-then s left _ (quiet-mailboxes s left.mailboxes) (quiet-value left by word)) (λ t is. first-apart s mailbox.order (sends_mail mailbox.name) t (sender-lists mailbox.name) is)

quiet-message_put : (s : State) (queue : MsgQueue) (messages : List (List ℕ)) → IsQuietCall s (message_put_outcome queue messages s)
quiet-message_put s queue messages = quiet-then-retry s (with_queue s (record queue { messages = messages })) (first_waiter s queue.order (receives_message queue.name)) (quiet-queues s (with_queue s (record queue { messages = messages })).queues) (λ t is. first-apart s queue.order (receives_message queue.name) t (reader-lists queue.name) is)

pub quiet-mq_send : (s : State) (name message : List ℕ) (timeout : Option ℕ) (by : By) (attempt : Attempt) → IsLively s by → IsQuietCall s (mq_send name message timeout s by attempt)
quiet-mq_send s name message timeout by attempt on =
    quiet-found s (find_queue s name) (missing_outcome s attempt) _ (quiet-missing s attempt) (λ queue.
    quiet-if s (is_too_long queue message) (refusal s Code.Error) _ (quiet-self s)
    (quiet-if s (has_message_room queue) (message_put_outcome queue (queue.messages ++ message ∷ []) s) (wait_or_refusal s by attempt (Call.MqSend queue.name timeout message) timeout Code.Full)
    (quiet-message_put s queue (queue.messages ++ message ∷ [])) (quiet-turn s by attempt (Call.MqSend queue.name timeout message) timeout Code.Full on refl)))

pub quiet-mq_urgent : (s : State) (name message : List ℕ) → IsQuietCall s (mq_urgent name message s)
quiet-mq_urgent s name message =
    quiet-found s (find_queue s name) (refusal s Code.Inval) _ (quiet-self s) (λ queue.
    quiet-if s (is_too_long queue message) (refusal s Code.Error) _ (quiet-self s)
    (quiet-if s (has_message_room queue) (message_put_outcome queue (message ∷ queue.messages) s) (refusal s Code.Full) (quiet-message_put s queue (message ∷ queue.messages)) (quiet-self s)))

pub quiet-mq_recv : (s : State) (name : List ℕ) (timeout : Option ℕ) (by : By) (attempt : Attempt) → IsLively s by → IsQuietCall s (mq_recv name timeout s by attempt)
quiet-mq_recv s name timeout by attempt on = quiet-found s (find_queue s name) (missing_outcome s attempt) _ (quiet-missing s attempt) (λ queue. by_messages queue queue.messages) where
  by_messages : (queue : MsgQueue) (messages : List (List ℕ)) → IsQuietCall s (mq_recv_outcome queue messages timeout s by attempt)
  by_messages queue [] = quiet-turn s by attempt (Call.MqRecv queue.name timeout) timeout Code.Timeout on refl
  by_messages queue (message ∷ messages) =
      let left : State = with_queue s (record queue { messages = messages }) in
      let read : State = with_text left by message in
      quiet-then-retry s (with_value read by (length message)) (first_waiter s queue.order (sends_message queue.name))
      (quiet-then s left _ (quiet-queues s left.queues) (quiet-then left read _ (quiet-text left by message) (quiet-value read by (length message)))) (λ t is. first-apart s queue.order (sends_message queue.name) t (writer-lists queue.name) is)

-- the threads of two lists
all-both : (P : ℕ → Type 0) (ts us : List ℕ) → AllByRecursion P ts → AllByRecursion P us → AllByRecursion P (ts ++ us)
all-both P [] us one two = two
all-both P (t ∷ ts) us one two = (one.0, all-both P ts us one.1 two)

pub quiet-mailbox_deletion : (s : State) (name : List ℕ) → IsQuietCall s (mailbox_deletion name s)
quiet-mailbox_deletion s name =
    let left : State = record s { mailboxes = filter (λ o. not (bytes_eq o.name name)) s.mailboxes } in
    quiet-found s (find_mailbox s name) (refusal s Code.Inval) _ (quiet-self s) (λ mailbox. quiet-deleted s left (waiters s mailbox.order (receives_mail name) ++ waiters s mailbox.order (sends_mail name)) (quiet-mailboxes s left.mailboxes)
    (all-both (IsApart s) (waiters s mailbox.order (receives_mail name)) (waiters s mailbox.order (sends_mail name)) (waiters-apart s mailbox.order (receives_mail name) (receiver-lists name)) (waiters-apart s mailbox.order (sends_mail name) (sender-lists name))))

pub quiet-queue_deletion : (s : State) (name : List ℕ) → IsQuietCall s (queue_deletion name s)
quiet-queue_deletion s name =
    let left : State = record s { queues = filter (λ o. not (bytes_eq o.name name)) s.queues } in
    quiet-found s (find_queue s name) (refusal s Code.Inval) _ (quiet-self s) (λ queue. quiet-deleted s left (waiters s queue.order (receives_message name) ++ waiters s queue.order (sends_message name)) (quiet-queues s left.queues)
    (all-both (IsApart s) (waiters s queue.order (receives_message name)) (waiters s queue.order (sends_message name)) (waiters-apart s queue.order (receives_message name) (reader-lists name)) (waiters-apart s queue.order (sends_message name) (writer-lists name))))
