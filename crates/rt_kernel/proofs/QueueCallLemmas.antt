-- What the calls on message queues do, by what the tables do.
use Rattle.std.proofs.Common.{◌≡◌, ◌++◌, ℕ, ◌<◌, List, [], ◌∷◌, Option, Some, None, Bool, true, false, refl, sym, ap, ◌∙◌, subst, length, filter, drop, not, is_some, slice_get, if◌then◌else◌}
use Rattle.std.specs.Prelude.{Result, Ok, Err}
use Rattle.std.specs.List.{AllByRecursion}
use Rattle.std.specs.Option.{option_map}
use Rattle.std.specs.Str.{bytes_eq}
use Rattle.rt_base.specs.declared.codes.Code.{Code}
use Rattle.rt_plain.specs.declared.stmt.Call.{Call}
use Rattle.rt_plain.specs.kernel.State.{State, MsgQueue}
use Rattle.rt_plain.specs.kernel.Effects.{each_effect, effect_for, retry_wake_effect}
use Rattle.rt_plain.specs.kernel.Waiting.{waiters, first_waiter, head_of, sends_message, receives_message}
use Rattle.rt_plain.specs.kernel.Outcome.{By, Attempt, Outcome, refusal, success, found_outcome, missing_outcome, wait_or_refusal, with_value, with_text}
use Rattle.rt_plain.specs.kernel.QueueCalls.{find_queue, with_queue, has_message_room, is_too_long, message_put_outcome, mq_send, mq_send_outcome, mq_urgent, mq_urgent_outcome, mq_recv, mq_recv_outcome}
use Rattle.rt_plain.specs.kernel.DeleteCall.{deletion_outcome, queue_deletion}
use Rattle.rt_plain.proofs.kernel.TallyLemmas.{all-append}
use Rattle.rt_plain.proofs.text.FieldLemmas.{is_word}
use Rattle.rt_plain.proofs.text.StatementTableLemmas.{find_some}
use Rattle.ipc_queues.specs.declared.ends.End.{End}
use Rattle.ipc_queues.specs.declared.fault.PutFault.{PutFault}
use Rattle.kernel_tables.specs.Tabled.{found_queue, put_queue, messages_put, messages_taken, message_answer, takes_message, all_woken}
use Rattle.mutex_tables.specs.MutexTabled.{MutexTabled}
use Rattle.rt_kernel.specs.Wake.{follow_effect}
use Rattle.rt_kernel.proofs.WakeLemmas.{wakes-follow, line-there}

-- the calls that wait at an end
abbrev waits_at : End → List ℕ → Call → Bool
waits_at End.Receivers name call = receives_message name call
waits_at End.Senders name call = sends_message name call

-- the queues with another row for one, where it took a message
abbrev left_queues : List MsgQueue → MsgQueue → Result Unit PutFault → List MsgQueue
left_queues queues more (Ok done) = put_queue queues more
left_queues queues more (Err fault) = queues

-- what is found by a name has it
pub found-name : (queues : List MsgQueue) (name : List ℕ) (queue : MsgQueue) → found_queue queues name ≡ Some queue → queue.name ≡ name
found-name queues name queue is = is_word queue.name name (find_some (λ (o : MsgQueue). bytes_eq o.name name) queues queue is)

-- what is not there
pub not-there : {A : Type 0} (s : State) (name : List ℕ) (f : MsgQueue → A) (missing : Outcome) (act : MsgQueue → Outcome) → option_map f (found_queue s.queues name) ≡ None → found_outcome (find_queue s name) missing act ≡ missing
not-there {A} s name f missing act = by_found (found_queue s.queues name) where
  by_found : (o : Option MsgQueue) → option_map f o ≡ None → found_outcome o missing act ≡ missing
  by_found None none = refl
  by_found (Some queue) none = absurd cc

-- the first who waits at an end, by the definition
first-is : (s : State) (queue : MsgQueue) (end : End) (first : Option ℕ) → first ≡ head_of (waiters s queue.order (waits_at end queue.name)) → first_waiter s queue.order (waits_at end queue.name) ≡ first
first-is s queue End.Receivers first is = sym is
first-is s queue End.Senders first is = sym is

-- what a queue does with a message, by what it answers to it
abbrev put_by : MsgQueue → List ℕ → Outcome → Outcome → Outcome → Outcome
put_by queue message long put full = if is_too_long queue message then long else if has_message_room queue then put else full

-- the answer tells which it was
abbrev chosen : Outcome → Outcome → Outcome → Result Unit PutFault → Outcome
chosen long put full (Ok done) = put
chosen long put full (Err (PutFault.TooLong len max)) = long
chosen long put full (Err PutFault.Full) = full

choice : (queue : MsgQueue) (message : List ℕ) (long put full : Outcome) → put_by queue message long put full ≡ chosen long put full (message_answer message queue)
choice queue message long put full = by_tests (is_too_long queue message) (has_message_room queue) where
  by_tests : (c d : Bool) → (if c then long else if d then put else full) ≡ chosen long put full (if c then Err (PutFault.TooLong (length message) queue.max) else if d then Ok tt else Err PutFault.Full)
  by_tests true d = refl
  by_tests false true = refl
  by_tests false false = refl

-- the queues after a message
left-by : (queues : List MsgQueue) (message : List ℕ) (more : MsgQueue) (queue : MsgQueue) → (if takes_message message queue then put_queue queues more else queues) ≡ left_queues queues more (message_answer message queue)
left-by queues message more queue = by_tests (is_too_long queue message) (has_message_room queue) where
  by_tests : (c d : Bool) → (if (if c then false else d) then put_queue queues more else queues) ≡ left_queues queues more (if c then Err (PutFault.TooLong (length message) queue.max) else if d then Ok tt else Err PutFault.Full)
  by_tests true d = refl
  by_tests false true = refl
  by_tests false false = refl

-- a message is put, and the first receiver wakes
pub puts : (s : State) (name message : List ℕ) (put : List (List ℕ) → List (List ℕ)) (first : Option ℕ) (missing : Outcome) (long full : MsgQueue → Outcome) (done : Unit {0}) → option_map (message_answer message) (found_queue s.queues name) ≡ Some (Ok done)
    → ((queue : MsgQueue) → found_queue s.queues name ≡ Some queue → first ≡ head_of (waiters s queue.order (receives_message queue.name)))
    → found_outcome (find_queue s name) missing (λ queue. put_by queue message (long queue) (message_put_outcome queue (put queue.messages) s) (full queue)) ≡ success (effect_for retry_wake_effect first (record s { queues = messages_put s.queues message put (found_queue s.queues name) }))
puts s name message put first missing long full done answer is = by_found (found_queue s.queues name) refl answer where
  by_found : (o : Option MsgQueue) → found_queue s.queues name ≡ o → option_map (message_answer message) o ≡ Some (Ok done)
      → found_outcome o missing (λ queue. put_by queue message (long queue) (message_put_outcome queue (put queue.messages) s) (full queue)) ≡ success (effect_for retry_wake_effect first (record s { queues = messages_put s.queues message put o }))
  by_found None found answer = absurd cc
  by_found (Some queue) found answer =
      let is_ok : message_answer message queue ≡ Ok done = cc in
      choice queue message (long queue) (message_put_outcome queue (put queue.messages) s) (full queue)
      ∙ ap (chosen (long queue) (message_put_outcome queue (put queue.messages) s) (full queue)) is_ok
      ∙ ap (λ (o : Option ℕ). success (effect_for retry_wake_effect o (with_queue s more))) (first-is s queue End.Receivers first (is queue found))
      ∙ ap (λ (queues : List MsgQueue). success (effect_for retry_wake_effect first (record s { queues = queues }))) (sym (left-by s.queues message more queue ∙ ap (left_queues s.queues more) is_ok)) where
        more : MsgQueue
        more = record queue { messages = put queue.messages }

-- one that isn't put
pub refuses : (s : State) (name message : List ℕ) (missing : Outcome) (long : Outcome) (put : MsgQueue → Outcome) (full : List ℕ → Outcome) (fault : PutFault) → option_map (message_answer message) (found_queue s.queues name) ≡ Some (Err fault)
    → found_outcome (find_queue s name) missing (λ queue. put_by queue message long (put queue) (full queue.name)) ≡ chosen long (refusal s Code.Ok) (full name) (Err fault)
refuses s name message missing long put full fault answer = by_found (found_queue s.queues name) refl answer where
  by_found : (o : Option MsgQueue) → found_queue s.queues name ≡ o → option_map (message_answer message) o ≡ Some (Err fault) → found_outcome o missing (λ queue. put_by queue message long (put queue) (full queue.name)) ≡ chosen long (refusal s Code.Ok) (full name) (Err fault)
  by_found None found answer = absurd cc
  by_found (Some queue) found answer =
      let is_err : message_answer message queue ≡ Err fault = cc in
      choice queue message long (put queue) (full queue.name) ∙ ap (chosen long (put queue) (full queue.name)) is_err ∙ by_fault fault (found-name s.queues name queue found) where
        by_fault : (f : PutFault) → queue.name ≡ name → chosen long (put queue) (full queue.name) (Err f) ≡ chosen long (refusal s Code.Ok) (full name) (Err f)
        by_fault (PutFault.TooLong len max) same = refl
        by_fault PutFault.Full same = ap full same

pub none-put : (queues : List MsgQueue) (message : List ℕ) (put : List (List ℕ) → List (List ℕ)) (o : Option MsgQueue) (fault : PutFault) → option_map (message_answer message) o ≡ Some (Err fault) → messages_put queues message put o ≡ queues
none-put queues message put None fault answer = absurd cc
none-put queues message put (Some queue) fault answer = let is_err : message_answer message queue ≡ Err fault = cc in left-by queues message (record queue { messages = put queue.messages }) queue ∙ ap (left_queues queues (record queue { messages = put queue.messages })) is_err

-- what stands at the front is taken, and the first sender wakes
pub gets : (s : State) (name : List ℕ) (message : List ℕ) (timeout : Option ℕ) (by : By) (attempt : Attempt) (first : Option ℕ) → option_map (λ (queue : MsgQueue). slice_get queue.messages 0) (found_queue s.queues name) ≡ Some (Some message)
    → ((queue : MsgQueue) → found_queue s.queues name ≡ Some queue → first ≡ head_of (waiters s queue.order (sends_message queue.name)))
    → mq_recv name timeout s by attempt ≡ success (effect_for retry_wake_effect first (with_value (with_text (record s { queues = messages_taken s.queues (found_queue s.queues name) }) by message) by (length message)))
gets s name message timeout by attempt first got is = by_found (found_queue s.queues name) refl got where
  by_found : (o : Option MsgQueue) → found_queue s.queues name ≡ o → option_map (λ (queue : MsgQueue). slice_get queue.messages 0) o ≡ Some (Some message)
      → found_outcome o (missing_outcome s attempt) (λ queue. mq_recv_outcome queue queue.messages timeout s by attempt) ≡ success (effect_for retry_wake_effect first (with_value (with_text (record s { queues = messages_taken s.queues o }) by message) by (length message)))
  by_found None found got = absurd cc
  by_found (Some queue) found got = by_items queue.messages got where
    left : List (List ℕ) → State
    left messages = record s { queues = if is_some (slice_get messages 0) then put_queue s.queues (record queue { messages = drop 1 messages }) else s.queues }

    by_items : (messages : List (List ℕ)) → Some (slice_get messages 0) ≡ Some (Some message) → mq_recv_outcome queue messages timeout s by attempt ≡ success (effect_for retry_wake_effect first (with_value (with_text (left messages) by message) by (length message)))
    by_items [] got = absurd cc
    by_items (front ∷ others) got =
        let same : front ≡ message = cc in
        ap (λ (o : Option ℕ). success (effect_for retry_wake_effect o (with_value (with_text (with_queue s (record queue { messages = others })) by front) by (length front)))) (first-is s queue End.Senders first (is queue found))
        ∙ ap (λ (message : List ℕ). success (effect_for retry_wake_effect first (with_value (with_text (with_queue s (record queue { messages = others })) by message) by (length message)))) same

-- where nothing stands there the call waits, and all stays
pub finds-none : (s : State) (name copy : List ℕ) (timeout : Option ℕ) (by : By) (attempt : Attempt) → copy ≡ name → option_map (λ (queue : MsgQueue). slice_get queue.messages 0) (found_queue s.queues name) ≡ Some None
    → wait_or_refusal s by attempt (Call.MqRecv copy timeout) timeout Code.Timeout ≡ mq_recv name timeout s by attempt
finds-none s name copy timeout by attempt same none = ap waits same ∙ sym (by_found (found_queue s.queues name) refl none) where
  waits : List ℕ → Outcome
  waits n = wait_or_refusal s by attempt (Call.MqRecv n timeout) timeout Code.Timeout

  by_found : (o : Option MsgQueue) → found_queue s.queues name ≡ o → option_map (λ (queue : MsgQueue). slice_get queue.messages 0) o ≡ Some None → found_outcome o (missing_outcome s attempt) (λ queue. mq_recv_outcome queue queue.messages timeout s by attempt) ≡ waits name
  by_found None found none = absurd cc
  by_found (Some queue) found none = by_items queue.messages none where
    by_items : (messages : List (List ℕ)) → Some (slice_get messages 0) ≡ Some None → mq_recv_outcome queue messages timeout s by attempt ≡ waits name
    by_items [] none = ap waits (found-name s.queues name queue found)
    by_items (front ∷ others) none = absurd cc

pub none-taken : (queues : List MsgQueue) (o : Option MsgQueue) → option_map (λ (queue : MsgQueue). slice_get queue.messages 0) o ≡ Some None → messages_taken queues o ≡ queues
none-taken queues None none = absurd cc
none-taken queues (Some queue) none = let empty : slice_get queue.messages 0 ≡ None = cc in ap (λ (front : Option (List ℕ)). if is_some front then put_queue queues (record queue { messages = drop 1 queue.messages }) else queues) empty

-- what a deletion does, and that those who wake are there
pub deletes : (s : State) (name : List ℕ) (woken : List ℕ) → true ≡ is_some (found_queue s.queues name) → ((queue : MsgQueue) → found_queue s.queues name ≡ Some queue → woken ≡ waiters s queue.order (receives_message queue.name) ++ waiters s queue.order (sends_message queue.name))
    → (queue_deletion name s ≡ success (each_effect (follow_effect Code.Error) woken (record s { threads = all_woken Code.Error s.threads woken; ready = s.ready ++ woken; queues = filter (λ o. not (bytes_eq o.name name)) s.queues }))) × AllByRecursion (λ t. t < length s.threads) woken
deletes s name woken there are = by_found (found_queue s.queues name) refl there where
  left : State
  left = record s { queues = filter (λ o. not (bytes_eq o.name name)) s.queues }

  by_found : (o : Option MsgQueue) → found_queue s.queues name ≡ o → true ≡ is_some o
      → (found_outcome o (refusal s Code.Inval) (λ queue. deletion_outcome left (waiters s queue.order (receives_message name) ++ waiters s queue.order (sends_message name))) ≡ success (each_effect (follow_effect Code.Error) woken (record left { threads = all_woken Code.Error s.threads woken; ready = s.ready ++ woken }))) × AllByRecursion (λ t. t < length s.threads) woken
  by_found None is some = absurd cc
  by_found (Some queue) is some = (
    ap (deletion_outcome left) listed ∙ ap success (wakes-follow Code.Error woken left),
    subst (AllByRecursion (λ t. t < length s.threads)) (sym (are queue is)) (all-append (λ t. t < length s.threads) (waiters s queue.order (receives_message queue.name)) (waiters s queue.order (sends_message queue.name)) (line-there s queue.order (receives_message queue.name)) (line-there s queue.order (sends_message queue.name))),
  ) where
    listed : waiters s queue.order (receives_message name) ++ waiters s queue.order (sends_message name) ≡ woken
    listed =
        ap (λ (n : List ℕ). waiters s queue.order (receives_message n) ++ waiters s queue.order (sends_message n)) (sym (found-name s.queues name queue is))
        ∙ sym (are queue is)
