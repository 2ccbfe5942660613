-- The calls on message queues.
use Rattle.std.specs.Prelude.{ℕ, Bool, List, [], ◌∷◌, ◌++◌, Option, map, length, nat_lt, if◌then◌else◌}
use Rattle.std.specs.List.{find}
use Rattle.std.specs.Str.{bytes_eq}
use Rattle.rt_base.specs.declared.codes.Code.{Code}
use Rattle.rt_plain.specs.declared.stmt.Call.{Call}
use Rattle.rt_plain.specs.kernel.State.{State, MsgQueue}
use Rattle.rt_plain.specs.kernel.Waiting.{first_waiter, sends_message, receives_message}
use Rattle.rt_plain.specs.kernel.Effects.{retry_wake_effect, effect_for}
use Rattle.rt_plain.specs.kernel.Outcome.{By, Attempt, First, Outcome, refusal, success, with_value, with_text, wait_or_refusal, missing_outcome, found_outcome}

-- the queue of a name
abbrev pub find_queue : State → List ℕ → Option MsgQueue
find_queue s name = find (λ o. bytes_eq o.name name) s.queues

-- the state with another row for a queue
abbrev pub with_queue : State → MsgQueue → State
with_queue s queue = record s { queues = map (λ o. if bytes_eq o.name queue.name then queue else o) s.queues }

-- whether a queue has room for a message
abbrev pub has_message_room : MsgQueue → Bool
has_message_room queue = nat_lt (length queue.messages) queue.size

-- whether a message is longer than the queue allows
abbrev pub is_too_long : MsgQueue → List ℕ → Bool
is_too_long queue message = nat_lt queue.max (length message)

-- the queue holds these messages, and the first waiting receiver is woken to receive again
abbrev pub message_put_outcome : MsgQueue → List (List ℕ) → State → Outcome
message_put_outcome queue messages s = success (effect_for retry_wake_effect (first_waiter s queue.order (receives_message queue.name)) (with_queue s (record queue { messages = messages })))

-- a message that is too long is refused; it goes to the end where there is room, and else the call waits
abbrev pub mq_send_outcome : MsgQueue → List ℕ → Option ℕ → State → By → Attempt → Outcome
mq_send_outcome queue message timeout s by attempt =
    if is_too_long queue message then refusal s Code.Error
    else if has_message_room queue then message_put_outcome queue (queue.messages ++ message ∷ []) s
    else wait_or_refusal s by attempt (Call.MqSend queue.name timeout message) timeout Code.Full

-- mq_send: to the queue of a name
abbrev pub mq_send : List ℕ → List ℕ → Option ℕ → State → By → Attempt → Outcome
mq_send name message timeout s by attempt = found_outcome (find_queue s name) (missing_outcome s attempt) (λ queue. mq_send_outcome queue message timeout s by attempt)

-- a message that is too long is refused; it goes to the front where there is room, and never waits
abbrev pub mq_urgent_outcome : MsgQueue → List ℕ → State → Outcome
mq_urgent_outcome queue message s =
    if is_too_long queue message then refusal s Code.Error
    else if has_message_room queue then message_put_outcome queue (message ∷ queue.messages) s
    else refusal s Code.Full

-- mq_urgent: to the queue of a name
abbrev pub mq_urgent : List ℕ → List ℕ → State → Outcome
mq_urgent name message s = found_outcome (find_queue s name) (missing_outcome s First) (λ queue. mq_urgent_outcome queue message s)

-- the front message is the text and its length the value, and the first waiting sender is woken to send again; an empty queue is waited for
abbrev pub mq_recv_outcome : MsgQueue → List (List ℕ) → Option ℕ → State → By → Attempt → Outcome
mq_recv_outcome queue [] timeout s by attempt = wait_or_refusal s by attempt (Call.MqRecv queue.name timeout) timeout Code.Timeout
mq_recv_outcome queue (message ∷ messages) timeout s by attempt = success (effect_for retry_wake_effect (first_waiter s queue.order (sends_message queue.name)) (with_value (with_text (with_queue s (record queue { messages = messages })) by message) by (length message)))

-- mq_recv: from the queue of a name
abbrev pub mq_recv : List ℕ → Option ℕ → State → By → Attempt → Outcome
mq_recv name timeout s by attempt = found_outcome (find_queue s name) (missing_outcome s attempt) (λ queue. mq_recv_outcome queue queue.messages timeout s by attempt)
