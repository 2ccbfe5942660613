-- What mailboxes and message queues are: lists that hold so many items at most.
use Rattle.std.specs.Prelude.{ℕ, ◌≡◌, ◌<◌, ◌≤◌, List, length}
use Rattle.ipc_queues.specs.declared.fault.PutFault.{PutFault}

-- the words of a mailbox from the front on, and how many it may hold
pub record PlainMailbox : Type 0 where
  pub words : List ℕ
  pub size : ℕ

-- the messages of a queue from the front on, how long each may be, and how many it may hold
pub record PlainMsgQueue : Type 0 where
  pub messages : List (List ℕ)
  pub max : ℕ
  pub size : ℕ

-- the message isn't too long, and there is room for it
abbrev pub Takes : PlainMsgQueue → List ℕ → Type 0
Takes queue message = (length message ≤ queue.max) × (length queue.messages < queue.size)

-- why a message is refused: first it is too long, and then there is no room
abbrev pub IsCause : PlainMsgQueue → List ℕ → PutFault → Type 0
IsCause queue message (PutFault.TooLong len max) =
    (queue.max < length message) × (len ≡ length message) × (max ≡ queue.max)
IsCause queue message PutFault.Full =
    (length message ≤ queue.max) × (length queue.messages ≡ queue.size)
