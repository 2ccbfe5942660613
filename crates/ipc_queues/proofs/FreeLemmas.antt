-- Slots at whose ends nobody waits.
use Rattle.std.proofs.Common.{◌≡◌, ◌<◌, ℕ, List, [], ◌∷◌, ◌++◌}
use Rattle.std.specs.List.{All}
use Rattle.std.proofs.lemmas.List.Elements.{All-push}
use Rattle.ipc_queues.specs.Channels.{slots_of, ends_at, no_mail, no_messages}
use Rattle.ipc_queues.specs.Ends.{empty_ends}
use Rattle.ipc_queues.specs.declared.channels.ChannelKind.{ChannelKind}
use Rattle.ipc_queues.specs.declared.channels.MailSlot.{MailSlot}
use Rattle.ipc_queues.specs.declared.channels.MessageSlot.{MessageSlot}

-- one slot more
pub mail_more : (mails : List MailSlot) (slot : MailSlot) (threads : ℕ) → All (λ (s : MailSlot). s.ends ≡ empty_ends threads) mails → slot.ends ≡ empty_ends threads → All (λ (s : MailSlot). s.ends ≡ empty_ends threads) (mails ++ slot ∷ [])
mail_more mails slot threads all free = All-push (λ (s : MailSlot). s.ends ≡ empty_ends threads) mails slot all free

pub message_more : (messages : List MessageSlot) (slot : MessageSlot) (threads : ℕ) → All (λ (s : MessageSlot). s.ends ≡ empty_ends threads) messages → slot.ends ≡ empty_ends threads → All (λ (s : MessageSlot). s.ends ≡ empty_ends threads) (messages ++ slot ∷ [])
message_more messages slot threads all free = All-push (λ (s : MessageSlot). s.ends ≡ empty_ends threads) messages slot all free

-- nobody waits at any end
pub all_free : (mails : List MailSlot) (messages : List MessageSlot) (threads : ℕ) → All (λ (s : MailSlot). s.ends ≡ empty_ends threads) mails → All (λ (s : MessageSlot). s.ends ≡ empty_ends threads) messages
    → (kind : ChannelKind) (i : ℕ) → i < slots_of (record { mails = mails; messages = messages }) kind → ends_at (record { mails = mails; messages = messages }) kind i ≡ empty_ends threads
all_free mails messages threads one other ChannelKind.Mailbox i below = one i no_mail below
all_free mails messages threads one other ChannelKind.MsgQueue i below = other i no_messages below
