-- Mailboxes and message queues by number, with who waits at their two ends.
use Rattle.std.specs.Prelude.{ℕ, Bool, List, [], length, slice_set, slice_index_or, nat_lt, Result, Ok, Err, if◌then◌else◌}
use Rattle.susp_list.specs.Rows.{Waits}
use Rattle.ipc_queues.specs.Ends.{PlainEnds, no_ends, end_waits, with_end}
use Rattle.ipc_queues.specs.declared.channels.ChannelKind.{ChannelKind}
use Rattle.ipc_queues.specs.declared.channels.MailSlot.{MailSlot}
use Rattle.ipc_queues.specs.declared.channels.MessageSlot.{MessageSlot}
use Rattle.ipc_queues.specs.declared.ends.End.{End}
use Rattle.ipc_queues.specs.declared.fault.PutFault.{PutFault}
use Rattle.ipc_queues.specs.Queues.{PlainMailbox, PlainMsgQueue}

pub record PlainChannels : Type 0 where
  pub mails : List MailSlot
  pub messages : List MessageSlot

-- what stands where there is none
abbrev pub no_mail : MailSlot
no_mail = record { mailbox = record { words = []; size = 0 }; ends = no_ends }

abbrev pub no_messages : MessageSlot
no_messages = record { queue = record { messages = []; max = 0; size = 0 }; ends = no_ends }

-- the mailbox of a number
abbrev pub mail_at : List MailSlot → ℕ → MailSlot
mail_at mails i = slice_index_or mails i no_mail

-- the queue of a number
abbrev pub messages_at : List MessageSlot → ℕ → MessageSlot
messages_at messages i = slice_index_or messages i no_messages

-- how many there are of a kind
abbrev pub slots_of : PlainChannels → ChannelKind → ℕ
slots_of c ChannelKind.Mailbox = length c.mails
slots_of c ChannelKind.MsgQueue = length c.messages

-- the two ends of one
abbrev pub ends_at : PlainChannels → ChannelKind → ℕ → PlainEnds
ends_at c ChannelKind.Mailbox i = (mail_at c.mails i).ends
ends_at c ChannelKind.MsgQueue i = (messages_at c.messages i).ends

-- who waits at an end of one
abbrev pub waits_at : PlainChannels → ChannelKind → End → ℕ → Waits
waits_at c kind end i = end_waits (ends_at c kind i) end

-- with other ends of one
abbrev pub with_ends : PlainChannels → ChannelKind → ℕ → PlainEnds → PlainChannels
with_ends c ChannelKind.Mailbox i ends = record c { mails = slice_set c.mails i (record (mail_at c.mails i) { ends = ends }) }
with_ends c ChannelKind.MsgQueue i ends = record c { messages = slice_set c.messages i (record (messages_at c.messages i) { ends = ends }) }

-- after a change of who waits at an end of one
abbrev pub changed_at : PlainChannels → ChannelKind → End → ℕ → (Waits → Waits) → PlainChannels
changed_at c kind end i change = with_ends c kind i (with_end (ends_at c kind i) end (change (waits_at c kind end i)).rows)

-- with another mailbox
abbrev pub with_mailbox : PlainChannels → ℕ → PlainMailbox → PlainChannels
with_mailbox c i mailbox = record c { mails = slice_set c.mails i (record (mail_at c.mails i) { mailbox = mailbox }) }

-- with another queue
abbrev pub with_queue : PlainChannels → ℕ → PlainMsgQueue → PlainChannels
with_queue c i queue = record c { messages = slice_set c.messages i (record (messages_at c.messages i) { queue = queue }) }

-- whether a mailbox has room for a word
abbrev pub has_room : PlainMailbox → Bool
has_room mailbox = nat_lt (length mailbox.words) mailbox.size

-- what a queue answers to a message
abbrev pub put_answer : PlainMsgQueue → List ℕ → Result Unit PutFault
put_answer queue message =
    if nat_lt queue.max (length message) then Err (PutFault.TooLong (length message) queue.max)
    else if nat_lt (length queue.messages) queue.size then Ok tt
    else Err PutFault.Full
