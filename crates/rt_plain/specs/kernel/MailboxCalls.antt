-- The calls on mailboxes.
use Rattle.std.specs.Prelude.{ℕ, Bool, List, [], ◌∷◌, ◌++◌, Option, map, length, nat_lt, if◌then◌else◌}
use Rattle.std.specs.List.{find}
use Rattle.std.specs.Str.{bytes_eq}
use Rattle.rt_base.specs.declared.codes.Code.{Code}
use Rattle.rt_plain.specs.declared.stmt.Call.{Call}
use Rattle.rt_plain.specs.kernel.State.{State, Mailbox}
use Rattle.rt_plain.specs.kernel.Waiting.{first_waiter, sends_mail, receives_mail}
use Rattle.rt_plain.specs.kernel.Effects.{retry_wake_effect, effect_for}
use Rattle.rt_plain.specs.kernel.Outcome.{By, Attempt, First, Outcome, refusal, success, with_value, wait_or_refusal, missing_outcome, found_outcome}

-- the mailbox of a name
abbrev pub find_mailbox : State → List ℕ → Option Mailbox
find_mailbox s name = find (λ o. bytes_eq o.name name) s.mailboxes

-- the state with another row for a mailbox
abbrev pub with_mailbox : State → Mailbox → State
with_mailbox s mailbox = record s { mailboxes = map (λ o. if bytes_eq o.name mailbox.name then mailbox else o) s.mailboxes }

-- whether a mailbox has room for a word
abbrev pub has_mail_room : Mailbox → Bool
has_mail_room mailbox = nat_lt (length mailbox.words) mailbox.size

-- the mailbox holds these words, and the first waiting receiver is woken to receive again
abbrev pub mail_put_outcome : Mailbox → List ℕ → State → Outcome
mail_put_outcome mailbox words s = success (effect_for retry_wake_effect (first_waiter s mailbox.order (receives_mail mailbox.name)) (with_mailbox s (record mailbox { words = words })))

-- the word goes to the end where there is room, and else the call waits
abbrev pub mb_send_outcome : Mailbox → ℕ → Option ℕ → State → By → Attempt → Outcome
mb_send_outcome mailbox word timeout s by attempt =
    if has_mail_room mailbox then mail_put_outcome mailbox (mailbox.words ++ word ∷ []) s
    else wait_or_refusal s by attempt (Call.MbSend mailbox.name word timeout) timeout Code.Full

-- mb_send: to the mailbox of a name
abbrev pub mb_send : List ℕ → ℕ → Option ℕ → State → By → Attempt → Outcome
mb_send name word timeout s by attempt = found_outcome (find_mailbox s name) (missing_outcome s attempt) (λ mailbox. mb_send_outcome mailbox word timeout s by attempt)

-- mb_urgent: at the front, without a wait
abbrev pub mb_urgent : List ℕ → ℕ → State → Outcome
mb_urgent name word s = found_outcome (find_mailbox s name) (missing_outcome s First) (λ mailbox. if has_mail_room mailbox then mail_put_outcome mailbox (word ∷ mailbox.words) s else refusal s Code.Full)

-- the front word is the value, and the first waiting sender is woken to send again; an empty mailbox is waited for
abbrev pub mb_recv_outcome : Mailbox → List ℕ → Option ℕ → State → By → Attempt → Outcome
mb_recv_outcome mailbox [] timeout s by attempt = wait_or_refusal s by attempt (Call.MbRecv mailbox.name timeout) timeout Code.Timeout
mb_recv_outcome mailbox (word ∷ words) timeout s by attempt = success (effect_for retry_wake_effect (first_waiter s mailbox.order (sends_mail mailbox.name)) (with_value (with_mailbox s (record mailbox { words = words })) by word))

-- mb_recv: from the mailbox of a name
abbrev pub mb_recv : List ℕ → Option ℕ → State → By → Attempt → Outcome
mb_recv name timeout s by attempt = found_outcome (find_mailbox s name) (missing_outcome s attempt) (λ mailbox. mb_recv_outcome mailbox mailbox.words timeout s by attempt)
