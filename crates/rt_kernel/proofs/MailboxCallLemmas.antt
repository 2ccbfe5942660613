-- What the calls on mailboxes do, by what the tables do.
use Rattle.std.proofs.Common.{◌≡◌, ◌++◌, ℕ, ◌<◌, List, [], ◌∷◌, Option, Some, None, Bool, true, false, refl, sym, ap, ◌∙◌, subst, length, filter, drop, not, is_some, slice_get, if◌then◌else◌}
use Rattle.std.specs.List.{AllByRecursion}
use Rattle.std.specs.Option.{option_map}
use Rattle.std.specs.Str.{bytes_eq}
use Rattle.rt_base.specs.declared.codes.Code.{Code}
use Rattle.rt_plain.specs.declared.stmt.Call.{Call}
use Rattle.rt_plain.specs.kernel.State.{State, Mailbox}
use Rattle.rt_plain.specs.kernel.Effects.{each_effect, effect_for, retry_wake_effect}
use Rattle.rt_plain.specs.kernel.Waiting.{waiters, first_waiter, head_of, sends_mail, receives_mail}
use Rattle.rt_plain.specs.kernel.Outcome.{By, Attempt, Outcome, refusal, success, found_outcome, missing_outcome, wait_or_refusal, with_value}
use Rattle.rt_plain.specs.kernel.MailboxCalls.{find_mailbox, with_mailbox, has_mail_room, mail_put_outcome, mb_recv, mb_recv_outcome}
use Rattle.rt_plain.specs.kernel.DeleteCall.{deletion_outcome, mailbox_deletion}
use Rattle.rt_plain.proofs.kernel.TallyLemmas.{all-append}
use Rattle.rt_plain.proofs.text.FieldLemmas.{is_word}
use Rattle.rt_plain.proofs.text.StatementTableLemmas.{find_some}
use Rattle.ipc_queues.specs.declared.ends.End.{End}
use Rattle.kernel_tables.specs.Tabled.{found_mailbox, put_mailbox, mails_put, mails_taken, all_woken}
use Rattle.mutex_tables.specs.MutexTabled.{MutexTabled}
use Rattle.rt_kernel.specs.Wake.{follow_effect}
use Rattle.rt_kernel.proofs.WakeLemmas.{wakes-follow, line-there}

-- the calls that wait at an end
abbrev waits_at : End → List ℕ → Call → Bool
waits_at End.Receivers name call = receives_mail name call
waits_at End.Senders name call = sends_mail name call

-- what is found by a name has it
pub found-name : (mailboxes : List Mailbox) (name : List ℕ) (mailbox : Mailbox) → found_mailbox mailboxes name ≡ Some mailbox → mailbox.name ≡ name
found-name mailboxes name mailbox is = is_word mailbox.name name (find_some (λ (o : Mailbox). bytes_eq o.name name) mailboxes mailbox is)

-- what is not there
pub not-there : {A : Type 0} (s : State) (name : List ℕ) (f : Mailbox → A) (missing : Outcome) (act : Mailbox → Outcome) → option_map f (found_mailbox s.mailboxes name) ≡ None → found_outcome (find_mailbox s name) missing act ≡ missing
not-there {A} s name f missing act = by_found (found_mailbox s.mailboxes name) where
  by_found : (o : Option Mailbox) → option_map f o ≡ None → found_outcome o missing act ≡ missing
  by_found None none = refl
  by_found (Some mailbox) none = absurd cc

-- the first who waits at an end, by the definition
first-is : (s : State) (mailbox : Mailbox) (end : End) (first : Option ℕ) → first ≡ head_of (waiters s mailbox.order (waits_at end mailbox.name)) → first_waiter s mailbox.order (waits_at end mailbox.name) ≡ first
first-is s mailbox End.Receivers first is = sym is
first-is s mailbox End.Senders first is = sym is

-- a word is put, and the first receiver wakes
pub puts : (s : State) (name : List ℕ) (put : List ℕ → List ℕ) (first : Option ℕ) (missing : Outcome) (full : Mailbox → Outcome) → option_map has_mail_room (found_mailbox s.mailboxes name) ≡ Some true
    → ((mailbox : Mailbox) → found_mailbox s.mailboxes name ≡ Some mailbox → first ≡ head_of (waiters s mailbox.order (receives_mail mailbox.name)))
    → found_outcome (find_mailbox s name) missing (λ mailbox. if has_mail_room mailbox then mail_put_outcome mailbox (put mailbox.words) s else full mailbox) ≡ success (effect_for retry_wake_effect first (record s { mailboxes = mails_put s.mailboxes put (found_mailbox s.mailboxes name) }))
puts s name put first missing full room is = by_found (found_mailbox s.mailboxes name) refl room where
  by_found : (o : Option Mailbox) → found_mailbox s.mailboxes name ≡ o → option_map has_mail_room o ≡ Some true
      → found_outcome o missing (λ mailbox. if has_mail_room mailbox then mail_put_outcome mailbox (put mailbox.words) s else full mailbox) ≡ success (effect_for retry_wake_effect first (record s { mailboxes = mails_put s.mailboxes put o }))
  by_found None found room = absurd cc
  by_found (Some mailbox) found room = by_room (has_mail_room mailbox) cc where
    more : Mailbox
    more = record mailbox { words = put mailbox.words }

    by_room : (c : Bool) → c ≡ true → (if c then mail_put_outcome mailbox (put mailbox.words) s else full mailbox) ≡ success (effect_for retry_wake_effect first (record s { mailboxes = if c then put_mailbox s.mailboxes more else s.mailboxes }))
    by_room true e = ap (λ (o : Option ℕ). success (effect_for retry_wake_effect o (with_mailbox s more))) (first-is s mailbox End.Receivers first (is mailbox found))
    by_room false e = absurd cc

-- a full one takes nothing
pub finds-full : (s : State) (name : List ℕ) (missing : Outcome) (act : Mailbox → Outcome) (full : List ℕ → Outcome) → option_map has_mail_room (found_mailbox s.mailboxes name) ≡ Some false → found_outcome (find_mailbox s name) missing (λ mailbox. if has_mail_room mailbox then act mailbox else full mailbox.name) ≡ full name
finds-full s name missing act full none = by_found (found_mailbox s.mailboxes name) refl none where
  by_found : (o : Option Mailbox) → found_mailbox s.mailboxes name ≡ o → option_map has_mail_room o ≡ Some false → found_outcome o missing (λ mailbox. if has_mail_room mailbox then act mailbox else full mailbox.name) ≡ full name
  by_found None found none = absurd cc
  by_found (Some mailbox) found none = by_room (has_mail_room mailbox) cc where
    by_room : (c : Bool) → c ≡ false → (if c then act mailbox else full mailbox.name) ≡ full name
    by_room true e = absurd cc
    by_room false e = ap full (found-name s.mailboxes name mailbox found)

pub none-put : (mailboxes : List Mailbox) (put : List ℕ → List ℕ) (o : Option Mailbox) → option_map has_mail_room o ≡ Some false → mails_put mailboxes put o ≡ mailboxes
none-put mailboxes put None none = absurd cc
none-put mailboxes put (Some mailbox) none = by_room (has_mail_room mailbox) cc where
  by_room : (c : Bool) → c ≡ false → (if c then put_mailbox mailboxes (record mailbox { words = put mailbox.words }) else mailboxes) ≡ mailboxes
  by_room true e = absurd cc
  by_room false e = refl

-- what stands at the front is taken, and the first sender wakes
pub gets : (s : State) (name : List ℕ) (word : ℕ) (timeout : Option ℕ) (by : By) (attempt : Attempt) (first : Option ℕ) → option_map (λ (mailbox : Mailbox). slice_get mailbox.words 0) (found_mailbox s.mailboxes name) ≡ Some (Some word)
    → ((mailbox : Mailbox) → found_mailbox s.mailboxes name ≡ Some mailbox → first ≡ head_of (waiters s mailbox.order (sends_mail mailbox.name)))
    → mb_recv name timeout s by attempt ≡ success (effect_for retry_wake_effect first (with_value (record s { mailboxes = mails_taken s.mailboxes (found_mailbox s.mailboxes name) }) by word))
gets s name word timeout by attempt first got is = by_found (found_mailbox s.mailboxes name) refl got where
  by_found : (o : Option Mailbox) → found_mailbox s.mailboxes name ≡ o → option_map (λ (mailbox : Mailbox). slice_get mailbox.words 0) o ≡ Some (Some word)
      → found_outcome o (missing_outcome s attempt) (λ mailbox. mb_recv_outcome mailbox mailbox.words timeout s by attempt) ≡ success (effect_for retry_wake_effect first (with_value (record s { mailboxes = mails_taken s.mailboxes o }) by word))
  by_found None found got = absurd cc
  by_found (Some mailbox) found got = by_items mailbox.words got where
    left : List ℕ → State
    left words = record s { mailboxes = if is_some (slice_get words 0) then put_mailbox s.mailboxes (record mailbox { words = drop 1 words }) else s.mailboxes }

    by_items : (words : List ℕ) → Some (slice_get words 0) ≡ Some (Some word) → mb_recv_outcome mailbox words timeout s by attempt ≡ success (effect_for retry_wake_effect first (with_value (left words) by word))
    by_items [] got = absurd cc
    by_items (front ∷ others) got =
        let same : front ≡ word = cc in
        ap (λ (o : Option ℕ). success (effect_for retry_wake_effect o (with_value (with_mailbox s (record mailbox { words = others })) by front))) (first-is s mailbox End.Senders first (is mailbox found))
        ∙ ap (λ (word : ℕ). success (effect_for retry_wake_effect first (with_value (with_mailbox s (record mailbox { words = others })) by word))) same

-- where nothing stands there the call waits, and all stays
pub finds-none : (s : State) (name copy : List ℕ) (timeout : Option ℕ) (by : By) (attempt : Attempt) → copy ≡ name → option_map (λ (mailbox : Mailbox). slice_get mailbox.words 0) (found_mailbox s.mailboxes name) ≡ Some None
    → wait_or_refusal s by attempt (Call.MbRecv copy timeout) timeout Code.Timeout ≡ mb_recv name timeout s by attempt
finds-none s name copy timeout by attempt same none = ap waits same ∙ sym (by_found (found_mailbox s.mailboxes name) refl none) where
  waits : List ℕ → Outcome
  waits n = wait_or_refusal s by attempt (Call.MbRecv n timeout) timeout Code.Timeout

  by_found : (o : Option Mailbox) → found_mailbox s.mailboxes name ≡ o → option_map (λ (mailbox : Mailbox). slice_get mailbox.words 0) o ≡ Some None → found_outcome o (missing_outcome s attempt) (λ mailbox. mb_recv_outcome mailbox mailbox.words timeout s by attempt) ≡ waits name
  by_found None found none = absurd cc
  by_found (Some mailbox) found none = by_items mailbox.words none where
    by_items : (words : List ℕ) → Some (slice_get words 0) ≡ Some None → mb_recv_outcome mailbox words timeout s by attempt ≡ waits name
    by_items [] none = ap waits (found-name s.mailboxes name mailbox found)
    by_items (front ∷ others) none = absurd cc

pub none-taken : (mailboxes : List Mailbox) (o : Option Mailbox) → option_map (λ (mailbox : Mailbox). slice_get mailbox.words 0) o ≡ Some None → mails_taken mailboxes o ≡ mailboxes
none-taken mailboxes None none = absurd cc
none-taken mailboxes (Some mailbox) none = let empty : slice_get mailbox.words 0 ≡ None = cc in ap (λ (front : Option (ℕ)). if is_some front then put_mailbox mailboxes (record mailbox { words = drop 1 mailbox.words }) else mailboxes) empty

-- what a deletion does, and that those who wake are there
pub deletes : (s : State) (name : List ℕ) (woken : List ℕ) → true ≡ is_some (found_mailbox s.mailboxes name) → ((mailbox : Mailbox) → found_mailbox s.mailboxes name ≡ Some mailbox → woken ≡ waiters s mailbox.order (receives_mail mailbox.name) ++ waiters s mailbox.order (sends_mail mailbox.name))
    → (mailbox_deletion name s ≡ success (each_effect (follow_effect Code.Error) woken (record s { threads = all_woken Code.Error s.threads woken; ready = s.ready ++ woken; mailboxes = filter (λ o. not (bytes_eq o.name name)) s.mailboxes }))) × AllByRecursion (λ t. t < length s.threads) woken
deletes s name woken there are = by_found (found_mailbox s.mailboxes name) refl there where
  left : State
  left = record s { mailboxes = filter (λ o. not (bytes_eq o.name name)) s.mailboxes }

  by_found : (o : Option Mailbox) → found_mailbox s.mailboxes name ≡ o → true ≡ is_some o
      → (found_outcome o (refusal s Code.Inval) (λ mailbox. deletion_outcome left (waiters s mailbox.order (receives_mail name) ++ waiters s mailbox.order (sends_mail name))) ≡ success (each_effect (follow_effect Code.Error) woken (record left { threads = all_woken Code.Error s.threads woken; ready = s.ready ++ woken }))) × AllByRecursion (λ t. t < length s.threads) woken
  by_found None is some = absurd cc
  by_found (Some mailbox) is some = (
    ap (deletion_outcome left) listed ∙ ap success (wakes-follow Code.Error woken left),
    subst (AllByRecursion (λ t. t < length s.threads)) (sym (are mailbox is)) (all-append (λ t. t < length s.threads) (waiters s mailbox.order (receives_mail mailbox.name)) (waiters s mailbox.order (sends_mail mailbox.name)) (line-there s mailbox.order (receives_mail mailbox.name)) (line-there s mailbox.order (sends_mail mailbox.name))),
  ) where
    listed : waiters s mailbox.order (receives_mail name) ++ waiters s mailbox.order (sends_mail name) ≡ woken
    listed =
        ap (λ (n : List ℕ). waiters s mailbox.order (receives_mail n) ++ waiters s mailbox.order (sends_mail n)) (sym (found-name s.mailboxes name mailbox is))
        ∙ sym (are mailbox is)
