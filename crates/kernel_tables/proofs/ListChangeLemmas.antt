-- What a change of one wait list leaves.
use Rattle.std.proofs.Common.{◌≡◌, ◌≢◌, ℕ, zero, suc, ◌<◌, List, [], ◌∷◌, Option, Some, None, Bool, true, false, refl, sym, ap, ◌∙◌, subst, length, map, slice_get, slice_set, slice_index_or, IfSome, eqb}
use Rattle.std.specs.Prelude.{if◌then◌else◌}
use Rattle.std.proofs.lemmas.List.{length-set, set-get_or}
use Rattle.std.proofs.lemmas.Bool.{eqb-true, eqb-false}
use Rattle.rt_base.specs.declared.codes.WaitOrder.{WaitOrder}
use Rattle.susp_list.specs.Rows.{Waits}
use Rattle.susp_list.specs.declared.row.Row.{Row as WaitRow}
use Rattle.object_box.specs.declared.object.Object.{Object}
use Rattle.object_box.specs.Classes.{AllObjects}
use Rattle.ipc_counts.specs.Counted.{Counted}
use Rattle.ipc_counts.specs.Flags.{Flagged}
use Rattle.ipc_counts.specs.declared.want.Want.{Want}
use Rattle.ipc_queues.specs.Channels.{PlainChannels, mail_at, messages_at, no_mail, no_messages, slots_of, waits_at, changed_at}
use Rattle.ipc_queues.specs.Ends.{PlainEnds, end_waits, with_end}
use Rattle.ipc_queues.specs.declared.channels.ChannelKind.{ChannelKind}
use Rattle.ipc_queues.specs.declared.channels.MailSlot.{MailSlot}
use Rattle.ipc_queues.specs.declared.channels.MessageSlot.{MessageSlot}
use Rattle.ipc_queues.specs.declared.ends.End.{End}
use Rattle.kernel_tables.specs.declared.lists.Lists.{Lists}
use Rattle.kernel_tables.specs.declared.wait_list.WaitList.{WaitList}
use Rattle.kernel_tables.specs.Listed.{sem_at, event_at, plain_sem, plain_event, plain_mailbox, plain_queue, channels_with, waits_in, slots_in, wants_in, waits_with, sems_with, events_with, events_joined, joined, IsRelisted, IsJoined, IsShownAs, no_waits}
use Rattle.kernel_tables.proofs.TiedLemmas.{set-here, set-there}

-- the slots of the two classes
abbrev pub no_sem : Counted
no_sem = record { value = 0; waiters = no_waits }

abbrev pub no_event : Flagged
no_event = record { flags = 0; waiters = no_waits; wants = [] }

-- the part of a place that a write keeps
pub set-part : {A P : Type 0} (part : A → P) (xs : List A) (i j : ℕ) (x d : A) → part x ≡ part (slice_index_or xs j d) → part (slice_index_or (slice_set xs j x) i d) ≡ part (slice_index_or xs i d)
set-part part [] i j x d same = refl
set-part part (y ∷ ys) zero zero x d same = same
set-part part (y ∷ ys) zero (suc j) x d same = refl
set-part part (y ∷ ys) (suc i) zero x d same = refl
set-part part (y ∷ ys) (suc i) (suc j) x d same = set-part part ys i j x d same

-- the waiters of a place after a write
slot-waits : {S : Type 0} (w : S → Waits) (slots : List S) (d x : S) (list : WaitList) (i j : ℕ) (new : Waits) → w x ≡ new → j < length slots → w (slice_index_or (slice_set slots j x) i d) ≡ (if eqb i j then new else w (slice_index_or slots i d))
slot-waits w slots d x list i j new is there = by_test (eqb i j) refl where
  by_test : (c : Bool) → eqb i j ≡ c → w (slice_index_or (slice_set slots j x) i d) ≡ (if c then new else w (slice_index_or slots i d))
  by_test true e = ap (λ k. w (slice_index_or (slice_set slots j x) k d)) (eqb-true i j e) ∙ ap w (set-here slots j x d there) ∙ is
  by_test false e = ap w (set-there slots i j x d (eqb-false i j e))

-- whether the list is there
abbrev pub IsWithin : Lists → Option (WaitList × ℕ) → Type 0
IsWithin l at = IfSome at (λ p. p.1 < slots_in l p.0)

-- the change that is made at the place of another number
at-number : (waits : ℕ → Waits) (change : Waits → Waits) (i j : ℕ) → (if eqb i j then change (waits j) else waits i) ≡ (if eqb i j then change (waits i) else waits i)
at-number waits change i j = by_test (eqb i j) refl where
  by_test : (c : Bool) → eqb i j ≡ c → (if c then change (waits j) else waits i) ≡ (if c then change (waits i) else waits i)
  by_test true e = ap (λ k. change (waits k)) (sym (eqb-true i j e))
  by_test false e = refl

sems-waits : (l : Lists) (at : Option (WaitList × ℕ)) (change : Waits → Waits) → IsWithin l at → (i : ℕ) → (sem_at (sems_with l.sems.items at change) i).waiters ≡ waits_with at change (waits_in l) WaitList.Sem i
sems-waits l None change within i = refl
sems-waits l (Some (WaitList.Sem, j)) change within i =
    slot-waits (λ (c : Counted). c.waiters) l.sems.items no_sem (record (sem_at l.sems.items j) { waiters = change (sem_at l.sems.items j).waiters }) WaitList.Sem i j (change (sem_at l.sems.items j).waiters) refl within
    ∙ at-number (waits_in l WaitList.Sem) change i j
sems-waits l (Some (WaitList.Event, j)) change within i = refl
sems-waits l (Some (WaitList.Channel ChannelKind.Mailbox End.Receivers, j)) change within i = refl
sems-waits l (Some (WaitList.Channel ChannelKind.Mailbox End.Senders, j)) change within i = refl
sems-waits l (Some (WaitList.Channel ChannelKind.MsgQueue End.Receivers, j)) change within i = refl
sems-waits l (Some (WaitList.Channel ChannelKind.MsgQueue End.Senders, j)) change within i = refl

events-waits : (l : Lists) (at : Option (WaitList × ℕ)) (change : Waits → Waits) → IsWithin l at → (i : ℕ) → (event_at (events_with l.events.items at change) i).waiters ≡ waits_with at change (waits_in l) WaitList.Event i
events-waits l None change within i = refl
events-waits l (Some (WaitList.Sem, j)) change within i = refl
events-waits l (Some (WaitList.Channel ChannelKind.Mailbox End.Receivers, j)) change within i = refl
events-waits l (Some (WaitList.Channel ChannelKind.Mailbox End.Senders, j)) change within i = refl
events-waits l (Some (WaitList.Channel ChannelKind.MsgQueue End.Receivers, j)) change within i = refl
events-waits l (Some (WaitList.Channel ChannelKind.MsgQueue End.Senders, j)) change within i = refl
events-waits l (Some (WaitList.Event, j)) change within i =
    slot-waits (λ (e : Flagged). e.waiters) l.events.items no_event (record (event_at l.events.items j) { waiters = change (event_at l.events.items j).waiters }) WaitList.Event i j (change (event_at l.events.items j).waiters) refl within
    ∙ at-number (waits_in l WaitList.Event) change i j

map-same : {A B : Type 0} (f g : A → B) → ((x : A) → f x ≡ g x) → (xs : List A) → map f xs ≡ map g xs
map-same f g same [] = refl
map-same {B = B} f g same (x ∷ xs) = ap (λ (y : B). y ∷ map f xs) (same x) ∙ ap (λ (ys : List B). g x ∷ ys) (map-same f g same xs)

-- who waits at an end after a change there
with-order : (order : WaitOrder) (w : Waits) → w.order ≡ order → record { order = order; rows = w.rows } ≡ w
with-order order w same = ap (λ (o : WaitOrder). record { order = o; rows = w.rows }) (sym same)

end-changed : (x : PlainEnds) (end : End) (change : Waits → Waits) → ((w : Waits) → (change w).order ≡ w.order) → end_waits (with_end x end (change (end_waits x end)).rows) end ≡ change (end_waits x end)
end-changed x End.Receivers change orders = with-order x.order (change (end_waits x End.Receivers)) (orders (end_waits x End.Receivers))
end-changed x End.Senders change orders = with-order x.order (change (end_waits x End.Senders)) (orders (end_waits x End.Senders))

end-order : (x : PlainEnds) (end : End) (rows : List (Option WaitRow)) → (with_end x end rows).order ≡ x.order
end-order x End.Receivers rows = refl
end-order x End.Senders rows = refl

-- the end of a number after the change
mails-here : (l : Lists) (end : End) (j : ℕ) (change : Waits → Waits) → ((w : Waits) → (change w).order ≡ w.order) → j < length l.channels.mails → (i : ℕ)
    → waits_at (changed_at l.channels ChannelKind.Mailbox end j change) ChannelKind.Mailbox end i ≡ (if eqb i j then change (waits_at l.channels ChannelKind.Mailbox end i) else waits_at l.channels ChannelKind.Mailbox end i)
mails-here l end j change orders within i =
    let slot : MailSlot = mail_at l.channels.mails j in
    slot-waits (λ (s : MailSlot). end_waits s.ends end) l.channels.mails no_mail (record slot { ends = with_end slot.ends end (change (end_waits slot.ends end)).rows }) (WaitList.Channel ChannelKind.Mailbox end) i j (change (end_waits slot.ends end)) (end-changed slot.ends end change orders) within
    ∙ at-number (waits_at l.channels ChannelKind.Mailbox end) change i j

messages-here : (l : Lists) (end : End) (j : ℕ) (change : Waits → Waits) → ((w : Waits) → (change w).order ≡ w.order) → j < length l.channels.messages → (i : ℕ)
    → waits_at (changed_at l.channels ChannelKind.MsgQueue end j change) ChannelKind.MsgQueue end i ≡ (if eqb i j then change (waits_at l.channels ChannelKind.MsgQueue end i) else waits_at l.channels ChannelKind.MsgQueue end i)
messages-here l end j change orders within i =
    let slot : MessageSlot = messages_at l.channels.messages j in
    slot-waits (λ (s : MessageSlot). end_waits s.ends end) l.channels.messages no_messages (record slot { ends = with_end slot.ends end (change (end_waits slot.ends end)).rows }) (WaitList.Channel ChannelKind.MsgQueue end) i j (change (end_waits slot.ends end)) (end-changed slot.ends end change orders) within
    ∙ at-number (waits_at l.channels ChannelKind.MsgQueue end) change i j

-- the other end keeps those who wait there
mails-there : (c : PlainChannels) (end other : End) (j : ℕ) (rows : List (Option WaitRow)) → ((x : PlainEnds) → end_waits (with_end x end rows) other ≡ end_waits x other) → (i : ℕ)
    → end_waits (mail_at (slice_set c.mails j (record (mail_at c.mails j) { ends = with_end (mail_at c.mails j).ends end rows })) i).ends other ≡ end_waits (mail_at c.mails i).ends other
mails-there c end other j rows same i = set-part (λ (s : MailSlot). end_waits s.ends other) c.mails i j (record (mail_at c.mails j) { ends = with_end (mail_at c.mails j).ends end rows }) no_mail (same (mail_at c.mails j).ends)

messages-there : (c : PlainChannels) (end other : End) (j : ℕ) (rows : List (Option WaitRow)) → ((x : PlainEnds) → end_waits (with_end x end rows) other ≡ end_waits x other) → (i : ℕ)
    → end_waits (messages_at (slice_set c.messages j (record (messages_at c.messages j) { ends = with_end (messages_at c.messages j).ends end rows })) i).ends other ≡ end_waits (messages_at c.messages i).ends other
messages-there c end other j rows same i = set-part (λ (s : MessageSlot). end_waits s.ends other) c.messages i j (record (messages_at c.messages j) { ends = with_end (messages_at c.messages j).ends end rows }) no_messages (same (messages_at c.messages j).ends)

channels-waits : (l : Lists) (at : Option (WaitList × ℕ)) (change : Waits → Waits) → ((w : Waits) → (change w).order ≡ w.order) → IsWithin l at → (kind : ChannelKind) (end : End) (i : ℕ)
    → waits_at (channels_with l.channels at change) kind end i ≡ waits_with at change (waits_in l) (WaitList.Channel kind end) i
channels-waits l None change orders within ChannelKind.Mailbox End.Receivers i = refl
channels-waits l (Some (WaitList.Sem, j)) change orders within ChannelKind.Mailbox End.Receivers i = refl
channels-waits l (Some (WaitList.Event, j)) change orders within ChannelKind.Mailbox End.Receivers i = refl
channels-waits l (Some (WaitList.Channel ChannelKind.Mailbox End.Receivers, j)) change orders within ChannelKind.Mailbox End.Receivers i = mails-here l End.Receivers j change orders within i
channels-waits l (Some (WaitList.Channel ChannelKind.Mailbox End.Senders, j)) change orders within ChannelKind.Mailbox End.Receivers i = mails-there l.channels End.Senders End.Receivers j (change (waits_at l.channels ChannelKind.Mailbox End.Senders j)).rows (λ x. refl) i
channels-waits l (Some (WaitList.Channel ChannelKind.MsgQueue End.Receivers, j)) change orders within ChannelKind.Mailbox End.Receivers i = refl
channels-waits l (Some (WaitList.Channel ChannelKind.MsgQueue End.Senders, j)) change orders within ChannelKind.Mailbox End.Receivers i = refl
channels-waits l None change orders within ChannelKind.Mailbox End.Senders i = refl
channels-waits l (Some (WaitList.Sem, j)) change orders within ChannelKind.Mailbox End.Senders i = refl
channels-waits l (Some (WaitList.Event, j)) change orders within ChannelKind.Mailbox End.Senders i = refl
channels-waits l (Some (WaitList.Channel ChannelKind.Mailbox End.Receivers, j)) change orders within ChannelKind.Mailbox End.Senders i = mails-there l.channels End.Receivers End.Senders j (change (waits_at l.channels ChannelKind.Mailbox End.Receivers j)).rows (λ x. refl) i
channels-waits l (Some (WaitList.Channel ChannelKind.Mailbox End.Senders, j)) change orders within ChannelKind.Mailbox End.Senders i = mails-here l End.Senders j change orders within i
channels-waits l (Some (WaitList.Channel ChannelKind.MsgQueue End.Receivers, j)) change orders within ChannelKind.Mailbox End.Senders i = refl
channels-waits l (Some (WaitList.Channel ChannelKind.MsgQueue End.Senders, j)) change orders within ChannelKind.Mailbox End.Senders i = refl
channels-waits l None change orders within ChannelKind.MsgQueue End.Receivers i = refl
channels-waits l (Some (WaitList.Sem, j)) change orders within ChannelKind.MsgQueue End.Receivers i = refl
channels-waits l (Some (WaitList.Event, j)) change orders within ChannelKind.MsgQueue End.Receivers i = refl
channels-waits l (Some (WaitList.Channel ChannelKind.Mailbox End.Receivers, j)) change orders within ChannelKind.MsgQueue End.Receivers i = refl
channels-waits l (Some (WaitList.Channel ChannelKind.Mailbox End.Senders, j)) change orders within ChannelKind.MsgQueue End.Receivers i = refl
channels-waits l (Some (WaitList.Channel ChannelKind.MsgQueue End.Receivers, j)) change orders within ChannelKind.MsgQueue End.Receivers i = messages-here l End.Receivers j change orders within i
channels-waits l (Some (WaitList.Channel ChannelKind.MsgQueue End.Senders, j)) change orders within ChannelKind.MsgQueue End.Receivers i = messages-there l.channels End.Senders End.Receivers j (change (waits_at l.channels ChannelKind.MsgQueue End.Senders j)).rows (λ x. refl) i
channels-waits l None change orders within ChannelKind.MsgQueue End.Senders i = refl
channels-waits l (Some (WaitList.Sem, j)) change orders within ChannelKind.MsgQueue End.Senders i = refl
channels-waits l (Some (WaitList.Event, j)) change orders within ChannelKind.MsgQueue End.Senders i = refl
channels-waits l (Some (WaitList.Channel ChannelKind.Mailbox End.Receivers, j)) change orders within ChannelKind.MsgQueue End.Senders i = refl
channels-waits l (Some (WaitList.Channel ChannelKind.Mailbox End.Senders, j)) change orders within ChannelKind.MsgQueue End.Senders i = refl
channels-waits l (Some (WaitList.Channel ChannelKind.MsgQueue End.Receivers, j)) change orders within ChannelKind.MsgQueue End.Senders i = messages-there l.channels End.Receivers End.Senders j (change (waits_at l.channels ChannelKind.MsgQueue End.Receivers j)).rows (λ x. refl) i
channels-waits l (Some (WaitList.Channel ChannelKind.MsgQueue End.Senders, j)) change orders within ChannelKind.MsgQueue End.Senders i = messages-here l End.Senders j change orders within i

-- there are as many mailboxes and queues
channels-many : (c : PlainChannels) (at : Option (WaitList × ℕ)) (change : Waits → Waits) (kind : ChannelKind) → slots_of (channels_with c at change) kind ≡ slots_of c kind
channels-many c None change kind = refl
channels-many c (Some (WaitList.Sem, j)) change kind = refl
channels-many c (Some (WaitList.Event, j)) change kind = refl
channels-many c (Some (WaitList.Channel ChannelKind.Mailbox end, j)) change ChannelKind.Mailbox = length-set c.mails j (record (mail_at c.mails j) { ends = with_end (mail_at c.mails j).ends end (change (end_waits (mail_at c.mails j).ends end)).rows })
channels-many c (Some (WaitList.Channel ChannelKind.Mailbox end, j)) change ChannelKind.MsgQueue = refl
channels-many c (Some (WaitList.Channel ChannelKind.MsgQueue end, j)) change ChannelKind.Mailbox = refl
channels-many c (Some (WaitList.Channel ChannelKind.MsgQueue end, j)) change ChannelKind.MsgQueue = length-set c.messages j (record (messages_at c.messages j) { ends = with_end (messages_at c.messages j).ends end (change (end_waits (messages_at c.messages j).ends end)).rows })

-- a part of a slot that such a change keeps
mail-part : {P : Type 0} (part : MailSlot → P) (c : PlainChannels) (at : Option (WaitList × ℕ)) (change : Waits → Waits) → ((s : MailSlot) (end : End) (rows : List (Option WaitRow)) → part (record s { ends = with_end s.ends end rows }) ≡ part s) → (i : ℕ) → part (mail_at (channels_with c at change).mails i) ≡ part (mail_at c.mails i)
mail-part part c None change same i = refl
mail-part part c (Some (WaitList.Sem, j)) change same i = refl
mail-part part c (Some (WaitList.Event, j)) change same i = refl
mail-part part c (Some (WaitList.Channel ChannelKind.Mailbox end, j)) change same i =
    let slot : MailSlot = mail_at c.mails j in
    set-part part c.mails i j (record slot { ends = with_end slot.ends end (change (end_waits slot.ends end)).rows }) no_mail (same slot end (change (end_waits slot.ends end)).rows)
mail-part part c (Some (WaitList.Channel ChannelKind.MsgQueue end, j)) change same i = refl

message-part : {P : Type 0} (part : MessageSlot → P) (c : PlainChannels) (at : Option (WaitList × ℕ)) (change : Waits → Waits) → ((s : MessageSlot) (end : End) (rows : List (Option WaitRow)) → part (record s { ends = with_end s.ends end rows }) ≡ part s) → (i : ℕ) → part (messages_at (channels_with c at change).messages i) ≡ part (messages_at c.messages i)
message-part part c None change same i = refl
message-part part c (Some (WaitList.Sem, j)) change same i = refl
message-part part c (Some (WaitList.Event, j)) change same i = refl
message-part part c (Some (WaitList.Channel ChannelKind.Mailbox end, j)) change same i = refl
message-part part c (Some (WaitList.Channel ChannelKind.MsgQueue end, j)) change same i =
    let slot : MessageSlot = messages_at c.messages j in
    set-part part c.messages i j (record slot { ends = with_end slot.ends end (change (end_waits slot.ends end)).rows }) no_messages (same slot end (change (end_waits slot.ends end)).rows)

mailboxes-shown : (objects : List Object) (c : PlainChannels) (at : Option (WaitList × ℕ)) (change : Waits → Waits) → map (plain_mailbox (channels_with c at change)) objects ≡ map (plain_mailbox c) objects
mailboxes-shown objects c at change = map-same (plain_mailbox (channels_with c at change)) (plain_mailbox c) (λ o k. record {
  name = o.name;
  size = mail-part (λ (s : MailSlot). s.mailbox.size) c at change (λ s end rows. refl) o.no k;
  order = mail-part (λ (s : MailSlot). s.ends.order) c at change (λ s end rows. end-order s.ends end rows) o.no k;
  words = mail-part (λ (s : MailSlot). s.mailbox.words) c at change (λ s end rows. refl) o.no k;
}) objects

queues-shown : (objects : List Object) (c : PlainChannels) (at : Option (WaitList × ℕ)) (change : Waits → Waits) → map (plain_queue (channels_with c at change)) objects ≡ map (plain_queue c) objects
queues-shown objects c at change = map-same (plain_queue (channels_with c at change)) (plain_queue c) (λ o k. record {
  name = o.name;
  max = message-part (λ (s : MessageSlot). s.queue.max) c at change (λ s end rows. refl) o.no k;
  size = message-part (λ (s : MessageSlot). s.queue.size) c at change (λ s end rows. refl) o.no k;
  order = message-part (λ (s : MessageSlot). s.ends.order) c at change (λ s end rows. end-order s.ends end rows) o.no k;
  messages = message-part (λ (s : MessageSlot). s.queue.messages) c at change (λ s end rows. refl) o.no k;
}) objects

-- where nobody leaves, all is as before
pub channel-itself : (c : PlainChannels) (kind : ChannelKind) (end : End) (i : ℕ) → changed_at c kind end i (λ w. w) ≡ c
channel-itself c ChannelKind.Mailbox End.Receivers i = ap (λ (mails : List MailSlot). record c { mails = mails }) (set-get_or c.mails i no_mail)
channel-itself c ChannelKind.Mailbox End.Senders i = ap (λ (mails : List MailSlot). record c { mails = mails }) (set-get_or c.mails i no_mail)
channel-itself c ChannelKind.MsgQueue End.Receivers i = ap (λ (messages : List MessageSlot). record c { messages = messages }) (set-get_or c.messages i no_messages)
channel-itself c ChannelKind.MsgQueue End.Senders i = ap (λ (messages : List MessageSlot). record c { messages = messages }) (set-get_or c.messages i no_messages)

-- the wait lists after a change of one of them
pub relisted-waits : (old new : Lists) (at : Option (WaitList × ℕ)) (change : Waits → Waits) → ((w : Waits) → (change w).order ≡ w.order) → IsRelisted old new at change → IsWithin old at → (list : WaitList) (i : ℕ) → waits_in new list i ≡ waits_with at change (waits_in old) list i
relisted-waits old new at change orders is within WaitList.Sem i = ap (λ (xs : List Counted). (sem_at xs i).waiters) is.sems ∙ sems-waits old at change within i
relisted-waits old new at change orders is within WaitList.Event i = ap (λ (xs : List Flagged). (event_at xs i).waiters) is.events ∙ events-waits old at change within i
relisted-waits old new at change orders is within (WaitList.Channel kind end) i = ap (λ (c : PlainChannels). waits_at c kind end i) is.channels ∙ channels-waits old at change orders within kind end i

-- a part of the objects that such a change keeps
pub sem-part : {P : Type 0} (part : Counted → P) (sems : List Counted) (at : Option (WaitList × ℕ)) (change : Waits → Waits) → ((c : Counted) → part (record c { waiters = change c.waiters }) ≡ part c) → (i : ℕ) → part (sem_at (sems_with sems at change) i) ≡ part (sem_at sems i)
sem-part part sems None change same i = refl
sem-part part sems (Some (WaitList.Sem, j)) change same i = set-part part sems i j (record (sem_at sems j) { waiters = change (sem_at sems j).waiters }) no_sem (same (sem_at sems j))
sem-part part sems (Some (WaitList.Event, j)) change same i = refl
sem-part part sems (Some (WaitList.Channel kind end, j)) change same i = refl

pub event-part : {P : Type 0} (part : Flagged → P) (events : List Flagged) (at : Option (WaitList × ℕ)) (change : Waits → Waits) → ((e : Flagged) → part (record e { waiters = change e.waiters }) ≡ part e) → (i : ℕ) → part (event_at (events_with events at change) i) ≡ part (event_at events i)
event-part part events None change same i = refl
event-part part events (Some (WaitList.Sem, j)) change same i = refl
event-part part events (Some (WaitList.Channel kind end, j)) change same i = refl
event-part part events (Some (WaitList.Event, j)) change same i = set-part part events i j (record (event_at events j) { waiters = change (event_at events j).waiters }) no_event (same (event_at events j))

-- the slots are as many
sems-many : (sems : List Counted) (at : Option (WaitList × ℕ)) (change : Waits → Waits) → length (sems_with sems at change) ≡ length sems
sems-many sems None change = refl
sems-many sems (Some (WaitList.Sem, j)) change = length-set sems j (record (sem_at sems j) { waiters = change (sem_at sems j).waiters })
sems-many sems (Some (WaitList.Event, j)) change = refl
sems-many sems (Some (WaitList.Channel kind end, j)) change = refl

events-many : (events : List Flagged) (at : Option (WaitList × ℕ)) (change : Waits → Waits) → length (events_with events at change) ≡ length events
events-many events None change = refl
events-many events (Some (WaitList.Sem, j)) change = refl
events-many events (Some (WaitList.Channel kind end, j)) change = refl
events-many events (Some (WaitList.Event, j)) change = length-set events j (record (event_at events j) { waiters = change (event_at events j).waiters })

pub relisted-slots : (old new : Lists) (at : Option (WaitList × ℕ)) (change : Waits → Waits) → IsRelisted old new at change → (list : WaitList) → slots_in new list ≡ slots_in old list
relisted-slots old new at change is WaitList.Sem = ap length is.sems ∙ sems-many old.sems.items at change
relisted-slots old new at change is WaitList.Event = ap length is.events ∙ events-many old.events.items at change
relisted-slots old new at change is (WaitList.Channel kind end) = ap (λ (c : PlainChannels). slots_of c kind) is.channels ∙ channels-many old.channels at change kind

-- what the objects show doesn't change with who waits
sems-shown : (objects : List Object) (sems : List Counted) (at : Option (WaitList × ℕ)) (change : Waits → Waits) → ((w : Waits) → (change w).order ≡ w.order) → map (plain_sem (sems_with sems at change)) objects ≡ map (plain_sem sems) objects
sems-shown objects sems at change orders = map-same (plain_sem (sems_with sems at change)) (plain_sem sems) (λ o k. record {
  name = o.name;
  value = sem-part (λ (c : Counted). c.value) sems at change (λ c. refl) o.no k;
  order = sem-part (λ (c : Counted). c.waiters.order) sems at change (λ c. orders c.waiters) o.no k;
}) objects

events-shown : (objects : List Object) (events : List Flagged) (at : Option (WaitList × ℕ)) (change : Waits → Waits) → ((w : Waits) → (change w).order ≡ w.order) → map (plain_event (events_with events at change)) objects ≡ map (plain_event events) objects
events-shown objects events at change orders = map-same (plain_event (events_with events at change)) (plain_event events) (λ o k. record {
  name = o.name;
  flags = event-part (λ (e : Flagged). e.flags) events at change (λ e. refl) o.no k;
  order = event-part (λ (e : Flagged). e.waiters.order) events at change (λ e. orders e.waiters) o.no k;
}) objects

pub relisted-shown : (old new : Lists) (at : Option (WaitList × ℕ)) (change : Waits → Waits) → IsRelisted old new at change → ((w : Waits) → (change w).order ≡ w.order) → IsShownAs old new
relisted-shown old new at change is orders = record {
  objects = is.objects;
  sems = ap (λ (xs : List Counted). map (plain_sem xs) old.objects.sem.objects) is.sems ∙ sems-shown old.objects.sem.objects old.sems.items at change orders;
  events = ap (λ (xs : List Flagged). map (plain_event xs) old.objects.event.objects) is.events ∙ events-shown old.objects.event.objects old.events.items at change orders;
  mailboxes = ap (λ (c : PlainChannels). map (plain_mailbox c) old.objects.mailbox.objects) is.channels ∙ mailboxes-shown old.objects.mailbox.objects old.channels at change;
  queues = ap (λ (c : PlainChannels). map (plain_queue c) old.objects.msgqueue.objects) is.channels ∙ queues-shown old.objects.msgqueue.objects old.channels at change;
}

-- what event objects' waiters want stays
pub relisted-wants : (old new : Lists) (at : Option (WaitList × ℕ)) (change : Waits → Waits) → IsRelisted old new at change → (i : ℕ) → wants_in new i ≡ wants_in old i
relisted-wants old new at change is i = ap (λ (xs : List Flagged). (event_at xs i).wants) is.events ∙ event-part (λ (e : Flagged). e.wants) old.events.items at change (λ e. refl) i

-- one after the other
pub shown-again : (old new newer : Lists) → IsShownAs old new → IsShownAs new newer → IsShownAs old newer
shown-again old new newer one two = record {
  objects = two.objects ∙ one.objects;
  sems = subst (λ (a : AllObjects). map (plain_sem newer.sems.items) a.sem.objects ≡ map (plain_sem new.sems.items) a.sem.objects) one.objects two.sems ∙ one.sems;
  events = subst (λ (a : AllObjects). map (plain_event newer.events.items) a.event.objects ≡ map (plain_event new.events.items) a.event.objects) one.objects two.events ∙ one.events;
  mailboxes = subst (λ (a : AllObjects). map (plain_mailbox newer.channels) a.mailbox.objects ≡ map (plain_mailbox new.channels) a.mailbox.objects) one.objects two.mailboxes ∙ one.mailboxes;
  queues = subst (λ (a : AllObjects). map (plain_queue newer.channels) a.msgqueue.objects ≡ map (plain_queue new.channels) a.msgqueue.objects) one.objects two.queues ∙ one.queues;
}

-- a thread goes into a list
events-joined-waits : (l : Lists) (at : Option (WaitList × ℕ)) (t : ℕ) (row : WaitRow) (want : Want) → IsWithin l at → (i : ℕ) → (event_at (events_joined l.events.items at t row want) i).waiters ≡ waits_with at (joined t row) (waits_in l) WaitList.Event i
events-joined-waits l None t row want within i = refl
events-joined-waits l (Some (WaitList.Sem, j)) t row want within i = refl
events-joined-waits l (Some (WaitList.Channel ChannelKind.Mailbox End.Receivers, j)) t row want within i = refl
events-joined-waits l (Some (WaitList.Channel ChannelKind.Mailbox End.Senders, j)) t row want within i = refl
events-joined-waits l (Some (WaitList.Channel ChannelKind.MsgQueue End.Receivers, j)) t row want within i = refl
events-joined-waits l (Some (WaitList.Channel ChannelKind.MsgQueue End.Senders, j)) t row want within i = refl
events-joined-waits l (Some (WaitList.Event, j)) t row want within i =
    slot-waits (λ (e : Flagged). e.waiters) l.events.items no_event (record (event_at l.events.items j) { waiters = joined t row (event_at l.events.items j).waiters; wants = slice_set (event_at l.events.items j).wants t want }) WaitList.Event i j (joined t row (event_at l.events.items j).waiters) refl within
    ∙ at-number (waits_in l WaitList.Event) (joined t row) i j

pub joined-waits : (old new : Lists) (at : Option (WaitList × ℕ)) (t : ℕ) (row : WaitRow) (want : Want) → IsJoined old new at t row want → IsWithin old at → (list : WaitList) (i : ℕ) → waits_in new list i ≡ waits_with at (joined t row) (waits_in old) list i
joined-waits old new at t row want is within WaitList.Sem i = ap (λ (xs : List Counted). (sem_at xs i).waiters) is.sems ∙ sems-waits old at (joined t row) within i
joined-waits old new at t row want is within WaitList.Event i = ap (λ (xs : List Flagged). (event_at xs i).waiters) is.events ∙ events-joined-waits old at t row want within i
joined-waits old new at t row want is within (WaitList.Channel kind end) i = ap (λ (c : PlainChannels). waits_at c kind end i) is.channels ∙ channels-waits old at (joined t row) (λ w. refl) within kind end i

-- a part of the event objects that this keeps
event-joined-part : {P : Type 0} (part : Flagged → P) (events : List Flagged) (at : Option (WaitList × ℕ)) (t : ℕ) (row : WaitRow) (want : Want) → ((e : Flagged) → part (record e { waiters = joined t row e.waiters; wants = slice_set e.wants t want }) ≡ part e) → (i : ℕ) → part (event_at (events_joined events at t row want) i) ≡ part (event_at events i)
event-joined-part part events None t row want same i = refl
event-joined-part part events (Some (WaitList.Sem, j)) t row want same i = refl
event-joined-part part events (Some (WaitList.Channel kind end, j)) t row want same i = refl
event-joined-part part events (Some (WaitList.Event, j)) t row want same i = set-part part events i j (record (event_at events j) { waiters = joined t row (event_at events j).waiters; wants = slice_set (event_at events j).wants t want }) no_event (same (event_at events j))

events-joined-many : (events : List Flagged) (at : Option (WaitList × ℕ)) (t : ℕ) (row : WaitRow) (want : Want) → length (events_joined events at t row want) ≡ length events
events-joined-many events None t row want = refl
events-joined-many events (Some (WaitList.Sem, j)) t row want = refl
events-joined-many events (Some (WaitList.Channel kind end, j)) t row want = refl
events-joined-many events (Some (WaitList.Event, j)) t row want = length-set events j (record (event_at events j) { waiters = joined t row (event_at events j).waiters; wants = slice_set (event_at events j).wants t want })

pub joined-slots : (old new : Lists) (at : Option (WaitList × ℕ)) (t : ℕ) (row : WaitRow) (want : Want) → IsJoined old new at t row want → (list : WaitList) → slots_in new list ≡ slots_in old list
joined-slots old new at t row want is WaitList.Sem = ap length is.sems ∙ sems-many old.sems.items at (joined t row)
joined-slots old new at t row want is WaitList.Event = ap length is.events ∙ events-joined-many old.events.items at t row want
joined-slots old new at t row want is (WaitList.Channel kind end) = ap (λ (c : PlainChannels). slots_of c kind) is.channels ∙ channels-many old.channels at (joined t row) kind

pub joined-shown : (old new : Lists) (at : Option (WaitList × ℕ)) (t : ℕ) (row : WaitRow) (want : Want) → IsJoined old new at t row want → IsShownAs old new
joined-shown old new at t row want is = record {
  objects = is.objects;
  sems = ap (λ (xs : List Counted). map (plain_sem xs) old.objects.sem.objects) is.sems ∙ sems-shown old.objects.sem.objects old.sems.items at (joined t row) (λ w. refl);
  events = ap (λ (xs : List Flagged). map (plain_event xs) old.objects.event.objects) is.events ∙ map-same (plain_event (events_joined old.events.items at t row want)) (plain_event old.events.items) (λ o k. record {
    name = o.name;
    flags = event-joined-part (λ (e : Flagged). e.flags) old.events.items at t row want (λ e. refl) o.no k;
    order = event-joined-part (λ (e : Flagged). e.waiters.order) old.events.items at t row want (λ e. refl) o.no k;
  }) old.objects.event.objects;
  mailboxes = ap (λ (c : PlainChannels). map (plain_mailbox c) old.objects.mailbox.objects) is.channels ∙ mailboxes-shown old.objects.mailbox.objects old.channels at (joined t row);
  queues = ap (λ (c : PlainChannels). map (plain_queue c) old.objects.msgqueue.objects) is.channels ∙ queues-shown old.objects.msgqueue.objects old.channels at (joined t row);
}

get-there : {A : Type 0} (xs : List A) (t u : ℕ) (x : A) → u ≢ t → slice_get (slice_set xs t x) u ≡ slice_get xs u
get-there [] t u x apart = refl
get-there (y ∷ ys) zero zero x apart = absurd (apart refl)
get-there (y ∷ ys) zero (suc u) x apart = refl
get-there (y ∷ ys) (suc t) zero x apart = refl
get-there (y ∷ ys) (suc t) (suc u) x apart = get-there ys t u x (λ same. apart (ap suc same))

-- the others want what they wanted
pub joined-others : (old new : Lists) (at : Option (WaitList × ℕ)) (t : ℕ) (row : WaitRow) (want : Want) → IsJoined old new at t row want → (i u : ℕ) → u ≢ t → slice_get (wants_in new i) u ≡ slice_get (wants_in old i) u
joined-others old new at t row want is i u apart = ap (λ (xs : List Flagged). slice_get (event_at xs i).wants u) is.events ∙ event-joined-part (λ (e : Flagged). slice_get e.wants u) old.events.items at t row want (λ e. get-there e.wants t u want apart) i
