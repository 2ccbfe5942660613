-- The tables before and after a call on a mailbox.
use Rattle.std.proofs.Common.{◌≡◌, ◌<◌, ℕ, List, [], ◌∷◌, ◌++◌, Option, Some, None, Bool, true, false, not, refl, sym, ap, ◌∙◌, subst, arith, length, map, filter, drop, is_some, slice_get, IfSome}
use Rattle.std.specs.Prelude.{if◌then◌else◌, Ok, Err, slice_set, IfNone}
use Rattle.std.specs.Bool.{OnTrue, OnFalse}
use Rattle.std.specs.Str.{bytes_eq}
use Rattle.std.proofs.lemmas.Bool.{false≢true, OnTrue_at, OnFalse_at}
use Rattle.std.proofs.lemmas.List.{length-map}
use Rattle.std.proofs.lemmas.Option.{same_Some}
use Rattle.rt_base.specs.declared.codes.Code.{Code}
use Rattle.rt_base.specs.declared.codes.WaitOrder.{WaitOrder}
use Rattle.rt_plain.specs.kernel.State.{Thread, Mailbox}
use Rattle.rt_plain.specs.kernel.Waiting.{head_of}
use Rattle.susp_list.specs.Rows.{line}
use Rattle.object_box.specs.declared.object.Object.{Object}
use Rattle.object_box.specs.Classes.{AllObjects}
use Rattle.object_box.specs.declared.fault.Make.{Make}
use Rattle.object_box.specs.declared.fault.Make.TheVariants.{Taken, ClassFull}
use Rattle.object_box.specs.Objects.{ClassObjects, IsSound, MakeCause, removed, has_number, number_of}
use Rattle.ipc_queues.specs.Queues.{PlainMailbox}
use Rattle.ipc_queues.specs.Channels.{PlainChannels, mail_at, no_mail, slots_of, waits_at, with_mailbox, has_room}
use Rattle.ipc_queues.specs.declared.channels.ChannelKind.{ChannelKind}
use Rattle.ipc_queues.specs.declared.channels.MailSlot.{MailSlot}
use Rattle.ipc_queues.specs.declared.channels.MessageSlot.{MessageSlot}
use Rattle.ipc_queues.specs.declared.ends.End.{End}
use Rattle.kernel_tables.specs.declared.lists.Lists.{Lists}
use Rattle.kernel_tables.specs.declared.wait_list.WaitList.{WaitList}
use Rattle.kernel_tables.specs.Listed.{plain_mailbox, plain_mailboxes, plain_queue, plain_queues, wait_row, waits_in, IsShownAs}
use Rattle.kernel_tables.specs.Tabled.{found_mailbox, put_mailbox, mails_put, mails_taken, mail_line, CreatesMailbox, all_woken, without_mailbox}
use Rattle.kernel_tables.specs.Tied.{IsTied, tabled}
use Rattle.kernel_tables.specs.WaitLists.{objects_in, calls_in, waits_for}
use Rattle.kernel_tables.proofs.TiedLemmas.{tied-line, line-same, set-here, set-there}
use Rattle.kernel_tables.proofs.FoundLemmas.{found-calls, found-below, some-plain, none-plain, found-put, free-line, free-same, found-removed}
use Rattle.kernel_tables.proofs.MadeLemmas.{IsMade, IsDropped, lists-made, lists-dropped}
use Rattle.kernel_tables.proofs.ChannelLemmas.{KeepsEnds, ends-same, mails-kept, order-rows, channels-keep}
use Rattle.kernel_tables.proofs.SemLemmas.{shown}
use Rattle.kernel_tables.proofs.WokenLemmas.{first-in}

-- the slot of a mailbox is there
pub mail-there : (threads : List Thread) (l : Lists) (name : List ℕ) (i : ℕ) → IsTied threads l → number_of l.objects.mailbox.objects name ≡ Some i → i < slots_of l.channels ChannelKind.Mailbox
mail-there threads l name i tied e = subst (λ n. i < n) (sym (tied.slots (WaitList.Channel ChannelKind.Mailbox End.Receivers))) (found-below l.objects.mailbox name i (tied.lists.sound (WaitList.Channel ChannelKind.Mailbox End.Receivers)) e)

-- a mailbox that is there, seen by its name
pub mail-some : (c : PlainChannels) (objects : List Object) (name : List ℕ) (i : ℕ) → number_of objects name ≡ Some i → found_mailbox (map (plain_mailbox c) objects) name ≡ Some (plain_mailbox c (record { no = i; name = name }))
mail-some c objects name i e = some-plain (plain_mailbox c) (λ (x : Mailbox). x.name) objects name i (λ o. refl) e

pub mail-none : (c : PlainChannels) (objects : List Object) (name : List ℕ) → number_of objects name ≡ None → found_mailbox (map (plain_mailbox c) objects) name ≡ None
mail-none c objects name e = none-plain (plain_mailbox c) (λ (x : Mailbox). x.name) objects name (λ o. refl) e

-- a slot seen by the name of its object
abbrev seen_as : List ℕ → MailSlot → Mailbox
seen_as name s = record { name = name; size = s.mailbox.size; order = s.ends.order; words = s.mailbox.words }

-- another slot at the number of a mailbox
mail-put : (k : ClassObjects) (c : PlainChannels) (name : List ℕ) (i : ℕ) (new : MailSlot) → IsSound k → i < length c.mails → number_of k.objects name ≡ Some i
    → map (plain_mailbox (record c { mails = slice_set c.mails i new })) k.objects ≡ put_mailbox (map (plain_mailbox c) k.objects) (seen_as name new)
mail-put k c name i new sound there e =
    found-put (plain_mailbox c) (plain_mailbox (record c { mails = slice_set c.mails i new })) (λ (x : Mailbox). x.name) k name i (seen_as name new) sound e (λ o. refl)
    (λ o other. ap (seen_as o.name) (set-there c.mails o.no i new no_mail other))
    (ap (seen_as name) (set-here c.mails i new no_mail there))

-- a word is put, where there is room
pub put-state : (l : Lists) (name : List ℕ) (i : ℕ) (put : List ℕ → List ℕ) (result : Bool) (after : PlainChannels) → IsSound l.objects.mailbox → number_of l.objects.mailbox.objects name ≡ Some i → i < length l.channels.mails
    → result ≡ has_room (mail_at l.channels.mails i).mailbox
    → OnTrue result (after ≡ with_mailbox l.channels i (record (mail_at l.channels.mails i).mailbox { words = put (mail_at l.channels.mails i).mailbox.words })) → OnFalse result (after ≡ l.channels)
    → map (plain_mailbox after) l.objects.mailbox.objects ≡ mails_put (plain_mailboxes l) put (found_mailbox (plain_mailboxes l) name)
put-state l name i put result after sound e there exactly sent full = by_test result exactly sent full ∙ ap (mails_put (plain_mailboxes l) put) (sym (mail-some l.channels l.objects.mailbox.objects name i e))
  where
    own : Mailbox
    own = plain_mailbox l.channels (record { no = i; name = name })

    left : Bool → List Mailbox
    left c = if c then put_mailbox (plain_mailboxes l) (record own { words = put own.words }) else plain_mailboxes l

    by_test : (r : Bool) → r ≡ has_room (mail_at l.channels.mails i).mailbox → OnTrue r (after ≡ with_mailbox l.channels i (record (mail_at l.channels.mails i).mailbox { words = put (mail_at l.channels.mails i).mailbox.words })) → OnFalse r (after ≡ l.channels)
        → map (plain_mailbox after) l.objects.mailbox.objects ≡ mails_put (plain_mailboxes l) put (Some own)
    by_test true exactly sent full =
        ap (λ (c : PlainChannels). map (plain_mailbox c) l.objects.mailbox.objects) (OnTrue_at refl sent)
        ∙ mail-put l.objects.mailbox l.channels name i (record (mail_at l.channels.mails i) { mailbox = record (mail_at l.channels.mails i).mailbox { words = put (mail_at l.channels.mails i).mailbox.words } }) sound there e
        ∙ ap left exactly
    by_test false exactly sent full = ap (λ (c : PlainChannels). map (plain_mailbox c) l.objects.mailbox.objects) (OnFalse_at refl full) ∙ ap left exactly

pub put-keeps : (c after : PlainChannels) (i : ℕ) (m : PlainMailbox) (result : Bool) → OnTrue result (after ≡ with_mailbox c i m) → OnFalse result (after ≡ c) → KeepsEnds c after
put-keeps c after i m true sent full = mails-kept c after i (record (mail_at c.mails i) { mailbox = m }) (OnTrue_at refl sent) (λ end. refl)
put-keeps c after i m false sent full = ends-same c after (OnFalse_at refl full)

-- message queues stay
pub put-others : (c after : PlainChannels) (i : ℕ) (m : PlainMailbox) (result : Bool) → OnTrue result (after ≡ with_mailbox c i m) → OnFalse result (after ≡ c) → after.messages ≡ c.messages
put-others c after i m true sent full = ap (λ (x : PlainChannels). x.messages) (OnTrue_at refl sent)
put-others c after i m false sent full = ap (λ (x : PlainChannels). x.messages) (OnFalse_at refl full)

pub other-queues : (l : Lists) (after : PlainChannels) → after.messages ≡ l.channels.messages → map (plain_queue after) l.objects.msgqueue.objects ≡ plain_queues l
other-queues l after same = ap (λ (messages : List MessageSlot). map (plain_queue (record l.channels { messages = messages })) l.objects.msgqueue.objects) same

-- the front word is taken, where there is one
pub taken-state : (l : Lists) (name : List ℕ) (i : ℕ) (result : Option ℕ) (after : PlainChannels) → IsSound l.objects.mailbox → number_of l.objects.mailbox.objects name ≡ Some i → i < length l.channels.mails
    → result ≡ slice_get (mail_at l.channels.mails i).mailbox.words 0
    → IfSome result (λ _. after ≡ with_mailbox l.channels i (record (mail_at l.channels.mails i).mailbox { words = drop 1 (mail_at l.channels.mails i).mailbox.words })) → IfNone result (after ≡ l.channels)
    → map (plain_mailbox after) l.objects.mailbox.objects ≡ mails_taken (plain_mailboxes l) (found_mailbox (plain_mailboxes l) name)
taken-state l name i result after sound e there exactly taken empty = by_result result exactly taken empty ∙ ap (mails_taken (plain_mailboxes l)) (sym (mail-some l.channels l.objects.mailbox.objects name i e))
  where
    own : Mailbox
    own = plain_mailbox l.channels (record { no = i; name = name })

    left : Option ℕ → List Mailbox
    left o = if is_some o then put_mailbox (plain_mailboxes l) (record own { words = drop 1 own.words }) else plain_mailboxes l

    by_result : (r : Option ℕ) → r ≡ slice_get (mail_at l.channels.mails i).mailbox.words 0 → IfSome r (λ _. after ≡ with_mailbox l.channels i (record (mail_at l.channels.mails i).mailbox { words = drop 1 (mail_at l.channels.mails i).mailbox.words })) → IfNone r (after ≡ l.channels)
        → map (plain_mailbox after) l.objects.mailbox.objects ≡ mails_taken (plain_mailboxes l) (Some own)
    by_result (Some word) exactly taken empty =
        ap (λ (c : PlainChannels). map (plain_mailbox c) l.objects.mailbox.objects) taken
        ∙ mail-put l.objects.mailbox l.channels name i (record (mail_at l.channels.mails i) { mailbox = record (mail_at l.channels.mails i).mailbox { words = drop 1 (mail_at l.channels.mails i).mailbox.words } }) sound there e
        ∙ ap left exactly
    by_result None exactly taken empty = ap (λ (c : PlainChannels). map (plain_mailbox c) l.objects.mailbox.objects) empty ∙ ap left exactly

pub taken-keeps : (c after : PlainChannels) (i : ℕ) (m : PlainMailbox) (result : Option ℕ) → IfSome result (λ _. after ≡ with_mailbox c i m) → IfNone result (after ≡ c) → KeepsEnds c after
taken-keeps c after i m (Some word) taken empty = mails-kept c after i (record (mail_at c.mails i) { mailbox = m }) taken (λ end. refl)
taken-keeps c after i m None taken empty = ends-same c after empty

pub taken-others : (c after : PlainChannels) (i : ℕ) (m : PlainMailbox) (result : Option ℕ) → IfSome result (λ _. after ≡ with_mailbox c i m) → IfNone result (after ≡ c) → after.messages ≡ c.messages
taken-others c after i m (Some word) taken empty = ap (λ (x : PlainChannels). x.messages) taken
taken-others c after i m None taken empty = ap (λ (x : PlainChannels). x.messages) empty

-- who waits at an end, by the name of the mailbox
pub seen-line : (threads : List Thread) (l : Lists) (name : List ℕ) (i : ℕ) (end : End) → IsTied threads l → number_of l.objects.mailbox.objects name ≡ Some i → line (waits_at l.channels ChannelKind.Mailbox end i) ≡ mail_line threads (plain_mailbox l.channels (record { no = i; name = name })) end
seen-line threads l name i end tied e = by_end end where
  list : End → WaitList
  list end = WaitList.Channel ChannelKind.Mailbox end

  rows : (end : End) → (waits_in l (list end) i).rows ≡ map (wait_row (calls_in l.objects (list end) i)) threads
  rows end = tied.lists.rows (list end) i (found-below l.objects.mailbox name i (tied.lists.sound (list end)) e)

  by_end : (end : End) → line (waits_in l (list end) i) ≡ mail_line threads (plain_mailbox l.channels (record { no = i; name = name })) end
  by_end End.Receivers =
      tied-line threads (waits_in l (list End.Receivers) i) (calls_in l.objects (list End.Receivers) i) (rows End.Receivers)
      ∙ line-same threads (waits_in l (list End.Receivers) i).order (calls_in l.objects (list End.Receivers) i) (waits_for (list End.Receivers) name) (λ call. found-calls l.objects.mailbox (waits_for (list End.Receivers)) name i (tied.lists.sound (list End.Receivers)) e call)
  by_end End.Senders =
      tied-line threads (waits_in l (list End.Senders) i) (calls_in l.objects (list End.Senders) i) (rows End.Senders)
      ∙ line-same threads (waits_in l (list End.Senders) i).order (calls_in l.objects (list End.Senders) i) (waits_for (list End.Senders) name) (λ call. found-calls l.objects.mailbox (waits_for (list End.Senders)) name i (tied.lists.sound (list End.Senders)) e call)

-- the first who waits there
pub first-seen : (threads : List Thread) (l : Lists) (name : List ℕ) (i : ℕ) (end : End) (mailbox : Mailbox) → IsTied threads l → number_of l.objects.mailbox.objects name ≡ Some i → found_mailbox (plain_mailboxes l) name ≡ Some mailbox
    → head_of (line (waits_at l.channels ChannelKind.Mailbox end i)) ≡ head_of (mail_line threads mailbox end)
first-seen threads l name i end mailbox tied e is = ap head_of (seen-line threads l name i end tied e) ∙ ap (λ (m : Mailbox). head_of (mail_line threads m end)) (same_Some _ mailbox (sym (mail-some l.channels l.objects.mailbox.objects name i e) ∙ is))

pub first-there : (threads : List Thread) (l : Lists) (name : List ℕ) (i : ℕ) (end : End) (o : Option ℕ) → IsTied threads l → number_of l.objects.mailbox.objects name ≡ Some i → o ≡ head_of (line (waits_at l.channels ChannelKind.Mailbox end i)) → IfSome o (λ t. t < length threads)
first-there threads l name i end None tied e is = tt
first-there threads l name i end (Some t) tied e is =
    (first-in threads l.objects (waits_in l) (WaitList.Channel ChannelKind.Mailbox end) i t tied.lists (found-below l.objects.mailbox name i (tied.lists.sound (WaitList.Channel ChannelKind.Mailbox end)) e) (sym is)).there

-- the class with one mailbox more
abbrev pub made_mailbox : AllObjects → List ℕ → ℕ → AllObjects
made_mailbox a name i = record a { mailbox = record a.mailbox { objects = record { no = i; name = name } ∷ a.mailbox.objects } }

-- the lists that a mailbox has
abbrev has_mailbox : WaitList → Bool
has_mailbox (WaitList.Channel ChannelKind.Mailbox end) = true
has_mailbox _ = false

mailbox-made : (a : AllObjects) (name : List ℕ) (i : ℕ) → IsMade a (made_mailbox a name i) has_mailbox name i
mailbox-made a name i WaitList.Sem = refl
mailbox-made a name i WaitList.Event = refl
mailbox-made a name i (WaitList.Channel ChannelKind.Mailbox end) = refl
mailbox-made a name i (WaitList.Channel ChannelKind.MsgQueue end) = refl

mailbox-sound : (a b : AllObjects) → ((list : WaitList) → IsSound (objects_in a list)) → IsSound b.mailbox → b.sem ≡ a.sem → b.event ≡ a.event → b.msgqueue ≡ a.msgqueue → (list : WaitList) → IsSound (objects_in b list)
mailbox-sound a b sound own sem event queue WaitList.Sem = subst IsSound (sym sem) (sound WaitList.Sem)
mailbox-sound a b sound own sem event queue WaitList.Event = subst IsSound (sym event) (sound WaitList.Event)
mailbox-sound a b sound own sem event queue (WaitList.Channel ChannelKind.Mailbox end) = own
mailbox-sound a b sound own sem event queue (WaitList.Channel ChannelKind.MsgQueue end) = subst IsSound (sym queue) (sound (WaitList.Channel ChannelKind.MsgQueue end))

-- the tables with one mailbox more, at whose ends nobody waited
pub tied-made : (threads : List Thread) (l new : Lists) (name : List ℕ) (i : ℕ) (m : PlainMailbox) (order : WaitOrder) → IsTied threads l → new.objects ≡ made_mailbox l.objects name i → number_of l.objects.mailbox.objects name ≡ None → IsSound new.objects.mailbox
    → new.sems.items ≡ l.sems.items → new.events.items ≡ l.events.items → new.channels ≡ record l.channels { mails = slice_set l.channels.mails i (record { mailbox = m; ends = record (mail_at l.channels.mails i).ends { order = order } }) } → IsTied threads new
tied-made threads l new name i m order tied is none sound sems events channels =
    lists-made threads l new has_mailbox name i tied (λ list. ap (λ b. objects_in b list) is ∙ mailbox-made l.objects name i list) by_list (mailbox-sound l.objects new.objects tied.lists.sound sound (ap (λ b. b.sem) is) (ap (λ b. b.event) is) (ap (λ b. b.msgqueue) is))
    (channels-keep l new sems events (mails-kept l.channels new.channels i (record { mailbox = m; ends = record (mail_at l.channels.mails i).ends { order = order } }) channels (order-rows (mail_at l.channels.mails i).ends order)))
  where
    by_list : (list : WaitList) → has_mailbox list ≡ true → number_of (objects_in l.objects list).objects name ≡ None
    by_list (WaitList.Channel ChannelKind.Mailbox end) own = none
    by_list (WaitList.Channel ChannelKind.MsgQueue end) own = absurd (false≢true own)
    by_list WaitList.Sem own = absurd (false≢true own)
    by_list WaitList.Event own = absurd (false≢true own)

-- nobody waits at the ends of a free slot
pub free-end : (threads : List Thread) (l : Lists) (i : ℕ) (end : End) → IsTied threads l → i < l.objects.mailbox.limit → has_number l.objects.mailbox.objects i ≡ false → length (line (waits_at l.channels ChannelKind.Mailbox end i)) ≡ 0
free-end threads l i end tied there free =
    free-line (waits_for (WaitList.Channel ChannelKind.Mailbox end)) l.objects.mailbox.objects i threads (waits_in l (WaitList.Channel ChannelKind.Mailbox end) i) (tied.lists.rows (WaitList.Channel ChannelKind.Mailbox end) i there) free

-- a creation
pub made-seen : (threads : List Thread) (l : Lists) (made : AllObjects) (after : PlainChannels) (name : List ℕ) (m : PlainMailbox) (order : WaitOrder) (i : ℕ) → i < length l.channels.mails → number_of l.objects.mailbox.objects name ≡ None → length l.objects.mailbox.objects < l.objects.mailbox.limit
    → has_number l.objects.mailbox.objects i ≡ false → made ≡ made_mailbox l.objects name i → m.words ≡ [] → after ≡ record l.channels { mails = slice_set l.channels.mails i (record { mailbox = m; ends = record (mail_at l.channels.mails i).ends { order = order } }) }
    → CreatesMailbox (tabled threads l) (shown threads made l.sems.items l.events.items after) (record { name = name; size = m.size; order = order; words = [] }) (Ok tt)
made-seen threads l made after name m order i there none room free is empty channels = (
  mail-none l.channels l.objects.mailbox.objects name none,
  (
    omega (arith, room, length-map l.objects.mailbox.objects (plain_mailbox l.channels)),
    ap (λ (b : AllObjects). shown threads b l.sems.items l.events.items after) is ∙ (λ k. record (tabled threads l) { mailboxes = seen k; queues = queues k }),
  ),
)
  where
    slot : MailSlot
    slot = record { mailbox = m; ends = record (mail_at l.channels.mails i).ends { order = order } }

    changed : PlainChannels
    changed = record l.channels { mails = slice_set l.channels.mails i slot }

    queues : map (plain_queue after) l.objects.msgqueue.objects ≡ map (plain_queue l.channels) l.objects.msgqueue.objects
    queues = ap (λ (c : PlainChannels). map (plain_queue c) l.objects.msgqueue.objects) channels

    seen : map (plain_mailbox after) (made_mailbox l.objects name i).mailbox.objects ≡ record { name = name; size = m.size; order = order; words = [] } ∷ plain_mailboxes l
    seen =
        ap (λ (c : PlainChannels). map (plain_mailbox c) (made_mailbox l.objects name i).mailbox.objects) channels
        ∙ ap (λ (s : MailSlot). seen_as name s ∷ map (plain_mailbox changed) l.objects.mailbox.objects) (set-here l.channels.mails i slot no_mail there)
        ∙ ap (λ words. record { name = name; size = m.size; order = order; words = words } ∷ map (plain_mailbox changed) l.objects.mailbox.objects) empty
        ∙ ap (λ (rest : List Mailbox). record { name = name; size = m.size; order = order; words = [] } ∷ rest) (free-same (plain_mailbox l.channels) (plain_mailbox changed) l.objects.mailbox.objects i free (λ o other. ap (seen_as o.name) (set-there l.channels.mails o.no i slot no_mail other)))

-- no creation
pub refused-seen : (threads : List Thread) (l : Lists) (made : AllObjects) (mailbox : Mailbox) (fault : Make) → MakeCause l.objects.mailbox mailbox.name (Err fault) → made ≡ l.objects → CreatesMailbox (tabled threads l) (shown threads made l.sems.items l.events.items l.channels) mailbox (Err fault)
refused-seen threads l made mailbox (Taken number) cause same = (ap is_some (mail-some l.channels l.objects.mailbox.objects mailbox.name number cause), ap (λ b. shown threads b l.sems.items l.events.items l.channels) same)
refused-seen threads l made mailbox (ClassFull limit) cause same = (mail-none l.channels l.objects.mailbox.objects mailbox.name cause.0, (length-map l.objects.mailbox.objects (plain_mailbox l.channels) ∙ cause.1.0, ap (λ b. shown threads b l.sems.items l.events.items l.channels) same))

-- the class with one mailbox less
abbrev pub removed_mailbox : AllObjects → ℕ → AllObjects
removed_mailbox a i = record a { mailbox = removed a.mailbox i }

mailbox-dropped : (a : AllObjects) (i : ℕ) → IsDropped a (removed_mailbox a i) has_mailbox i
mailbox-dropped a i WaitList.Sem = refl
mailbox-dropped a i WaitList.Event = refl
mailbox-dropped a i (WaitList.Channel ChannelKind.Mailbox end) = refl
mailbox-dropped a i (WaitList.Channel ChannelKind.MsgQueue end) = refl

-- a mailbox that nobody waits for is gone
pub tied-removed : (threads : List Thread) (l new : Lists) (name : List ℕ) (i : ℕ) → IsTied threads l → number_of l.objects.mailbox.objects name ≡ Some i → ((end : End) → line (waits_at l.channels ChannelKind.Mailbox end i) ≡ []) → new.objects ≡ removed_mailbox l.objects i → IsSound new.objects.mailbox
    → new.sems.items ≡ l.sems.items → new.events.items ≡ l.events.items → new.channels ≡ l.channels → IsTied threads new
tied-removed threads l new name i tied e empty is sound sems events channels =
    lists-dropped threads l new has_mailbox name i tied (λ list. ap (λ b. objects_in b list) is ∙ mailbox-dropped l.objects i list) by_name by_line (mailbox-sound l.objects new.objects tied.lists.sound sound (ap (λ b. b.sem) is) (ap (λ b. b.event) is) (ap (λ b. b.msgqueue) is))
    (channels-keep l new sems events (ends-same l.channels new.channels channels))
  where
    by_name : (list : WaitList) → has_mailbox list ≡ true → number_of (objects_in l.objects list).objects name ≡ Some i
    by_name (WaitList.Channel ChannelKind.Mailbox end) own = e
    by_name (WaitList.Channel ChannelKind.MsgQueue end) own = absurd (false≢true own)
    by_name WaitList.Sem own = absurd (false≢true own)
    by_name WaitList.Event own = absurd (false≢true own)

    by_line : (list : WaitList) → has_mailbox list ≡ true → line (waits_in l list i) ≡ []
    by_line (WaitList.Channel ChannelKind.Mailbox end) own = empty end
    by_line (WaitList.Channel ChannelKind.MsgQueue end) own = absurd (false≢true own)
    by_line WaitList.Sem own = absurd (false≢true own)
    by_line WaitList.Event own = absurd (false≢true own)

-- whom a deletion wakes
pub woken-seen : (threads : List Thread) (l : Lists) (name : List ℕ) (i : ℕ) (woken : List ℕ) (mailbox : Mailbox) → IsTied threads l → number_of l.objects.mailbox.objects name ≡ Some i
    → woken ≡ line (waits_at l.channels ChannelKind.Mailbox End.Receivers i) ++ line (waits_at l.channels ChannelKind.Mailbox End.Senders i) → found_mailbox (plain_mailboxes l) name ≡ Some mailbox
    → woken ≡ mail_line threads mailbox End.Receivers ++ mail_line threads mailbox End.Senders
woken-seen threads l name i woken mailbox tied e all is =
    all
    ∙ ap (λ ts. ts ++ line (waits_at l.channels ChannelKind.Mailbox End.Senders i)) (seen-line threads l name i End.Receivers tied e)
    ∙ ap (λ ts. mail_line threads (plain_mailbox l.channels (record { no = i; name = name })) End.Receivers ++ ts) (seen-line threads l name i End.Senders tied e)
    ∙ ap (λ (m : Mailbox). mail_line threads m End.Receivers ++ mail_line threads m End.Senders) (same_Some _ mailbox (sym (mail-some l.channels l.objects.mailbox.objects name i e) ∙ is))

-- what it leaves
pub removed-seen : (threads now : List Thread) (l left : Lists) (gone : AllObjects) (name : List ℕ) (i : ℕ) (woken : List ℕ) → IsSound l.objects.mailbox → number_of l.objects.mailbox.objects name ≡ Some i → now ≡ all_woken Code.Error threads woken → IsShownAs l left → gone ≡ removed_mailbox left.objects i
    → record (shown now gone left.sems.items left.events.items left.channels) { ready = woken } ≡ without_mailbox (tabled threads l) name woken
removed-seen threads now l left gone name i woken sound e rows same is =
    ap (λ b. record (shown now b left.sems.items left.events.items left.channels) { ready = woken }) (is ∙ ap (λ b. removed_mailbox b i) same.objects)
    ∙ (λ k. record (tabled threads l) {
      threads = rows k;
      ready = woken;
      sems = same.sems k;
      events = same.events k;
      mailboxes = (found-removed (plain_mailbox left.channels) (λ (x : Mailbox). x.name) l.objects.mailbox name i sound e (λ o. refl) ∙ ap (filter (λ (x : Mailbox). not (bytes_eq x.name name))) same.mailboxes) k;
      queues = same.queues k;
    })
