-- The ends of mailboxes and message queues, and who waits there.
use Rattle.std.proofs.Common.{◌≡◌, ◌+◌, ◌<◌, ◌≤◌, ℕ, suc, List, [], ◌∷◌, ◌++◌, Option, Some, None, Bool, true, false, refl, sym, ap, ◌∙◌, subst, arith, length, filter_map, is_some, length-set, cond}
use Rattle.std.specs.Prelude.{slice_set}
use Rattle.std.specs.List.{range_with_len, cons_option}
use Rattle.std.proofs.lemmas.Bool.{false≢true}
use Rattle.std.proofs.lemmas.Grind.{fold-append}
use Rattle.std.proofs.lemmas.List.{length-map}
use Rattle.std.proofs.lemmas.List.FromFn.{length-range_with_len}
use Rattle.rt_base.specs.declared.codes.Code.{Code}
use Rattle.rt_base.specs.declared.codes.WaitOrder.{WaitOrder}
use Rattle.rt_plain.specs.declared.stmt.Call.{Call}
use Rattle.rt_plain.specs.kernel.State.{Thread, Stage, Waiting, InCall}
use Rattle.rt_plain.specs.kernel.Waiting.{Waiter, number_in, in_order}
use Rattle.susp_list.specs.Rows.{line}
use Rattle.susp_list.proofs.OrderLemmas.{length-in_order}
use Rattle.ipc_counts.specs.Counted.{Counted}
use Rattle.ipc_counts.specs.Flags.{Flagged}
use Rattle.ipc_queues.specs.Channels.{PlainChannels, mail_at, messages_at, no_mail, no_messages, slots_of, waits_at}
use Rattle.ipc_queues.specs.Ends.{PlainEnds, end_waits}
use Rattle.ipc_queues.specs.declared.channels.ChannelKind.{ChannelKind}
use Rattle.ipc_queues.specs.declared.channels.MailSlot.{MailSlot}
use Rattle.ipc_queues.specs.declared.channels.MessageSlot.{MessageSlot}
use Rattle.ipc_queues.specs.declared.ends.End.{End}
use Rattle.kernel_tables.specs.declared.lists.Lists.{Lists}
use Rattle.kernel_tables.specs.declared.wait_list.WaitList.{WaitList}
use Rattle.kernel_tables.specs.Listed.{sem_at, event_at, waits_in, slots_in}
use Rattle.kernel_tables.specs.Tabled.{base_waiter, waiter_with, line_of, all_woken, woken_row}
use Rattle.kernel_tables.specs.Threads.{row_at, with_row}
use Rattle.kernel_tables.specs.Tied.{IsTied}
use Rattle.kernel_tables.specs.WaitLists.{is_at, calls_in}
use Rattle.kernel_tables.proofs.ListChangeLemmas.{set-part}
use Rattle.kernel_tables.proofs.MadeLemmas.{KeepsWaits}
use Rattle.kernel_tables.proofs.TiedLemmas.{tied-line}
use Rattle.kernel_tables.proofs.WaitListLemmas.{lists-apart}

-- where all ends keep who waits there
pub record KeepsEnds (c new : PlainChannels) : Type 0 where
  pub slots : (kind : ChannelKind) → slots_of new kind ≡ slots_of c kind
  pub rows : (kind : ChannelKind) (end : End) (j : ℕ) → (waits_at new kind end j).rows ≡ (waits_at c kind end j).rows

pub ends-same : (c new : PlainChannels) → new ≡ c → KeepsEnds c new
ends-same c new same = record { slots = λ kind. ap (λ (x : PlainChannels). slots_of x kind) same; rows = λ kind end j. ap (λ (x : PlainChannels). (waits_at x kind end j).rows) same }

-- another mailbox at a number, whose ends have the same rows
pub mails-kept : (c new : PlainChannels) (i : ℕ) (slot : MailSlot) → new ≡ record c { mails = slice_set c.mails i slot } → ((end : End) → (end_waits slot.ends end).rows ≡ (end_waits (mail_at c.mails i).ends end).rows) → KeepsEnds c new
mails-kept c new i slot is same = record { slots = by_kind; rows = by_rows } where
  by_kind : (kind : ChannelKind) → slots_of new kind ≡ slots_of c kind
  by_kind ChannelKind.Mailbox = ap (λ (x : PlainChannels). length x.mails) is ∙ length-set c.mails i slot
  by_kind ChannelKind.MsgQueue = ap (λ (x : PlainChannels). length x.messages) is

  by_rows : (kind : ChannelKind) (end : End) (j : ℕ) → (waits_at new kind end j).rows ≡ (waits_at c kind end j).rows
  by_rows ChannelKind.Mailbox end j = ap (λ (x : PlainChannels). (end_waits (mail_at x.mails j).ends end).rows) is ∙ set-part (λ (s : MailSlot). (end_waits s.ends end).rows) c.mails j i slot no_mail (same end)
  by_rows ChannelKind.MsgQueue end j = ap (λ (x : PlainChannels). (end_waits (messages_at x.messages j).ends end).rows) is

-- another message queue at a number, whose ends have the same rows
pub messages-kept : (c new : PlainChannels) (i : ℕ) (slot : MessageSlot) → new ≡ record c { messages = slice_set c.messages i slot } → ((end : End) → (end_waits slot.ends end).rows ≡ (end_waits (messages_at c.messages i).ends end).rows) → KeepsEnds c new
messages-kept c new i slot is same = record { slots = by_kind; rows = by_rows } where
  by_kind : (kind : ChannelKind) → slots_of new kind ≡ slots_of c kind
  by_kind ChannelKind.Mailbox = ap (λ (x : PlainChannels). length x.mails) is
  by_kind ChannelKind.MsgQueue = ap (λ (x : PlainChannels). length x.messages) is ∙ length-set c.messages i slot

  by_rows : (kind : ChannelKind) (end : End) (j : ℕ) → (waits_at new kind end j).rows ≡ (waits_at c kind end j).rows
  by_rows ChannelKind.Mailbox end j = ap (λ (x : PlainChannels). (end_waits (mail_at x.mails j).ends end).rows) is
  by_rows ChannelKind.MsgQueue end j = ap (λ (x : PlainChannels). (end_waits (messages_at x.messages j).ends end).rows) is ∙ set-part (λ (s : MessageSlot). (end_waits s.ends end).rows) c.messages j i slot no_messages (same end)

-- the rows of two ends with another order
pub order-rows : (x : PlainEnds) (order : WaitOrder) (end : End) → (end_waits (record x { order = order }) end).rows ≡ (end_waits x end).rows
order-rows x order End.Receivers = refl
order-rows x order End.Senders = refl

-- where the ends are kept, all waiters are
pub channels-keep : (l new : Lists) → new.sems.items ≡ l.sems.items → new.events.items ≡ l.events.items → KeepsEnds l.channels new.channels → KeepsWaits l new
channels-keep l new sems events keeps = record { slots = by_list; rows = by_rows; wants = λ j. ap (λ (xs : List Flagged). (event_at xs j).wants) events } where
  by_list : (list : WaitList) → slots_in new list ≡ slots_in l list
  by_list WaitList.Sem = ap length sems
  by_list WaitList.Event = ap length events
  by_list (WaitList.Channel kind end) = keeps.slots kind

  by_rows : (list : WaitList) (j : ℕ) → (waits_in new list j).rows ≡ (waits_in l list j).rows
  by_rows WaitList.Sem j = ap (λ (xs : List Counted). (sem_at xs j).waiters.rows) sems
  by_rows WaitList.Event j = ap (λ (xs : List Flagged). (event_at xs j).waiters.rows) events
  by_rows (WaitList.Channel kind end) j = keeps.rows kind end j

-- the two ends are two lists
pub senders-apart : (kind : ChannelKind) (i : ℕ) → is_at (WaitList.Channel kind End.Senders) i (Some (WaitList.Channel kind End.Receivers, i)) ≡ false
senders-apart ChannelKind.Mailbox i = refl
senders-apart ChannelKind.MsgQueue i = refl

pub receivers-apart : (kind : ChannelKind) (i : ℕ) → is_at (WaitList.Channel kind End.Receivers) i (Some (WaitList.Channel kind End.Senders, i)) ≡ false
receivers-apart ChannelKind.Mailbox i = refl
receivers-apart ChannelKind.MsgQueue i = refl

-- what is in one of two lists isn't in the other
apart-few : {B : Type 0} (f g : ℕ → Option B) → ((t : ℕ) → is_some (f t) ≡ true → g t ≡ None) → (ts : List ℕ) → length (filter_map f ts) + length (filter_map g ts) ≤ length ts
apart-few f g apart [] = omega arith
apart-few {B = B} f g apart (t ∷ ts) = by_values (f t) (g t) (apart t) (apart-few f g apart ts) where
  by_values : (x y : Option B) → (is_some x ≡ true → y ≡ None) → length (filter_map f ts) + length (filter_map g ts) ≤ length ts → length (cons_option x (filter_map f ts)) + length (cons_option y (filter_map g ts)) ≤ suc (length ts)
  by_values None None apart few = omega (arith, few)
  by_values None (Some y) apart few = omega (arith, few)
  by_values (Some x) None apart few = omega (arith, few)
  by_values (Some x) (Some y) apart few = absurd (false≢true (sym (ap is_some (apart refl))))

waiter-apart : (threads : List Thread) (p q : Call → Bool) → ((call : Call) → p call ≡ true → q call ≡ false) → (t : ℕ) → is_some (base_waiter threads p t) ≡ true → base_waiter threads q t ≡ None
waiter-apart threads p q apart t = by_stage (row_at threads t).stage where
  by_stage : (stage : Stage) → is_some (waiter_with t (row_at threads t).base (number_in p stage)) ≡ true → waiter_with t (row_at threads t).base (number_in q stage) ≡ None
  by_stage (Waiting (InCall call) number) waits = by_test (p call) refl waits where
    by_test : (c : Bool) → p call ≡ c → is_some (waiter_with t (row_at threads t).base (cond c (Some number) None)) ≡ true → waiter_with t (row_at threads t).base (cond (q call) (Some number) None) ≡ None
    by_test true on waits = ap (λ c. waiter_with t (row_at threads t).base (cond c (Some number) None)) (apart call on)
    by_test false on waits = absurd (false≢true waits)
  by_stage _ waits = absurd (false≢true waits)

-- who waits at both ends is no more than there are threads
lines-few : (threads : List Thread) (one other : WaitOrder) (p q : Call → Bool) → ((call : Call) → p call ≡ true → q call ≡ false) → length (line_of threads one p) + length (line_of threads other q) ≤ length threads
lines-few threads one other p q apart =
    let all = range_with_len 0 (length threads) in
    let ps = filter_map (base_waiter threads p) all in
    let qs = filter_map (base_waiter threads q) all in
    omega (
      arith,
      length-map (in_order one ps) (λ (w : Waiter). w.thread),
      length-in_order one ps,
      length-map (in_order other qs) (λ (w : Waiter). w.thread),
      length-in_order other qs,
      apart-few (base_waiter threads p) (base_waiter threads q) (waiter-apart threads p q apart) all,
      length-range_with_len 0 (length threads),
    )

pub ends-few : (threads : List Thread) (l : Lists) (kind : ChannelKind) (i : ℕ) → IsTied threads l → i < slots_of l.channels kind
    → length (line (waits_at l.channels kind End.Receivers i)) + length (line (waits_at l.channels kind End.Senders i)) ≤ length threads
ends-few threads l kind i tied there =
    let receivers = WaitList.Channel kind End.Receivers in
    let senders = WaitList.Channel kind End.Senders in
    let first = tied-line threads (waits_in l receivers i) (calls_in l.objects receivers i) (tied.lists.rows receivers i (subst (λ n. i < n) (tied.slots receivers) there)) in
    let second = tied-line threads (waits_in l senders i) (calls_in l.objects senders i) (tied.lists.rows senders i (subst (λ n. i < n) (tied.slots senders) there)) in
    let few = lines-few threads (waits_in l receivers i).order (waits_in l senders i).order (calls_in l.objects receivers i) (calls_in l.objects senders i) (lists-apart l.objects receivers senders i i tied.lists.sound (senders-apart kind i)) in
    omega (arith, ap length first, ap length second, few)

-- those who wake after others
pub woken-more : (code : Code) (threads now last : List Thread) (one other : List ℕ) → now ≡ all_woken code threads one → last ≡ all_woken code now other → last ≡ all_woken code threads (one ++ other)
woken-more code threads now last one other first second = second ∙ ap (λ all. all_woken code all other) first ∙ sym (fold-append (λ all t. with_row all t (woken_row code)) threads one other)
