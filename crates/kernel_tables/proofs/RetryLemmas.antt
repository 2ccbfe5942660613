-- Who waits at an end of a mailbox or a message queue makes the call again.
use Rattle.std.proofs.Common.{◌≡◌, ◌<◌, ◌&&◌, ◌||◌, ℕ, List, [], ◌∷◌, Option, Some, None, Bool, true, false, refl, sym, cond, eqb, is_some}
use Rattle.std.specs.Prelude.{IfSome}
use Rattle.std.proofs.lemmas.Bool.{false≢true}
use Rattle.rt_plain.specs.declared.stmt.Call.{Call}
use Rattle.rt_plain.specs.kernel.Sound.{is_active}
use Rattle.rt_plain.specs.kernel.State.{Thread, Stage, Active, Waiting, InCall}
use Rattle.rt_plain.specs.kernel.Waiting.{number_in, head_of}
use Rattle.susp_list.specs.Rows.{line}
use Rattle.object_box.specs.declared.object.Object.{Object}
use Rattle.ipc_queues.specs.Channels.{waits_at}
use Rattle.ipc_queues.specs.declared.channels.ChannelKind.{ChannelKind}
use Rattle.ipc_queues.specs.declared.ends.End.{End}
use Rattle.kernel_tables.specs.declared.lists.Lists.{Lists}
use Rattle.kernel_tables.specs.declared.wait_list.WaitList.{WaitList}
use Rattle.kernel_tables.specs.Listed.{row_with, waits_in}
use Rattle.kernel_tables.specs.Repeated.{is_repeated, is_repeated_call}
use Rattle.kernel_tables.specs.Threads.{row_at}
use Rattle.kernel_tables.specs.Tied.{IsTied}
use Rattle.kernel_tables.specs.WaitLists.{objects_in, calls_in, calls_on, waits_for}
use Rattle.kernel_tables.proofs.WokenLemmas.{InLine, first-in}

list-repeats : (kind : ChannelKind) (end : End) (name : List ℕ) (call : Call) → waits_for (WaitList.Channel kind end) name call ≡ true → is_repeated_call call ≡ true
list-repeats ChannelKind.Mailbox End.Receivers name (Call.MbRecv other timeout) on = refl
list-repeats ChannelKind.Mailbox End.Receivers name _ on = absurd (false≢true on)
list-repeats ChannelKind.Mailbox End.Senders name (Call.MbSend other word timeout) on = refl
list-repeats ChannelKind.Mailbox End.Senders name _ on = absurd (false≢true on)
list-repeats ChannelKind.MsgQueue End.Receivers name (Call.MqRecv other timeout) on = refl
list-repeats ChannelKind.MsgQueue End.Receivers name _ on = absurd (false≢true on)
list-repeats ChannelKind.MsgQueue End.Senders name (Call.MqSend other timeout message) on = refl
list-repeats ChannelKind.MsgQueue End.Senders name _ on = absurd (false≢true on)

any-repeats : (kind : ChannelKind) (end : End) (i : ℕ) (objects : List Object) (call : Call) → calls_on (waits_for (WaitList.Channel kind end)) objects i call ≡ true → is_repeated_call call ≡ true
any-repeats kind end i [] call on = absurd (false≢true on)
any-repeats kind end i (o ∷ objects) call on = by_test (eqb o.no i) (waits_for (WaitList.Channel kind end) o.name call) refl on (any-repeats kind end i objects call) where
  by_test : (c d : Bool) → waits_for (WaitList.Channel kind end) o.name call ≡ d → (c && d) || calls_on (waits_for (WaitList.Channel kind end)) objects i call ≡ true
      → (calls_on (waits_for (WaitList.Channel kind end)) objects i call ≡ true → is_repeated_call call ≡ true) → is_repeated_call call ≡ true
  by_test true true is on rest = list-repeats kind end o.name call is
  by_test true false is on rest = rest on
  by_test false d is on rest = rest on

waiter-repeats : (kind : ChannelKind) (end : End) (i : ℕ) (objects : List Object) (prio : ℕ) (stage : Stage) → is_some (row_with prio (number_in (calls_on (waits_for (WaitList.Channel kind end)) objects i) stage)) ≡ true → is_repeated stage ≡ true
waiter-repeats kind end i objects prio (Waiting (InCall call) number) waits = by_test (calls_on (waits_for (WaitList.Channel kind end)) objects i call) refl waits where
  by_test : (c : Bool) → calls_on (waits_for (WaitList.Channel kind end)) objects i call ≡ c → is_some (row_with prio (cond c (Some number) None)) ≡ true → is_repeated_call call ≡ true
  by_test true on waits = any-repeats kind end i objects call on
  by_test false on waits = absurd (false≢true waits)
waiter-repeats kind end i objects prio _ waits = absurd (false≢true waits)

-- the first who waits there makes its call again
pub first-repeats : (threads : List Thread) (l : Lists) (kind : ChannelKind) (end : End) (i : ℕ) (o : Option ℕ) → IsTied threads l → i < (objects_in l.objects (WaitList.Channel kind end)).limit → o ≡ head_of (line (waits_at l.channels kind end i)) → IfSome o (λ t. is_repeated (row_at threads t).stage ≡ true)
first-repeats threads l kind end i None tied there e = tt
first-repeats threads l kind end i (Some t) tied there e =
    let list : WaitList = WaitList.Channel kind end in
    let first : InLine threads (calls_in l.objects list i) t = first-in threads l.objects (waits_in l) list i t tied.lists there (sym e) in
    waiter-repeats kind end i (objects_in l.objects list).objects (row_at threads t).base (row_at threads t).stage first.waits

-- a thread that waits in a call isn't active
pub repeated-idle : (stage : Stage) → is_repeated stage ≡ true → is_active stage ≡ false
repeated-idle (Waiting what number) waits = refl
repeated-idle Active waits = absurd (false≢true waits)
repeated-idle _ waits = refl
