-- Before the first object is made, nobody waits.
use Rattle.std.proofs.Common.{◌≡◌, ℕ, zero, suc, ◌+◌, ◌<◌, arith, is_some, List, [], ◌∷◌, ◌++◌, Option, None, Bool, true, false, cond, refl, sym, ap, ◌∙◌, subst, length, map, replicate}
use Rattle.std.proofs.lemmas.List.{length-append}
use Rattle.std.proofs.lemmas.List.Elements.{All-push}
use Rattle.rt_plain.specs.declared.board.ThreadDef.{ThreadDef}
use Rattle.rt_plain.specs.declared.stmt.Call.{Call}
use Rattle.rt_plain.specs.kernel.State.{Thread, Stage, Initial, Active, Waiting, Suspended, Closed, InCall}
use Rattle.rt_plain.specs.kernel.Waiting.{number_in}
use Rattle.rt_plain.specs.kernel.Opening.{new_script_thread}
use Rattle.susp_list.specs.Rows.{Waits}
use Rattle.susp_list.specs.declared.row.Row.{Row as WaitRow}
use Rattle.object_box.specs.declared.object.Object.{Object}
use Rattle.object_box.specs.Classes.{AllObjects}
use Rattle.object_box.specs.Objects.{IsSound}
use Rattle.ipc_counts.specs.Flags.{Flagged}
use Rattle.ipc_queues.specs.Channels.{slots_of}
use Rattle.ipc_queues.specs.Ends.{PlainEnds, end_waits}
use Rattle.ipc_queues.specs.declared.channels.ChannelKind.{ChannelKind}
use Rattle.ipc_queues.specs.declared.ends.End.{End}
use Rattle.kernel_tables.specs.declared.lists.Lists.{Lists}
use Rattle.kernel_tables.specs.Listed.{row_with, wait_row, waits_in, slots_in}
use Rattle.kernel_tables.specs.WaitLists.{waits_for, objects_in, calls_on, calls_in, is_known}
use Rattle.kernel_tables.specs.declared.wait_list.WaitList.{WaitList}
use Rattle.kernel_tables.specs.Opened.{AreFreeEvents, AreEmpty, empty_waits}
use Rattle.kernel_tables.specs.Tied.{IsTied}
use Rattle.kernel_tables.specs.Threads.{row_at}

-- one event object more
pub event_more : (events : List Flagged) (event : Flagged) (n threads : ℕ) → AreFreeEvents events n threads → event.waiters ≡ empty_waits threads → AreFreeEvents (events ++ event ∷ []) (n + 1) threads
event_more events event n threads are free = record {
  len = let count = length-append events (event ∷ []) in omega (arith, count, are.len);
  free = All-push (λ (e : Flagged). e.waiters ≡ empty_waits threads) events event are.free free;
}

-- no call waits for an object where there is none
no_call : (waits_for : List ℕ → Call → Bool) (objects : List Object) (i : ℕ) (call : Call) → objects ≡ [] → calls_on waits_for objects i call ≡ false
no_call waits_for objects i call none = rw none refl

no_number : (in_list : Call → Bool) (stage : Stage) → ((call : Call) → in_list call ≡ false) → number_in in_list stage ≡ None
no_number in_list Initial never = refl
no_number in_list Active never = refl
no_number in_list (Waiting (InCall call) number) never = rw (never call) refl
no_number in_list (Waiting _ number) never = refl
no_number in_list Suspended never = refl
no_number in_list Closed never = refl

no_row : (in_list : Call → Bool) (thread : Thread) → ((call : Call) → in_list call ≡ false) → wait_row in_list thread ≡ None
no_row in_list thread never = ap (row_with thread.base) (no_number in_list thread.stage never)

no_rows : (in_list : Call → Bool) (threads : List Thread) → ((call : Call) → in_list call ≡ false) → replicate (length threads) None ≡ map (wait_row in_list) threads
no_rows in_list [] never = refl
no_rows in_list (thread ∷ threads) never = ap (λ (rows : List (Option WaitRow)). None ∷ rows) (no_rows in_list threads never) ∙ ap (λ (row : Option WaitRow). row ∷ map (wait_row in_list) threads) (sym (no_row in_list thread never))

-- a thread before its first statement waits for nothing
known : (a : AllObjects) (defs : List ThreadDef) (t : ℕ) → is_known a (row_at (map new_script_thread defs) t).stage ≡ true
known a [] t = refl
known a (def ∷ defs) zero = by_test def.started where
  by_test : (c : Bool) → is_known a (cond c Active Initial) ≡ true
  by_test true = refl
  by_test false = refl
known a (def ∷ defs) (suc t) = known a defs t

empty_rows : (w : Waits) (in_list : Call → Bool) (threads : List Thread) (n : ℕ) → ((call : Call) → in_list call ≡ false) → n ≡ length threads → w ≡ empty_waits n → w.rows ≡ map (wait_row in_list) threads
empty_rows w in_list threads n never count empty = ap (λ (v : Waits). v.rows) empty ∙ ap (λ m. replicate m None) count ∙ no_rows in_list threads never

-- the tables of a board without objects
pub tied_empty : (threads : List Thread) (defs : List ThreadDef) (l : Lists) (sems events mailboxes queues n : ℕ) → AreEmpty l sems events mailboxes queues n → n ≡ length threads → threads ≡ map new_script_thread defs → IsTied threads l
tied_empty threads defs l sems events mailboxes queues n empty count are = record {
  slots = by_slots;
  lists = record {
    sound = by_sound;
    rows = λ list i below. empty_rows (waits_in l list i) (calls_in l.objects list i) threads n (nobody list i) count (by_waits list i below);
    known = λ t. subst (λ all. is_known l.objects (row_at all t).stage ≡ true) (sym are) (known l.objects defs t);
  };
  wants = λ i t there is waits. let none : is_some (wait_row (calls_in l.objects WaitList.Event i) (row_at threads t)) ≡ false = ap is_some (no_row (calls_in l.objects WaitList.Event i) (row_at threads t) (nobody WaitList.Event i)) in absurd (cc (none, waits));
} where
  by_slots : (list : WaitList) → slots_in l list ≡ (objects_in l.objects list).limit
  by_slots WaitList.Sem = empty.free_sems.len ∙ sym empty.sem_limit
  by_slots WaitList.Event = empty.free_events.len ∙ sym empty.event_limit
  by_slots (WaitList.Channel ChannelKind.Mailbox end) = empty.mailbox_slots ∙ sym empty.mailbox_limit
  by_slots (WaitList.Channel ChannelKind.MsgQueue end) = empty.queue_slots ∙ sym empty.queue_limit

  by_sound : (list : WaitList) → IsSound (objects_in l.objects list)
  by_sound WaitList.Sem = empty.sems_sound
  by_sound WaitList.Event = empty.events_sound
  by_sound (WaitList.Channel ChannelKind.Mailbox end) = empty.mailboxes_sound
  by_sound (WaitList.Channel ChannelKind.MsgQueue end) = empty.queues_sound

  by_objects : (list : WaitList) → (objects_in l.objects list).objects ≡ []
  by_objects WaitList.Sem = empty.sem_objects
  by_objects WaitList.Event = empty.event_objects
  by_objects (WaitList.Channel ChannelKind.Mailbox end) = empty.mailbox_objects
  by_objects (WaitList.Channel ChannelKind.MsgQueue end) = empty.queue_objects

  within : (kind : ChannelKind) (end : End) (i : ℕ) → i < (objects_in l.objects (WaitList.Channel kind end)).limit → i < slots_of l.channels kind
  within kind end i below = subst (λ m. i < m) (sym (by_slots (WaitList.Channel kind end))) below

  by_waits : (list : WaitList) (i : ℕ) → i < (objects_in l.objects list).limit → waits_in l list i ≡ empty_waits n
  by_waits WaitList.Sem i below = empty.free_sems.free i _ (subst (λ m. i < m) (sym (by_slots WaitList.Sem)) below)
  by_waits WaitList.Event i below = empty.free_events.free i _ (subst (λ m. i < m) (sym (by_slots WaitList.Event)) below)
  by_waits (WaitList.Channel kind End.Receivers) i below = ap (λ (e : PlainEnds). end_waits e End.Receivers) (empty.free_channels kind i (within kind End.Receivers i below))
  by_waits (WaitList.Channel kind End.Senders) i below = ap (λ (e : PlainEnds). end_waits e End.Senders) (empty.free_channels kind i (within kind End.Senders i below))

  nobody : (list : WaitList) (i : ℕ) (call : Call) → calls_in l.objects list i call ≡ false
  nobody list i call = no_call (waits_for list) (objects_in l.objects list).objects i call (by_objects list)
