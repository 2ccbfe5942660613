-- The lists in which threads wait, each of an object.
use Rattle.std.specs.Prelude.{ℕ, Bool, true, false, ◌&&◌, List, Option, Some, None, ◌==◌}
use Rattle.std.specs.List.{list_any}
use Rattle.std.specs.Option.{option_map}
use Rattle.std.specs.Str.{bytes_eq}
use Rattle.rt_base.specs.declared.codes.Class.{Class}
use Rattle.rt_plain.specs.declared.stmt.Call.{Call}
use Rattle.rt_plain.specs.kernel.State.{Stage, Waiting, InCall}
use Rattle.rt_plain.specs.kernel.Waiting.{takes_sem, receives_event, sends_mail, receives_mail, sends_message, receives_message}
use Rattle.object_box.specs.declared.object.Object.{Object}
use Rattle.object_box.specs.Classes.{AllObjects, of_class}
use Rattle.object_box.specs.Objects.{ClassObjects, number_of}
use Rattle.ipc_queues.specs.declared.channels.ChannelKind.{ChannelKind}
use Rattle.ipc_queues.specs.declared.ends.End.{End}
use Rattle.kernel_tables.specs.declared.wait_list.WaitList.{WaitList}

-- the class whose objects have the list
abbrev pub class_of : WaitList → Class
class_of WaitList.Sem = Class.Sem
class_of WaitList.Event = Class.Event
class_of (WaitList.Channel ChannelKind.Mailbox end) = Class.Mailbox
class_of (WaitList.Channel ChannelKind.MsgQueue end) = Class.MsgQueue

-- the calls that wait in the list, of the object of a name
abbrev pub waits_for : WaitList → List ℕ → Call → Bool
waits_for WaitList.Sem name call = takes_sem name call
waits_for WaitList.Event name call = receives_event name call
waits_for (WaitList.Channel ChannelKind.Mailbox End.Receivers) name call = receives_mail name call
waits_for (WaitList.Channel ChannelKind.Mailbox End.Senders) name call = sends_mail name call
waits_for (WaitList.Channel ChannelKind.MsgQueue End.Receivers) name call = receives_message name call
waits_for (WaitList.Channel ChannelKind.MsgQueue End.Senders) name call = sends_message name call

-- the list in which a thread waits in a call, and the name of its object
abbrev pub list_of : Call → Option (WaitList × List ℕ)
list_of (Call.SemTake name timeout) = Some (WaitList.Sem, name)
list_of (Call.EventRecv name mask all clear timeout) = Some (WaitList.Event, name)
list_of (Call.MbSend name word timeout) = Some (WaitList.Channel ChannelKind.Mailbox End.Senders, name)
list_of (Call.MbRecv name timeout) = Some (WaitList.Channel ChannelKind.Mailbox End.Receivers, name)
list_of (Call.MqSend name timeout message) = Some (WaitList.Channel ChannelKind.MsgQueue End.Senders, name)
list_of (Call.MqRecv name timeout) = Some (WaitList.Channel ChannelKind.MsgQueue End.Receivers, name)
list_of _ = None

-- each list has a number of its own
abbrev pub index : WaitList → ℕ
index WaitList.Sem = 0
index WaitList.Event = 1
index (WaitList.Channel ChannelKind.Mailbox End.Receivers) = 2
index (WaitList.Channel ChannelKind.Mailbox End.Senders) = 3
index (WaitList.Channel ChannelKind.MsgQueue End.Receivers) = 4
index (WaitList.Channel ChannelKind.MsgQueue End.Senders) = 5

abbrev pub is_same : WaitList → WaitList → Bool
is_same list other = index list == index other

-- whether it is this list of the object of this number
abbrev pub is_at : WaitList → ℕ → Option (WaitList × ℕ) → Bool
is_at list i None = false
is_at list i (Some (other, j)) = is_same list other && (i == j)

-- the objects that have the list
abbrev pub objects_in : AllObjects → WaitList → ClassObjects
objects_in a list = of_class (class_of list) a

-- whether there is an object of a name
abbrev pub is_there : List Object → List ℕ → Bool
is_there objects name = list_any (λ o. bytes_eq o.name name) objects

-- whether there is one that has the list
abbrev pub is_known_name : AllObjects → Option (WaitList × List ℕ) → Bool
is_known_name a None = true
is_known_name a (Some (list, name)) = is_there (objects_in a list).objects name

-- whether the object that a call waits for is there
abbrev pub is_known_call : AllObjects → Call → Bool
is_known_call a call = is_known_name a (list_of call)

abbrev pub is_known : AllObjects → Stage → Bool
is_known a (Waiting (InCall call) number) = is_known_call a call
is_known a _ = true

-- the same list, with the number of the object
abbrev pub number_at : AllObjects → Option (WaitList × List ℕ) → Option (WaitList × ℕ)
number_at a None = None
number_at a (Some (list, name)) = option_map (λ i. (list, i)) (number_of (objects_in a list).objects name)

-- the list in which a thread at this stage stands, with the number of its object
abbrev pub list_at : AllObjects → Stage → Option (WaitList × ℕ)
list_at a (Waiting (InCall call) number) = number_at a (list_of call)
list_at a _ = None

-- the calls that wait for the object of a number, by its name
abbrev pub calls_on : (List ℕ → Call → Bool) → List Object → ℕ → Call → Bool
calls_on waits_for objects i call = list_any (λ o. (o.no == i) && waits_for o.name call) objects

-- the calls that wait in a list of the object of a number
abbrev pub calls_in : AllObjects → WaitList → ℕ → Call → Bool
calls_in a list i call = calls_on (waits_for list) (objects_in a list).objects i call
