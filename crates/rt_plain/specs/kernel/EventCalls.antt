-- The calls on event objects.
use Rattle.std.specs.Prelude.{ℕ, Bool, true, false, not, List, ◌∷◌, Option, map, filter, length, fold, is_some, nat_le, bit_and, bit_or, bit_xor, if◌then◌else◌, ◌==◌}
use Rattle.std.specs.List.{find}
use Rattle.std.specs.Str.{bytes_eq}
use Rattle.rt_base.specs.declared.codes.Code.{Code}
use Rattle.rt_base.specs.declared.codes.WaitOrder.{WaitOrder}
use Rattle.rt_plain.specs.declared.stmt.Call.{Call}
use Rattle.rt_plain.specs.PlainBoard.{PlainBoard}
use Rattle.rt_plain.specs.kernel.State.{State, EventObj, Stage, Waiting, InCall, thread_at, with_thread}
use Rattle.rt_plain.specs.kernel.Waiting.{waiters, receives_event}
use Rattle.rt_plain.specs.kernel.Effects.{Effect, each_effect, wake_effect}
use Rattle.rt_plain.specs.kernel.Outcome.{By, First, Outcome, refusal, success, silent_success, with_value, wait_or_refusal, found_outcome}

-- the event object of a name
abbrev pub find_event : State → List ℕ → Option EventObj
find_event s name = find (λ o. bytes_eq o.name name) s.events

-- the state with another row for an event object
abbrev pub with_event : State → EventObj → State
with_event s event = record s { events = map (λ o. if bytes_eq o.name event.name then event else o) s.events }

-- event_create: a new one without flags, where the name is free and the class has room
abbrev pub event_create : PlainBoard → List ℕ → WaitOrder → State → Outcome
event_create b name order s =
    if is_some (find_event s name) then refusal s Code.Busy
    else if nat_le b.limits.event (length s.events) then refusal s Code.NoMem
    else silent_success (record s { events = record { name = name; flags = 0; order = order } ∷ s.events })

-- which flags a receiver wants, whether all of them, and whether it clears them
pub record Want : Type 0 where
  pub mask : ℕ
  pub all : Bool
  pub clear : Bool

-- whether the flags satisfy it
abbrev pub is_satisfied : ℕ → Want → Bool
is_satisfied flags want = if want.all then bit_and flags want.mask == want.mask else not (bit_and flags want.mask == 0)

-- the flags without those of the mask
abbrev pub flags_without : ℕ → ℕ → ℕ
flags_without flags mask = bit_xor flags (bit_and flags mask)

-- the flags after a receiver was satisfied
abbrev pub flags_after : ℕ → Want → ℕ
flags_after flags want = if want.clear then flags_without flags want.mask else flags

-- the call is satisfied at once, or waits
abbrev pub event_recv_outcome : EventObj → Want → Option ℕ → State → By → Outcome
event_recv_outcome event want timeout s by =
    if is_satisfied event.flags want
    then silent_success (with_value (with_event s (record event { flags = flags_after event.flags want })) by (bit_and event.flags want.mask))
    else wait_or_refusal s by First (Call.EventRecv event.name want.mask want.all want.clear timeout) timeout Code.Timeout

-- event_recv: from the event object of a name
abbrev pub event_recv : List ℕ → Want → Option ℕ → State → By → Outcome
event_recv name want timeout s by = found_outcome (find_event s name) (refusal s Code.Inval) (λ event. event_recv_outcome event want timeout s by)

-- what a call wants of an event object
abbrev pub want_of_call : Call → Want
want_of_call (Call.EventRecv name mask all clear timeout) = record { mask = mask; all = all; clear = clear }
want_of_call _ = record { mask = 0; all = true; clear = false }

-- what a thread at this stage wants of an event object
abbrev pub want_of : Stage → Want
want_of (Waiting (InCall call) number) = want_of_call call
want_of _ = record { mask = 0; all = true; clear = false }

-- a waiter of an event object, with what it wants
pub record Wanting : Type 0 where
  pub thread : ℕ
  pub want : Want

-- those whom the flags satisfy
abbrev pub satisfied_waiters : ℕ → List Wanting → List Wanting
satisfied_waiters flags wanting = filter (λ w. is_satisfied flags w.want) wanting

-- the flags after all of them were satisfied: those that any of them clears are gone
abbrev pub flags_left : ℕ → List Wanting → ℕ
flags_left flags wanting = fold (λ left w. flags_after left w.want) flags (satisfied_waiters flags wanting)

-- a satisfied waiter wakes, and its value is the flags that it wanted
abbrev pub flags_wake_effect : ℕ → Wanting → State → Effect
flags_wake_effect flags w s = wake_effect Code.Ok w.thread (let row = thread_at s w.thread in with_thread s w.thread (record row { value = bit_and flags w.want.mask }))

-- the waiters of an event object, in its order, with what they want
abbrev pub wanting_threads : State → EventObj → List Wanting
wanting_threads s event = map (λ t. record { thread = t; want = want_of (thread_at s t).stage }) (waiters s event.order (receives_event event.name))

-- sets flags, wakes in order all whom they satisfy, and then clears what these clear
abbrev pub event_send_outcome : EventObj → ℕ → State → Outcome
event_send_outcome event mask s =
    let flags = bit_or event.flags mask in
    success (each_effect (flags_wake_effect flags) (satisfied_waiters flags (wanting_threads s event)) (with_event s (record event { flags = flags_left flags (wanting_threads s event) })))

-- event_send: to the event object of a name
abbrev pub event_send : List ℕ → ℕ → State → Outcome
event_send name mask s = found_outcome (find_event s name) (refusal s Code.Inval) (λ event. event_send_outcome event mask s)
