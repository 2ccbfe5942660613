-- Who waits on an object, and in which order.
use Rattle.std.specs.Prelude.{ℕ, Bool, false, ◌&&◌, ◌||◌, List, [], ◌∷◌, Option, Some, None, map, drop, nat_lt, ◌==◌, if◌then◌else◌}
use Rattle.std.specs.List.{filter_map}
use Rattle.std.specs.Str.{bytes_eq}
use Rattle.rt_base.specs.declared.codes.WaitOrder.{WaitOrder}
use Rattle.rt_plain.specs.declared.stmt.Call.{Call}
use Rattle.rt_plain.specs.kernel.State.{State, Stage, Waiting, InCall, thread_at, thread_numbers}
use Rattle.rt_plain.specs.kernel.Priority.{cur}

-- a waiting thread, with what its place in a wait list depends on
pub record Waiter : Type 0 where
  pub thread : ℕ
  pub prio : ℕ
  pub number : ℕ

-- whether a came before b: by arrival number, and by thread number where these are equal
abbrev pub comes_before : Waiter → Waiter → Bool
comes_before a b = nat_lt a.number b.number || ((a.number == b.number) && nat_lt a.thread b.thread)

-- whether a stands before b: by arrival alone, or by current priority first
abbrev pub stands_before : WaitOrder → Waiter → Waiter → Bool
stands_before WaitOrder.Fifo a b = comes_before a b
stands_before WaitOrder.Prio a b = nat_lt a.prio b.prio || ((a.prio == b.prio) && comes_before a b)

-- the waiter put into a list that is in order
abbrev pub put_in_order : WaitOrder → Waiter → List Waiter → List Waiter
put_in_order order a [] = a ∷ []
put_in_order order a (b ∷ bs) = if stands_before order a b then a ∷ b ∷ bs else b ∷ put_in_order order a bs

-- the waiters in order
abbrev pub in_order : WaitOrder → List Waiter → List Waiter
in_order order [] = []
in_order order (w ∷ ws) = put_in_order order w (in_order order ws)

-- the first number of a list, if there is one
abbrev pub head_of : List ℕ → Option ℕ
head_of [] = None
head_of (t ∷ ts) = Some t

-- the threads of a wait list in order
abbrev pub threads_in_order : WaitOrder → List Waiter → List ℕ
threads_in_order order ws = map (λ w. w.thread) (in_order order ws)

-- the first waiter of a list
abbrev pub first_of : WaitOrder → List Waiter → Option ℕ
first_of order ws = head_of (threads_in_order order ws)

-- the second waiter of a list
abbrev pub second_of : WaitOrder → List Waiter → Option ℕ
second_of order ws = head_of (drop 1 (threads_in_order order ws))

-- the arrival number of a thread at this stage, if it waits in a call of the wait list
abbrev pub number_in : (Call → Bool) → Stage → Option ℕ
number_in in_list (Waiting (InCall call) number) = if in_list call then Some number else None
number_in in_list _ = None

-- the waiter with this arrival number, where there is one
abbrev pub waiter_of : State → ℕ → Option ℕ → Option Waiter
waiter_of s t None = None
waiter_of s t (Some number) = Some (record { thread = t; prio = cur s t; number = number })

-- the threads in a wait list, which is named by the calls that wait in it
abbrev pub wait_rows : State → (Call → Bool) → List Waiter
wait_rows s in_list = filter_map (λ t. waiter_of s t (number_in in_list (thread_at s t).stage)) (thread_numbers s)

-- the waiters of a wait list in order
abbrev pub waiters : State → WaitOrder → (Call → Bool) → List ℕ
waiters s order in_list = threads_in_order order (wait_rows s in_list)

-- the first waiter of a wait list
abbrev pub first_waiter : State → WaitOrder → (Call → Bool) → Option ℕ
first_waiter s order in_list = first_of order (wait_rows s in_list)

-- the calls that wait for a semaphore
abbrev pub takes_sem : List ℕ → Call → Bool
takes_sem sem (Call.SemTake name timeout) = bytes_eq name sem
takes_sem sem _ = false

-- the calls that wait for flags of an event object
abbrev pub receives_event : List ℕ → Call → Bool
receives_event event (Call.EventRecv name mask all clear timeout) = bytes_eq name event
receives_event event _ = false

-- the calls that wait for a mutex
abbrev pub takes_mutex : List ℕ → Call → Bool
takes_mutex mutex (Call.MutexTake name timeout) = bytes_eq name mutex
takes_mutex mutex _ = false

-- the calls that wait to send to a mailbox
abbrev pub sends_mail : List ℕ → Call → Bool
sends_mail mailbox (Call.MbSend name word timeout) = bytes_eq name mailbox
sends_mail mailbox _ = false

-- the calls that wait to receive from a mailbox
abbrev pub receives_mail : List ℕ → Call → Bool
receives_mail mailbox (Call.MbRecv name timeout) = bytes_eq name mailbox
receives_mail mailbox _ = false

-- the calls that wait to send to a queue
abbrev pub sends_message : List ℕ → Call → Bool
sends_message queue (Call.MqSend name timeout message) = bytes_eq name queue
sends_message queue _ = false

-- the calls that wait for a block of a pool
abbrev pub takes_block : List ℕ → Call → Bool
takes_block pool (Call.MpAlloc name timeout) = bytes_eq name pool
takes_block pool _ = false

-- the calls that wait to receive from a queue
abbrev pub receives_message : List ℕ → Call → Bool
receives_message queue (Call.MqRecv name timeout) = bytes_eq name queue
receives_message queue _ = false
