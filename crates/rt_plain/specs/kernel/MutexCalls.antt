-- The calls on mutexes.
use Rattle.std.specs.Prelude.{ℕ, ◌+◌, ◌-◌, List, ◌∷◌, Option, Some, None, map, length, is_some, nat_lt, nat_le, if◌then◌else◌, ◌==◌}
use Rattle.std.specs.List.{find}
use Rattle.std.specs.Str.{bytes_eq}
use Rattle.rt_base.specs.declared.codes.Code.{Code}
use Rattle.rt_plain.specs.declared.stmt.Call.{Call}
use Rattle.rt_plain.specs.PlainBoard.{PlainBoard}
use Rattle.rt_plain.specs.kernel.State.{State, Mutex, Holding}
use Rattle.rt_plain.specs.kernel.Priority.{holding_of}
use Rattle.rt_plain.specs.kernel.Owners.{with_owner, give_back_effect}
use Rattle.rt_plain.specs.kernel.Outcome.{By, First, Outcome, refusal, success, silent_success, with_value, wait_or_refusal, found_outcome, thread_outcome}

-- the mutex of a name
abbrev pub find_mutex : State → List ℕ → Option Mutex
find_mutex s name = find (λ o. bytes_eq o.name name) s.mutexes

-- the state with another row for a mutex
abbrev pub with_mutex : State → Mutex → State
with_mutex s mutex = record s { mutexes = map (λ o. if bytes_eq o.name mutex.name then mutex else o) s.mutexes }

-- the mutex was taken so many times
abbrev pub with_hold : State → Holding → ℕ → State
with_hold s h hold = record s { holdings = map (λ o. if bytes_eq o.mutex h.mutex then record h { hold = hold } else o) s.holdings }

-- mutex_create: a new one that nobody owns, where the name is free and the class has room
abbrev pub mutex_create : PlainBoard → List ℕ → ℕ → State → Outcome
mutex_create b name ceiling s =
    if is_some (find_mutex s name) then refusal s Code.Busy
    else if nat_le b.limits.mutex (length s.mutexes) then refusal s Code.NoMem
    else silent_success (record s { mutexes = record { name = name; ceiling = ceiling } ∷ s.mutexes })

-- its owner holds the mutex once more, up to 255
abbrev pub hold_more_outcome : Holding → State → Outcome
hold_more_outcome h s = if h.hold == 255 then refusal s Code.Full else silent_success (with_hold s h (h.hold + 1))

-- a free mutex is owned, its own is held once more, and that of another thread is waited for
abbrev pub mutex_take_outcome : List ℕ → Option Holding → Option ℕ → State → By → Outcome
mutex_take_outcome name None timeout s by = thread_outcome s by (λ t core. silent_success (with_owner s name t))
mutex_take_outcome name (Some h) timeout s by = thread_outcome s by (λ t core. if h.owner == t then hold_more_outcome h s else wait_or_refusal s by First (Call.MutexTake name timeout) timeout Code.Timeout)

-- mutex_take: the mutex of a name
abbrev pub mutex_take : List ℕ → Option ℕ → State → By → Outcome
mutex_take name timeout s by = found_outcome (find_mutex s name) (refusal s Code.Inval) (λ mutex. mutex_take_outcome name (holding_of s name) timeout s by)

-- its owner holds the mutex once less, and at the last time it passes to the first waiter or to nobody
abbrev pub hold_less_outcome : Holding → State → Outcome
hold_less_outcome h s = if nat_lt 1 h.hold then silent_success (with_hold s h (h.hold - 1)) else success (give_back_effect h.mutex s)

-- only its owner releases a mutex
abbrev pub mutex_release_outcome : Option Holding → State → By → Outcome
mutex_release_outcome None s by = refusal s Code.Error
mutex_release_outcome (Some h) s by = thread_outcome s by (λ t core. if h.owner == t then hold_less_outcome h s else refusal s Code.Error)

-- mutex_release: the mutex of a name
abbrev pub mutex_release : List ℕ → State → By → Outcome
mutex_release name s by = found_outcome (find_mutex s name) (refusal s Code.Inval) (λ mutex. mutex_release_outcome (holding_of s name) s by)

-- mutex_ceiling: another ceiling, and the old one is the value
abbrev pub mutex_ceiling : List ℕ → ℕ → State → By → Outcome
mutex_ceiling name ceiling s by = found_outcome (find_mutex s name) (refusal s Code.Inval) (λ mutex. silent_success (with_value (with_mutex s (record mutex { ceiling = ceiling })) by mutex.ceiling))
