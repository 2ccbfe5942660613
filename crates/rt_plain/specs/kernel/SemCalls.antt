-- The calls on semaphores.
use Rattle.std.specs.Prelude.{ℕ, ◌+◌, ◌-◌, List, ◌∷◌, Option, Some, None, map, length, is_some, nat_lt, nat_le, if◌then◌else◌, ◌==◌}
use Rattle.std.specs.List.{find}
use Rattle.std.specs.Str.{bytes_eq}
use Rattle.rt_base.specs.declared.codes.Code.{Code}
use Rattle.rt_base.specs.declared.codes.WaitOrder.{WaitOrder}
use Rattle.rt_plain.specs.declared.stmt.Call.{Call}
use Rattle.rt_plain.specs.PlainBoard.{PlainBoard}
use Rattle.rt_plain.specs.kernel.State.{State, Sem}
use Rattle.rt_plain.specs.kernel.Waiting.{first_waiter, takes_sem}
use Rattle.rt_plain.specs.kernel.Effects.{wake_effect}
use Rattle.rt_plain.specs.kernel.Outcome.{By, First, Outcome, refusal, success, silent_success, wait_or_refusal, found_outcome}

-- the semaphore of a name
abbrev pub find_sem : State → List ℕ → Option Sem
find_sem s name = find (λ o. bytes_eq o.name name) s.sems

-- the state with another row for a semaphore
abbrev pub with_sem : State → Sem → State
with_sem s sem = record s { sems = map (λ o. if bytes_eq o.name sem.name then sem else o) s.sems }

-- sem_create: a new one, where the name is free and the class has room
abbrev pub sem_create : PlainBoard → List ℕ → ℕ → WaitOrder → State → Outcome
sem_create b name value order s =
    if is_some (find_sem s name) then refusal s Code.Busy
    else if nat_le b.limits.sem (length s.sems) then refusal s Code.NoMem
    else silent_success (record s { sems = record { name = name; value = value; order = order } ∷ s.sems })

-- a value above 0 is one less, and else the call waits
abbrev pub sem_take_outcome : Sem → Option ℕ → State → By → Outcome
sem_take_outcome sem timeout s by =
    if nat_lt 0 sem.value then silent_success (with_sem s (record sem { value = sem.value - 1 }))
    else wait_or_refusal s by First (Call.SemTake sem.name timeout) timeout Code.Timeout

-- sem_take: the semaphore of a name
abbrev pub sem_take : List ℕ → Option ℕ → State → By → Outcome
sem_take name timeout s by = found_outcome (find_sem s name) (refusal s Code.Inval) (λ sem. sem_take_outcome sem timeout s by)

-- the value is one more, up to 65535
abbrev pub sem_raise_outcome : Sem → State → Outcome
sem_raise_outcome sem s = if sem.value == 65535 then refusal s Code.Full else silent_success (with_sem s (record sem { value = sem.value + 1 }))

-- the first waiter wakes and the value stays; where nobody waits, the value is one more
abbrev pub sem_release_outcome : Sem → Option ℕ → State → Outcome
sem_release_outcome sem None s = sem_raise_outcome sem s
sem_release_outcome sem (Some t) s = success (wake_effect Code.Ok t s)

-- sem_release: the semaphore of a name
abbrev pub sem_release : List ℕ → State → Outcome
sem_release name s = found_outcome (find_sem s name) (refusal s Code.Inval) (λ sem. sem_release_outcome sem (first_waiter s sem.order (takes_sem name)) s)
