-- The calls on semaphores and event objects change no base priority, so they settle to themselves.
use Rattle.std.proofs.Common.{◌≡◌, ℕ, zero, suc, ◌+◌, ◌-◌, List, [], ◌∷◌, Option, Some, None, Bool, true, false, cond, refl, bit_and, bit_or, is_some, nat_lt, not, filter, map}
use Rattle.std.specs.List.{AllByRecursion}
use Rattle.std.specs.Str.{bytes_eq}
use Rattle.rt_base.specs.declared.codes.Code.{Code}
use Rattle.rt_base.specs.declared.codes.WaitOrder.{WaitOrder}
use Rattle.rt_plain.specs.declared.stmt.Call.{Call}
use Rattle.rt_plain.specs.PlainBoard.{PlainBoard}
use Rattle.rt_plain.specs.kernel.State.{State, Sem, EventObj, InCall, thread_at, with_thread}
use Rattle.rt_plain.specs.kernel.Priority.{mutex_of_call}
use Rattle.rt_plain.specs.kernel.Effects.{Effect, each_effect, wake_effect}
use Rattle.rt_plain.specs.kernel.Waiting.{waiters, first_waiter, takes_sem, receives_event}
use Rattle.rt_plain.specs.kernel.Outcome.{By, ByThread, ByTimer, Attempt, First, Again, refusal, first_wait_outcome, is_past, wait_or_refusal, wait_outcome, missing_outcome, with_value, with_text}
use Rattle.rt_plain.specs.kernel.SemCalls.{find_sem, with_sem, sem_create, sem_take, sem_release, sem_release_outcome}
use Rattle.rt_plain.specs.kernel.EventCalls.{Want, Wanting, find_event, with_event, event_create, event_recv, event_send, flags_after, flags_wake_effect, flags_left, want_of, wanting_threads, satisfied_waiters}
use Rattle.rt_plain.specs.kernel.DeleteCall.{sem_deletion, event_deletion}
use Rattle.rt_kernel.proofs.Quiet.{ForNoMutex, IsApart, IsLively, IsQuiet, IsQuietCall, apart-kept, first-apart, quiet-else, quiet-self, quiet-then, quiet-row, quiet-wake, quiet-found, quiet-if, quiet-wait, waiters-apart}
use Rattle.rt_kernel.proofs.StageLemmas.{active_apart}

-- the calls of each list wait for no mutex
sem-lists : (name : List ℕ) → ForNoMutex (takes_sem name)
sem-lists name (Call.SemTake other timeout) is = refl
sem-lists name _ is = absurd cc

event-lists : (name : List ℕ) → ForNoMutex (receives_event name)
event-lists name (Call.EventRecv other mask all clear timeout) is = refl
event-lists name _ is = absurd cc

-- other objects alone
quiet-sems : (s : State) (sems : List Sem) → IsQuiet s (record s { sems = sems })
quiet-sems s sems = quiet-else s (record s { sems = sems }) refl refl refl refl

quiet-events : (s : State) (events : List EventObj) → IsQuiet s (record s { events = events })
quiet-events s events = quiet-else s (record s { events = events }) refl refl refl refl

-- what the caller gets
pub quiet-value : (s : State) (by : By) (value : ℕ) → IsQuiet s (with_value s by value)
quiet-value s (ByThread t core) value = quiet-row s t (record (thread_at s t) { value = value }) refl refl refl
quiet-value s (ByTimer name) value = quiet-self s

pub quiet-text : (s : State) (by : By) (text : List ℕ) → IsQuiet s (with_text s by text)
quiet-text s (ByThread t core) text = quiet-row s t (record (thread_at s t) { text = text }) refl refl refl
quiet-text s (ByTimer name) text = quiet-self s

-- one action after the other, on threads that await no mutex
all-kept : {A : Type 0} (key : A → ℕ) (s u : State) → IsQuiet s u → (xs : List A) → AllByRecursion (λ x. IsApart s (key x)) xs → AllByRecursion (λ x. IsApart u (key x)) xs
all-kept key s u quiet [] all = tt
all-kept key s u quiet (x ∷ xs) all = (apart-kept s u (key x) quiet all.0, all-kept key s u quiet xs all.1)

quiet-each : {A : Type 0} (key : A → ℕ) (act : A → State → Effect) → ((x : A) (s : State) → IsApart s (key x) → IsQuiet s (act x s).state) → (xs : List A) (s : State) → AllByRecursion (λ x. IsApart s (key x)) xs → IsQuiet s (each_effect act xs s).state
quiet-each key act quiet [] s all = quiet-self s
quiet-each key act quiet (x ∷ xs) s all =
    let one : IsQuiet s (act x s).state = quiet x s all.0 in
    quiet-then s (act x s).state _ one (quiet-each key act quiet xs (act x s).state (all-kept key s (act x s).state one xs all.1))

pub quiet-woken : (s : State) (code : Code) (ts : List ℕ) → AllByRecursion (IsApart s) ts → IsQuiet s (each_effect (wake_effect code) ts s).state
quiet-woken s code ts all = quiet-each (λ t. t) (wake_effect code) (λ t u apart. quiet-wake u code t apart) ts s all

quiet-given : (flags : ℕ) (w : Wanting) (s : State) → IsApart s w.thread → IsQuiet s (flags_wake_effect flags w s).state
quiet-given flags w s apart =
    let got : State = with_thread s w.thread (record (thread_at s w.thread) { value = bit_and flags w.want.mask }) in
    let one : IsQuiet s got = quiet-row s w.thread (record (thread_at s w.thread) { value = bit_and flags w.want.mask }) refl refl refl in
    quiet-then s got (wake_effect Code.Ok w.thread got).state one (quiet-wake got Code.Ok w.thread (apart-kept s got w.thread one apart))

-- a call that can't be done, for the first time or again
quiet-first_wait : (s : State) (t core : ℕ) (call : Call) (timeout : Option ℕ) (code : Code) → IsApart s t → mutex_of_call call ≡ None → IsQuietCall s (first_wait_outcome s t core call timeout code)
quiet-first_wait s t core call None code apart other = quiet-wait s t core (InCall call) None apart other
quiet-first_wait s t core call (Some zero) code apart other = quiet-self s
quiet-first_wait s t core call (Some (suc n)) code apart other = quiet-wait s t core (InCall call) (Some (s.moment + suc n)) apart other

pub quiet-turn : (s : State) (by : By) (attempt : Attempt) (call : Call) (timeout : Option ℕ) (code : Code) → IsLively s by → mutex_of_call call ≡ None → IsQuietCall s (wait_or_refusal s by attempt call timeout code)
quiet-turn s (ByThread t core) First call timeout code on other = quiet-first_wait s t core call timeout code (active_apart (thread_at s t).stage on.caller) other
quiet-turn s (ByThread t core) (Again due) call timeout code on other = quiet-if s (is_past s.moment due) (refusal s Code.Timeout) (wait_outcome s t core (InCall call) due) (quiet-self s) (quiet-wait s t core (InCall call) due (active_apart (thread_at s t).stage on.caller) other)
quiet-turn s (ByTimer name) attempt call timeout code on other = quiet-self s

pub quiet-missing : (s : State) (attempt : Attempt) → IsQuietCall s (missing_outcome s attempt)
quiet-missing s First = quiet-self s
quiet-missing s (Again due) = quiet-self s

pub quiet-sem_create : (b : PlainBoard) (s : State) (name : List ℕ) (value : ℕ) (order : WaitOrder) → IsQuietCall s (sem_create b name value order s)
quiet-sem_create b s name value order =
    let sem : Sem = record { name = name; value = value; order = order } in
    quiet-if s (is_some (find_sem s name)) (refusal s Code.Busy) _ (quiet-self s) (quiet-if s _ (refusal s Code.NoMem) _ (quiet-self s) (quiet-sems s (sem ∷ s.sems)))

pub quiet-sem_take : (s : State) (name : List ℕ) (timeout : Option ℕ) (by : By) → IsLively s by → IsQuietCall s (sem_take name timeout s by)
quiet-sem_take s name timeout by on =
    quiet-found s (find_sem s name) (refusal s Code.Inval) _ (quiet-self s) (λ sem.
    quiet-if s (nat_lt 0 sem.value) _ (wait_or_refusal s by First (Call.SemTake sem.name timeout) timeout Code.Timeout) (quiet-sems s (with_sem s (record sem { value = sem.value - 1 })).sems) (quiet-turn s by First (Call.SemTake sem.name timeout) timeout Code.Timeout on refl))

pub quiet-sem_release : (s : State) (name : List ℕ) → IsQuietCall s (sem_release name s)
quiet-sem_release s name = quiet-found s (find_sem s name) (refusal s Code.Inval) _ (quiet-self s) (λ sem. by_first sem (first_waiter s sem.order (takes_sem name)) refl) where
  by_first : (sem : Sem) (first : Option ℕ) → first_waiter s sem.order (takes_sem name) ≡ first → IsQuietCall s (sem_release_outcome sem first s)
  by_first sem None is = quiet-if s _ (refusal s Code.Full) _ (quiet-self s) (quiet-sems s (with_sem s (record sem { value = sem.value + 1 })).sems)
  by_first sem (Some t) is = quiet-wake s Code.Ok t (first-apart s sem.order (takes_sem name) t (sem-lists name) is)

pub quiet-event_create : (b : PlainBoard) (s : State) (name : List ℕ) (order : WaitOrder) → IsQuietCall s (event_create b name order s)
quiet-event_create b s name order =
    let event : EventObj = record { name = name; flags = 0; order = order } in
    quiet-if s (is_some (find_event s name)) (refusal s Code.Busy) _ (quiet-self s) (quiet-if s _ (refusal s Code.NoMem) _ (quiet-self s) (quiet-events s (event ∷ s.events)))

pub quiet-event_recv : (s : State) (name : List ℕ) (want : Want) (timeout : Option ℕ) (by : By) → IsLively s by → IsQuietCall s (event_recv name want timeout s by)
quiet-event_recv s name want timeout by on =
    quiet-found s (find_event s name) (refusal s Code.Inval) _ (quiet-self s) (λ event.
    quiet-if s _ _ (wait_or_refusal s by First (Call.EventRecv event.name want.mask want.all want.clear timeout) timeout Code.Timeout) (got event) (quiet-turn s by First (Call.EventRecv event.name want.mask want.all want.clear timeout) timeout Code.Timeout on refl)) where
      left : EventObj → State
      left event = with_event s (record event { flags = flags_after event.flags want })

      got : (event : EventObj) → IsQuiet s (with_value (left event) by (bit_and event.flags want.mask))
      got event = quiet-then s (left event) _ (quiet-events s (left event).events) (quiet-value (left event) by (bit_and event.flags want.mask))

-- those of a list that pass a test are as all of them
all-passed : {A : Type 0} (P : A → Type 0) (test : A → Bool) (xs : List A) → AllByRecursion P xs → AllByRecursion P (filter test xs)
all-passed P test [] all = tt
all-passed P test (x ∷ xs) all = by_test (test x) (all-passed P test xs all.1) where
  by_test : (c : Bool) → AllByRecursion P (filter test xs) → AllByRecursion P (cond c (x ∷ filter test xs) (filter test xs))
  by_test true rest = (all.0, rest)
  by_test false rest = rest

wanting-apart : (s : State) (ts : List ℕ) → AllByRecursion (IsApart s) ts → AllByRecursion (λ (w : Wanting). IsApart s w.thread) (map (λ t. record { thread = t; want = want_of (thread_at s t).stage }) ts)
wanting-apart s [] all = tt
wanting-apart s (t ∷ ts) all = (all.0, wanting-apart s ts all.1)

pub quiet-event_send : (s : State) (name : List ℕ) (mask : ℕ) → IsQuietCall s (event_send name mask s)
quiet-event_send s name mask = quiet-found s (find_event s name) (refusal s Code.Inval) _ (quiet-self s) (λ event. sent event (bit_or event.flags mask)) where
  sent : (event : EventObj) (flags : ℕ) → IsQuiet s (each_effect (flags_wake_effect flags) (satisfied_waiters flags (wanting_threads s event)) (with_event s (record event { flags = flags_left flags (wanting_threads s event) }))).state
  sent event flags =
      let left : State = with_event s (record event { flags = flags_left flags (wanting_threads s event) }) in
      let one : IsQuiet s left = quiet-events s left.events in
      quiet-then s left _ one (quiet-each (λ (w : Wanting). w.thread) (flags_wake_effect flags) (quiet-given flags) (satisfied_waiters flags (wanting_threads s event)) left
      (all-kept (λ (w : Wanting). w.thread) s left one (satisfied_waiters flags (wanting_threads s event)) (all-passed (λ (w : Wanting). IsApart s w.thread) _ (wanting_threads s event) (wanting-apart s (waiters s event.order (receives_event event.name)) (waiters-apart s event.order (receives_event event.name) (event-lists event.name))))))

-- an object is gone, and all who waited for it wake
pub quiet-deleted : (s left : State) (ts : List ℕ) → IsQuiet s left → AllByRecursion (IsApart s) ts → IsQuiet s (each_effect (wake_effect Code.Error) ts left).state
quiet-deleted s left ts one all = quiet-then s left _ one (quiet-woken left Code.Error ts (all-kept (λ t. t) s left one ts all))

pub quiet-sem_deletion : (s : State) (name : List ℕ) → IsQuietCall s (sem_deletion name s)
quiet-sem_deletion s name =
    let left : State = record s { sems = filter (λ o. not (bytes_eq o.name name)) s.sems } in
    quiet-found s (find_sem s name) (refusal s Code.Inval) _ (quiet-self s) (λ sem. quiet-deleted s left (waiters s sem.order (takes_sem name)) (quiet-sems s left.sems) (waiters-apart s sem.order (takes_sem name) (sem-lists name)))

pub quiet-event_deletion : (s : State) (name : List ℕ) → IsQuietCall s (event_deletion name s)
quiet-event_deletion s name =
    let left : State = record s { events = filter (λ o. not (bytes_eq o.name name)) s.events } in
    quiet-found s (find_event s name) (refusal s Code.Inval) _ (quiet-self s) (λ event. quiet-deleted s left (waiters s event.order (receives_event name)) (quiet-events s left.events) (waiters-apart s event.order (receives_event name) (event-lists name)))
