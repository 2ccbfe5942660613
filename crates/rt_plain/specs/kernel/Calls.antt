-- The statement table: what each call does and answers, and what follows from it.
use Rattle.std.specs.Prelude.{ℕ, Bool, not, ◌&&◌, List, [], ◌∷◌, ◌++◌, Option, Some, None, filter, if◌then◌else◌, ◌==◌}
use Rattle.std.specs.List.{filter_map}
use Rattle.rt_base.specs.Codes.{sleep_number}
use Rattle.rt_plain.specs.declared.line.Line.{Line}
use Rattle.rt_plain.specs.declared.stmt.Call.{Call}
use Rattle.rt_plain.specs.PlainBoard.{PlainBoard}
use Rattle.rt_plain.specs.kernel.State.{State, thread_at, thread_numbers, is_closed, is_among}
use Rattle.rt_plain.specs.kernel.Priority.{cur}
use Rattle.rt_plain.specs.kernel.Effects.{Effect, name_of}
use Rattle.rt_plain.specs.kernel.Outcome.{By, Attempt, Outcome}
use Rattle.rt_plain.specs.kernel.ThreadCalls.{delay, yield, startup, suspend, resume, kill, set_prio, lock, unlock, sched_lock, sched_unlock}
use Rattle.rt_plain.specs.kernel.SemCalls.{sem_create, sem_take, sem_release}
use Rattle.rt_plain.specs.kernel.EventCalls.{event_create, event_send, event_recv}
use Rattle.rt_plain.specs.kernel.MutexCalls.{mutex_create, mutex_take, mutex_release, mutex_ceiling}
use Rattle.rt_plain.specs.kernel.MailboxCalls.{mb_send, mb_urgent, mb_recv}
use Rattle.rt_plain.specs.kernel.QueueCalls.{mq_send, mq_urgent, mq_recv}
use Rattle.rt_plain.specs.kernel.PoolCalls.{mp_alloc, mp_free}
use Rattle.rt_plain.specs.kernel.DeleteCall.{delete}
use Rattle.rt_plain.specs.kernel.TimerCalls.{timer_start, timer_stop, timer_set}
use Rattle.rt_plain.specs.kernel.DeviceCalls.{dev_open, dev_close, dev_read, dev_write, dev_ctl}
use Rattle.rt_plain.specs.kernel.PowerCalls.{sleep_mode, pm_request, pm_release, pm_run}

-- what a call does by itself
abbrev pub outcome_of : PlainBoard → Call → State → By → Attempt → Outcome
outcome_of b (Call.Delay ticks) s by attempt = delay ticks s by
outcome_of b Call.Yield s by attempt = yield s by
outcome_of b (Call.Startup name) s by attempt = startup name s
outcome_of b (Call.Suspend name) s by attempt = suspend name s by
outcome_of b (Call.Resume name) s by attempt = resume name s
outcome_of b (Call.Kill name) s by attempt = kill name s
outcome_of b (Call.SetPrio name prio) s by attempt = set_prio name prio s
outcome_of b Call.Lock s by attempt = lock s by
outcome_of b Call.Unlock s by attempt = unlock s by
outcome_of b Call.SchedLock s by attempt = sched_lock s by
outcome_of b Call.SchedUnlock s by attempt = sched_unlock s by
outcome_of b (Call.SemCreate name value order) s by attempt = sem_create b name value order s
outcome_of b (Call.SemTake name timeout) s by attempt = sem_take name timeout s by
outcome_of b (Call.SemRelease name) s by attempt = sem_release name s
outcome_of b (Call.EventCreate name order) s by attempt = event_create b name order s
outcome_of b (Call.EventSend name mask) s by attempt = event_send name mask s
outcome_of b (Call.EventRecv name mask all clear timeout) s by attempt = event_recv name (record { mask = mask; all = all; clear = clear }) timeout s by
outcome_of b (Call.MutexCreate name ceiling) s by attempt = mutex_create b name ceiling s
outcome_of b (Call.MutexTake name timeout) s by attempt = mutex_take name timeout s by
outcome_of b (Call.MutexRelease name) s by attempt = mutex_release name s by
outcome_of b (Call.MutexCeiling name ceiling) s by attempt = mutex_ceiling name ceiling s by
outcome_of b (Call.MbSend name word timeout) s by attempt = mb_send name word timeout s by attempt
outcome_of b (Call.MbUrgent name word) s by attempt = mb_urgent name word s
outcome_of b (Call.MbRecv name timeout) s by attempt = mb_recv name timeout s by attempt
outcome_of b (Call.MqSend name timeout message) s by attempt = mq_send name message timeout s by attempt
outcome_of b (Call.MqUrgent name message) s by attempt = mq_urgent name message s
outcome_of b (Call.MqRecv name timeout) s by attempt = mq_recv name timeout s by attempt
outcome_of b (Call.Delete class name) s by attempt = delete class name s
outcome_of b (Call.TimerStart name) s by attempt = timer_start name s
outcome_of b (Call.TimerStop name) s by attempt = timer_stop name s
outcome_of b (Call.TimerSet name time) s by attempt = timer_set name time s
outcome_of b (Call.DevOpen name) s by attempt = dev_open name s
outcome_of b (Call.DevClose name) s by attempt = dev_close name s
outcome_of b (Call.DevRead name count) s by attempt = dev_read name count s by
outcome_of b (Call.DevWrite name text) s by attempt = dev_write name text s by
outcome_of b (Call.DevCtl name rate) s by attempt = dev_ctl name rate s
outcome_of b (Call.PmRequest mode) s by attempt = pm_request mode s
outcome_of b (Call.PmRelease mode) s by attempt = pm_release mode s
outcome_of b (Call.PmRun mode) s by attempt = pm_run mode s
outcome_of b (Call.MpAlloc name timeout) s by attempt = mp_alloc name timeout s by
outcome_of b (Call.MpFree name) s by attempt = mp_free name s by

-- whether the current priority of a thread changed between two states
abbrev pub has_new_cur : State → State → ℕ → Bool
has_new_cur before after t = not (cur before t == cur after t)

-- a line for a thread that isn't closed and whose current priority changed
abbrev pub prio_line : State → State → ℕ → Option Line
prio_line before after t = if not (is_closed (thread_at after t).stage) && has_new_cur before after t then Some (Line.Cur (name_of after t) (cur before t) (cur after t)) else None

-- the lines of all threads whose current priority changed, in thread order
abbrev pub prio_lines : State → State → List Line
prio_lines before after = filter_map (prio_line before after) (thread_numbers after)

-- whether a thread was ready before too, with another current priority
abbrev pub is_moved : State → State → ℕ → Bool
is_moved before after t = is_among before.ready t && has_new_cur before after t

-- the ready threads whose current priority changed go to the end of the ready list, in its order
abbrev pub reordered_state : State → State → State
reordered_state before after = record after { ready = filter (λ t. not (is_moved before after t)) after.ready ++ filter (is_moved before after) after.ready }

-- a line where a vote changed the sleep mode
abbrev pub mode_lines : PlainBoard → State → State → List Line
mode_lines b before after = if sleep_number (sleep_mode b before) == sleep_number (sleep_mode b after) then [] else Line.Mode (sleep_mode b after) ∷ []

-- what follows from an action on the state before it: moved threads, changed priorities, the changed mode
abbrev pub settled_effect : PlainBoard → State → Effect → Effect
settled_effect b before e = record { state = reordered_state before e.state; lines = e.lines ++ prio_lines before e.state ++ mode_lines b before e.state }
