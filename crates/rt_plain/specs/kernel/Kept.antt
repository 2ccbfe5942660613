-- What the kernel's actions keep of a state: the invariant behind its soundness.
use Rattle.std.specs.Prelude.{◌≡◌, ℕ, ◌+◌, ◌≤◌, ◌<◌, Bool, true, false, ◌&&◌, ◌||◌, List, Option, Some, None, length, eqb, slice_index_or}
use Rattle.std.specs.List.{AllByRecursion, list_any}
use Rattle.std.specs.Str.{bytes_eq}
use Rattle.rt_base.specs.declared.codes.Halt.{Halt}
use Rattle.rt_plain.specs.declared.stmt.Call.{Call}
use Rattle.rt_plain.specs.PlainBoard.{PlainBoard}
use Rattle.rt_plain.specs.kernel.State.{State, Stage, Waiting, Awaited, InCall, AtConsole, AtWorks, Retry, Thread, Timer, Nest, Alarm, OfThread, OfTimer, ArmedRow, no_thread, is_number, is_closed}
use Rattle.rt_plain.specs.kernel.Effects.{is_alarm}
use Rattle.rt_plain.specs.kernel.Statements.{is_shell, is_soft_thread, script_of}
use Rattle.rt_plain.specs.runs.Runs.{thread_count}
use Rattle.rt_plain.specs.kernel.Sound.{is_active, is_waiting, is_timed_call, is_timed_action, IsBoardTimer}
use Rattle.rt_plain.specs.kernel.Tally.{one_if, tally}

-- what an action is made under: the board, the moment of now, the least moment at which a row may be due, how many rows are due now at most, and the latest moment at which a machine hasn't halted
pub record Frame : Type 0 where
  pub board : PlainBoard
  pub now : ℕ
  pub low : ℕ
  pub few : ℕ
  pub latest : ℕ
  pub fits : low ≤ now + 1

-- the parts of a state that it speaks of
pub record Parts : Type 0 where
  pub moment : ℕ
  pub numbers : ℕ
  pub threads : List Thread
  pub ready : List ℕ
  pub running : List (Option ℕ)
  pub armed : List (ArmedRow Alarm)
  pub works : List (List ℕ)
  pub nest : Option Nest
  pub timers : List Timer
  pub halt : Option Halt

abbrev pub parts : State → Parts
parts s = record { moment = s.moment; numbers = s.numbers; threads = s.threads; ready = s.ready; running = s.running; armed = s.armed; works = s.works; nest = s.nest; timers = s.timers; halt = s.halt }

-- the calls that may wait
abbrev pub is_waiting_call : Call → Bool
is_waiting_call (Call.Delay ticks) = true
is_waiting_call (Call.SemTake name timeout) = true
is_waiting_call (Call.EventRecv name mask all clear timeout) = true
is_waiting_call (Call.MutexTake name timeout) = true
is_waiting_call (Call.MbSend name word timeout) = true
is_waiting_call (Call.MbRecv name timeout) = true
is_waiting_call (Call.MqSend name timeout message) = true
is_waiting_call (Call.MqRecv name timeout) = true
is_waiting_call (Call.MpAlloc name timeout) = true
is_waiting_call _ = false

-- what waits, or is to be made again, is timed and may wait
abbrev pub is_fine_awaited : Awaited → Bool
is_fine_awaited (InCall call) = is_waiting_call call && is_timed_call call
is_fine_awaited AtConsole = true
is_fine_awaited AtWorks = true

abbrev pub is_fine_stage : Stage → Bool
is_fine_stage (Waiting what number) = is_fine_awaited what
is_fine_stage _ = true

-- a due moment, if there is one, is no further ahead of now than a row may be
abbrev pub IsNear : ℕ → Option ℕ → Type 0
IsNear now due = (d : ℕ) → due ≡ Some d → d ≤ now + 2147483647

-- and it is ahead
abbrev pub IsAhead : ℕ → Option ℕ → Type 0
IsAhead now due = (d : ℕ) → due ≡ Some d → (now < d) × (d ≤ now + 2147483647)

abbrev pub IsFineRetry : ℕ → Option Retry → Type 0
IsFineRetry now None = Unit {0}
IsFineRetry now (Some retry) = (is_fine_awaited retry.what ≡ true) × IsNear now retry.due

-- and a thread that isn't closed stands at a statement of its script, or behind it
abbrev pub IsFineThread : PlainBoard → ℕ → Thread → Type 0
IsFineThread b now row = (is_fine_stage row.stage ≡ true) × IsFineRetry now row.retry × (is_closed row.stage ≡ false → row.next ≤ length (script_of b row.name) + 2)

abbrev pub IsFineTimer : PlainBoard → Timer → Type 0
IsFineTimer b timer = (1 ≤ timer.time) × (timer.time ≤ 2147483647) × (is_timed_action timer.call ≡ true) × IsBoardTimer b timer

-- whether an alarm is that of a timer that is there, or of a thread
abbrev pub is_owned : List Timer → Alarm → Bool
is_owned timers (OfThread t) = true
is_owned timers (OfTimer name) = list_any (λ timer. bytes_eq timer.name name) timers

-- the stage of a thread
abbrev pub stage_at : List Thread → ℕ → Stage
stage_at threads t = (slice_index_or threads t no_thread).stage

-- a thread whose row is armed waits
abbrev pub IsWaited : List Thread → Alarm → Type 0
IsWaited threads (OfThread t) = is_waiting (stage_at threads t) ≡ true
IsWaited threads (OfTimer name) = Unit {0}

abbrev pub IsRowKept : ℕ → List Thread → ArmedRow Alarm → Type 0
IsRowKept low threads row = (low ≤ row.due) × IsWaited threads row.alarm

-- no row is further ahead than it may be, and its start number was given
abbrev pub IsRowBounded : ℕ → ℕ → ArmedRow Alarm → Type 0
IsRowBounded now numbers row = (row.due ≤ now + 2147483647) × (row.number < numbers)

-- a timer's row is that of a timer that is there
abbrev pub IsOwned : List Timer → ArmedRow Alarm → Type 0
IsOwned timers row = is_owned timers row.alarm ≡ true

-- whether a work is that of an alarm's timer
abbrev pub is_work_of : Alarm → List ℕ → Bool
is_work_of (OfThread t) work = false
is_work_of (OfTimer name) work = bytes_eq work name

-- how often an alarm is armed or stands among the works
abbrev pub standings : Alarm → List (List ℕ) → List (ArmedRow Alarm) → ℕ
standings alarm works armed = tally (is_work_of alarm) works + tally (λ row. is_alarm alarm row.alarm) armed

-- a work is that of a timer that is there
abbrev pub IsKnownWork : List Timer → List ℕ → Type 0
IsKnownWork timers work = is_owned timers (OfTimer work) ≡ true

-- how often a thread stands in the ready list and on cores
abbrev pub places : List ℕ → List (Option ℕ) → ℕ → ℕ
places ready running t = tally (λ u. eqb u t) ready + tally (is_number t) running

-- whether a thread is that of the shell or of soft timers, which have no script
abbrev pub is_scriptless : PlainBoard → ℕ → Bool
is_scriptless b t = is_shell b t || is_soft_thread b t

-- the core that holds the lock over all cores runs a thread with a script
abbrev pub IsNestRun : PlainBoard → List (Option ℕ) → Option Nest → Type 0
IsNestRun b running nest = (n : Nest) → nest ≡ Some n → (r : ℕ) × (slice_index_or running n.core None ≡ Some r) × (is_scriptless b r ≡ false)

pub record Holds (f : Frame) (p : Parts) : Type 0 where
  pub moment_is : p.moment ≡ f.now
  pub live : 1 ≤ f.board.until → p.halt ≡ None → p.moment ≤ f.latest
  pub ends : (halt : Halt) → p.halt ≡ Some halt → halt ≡ Halt.Until
  pub count : length p.threads ≡ thread_count f.board
  pub cores : length p.running ≡ f.board.cores
  pub placed : (t : ℕ) → places p.ready p.running t ≡ one_if (is_active (stage_at p.threads t))
  pub rows : AllByRecursion (IsRowKept f.low p.threads) p.armed
  pub bounded : AllByRecursion (IsRowBounded f.now p.numbers) p.armed
  pub due_few : tally (λ row. eqb row.due f.now) p.armed ≤ f.few
  pub single : (alarm : Alarm) → standings alarm p.works p.armed ≤ 1
  pub owned : AllByRecursion (IsOwned p.timers) p.armed
  pub works_known : AllByRecursion (IsKnownWork p.timers) p.works
  pub fine : AllByRecursion (IsFineThread f.board f.now) p.threads
  pub nest_runs : IsNestRun f.board p.running p.nest
  pub timers_fine : AllByRecursion (IsFineTimer f.board) p.timers

-- what is kept
abbrev pub Kept : Frame → State → Type 0
Kept f s = Holds f (parts s)
