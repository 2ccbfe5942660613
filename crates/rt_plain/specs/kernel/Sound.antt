-- What holds of every state that a run reaches.
use Rattle.std.specs.Prelude.{◌≡◌, ◌≢◌, ℕ, ◌+◌, ◌≤◌, ◌<◌, Bool, true, false, ◌&&◌, Option, Some, None, length, count_by, nat_lt, nat_le, if◌then◌else◌, ◌==◌, IsTrue, IfSome, All, AllPairs, Contains, ◌∷◌, map}
use Rattle.std.specs.List.{list_all}
use Rattle.rt_base.specs.declared.codes.Halt.{Halt}
use Rattle.rt_plain.specs.declared.stmt.Call.{Call}
use Rattle.rt_plain.specs.declared.stmt.Stmt.{Stmt}
use Rattle.rt_plain.specs.declared.board.TimerDef.{TimerDef}
use Rattle.rt_plain.specs.PlainBoard.{PlainBoard}
use Rattle.rt_plain.specs.kernel.State.{State, Timer, Stage, Active, Waiting, Nest, Alarm, OfThread, OfTimer, thread_at, running_on, is_number, is_closed}
use Rattle.rt_plain.specs.kernel.Effects.{is_alarm}
use Rattle.rt_plain.specs.kernel.Statements.{script_of}
use Rattle.rt_plain.specs.kernel.Opening.{arrival_moment}
use Rattle.rt_plain.specs.kernel.Shell.{console_name}
use Rattle.rt_plain.specs.runs.Runs.{thread_count}

-- how often a thread stands in the ready list and on cores
abbrev pub place_count : State → ℕ → ℕ
place_count s t = count_by (λ u. u == t) s.ready + count_by (is_number t) s.running

-- whether a thread is active
abbrev pub is_active : Stage → Bool
is_active Active = true
is_active _ = false

-- whether a thread waits
abbrev pub is_waiting : Stage → Bool
is_waiting (Waiting what number) = true
is_waiting _ = false

-- whether so many ticks may lie ahead: less than half of all that a tick can show
abbrev pub is_span : ℕ → Bool
is_span n = nat_le n 2147483647

-- whether a timeout is none, or one of so many ticks
abbrev pub is_timeout : Option ℕ → Bool
is_timeout None = true
is_timeout (Some n) = is_span n

-- whether a call waits no longer than it may, delays by a tick at least, and sets no time of 0
abbrev pub is_timed_call : Call → Bool
is_timed_call (Call.Delay ticks) = nat_lt 0 ticks && is_span ticks
is_timed_call (Call.TimerSet name time) = nat_lt 0 time && is_span time
is_timed_call (Call.SemTake name timeout) = is_timeout timeout
is_timed_call (Call.EventRecv name mask all clear timeout) = is_timeout timeout
is_timed_call (Call.MutexTake name timeout) = is_timeout timeout
is_timed_call (Call.MbSend name word timeout) = is_timeout timeout
is_timed_call (Call.MbRecv name timeout) = is_timeout timeout
is_timed_call (Call.MqSend name timeout message) = is_timeout timeout
is_timed_call (Call.MqRecv name timeout) = is_timeout timeout
is_timed_call (Call.MpAlloc name timeout) = is_timeout timeout
is_timed_call _ = true

-- the same of the call of a statement
abbrev pub is_timed : Stmt → Bool
is_timed (Stmt.Do call) = is_timed_call call
is_timed _ = true

-- what a timer does, if it does something
abbrev pub is_timed_action : Option Stmt → Bool
is_timed_action None = true
is_timed_action (Some stmt) = is_timed stmt

-- a timer is one of the board's, but for its time
abbrev pub IsBoardTimer : PlainBoard → Timer → Type 0
IsBoardTimer b timer = (def : TimerDef) × Contains b.timers def × (timer.name ≡ def.name) × (timer.kind ≡ def.kind) × (timer.call ≡ def.call)

-- what the laws of runs need of a board, as each valid one has it: delays, times, sleeps and the whole run are of a tick at least, no delay, time or timeout is longer than it may be, and timers have names of their own
pub record IsProper (b : PlainBoard) : Type 0 where
  pub scripts : All (λ def. IsTrue (list_all is_timed def.script)) b.threads
  pub timers : All (λ def. (1 ≤ def.time) × (def.time ≤ 2147483647) × IsTrue (is_timed_action def.call)) b.timers
  pub names : AllPairs (λ one other. one.name ≢ other.name) b.timers
  pub thresh : 1 ≤ b.thresh
  pub until : 1 ≤ b.until

-- whether a call sets no priority that the levels don't have
abbrev pub is_levelled_call : ℕ → Call → Bool
is_levelled_call levels (Call.SetPrio name prio) = nat_lt prio levels
is_levelled_call levels _ = true

-- the same of a statement
abbrev pub is_levelled : ℕ → Stmt → Bool
is_levelled levels (Stmt.Do call) = is_levelled_call levels call
is_levelled levels _ = true

-- the same of what a timer does, if it does something
abbrev pub is_levelled_action : ℕ → Option Stmt → Bool
is_levelled_action levels None = true
is_levelled_action levels (Some stmt) = is_levelled levels stmt

-- what the law of priorities needs of a board, as each valid one has it: priorities below the levels, and bindings below the cores
pub record IsLevelled (b : PlainBoard) : Type 0 where
  pub bases : All (λ def. def.prio < b.levels) b.threads
  pub bindings : All (λ def. IfSome def.core (λ core. core < b.cores)) b.threads
  pub scripts : All (λ def. IsTrue (list_all (is_levelled b.levels) def.script)) b.threads
  pub timers : All (λ def. IsTrue (is_levelled_action b.levels def.call)) b.timers
  pub shell : IfSome b.shell (λ prio. prio < b.levels)
  pub soft : IfSome b.soft (λ prio. prio < b.levels)

-- what the room for an event's lines needs of a board, as each valid one has it: classes of 256 objects at most, and arrivals at devices that are there, at each once at a moment
pub record IsSized (b : PlainBoard) : Type 0 where
  pub sems : length b.sems ≤ 256
  pub events : length b.events ≤ 256
  pub mutexes : length b.mutexes ≤ 256
  pub mailboxes : length b.mailboxes ≤ 256
  pub queues : length b.queues ≤ 256
  pub sem_limit : b.limits.sem ≤ 256
  pub event_limit : b.limits.event ≤ 256
  pub mutex_limit : b.limits.mutex ≤ 256
  pub known : All (λ a. Contains (console_name ∷ map (λ d. d.name) b.devices) a.device) b.arrivals
  pub once : AllPairs (λ one other. arrival_moment b one ≡ arrival_moment b other → one.device ≢ other.device) b.arrivals

-- the row of a thread is that of one wait
abbrev pub IsWaitedFor : State → Alarm → Type 0
IsWaitedFor s (OfThread t) = IsTrue (is_waiting (thread_at s t).stage)
IsWaitedFor s (OfTimer name) = Unit {0}

-- a sound state
pub record IsSound (b : PlainBoard) (s : State) : Type 0 where
  -- an active thread stands once in the ready list or on one core, and any other nowhere: it is initial, waits, is suspended or closed
  pub places : (t : ℕ) → place_count s t ≡ (if is_active (thread_at s t).stage then 1 else 0)
  -- a thread that isn't closed stands at a statement of its script, or behind it
  pub next : (t : ℕ) → is_closed (thread_at s t).stage ≡ false → (thread_at s t).next ≤ length (script_of b (thread_at s t).name) + 2
  -- the board's threads and cores are all there is
  pub threads : length s.threads ≡ thread_count b
  pub cores : length s.running ≡ b.cores
  -- a machine goes on before its last moment, and a state halts by itself only there
  pub live : s.halt ≡ None → s.moment < b.until
  pub ends : (halt : Halt) → s.halt ≡ Some halt → halt ≡ Halt.Until
  -- no row is due at or before the moment, or too far ahead, and that of a thread belongs to its wait
  pub ahead : All (λ row. (s.moment < row.due) × (row.due ≤ s.moment + 2147483647)) s.armed
  pub waits : All (λ row. IsWaitedFor s row.alarm) s.armed
  -- a thread or a timer has one row at most
  pub alone : (alarm : Alarm) → count_by (λ row. is_alarm alarm row.alarm) s.armed ≤ 1
  -- a core that holds the lock over all cores is one of the board, and runs a thread
  pub nest_runs : (n : Nest) → s.nest ≡ Some n → (n.core < b.cores) × (t : ℕ) × (running_on s n.core ≡ Some t)
