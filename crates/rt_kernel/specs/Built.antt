-- Which boards the kernel runs so far. This test goes away once all is built.
use Rattle.std.specs.Prelude.{◌≡◌, ◌≢◌, ◌≤◌, All, AllPairs, [], IsTrue, Bool, true, not, ◌&&◌, Option, Some, None, length, is_some, nat_le, if◌then◌else◌, ◌==◌}
use Rattle.std.specs.List.{list_all, AllByRecursion}
use Rattle.rt_base.specs.declared.codes.Class.{Class}
use Rattle.rt_plain.specs.declared.board.ThreadDef.{ThreadDef}
use Rattle.rt_plain.specs.declared.board.TimerDef.{TimerDef}
use Rattle.rt_plain.specs.declared.stmt.Call.{Call}
use Rattle.rt_plain.specs.declared.stmt.Stmt.{Stmt}
use Rattle.rt_plain.specs.PlainBoard.{PlainBoard}
use Rattle.rt_plain.specs.kernel.Opening.{arrival_moment}
use Rattle.rt_plain.specs.kernel.TimerKinds.{is_soft, is_timer_action}
use Rattle.rt_plain.specs.kernel.Sound.{IsProper, IsSized, IsLevelled}
use Rattle.rt_kernel.specs.declared.built.Subject.{Subject}
use Rattle.ready_list.specs.Depths.{is_depth}
use Rattle.kernel_tables.specs.Opened.{HasFittingObjects}

-- the objects on which a deletion works, of the classes that are built
abbrev pub subject_of_class : Class → Option Subject
subject_of_class Class.Sem = Some Subject.Sem
subject_of_class Class.Event = Some Subject.Event
subject_of_class Class.Mailbox = Some Subject.Mailbox
subject_of_class Class.MsgQueue = Some Subject.Queue
subject_of_class _ = None

-- a call on devices, where its number is in its range, as in each board
abbrev pub subject_where : Bool → Option Subject
subject_where fits = if fits then Some Subject.Device else None

-- the objects on which a call works, if it is built
abbrev pub subject_of : Call → Option Subject
subject_of (Call.Delay ticks) = Some Subject.Thread
subject_of Call.Yield = Some Subject.Thread
subject_of (Call.Startup name) = Some Subject.Thread
subject_of (Call.Suspend name) = Some Subject.Thread
subject_of (Call.Resume name) = Some Subject.Thread
subject_of (Call.Kill name) = Some Subject.Thread
subject_of (Call.SetPrio name prio) = Some Subject.Thread
subject_of Call.SchedLock = Some Subject.Thread
subject_of Call.SchedUnlock = Some Subject.Thread
subject_of Call.Lock = Some Subject.Thread
subject_of Call.Unlock = Some Subject.Thread
subject_of (Call.SemCreate name value order) = Some Subject.Sem
subject_of (Call.SemTake name timeout) = Some Subject.Sem
subject_of (Call.SemRelease name) = Some Subject.Sem
subject_of (Call.EventCreate name order) = Some Subject.Event
subject_of (Call.EventSend name mask) = Some Subject.Event
subject_of (Call.EventRecv name mask all clear timeout) = Some Subject.Event
subject_of (Call.MbSend name word timeout) = Some Subject.Mailbox
subject_of (Call.MbUrgent name word) = Some Subject.Mailbox
subject_of (Call.MbRecv name timeout) = Some Subject.Mailbox
subject_of (Call.MqSend name timeout message) = Some Subject.Queue
subject_of (Call.MqUrgent name message) = Some Subject.Queue
subject_of (Call.MqRecv name timeout) = Some Subject.Queue
subject_of (Call.TimerStart name) = Some Subject.Timer
subject_of (Call.TimerStop name) = Some Subject.Timer
subject_of (Call.TimerSet name time) = Some Subject.Timer
subject_of (Call.DevOpen name) = Some Subject.Device
subject_of (Call.DevClose name) = Some Subject.Device
subject_of (Call.DevRead name count) = subject_where (nat_le count 64)
subject_of (Call.DevWrite name text) = Some Subject.Device
subject_of (Call.DevCtl name rate) = subject_where (nat_le 1 rate && nat_le rate 64)
subject_of (Call.MpAlloc name timeout) = Some Subject.Pool
subject_of (Call.MpFree name) = Some Subject.Pool
subject_of (Call.Delete class name) = subject_of_class class
subject_of _ = None

-- whether a call is built
abbrev pub is_built_call : Call → Bool
is_built_call call = is_some (subject_of call)

-- a statement that is no call, or one of these calls
abbrev pub is_built_statement : Stmt → Bool
is_built_statement (Stmt.Do call) = is_built_call call
is_built_statement _ = true

-- the same of what a timer does, if it does something
abbrev pub is_built_action : Option Stmt → Bool
is_built_action None = true
is_built_action (Some stmt) = is_built_statement stmt

-- a thread with such statements alone
abbrev pub is_built_thread : ThreadDef → Bool
is_built_thread def = list_all is_built_statement def.script

-- a timer whose call is built, and made at the tick
abbrev pub is_built_timer : TimerDef → Bool
is_built_timer def = not (is_soft def.kind) && is_built_action def.call

-- no objects of other classes than these
abbrev pub has_built_classes_alone : PlainBoard → Bool
has_built_classes_alone b = length b.mutexes == 0

-- neither the shell's thread nor that of soft timers
abbrev pub has_scripts_alone : PlainBoard → Bool
has_scripts_alone b = not (is_some b.shell) && not (is_some b.soft)

abbrev pub is_built : PlainBoard → Bool
is_built b = has_built_classes_alone b && (has_scripts_alone b && (list_all is_built_thread b.threads && list_all is_built_timer b.timers))

-- the same as facts, with what each valid board has
pub record IsBuilt (b : PlainBoard) : Type 0 where
  pub proper : IsProper b
  pub sized : IsSized b
  pub levelled : IsLevelled b
  pub depth : is_depth b.levels ≡ true
  pub objects : HasFittingObjects b
  pub until : b.until ≤ 1099511627775
  pub few : length b.threads ≤ 256
  pub short : AllByRecursion (λ def. length def.script ≤ 512) b.threads
  pub mutexes : b.mutexes ≡ []
  pub mutex_room : length b.mutexes ≤ b.limits.mutex
  pub mutex_names : AllPairs (λ one other. one.name ≢ other.name) b.mutexes
  pub few_devices : length b.devices ≤ 15
  pub later : All (λ a. 1 ≤ arrival_moment b a) b.arrivals
  pub some_core : 1 ≤ b.cores
  pub shell : b.shell ≡ None
  pub soft : b.soft ≡ None
  pub threads : IsTrue (list_all is_built_thread b.threads)
  pub timers : IsTrue (list_all is_built_timer b.timers)
  pub few_timers : length b.timers ≤ 256
  pub actions : All (λ def. IsTrue (is_timer_action def.call)) b.timers
  pub apart : AllPairs (λ one other. one.name ≢ other.name) b.threads
