-- A board does the same with sleeps and without, but where it sleeps.
use Rattle.std.proofs.Common.{◌≡◌, ◌⊎◌, inl, inr, ◌+◌, ◌∷◌, [], ◌++◌, ℕ, zero, suc, List, Option, Some, None, Bool, true, false, ◌&&◌, eqb, refl, ap, ◌∙◌, if◌then◌else◌, map, is_some, ◌-◌}
use Rattle.std.specs.List.{list_any, before_first, after_first}
use Rattle.rt_base.specs.declared.codes.Class.{Class}
use Rattle.rt_base.specs.declared.codes.Code.{Code}
use Rattle.rt_base.specs.declared.codes.Event.{Event}
use Rattle.rt_base.specs.declared.codes.Halt.{Halt}
use Rattle.rt_plain.specs.declared.line.Fired.{Fired}
use Rattle.rt_plain.specs.declared.line.Line.{Line}
use Rattle.rt_plain.specs.declared.stmt.Call.{Call}
use Rattle.rt_plain.specs.declared.stmt.Stmt.{Stmt}
use Rattle.rt_plain.specs.PlainBoard.{PlainBoard}
use Rattle.rt_plain.specs.kernel.State.{State, Timer, Alarm, OfThread, OfTimer, ArmedRow, Awaited, InCall, AtConsole, AtWorks, Retry, thread_at, with_thread, is_nest_of_other, running_on}
use Rattle.rt_plain.specs.kernel.Effects.{Effect, line_effect, and_then, without_alarm, no_effect}
use Rattle.rt_plain.specs.kernel.Outcome.{By, ByThread, ByTimer, Attempt, First, Again}
use Rattle.rt_plain.specs.kernel.Calls.{outcome_of, settled_effect}
use Rattle.rt_plain.specs.kernel.TimerCalls.{find_timer}
use Rattle.rt_plain.specs.kernel.TimerKinds.{is_soft}
use Rattle.rt_plain.specs.kernel.Due.{timer_effect, timer_call_effect, with_period, soft_timer_effect, fired_timer_effect, alarm_effect, fired_row_effect, due_rows_effect, due}
use Rattle.rt_plain.specs.kernel.Ticks.{next_tick_state, deliveries, transmissions, with_until_halt, tick_effect}
use Rattle.rt_plain.specs.kernel.SoftTurn.{work_effect, soft_turn_effect}
use Rattle.rt_plain.specs.kernel.Tables.{Seen, table}
use Rattle.rt_plain.specs.kernel.Rows.{rows}
use Rattle.rt_plain.specs.kernel.PowerCalls.{sleep_mode, votes_for}
use Rattle.rt_plain.specs.kernel.Shell.{seen_of, prompt, is_newline, with_console_bytes, longer_line, line_read_effect, reading_effect, turn_line, turn_effect, prompt_effect, shell_effect, console_bytes}
use Rattle.rt_plain.specs.kernel.Statements.{script_of, statement_at, call_effect, done_effect, with_next, repeated_call_effect, script_effect, is_shell, is_soft_thread, statement_effect}
use Rattle.rt_plain.specs.kernel.DeviceCalls.{is_busy}
use Rattle.rt_plain.specs.kernel.Pick.{pick}
use Rattle.rt_plain.specs.kernel.Sleeps.{Did, Same, Halted, sleep_length, sleep_did, final_halt, nothing_comes, may_sleep, halting_rest_did, rest_did}
use Rattle.rt_plain.specs.kernel.Steps.{happens, did_of_effect, is_preemptible, takes_from, without_mark, statement_did, preempt_did, busy_core_did, is_all_idle, free_core_did, core_did, unhalted_step_did, unhalted_tick_did}
use Rattle.rt_plain.specs.runs.Tickless.{with_tickless}
use Rattle.rt_plain.proofs.TestLemmas.{and-right}

module _ (t : Bool) (b : PlainBoard) where
  -- the board with sleeps, or without
  abbrev other : PlainBoard
  other = with_tickless t b

  call-other : (call : Call) (s : State) (by : By) (attempt : Attempt) → outcome_of other call s by attempt ≡ outcome_of b call s by attempt
  call-other (Call.Delay ticks) s by attempt = refl
  call-other Call.Yield s by attempt = refl
  call-other (Call.Startup name) s by attempt = refl
  call-other (Call.Suspend name) s by attempt = refl
  call-other (Call.Resume name) s by attempt = refl
  call-other (Call.Kill name) s by attempt = refl
  call-other (Call.SetPrio name prio) s by attempt = refl
  call-other Call.Lock s by attempt = refl
  call-other Call.Unlock s by attempt = refl
  call-other Call.SchedLock s by attempt = refl
  call-other Call.SchedUnlock s by attempt = refl
  call-other (Call.SemCreate name value order) s by attempt = refl
  call-other (Call.SemTake name timeout) s by attempt = refl
  call-other (Call.SemRelease name) s by attempt = refl
  call-other (Call.EventCreate name order) s by attempt = refl
  call-other (Call.EventSend name mask) s by attempt = refl
  call-other (Call.EventRecv name mask all clear timeout) s by attempt = refl
  call-other (Call.MutexCreate name ceiling) s by attempt = refl
  call-other (Call.MutexTake name timeout) s by attempt = refl
  call-other (Call.MutexRelease name) s by attempt = refl
  call-other (Call.MutexCeiling name ceiling) s by attempt = refl
  call-other (Call.MbSend name word timeout) s by attempt = refl
  call-other (Call.MbUrgent name word) s by attempt = refl
  call-other (Call.MbRecv name timeout) s by attempt = refl
  call-other (Call.MqSend name timeout message) s by attempt = refl
  call-other (Call.MqUrgent name message) s by attempt = refl
  call-other (Call.MqRecv name timeout) s by attempt = refl
  call-other (Call.Delete class name) s by attempt = refl
  call-other (Call.TimerStart name) s by attempt = refl
  call-other (Call.TimerStop name) s by attempt = refl
  call-other (Call.TimerSet name time) s by attempt = refl
  call-other (Call.DevOpen name) s by attempt = refl
  call-other (Call.DevClose name) s by attempt = refl
  call-other (Call.DevRead name count) s by attempt = refl
  call-other (Call.DevWrite name text) s by attempt = refl
  call-other (Call.DevCtl name rate) s by attempt = refl
  call-other (Call.PmRequest mode) s by attempt = refl
  call-other (Call.PmRelease mode) s by attempt = refl
  call-other (Call.PmRun mode) s by attempt = refl
  call-other (Call.MpAlloc name timeout) s by attempt = refl
  call-other (Call.MpFree name) s by attempt = refl

  action-other : (line : Fired → Line) (name : List ℕ) (o : Option Stmt) (s : State) → timer_effect other line name o s ≡ timer_effect b line name o s
  action-other line name None s = refl
  action-other line name (Some (Stmt.Print text)) s = refl
  action-other line name (Some (Stmt.Say what)) s = refl
  action-other line name (Some (Stmt.Goto k)) s = refl
  action-other line name (Some (Stmt.IfCode code k)) s = refl
  action-other line name (Some (Stmt.Count n)) s = refl
  action-other line name (Some (Stmt.Next k)) s = refl
  action-other line name (Some Stmt.Exit) s = refl
  action-other line name (Some (Stmt.Do call)) s = ap (timer_call_effect line) (call-other call s (ByTimer name) First)

  -- a due row
  timer-other : (o : Option Timer) (s : State) → fired_timer_effect other o s ≡ fired_timer_effect b o s
  timer-other None s = refl
  timer-other (Some timer) s = ap (λ e. if is_soft timer.kind then soft_timer_effect timer.name s else e) (action-other (Line.Fire timer.name) timer.name timer.call (with_period timer.kind timer s))

  alarm-other : (alarm : Alarm) (s : State) → alarm_effect other alarm s ≡ alarm_effect b alarm s
  alarm-other (OfThread u) s = refl
  alarm-other (OfTimer name) s = timer-other (find_timer s name) s

  row-other : (row : ArmedRow Alarm) (s : State) → fired_row_effect other row s ≡ fired_row_effect b row s
  row-other row s = ap (settled_effect b s) (alarm-other row.alarm (without_alarm s row.alarm))

  due-other : (n : ℕ) (rows : List (ArmedRow Alarm)) (s : State) → due_rows_effect other n rows s ≡ due_rows_effect b n rows s
  due-other zero rows s = refl
  due-other (suc n) [] s = refl
  due-other (suc n) (row ∷ rows) s =
      ap (λ (e : Effect). and_then e (λ r. due_rows_effect other n (due r) r)) (row-other row s)
      ∙ ap (λ (f : Effect). and_then (fired_row_effect b row s) (λ r. f)) (due-other n (due (fired_row_effect b row s).state) (fired_row_effect b row s).state)

  pub tick-other : (s : State) → tick_effect other s ≡ tick_effect b s
  tick-other s = ap (λ (e : Effect). and_then (and_then (and_then e deliveries) transmissions) (λ r. no_effect (with_until_halt b r))) (due-other _ _ (next_tick_state s))

  -- a statement of the thread of soft timers
  work-other : (o : Option Timer) (s : State) → work_effect other o s ≡ work_effect b o s
  work-other None s = refl
  work-other (Some timer) s = action-other (Line.Work timer.name) timer.name timer.call (with_period timer.kind timer s)

  soft-other : (u : ℕ) (names : List (List ℕ)) (s : State) → soft_turn_effect other u names s ≡ soft_turn_effect b u names s
  soft-other u [] s = refl
  soft-other u (name ∷ names) s =
      let row = thread_at s u in
      let free : State = with_thread s u (record row { retry = None }) in
      let rest : State = record free { works = names } in
      λ i. and_then (line_effect rest (turn_line row 1 (Some Code.Ok))) (λ r. work-other (find_timer rest name) rest i)

  -- a statement of the shell's thread
  rows-other : (s : State) (class : Class) → rows other s class ≡ rows b s class
  rows-other s Class.Thread = refl
  rows-other s Class.Sem = refl
  rows-other s Class.Event = refl
  rows-other s Class.Mutex = refl
  rows-other s Class.Mailbox = refl
  rows-other s Class.MsgQueue = refl
  rows-other s Class.Timer = refl
  rows-other s Class.Device = refl

  seen-other : (s : State) → seen_of other s ≡ seen_of b s
  seen-other s = λ i. record { rows = λ class. rows-other s class i; votes = votes_for s.votes; mode = sleep_mode b s }

  line-other : (line rest : List ℕ) (s : State) → line_read_effect other line rest s ≡ line_read_effect b line rest s
  line-other line rest s =
      let read : State = with_console_bytes rest s in
      ap (λ (seen : Seen). record { state = record read { shell_line = [] }; lines = map (λ piece. Line.Print piece) ((line ++ 10 ∷ []) ∷ table line seen ++ prompt ∷ []) }) (seen-other read)

  reading-other : (bytes : List ℕ) (s : State) → reading_effect other bytes s ≡ reading_effect b bytes s
  reading-other bytes s =
      ap (λ (e : Effect). if list_any is_newline bytes then e else no_effect (record (with_console_bytes [] s) { shell_line = longer_line s.shell_line bytes })) (line-other (longer_line s.shell_line (before_first is_newline bytes)) (after_first is_newline bytes) s)

  turn-other : (u : ℕ) (bytes : List ℕ) (s : State) → turn_effect other u bytes s ≡ turn_effect b u bytes s
  turn-other u [] s = refl
  turn-other u (byte ∷ bytes) s =
      let row = thread_at s u in
      let free : State = with_thread s u (record row { retry = None }) in
      ap (λ (f : Effect). and_then (line_effect free (turn_line row 2 (Some Code.Ok))) (λ r. f)) (reading-other (byte ∷ bytes) free)

  shell-other : (u : ℕ) (s : State) → shell_effect other u s ≡ shell_effect b u s
  shell-other u s = ap (λ (e : Effect). if eqb (thread_at s u).next 1 then prompt_effect u s else e) (turn-other u (console_bytes s) s)

  -- a statement of a script
  done-other : (u core : ℕ) (name : List ℕ) (k : ℕ) (stmt : Stmt) (s : State) → done_effect other u core name k stmt s ≡ done_effect b u core name k stmt s
  done-other u core name k (Stmt.Do call) s = ap (call_effect u (Line.Done name k)) (call-other call s (ByThread u core) First)
  done-other u core name k (Stmt.Print text) s = refl
  done-other u core name k (Stmt.Say what) s = refl
  done-other u core name k (Stmt.Goto l) s = refl
  done-other u core name k (Stmt.IfCode code l) s = refl
  done-other u core name k (Stmt.Count n) s = refl
  done-other u core name k (Stmt.Next l) s = refl
  done-other u core name k Stmt.Exit s = refl

  repeated-other : (u core : ℕ) (retry : Retry) (what : Awaited) (s : State) → repeated_call_effect other u core retry what s ≡ repeated_call_effect b u core retry what s
  repeated-other u core retry AtConsole s = refl
  repeated-other u core retry AtWorks s = refl
  repeated-other u core retry (InCall call) s =
      let row = thread_at s u in
      ap (call_effect u (Line.Again row.name (row.next - 1))) (call-other call (with_thread s u (record row { retry = None })) (ByThread u core) (Again retry.due))

  script-other : (u core : ℕ) (o : Option Retry) (s : State) → script_effect other u core o s ≡ script_effect b u core o s
  script-other u core None s = let row = thread_at s u in done-other u core row.name row.next (statement_at (script_of b row.name) row.next) (with_next s u (row.next + 1))
  script-other u core (Some retry) s = repeated-other u core retry retry.what s

  statement-other : (u core : ℕ) (s : State) → statement_effect other u core s ≡ statement_effect b u core s
  statement-other u core s = λ i. settled_effect b s (if is_shell b u then shell-other u s i else if is_soft_thread b u then soft-other u s.works s i else script-other u core (thread_at s u).retry s i)

  -- a step of a core that runs a thread
  stated-other : (s : State) (core r : ℕ) → statement_did other s core r ≡ statement_did b s core r
  stated-other s core r = ap did_of_effect (statement-other r core (if is_preemptible s core r then without_mark s r else s))

  busy-other : (s : State) (core r : ℕ) (p : Option ℕ) → busy_core_did other s core r p ≡ busy_core_did b s core r p
  busy-other s core r None = stated-other s core r
  busy-other s core r (Some p) = ap (λ (d : Did). if is_preemptible s core r && takes_from s p r then preempt_did s core r p else d) (stated-other s core r)

  ticked-other : (s : State) (o : Option Halt) → unhalted_tick_did other s o ≡ unhalted_tick_did b s o
  ticked-other s (Some halt) = refl
  ticked-other s None = ap (λ (e : Effect). if is_some s.nest then Same else did_of_effect e) (tick-other s)

-- where a board sleeps: core 0 finds nobody to run, no device is busy, and the mode doesn't end the run
pub record IsSleep (b : PlainBoard) (s : State) : Type 0 where
  pub idle : is_all_idle s ≡ true
  pub silent : is_busy s ≡ false
  pub goes_on : final_halt (sleep_mode b s) ≡ None
  pub waits : nothing_comes s ≡ false
  pub may : may_sleep b s ≡ true

-- the same board without sleeps
abbrev pub awake : PlainBoard → PlainBoard
awake b = with_tickless false b

-- an event does the same without sleeps, or it is a sleep
abbrev Agrees : PlainBoard → State → Did → Did → Type 0
Agrees b s without did = (without ≡ did) ⊎ (IsSleep b s × (did ≡ sleep_did b (sleep_length b s) s))

may-agrees : (b : PlainBoard) (s : State) (c : Bool) → may_sleep b s ≡ c → (c ≡ true → IsSleep b s) → Agrees b s Same (if c then sleep_did b (sleep_length b s) s else Same)
may-agrees b s true may sleep = inr (sleep refl, refl)
may-agrees b s false may sleep = inl refl

quiet-agrees : (b : PlainBoard) (s : State) (c : Bool) → (c ≡ false → (may_sleep b s ≡ true → IsSleep b s)) → Agrees b s (if c then Halted Halt.Quiet else Same) (if c then Halted Halt.Quiet else if may_sleep b s then sleep_did b (sleep_length b s) s else Same)
quiet-agrees b s true sleep = inl refl
quiet-agrees b s false sleep = may-agrees b s (may_sleep b s) refl (sleep refl)

halting-agrees : (b : PlainBoard) (s : State) (o : Option Halt) → final_halt (sleep_mode b s) ≡ o → is_all_idle s ≡ true → is_busy s ≡ false → Agrees b s (halting_rest_did (awake b) o s) (halting_rest_did b o s)
halting-agrees b s (Some halt) mode idle silent = inl refl
halting-agrees b s None mode idle silent = quiet-agrees b s (nothing_comes s) (λ waits may. record { idle = idle; silent = silent; goes_on = mode; waits = waits; may = may })

rest-agrees : (b : PlainBoard) (s : State) (c : Bool) → is_busy s ≡ c → is_all_idle s ≡ true → Agrees b s (if c then Same else halting_rest_did (awake b) (final_halt (sleep_mode b s)) s) (if c then Same else halting_rest_did b (final_halt (sleep_mode b s)) s)
rest-agrees b s true busy idle = inl refl
rest-agrees b s false busy idle = halting-agrees b s (final_halt (sleep_mode b s)) refl idle busy

idle-agrees : (b : PlainBoard) (s : State) (c : Bool) → (c ≡ true → is_all_idle s ≡ true) → Agrees b s (if c then rest_did (awake b) s else Same) (if c then rest_did b s else Same)
idle-agrees b s true idle = rest-agrees b s (is_busy s) refl (idle refl)
idle-agrees b s false idle = inl refl

free-agrees : (b : PlainBoard) (s : State) (core : ℕ) (p : Option ℕ) → Agrees b s (free_core_did (awake b) s core p) (free_core_did b s core p)
free-agrees b s core (Some p) = inl refl
free-agrees b s core None = idle-agrees b s (eqb core 0 && is_all_idle s) (λ idle. and-right (eqb core 0) (is_all_idle s) idle)

core-agrees : (b : PlainBoard) (s : State) (core : ℕ) (r : Option ℕ) → Agrees b s (core_did (awake b) s core r) (core_did b s core r)
core-agrees b s core (Some r) = inl (busy-other false b s core r (pick s core))
core-agrees b s core None = free-agrees b s core (pick s core)

unheld-agrees : (b : PlainBoard) (s : State) (core : ℕ) (c : Bool) → Agrees b s (if c then Same else core_did (awake b) s core (running_on s core)) (if c then Same else core_did b s core (running_on s core))
unheld-agrees b s core true = inl refl
unheld-agrees b s core false = core-agrees b s core (running_on s core)

step-agrees : (b : PlainBoard) (s : State) (core : ℕ) (o : Option Halt) → Agrees b s (unhalted_step_did (awake b) s core o) (unhalted_step_did b s core o)
step-agrees b s core (Some halt) = inl refl
step-agrees b s core None = unheld-agrees b s core (is_nest_of_other core s.nest)

-- an event of either board does the same, or it is a step that sleeps
pub record IsSleepStep (b : PlainBoard) (s : State) (event : Event) : Type 0 where
  pub core : ℕ
  pub steps : event ≡ Event.Step core
  pub sleep : IsSleep b s
  pub did : happens b s event ≡ sleep_did b (sleep_length b s) s

pub event-agrees : (b : PlainBoard) (s : State) (event : Event) → (happens (awake b) s event ≡ happens b s event) ⊎ IsSleepStep b s event
unfolding happens
event-agrees b s Event.Tick = inl (ticked-other false b s s.halt)
event-agrees b s (Event.Step core) = by_way (step-agrees b s core s.halt) where
  by_way : Agrees b s (happens (awake b) s (Event.Step core)) (happens b s (Event.Step core)) → (happens (awake b) s (Event.Step core) ≡ happens b s (Event.Step core)) ⊎ IsSleepStep b s (Event.Step core)
  by_way (inl same) = inl same
  by_way (inr sleeps) = inr (record { core = core; steps = refl; sleep = sleeps.0; did = sleeps.1 })
