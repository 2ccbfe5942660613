-- In no run does a thread wait for a block of a memory pool of which one is free.
use Rattle.std.proofs.Common.{◌≡◌, ◌+◌, ◌-◌, ◌∷◌, [], ◌++◌, ℕ, zero, suc, List, Option, Some, None, codes, slice_index_or, Bool, true, false, not, ◌&&◌, is_some, length, eqb, refl, sym, subst, filter, map, if◌then◌else◌}
use Rattle.std.specs.List.{AllByRecursion, fold}
use Rattle.rt_base.specs.declared.codes.Event.{Event}
use Rattle.rt_base.specs.declared.codes.Halt.{Halt}
use Rattle.rt_plain.specs.declared.line.Line.{Line}
use Rattle.rt_plain.specs.declared.line.Fired.{Fired}
use Rattle.rt_plain.specs.PlainBoard.{PlainBoard}
use Rattle.rt_plain.specs.kernel.State.{State, Thread, Timer, Device, Arriving, Alarm, OfThread, OfTimer, ArmedRow, thread_at, running_on, is_nest_of_other}
use Rattle.rt_plain.specs.kernel.Effects.{Effect, no_effect, line_effect, and_then, effect_for, without_alarm, wake_effect, retry_wake_effect, with_ready_last, with_ready_first, name_of}
use Rattle.rt_plain.specs.kernel.Works.{with_work, work_waiter}
use Rattle.rt_plain.specs.kernel.TimerCalls.{find_timer}
use Rattle.rt_plain.specs.kernel.TimerKinds.{is_soft}
use Rattle.rt_plain.specs.kernel.Due.{due, soft_timer_effect, fired_timer_effect, alarm_effect, fired_row_effect, due_rows_effect, timeout_code}
use Rattle.rt_plain.specs.kernel.DeviceCalls.{find_device, with_device, ring_after, console_waiter, indication_effect, notice_effect, arrival_effect_at, arrival_effect, is_sending, sent, is_busy, registered_devices}
use Rattle.rt_plain.specs.kernel.PowerCalls.{sleep_mode}
use Rattle.rt_plain.specs.kernel.Ticks.{thread_after_slice, with_slice_used, next_tick_state, alarms_effect, arrivals_now, deliveries, transmissions, with_until_halt, tick_effect}
use Rattle.rt_plain.specs.kernel.Sleeps.{Did, Made, Same, Halted, ticks, sleep_did, sleep_length, may_sleep, awake_rest_did, halting_rest_did, nothing_comes, final_halt, rest_did}
use Rattle.rt_plain.specs.kernel.Statements.{statement_effect}
use Rattle.rt_plain.specs.kernel.Pick.{pick}
use Rattle.rt_plain.specs.kernel.Steps.{happens, with_running, without_mark, is_preemptible, takes_from, preempt_did, did_of_effect, statement_did, busy_core_did, is_all_idle, free_core_did, core_did, unhalted_step_did, unhalted_tick_did}
use Rattle.rt_plain.specs.declared.board.ThreadDef.{ThreadDef}
use Rattle.rt_plain.specs.declared.board.TimerDef.{TimerDef}
use Rattle.rt_plain.specs.declared.entry.Entry.{Entry}
use Rattle.rt_plain.specs.kernel.Opening.{new_thread, new_script_thread, own_threads, unstarted_state, with_auto_timer, open_state}
use Rattle.rt_plain.specs.kernel.State.{Stage, Pool, no_thread}
use Rattle.rt_plain.specs.runs.Runs.{IsRun}
use Rattle.rt_plain.proofs.kernel.TallyLemmas.{all-append}
use Rattle.pool_laws.specs.Served.{awaits_block, IsUsedUp, IsServedThread, IsServed}
use Rattle.pool_laws.proofs.ServedLemmas.{Spares}
use Rattle.pool_laws.proofs.CallSpares.{spares-same, spares-parts, spares-then, spares-from, spares-line, row-spares, wake-spares, retry_wake-spares, each-spares, for-spares, sem_release-spares}
use Rattle.pool_laws.proofs.StatementSpares.{settled-spares, action-spares, statement-spares}

-- a slice that falls spares the stage
slice-stage : (row : Thread) → (thread_after_slice row).stage ≡ row.stage
slice-stage row = by_test (eqb (row.left - 1) 0) where
  by_test : (c : Bool) → (if c then record row { left = row.slice; marked = true } else record row { left = row.left - 1 }).stage ≡ row.stage
  by_test true = refl
  by_test false = refl

module _ (b : PlainBoard) where
  if-spares : (s : State) (c : Bool) (x y : Effect) → Spares b s x → Spares b s y → Spares b s (if c then x else y)
  if-spares s true x y one other = one
  if-spares s false x y one other = other

  -- a timer fires
  soft-spares : (s : State) (name : List ℕ) → Spares b s (soft_timer_effect name s)
  soft-spares s name = spares-then b s (line_effect (with_work s name) (Line.Fire name Fired.Soft)) (effect_for retry_wake_effect (work_waiter (with_work s name)) (with_work s name)) (record { kept = λ all. all }) (for-spares b retry_wake_effect (retry_wake-spares b) (work_waiter (with_work s name)) (with_work s name))

  fired-spares : (s : State) (o : Option Timer) → Spares b s (fired_timer_effect b o s)
  fired-spares s None = spares-same b s
  fired-spares s (Some timer) = if-spares s (is_soft timer.kind) (soft_timer_effect timer.name s) _ (soft-spares s timer.name) (action-spares b s (Line.Fire timer.name) timer)

  alarm-spares : (s : State) (alarm : Alarm) → Spares b s (alarm_effect b alarm s)
  alarm-spares s (OfThread t) = spares-line b s (wake_effect (timeout_code (thread_at s t).stage) t s) (Line.Timeout (name_of s t)) (wake-spares b s (timeout_code (thread_at s t).stage) t)
  alarm-spares s (OfTimer name) = fired-spares s (find_timer s name)

  row-fires : (s : State) (row : ArmedRow Alarm) → Spares b s (fired_row_effect b row s)
  row-fires s row = settled-spares b s s (alarm_effect b row.alarm (without_alarm s row.alarm)) (spares-from b s (without_alarm s row.alarm) (alarm_effect b row.alarm (without_alarm s row.alarm)) (spares-parts b s (without_alarm s row.alarm) refl refl) (alarm-spares (without_alarm s row.alarm) row.alarm))

  -- all that are due fire
  due-spares : (n : ℕ) (s : State) (rows : List (ArmedRow Alarm)) → Spares b s (due_rows_effect b n rows s)
  due-spares zero s rows = spares-same b s
  due-spares (suc n) s [] = spares-same b s
  due-spares (suc n) s (row ∷ rows) = let fired : Effect = fired_row_effect b row s in spares-then b s fired (due_rows_effect b n (due fired.state) fired.state) (row-fires s row) (due-spares n fired.state (due fired.state))

  used-spares : (s : State) (r : Option ℕ) → Spares b s (no_effect (with_slice_used s r))
  used-spares s None = spares-same b s
  used-spares s (Some t) = row-spares b s t (thread_after_slice (thread_at s t)) (λ name awaits. subst (λ (stage : Stage). awaits_block name stage ≡ true) (slice-stage (thread_at s t)) awaits)

  slices-spare : (xs : List (Option ℕ)) (s : State) → Spares b s (no_effect (fold with_slice_used s xs))
  slices-spare [] s = spares-same b s
  slices-spare (x ∷ xs) s = spares-from b s (with_slice_used s x) (no_effect (fold with_slice_used s (x ∷ xs))) (used-spares s x) (slices-spare xs (with_slice_used s x))

  next-spares : (s : State) → Spares b s (no_effect (next_tick_state s))
  next-spares s = let later : State = record s { moment = s.moment + 1 } in spares-from b s later (no_effect (next_tick_state s)) (spares-parts b s later refl refl) (slices-spare s.running later)

  alarms-spare : (s : State) → Spares b s (alarms_effect b (next_tick_state s))
  alarms-spare s = let later : State = next_tick_state s in spares-from b s later (alarms_effect b later) (next-spares s) (due-spares (length (due later)) later (due later))

  -- what arrives, and what is sent
  noticed-spares : (s : State) (device : Device) → Spares b s (notice_effect device s)
  noticed-spares s device = if-spares s device.console _ _ (for-spares b retry_wake_effect (retry_wake-spares b) (console_waiter s) s) (indicated device.ind) where
    indicated : (sem : Option (List ℕ)) → Spares b s (indication_effect sem s)
    indicated None = spares-same b s
    indicated (Some sem) = sem_release-spares b s sem

  arrived-spares : (s : State) (o : Option Device) (text : List ℕ) → Spares b s (arrival_effect_at o text s)
  arrived-spares s None text = spares-same b s
  arrived-spares s (Some device) text =
      let received : State = with_device s (record device { rx = ring_after device text }) in
      spares-line b s (notice_effect device received) _ (spares-from b s received (notice_effect device received) (spares-parts b s received refl refl) (noticed-spares received device))

  sent-spares : (device : Device) (s : State) → Spares b s (sent device s)
  sent-spares device s = if-spares s (is_sending device) _ _ (spares-line b s (no_effect (with_device s _)) _ (spares-parts b s (with_device s _) refl refl)) (spares-same b s)

  delivered-spares : (s : State) → Spares b s (deliveries s)
  delivered-spares s = spares-from b s (record s { arrivals = filter (λ (a : Arriving). not (eqb a.moment s.moment)) s.arrivals }) _ (spares-parts b s _ refl refl) (each-spares b arrival_effect (λ arrival u. arrived-spares u (find_device u arrival.device) arrival.text) (arrivals_now s) _)

  until-spares : (s : State) → Spares b s (no_effect (with_until_halt b s))
  until-spares s = by_test (eqb s.moment b.until) where
    by_test : (c : Bool) → Spares b s (no_effect (if c then record s { halt = Some Halt.Until } else s))
    by_test true = spares-parts b s _ refl refl
    by_test false = spares-same b s

  tick-spares : (s : State) → Spares b s (tick_effect b s)
  tick-spares s = spares-then b s two (no_effect (with_until_halt b two.state)) (spares-then b s one (transmissions one.state) (spares-then b s rung (deliveries rung.state) (alarms-spare s) (delivered-spares rung.state)) (each-spares b sent sent-spares (registered_devices one.state) one.state)) (until-spares two.state) where
    rung : Effect
    rung = alarms_effect b (next_tick_state s)

    one : Effect
    one = and_then rung deliveries

    two : Effect
    two = and_then one transmissions

  ticks-spare : (n : ℕ) (s : State) → Spares b s (ticks b n s)
  ticks-spare zero s = spares-same b s
  ticks-spare (suc n) s = let one : Effect = tick_effect b s in spares-then b s one (ticks b n one.state) (tick-spares s) (ticks-spare n one.state)

-- what an event spares, where it makes an entry
abbrev pub KeepsServed : State → Did → Type 0
KeepsServed s (Made new lines) = IsServed s → IsServed new
KeepsServed s Same = Unit {0}
KeepsServed s (Halted halt) = Unit {0}

module _ (b : PlainBoard) (s : State) where
  if-keeps : (c : Bool) (x y : Did) → KeepsServed s x → KeepsServed s y → KeepsServed s (if c then x else y)
  if-keeps true x y one other = one
  if-keeps false x y one other = other

  sleep-keeps : (d : ℕ) → KeepsServed s (sleep_did b d s)
  sleep-keeps d = λ all. (tick-spares b (ticks b (d - 1) s).state).kept ((ticks-spare b (d - 1) s).kept all)

  halting-keeps : (o : Option Halt) → KeepsServed s (halting_rest_did b o s)
  halting-keeps (Some halt) = tt
  halting-keeps None = if-keeps (nothing_comes s) (Halted Halt.Quiet) (awake_rest_did b s) tt (if-keeps (may_sleep b s) (sleep_did b (sleep_length b s) s) Same (sleep-keeps (sleep_length b s)) tt)

  rest-keeps : KeepsServed s (rest_did b s)
  rest-keeps = if-keeps (is_busy s) Same (halting_rest_did b (final_halt (sleep_mode b s)) s) tt (halting-keeps (final_halt (sleep_mode b s)))

  stated-keeps : (core r : ℕ) → KeepsServed s (statement_did b s core r)
  stated-keeps core r = by_lock (is_preemptible s core r) where
    by_lock : (c : Bool) → KeepsServed s (did_of_effect (statement_effect b r core (if c then without_mark s r else s)))
    by_lock true = (spares-from b s (without_mark s r) (statement_effect b r core (without_mark s r)) (row-spares b s r (record (thread_at s r) { marked = false }) (λ name is. is)) (statement-spares b (without_mark s r) r core)).kept
    by_lock false = (statement-spares b s r core).kept

  preempt-keeps : (core r p : ℕ) → KeepsServed s (preempt_did s core r p)
  preempt-keeps core r p = by_mark (thread_at s r).marked where
    free : State
    free = without_mark s r

    unmarked : Spares b s (no_effect free)
    unmarked = row-spares b s r (record (thread_at s r) { marked = false }) (λ name is. is)

    by_mark : (c : Bool) → IsServed s → IsServed (with_running (if c then with_ready_last free r else with_ready_first free r) core p)
    by_mark true = unmarked.kept
    by_mark false = unmarked.kept

  busy-keeps : (core r : ℕ) (p : Option ℕ) → KeepsServed s (busy_core_did b s core r p)
  busy-keeps core r None = stated-keeps core r
  busy-keeps core r (Some p) = if-keeps (is_preemptible s core r && takes_from s p r) (preempt_did s core r p) (statement_did b s core r) (preempt-keeps core r p) (stated-keeps core r)

  free-keeps : (core : ℕ) (p : Option ℕ) → KeepsServed s (free_core_did b s core p)
  free-keeps core (Some p) = λ all. all
  free-keeps core None = if-keeps (eqb core 0 && is_all_idle s) (rest_did b s) Same rest-keeps tt

  core-keeps : (core : ℕ) (r : Option ℕ) → KeepsServed s (core_did b s core r)
  core-keeps core None = free-keeps core (pick s core)
  core-keeps core (Some r) = busy-keeps core r (pick s core)

  step-keeps : (core : ℕ) (o : Option Halt) → KeepsServed s (unhalted_step_did b s core o)
  step-keeps core (Some halt) = tt
  step-keeps core None = if-keeps (is_nest_of_other core s.nest) Same (core_did b s core (running_on s core)) tt (core-keeps core (running_on s core))

  ticked-keeps : (o : Option Halt) → KeepsServed s (unhalted_tick_did b s o)
  ticked-keeps (Some halt) = tt
  ticked-keeps None = if-keeps (is_some s.nest) Same (did_of_effect (tick_effect b s)) tt (tick-spares b s).kept

  pub event-keeps : (e : Event) → KeepsServed s (happens b s e)
  unfolding happens
  event-keeps (Event.Step core) = step-keeps core s.halt
  event-keeps Event.Tick = ticked-keeps s.halt

-- what a run spares
run-keeps : (b : PlainBoard) (journal : List Entry) (s new : State) → IsRun b s journal new → IsServed s → IsServed new
run-keeps b [] s new run all = subst IsServed (sym run) all
run-keeps b (e ∷ journal) s new run all = run-keeps b journal run.0 new run.2 (subst (KeepsServed s) run.1.1 (event-keeps b s e.event) all)

-- at the opening nobody waits
own-served : (pools : List Pool) (name : List ℕ) (prio : Option ℕ) → AllByRecursion (IsServedThread pools) (own_threads name prio)
own-served pools name None = tt
own-served pools name (Some prio) = (λ n is. absurd cc, tt)

started-served : (pools : List Pool) (def : ThreadDef) → IsServedThread pools (new_script_thread def)
started-served pools def = by_start def.started where
  by_start : (started : Bool) → IsServedThread pools (new_thread def.name def.prio def.slice def.core started)
  by_start true name is = absurd cc
  by_start false name is = absurd cc

scripts-served : (pools : List Pool) (defs : List ThreadDef) → AllByRecursion (IsServedThread pools) (map new_script_thread defs)
scripts-served pools [] = tt
scripts-served pools (def ∷ defs) = (started-served pools def, scripts-served pools defs)

auto-spares : (b : PlainBoard) (defs : List TimerDef) (s : State) → Spares b s (no_effect (fold with_auto_timer s defs))
auto-spares b [] s = spares-same b s
auto-spares b (def ∷ defs) s = spares-from b s (with_auto_timer s def) (no_effect (fold with_auto_timer s (def ∷ defs))) (by_start def.started) (auto-spares b defs (with_auto_timer s def)) where
  by_start : (started : Bool) → Spares b s (no_effect (with_auto_timer s (record def { started = started })))
  by_start true = spares-parts b s _ refl refl
  by_start false = spares-same b s

opened-spares : (b : PlainBoard) → Spares b (unstarted_state b) (no_effect (open_state b))
unfolding open_state
opened-spares b = spares-from b (unstarted_state b) (fold with_auto_timer (unstarted_state b) b.timers) (no_effect (open_state b)) (auto-spares b b.timers (unstarted_state b)) (spares-parts b (fold with_auto_timer (unstarted_state b) b.timers) (open_state b) refl refl)

opened-served : (b : PlainBoard) → IsServed (open_state b)
opened-served b =
    let pools : List Pool = (unstarted_state b).pools in
    (opened-spares b).kept (all-append (IsServedThread pools) (own_threads (codes "tshell") b.shell ++ own_threads (codes "tsoft") b.soft) (map new_script_thread b.threads)
    (all-append (IsServedThread pools) (own_threads (codes "tshell") b.shell) (own_threads (codes "tsoft") b.soft) (own-served pools (codes "tshell") b.shell) (own-served pools (codes "tsoft") b.soft))
    (scripts-served pools b.threads))

at-thread : (pools : List Pool) (threads : List Thread) (t : ℕ) → AllByRecursion (IsServedThread pools) threads → IsServedThread pools (slice_index_or threads t no_thread)
at-thread pools [] t all = λ name is. absurd cc
at-thread pools (x ∷ xs) zero all = all.0
at-thread pools (x ∷ xs) (suc t) all = at-thread pools xs t all.1

-- a thread waits for a block only where none is free
pub waits-served : (b : PlainBoard) (journal : List Entry) (s : State) (t : ℕ) (name : List ℕ) → IsRun b (open_state b) journal s → awaits_block name (thread_at s t).stage ≡ true → IsUsedUp s.pools name
waits-served b journal s t name run awaits = at-thread s.pools s.threads t (run-keeps b journal (open_state b) s run (opened-served b)) name awaits
