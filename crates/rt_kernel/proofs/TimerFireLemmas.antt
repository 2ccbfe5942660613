-- What timers do when they fire.
use Rattle.std.proofs.Common.{◌≡◌, ℕ, zero, suc, ◌+◌, ◌-◌, ◌<◌, ◌≤◌, ◌++◌, ◌∷◌, [], List, Option, Some, None, Bool, true, false, not, cond, length, refl, sym, ap, ◌∙◌, subst, arith, All, eqb, nat_lt}
use Rattle.std.specs.Prelude.{unwrap_or, slice_get}
use Rattle.std.specs.Option.{option_map}
use Rattle.std.specs.List.{AllByRecursion}
use Rattle.std.proofs.lemmas.List.Elements.{All-from_recursion, recursion_from_All}
use Rattle.rt_base.specs.Roomy.{Roomy}
use Rattle.rt_plain.specs.declared.board.TimerKind.{TimerKind}
use Rattle.rt_plain.specs.declared.line.Fired.{Fired}
use Rattle.rt_plain.specs.declared.line.Line.{Line}
use Rattle.rt_plain.specs.declared.stmt.Call.{Call}
use Rattle.rt_plain.specs.declared.stmt.Stmt.{Stmt}
use Rattle.rt_plain.specs.PlainBoard.{PlainBoard}
use Rattle.rt_plain.specs.kernel.State.{State, Timer, Alarm, OfThread, OfTimer, ArmedRow, thread_at}
use Rattle.rt_plain.specs.kernel.Effects.{Effect}
use Rattle.rt_plain.specs.kernel.Outcome.{By, ByTimer, Attempt, First, Outcome, success}
use Rattle.rt_plain.specs.kernel.Calls.{mode_lines, outcome_of, prio_lines, settled_effect}
use Rattle.rt_plain.specs.kernel.Due.{due, with_period, timer_effect, timer_call_effect, timer_action_effect, alarm_effect, fired_code, timeout_code, timeout_effect, fired_timer_effect, soft_timer_effect}
use Rattle.rt_plain.specs.kernel.Kept.{Kept}
use Rattle.rt_plain.specs.kernel.Tally.{tally}
use Rattle.rt_plain.specs.kernel.Sound.{is_levelled_call, is_timed_call, is_waiting, IsSized}
use Rattle.rt_plain.specs.kernel.TimerCalls.{find_timer, with_timer_armed}
use Rattle.rt_plain.specs.kernel.TimerKinds.{is_timer_call, is_timer_action, is_soft}
use Rattle.std.proofs.lemmas.Bool.{ltb-true, ltb-false}
use Rattle.kernel_timers.specs.Alarmed.{timer_at, without, alarm_of, names_of, IsTimer}
use Rattle.rt_kernel.specs.Actions.{MayAct, MayFire, timer_call}
use Rattle.rt_kernel.specs.Caller.{timer_name}
use Rattle.rt_kernel.specs.Limits.{limits_of}
use Rattle.rt_kernel.specs.View.{state_of}
use Rattle.mutex_tables.specs.MutexTabled.{MutexTabled}
use Rattle.rt_kernel.specs.declared.answer.Answer.{Answer}
use Rattle.rt_kernel.specs.declared.state.State.{State as KernelState}
use Rattle.rt_kernel.specs.Built.{is_built_call, is_built_action}
use Rattle.rt_kernel.specs.Does.{Does, Acts}
use Rattle.rt_kernel.specs.Settles.{settled}
use Rattle.rt_kernel.specs.IsKernel.{frame_of}
use Rattle.rt_kernel.specs.Mutexes.{NobodyWaits}
use Rattle.rt_plain.proofs.kernel.EventLemmas.{action-leaves}
use Rattle.rt_kernel.proofs.CurLemmas.{graph-self}
use Rattle.rt_kernel.proofs.Settled.{IsAlike, alike-self, mode-alike, prio-alike, reordered, reordered-alike, settled-kept}
use Rattle.rt_kernel.proofs.Quiet.{IsQuiet, IsQuietCall, apart-kept, quiet-self, quiet-then, quiet-startup, quiet-resume, quiet-timeout}
use Rattle.rt_kernel.proofs.ObjectQuiet.{quiet-sem_release, quiet-event_send}
use Rattle.rt_kernel.proofs.ChannelQuiet.{quiet-mb_urgent, quiet-mq_urgent}
use Rattle.rt_kernel.proofs.TimerQuiet.{quiet-armed, quiet-timer_start, quiet-timer_stop, quiet-timer_set}
use Rattle.rt_plain.proofs.kernel.ObjectLemmas.{action-kept, outcome-kept, found-owner, found-timer}
use Rattle.rt_plain.proofs.kernel.StatementLemmas.{settled-kept as settled-stays}
use Rattle.rt_plain.proofs.kernel.WakeLemmas.{wake-kept}
use Rattle.rt_plain.proofs.kernel.WorkCosts.{fired-cost}
use Rattle.rt_plain.proofs.runs.RoomLemmas.{has-few}
use Rattle.rt_kernel.proofs.KeptLemmas.{still-now, due-tally}

-- no timer's call sets a base priority
pub timer_levelled : (levels : ℕ) (call : Call) → is_timer_call call ≡ true → is_levelled_call levels call ≡ true
timer_levelled levels (Call.SetPrio name prio) may = absurd cc
timer_levelled levels _ may = refl

-- the name of a timer by its number
pub named : (timers : List Timer) (o : ℕ) → o < length timers → unwrap_or (option_map (λ (timer : Timer). timer.name) (slice_get timers o)) [] ≡ (timer_at timers o).name
named [] o there = absurd (omega (arith, there))
named (timer ∷ timers) zero there = refl
named (timer ∷ timers) (suc o) there = named timers o (omega (arith, there))

-- what adds few lines adds no more than many
pub does_more : {old new : KernelState} {before after : Roomy Line} {answered : Answer} {outcome : Outcome} (few most : ℕ) → few ≤ most → Does old new before after answered few outcome → Does old new before after answered most outcome
does_more few most le does = record { state = does.state; lines = does.lines; answer = does.answer; limits = does.limits; threads = does.threads; numbers = does.numbers; few = omega (arith, le, does.few); out_room = does.out_room }

-- a new row has the latest number
each-dropped : (n : ℕ) (alarm : Alarm) (row : ArmedRow Alarm) (rows : List (ArmedRow Alarm)) → row.number < n + 1 → AllByRecursion (λ (r : ArmedRow Alarm). r.number < n) rows → AllByRecursion (λ (r : ArmedRow Alarm). r.number < n + 1) (without alarm rows ++ row ∷ [])
each-dropped n alarm row [] last all = (last, tt)
each-dropped n alarm row (r ∷ rows) last all = by_test _ (each-dropped n alarm row rows last all.1) where
  by_test : (c : Bool) → AllByRecursion (λ (x : ArmedRow Alarm). x.number < n + 1) (without alarm rows ++ row ∷ []) → AllByRecursion (λ (x : ArmedRow Alarm). x.number < n + 1) (cond (not c) (r ∷ without alarm rows) (without alarm rows) ++ row ∷ [])
  by_test true rest = rest
  by_test false rest = (omega (arith, all.0), rest)

pub latest_armed : (n : ℕ) (alarm : Alarm) (row : ArmedRow Alarm) (rows : List (ArmedRow Alarm)) → row.number < n + 1 → All (λ (r : ArmedRow Alarm). r.number < n) rows → All (λ (r : ArmedRow Alarm). r.number < n + 1) (without alarm rows ++ row ∷ [])
latest_armed n alarm row rows last all = All-from_recursion (λ (r : ArmedRow Alarm). r.number < n + 1) (without alarm rows ++ row ∷ []) (each-dropped n alarm row rows last (recursion_from_All (λ (r : ArmedRow Alarm). r.number < n) rows all))

-- the calls of timers are quiet
pub quiet-timer_call : (b : PlainBoard) (s : State) (call : Call) (by : By) (attempt : Attempt) → is_timer_call call ≡ true → is_built_call call ≡ true → NobodyWaits s → IsQuietCall s (outcome_of b call s by attempt)
quiet-timer_call b s (Call.Startup name) by attempt may built nobody = quiet-startup s name
quiet-timer_call b s (Call.Resume name) by attempt may built nobody = quiet-resume s name nobody
quiet-timer_call b s (Call.SemRelease name) by attempt may built nobody = quiet-sem_release s name
quiet-timer_call b s (Call.EventSend name mask) by attempt may built nobody = quiet-event_send s name mask
quiet-timer_call b s (Call.TimerStart name) by attempt may built nobody = quiet-timer_start s name
quiet-timer_call b s (Call.TimerStop name) by attempt may built nobody = quiet-timer_stop s name
quiet-timer_call b s (Call.TimerSet name time) by attempt may built nobody = quiet-timer_set s name time
quiet-timer_call b s (Call.MbUrgent name word) by attempt may built nobody = quiet-mb_urgent s name word
quiet-timer_call b s (Call.MqUrgent name message) by attempt may built nobody = quiet-mq_urgent s name message
quiet-timer_call b s (Call.PmRequest mode) by attempt may built nobody = absurd cc
quiet-timer_call b s (Call.PmRelease mode) by attempt may built nobody = absurd cc
quiet-timer_call b s (Call.PmRun mode) by attempt may built nobody = absurd cc
quiet-timer_call b s _ by attempt may built nobody = absurd cc

-- a timer that is armed again
armed-alike : (s : State) (timer : Timer) → IsAlike s (with_timer_armed s timer)
armed-alike s timer = record { graph = (quiet-armed s timer).graph; ready = refl; votes = refl; names = λ t. refl; closed = λ t. refl }

quiet-period : (s : State) (kind : TimerKind) (timer : Timer) → IsQuiet s (with_period kind timer s)
quiet-period s TimerKind.OneShot timer = quiet-self s
quiet-period s TimerKind.Periodic timer = quiet-armed s timer
quiet-period s TimerKind.SoftOne timer = quiet-self s
quiet-period s TimerKind.SoftPer timer = quiet-armed s timer

pub period-alike : (s : State) (kind : TimerKind) (timer : Timer) → IsAlike s (with_period kind timer s)
period-alike s TimerKind.OneShot timer = alike-self s
period-alike s TimerKind.Periodic timer = armed-alike s timer
period-alike s TimerKind.SoftOne timer = alike-self s
period-alike s TimerKind.SoftPer timer = armed-alike s timer

quiet-done : (b : PlainBoard) (line : Fired → Line) (name : List ℕ) (action : Option Stmt) (s : State) → is_timer_action action ≡ true → is_built_action action ≡ true → NobodyWaits s → IsQuiet s (timer_effect b line name action s).state
quiet-done b line name (Some (Stmt.Do call)) s may built nobody = quiet-timer_call b s call (ByTimer name) First may built nobody
quiet-done b line name (Some (Stmt.Print text)) s may built nobody = quiet-self s
quiet-done b line name (Some _) s may built nobody = quiet-self s
quiet-done b line name None s may built nobody = quiet-self s

quiet-action : (b : PlainBoard) (line : Fired → Line) (timer : Timer) (s : State) → MayAct timer → NobodyWaits s → IsQuiet s (timer_action_effect b line timer s).state
quiet-action b line timer s may nobody =
    let again : IsQuiet s (with_period timer.kind timer s) = quiet-period s timer.kind timer in
    quiet-then s (with_period timer.kind timer s) _ again (quiet-done b line timer.name timer.call (with_period timer.kind timer s) may.allowed may.built (λ t. apart-kept s (with_period timer.kind timer s) t again (nobody t)))

-- the call of a timer with its line in front settles as the call by itself
pub fired-settled : (b : PlainBoard) (s u : State) (line : Fired → Line) (outcome : Outcome) → IsAlike s u → settled_effect b s (timer_call_effect line outcome) ≡ timer_call_effect line (settled b u outcome)
fired-settled b s u line outcome before =
    ap (λ (ready : List ℕ). record { state = record x { ready = ready }; lines = lines_with (prio_lines s x) (mode_lines b s x) }) (reordered-alike s u x x before (alike-self x))
    ∙ ap (λ (prio : List Line). record { state = record x { ready = reordered u x }; lines = lines_with prio (mode_lines b s x) }) (prio-alike s u x x before (alike-self x))
    ∙ ap (λ (mode : List Line). record { state = record x { ready = reordered u x }; lines = lines_with (prio_lines u x) mode }) (mode-alike b s u x x before.votes refl) where
      x : State
      x = outcome.effect.state

      lines_with : List Line → List Line → List Line
      lines_with prio mode = line (fired_code outcome.answer) ∷ (outcome.effect.lines ++ prio ++ mode)

-- and where a timer makes no call, nothing follows
shown-settled : (b : PlainBoard) (s : State) (lines : List Line) → settled_effect b s (record { state = s; lines = lines }) ≡ record { state = s; lines = lines }
shown-settled b s lines = settled-kept b s (record { state = s; lines = lines }) (graph-self s) refl

-- what a timer does, with what follows
pub acted-settled : (b : PlainBoard) (s u : State) (line : Fired → Line) (name : List ℕ) (action : Option Stmt) → IsAlike s u → settled_effect b s (timer_effect b line name action u) ≡ settled_effect b u (timer_effect b line name action u)
acted-settled b s u line name action before =
    ap (λ (ready : List ℕ). record { state = record x { ready = ready }; lines = e.lines ++ prio_lines s x ++ mode_lines b s x }) (reordered-alike s u x x before (alike-self x))
    ∙ ap (λ (prio : List Line). record { state = record x { ready = reordered u x }; lines = e.lines ++ prio ++ mode_lines b s x }) (prio-alike s u x x before (alike-self x))
    ∙ ap (λ (mode : List Line). record { state = record x { ready = reordered u x }; lines = e.lines ++ prio_lines u x ++ mode }) (mode-alike b s u x x before.votes refl) where
      e : Effect
      e = timer_effect b line name action u

      x : State
      x = e.state

-- what fires: a thread that waits, or a timer that is there
abbrev pub Fires : State → Alarm → Type 0
Fires s (OfThread t) = is_waiting (thread_at s t).stage ≡ true
Fires s (OfTimer name) = (timer : Timer) × (find_timer s name ≡ Some timer) × MayAct timer

-- a timer of which there is one acts
pub acts_at : (b : PlainBoard) (s : State) (name : List ℕ) (timer : Timer) → find_timer s name ≡ Some timer → is_soft timer.kind ≡ false → alarm_effect b (OfTimer name) s ≡ timer_action_effect b (Line.Fire timer.name) timer s
acts_at b s name timer is hard =
    ap (λ (o : Option Timer). fired_timer_effect b o s) is
    ∙ ap (λ (c : Bool). cond c (soft_timer_effect timer.name s) (timer_action_effect b (Line.Fire timer.name) timer s)) hard

pub quiet-alarm_fires : (b : PlainBoard) (s : State) (alarm : Alarm) → NobodyWaits s → Fires s alarm → IsQuiet s (alarm_effect b alarm s).state
quiet-alarm_fires b s (OfThread t) nobody fires = quiet-timeout s t nobody
quiet-alarm_fires b s (OfTimer name) nobody fires = subst (λ (e : Effect). IsQuiet s e.state) (sym (acts_at b s name fires.0 fires.1 fires.2.hard)) (quiet-action b (Line.Fire fires.0.name) fires.0 s fires.2 nobody)

-- what the rules of the kernel keep holds behind it
alarm-stays : (b : PlainBoard) (s : State) (alarm : Alarm) → s.works ≡ [] → Fires s alarm → Kept (frame_of b s) s → Kept (frame_of b s) (alarm_effect b alarm s).state
alarm-stays b s (OfThread t) idle fires kept = wake-kept (frame_of b s) s (timeout_code (thread_at s t).stage) t fires kept
alarm-stays b s (OfTimer name) idle fires kept =
    let timer : Timer = fires.0 in
    subst (λ (e : Effect). Kept (frame_of b s) e.state) (sym (acts_at b s name timer fires.1 fires.2.hard)) (action-kept (frame_of b s) s (Line.Fire timer.name) timer (found-timer (frame_of b s) s name timer fires.1 kept) (found-owner s name timer fires.1) (rw idle refl) kept)

pub alarm_kept : (b : PlainBoard) (s : State) (alarm : Alarm) → s.works ≡ [] → Fires s alarm → Kept (frame_of b s) s → Kept (frame_of b (settled_effect b s (alarm_effect b alarm s)).state) (settled_effect b s (alarm_effect b alarm s)).state
alarm_kept b s alarm idle fires kept = still-now b s (settled_effect b s (alarm_effect b alarm s)).state (settled-stays (frame_of b s) s (alarm_effect b alarm s) (alarm-stays b s alarm idle fires kept))

-- the moment stays, and so does what is left to arrive
pub alarm_moment : (b : PlainBoard) (s : State) (alarm : Alarm) → s.works ≡ [] → Fires s alarm → Kept (frame_of b s) s → (alarm_effect b alarm s).state.moment ≡ s.moment
alarm_moment b s alarm idle fires kept = (alarm-stays b s alarm idle fires kept).moment_is

pub alarm_arrivals : (b : PlainBoard) (s : State) (alarm : Alarm) → Fires s alarm → Kept (frame_of b s) s → (alarm_effect b alarm s).state.arrivals ≡ s.arrivals
alarm_arrivals b s (OfThread t) fires kept = refl
alarm_arrivals b s (OfTimer name) fires kept =
    let timer : Timer = fires.0 in
    subst (λ (e : Effect). e.state.arrivals ≡ s.arrivals) (sym (acts_at b s name timer fires.1 fires.2.hard)) (action-leaves b s s.works (Line.Fire timer.name) timer refl (λ code. refl) (found-timer (frame_of b s) s name timer fires.1 kept).3).arrivals

-- firing arms nothing for now
pub alarm_due : (b : PlainBoard) (s : State) (alarm : Alarm) → s.works ≡ [] → Fires s alarm → Kept (frame_of b s) s → length (due (alarm_effect b alarm s).state) ≤ length (due s)
alarm_due b s alarm idle fires kept =
    let new : State = (alarm_effect b alarm s).state in
    let held : Kept (frame_of b s) new = alarm-stays b s alarm idle fires kept in
    omega (arith, due-tally new.moment new.armed, ap (λ (m : ℕ). tally (λ (row : ArmedRow Alarm). eqb row.due m) new.armed) held.moment_is, due-tally s.moment s.armed, held.due_few)

-- what is armed under a number fires
pub fires_at : (s : State) (who : ℕ) → MayFire s who → ((t : ℕ) → t < 256 → alarm_of (names_of s.timers) t ≡ OfThread t) → ((o : ℕ) → o < length s.timers → alarm_of (names_of s.timers) (256 + o) ≡ OfTimer (timer_at s.timers o).name)
    → ((o : ℕ) → o < length s.timers → IsTimer s.timers (timer_at s.timers o).name o) → ((o : ℕ) → o < length s.timers → MayAct (timer_at s.timers o)) → Fires s (alarm_of (names_of s.timers) who)
fires_at s who may threads numbered own acts = by_test (nat_lt who 256) refl where
  by_test : (c : Bool) → nat_lt who 256 ≡ c → Fires s (alarm_of (names_of s.timers) who)
  by_test true is = let low : who < 256 = ltb-true who 256 is in subst (Fires s) (sym (threads who low)) (may.waits low)
  by_test false is =
      let high : 256 ≤ who = ltb-false who 256 is in
      let o : ℕ = who - 256 in
      let there : o < length s.timers = omega (arith, may.there, high) in
      let back : 256 + o ≡ who = omega (arith, high) in
      subst (λ (n : ℕ). Fires s (alarm_of (names_of s.timers) n)) back (subst (Fires s) (sym (numbered o there)) (timer_at s.timers o, (own o there).found, acts o there))

-- and what the rules of the kernel keep holds behind it
pub call_kept : (b : PlainBoard) (o : ℕ) (call : Call) (s : State) → is_timed_call call ≡ true → Kept (frame_of b s) s → Kept (frame_of b (timer_call b o call s).effect.state) (timer_call b o call s).effect.state
call_kept b o call s timed kept =
    let outcome : Outcome = outcome_of b call s (ByTimer (timer_name s o)) First in
    still-now b s (settled_effect b s outcome.effect).state (settled-stays (frame_of b s) s outcome.effect (outcome-kept (frame_of b s) b s call (ByTimer (timer_name s o)) First timed tt tt kept))

-- a timer that is armed again, and then does what it does
pub fires_then : (b : PlainBoard) (o : ℕ) (old mid new : KernelState) (before after : Roomy Line) (timer : Timer) → MayAct timer → IsSized b → timer_at mid.armed.timers o ≡ timer → state_of mid ≡ with_period timer.kind timer (state_of old) → mid.tables ≡ old.tables
    → Acts mid new before after (2 + length mid.tables.threads) (settled_effect b (state_of mid) (timer_effect b (Line.Fire (timer_at mid.armed.timers o).name) (timer_at mid.armed.timers o).name (timer_at mid.armed.timers o).call (state_of mid)))
    → Acts old new before after (2 + length old.tables.threads) (settled_effect b (state_of old) (timer_action_effect b (Line.Fire timer.name) timer (state_of old)))
fires_then b o old mid new before after timer may sized is again tables acts = record {
  state = state_is;
  lines = acts.lines ∙ ap (λ (e : Effect). before.items ++ e.lines) same;
  answer = acts.answer;
  limits = acts.limits ∙ ap limits_of tables;
  threads = acts.threads ∙ ap (λ (k : MutexTabled). length k.threads) tables;
  numbers = omega (arith, ap (λ (s : State). s.numbers) state_is, (fired-cost b (state_of old) (Some timer) (has-few b sized)).numbers, ap (λ (e : Effect). e.state.numbers) hard);
  few = omega (arith, acts.few, ap (λ (k : MutexTabled). length k.threads) tables);
  out_room = acts.out_room;
} where
  period : State
  period = with_period timer.kind timer (state_of old)

  acted : State → Timer → Effect
  acted u t = settled_effect b u (timer_effect b (Line.Fire t.name) t.name t.call u)

  same : acted (state_of mid) (timer_at mid.armed.timers o) ≡ settled_effect b (state_of old) (timer_action_effect b (Line.Fire timer.name) timer (state_of old))
  same =
      ap (acted (state_of mid)) is
      ∙ ap (λ (u : State). acted u timer) again
      ∙ sym (acted-settled b (state_of old) period (Line.Fire timer.name) timer.name timer.call (period-alike (state_of old) timer.kind timer))

  state_is : state_of new ≡ (settled_effect b (state_of old) (timer_action_effect b (Line.Fire timer.name) timer (state_of old))).state
  state_is = acts.state ∙ ap (λ (e : Effect). e.state) same

  hard : fired_timer_effect b (Some timer) (state_of old) ≡ timer_action_effect b (Line.Fire timer.name) timer (state_of old)
  hard = ap (λ (c : Bool). cond c (soft_timer_effect timer.name (state_of old)) (timer_action_effect b (Line.Fire timer.name) timer (state_of old))) may.hard

-- a timer that makes no call
pub shows-settled : (b : PlainBoard) (s : State) (lines : List Line) → record { state = s; lines = lines } ≡ settled_effect b s (record { state = s; lines = lines })
shows-settled b s lines = sym (shown-settled b s lines)

-- where nobody waits for a mutex, nothing follows from what a timer does
pub quiet_acts : (b : PlainBoard) (s : State) (line : Fired → Line) (name : List ℕ) (action : Option Stmt) → is_timer_action action ≡ true → is_built_action action ≡ true → NobodyWaits s → success (settled_effect b s (timer_effect b line name action s)) ≡ success (timer_effect b line name action s)
quiet_acts b s line name action may built nobody = let quiet : IsQuiet s (timer_effect b line name action s).state = quiet-done b line name action s may built nobody in ap success (settled-kept b s (timer_effect b line name action s) quiet.graph quiet.votes)

-- what a row does that fires, by what it is of
pub thread_fires : (b : PlainBoard) (s : State) (alarm : Alarm) (t : ℕ) → alarm ≡ OfThread t → NobodyWaits s → success (settled_effect b s (alarm_effect b alarm s)) ≡ success (timeout_effect t s)
thread_fires b s alarm t is nobody = let quiet : IsQuiet s (timeout_effect t s).state = quiet-timeout s t nobody in ap (λ (a : Alarm). success (settled_effect b s (alarm_effect b a s))) is ∙ ap success (settled-kept b s (timeout_effect t s) quiet.graph quiet.votes)

pub timer_fires : (b : PlainBoard) (s : State) (alarm : Alarm) (timer : Timer) → alarm ≡ OfTimer timer.name → find_timer s timer.name ≡ Some timer → is_soft timer.kind ≡ false → success (settled_effect b s (alarm_effect b alarm s)) ≡ success (settled_effect b s (timer_action_effect b (Line.Fire timer.name) timer s))
timer_fires b s alarm timer is found hard = ap (λ (a : Alarm). success (settled_effect b s (alarm_effect b a s))) is ∙ ap (λ (e : Effect). success (settled_effect b s e)) (acts_at b s timer.name timer found hard)

-- the place of a timer's number
pub timer_place : (s : State) (who : ℕ) → 256 ≤ who → who < 256 + length s.timers → ((o : ℕ) → o < length s.timers → alarm_of (names_of s.timers) (256 + o) ≡ OfTimer (timer_at s.timers o).name) → alarm_of (names_of s.timers) who ≡ OfTimer (timer_at s.timers (who - 256)).name
timer_place s who high there numbered =
    let back : 256 + (who - 256) ≡ who = omega (arith, high) in
    subst (λ (n : ℕ). alarm_of (names_of s.timers) n ≡ OfTimer (timer_at s.timers (who - 256)).name) back (numbered (who - 256) (omega (arith, there, high)))
