-- What ticks, events and runs leave: the works that their lines tell, arrivals that are ahead, and priorities and bindings that the board has.
use Rattle.std.proofs.Common.{◌≡◌, ◌≢◌, ◌+◌, ◌-◌, ◌<◌, ◌≤◌, ◌∷◌, [], ◌++◌, ℕ, zero, suc, List, Option, Some, None, Bool, true, false, not, ◌&&◌, is_some, length, eqb, refl, sym, ap, ◌∙◌, subst, arith, filter, map, reverse, if◌then◌else◌}
use Rattle.std.specs.List.{AllByRecursion, fold}
use Rattle.std.proofs.lemmas.Bool.{eqb-false}
use Rattle.rt_base.specs.declared.codes.Event.{Event}
use Rattle.rt_base.specs.declared.codes.Halt.{Halt}
use Rattle.rt_plain.specs.declared.line.Line.{Line}
use Rattle.rt_plain.specs.declared.line.Fired.{Fired}
use Rattle.rt_plain.specs.PlainBoard.{PlainBoard}
use Rattle.rt_plain.specs.kernel.State.{State, Thread, Timer, Device, Arriving, Alarm, OfThread, OfTimer, ArmedRow, thread_at, running_on, is_nest_of_other}
use Rattle.rt_plain.specs.kernel.Effects.{Effect, no_effect, line_effect, and_then, effect_for, without_alarm, wake_effect, retry_wake_effect, with_ready_last, with_ready_first, name_of, is_alarm}
use Rattle.rt_plain.specs.kernel.Works.{with_work, work_waiter}
use Rattle.rt_plain.specs.runs.WorkLog.{works_from}
use Rattle.rt_plain.specs.kernel.TimerCalls.{find_timer}
use Rattle.rt_plain.specs.kernel.TimerKinds.{is_soft}
use Rattle.rt_plain.specs.kernel.Due.{due, soft_timer_effect, fired_timer_effect, alarm_effect, fired_row_effect, due_rows_effect, timeout_code}
use Rattle.rt_plain.specs.kernel.DeviceCalls.{find_device, with_device, ring_after, console_waiter, indication_effect, notice_effect, arrival_effect_at, arrival_effect, is_sending, sent, is_busy, registered_devices}
use Rattle.rt_plain.specs.kernel.PowerCalls.{sleep_mode}
use Rattle.rt_plain.specs.kernel.Shown.{shown}
use Rattle.rt_plain.specs.kernel.Ticks.{thread_after_slice, with_slice_used, next_tick_state, alarms_effect, arrivals_now, deliveries, transmissions, with_until_halt, tick_effect}
use Rattle.rt_plain.specs.kernel.Sleeps.{Did, Made, Same, Halted, ticks, sleep_did, sleep_length, powered_devices, may_sleep, awake_rest_did, halting_rest_did, nothing_comes, final_halt, rest_did}
use Rattle.rt_plain.specs.kernel.Statements.{statement_effect}
use Rattle.rt_plain.specs.kernel.Pick.{pick}
use Rattle.rt_plain.specs.kernel.Steps.{happens, with_running, without_mark, preempted_state, is_preemptible, takes_from, preempt_did, did_of_effect, statement_did, busy_core_did, is_all_idle, free_core_did, core_did, unhalted_step_did, unhalted_tick_did}
use Rattle.rt_plain.specs.kernel.Sound.{IsLevelled, IsBoardTimer, IsProper}
use Rattle.rt_plain.specs.kernel.Tally.{tally}
use Rattle.rt_plain.proofs.kernel.TallyLemmas.{tally-dropped, all-passing}
use Rattle.rt_plain.specs.kernel.Kept.{Frame, Kept, standings}
use Rattle.rt_plain.proofs.kernel.Invariant.{fine-at, thread-kept, without_alarm-kept}
use Rattle.rt_plain.proofs.kernel.ObjectLemmas.{found-timer, found-name}
use Rattle.rt_plain.proofs.kernel.StatementLemmas.{statement-kept}
use Rattle.rt_plain.proofs.kernel.TickLemmas.{IsDueRow, still, firing, due-length, due-rows, row-kept, next-kept, alarms-kept, tick-kept}
use Rattle.rt_plain.proofs.kernel.StepLemmas.{KeptAt, ticks-kept}
use Rattle.rt_plain.proofs.kernel.ActionLemmas.{AreLevelled, Leaves, IsQuiet, works-append, leaves-same, leaves-parts, leaves-then, leaves-from, leaves-line, row-leaves, wake-leaves, retry_wake-leaves, each-leaves, for-leaves, sem_release-leaves}
use Rattle.rt_plain.proofs.kernel.EventLemmas.{none-there, quiet-works, settled-leaves, action-leaves, statement-leaves}
use Rattle.rt_plain.proofs.TestLemmas.{not-false}

-- a slice that falls leaves base and core
slice-levels : (row : Thread) → ((thread_after_slice row).base ≡ row.base) × ((thread_after_slice row).core ≡ row.core)
slice-levels row = by_test (eqb (row.left - 1) 0) where
  by_test : (c : Bool) → let new : Thread = if c then record row { left = row.slice; marked = true } else record row { left = row.left - 1 } in (new.base ≡ row.base) × (new.core ≡ row.core)
  by_test true = (refl, refl)
  by_test false = (refl, refl)

-- what is left to arrive after a tick
abbrev pub left_after : State → List Arriving
left_after s = filter (λ (a : Arriving). not (eqb a.moment (s.moment + 1))) s.arrivals

module _ (b : PlainBoard) where
  if-leaves : (s : State) (c : Bool) (x y : Effect) → (c ≡ true → Leaves b s x) → (c ≡ false → Leaves b s y) → Leaves b s (if c then x else y)
  if-leaves s true x y one other = one refl
  if-leaves s false x y one other = other refl

  -- a timer fires: a soft one wasn't among the works
  soft-leaves : (s : State) (name : List ℕ) → standings (OfTimer name) s.works s.armed ≡ 0 → Leaves b s (soft_timer_effect name s)
  soft-leaves s name alone = leaves-then b s (line_effect (with_work s name) (Line.Fire name Fired.Soft)) (effect_for retry_wake_effect (work_waiter (with_work s name)) (with_work s name)) put (for-leaves b retry_wake_effect (retry_wake-leaves b) (work_waiter (with_work s name)) (with_work s name)) where
    put : Leaves b s (line_effect (with_work s name) (Line.Fire name Fired.Soft))
    put = record { works = rw (none-there s.works name (omega (arith, alone))) refl; arrivals = refl; levelled = λ has all. all }

  fired-leaves : (s : State) (o : Option Timer) → ((timer : Timer) → o ≡ Some timer → IsBoardTimer b timer × (standings (OfTimer timer.name) s.works s.armed ≡ 0)) → Leaves b s (fired_timer_effect b o s)
  fired-leaves s None fine = leaves-same b s
  fired-leaves s (Some timer) fine = if-leaves s (is_soft timer.kind) (soft_timer_effect timer.name s) _ (λ soft. soft-leaves s timer.name (fine timer refl).1) (λ hard. action-leaves b s s.works (Line.Fire timer.name) timer refl (λ code. refl) (fine timer refl).0)

  alarm-leaves : (f : Frame) (s : State) (alarm : Alarm) → f.board ≡ b → standings alarm s.works s.armed ≡ 0 → Kept f s → Leaves b s (alarm_effect b alarm s)
  alarm-leaves f s (OfThread t) same alone kept = leaves-line b s (wake_effect (timeout_code (thread_at s t).stage) t s) (Line.Timeout (name_of s t)) (λ works. refl) (wake-leaves b s (timeout_code (thread_at s t).stage) t)
  alarm-leaves f s (OfTimer name) same alone kept = fired-leaves s (find_timer s name) (λ timer is. (subst (λ (x : PlainBoard). IsBoardTimer x timer) same (found-timer f s name timer is kept).3, subst (λ (n : List ℕ). standings (OfTimer n) s.works s.armed ≡ 0) (sym (found-name s name timer is)) alone))

  row-fires : (f : Frame) (s : State) (row : ArmedRow Alarm) → f.board ≡ b → IsDueRow f.now s.threads s.armed row → Kept f s → Leaves b s (fired_row_effect b row s)
  row-fires f s row same is kept = settled-leaves b s s (alarm_effect b row.alarm (without_alarm s row.alarm)) (leaves-from b s (without_alarm s row.alarm) (alarm_effect b row.alarm (without_alarm s row.alarm)) (leaves-parts b s (without_alarm s row.alarm) refl refl refl)
      (alarm-leaves f (without_alarm s row.alarm) row.alarm same alone (without_alarm-kept f s row.alarm kept))) where
        alone : standings row.alarm s.works (without_alarm s row.alarm).armed ≡ 0
        alone = omega (arith, kept.single row.alarm, is.listed, tally-dropped (λ (r : ArmedRow Alarm). is_alarm row.alarm r.alarm) s.armed)

  -- all that are due fire
  due-leaves : (now few n : ℕ) (s : State) → tally (λ (r : ArmedRow Alarm). eqb r.due now) s.armed ≤ n → Kept (firing b now few) s → Leaves b s (due_rows_effect b n (due s) s)
  due-leaves now few zero s most kept = leaves-same b s
  due-leaves now few (suc n) s most kept = by_rows (due s) (due-rows (firing b now few) s kept) (due-leaves now n n) where
    by_rows : (rows : List (ArmedRow Alarm)) → AllByRecursion (IsDueRow now s.threads s.armed) rows
        → ((u : State) → tally (λ (r : ArmedRow Alarm). eqb r.due now) u.armed ≤ n → Kept (firing b now n) u → Leaves b u (due_rows_effect b n (due u) u)) → Leaves b s (due_rows_effect b (suc n) rows s)
    by_rows [] all more = leaves-same b s
    by_rows (row ∷ rows) all more =
        let fired : Effect = fired_row_effect b row s in
        let held : Kept (firing b now n) fired.state = row-kept (firing b now few) n s row all.0 most kept in
        leaves-then b s fired (due_rows_effect b n (due fired.state) fired.state) (row-fires (firing b now few) s row refl all.0 kept) (more fired.state held.due_few held)

  used-leaves : (s : State) (r : Option ℕ) → Leaves b s (no_effect (with_slice_used s r))
  used-leaves s None = leaves-same b s
  used-leaves s (Some t) = row-leaves b s t (thread_after_slice (thread_at s t)) (slice-levels (thread_at s t)).0 (slice-levels (thread_at s t)).1

  slices-leave : (xs : List (Option ℕ)) (s : State) → Leaves b s (no_effect (fold with_slice_used s xs))
  slices-leave [] s = leaves-same b s
  slices-leave (x ∷ xs) s = leaves-from b s (with_slice_used s x) (no_effect (fold with_slice_used s (x ∷ xs))) (used-leaves s x) (slices-leave xs (with_slice_used s x))

  next-leaves : (s : State) → Leaves b s (no_effect (next_tick_state s))
  next-leaves s = let later : State = record s { moment = s.moment + 1 } in leaves-from b s later (no_effect (next_tick_state s)) (leaves-parts b s later refl refl refl) (slices-leave s.running later)

  alarms-leave : (now : ℕ) (s : State) → Kept (still b now) s → Leaves b s (alarms_effect b (next_tick_state s))
  alarms-leave now s kept =
      let later : State = next_tick_state s in
      let few : ℕ = tally (λ (row : ArmedRow Alarm). eqb row.due (now + 1)) later.armed in
      let held : Kept (firing b (now + 1) few) later = next-kept b now s kept in
      leaves-from b s later (alarms_effect b later) (next-leaves s) (due-leaves (now + 1) few (length (due later)) later (omega (arith, due-length (firing b (now + 1) few) later held)) held)

  -- what arrives, and what is sent
  noticed-leaves : (s : State) (device : Device) → Leaves b s (notice_effect device s)
  noticed-leaves s device = if-leaves s device.console _ _ (λ console. for-leaves b retry_wake_effect (retry_wake-leaves b) (console_waiter s) s) (λ serial. indicated device.ind) where
    indicated : (sem : Option (List ℕ)) → Leaves b s (indication_effect sem s)
    indicated None = leaves-same b s
    indicated (Some sem) = sem_release-leaves b s sem

  arrived-leaves : (s : State) (o : Option Device) (text : List ℕ) → Leaves b s (arrival_effect_at o text s)
  arrived-leaves s None text = leaves-same b s
  arrived-leaves s (Some device) text =
      let received : State = with_device s (record device { rx = ring_after device text }) in
      leaves-line b s (notice_effect device received) _ (λ works. refl) (leaves-from b s received (notice_effect device received) (leaves-parts b s received refl refl refl) (noticed-leaves received device))

  sent-leaves : (device : Device) (s : State) → Leaves b s (sent device s)
  sent-leaves device s = if-leaves s (is_sending device) _ _ (λ is. leaves-line b s (no_effect (with_device s _)) _ (λ works. refl) (leaves-parts b s (with_device s _) refl refl refl)) (λ is. leaves-same b s)

  delivered-leaves : (s : State) → Leaves b (record s { arrivals = filter (λ (a : Arriving). not (eqb a.moment s.moment)) s.arrivals }) (deliveries s)
  delivered-leaves s = each-leaves b arrival_effect (λ arrival u. arrived-leaves u (find_device u arrival.device) arrival.text) (arrivals_now s) _

  until-leaves : (s : State) → Leaves b s (no_effect (with_until_halt b s))
  until-leaves s = by_test (eqb s.moment b.until) where
    by_test : (c : Bool) → Leaves b s (no_effect (if c then record s { halt = Some Halt.Until } else s))
    by_test true = leaves-parts b s _ refl refl refl
    by_test false = leaves-same b s

  -- a tick leaves all that is to arrive later
  tick-leaves : (now : ℕ) (s : State) → Kept (still b now) s → Leaves b (record s { arrivals = left_after s }) (tick_effect b s)
  tick-leaves now s kept = leaves-then b start two (no_effect (with_until_halt b two.state)) (leaves-then b start one (transmissions one.state) delivered (each-leaves b sent sent-leaves (registered_devices one.state) one.state)) (until-leaves two.state) where
    start : State
    start = record s { arrivals = left_after s }

    rung : Effect
    rung = alarms_effect b (next_tick_state s)

    one : Effect
    one = and_then rung deliveries

    two : Effect
    two = and_then one transmissions

    later : rung.state.moment ≡ s.moment + 1
    later = omega (arith, (alarms-kept b now s kept).moment_is, kept.moment_is)

    delivered : Leaves b start one
    delivered =
        let alarms : Leaves b s rung = alarms-leave now s kept in
        let rest : Leaves b (record rung.state { arrivals = filter (λ (a : Arriving). not (eqb a.moment rung.state.moment)) rung.state.arrivals }) (deliveries rung.state) = delivered-leaves rung.state in
        record {
          works = works-append (Some s.works) rung.lines (deliveries rung.state).lines ∙ ap (λ works. works_from works (deliveries rung.state).lines) alarms.works ∙ rest.works;
          arrivals = rest.arrivals ∙ ap (λ (n : ℕ). filter (λ (a : Arriving). not (eqb a.moment n)) rung.state.arrivals) later ∙ ap (λ (xs : List Arriving). filter (λ (a : Arriving). not (eqb a.moment (s.moment + 1))) xs) alarms.arrivals;
          levelled = λ has all. rest.levelled has (alarms.levelled has all);
        }

-- all that is to arrive comes after the moment
abbrev pub AreAhead : State → Type 0
AreAhead s = AllByRecursion (λ (a : Arriving). s.moment < a.moment) s.arrivals

-- what an entry leaves: its lines tell the new works from the old ones, what is to arrive stays ahead, and levels and cores stay the board's
pub record Follows (b : PlainBoard) (s new : State) (lines : List Line) : Type 0 where
  pub works : works_from (Some s.works) lines ≡ Some new.works
  pub ahead : AreAhead s → AreAhead new
  pub levelled : IsLevelled b → AreLevelled b s.threads → AreLevelled b new.threads

-- what an event leaves, where it makes an entry
abbrev pub FollowsDid : PlainBoard → State → Did → Type 0
FollowsDid b s (Made new lines) = Follows b s new lines
FollowsDid b s Same = Unit {0}
FollowsDid b s (Halted halt) = Unit {0}

devices-quiet : (line : Device → Line) → ((device : Device) → IsQuiet (line device)) → (devices : List Device) → AllByRecursion IsQuiet (map line devices)
devices-quiet line quiet [] = tt
devices-quiet line quiet (device ∷ devices) = (quiet device, devices-quiet line quiet devices)

module _ (b : PlainBoard) where
  if-follows : (s : State) (c : Bool) (x y : Did) → (c ≡ true → FollowsDid b s x) → (c ≡ false → FollowsDid b s y) → FollowsDid b s (if c then x else y)
  if-follows s true x y one other = one refl
  if-follows s false x y one other = other refl

  pub follows-then : (s mid new : State) (one two : List Line) → Follows b s mid one → Follows b mid new two → Follows b s new (one ++ two)
  follows-then s mid new one two first second = record {
    works = works-append (Some s.works) one two ∙ ap (λ works. works_from works two) first.works ∙ second.works;
    ahead = λ ahead. second.ahead (first.ahead ahead);
    levelled = λ has all. second.levelled has (first.levelled has all);
  }

  pub quiet-follows : (s : State) (lines : List Line) → AllByRecursion IsQuiet lines → Follows b s s lines
  quiet-follows s lines quiet = record { works = quiet-works s.works lines quiet; ahead = λ ahead. ahead; levelled = λ has all. all }

  line-follows : (s new : State) (line : Line) (lines : List Line) → IsQuiet line → Follows b s new lines → Follows b s new (line ∷ lines)
  line-follows s new line lines quiet follows = record { works = ap (λ works. works_from works lines) (quiet s.works) ∙ follows.works; ahead = follows.ahead; levelled = follows.levelled }

  -- an action at one moment
  now-follows : (s : State) (e : Effect) → e.state.moment ≡ s.moment → Leaves b s e → Follows b s e.state e.lines
  now-follows s e same leaves = record { works = leaves.works; ahead = λ ahead. arrived ahead; levelled = leaves.levelled } where
    arrived : AreAhead s → AreAhead e.state
    arrived ahead = subst (AllByRecursion (λ (a : Arriving). e.state.moment < a.moment)) (sym leaves.arrivals) (subst (λ (n : ℕ). AllByRecursion (λ (a : Arriving). n < a.moment) s.arrivals) (sym same) ahead)

  tick-follows : (now : ℕ) (s : State) → Kept (still b now) s → Follows b s (tick_effect b s).state (tick_effect b s).lines
  tick-follows now s kept = record { works = leaves.works; ahead = λ ahead. arrived ahead; levelled = leaves.levelled } where
    leaves : Leaves b (record s { arrivals = left_after s }) (tick_effect b s)
    leaves = tick-leaves b now s kept

    later : (tick_effect b s).state.moment ≡ s.moment + 1
    later = omega (arith, (tick-kept b now s kept).moment_is, kept.moment_is)

    left : AreAhead s → AllByRecursion (λ (a : Arriving). s.moment + 1 < a.moment) (left_after s)
    left ahead = all-passing (λ (a : Arriving). s.moment < a.moment) (λ (a : Arriving). s.moment + 1 < a.moment) (λ (a : Arriving). not (eqb a.moment (s.moment + 1))) s.arrivals
        (λ a passes is. let apart : a.moment ≢ s.moment + 1 = eqb-false a.moment (s.moment + 1) (not-false (eqb a.moment (s.moment + 1)) passes) in omega (arith, is, apart)) ahead

    arrived : AreAhead s → AreAhead (tick_effect b s).state
    arrived ahead = subst (AllByRecursion (λ (a : Arriving). (tick_effect b s).state.moment < a.moment)) (sym leaves.arrivals) (subst (λ (n : ℕ). AllByRecursion (λ (a : Arriving). n < a.moment) (left_after s)) (sym later) (left ahead))

  ticks-follow : (n now : ℕ) (s : State) → Kept (still b now) s → Follows b s (ticks b n s).state (ticks b n s).lines
  ticks-follow zero now s kept = quiet-follows s [] tt
  ticks-follow (suc n) now s kept = let one : Effect = tick_effect b s in
      follows-then s one.state (ticks b n one.state).state one.lines (ticks b n one.state).lines (tick-follows now s kept) (ticks-follow n (now + 1) one.state (tick-kept b now s kept))

  sleep-follows : (d now : ℕ) (s : State) → Kept (still b now) s → FollowsDid b s (sleep_did b d s)
  sleep-follows d now s kept = line-follows s last.state (Line.Sleep (sleep_mode b s) d) _ (λ works. refl)
      (follows-then s rest.state last.state ((suspends ++ rest.lines) ++ resumes) (Line.Tick (shown b last.state.moment) ∷ last.lines)
      (follows-then s rest.state rest.state (suspends ++ rest.lines) resumes (follows-then s s rest.state suspends rest.lines (quiet-follows s suspends (devices-quiet (λ x. Line.Suspend x.name) (λ x works. refl) (powered_devices s))) (ticks-follow (d - 1) now s kept))
      (quiet-follows rest.state resumes (devices-quiet (λ x. Line.Resume x.name) (λ x works. refl) (reverse (powered_devices s)))))
      (line-follows rest.state last.state (Line.Tick (shown b last.state.moment)) last.lines (λ works. refl) (tick-follows slept.0 rest.state slept.1))) where
        rest : Effect
        rest = ticks b (d - 1) s

        last : Effect
        last = tick_effect b rest.state

        suspends : List Line
        suspends = map (λ x. Line.Suspend x.name) (powered_devices s)

        resumes : List Line
        resumes = map (λ x. Line.Resume x.name) (reverse (powered_devices s))

        slept : KeptAt b rest.state
        slept = ticks-kept b (d - 1) now s kept

module _ (b : PlainBoard) (now : ℕ) (s : State) (timed : IsProper b) (kept : Kept (still b now) s) where
  halting-follows : (o : Option Halt) → FollowsDid b s (halting_rest_did b o s)
  halting-follows (Some halt) = tt
  halting-follows None = if-follows b s (nothing_comes s) (Halted Halt.Quiet) (awake_rest_did b s) (λ is. tt) (λ is. if-follows b s (may_sleep b s) (sleep_did b (sleep_length b s) s) Same (λ may. sleep-follows b (sleep_length b s) now s kept) (λ may. tt))

  rest-follows : FollowsDid b s (rest_did b s)
  rest-follows = if-follows b s (is_busy s) Same (halting_rest_did b (final_halt (sleep_mode b s)) s) (λ is. tt) (λ is. halting-follows (final_halt (sleep_mode b s)))

  did-follows : (core r : ℕ) (u : State) → Leaves b s (no_effect u) → u.moment ≡ s.moment → running_on u core ≡ Some r → Kept (still b now) u → Follows b s (statement_effect b r core u).state (statement_effect b r core u).lines
  did-follows core r u from same runs held = now-follows b s (statement_effect b r core u) (omega (arith, (statement-kept (still b now) u r core timed runs held).moment_is, kept.moment_is)) (leaves-from b s u (statement_effect b r core u) from (statement-leaves b now u r core held))

  stated-follows : (core r : ℕ) → running_on s core ≡ Some r → FollowsDid b s (statement_did b s core r)
  stated-follows core r runs = by_lock (is_preemptible s core r) where
    row : Thread
    row = record (thread_at s r) { marked = false }

    by_lock : (c : Bool) → FollowsDid b s (did_of_effect (statement_effect b r core (if c then without_mark s r else s)))
    by_lock true = did-follows core r (without_mark s r) (row-leaves b s r row refl refl) refl runs (thread-kept (still b now) s r row refl (fine-at (still b now) s r kept) kept)
    by_lock false = did-follows core r s (leaves-same b s) refl runs kept

  -- a core takes a thread
  taken-follows : (u : State) (lines : List Line) → AllByRecursion IsQuiet lines → u.moment ≡ s.moment → Leaves b s (no_effect u) → Follows b s u lines
  taken-follows u lines quiet same leaves = record { works = quiet-works s.works lines quiet ∙ leaves.works; ahead = (now-follows b s (no_effect u) same leaves).ahead; levelled = leaves.levelled }

  preempt-follows : (core r p : ℕ) → FollowsDid b s (preempt_did s core r p)
  preempt-follows core r p = taken-follows (with_running (preempted_state s r) core p) _ (λ works. refl, (λ works. refl, tt)) (by_mark (thread_at s r).marked).0 (by_mark (thread_at s r).marked).1 where
    free : State
    free = without_mark s r

    unmarked : Leaves b s (no_effect free)
    unmarked = row-leaves b s r (record (thread_at s r) { marked = false }) refl refl

    by_mark : (c : Bool) → let u : State = with_running (if c then with_ready_last free r else with_ready_first free r) core p in (u.moment ≡ s.moment) × Leaves b s (no_effect u)
    by_mark true = (refl, leaves-from b s free _ unmarked (leaves-parts b free _ refl refl refl))
    by_mark false = (refl, leaves-from b s free _ unmarked (leaves-parts b free _ refl refl refl))

  busy-follows : (core r : ℕ) (p : Option ℕ) → running_on s core ≡ Some r → FollowsDid b s (busy_core_did b s core r p)
  busy-follows core r None runs = stated-follows core r runs
  busy-follows core r (Some p) runs = if-follows b s (is_preemptible s core r && takes_from s p r) (preempt_did s core r p) (statement_did b s core r) (λ takes. preempt-follows core r p) (λ stays. stated-follows core r runs)

  free-follows : (core : ℕ) (p : Option ℕ) → FollowsDid b s (free_core_did b s core p)
  free-follows core (Some p) = taken-follows (with_running s core p) _ (λ works. refl, tt) refl (leaves-parts b s (with_running s core p) refl refl refl)
  free-follows core None = if-follows b s (eqb core 0 && is_all_idle s) (rest_did b s) Same (λ idle. rest-follows) (λ idle. tt)

  core-follows : (core : ℕ) (r : Option ℕ) → running_on s core ≡ r → FollowsDid b s (core_did b s core r)
  core-follows core None is = free-follows core (pick s core)
  core-follows core (Some r) is = busy-follows core r (pick s core) is

  step-follows : (core : ℕ) (o : Option Halt) → FollowsDid b s (unhalted_step_did b s core o)
  step-follows core (Some halt) = tt
  step-follows core None = if-follows b s (is_nest_of_other core s.nest) Same (core_did b s core (running_on s core)) (λ is. tt) (λ is. core-follows core (running_on s core) refl)

  ticked-follows : (o : Option Halt) → FollowsDid b s (unhalted_tick_did b s o)
  ticked-follows (Some halt) = tt
  ticked-follows None = if-follows b s (is_some s.nest) Same (did_of_effect (tick_effect b s)) (λ is. tt) (λ is. tick-follows b now s kept)

  pub event-follows : (e : Event) → FollowsDid b s (happens b s e)
  unfolding happens
  event-follows (Event.Step core) = step-follows core s.halt
  event-follows Event.Tick = ticked-follows s.halt
