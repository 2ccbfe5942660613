-- How many lines a timer shows that fires, and the thread that does the works of soft timers.
use Rattle.std.proofs.Common.{◌+◌, ◌≤◌, ◌∷◌, [], ℕ, List, Option, Some, None, Bool, true, false, length, refl, arith, if◌then◌else◌}
use Rattle.rt_base.specs.declared.codes.Code.{Code}
use Rattle.rt_plain.specs.declared.board.TimerKind.{TimerKind}
use Rattle.rt_plain.specs.declared.line.Line.{Line}
use Rattle.rt_plain.specs.declared.line.Fired.{Fired}
use Rattle.rt_plain.specs.declared.stmt.Stmt.{Stmt}
use Rattle.rt_plain.specs.PlainBoard.{PlainBoard}
use Rattle.rt_plain.specs.kernel.State.{State, Timer, AtWorks, thread_at, with_thread}
use Rattle.rt_plain.specs.kernel.Effects.{Effect, no_effect, effect_for, retry_wake_effect, waiting_state}
use Rattle.rt_plain.specs.kernel.Outcome.{ByTimer, First}
use Rattle.rt_plain.specs.kernel.Calls.{outcome_of}
use Rattle.rt_plain.specs.kernel.TimerCalls.{find_timer}
use Rattle.rt_plain.specs.kernel.TimerKinds.{is_soft}
use Rattle.rt_plain.specs.kernel.Works.{with_work, work_waiter}
use Rattle.rt_plain.specs.kernel.Due.{with_period, timer_effect, timer_action_effect, soft_timer_effect, fired_timer_effect}
use Rattle.rt_plain.specs.kernel.Shell.{turn_line}
use Rattle.rt_plain.specs.kernel.SoftTurn.{work_effect, soft_turn_effect, soft_effect}
use Rattle.rt_plain.proofs.kernel.WakeLemmas.{work-waiter-waits}
use Rattle.rt_plain.proofs.kernel.CostLemmas.{Costs, stays-same, stays-then, costs-more, costs-none, costs-from, costs-line, thread-costs, retry_wake-costs, waiting-costs, for-costs}
use Rattle.rt_plain.proofs.kernel.CallCosts.{HasFew, CostsCall, other-costs, armed-cost, outcome-cost}

pub period-cost : (s : State) (kind : TimerKind) (timer : Timer) → Costs s (no_effect (with_period kind timer s)) 1
period-cost s TimerKind.OneShot timer = costs-more s (no_effect s) 0 1 (omega arith) (costs-none s)
period-cost s TimerKind.Periodic timer = armed-cost s timer
period-cost s TimerKind.SoftOne timer = costs-more s (no_effect s) 0 1 (omega arith) (costs-none s)
period-cost s TimerKind.SoftPer timer = armed-cost s timer

some-lines : (s : State) (lines : List Line) → length lines ≤ 2 → Costs s (record { state = s; lines = lines }) 2
some-lines s lines few = record { lines = omega (arith, few); numbers = omega arith; stays = stays-same s }

-- what a timer does shows its line and one more, and takes a number
record CostsAction (s : State) (e : Effect) : Type 0 where
  costs : Costs s e 2
  number : e.state.numbers ≤ s.numbers + 1

action-cost : (b : PlainBoard) (line : Fired → Line) (s : State) (name : List ℕ) (action : Option Stmt) → HasFew b → CostsAction s (timer_effect b line name action s)
action-cost b line s name None has = record { costs = some-lines s _ (omega arith); number = omega arith }
action-cost b line s name (Some (Stmt.Print text)) has = record { costs = some-lines s _ (omega arith); number = omega arith }
action-cost b line s name (Some (Stmt.Do call)) has = let costs : CostsCall 1 s (outcome_of b call s (ByTimer name) First) = outcome-cost b s call (ByTimer name) First has in record { costs = costs-line s _ _ 1 costs; number = omega (arith, costs.numbers) }
action-cost b line s name (Some _) has = record { costs = some-lines s _ (omega arith); number = omega arith }

pub timer_action-cost : (b : PlainBoard) (line : Fired → Line) (s : State) (timer : Timer) → HasFew b → Costs s (timer_action_effect b line timer s) 2
timer_action-cost b line s timer has = record {
  lines = omega (arith, again.lines, acts.costs.lines);
  numbers = omega (arith, again.numbers, acts.number);
  stays = stays-then s later (timer_action_effect b line timer s).state again.stays acts.costs.stays;
} where
  later : State
  later = with_period timer.kind timer s

  again : Costs s (no_effect later) 1
  again = period-cost s timer.kind timer

  acts : CostsAction later (timer_effect b line timer.name timer.call later)
  acts = action-cost b line later timer.name timer.call has

-- a soft timer is a work, and wakes the thread that waits for one
soft_timer-cost : (s : State) (name : List ℕ) → Costs s (soft_timer_effect name s) 1
soft_timer-cost s name =
    let later : State = with_work s name in
    costs-line s _ _ 0 (costs-from s later (effect_for retry_wake_effect (work_waiter later) later) 0 0 (other-costs s later refl refl refl refl refl refl refl refl refl refl)
    (for-costs retry_wake_effect (work_waiter later) later (λ t is. retry_wake-costs later t (work-waiter-waits later t is))))

pub fired-cost : (b : PlainBoard) (s : State) (o : Option Timer) → HasFew b → Costs s (fired_timer_effect b o s) 2
fired-cost b s None has = costs-more s (no_effect s) 0 2 (omega arith) (costs-none s)
fired-cost b s (Some timer) has = by_kind (is_soft timer.kind) where
  by_kind : (c : Bool) → Costs s (if c then soft_timer_effect timer.name s else timer_action_effect b (Line.Fire timer.name) timer s) 2
  by_kind true = costs-more s (soft_timer_effect timer.name s) 1 2 (omega arith) (soft_timer-cost s timer.name)
  by_kind false = timer_action-cost b (Line.Fire timer.name) s timer has

-- the turn of the thread that does works: its line and a work, or its line and a wait
work-cost : (b : PlainBoard) (s : State) (o : Option Timer) → HasFew b → Costs s (work_effect b o s) 2
work-cost b s None has = costs-more s (no_effect s) 0 2 (omega arith) (costs-none s)
work-cost b s (Some timer) has = timer_action-cost b (Line.Work timer.name) s timer has

soft_turn-cost : (b : PlainBoard) (s : State) (t : ℕ) (works : List (List ℕ)) → HasFew b → Costs s (soft_turn_effect b t works s) 3
soft_turn-cost b s t [] has =
    let free : State = with_thread s t (record (thread_at s t) { retry = None }) in
    costs-line s _ _ 2 (costs-from s free (no_effect (waiting_state free t AtWorks None)) 0 2 (thread-costs s t (record (thread_at s t) { retry = None }) refl) (waiting-costs free t AtWorks None))
soft_turn-cost b s t (name ∷ names) has =
    let free : State = with_thread s t (record (thread_at s t) { retry = None }) in
    let taken : State = record free { works = names } in
    costs-line s (work_effect b (find_timer taken name) taken) (turn_line (thread_at s t) 1 (Some Code.Ok)) 2 (costs-from s free (work_effect b (find_timer taken name) taken) 0 2 (thread-costs s t (record (thread_at s t) { retry = None }) refl)
    (costs-from free taken (work_effect b (find_timer taken name) taken) 0 2 (other-costs free taken refl refl refl refl refl refl refl refl refl refl) (work-cost b taken (find_timer taken name) has)))

turn-numbers : (b : PlainBoard) (s : State) (t : ℕ) (works : List (List ℕ)) → HasFew b → (soft_turn_effect b t works s).state.numbers ≤ s.numbers + 2
turn-numbers b s t [] has = omega arith
turn-numbers b s t (name ∷ names) has =
    let taken : State = record (with_thread s t (record (thread_at s t) { retry = None })) { works = names } in
    omega (arith, (work-cost b taken (find_timer taken name) has).numbers)

pub soft-numbers : (b : PlainBoard) (s : State) (t : ℕ) → HasFew b → (soft_effect b t s).state.numbers ≤ s.numbers + 2
soft-numbers b s t has = turn-numbers b s t s.works has

pub soft-cost : (b : PlainBoard) (s : State) (t : ℕ) → HasFew b → Costs s (soft_effect b t s) 3
soft-cost b s t has = soft_turn-cost b s t s.works has
