-- A machine stays where its journal led, and what halts an event halts a step of core 0.
use Rattle.std.proofs.Common.{◌≡◌, ◌⊎◌, inl, inr, ℕ, zero, suc, ◌&&◌, eqb, List, Option, Some, None, Bool, true, false, IsTrue, refl, sym, subst, ◌∙◌}
use Rattle.std.proofs.Math.Dec.{eqb-suc-zero}
use Rattle.std.specs.Prelude.{if◌then◌else◌, is_some}
use Rattle.rt_base.specs.declared.codes.Event.{Event}
use Rattle.rt_base.specs.declared.codes.Halt.{Halt}
use Rattle.rt_plain.specs.declared.line.Line.{Line}
use Rattle.rt_plain.specs.PlainBoard.{PlainBoard}
use Rattle.rt_plain.specs.kernel.State.{State, is_nest_of_other, running_on}
use Rattle.rt_plain.specs.kernel.Effects.{Effect}
use Rattle.rt_plain.specs.kernel.Pick.{pick}
use Rattle.rt_plain.specs.kernel.Sleeps.{Did, Made, Same, Halted, rest_did}
use Rattle.rt_plain.specs.kernel.Ticks.{tick_effect}
use Rattle.rt_plain.specs.kernel.Steps.{happens, did_of_effect, is_preemptible, takes_from, busy_core_did, free_core_did, core_did, is_all_idle, unhalted_step_did, unhalted_tick_did}
use Rattle.rt_plain.specs.kernel.Opening.{open_state}
use Rattle.rt_plain.specs.runs.Runs.{IsReached, Course, after, opened, course_after, course_unless, is_event_of, halt_of}
use Rattle.rt_plain.proofs.runs.RunLemmas.{IsRun-snoc}

if-made : (c : Bool) (s u : State) (ls ms : List Line) (h : Halt) → (if c then Made s ls else Made u ms) ≡ Halted h → ⊥
if-made true s u ls ms h is = cc
if-made false s u ls ms h is = cc

busy-halts : (b : PlainBoard) (s : State) (core r : ℕ) (p : Option ℕ) (h : Halt) → busy_core_did b s core r p ≡ Halted h → ⊥
busy-halts b s core r None h is = cc
busy-halts b s core r (Some p) h is = if-made (is_preemptible s core r && takes_from s p r) _ _ _ _ h is

if-zero : (core : ℕ) (idle : Bool) (d : Did) (h : Halt) → (if (eqb core 0) && idle then d else Same) ≡ Halted h → core ≡ 0
if-zero zero idle d h is = refl
if-zero (suc core) idle d h is = absurd (apart (subst (λ c. (if c && idle then d else Same) ≡ Halted h) (eqb-suc-zero core) is)) where
  apart : Same ≡ Halted h → ⊥
  apart same = cc

free-halts : (b : PlainBoard) (s : State) (core : ℕ) (p : Option ℕ) (h : Halt) → free_core_did b s core p ≡ Halted h → core ≡ 0
free-halts b s core (Some p) h is = absurd cc
free-halts b s core None h is = if-zero core (is_all_idle s) (rest_did b s) h is

core-halts : (b : PlainBoard) (s : State) (core : ℕ) (r : Option ℕ) (h : Halt) → core_did b s core r ≡ Halted h → core ≡ 0
core-halts b s core None h is = free-halts b s core (pick s core) h is
core-halts b s core (Some r) h is = absurd (busy-halts b s core r (pick s core) h is)

if-same : (c : Bool) (d : Did) (h : Halt) → (if c then Same else d) ≡ Halted h → d ≡ Halted h
if-same true d h is = absurd cc
if-same false d h is = is

halt_of_halted : (h k : Halt) → Halted h ≡ Halted k → Some h ≡ Some k
halt_of_halted h k is = cc

step-halts : (b : PlainBoard) (s : State) (core : ℕ) (o : Option Halt) (h : Halt) → unhalted_step_did b s core o ≡ Halted h → (o ≡ Some h) ⊎ (core ≡ 0)
step-halts b s core (Some k) h is = inl (halt_of_halted k h is)
step-halts b s core None h is = inr (core-halts b s core (running_on s core) h (if-same (is_nest_of_other core s.nest) _ h is))

tick-halts : (b : PlainBoard) (s : State) (o : Option Halt) (h : Halt) → unhalted_tick_did b s o ≡ Halted h → o ≡ Some h
tick-halts b s (Some k) h is = halt_of_halted k h is
tick-halts b s None h is = absurd (made-not (tick_effect b s) h (if-same (is_some s.nest) _ h is)) where
  made-not : (e : Effect) (h : Halt) → did_of_effect e ≡ Halted h → ⊥
  made-not e h is = cc

-- a machine that has come to its last tick says so
pub halted-state : (b : PlainBoard) (s : State) (h : Halt) → s.halt ≡ Some h → halt_of b s ≡ Some h
unfolding happens
halted-state b s h is = rw is refl

-- what halts an event halts a step of core 0
pub halts-zero : (b : PlainBoard) (s : State) (e : Event) (h : Halt) → happens b s e ≡ Halted h → halt_of b s ≡ Some h
unfolding happens
halts-zero b s Event.Tick h is = halted-state b s h (tick-halts b s s.halt h is)
halts-zero b s (Event.Step core) h is = by_way (step-halts b s core s.halt h is) where
  by_way : (s.halt ≡ Some h) ⊎ (core ≡ 0) → halt_of b s ≡ Some h
  by_way (inl halt) = halted-state b s h halt
  by_way (inr zero_core) = let at_zero : happens b s (Event.Step 0) ≡ Halted h = subst (λ c. happens b s (Event.Step c) ≡ Halted h) zero_core is in rw at_zero refl

pub opened-reached : (b : PlainBoard) → (open_state b).halt ≡ None → IsReached b (opened b)
opened-reached b live = record {
  run = refl;
  halted = λ h is. absurd cc;
  live = λ is. live;
}

course-reached : (b : PlainBoard) (c : Course) (e : Event) (d : Did) → IsTrue (is_event_of b e) → c.halt ≡ None → IsReached b c → happens b c.state e ≡ d → IsReached b (course_after b c e d)
course-reached b c e (Made s lines) core live reached is = record {
  run = IsRun-snoc b (open_state b) c.state s c.journal _ reached.run (core, is, refl);
  halted = λ h ends. halted-state b s h ends;
  live = λ on. on;
}
course-reached b c e Same core live reached is = reached
course-reached b c e (Halted h) core live reached is = record {
  run = reached.run;
  halted = λ k ends. halts-zero b c.state e h is ∙ ends;
  live = λ on. absurd cc;
}

-- after one event a machine is where its journal led
pub after-reached : (b : PlainBoard) (c : Course) (e : Event) → IsTrue (is_event_of b e) → c.halt ≡ None → IsReached b c → IsReached b (after b c e)
unfolding after
after-reached b c e core live reached = subst (λ o. IsReached b (course_unless o c (course_after b c e (happens b c.state e)))) (sym live) (course-reached b c e (happens b c.state e) core live reached refl)
