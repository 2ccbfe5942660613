-- What a step of a core does, by what it runs and would pick.
use Rattle.std.proofs.Common.{◌≡◌, ℕ, zero, suc, ◌&&◌, List, [], ◌∷◌, ◌++◌, Option, Some, None, Bool, true, false, refl, sym, ap, ◌∙◌, subst, is_some, slice_index_or}
use Rattle.std.specs.List.{list_any}
use Rattle.std.specs.Prelude.{if◌then◌else◌, ◌==◌}
use Rattle.rt_base.specs.declared.codes.Event.{Event}
use Rattle.rt_base.specs.declared.codes.Halt.{Halt}
use Rattle.rt_plain.specs.declared.line.Line.{Line}
use Rattle.rt_plain.specs.PlainBoard.{PlainBoard}
use Rattle.rt_plain.specs.kernel.Kept.{Kept}
use Rattle.rt_plain.specs.kernel.Sound.{IsProper}
use Rattle.rt_plain.specs.kernel.State.{State, thread_at, running_on, is_nest_of_other}
use Rattle.rt_plain.specs.kernel.Pick.{pick}
use Rattle.rt_plain.specs.kernel.Effects.{Effect, with_ready_first, with_ready_last}
use Rattle.rt_plain.specs.kernel.Statements.{statement_effect}
use Rattle.rt_plain.specs.kernel.Sleeps.{Did, Made, Same, rest_did}
use Rattle.rt_plain.specs.kernel.Steps.{happens, core_did, free_core_did, busy_core_did, is_all_idle, did_of_effect, is_preemptible, takes_from, with_running, without_mark, unhalted_step_did}
use Rattle.rt_plain.proofs.kernel.SkipLemmas.{none-running}
use Rattle.rt_plain.proofs.kernel.StatementLemmas.{statement-kept}
use Rattle.rt_kernel.specs.IsKernel.{frame_of}
use Rattle.rt_kernel.specs.PlainKernel.{IsAlone, PlainKernel}
use Rattle.kernel_step.specs.declared.did.Did.{Did as Answer}
use Rattle.kernel_step.specs.declared.engine.Engine.{Engine}
use Rattle.kernel_step.specs.Did.{Gives}
use Rattle.kernel_step.specs.Engine.{state_of}
use Rattle.rt_kernel.specs.Switched.{switched, switched_by, effect_or, run_effect, preempt_effect}

-- what a core does that runs o and would pick p
abbrev did_by : PlainBoard → State → ℕ → Option ℕ → Option ℕ → Did
did_by b s core None p = free_core_did b s core p
did_by b s core (Some r) p = busy_core_did b s core r p

core-did : (b : PlainBoard) (s : State) (core : ℕ) (o : Option ℕ) → core_did b s core o ≡ did_by b s core o (pick s core)
core-did b s core None = refl
core-did b s core (Some r) = refl

-- a step of a core whose machine goes on, where no other core holds the lock over all cores
step-did : (b : PlainBoard) (s : State) (core : ℕ) → s.halt ≡ None → is_nest_of_other core s.nest ≡ false → happens b s (Event.Step core) ≡ did_by b s core (running_on s core) (pick s core)
unfolding happens
step-did b s core live free =
    ap (λ (h : Option Halt). unhalted_step_did b s core h) live
    ∙ ap (λ (c : Bool). if c then Same else core_did b s core (running_on s core)) free
    ∙ core-did b s core (running_on s core)

-- a core waits while another one holds the lock over all cores
pub step_waits : (b : PlainBoard) (s : State) (core : ℕ) → s.halt ≡ None → is_nest_of_other core s.nest ≡ true → happens b s (Event.Step core) ≡ Same
unfolding happens
step_waits b s core live held =
    ap (λ (h : Option Halt). unhalted_step_did b s core h) live
    ∙ ap (λ (c : Bool). if c then Same else core_did b s core (running_on s core)) held

abbrev pub going_on : PlainBoard → State → ℕ → ℕ → Effect
going_on b s core r = statement_effect b r core (if is_preemptible s core r then without_mark s r else s)

-- a core takes a thread
takes : (b : PlainBoard) (s : State) (core : ℕ) (o p : Option ℕ) (e : Effect) → switched_by s core o p ≡ Some e → did_by b s core o p ≡ Made e.state e.lines
takes b s core None None e is = absurd cc
takes b s core None (Some p) e is = same (run_effect s core p) e is where
  same : (x y : Effect) → Some x ≡ Some y → Made x.state x.lines ≡ Made y.state y.lines
  same x y is = cc
takes b s core (Some r) None e is = absurd cc
takes b s core (Some r) (Some p) e is = by_test (is_preemptible s core r && takes_from s p r) is where
  same : (x y : Effect) → Some x ≡ Some y → Made x.state x.lines ≡ Made y.state y.lines
  same x y is = cc

  by_test : (c : Bool) → (if c then Some (preempt_effect s core r p) else None) ≡ Some e → (if c then Made (preempt_effect s core r p).state (preempt_effect s core r p).lines else did_of_effect (going_on b s core r)) ≡ Made e.state e.lines
  by_test true is = same (preempt_effect s core r p) e is
  by_test false is = absurd cc

pub step_takes : (b : PlainBoard) (s : State) (core : ℕ) (e : Effect) → s.halt ≡ None → is_nest_of_other core s.nest ≡ false → switched s core ≡ Some e → happens b s (Event.Step core) ≡ Made e.state e.lines
step_takes b s core e live free is = step-did b s core live free ∙ takes b s core (running_on s core) (pick s core) e is

-- a core takes none, and its thread goes on
goes : (b : PlainBoard) (s : State) (core r : ℕ) (p : Option ℕ) → switched_by s core (Some r) p ≡ None → did_by b s core (Some r) p ≡ did_of_effect (going_on b s core r)
goes b s core r None is = refl
goes b s core r (Some p) is = by_test (is_preemptible s core r && takes_from s p r) is where
  by_test : (c : Bool) → (if c then Some (preempt_effect s core r p) else None) ≡ None → (if c then Made (preempt_effect s core r p).state (preempt_effect s core r p).lines else did_of_effect (going_on b s core r)) ≡ did_of_effect (going_on b s core r)
  by_test true is = absurd cc
  by_test false is = refl

pub step_goes_on : (b : PlainBoard) (s : State) (core r : ℕ) → s.halt ≡ None → is_nest_of_other core s.nest ≡ false → running_on s core ≡ Some r → switched s core ≡ None → happens b s (Event.Step core) ≡ Made (going_on b s core r).state (going_on b s core r).lines
step_goes_on b s core r live free runs is =
    step-did b s core live free
    ∙ ap (λ (o : Option ℕ). did_by b s core o (pick s core)) runs
    ∙ goes b s core r (pick s core) (sym (ap (λ (o : Option ℕ). switched_by s core o (pick s core)) runs) ∙ is)

-- a core without a thread, which takes none
rests : (b : PlainBoard) (s : State) (core : ℕ) (p : Option ℕ) → switched_by s core None p ≡ None → did_by b s core None p ≡ (if (core == 0) && is_all_idle s then rest_did b s else Same)
rests b s core None is = refl
rests b s core (Some p) is = absurd cc

pub step_rests : (b : PlainBoard) (s : State) (core : ℕ) → s.halt ≡ None → is_nest_of_other core s.nest ≡ false → running_on s core ≡ None → switched s core ≡ None → happens b s (Event.Step core) ≡ (if (core == 0) && is_all_idle s then rest_did b s else Same)
step_rests b s core live free runs is =
    step-did b s core live free
    ∙ ap (λ (o : Option ℕ). did_by b s core o (pick s core)) runs
    ∙ rests b s core (pick s core) (sym (ap (λ (o : Option ℕ). switched_by s core o (pick s core)) runs) ∙ is)

-- where nobody runs, no core has a thread
pub idle-runs-none : (s : State) (core t : ℕ) → is_all_idle s ≡ true → running_on s core ≡ Some t → ⊥
idle-runs-none s core t idle runs = at s.running core (none-running s idle) runs where
  at : (xs : List (Option ℕ)) (i : ℕ) → list_any is_some xs ≡ false → slice_index_or xs i None ≡ Some t → ⊥
  at [] i none is = cc
  at (None ∷ xs) zero none is = cc
  at (Some r ∷ xs) zero none is = cc
  at (None ∷ xs) (suc i) none is = at xs i none is
  at (Some r ∷ xs) (suc i) none is = cc

-- a core that takes a thread keeps the moment
pub switched-moment : (s new : State) (core : ℕ) → new ≡ (effect_or s (switched s core)).state → new.moment ≡ s.moment
switched-moment s new core is = ap (λ (u : State). u.moment) is ∙ by_case (running_on s core) (pick s core) where
  by_mark : (r p : ℕ) (marked : Bool) → (with_running (if marked then with_ready_last (without_mark s r) r else with_ready_first (without_mark s r) r) core p).moment ≡ s.moment
  by_mark r p true = refl
  by_mark r p false = refl

  by_test : (r p : ℕ) (c : Bool) → (effect_or s (if c then Some (preempt_effect s core r p) else None)).state.moment ≡ s.moment
  by_test r p true = by_mark r p (thread_at s r).marked
  by_test r p false = refl

  by_case : (o p : Option ℕ) → (effect_or s (switched_by s core o p)).state.moment ≡ s.moment
  by_case None None = refl
  by_case None (Some p) = refl
  by_case (Some r) None = refl
  by_case (Some r) (Some p) = by_test r p (is_preemptible s core r && takes_from s p r)

-- so does a statement
pub statement-moment : (b : PlainBoard) (s new : State) (t core : ℕ) → IsProper b → Kept (frame_of b s) s → running_on s core ≡ Some t → new ≡ (statement_effect b t core s).state → new.moment ≡ s.moment
statement-moment b s new t core proper kept runs is = ap (λ (u : State). u.moment) is ∙ (statement-kept (frame_of b s) s t core proper runs kept).moment_is

-- before its statement a thread may lose its mark
abbrev pub unmarked : State → ℕ → ℕ → State
unmarked s core t = if is_preemptible s core t then without_mark s t else s

pub unmarked-runs : (s : State) (core t : ℕ) → running_on (unmarked s core t) core ≡ running_on s core
unmarked-runs s core t = by_test (is_preemptible s core t) where
  by_test : (c : Bool) → running_on (if c then without_mark s t else s) core ≡ running_on s core
  by_test true = refl
  by_test false = refl

pub unmarked-moment : (s : State) (core t : ℕ) → (unmarked s core t).moment ≡ s.moment
unmarked-moment s core t = by_test (is_preemptible s core t) where
  by_test : (c : Bool) → (if c then without_mark s t else s).moment ≡ s.moment
  by_test true = refl
  by_test false = refl

pub unmarked-numbers : (s : State) (core t : ℕ) → (unmarked s core t).numbers ≡ s.numbers
unmarked-numbers s core t = by_test (is_preemptible s core t) where
  by_test : (c : Bool) → (if c then without_mark s t else s).numbers ≡ s.numbers
  by_test true = refl
  by_test false = refl

-- a machine that hasn't halted
pub here : (k : Engine) → k.halt ≡ None → k.kernel.state.halt ≡ None → state_of k ≡ k.kernel.state
unfolding state_of
here k live alone = ap (λ (h : Option Halt). record (k.kernel.state) { halt = h }) (live ∙ sym alone)

-- the answer of an event between equal states
pub gives-here : (b : PlainBoard) (e : Event) (d : Answer) (s t old new : State) (lines : List Line) → old ≡ s → new ≡ t → Gives (happens b s e) d s t lines → Gives (happens b old e) d old new lines
gives-here b e d s t old new lines one two gives = subst (λ (x : State). Gives (happens b x e) d x new lines) (sym one) (subst (λ (y : State). Gives (happens b s e) d s y lines) (sym two) gives)

-- what a core did that took a thread
pub switch-gives : (b : PlainBoard) (s new : State) (core : ℕ) (old_lines lines : List Line) → IsAlone s → false ≡ is_nest_of_other core s.nest → true ≡ is_some (switched s core) → new ≡ (effect_or s (switched s core)).state → old_lines ≡ [] → lines ≡ old_lines ++ (effect_or s (switched s core)).lines → happens b s (Event.Step core) ≡ Made new lines
switch-gives b s new core old_lines lines alone free took state empty shown = by_effect (switched s core) refl where
  by_effect : (e : Option Effect) → switched s core ≡ e → happens b s (Event.Step core) ≡ Made new lines
  by_effect None is = let no : true ≡ false = took ∙ ap is_some is in absurd cc
  by_effect (Some e) is =
      step_takes b s core e alone.halt (sym free) is
      ∙ ap (λ (x : State). Made x e.lines) (sym (state ∙ ap (λ (o : Option Effect). (effect_or s o).state) is))
      ∙ ap (λ (ls : List Line). Made new ls) (sym (shown ∙ ap (λ (ls : List Line). ls ++ (effect_or s (switched s core)).lines) empty ∙ ap (λ (o : Option Effect). (effect_or s o).lines) is))

-- a core that took none, and what it left
pub kept-none : (s : State) (o : Option Effect) → false ≡ is_some o → o ≡ None
kept-none s None is = refl
kept-none s (Some e) is = absurd cc

-- a core that took none changed nothing and showed nothing
pub still-state : (s new : State) (core : ℕ) → false ≡ is_some (switched s core) → new ≡ (effect_or s (switched s core)).state → new ≡ s
still-state s new core took state = state ∙ ap (λ (o : Option Effect). (effect_or s o).state) (kept-none s (switched s core) took)

pub still-lines : (s : State) (core : ℕ) (old_lines lines : List Line) → false ≡ is_some (switched s core) → old_lines ≡ [] → lines ≡ old_lines ++ (effect_or s (switched s core)).lines → lines ≡ []
still-lines s core old_lines lines took empty shown =
    shown
    ∙ ap (λ (ls : List Line). ls ++ (effect_or s (switched s core)).lines) empty
    ∙ ap (λ (o : Option Effect). (effect_or s o).lines) (kept-none s (switched s core) took)

-- what a core did whose thread went on
pub goes-gives : (b mid_b : PlainBoard) (s mid old new : State) (core : ℕ) (lines : List Line) (t : ℕ) → IsAlone s → false ≡ is_nest_of_other core s.nest → mid ≡ s → old ≡ unmarked mid core t → mid_b ≡ b → false ≡ is_some (switched s core) → running_on s core ≡ Some t → new ≡ (statement_effect mid_b t core old).state → lines ≡ (statement_effect mid_b t core old).lines → happens b s (Event.Step core) ≡ Made new lines
goes-gives b mid_b s mid old new core lines t alone free mid_is old_is board took runs state shown =
    let from : unmarked s core t ≡ old = ap (λ (x : State). unmarked x core t) (sym mid_is) ∙ sym old_is in
    let effect : statement_effect b t core (unmarked s core t) ≡ statement_effect mid_b t core old = ap (λ (x : PlainBoard). statement_effect x t core (unmarked s core t)) (sym board) ∙ ap (λ (x : State). statement_effect mid_b t core x) from in
    step_goes_on b s core t alone.halt (sym free) runs (kept-none s (switched s core) took)
    ∙ ap did_of_effect effect
    ∙ ap (λ (x : State). Made x (statement_effect mid_b t core old).lines) (sym state)
    ∙ ap (λ (ls : List Line). Made new ls) (sym shown)

pub state-moment : (k : Engine) → (state_of k).moment ≡ k.kernel.state.moment
unfolding state_of
state-moment k = refl

pub engine-halt : (k : Engine) → (state_of k).halt ≡ k.halt
unfolding state_of
engine-halt k = refl
