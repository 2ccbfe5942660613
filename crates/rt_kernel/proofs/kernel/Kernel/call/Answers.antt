use Rattle.std.proofs.Common.{◌≡◌, ℕ, ◌+◌, true, refl, sym, ap, ◌∙◌, subst}
use Rattle.rt_plain.specs.declared.stmt.Stmt.{Stmt}
use Rattle.rt_plain.specs.declared.line.Line.{Line}
use Rattle.rt_plain.specs.PlainBoard.{PlainBoard}
use Rattle.rt_plain.specs.kernel.State.{State, Thread, thread_at}
use Rattle.rt_plain.specs.kernel.Effects.{Effect, name_of}
use Rattle.rt_plain.specs.kernel.Calls.{outcome_of}
use Rattle.rt_kernel.specs.NextCall.{begun, next_call}
use Rattle.rt_plain.specs.kernel.Kept.{Kept}
use Rattle.rt_kernel.specs.Mutexes.{HasNoMutex}
use Rattle.rt_kernel.specs.IsKernel.{frame_of}
use Rattle.rt_kernel.specs.PlainKernel.{PlainKernel, DoesNext, IsTimerCall, MayCall}
use Rattle.rt_plain.specs.kernel.Outcome.{ByThread, ByTimer, First}
use Rattle.rt_kernel.specs.Caller.{timer_name}
use Rattle.rt_kernel.proofs.TimerFireLemmas.{quiet-timer_call, call_kept}
use Rattle.rt_kernel.specs.View.{state_of}
use Rattle.rt_plain.specs.kernel.Statements.{statement_effect}
use Rattle.rt_kernel.specs.declared.caller.Caller.{Caller}
use Rattle.rt_plain.specs.kernel.Sound.{is_timed}
use Rattle.rt_kernel.specs.Built.{is_built_call, is_built_statement}
use Rattle.rt_kernel.proofs.NameLemmas.{order-kept}
use Rattle.rt_kernel.proofs.Quiet.{IsQuiet, KeepsNames, apart-kept, quiet-free, quiet-row}
use Rattle.rt_kernel.proofs.NextCallLemmas.{LeavesCall, headed-leaves, lively-begun, outcome-leaves}
use Rattle.rt_plain.specs.kernel.Sound.{is_levelled, is_levelled_call}
use Rattle.rt_kernel.specs.Limits.{ObjectLimits}
use Rattle.rt_kernel.proofs.BuiltLemmas.{all-built, all-levelled, all-timed}
use Rattle.rt_kernel.proofs.KeptLemmas.{next-kept, on-core}
use Rattle.rt_kernel.proofs.StatementLemmas.{call_is}
use Rattle.rt_kernel.proofs.kernel.Kernel.call.Given.{Over}
use Rattle.rt_kernel.proofs.kernel.Kernel.call.Goals as goal

pub call-requires-clause-built : goal.call-requires-clause-built
call-requires-clause-built g c =
    let next : DoesNext (record { board = c.self.inside.board; state = state_of c.self.inside.state }) c.in-Thread.t c.in-Thread.core (Stmt.Do c.args.call.now) = subst (λ (k : PlainKernel). DoesNext k c.in-Thread.t c.in-Thread.core (Stmt.Do c.args.call.now)) (sym c.self.view_is) (subst (λ (by : Caller). MayCall c.args.self.now by c.args.call.now) c.in-Thread.is c.requires.by) in
    subst (λ (st : Stmt). is_built_statement st ≡ true) next.next (all-built c.self.inside.board (thread_at (state_of c.self.inside.state) c.in-Thread.t).name (thread_at (state_of c.self.inside.state) c.in-Thread.t).next c.self.invariant.built)

pub call-requires-clause-runs : goal.call-requires-clause-runs
call-requires-clause-runs g c =
    let next : DoesNext (record { board = c.self.inside.board; state = state_of c.self.inside.state }) c.in-Thread.t c.in-Thread.core (Stmt.Do c.args.call.now) = subst (λ (k : PlainKernel). DoesNext k c.in-Thread.t c.in-Thread.core (Stmt.Do c.args.call.now)) (sym c.self.view_is) (subst (λ (by : Caller). MayCall c.args.self.now by c.args.call.now) c.in-Thread.is c.requires.by) in
    on-core (frame_of c.self.inside.board (state_of c.self.inside.state)) c.self.inside.state c.in-Thread.core c.in-Thread.t c.self.invariant.kept next.runs

pub call-requires-clause-level : goal.call-requires-clause-level
call-requires-clause-level g c =
    let next : DoesNext (record { board = c.self.inside.board; state = state_of c.self.inside.state }) c.in-Thread.t c.in-Thread.core (Stmt.Do c.args.call.now) = subst (λ (k : PlainKernel). DoesNext k c.in-Thread.t c.in-Thread.core (Stmt.Do c.args.call.now)) (sym c.self.view_is) (subst (λ (by : Caller). MayCall c.args.self.now by c.args.call.now) c.in-Thread.is c.requires.by) in
    subst (λ n. is_levelled_call n c.args.call.now ≡ true) (sym (ap (λ (l : ObjectLimits). l.levels) c.self.invariant.limits))
    (subst (λ (st : Stmt). is_levelled c.self.inside.board.levels st ≡ true) next.next (all-levelled c.self.inside.board (thread_at (state_of c.self.inside.state) c.in-Thread.t).name (thread_at (state_of c.self.inside.state) c.in-Thread.t).next c.self.invariant.built))

pub call-requires-clause-timed : goal.call-requires-clause-timed
call-requires-clause-timed g c =
    let next : DoesNext (record { board = c.self.inside.board; state = state_of c.self.inside.state }) c.in-Thread.t c.in-Thread.core (Stmt.Do c.args.call.now) = subst (λ (k : PlainKernel). DoesNext k c.in-Thread.t c.in-Thread.core (Stmt.Do c.args.call.now)) (sym c.self.view_is) (subst (λ (by : Caller). MayCall c.args.self.now by c.args.call.now) c.in-Thread.is c.requires.by) in
    subst (λ (st : Stmt). is_timed st ≡ true) next.next (all-timed c.self.inside.board (thread_at (state_of c.self.inside.state) c.in-Thread.t).name (thread_at (state_of c.self.inside.state) c.in-Thread.t).next c.self.invariant.built.proper)

-- the statement of the thread that makes the call
makes : (g : Over) (c : goal.After-call g) → DoesNext (record { board = c.self.inside.board; state = state_of c.self.inside.state }) c.in-Thread.t c.in-Thread.core (Stmt.Do c.args.call.now)
makes g c = subst (λ (k : PlainKernel). DoesNext k c.in-Thread.t c.in-Thread.core (Stmt.Do c.args.call.now)) (sym c.self.view_is) (subst (λ (by : Caller). MayCall c.args.self.now by c.args.call.now) c.in-Thread.is c.requires.by)

is_built : (g : Over) (c : goal.After-call g) → is_built_call c.args.call.now ≡ true
is_built g c = subst (λ (st : Stmt). is_built_statement st ≡ true) (makes g c).next (all-built c.self.inside.board (thread_at (state_of c.self.inside.state) c.in-Thread.t).name (thread_at (state_of c.self.inside.state) c.in-Thread.t).next c.self.invariant.built)

state_is : (g : Over) (c : goal.After-call g) → state_of c.call.new.self ≡ (statement_effect c.self.inside.board c.in-Thread.t c.in-Thread.core (state_of c.self.inside.state)).state
state_is g c =
    let next = makes g c in
    c.call.ensures.state ∙ sym (ap (λ (e : Effect). e.state) (call_is c.self.inside.board (state_of c.self.inside.state) c.in-Thread.t c.in-Thread.core c.args.call.now c.self.invariant.built.shell c.self.invariant.built.soft next.again next.next))

-- what it leaves
left : (g : Over) (c : goal.After-call g) → LeavesCall (state_of c.self.inside.state) (next_call c.self.inside.board c.in-Thread.t c.in-Thread.core c.args.call.now (state_of c.self.inside.state))
left g c =
    let b : PlainBoard = c.self.inside.board in
    let s : State = state_of c.self.inside.state in
    let t : ℕ = c.in-Thread.t in
    let row : Thread = record (thread_at s t) { next = (thread_at s t).next + 1 } in
    let one : IsQuiet s (begun s t) = quiet-row s t row refl refl refl in
    headed-leaves s t row (Line.Done (name_of (begun s t) t) (thread_at s t).next) (outcome_of b c.args.call.now (begun s t) (ByThread t c.in-Thread.core) First) refl
    (outcome-leaves b (begun s t) c.args.call.now (ByThread t c.in-Thread.core) First (is_built g c) (lively-begun c.self.inside.state t c.in-Thread.core (on-core (frame_of b s) c.self.inside.state c.in-Thread.core t c.self.invariant.kept (makes g c).runs) c.know_state.ensures.active) c.self.invariant.free (λ u. apart-kept s (begun s t) u one (c.know_state.ensures.nobody u)))

pub invariant_of-self : goal.invariant_of-self
invariant_of-self g c = record {
  built = c.self.invariant.built;
  limits = c.call.ensures.limits ∙ c.self.invariant.limits;
  free = subst HasNoMutex (sym c.call.ensures.state) (left g c).free;
  order = order-kept c.self.inside.board (state_of c.self.inside.state) (state_of c.call.new.self) (subst (KeepsNames (state_of c.self.inside.state)) (sym c.call.ensures.state) (left g c).names) c.self.invariant.order;
  kept = subst (λ (u : State). Kept (frame_of c.self.inside.board u) u) (sym (state_is g c)) (next-kept c.self.inside.board (state_of c.self.inside.state) c.in-Thread.t c.in-Thread.core c.self.invariant.built.proper (makes g c).runs c.self.invariant.kept);
}

pub call-requires-clause-free : goal.call-requires-clause-free
call-requires-clause-free g c =
    let next : DoesNext (record { board = c.self.inside.board; state = state_of c.self.inside.state }) c.in-Thread.t c.in-Thread.core (Stmt.Do c.args.call.now) = subst (λ (k : PlainKernel). DoesNext k c.in-Thread.t c.in-Thread.core (Stmt.Do c.args.call.now)) (sym c.self.view_is) (subst (λ (by : Caller). MayCall c.args.self.now by c.args.call.now) c.in-Thread.is c.requires.by) in
    c.know_state.ensures.free c.in-Thread.core c.in-Thread.t next.runs

pub call-requires-clause-next : goal.call-requires-clause-next
call-requires-clause-next g c =
    let next : DoesNext (record { board = c.self.inside.board; state = state_of c.self.inside.state }) c.in-Thread.t c.in-Thread.core (Stmt.Do c.args.call.now) = subst (λ (k : PlainKernel). DoesNext k c.in-Thread.t c.in-Thread.core (Stmt.Do c.args.call.now)) (sym c.self.view_is) (subst (λ (by : Caller). MayCall c.args.self.now by c.args.call.now) c.in-Thread.is c.requires.by) in
    c.know_state.ensures.next c.in-Thread.core c.in-Thread.t next.runs

-- a timer makes a call that it may make
timer_makes : (g : Over) (c : goal.After-call_by_timer g) → IsTimerCall (record { board = c.self.inside.board; state = state_of c.self.inside.state }) c.in-Timer.o c.args.call.now
timer_makes g c = subst (λ (k : PlainKernel). IsTimerCall k c.in-Timer.o c.args.call.now) (sym c.self.view_is) (subst (λ (by : Caller). MayCall c.args.self.now by c.args.call.now) c.in-Timer.is c.requires.by)

pub invariant_of-self-in-Timer : goal.invariant_of-self-in-Timer
invariant_of-self-in-Timer g c =
    let s : State = state_of c.self.inside.state in
    let may = timer_makes g c in
    record {
      built = c.self.invariant.built;
      limits = c.call_by_timer.ensures.limits ∙ c.self.invariant.limits;
      free = subst HasNoMutex (sym c.call_by_timer.ensures.state) (quiet-free s _ c.self.invariant.free (quiet-timer_call c.self.inside.board s c.args.call.now (ByTimer (timer_name s c.in-Timer.o)) First may.allowed may.built c.know_state.ensures.nobody));
      order = order-kept c.self.inside.board s (state_of c.call_by_timer.new.self) (subst (KeepsNames s) (sym c.call_by_timer.ensures.state) (quiet-timer_call c.self.inside.board s c.args.call.now (ByTimer (timer_name s c.in-Timer.o)) First may.allowed may.built c.know_state.ensures.nobody).names) c.self.invariant.order;
      kept = subst (λ (u : State). Kept (frame_of c.self.inside.board u) u) (sym c.call_by_timer.ensures.state) (call_kept c.self.inside.board c.in-Timer.o c.args.call.now s may.timed c.self.invariant.kept);
    }
