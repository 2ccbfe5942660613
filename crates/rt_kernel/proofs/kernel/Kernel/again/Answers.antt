use Rattle.std.proofs.Common.{◌≡◌, ℕ, ◌-◌, ◌++◌, Option, Some, None, refl, sym, ap, ◌∙◌, subst}
use Rattle.rt_plain.specs.declared.line.Line.{Line}
use Rattle.rt_plain.specs.declared.stmt.Call.{Call}
use Rattle.rt_plain.specs.PlainBoard.{PlainBoard}
use Rattle.rt_plain.specs.kernel.State.{State, Thread, Awaited, Retry, InCall, thread_at, running_on}
use Rattle.rt_plain.specs.kernel.Effects.{Effect}
use Rattle.rt_plain.specs.kernel.Kept.{Kept}
use Rattle.rt_plain.specs.kernel.Outcome.{ByThread, Again}
use Rattle.rt_plain.specs.kernel.Calls.{outcome_of, settled_effect}
use Rattle.rt_plain.specs.kernel.Statements.{statement_effect}
use Rattle.rt_plain.proofs.kernel.Invariant.{fine-at}
use Rattle.kernel_tables.specs.Repeated.{has_call}
use Rattle.rt_kernel.specs.Again.{again_call, resumed}
use Rattle.rt_kernel.specs.Mutexes.{HasNoMutex}
use Rattle.rt_kernel.specs.IsKernel.{frame_of}
use Rattle.rt_kernel.specs.PlainKernel.{PlainKernel}
use Rattle.rt_kernel.specs.View.{state_of}
use Rattle.rt_kernel.proofs.KeptLemmas.{next-kept, on-core, running-free}
use Rattle.rt_kernel.proofs.NameLemmas.{order-kept}
use Rattle.rt_kernel.proofs.NextCallLemmas.{LeavesCall, headed-leaves, lively-row, outcome-leaves}
use Rattle.rt_kernel.proofs.Quiet.{IsQuiet, KeepsNames, apart-kept, quiet-row}
use Rattle.rt_kernel.proofs.RetryCallLemmas.{repeated-built}
use Rattle.rt_kernel.proofs.StatementLemmas.{again_is}
use Rattle.rt_kernel.proofs.kernel.Kernel.again.Given.{Over}
use Rattle.rt_kernel.proofs.kernel.Kernel.again.Goals as goal

pub again-requires-clause-free : goal.again-requires-clause-free
again-requires-clause-free g c =
    let s : State = state_of c.self.inside.state in
    running-free (frame_of c.self.inside.board s) s c.args.core c.args.thread c.self.invariant.kept (ap (λ (k : PlainKernel). running_on k.state c.args.core) c.self.view_is ∙ c.requires.runs)

pub again-requires-clause-there : goal.again-requires-clause-there
again-requires-clause-there g c =
    let s : State = state_of c.self.inside.state in
    on-core (frame_of c.self.inside.board s) c.self.inside.state c.args.core c.args.thread c.self.invariant.kept (ap (λ (k : PlainKernel). running_on k.state c.args.core) c.self.view_is ∙ c.requires.runs)

pub again-requires-clause-retries : goal.again-requires-clause-retries
again-requires-clause-retries g c = ap (λ (k : PlainKernel). has_call (thread_at k.state c.args.thread).retry) c.self.view_is ∙ c.requires.retries

pub again-requires-clause-fine : goal.again-requires-clause-fine
again-requires-clause-fine g c =
    let s : State = state_of c.self.inside.state in
    (fine-at (frame_of c.self.inside.board s) s c.args.thread c.self.invariant.kept).1

some-same : (a b : Retry) (o : Option Retry) → o ≡ Some a → o ≡ Some b → a ≡ b
some-same a b o one two = cc

call-same : (a b : Call) (o : Awaited) → o ≡ InCall a → o ≡ InCall b → a ≡ b
call-same a b o one two = cc

-- what the statement of the thread is
effect : (g : Over) (c : goal.After-again g) → statement_effect c.self.inside.board c.args.thread c.args.core (state_of c.self.inside.state) ≡ settled_effect c.self.inside.board (state_of c.self.inside.state) (again_call c.self.inside.board c.args.thread c.args.core c.again.ensures.retry.due c.again.ensures.call (state_of c.self.inside.state)).effect
effect g c =
    let made = c.again.ensures in
    again_is c.self.inside.board (state_of c.self.inside.state) c.args.thread c.args.core made.retry made.call c.self.invariant.built.shell c.self.invariant.built.soft made.is made.what

-- what it leaves
left : (g : Over) (c : goal.After-again g) → LeavesCall (state_of c.self.inside.state) (again_call c.self.inside.board c.args.thread c.args.core c.again.ensures.retry.due c.again.ensures.call (state_of c.self.inside.state))
left g c =
    let made = c.again.ensures in
    let b : PlainBoard = c.self.inside.board in
    let s : State = state_of c.self.inside.state in
    let t : ℕ = c.args.thread in
    let row : Thread = record (thread_at s t) { retry = None } in
    let one : IsQuiet s (resumed s t) = quiet-row s t row refl refl refl in
    headed-leaves s t row (Line.Again (thread_at s t).name ((thread_at s t).next - 1)) (outcome_of b made.call (resumed s t) (ByThread t c.args.core) (Again made.retry.due)) refl
    (outcome-leaves b (resumed s t) made.call (ByThread t c.args.core) (Again made.retry.due) (repeated-built made.call made.repeated) (lively-row c.self.inside.state t c.args.core row refl (on-core (frame_of b s) c.self.inside.state c.args.core t c.self.invariant.kept (ap (λ (k : PlainKernel). running_on k.state c.args.core) c.self.view_is ∙ c.requires.runs)) c.know_state.ensures.active) c.self.invariant.free (λ u. apart-kept s (resumed s t) u one (c.know_state.ensures.nobody u)))

state_is : (g : Over) (c : goal.After-again g) → state_of c.again.new.self ≡ (statement_effect c.self.inside.board c.args.thread c.args.core (state_of c.self.inside.state)).state
state_is g c = c.again.ensures.does.state ∙ sym (ap (λ (e : Effect). e.state) (effect g c))

pub invariant_of-self : goal.invariant_of-self
invariant_of-self g c =
    let made = c.again.ensures in
    let s : State = state_of c.self.inside.state in record {
      built = c.self.invariant.built;
      limits = made.does.limits ∙ c.self.invariant.limits;
      free = subst HasNoMutex (sym made.does.state) (left g c).free;
      order = order-kept c.self.inside.board s (state_of c.again.new.self) (subst (KeepsNames s) (sym made.does.state) (left g c).names) c.self.invariant.order;
      kept = subst (λ (u : State). Kept (frame_of c.self.inside.board u) u) (sym (state_is g c)) (next-kept c.self.inside.board s c.args.thread c.args.core c.self.invariant.built.proper (ap (λ (k : PlainKernel). running_on k.state c.args.core) c.self.view_is ∙ c.requires.runs) c.self.invariant.kept);
    }

pub returns-clause-state : goal.returns-clause-state
returns-clause-state g c = state_is g c ∙ ap (λ (k : PlainKernel). (statement_effect k.board c.args.thread c.args.core k.state).state) c.self.view_is

pub returns-clause-lines : goal.returns-clause-lines
returns-clause-lines g c =
    c.again.ensures.does.lines
    ∙ sym (ap (λ (e : Effect). c.args.out.now.items ++ e.lines) (effect g c))
    ∙ ap (λ (k : PlainKernel). c.args.out.now.items ++ (statement_effect k.board c.args.thread c.args.core k.state).lines) c.self.view_is

pub returns-clause-answer : goal.returns-clause-answer
returns-clause-answer g c retry call is what =
    let made = c.again.ensures in
    let same : made.retry ≡ retry = some-same made.retry retry _ (made.is) (ap (λ (k : PlainKernel). (thread_at k.state c.args.thread).retry) c.self.view_is ∙ is) in
    let same_call : made.call ≡ call = call-same made.call call _ made.what (ap (λ (r : Retry). r.what) same ∙ what) in
    made.does.answer
    ∙ ap (λ (r : Retry). (outcome_of c.self.inside.board made.call (resumed (state_of c.self.inside.state) c.args.thread) (ByThread c.args.thread c.args.core) (Again r.due)).answer) same
    ∙ ap (λ (x : Call). (outcome_of c.self.inside.board x (resumed (state_of c.self.inside.state) c.args.thread) (ByThread c.args.thread c.args.core) (Again retry.due)).answer) same_call
    ∙ ap (λ (k : PlainKernel). (outcome_of k.board call (resumed k.state c.args.thread) (ByThread c.args.thread c.args.core) (Again retry.due)).answer) c.self.view_is
