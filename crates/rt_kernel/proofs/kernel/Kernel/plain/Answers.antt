use Rattle.std.proofs.Common.{◌≡◌, ◌≤◌, ◌++◌, List, ℕ, Option, Some, refl, sym, ap, ◌∙◌, subst, length}
use Rattle.rt_plain.specs.declared.stmt.Stmt.{Stmt}
use Rattle.rt_plain.specs.kernel.State.{State, thread_at, running_on}
use Rattle.rt_plain.specs.kernel.Effects.{Effect}
use Rattle.rt_plain.specs.kernel.Kept.{Kept}
use Rattle.rt_kernel.specs.Mutexes.{HasNoMutex}
use Rattle.rt_kernel.specs.IsKernel.{frame_of}
use Rattle.rt_kernel.specs.PlainKernel.{PlainKernel, DoesNext}
use Rattle.rt_kernel.specs.View.{state_of}
use Rattle.rt_plain.specs.kernel.Statements.{script_of, statement_effect}
use Rattle.rt_kernel.specs.Plain.{next_plain}
use Rattle.rt_kernel.proofs.NameLemmas.{order-kept}
use Rattle.rt_kernel.proofs.Quiet.{KeepsNames}
use Rattle.rt_kernel.proofs.BuiltLemmas.{script-short}
use Rattle.rt_kernel.proofs.KeptLemmas.{next-kept}
use Rattle.rt_kernel.proofs.StatementLemmas.{plain_is, plain-names, plain-free}
use Rattle.rt_kernel.proofs.kernel.Kernel.plain.Given.{Over}
use Rattle.rt_kernel.proofs.kernel.Kernel.plain.Goals as goal

some-same : (i j : ℕ) (o : Option ℕ) → o ≡ Some i → o ≡ Some j → i ≡ j
some-same i j o one two = cc

pub plain-requires-clause-short : goal.plain-requires-clause-short
plain-requires-clause-short g c = subst (λ (script : List Stmt). length script ≤ 512) (sym (c.script_of-script.ensures)) (script-short c.self.inside.board (thread_at (state_of c.self.inside.state) c.in-Some.t).name c.self.invariant.built)

-- the statement of the thread that the core runs
comes_next : (g : Over) (c : goal.After-plain g) → DoesNext (record { board = c.self.inside.board; state = state_of c.self.inside.state }) c.in-Some.t c.args.core c.args.stmt.now
comes_next g c =
    let found : DoesNext (record { board = c.self.inside.board; state = state_of c.self.inside.state }) c.requires.next.0 c.args.core c.args.stmt.now = subst (λ (k : PlainKernel). DoesNext k c.requires.next.0 c.args.core c.args.stmt.now) (sym c.self.view_is) c.requires.next.1 in
    subst (λ u. DoesNext (record { board = c.self.inside.board; state = state_of c.self.inside.state }) u c.args.core c.args.stmt.now) (some-same c.requires.next.0 c.in-Some.t (running_on (state_of c.self.inside.state) c.args.core) found.runs (sym c.in-Some.ensures)) found

script : (g : Over) (c : goal.After-plain g) → c.script_of-script.result.now ≡ script_of c.self.inside.board (thread_at (state_of c.self.inside.state) c.in-Some.t).name
script g c = c.script_of-script.ensures

effect : (g : Over) (c : goal.After-plain g) → statement_effect c.self.inside.board c.in-Some.t c.args.core (state_of c.self.inside.state) ≡ next_plain c.script_of-script.result.now c.in-Some.t c.args.stmt.now (state_of c.self.inside.state)
effect g c =
    let next = comes_next g c in
    plain_is c.self.inside.board (state_of c.self.inside.state) c.in-Some.t c.args.core c.args.stmt.now c.self.invariant.free c.know_state.ensures.nobody c.self.invariant.built.shell c.self.invariant.built.soft c.requires.plain next.again next.next
    ∙ ap (λ (x : List Stmt). next_plain x c.in-Some.t c.args.stmt.now (state_of c.self.inside.state)) (sym (script g c))

state_is : (g : Over) (c : goal.After-plain g) → state_of c.plain.new.self ≡ (statement_effect c.self.inside.board c.in-Some.t c.args.core (state_of c.self.inside.state)).state
state_is g c = c.plain.ensures.acts.state ∙ sym (ap (λ (e : Effect). e.state) (effect g c))

pub invariant_of-self : goal.invariant_of-self
invariant_of-self g c = record {
  built = c.self.invariant.built;
  limits = c.plain.ensures.acts.limits ∙ c.self.invariant.limits;
  free = subst HasNoMutex (sym c.plain.ensures.acts.state) (plain-free (state_of c.self.inside.state) c.script_of-script.result.now c.in-Some.t c.args.stmt.now c.self.invariant.free c.know_state.ensures.nobody);
  order = order-kept c.self.inside.board (state_of c.self.inside.state) (state_of c.plain.new.self) (subst (KeepsNames (state_of c.self.inside.state)) (sym c.plain.ensures.acts.state) (plain-names (state_of c.self.inside.state) c.script_of-script.result.now c.in-Some.t c.args.stmt.now c.self.invariant.free c.know_state.ensures.nobody)) c.self.invariant.order;
  kept = subst (λ (u : State). Kept (frame_of c.self.inside.board u) u) (sym (state_is g c)) (next-kept c.self.inside.board (state_of c.self.inside.state) c.in-Some.t c.args.core c.self.invariant.built.proper (comes_next g c).runs c.self.invariant.kept);
}

same : (g : Over) (c : goal.After-plain g) (t : ℕ) → running_on c.args.self.now.state c.args.core ≡ Some t → c.in-Some.t ≡ t
same g c t runs = some-same c.in-Some.t t (running_on (state_of c.self.inside.state) c.args.core) (comes_next g c).runs (ap (λ (k : PlainKernel). running_on k.state c.args.core) c.self.view_is ∙ runs)

pub returns-in-Some-clause-state : goal.returns-in-Some-clause-state
returns-in-Some-clause-state g c t runs =
    state_is g c ∙ ap (λ (k : PlainKernel). (statement_effect k.board c.in-Some.t c.args.core k.state).state) c.self.view_is
    ∙ ap (λ u. (statement_effect c.args.self.now.board u c.args.core c.args.self.now.state).state) (same g c t runs)

pub returns-in-Some-clause-lines : goal.returns-in-Some-clause-lines
returns-in-Some-clause-lines g c t runs =
    c.plain.ensures.acts.lines ∙ sym (ap (λ (e : Effect). c.args.out.now.items ++ e.lines) (effect g c))
    ∙ ap (λ (k : PlainKernel). c.args.out.now.items ++ (statement_effect k.board c.in-Some.t c.args.core k.state).lines) c.self.view_is
    ∙ ap (λ u. c.args.out.now.items ++ (statement_effect c.args.self.now.board u c.args.core c.args.self.now.state).lines) (same g c t runs)
