use Rattle.std.proofs.Common.{◌≡◌, arith, refl, sym, ap, ◌∙◌}
use Rattle.rt_plain.specs.kernel.State.{State, running_on}
use Rattle.kernel_step.proofs.StepLemmas.{unmarked-runs, unmarked-numbers, unmarked-moment, step_waits, step_rests, switch-gives, switched-moment, goes-gives, kept-none, still-state, still-lines, idle-runs-none}
use Rattle.kernel_step.proofs.engine.thread_step.Goals as goal

pub returns-then-must_wait-clause-gives : goal.returns-then-must_wait-clause-gives
returns-then-must_wait-clause-gives g c = (step_waits _ _ _ c.know_kernel.ensures.alone.halt (sym c.if-must_wait.ensures), refl, c.requires.empty)

pub returns-then-switch-clause-gives : goal.returns-then-switch-clause-gives
returns-then-switch-clause-gives g c =
    let took = c.if-switch.ensures in
    switch-gives _ _ _ _ _ _ c.know_kernel.ensures.alone c.if-must_wait.ensures took.answer took.state c.requires.empty took.lines

pub returns-then-switch-clause-moment : goal.returns-then-switch-clause-moment
returns-then-switch-clause-moment g c = switched-moment c.args.kernel.now.state c.switch.new.self.state c.args.core c.if-switch.ensures.state

pub go_on-requires-clause-runs : goal.go_on-requires-clause-runs
go_on-requires-clause-runs g c =
    let runs = sym c.in-Some.ensures in
    ap (λ (s : State). running_on s c.args.core) (c.unmark.ensures.state c.in-Some.t runs) ∙ unmarked-runs c.switch.new.self.state c.args.core c.in-Some.t ∙ runs

pub go_on-requires-clause-number : goal.go_on-requires-clause-number
go_on-requires-clause-number g c =
    let runs = sym c.in-Some.ensures in
    let took = c.if-switch.ensures in
    let same : c.unmark.new.self.state.numbers ≡ c.args.kernel.now.state.numbers = ap (λ (s : State). s.numbers) (c.unmark.ensures.state c.in-Some.t runs) ∙ unmarked-numbers c.switch.new.self.state c.args.core c.in-Some.t ∙ ap (λ (s : State). s.numbers) (still-state c.args.kernel.now.state c.switch.new.self.state c.args.core took.answer took.state) in
    omega (arith, same, c.requires.number)

pub returns-in-Some-clause-gives : goal.returns-in-Some-clause-gives
returns-in-Some-clause-gives g c =
    let runs = sym c.in-Some.ensures in
    let took = c.if-switch.ensures in
    let same = still-state c.args.kernel.now.state c.switch.new.self.state c.args.core took.answer took.state in
    goes-gives _ _ c.args.kernel.now.state c.switch.new.self.state c.unmark.new.self.state _ c.args.core _ c.in-Some.t c.know_kernel.ensures.alone c.if-must_wait.ensures same (c.unmark.ensures.state c.in-Some.t runs) (c.unmark.ensures.board ∙ took.board) took.answer (sym (ap (λ (s : State). running_on s c.args.core) same) ∙ runs) c.go_on.ensures.state c.go_on.ensures.lines

pub returns-in-Some-clause-moment : goal.returns-in-Some-clause-moment
returns-in-Some-clause-moment g c =
    let runs = sym c.in-Some.ensures in
    c.go_on.ensures.moment
    ∙ ap (λ (s : State). s.moment) (c.unmark.ensures.state c.in-Some.t runs)
    ∙ unmarked-moment c.switch.new.self.state c.args.core c.in-Some.t
    ∙ switched-moment c.args.kernel.now.state c.switch.new.self.state c.args.core c.if-switch.ensures.state

pub returns-in-None-clause-rests : goal.returns-in-None-clause-rests
returns-in-None-clause-rests g c none =
    let took = c.if-switch.ensures in
    let same = still-state c.args.kernel.now.state c.switch.new.self.state c.args.core took.answer took.state in
    step_rests c.args.kernel.now.board c.args.kernel.now.state c.args.core c.know_kernel.ensures.alone.halt (sym c.if-must_wait.ensures) (sym (ap (λ (s : State). running_on s c.args.core) same) ∙ sym c.in-None.ensures) (kept-none c.args.kernel.now.state _ took.answer)

pub returns-in-None-clause-still : goal.returns-in-None-clause-still
returns-in-None-clause-still g c none =
    let took = c.if-switch.ensures in (
      still-state c.args.kernel.now.state c.switch.new.self.state c.args.core took.answer took.state,
      still-lines c.args.kernel.now.state c.args.core _ _ took.answer c.requires.empty took.lines,
    )

pub returns-in-None-clause-moment : goal.returns-in-None-clause-moment
returns-in-None-clause-moment g c = switched-moment c.args.kernel.now.state c.switch.new.self.state c.args.core c.if-switch.ensures.state

pub returns-in-Some-clause-cost : goal.returns-in-Some-clause-cost
returns-in-Some-clause-cost g c idle =
    let took = c.if-switch.ensures in
    let same = still-state c.args.kernel.now.state c.switch.new.self.state c.args.core took.answer took.state in
    absurd (idle-runs-none c.args.kernel.now.state c.args.core c.in-Some.t idle (sym (ap (λ (s : State). running_on s c.args.core) same) ∙ sym c.in-Some.ensures))
