use Rattle.std.proofs.Common.{◌≡◌, ◌+◌, ◌++◌, ◌∙◌, ap, arith, length, refl}
use Rattle.rt_plain.specs.PlainBoard.{PlainBoard}
use Rattle.rt_plain.specs.kernel.State.{State, Alarm}
use Rattle.kernel_timers.specs.Alarmed.{alarm_of, names_of}
use Rattle.rt_kernel.specs.PlainKernel.{PlainKernel}
use Rattle.kernel_step.proofs.FireLemmas.{Done, fired, firing-begun, firing-more, firing-done, room-left}
use Rattle.kernel_step.proofs.engine.fire_due.Given.{Over}
use Rattle.kernel_step.proofs.engine.fire_due.Goals as goal

pub loop-no-init : goal.loop-no-init
loop-no-init g c = (firing-begun _ _ _ c.args.steps.now c.requires.lines, refl)

pub fire-requires-clause-lines : goal.fire-requires-clause-lines
fire-requires-clause-lines g c =
    let on = c.loop-no.invariant.0 in
    omega (arith, room-left (2 + length c.args.kernel.now.board.threads) _ _ _ _ c.in-Some.ensures.fewer on.fits, ap (λ (b : PlainBoard). length b.threads) (c.in-Some.ensures.board ∙ on.board), c.loop-no.invariant.1)

pub fire-requires-clause-number : goal.fire-requires-clause-number
fire-requires-clause-number g c =
    let on = c.loop-no.invariant.0 in
    omega (arith, ap (λ (s : State). s.numbers) c.in-Some.ensures.state, c.in-Some.ensures.fewer, on.numbers, c.requires.number)

pub loop-no-smaller : goal.loop-no-smaller
loop-no-smaller g c = omega (arith, c.in-Some.ensures.fewer, c.fire.ensures.due)

pub loop-no-preserved : goal.loop-no-preserved
loop-no-preserved g c =
    let took = c.in-Some.ensures in
    let mid : PlainKernel = c.take_due.new.self in
    let same : alarm_of (names_of mid.state.timers) c.in-Some.no ≡ alarm_of (names_of c.loop-no.kernel.state.timers) c.in-Some.no = ap (λ (s : State). alarm_of (names_of s.timers) c.in-Some.no) took.state in
    let state = c.fire.ensures.state ∙ ap (λ (a : Alarm). (fired mid.board a mid.state).state) same in
    let lines = c.fire.ensures.lines ∙ ap (λ (a : Alarm). c.loop-no.out.items ++ (fired mid.board a mid.state).lines) same in
    (firing-more _ _ _ _ _ _ _ _ _ _ _ _ c.loop-no.invariant.0 took.first took.board took.state took.fewer c.fire.ensures.board state lines c.fire.ensures.due c.fire.ensures.few c.fire.ensures.numbers c.fire.ensures.moment c.fire.ensures.arrivals (omega (arith, took.count, c.fire.ensures.count)), c.fire.ensures.out_room ∙ c.loop-no.invariant.1)

-- behind the last row
done : (g : Over) (c : goal.In_default g) → Done c.args.kernel.now c.take_due.new.self c.args.out.now.items c.loop-no.out.items
done g c = firing-done _ _ c.take_due.new.self _ _ _ _ _ c.loop-no.invariant.0 c.in_default.ensures.first c.in_default.ensures.board c.in_default.ensures.state

pub returns-clause-board : goal.returns-clause-board
returns-clause-board g c = (done g c).0

pub returns-clause-state : goal.returns-clause-state
returns-clause-state g c = (done g c).1

pub returns-clause-lines : goal.returns-clause-lines
returns-clause-lines g c = (done g c).2

pub returns-clause-moment : goal.returns-clause-moment
returns-clause-moment g c = (done g c).3

pub returns-clause-arrivals : goal.returns-clause-arrivals
returns-clause-arrivals g c = (done g c).4

pub returns-clause-out_room : goal.returns-clause-out_room
returns-clause-out_room g c = c.loop-no.invariant.1

pub returns-clause-count : goal.returns-clause-count
returns-clause-count g c = omega (arith, c.loop-no.invariant.0.read, c.in_default.ensures.count)
