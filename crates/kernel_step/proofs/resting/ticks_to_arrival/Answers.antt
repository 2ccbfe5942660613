use Rattle.std.proofs.Common.{◌≡◌, ◌-◌, ◌<◌, ◌≤◌, Some, map, arith, sym, subst}
use Rattle.rt_plain.specs.kernel.State.{Arriving}
use Rattle.pm_core.specs.Moments.{IsLeastAhead}
use Rattle.kernel_step.proofs.RestLemmas.{arrival-left, arrival-ahead, no-arrivals}
use Rattle.kernel_step.proofs.resting.ticks_to_arrival.Goals as goal

pub overflow_sub-result : goal.overflow_sub-result
overflow_sub-result c =
    let later : c.args.kernel.now.state.moment < c.in-Some.next = arrival-ahead c.args.kernel.now.state.moment c.in-Some.next c.args.kernel.now.state.arrivals (sym c.in-Some.ensures.moment) c.requires in
    omega (arith, later, c.moment.ensures.moment)

pub returns-in-Some-clause-least : goal.returns-in-Some-clause-least
returns-in-Some-clause-least c =
    let later : c.args.kernel.now.state.moment < c.in-Some.next = arrival-ahead c.args.kernel.now.state.moment c.in-Some.next c.args.kernel.now.state.arrivals (sym c.in-Some.ensures.moment) c.requires in
    subst (λ m. IsLeastAhead c.args.kernel.now.state.moment (map (λ (a : Arriving). a.moment) c.args.kernel.now.state.arrivals) (Some (c.in-Some.next - m))) (sym c.moment.ensures.moment) (arrival-left c.args.kernel.now.state.moment c.in-Some.next c.args.kernel.now.state.arrivals (sym c.in-Some.ensures.moment) c.in-Some.ensures.earliest (omega (arith, later)))

pub returns-in-Some-clause-ahead : goal.returns-in-Some-clause-ahead
returns-in-Some-clause-ahead c x is =
    let later : c.args.kernel.now.state.moment < c.in-Some.next = arrival-ahead c.args.kernel.now.state.moment c.in-Some.next c.args.kernel.now.state.arrivals (sym c.in-Some.ensures.moment) c.requires in
    let same : c.in-Some.next - c.moment.result ≡ x = cc in
    omega (arith, same, later, c.moment.ensures.moment)

pub returns-in-None-clause-least : goal.returns-in-None-clause-least
returns-in-None-clause-least c = no-arrivals c.args.kernel.now.state.arrivals (sym c.in-None.ensures.moment)
