use Rattle.std.proofs.Common.{◌≡◌, ◌+◌, ◌-◌, ◌/◌, ◌%◌, min, ap, ◌∙◌, arith}
use Rattle.pm_core.specs.Clock.{Clock, moment_of}
use Rattle.rt_plain.specs.kernel.LpClock.{counts_ahead, ticks_ahead}
use Rattle.pm_core.proofs.Clocks.{parts-now, count-is, count-ahead, back-ahead}
use Rattle.pm_core.proofs.clock.LpClock.set.Goals as goal

pub returns-clause-counts : goal.returns-clause-counts
returns-clause-counts c =
    let i = c.self.inside in
    let parts = parts-now i.h i.q i.count i.rem c.self.invariant c.args.self.now c.self.view_is c.args.ahead c.parts_ahead-parts.result c.parts_ahead-parts.ensures in
    let later = count-ahead i.h i.q i.count i.rem c.self.invariant c.args.ahead c.parts_ahead-parts.result parts in
    let now = count-is i.h i.q i.count i.rem c.self.invariant in
    (let e : c.parts_ahead-parts.result / i.q ≡ counts_ahead i.h i.q (moment_of i.h i.q i.count i.rem) c.args.ahead = omega (arith, later, now) in e)
    ∙ ap (λ (k : Clock). counts_ahead k.h k.q k.moment c.args.ahead) c.self.view_is

pub returns-clause-ticks : goal.returns-clause-ticks
returns-clause-ticks c =
    let i = c.self.inside in
    let parts = parts-now i.h i.q i.count i.rem c.self.invariant c.args.self.now c.self.view_is c.args.ahead c.parts_ahead-parts.result c.parts_ahead-parts.ensures in
    let ends = back-ahead i.h i.q i.count i.rem c.self.invariant c.args.ahead c.parts_ahead-parts.result parts in
    c.saturating_sub.ensures ∙ ap (λ n. c.args.ahead - n) c.div_ceil.ensures
    ∙ (let e : c.args.ahead - (c.parts_ahead-parts.result % i.q / i.h + min 1 (c.parts_ahead-parts.result % i.q % i.h)) ≡ ticks_ahead i.h i.q (moment_of i.h i.q i.count i.rem) c.args.ahead = omega (arith, ends) in e)
    ∙ ap (λ (k : Clock). ticks_ahead k.h k.q k.moment c.args.ahead) c.self.view_is
