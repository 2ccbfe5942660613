use Rattle.std.proofs.Common.{◌+◌, ◌<◌, ap, ◌∙◌, sym, subst}
use Rattle.pm_core.specs.Clock.{Clock}
use Rattle.pm_core.proofs.Clocks.{parts-now, runs-on, moment-later}
use Rattle.pm_core.proofs.clock.LpClock.advance.Goals as goal

pub invariant_of-self : goal.invariant_of-self
invariant_of-self c =
    let i = c.self.inside in
    let parts = parts-now i.h i.q i.count i.rem c.self.invariant c.args.self.now c.self.view_is c.args.n c.parts_ahead-parts.result c.parts_ahead-parts.ensures in
    runs-on i.h i.q i.count i.rem c.self.invariant c.args.n c.parts_ahead-parts.result parts
    (subst (λ (k : Clock). k.moment + c.args.n < 2199023255552) (sym c.self.view_is) c.requires)

pub returns : goal.returns
returns c =
    let i = c.self.inside in
    let parts = parts-now i.h i.q i.count i.rem c.self.invariant c.args.self.now c.self.view_is c.args.n c.parts_ahead-parts.result c.parts_ahead-parts.ensures in
    ap (λ n. (let k : Clock = record { h = i.h; q = i.q; moment = n } in k)) (moment-later i.h i.q i.count i.rem c.self.invariant c.args.n c.parts_ahead-parts.result parts)
    ∙ ap (λ (k : Clock). record k { moment = k.moment + c.args.n }) c.self.view_is
