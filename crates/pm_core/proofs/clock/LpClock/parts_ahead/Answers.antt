use Rattle.std.proofs.Common.{◌+◌, ◌*◌, ap, sym}
use Rattle.pm_core.proofs.Clocks.{rem-is}
use Rattle.pm_core.proofs.clock.LpClock.parts_ahead.Goals as goal

pub returns : goal.returns
returns c =
    let i = c.self.inside in
    rw (← c.self.view_is) (ap (λ n. n + c.args.ahead * i.h) (sym (rem-is i.h i.q i.count i.rem c.self.invariant)))
