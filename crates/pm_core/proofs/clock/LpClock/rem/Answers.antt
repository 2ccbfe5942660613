use Rattle.std.proofs.Common.{sym}
use Rattle.pm_core.proofs.Clocks.{rem-is}
use Rattle.pm_core.proofs.clock.LpClock.rem.Goals as goal

pub returns : goal.returns
returns c =
    let i = c.self.inside in rw (← c.self.view_is) (sym (rem-is i.h i.q i.count i.rem c.self.invariant))
