use Rattle.std.proofs.Common.{sym, refl}
use Rattle.kernel_devices.proofs.ArrivalLemmas.{none-at, taken-kept}
use Rattle.kernel_devices.proofs.devices.Devices.take_arrival.Goals as goal

pub returns-then-next-moment : goal.returns-then-next-moment
returns-then-next-moment c = (none-at c.args.self.now.arrivals c.args.moment c.in_ok-next.next c.requires (sym c.in_ok-next.ensures.moment) c.if-next-moment.true c.in_ok-next.ensures.earliest, refl)

pub invariant_of-self : goal.invariant_of-self
invariant_of-self c = taken-kept c.self.inside.devices.items c.self.inside.left.items c.pop.new.self.items c.pop.result c.pop.ensures.items c.self.invariant
