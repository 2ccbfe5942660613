use Rattle.std.proofs.Common.{arith}
use Rattle.object_box.proofs.ObjectLemmas.{number_below}
use Rattle.object_box.proofs.container.Container.place_of.Goals as goal

pub prove-unreachable-requires : goal.prove-unreachable-requires
prove-unreachable-requires c =
    omega (arith, c.if-prove.true, number_below c.self.inside.limit c.self.inside.objects.items c.no.inside.0 c.self.invariant.1.1.below (rw (← c.self.view_is, ← c.no.view_is) at c.requires))
