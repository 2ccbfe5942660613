use Rattle.std.proofs.Common.{arith}
use Rattle.soft_work.proofs.LinkLemmas.{unlink_below, unlink_neighbours, unlink_now}
use Rattle.soft_work.proofs.works.Works.unlink.Goals as goal

pub index_mut-requires : goal.index_mut-requires
index_mut-requires c = omega (arith, (unlink_neighbours _ _ _ _ _ _ _ _ c.args.self.now c.self.invariant c.self.view_is c.requires c.index-before.ensures c.index-after.ensures).0)

pub index_mut-requires-2 : goal.index_mut-requires-2
index_mut-requires-2 c = omega (arith, (unlink_neighbours _ _ _ _ _ _ _ _ c.args.self.now c.self.invariant c.self.view_is c.requires c.index-before.ensures c.index-after.ensures).1)

pub index_mut-requires-3 : goal.index_mut-requires-3
index_mut-requires-3 c = omega (arith, (unlink_below _ _ _ _ _ c.args.timer c.args.self.now c.self.invariant c.self.view_is c.requires).2)

pub invariant_of-self : goal.invariant_of-self
invariant_of-self c = (unlink_now _ _ _ _ _ _ _ _ c.args.self.now c.self.invariant c.self.view_is c.requires c.index-before.ensures c.index-after.ensures).linked

pub returns : goal.returns
returns c = (unlink_now _ _ _ _ _ _ _ _ c.args.self.now c.self.invariant c.self.view_is c.requires c.index-before.ensures c.index-after.ensures).seen
