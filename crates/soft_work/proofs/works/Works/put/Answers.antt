use Rattle.std.proofs.Common.{arith}
use Rattle.soft_work.proofs.LinkLemmas.{put_below, put_now}
use Rattle.soft_work.proofs.works.Works.put.Goals as goal

pub index_mut-requires : goal.index_mut-requires
index_mut-requires c = omega (arith, put_below _ _ _ _ _ _ c.self.invariant c.index-last.ensures)

pub invariant_of-self : goal.invariant_of-self
invariant_of-self c = rw c.timer.view_is (put_now _ _ _ _ _ c.args.timer _ c.args.self.now c.self.invariant c.self.view_is c.requires.below c.requires.absent c.index-last.ensures).linked

pub returns : goal.returns
returns c = rw c.timer.view_is (put_now _ _ _ _ _ c.args.timer _ c.args.self.now c.self.invariant c.self.view_is c.requires.below c.requires.absent c.index-last.ensures).seen
