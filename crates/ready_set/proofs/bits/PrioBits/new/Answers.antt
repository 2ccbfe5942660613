use Rattle.ready_set.proofs.LevelBits.{none_set_at_first}
use Rattle.ready_set.proofs.bits.PrioBits.new.Goals as goal

pub invariant_of-result : goal.invariant_of-result
invariant_of-result g c = none_set_at_first g.row.G c.args.bindings _ _ c.requires.groups c.requires.few c.in_ok-tops.ensures c.in_ok-groups.ensures
