use Rattle.std.proofs.Common.{refl}
use Rattle.ready_set.proofs.LinkLemmas.{empty_links, same_view}
use Rattle.ready_set.proofs.queues.Queues.new.Goals as goal

pub invariant_of-result : goal.invariant_of-result
invariant_of-result c = (empty_links c.args.threads c.args.count _ _ _ c.requires c.in_ok-next.ensures.0 c.in_ok-prev.ensures.0 c.in_ok-next.ensures.1 c.in_ok-prev.ensures.1 c.in_ok-places.ensures).0

pub returns : goal.returns
returns c = same_view _ _ _ _ refl (empty_links c.args.threads c.args.count _ _ _ c.requires c.in_ok-next.ensures.0 c.in_ok-prev.ensures.0 c.in_ok-next.ensures.1 c.in_ok-prev.ensures.1 c.in_ok-places.ensures).1
