use Rattle.std.proofs.Common.{rules, ◌≡◌, ◌∙◌, subst}
use Rattle.ready_set.specs.Links.{is_queued}
use Rattle.ready_list.specs.Ordered.{AreWithin}
use Rattle.ready_list.proofs.OrderLemmas.{held_ring}
use Rattle.ready_list.proofs.list.ReadyList.holds.Goals as goal

pub returns-clause-held : goal.returns-clause-held
returns-clause-held c =
    let held : c.holds.result ≡ is_queued c.self.inside.ring.queues c.args.thread = search rules in
    held ∙ held_ring _ _ _ c.args.self.now c.args.thread c.self.invariant c.self.view_is

pub returns-clause-within : goal.returns-clause-within
returns-clause-within c = subst AreWithin c.self.view_is c.self.invariant.stands.within
