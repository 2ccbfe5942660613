use Rattle.std.proofs.Common.{arith, ◌<◌}
use Rattle.ready_set.proofs.LinkLemmas.{seen, same_view, front_below, fronted_links}
use Rattle.ready_set.proofs.queues.Queues.add_head.Goals as goal

pub link-requires-clause-after_below : goal.link-requires-clause-after_below
link-requires-clause-after_below c =
    let is = seen _ _ _ _ c.args.self.now c.self.invariant c.self.view_is in
    front_below _ _ _ _ c.args.self.now.queues is.1 c.args.place c.stored-first.result c.requires.place_below c.stored-first.ensures.value

pub invariant_of-self : goal.invariant_of-self
invariant_of-self c =
    let is = seen _ _ _ _ c.args.self.now c.self.invariant c.self.view_is in
    let below : c.args.thread < c.self.inside.threads = omega (arith, is.0, c.requires.thread_below) in
    (fronted_links _ _ _ _ c.args.self.now.queues is.1 c.args.place c.args.thread c.stored-first.result _ _ _ _ c.requires.place_below below c.requires.absent c.stored-first.ensures.value c.stored-first.ensures.same c.link.ensures.next c.link.ensures.prev c.write.ensures).0

pub returns : goal.returns
returns c =
    let is = seen _ _ _ _ c.args.self.now c.self.invariant c.self.view_is in
    let below : c.args.thread < c.self.inside.threads = omega (arith, is.0, c.requires.thread_below) in
    same_view _ _ _ _ is.0 (fronted_links _ _ _ _ c.args.self.now.queues is.1 c.args.place c.args.thread c.stored-first.result _ _ _ _ c.requires.place_below below c.requires.absent c.stored-first.ensures.value c.stored-first.ensures.same c.link.ensures.next c.link.ensures.prev c.write.ensures).1
