use Rattle.std.proofs.Common.{arith, ◌<◌, length, map, ap, subst, sym}
use Rattle.rt_base.specs.Chains.{without}
use Rattle.ready_set.specs.Links.{IsEmptied}
use Rattle.ready_set.proofs.LinkLemmas.{seen, same_view, neighbours_below, removed_links, emptied_some, emptied_none}
use Rattle.ready_set.proofs.queues.Queues.remove.Goals as goal
use Rattle.ready_set.proofs.queues.Queues.remove.Goals.{then-before-after, else-before-after}

pub write-requires : goal.write-requires
write-requires c =
    let is = seen _ _ _ _ c.args.self.now c.self.invariant c.self.view_is in
    let below : c.args.thread < c.self.inside.threads = omega (arith, is.0, c.requires.thread_below) in
    let both = neighbours_below _ _ _ _ c.args.self.now.queues is.1 c.args.thread c.stored-before.result c.stored-after.result below c.requires.held c.stored-before.ensures.value c.stored-after.ensures.value in
    omega (arith, both.0, ap length c.stored-after.ensures.same)

pub write-requires-2 : goal.write-requires-2
write-requires-2 c =
    let is = seen _ _ _ _ c.args.self.now c.self.invariant c.self.view_is in
    let below : c.args.thread < c.self.inside.threads = omega (arith, is.0, c.requires.thread_below) in
    let both = neighbours_below _ _ _ _ c.args.self.now.queues is.1 c.args.thread c.stored-before.result c.stored-after.result below c.requires.held c.stored-before.ensures.value c.stored-after.ensures.value in
    omega (arith, both.1, ap length c.stored-before.ensures.same)

pub invariant_of-self : goal.invariant_of-self
invariant_of-self c =
    let is = seen _ _ _ _ c.args.self.now c.self.invariant c.self.view_is in
    let below : c.args.thread < c.self.inside.threads = omega (arith, is.0, c.requires.thread_below) in
    (removed_links _ _ _ _ c.args.self.now.queues is.1 c.args.thread c.stored-before.result c.stored-after.result _ _ _ _ _ _ below c.requires.held c.stored-before.ensures.value c.stored-after.ensures.value
    c.stored-after.ensures.same c.stored-before.ensures.same c.stored-place.ensures.same c.write.ensures c.write-2.ensures c.write-3.ensures).0

pub returns-clause-after : goal.returns-clause-after
returns-clause-after c =
    let is = seen _ _ _ _ c.args.self.now c.self.invariant c.self.view_is in
    let below : c.args.thread < c.self.inside.threads = omega (arith, is.0, c.requires.thread_below) in
    same_view _ _ _ _ is.0
    (removed_links _ _ _ _ c.args.self.now.queues is.1 c.args.thread c.stored-before.result c.stored-after.result _ _ _ _ _ _ below c.requires.held c.stored-before.ensures.value c.stored-after.ensures.value
    c.stored-after.ensures.same c.stored-before.ensures.same c.stored-place.ensures.same c.write.ensures c.write-2.ensures c.write-3.ensures).1

pub returns-clause-emptied : goal.returns-clause-emptied
returns-clause-emptied c =
    let is = seen _ _ _ _ c.args.self.now c.self.invariant c.self.view_is in
    let below : c.args.thread < c.self.inside.threads = omega (arith, is.0, c.requires.thread_below) in
    let queues = (removed_links _ _ _ _ c.args.self.now.queues is.1 c.args.thread c.stored-before.result c.stored-after.result _ _ _ _ _ _ below c.requires.held c.stored-before.ensures.value c.stored-after.ensures.value
    c.stored-after.ensures.same c.stored-before.ensures.same c.stored-place.ensures.same c.write.ensures c.write-2.ensures c.write-3.ensures).1 in
    subst (IsEmptied c.if-before-after.result c.args.self.now.queues) (sym queues)
    (elim c.if-before-after.branch [
      | then-before-after w ↦
          subst (λ o. IsEmptied o c.args.self.now.queues (map (without c.args.thread) c.args.self.now.queues)) (sym w.result-is)
          (emptied_some _ _ _ _ c.args.self.now.queues is.1 c.args.thread c.stored-before.result c.stored-after.result c.stored-place.result below c.requires.held
          c.stored-before.ensures.value c.stored-after.ensures.value c.stored-place.ensures.value w.if-before-after.true)
      | else-before-after w ↦
          subst (λ o. IsEmptied o c.args.self.now.queues (map (without c.args.thread) c.args.self.now.queues)) (sym w.result-is)
          (emptied_none _ _ _ _ c.args.self.now.queues is.1 c.args.thread c.stored-before.result c.stored-after.result below c.requires.held
          c.stored-before.ensures.value c.stored-after.ensures.value w.if-before-after.false)
    ])
