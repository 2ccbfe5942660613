use Rattle.susp_list.specs.Links.{IsRing}
use Rattle.susp_list.proofs.TableLemmas.{line_at, after_split, after_held, after_other}
use Rattle.susp_list.proofs.list.SuspList.after.Goals as goal

pub returns-clause-behind : goal.returns-clause-behind
returns-clause-behind c front rest at =
    let ring : IsRing c.args.self.now c.self.inside.ring.next.items c.self.inside.ring.prev.items c.self.inside.root c.self.inside.len = rw (← c.self.view_is) c.self.invariant in
    rw c.waiter_at.ensures (after_split _ _ _ _ _ _ _ ring (rw c.thread.view_is at c.index.ensures) front rest at)

pub returns-clause-held : goal.returns-clause-held
returns-clause-held c =
    let ring : IsRing c.args.self.now c.self.inside.ring.next.items c.self.inside.ring.prev.items c.self.inside.root c.self.inside.len = rw (← c.self.view_is) c.self.invariant in
    let there = line_at c.args.self.now.order c.args.self.now.rows c.args.thread c.requires in
    after_held c.args.self.now c.args.thread c.waiter_at.result there.0 there.1.0 there.1.1
    (rw c.waiter_at.ensures (after_split _ _ _ _ _ _ _ ring (rw c.thread.view_is at c.index.ensures) there.0 there.1.0 there.1.1))

pub returns-clause-other : goal.returns-clause-other
returns-clause-other c =
    let ring : IsRing c.args.self.now c.self.inside.ring.next.items c.self.inside.ring.prev.items c.self.inside.root c.self.inside.len = rw (← c.self.view_is) c.self.invariant in
    let there = line_at c.args.self.now.order c.args.self.now.rows c.args.thread c.requires in
    after_other c.args.self.now c.args.thread c.waiter_at.result there.0 there.1.0 there.1.1
    (rw c.waiter_at.ensures (after_split _ _ _ _ _ _ _ ring (rw c.thread.view_is at c.index.ensures) there.0 there.1.0 there.1.1))
