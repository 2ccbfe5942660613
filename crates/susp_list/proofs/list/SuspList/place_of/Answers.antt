use Rattle.std.proofs.Common.{arith, sym, ◌∙◌}
use Rattle.susp_list.specs.Links.{IsRing}
use Rattle.susp_list.proofs.PlaceLemmas.{walk_start, walk_last, last_within, walk_stop, walk_end, walk_step}
use Rattle.susp_list.proofs.list.SuspList.place_of.Goals as goal

pub loop-init : goal.loop-init
loop-init c =
    let ring : IsRing c.args.self.now c.self.inside.ring.next.items c.self.inside.ring.prev.items c.self.inside.root c.self.inside.len = rw (← c.self.view_is) c.self.invariant in
    walk_start _ _ _ _ _ _ _ ring c.index-before.ensures

pub goes_before-requires : goal.goes_before-requires
goes_before-requires c =
    let ring : IsRing c.args.self.now c.self.inside.ring.next.items c.self.inside.ring.prev.items c.self.inside.root c.self.inside.len = rw (← c.self.view_is) c.self.invariant in
    last_within _ _ _ (walk_last _ _ _ _ _ _ _ _ ring c.loop-test.true c.loop.invariant)

pub returns-then-not-goes_before : goal.returns-then-not-goes_before
returns-then-not-goes_before c =
    let ring : IsRing c.args.self.now c.self.inside.ring.next.items c.self.inside.ring.prev.items c.self.inside.root c.self.inside.len = rw (← c.self.view_is) c.self.invariant in
    let at = walk_last _ _ _ _ _ _ _ _ ring c.loop-test.true c.loop.invariant in
    walk_stop _ _ _ _ c.loop.invariant at (sym (c.goes_before.ensures at.end at.row) ∙ c.if-not-goes_before.true)

pub index-before-requires-in-loop : goal.index-before-requires-in-loop
index-before-requires-in-loop c =
    let ring : IsRing c.args.self.now c.self.inside.ring.next.items c.self.inside.ring.prev.items c.self.inside.root c.self.inside.len = rw (← c.self.view_is) c.self.invariant in
    omega (arith, ring.prev_len, ring.root_is, last_within _ _ _ (walk_last _ _ _ _ _ _ _ _ ring c.loop-test.true c.loop.invariant))

pub loop-preserved : goal.loop-preserved
loop-preserved c =
    let ring : IsRing c.args.self.now c.self.inside.ring.next.items c.self.inside.ring.prev.items c.self.inside.root c.self.inside.len = rw (← c.self.view_is) c.self.invariant in
    let at = walk_last _ _ _ _ _ _ _ _ ring c.loop-test.true c.loop.invariant in
    walk_step _ _ _ _ _ _ _ _ _ ring c.loop.invariant at (sym (c.goes_before.ensures at.end at.row) ∙ c.if-not-goes_before.false) c.index-before-in-loop.ensures

pub returns : goal.returns
returns c =
    let ring : IsRing c.args.self.now c.self.inside.ring.next.items c.self.inside.ring.prev.items c.self.inside.root c.self.inside.len = rw (← c.self.view_is) c.self.invariant in
    walk_end _ _ _ _ _ _ _ _ ring c.loop-test.false c.loop.invariant
