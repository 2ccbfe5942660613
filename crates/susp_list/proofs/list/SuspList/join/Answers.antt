use Rattle.std.proofs.Common.{arith, refl, ◌≡◌, ◌<◌, length, None}
use Rattle.susp_list.specs.Rows.{waiter}
use Rattle.susp_list.specs.Links.{IsRing, IsPlace}
use Rattle.susp_list.proofs.TableLemmas.{place_there, len_within, ring_joined, free_given, given, waits}
use Rattle.susp_list.proofs.list.SuspList.join.Goals as goal

pub insert-requires-clause-next : goal.insert-requires-clause-next
insert-requires-clause-next c =
    let ring : IsRing c.args.self.now c.self.inside.ring.next.items c.self.inside.ring.prev.items c.self.inside.root c.self.inside.len = rw (← c.self.view_is) c.self.invariant in
    let there = place_there _ _ _ _ _ _ _ ring c.place_of-before.ensures in
    (omega (arith, ring.next_len, ring.root_is, c.requires.there, c.thread.view_is), omega (arith, there.0))

pub insert-requires-clause-prev : goal.insert-requires-clause-prev
insert-requires-clause-prev c =
    let ring : IsRing c.args.self.now c.self.inside.ring.next.items c.self.inside.ring.prev.items c.self.inside.root c.self.inside.len = rw (← c.self.view_is) c.self.invariant in
    let there = place_there _ _ _ _ _ _ _ ring c.place_of-before.ensures in
    (omega (arith, ring.prev_len, ring.root_is, c.requires.there, c.thread.view_is), omega (arith, there.1))

pub overflow_add-self : goal.overflow_add-self
overflow_add-self c =
    let free : given c.self.inside.rows.items c.thread.inside.0 ≡ None = free_given c.self.inside.rows.items c.thread.inside.0 (rw (← c.self.view_is, ← c.thread.view_is) at c.requires.free) in
    let within : c.thread.inside.0 < length c.self.inside.rows.items = rw (← c.self.view_is, ← c.thread.view_is) at c.requires.there in
    let place : IsPlace (waits c.self.inside.order c.self.inside.rows.items) (waiter c.thread.inside.0 (record { prio = c.args.prio; at = c.args.at })) c.place_of-before.result = rw (← c.self.view_is, ← c.thread.view_is) at c.place_of-before.ensures in
    let joined = ring_joined _ _ _ _ _ _ _ _ _ _ c.self.invariant free within place refl in
    record { fits = omega (arith, len_within _ _ _ _ _ joined) }

pub invariant_of-self : goal.invariant_of-self
invariant_of-self c =
    let free : given c.self.inside.rows.items c.thread.inside.0 ≡ None = free_given c.self.inside.rows.items c.thread.inside.0 (rw (← c.self.view_is, ← c.thread.view_is) at c.requires.free) in
    let within : c.thread.inside.0 < length c.self.inside.rows.items = rw (← c.self.view_is, ← c.thread.view_is) at c.requires.there in
    let place : IsPlace (waits c.self.inside.order c.self.inside.rows.items) (waiter c.thread.inside.0 (record { prio = c.args.prio; at = c.args.at })) c.place_of-before.result = rw (← c.self.view_is, ← c.thread.view_is) at c.place_of-before.ensures in
    rw (c.insert.ensures.next, c.insert.ensures.prev) (ring_joined _ _ _ _ _ _ _ _ _ _ c.self.invariant free within place refl)
