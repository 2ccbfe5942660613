use Rattle.std.proofs.Common.{arith, refl, ◌≡◌, true}
use Rattle.std.specs.Prelude.{slice_get}
use Rattle.std.proofs.lemmas.Option.{slice_get_within}
use Rattle.susp_list.specs.Rows.{is_waiting}
use Rattle.susp_list.proofs.TableLemmas.{links_there, row_held, ring_left, left_line}
use Rattle.susp_list.proofs.list.SuspList.leave.Goals as goal

pub remove-requires-clause-next : goal.remove-requires-clause-next
remove-requires-clause-next c =
    let held : is_waiting (slice_get c.self.inside.rows.items c.thread.inside.0) ≡ true = rw (← c.self.view_is, ← c.thread.view_is) at c.requires in
    let there = links_there c.self.inside.order c.self.inside.rows.items c.self.inside.ring.next.items c.self.inside.ring.prev.items c.self.inside.root c.self.inside.len c.thread.inside.0 c.self.invariant held in
    (omega (arith, there.on), omega (arith, there.before))

pub remove-requires-clause-prev : goal.remove-requires-clause-prev
remove-requires-clause-prev c =
    let held : is_waiting (slice_get c.self.inside.rows.items c.thread.inside.0) ≡ true = rw (← c.self.view_is, ← c.thread.view_is) at c.requires in
    let there = links_there c.self.inside.order c.self.inside.rows.items c.self.inside.ring.next.items c.self.inside.ring.prev.items c.self.inside.root c.self.inside.len c.thread.inside.0 c.self.invariant held in
    (omega (arith, there.back), omega (arith, there.after))

pub index_mut-requires : goal.index_mut-requires
index_mut-requires c =
    let held : is_waiting (slice_get c.self.inside.rows.items c.thread.inside.0) ≡ true = rw (← c.self.view_is, ← c.thread.view_is) at c.requires in
    let row = row_held (slice_get c.self.inside.rows.items c.thread.inside.0) held in
    omega (arith, slice_get_within c.self.inside.rows.items c.thread.inside.0 _ row.1)

pub overflow_sub-self : goal.overflow_sub-self
overflow_sub-self c =
    let held : is_waiting (slice_get c.self.inside.rows.items c.thread.inside.0) ≡ true = rw (← c.self.view_is, ← c.thread.view_is) at c.requires in
    let row = row_held (slice_get c.self.inside.rows.items c.thread.inside.0) held in
    (ring_left c.self.inside.order c.self.inside.rows.items _ _ c.self.inside.root c.self.inside.len c.thread.inside.0 _ _ row.0 c.self.invariant row.1 refl refl).0

pub invariant_of-self : goal.invariant_of-self
invariant_of-self c =
    let held : is_waiting (slice_get c.self.inside.rows.items c.thread.inside.0) ≡ true = rw (← c.self.view_is, ← c.thread.view_is) at c.requires in
    let row = row_held (slice_get c.self.inside.rows.items c.thread.inside.0) held in
    let left = (ring_left c.self.inside.order c.self.inside.rows.items _ _ c.self.inside.root c.self.inside.len c.thread.inside.0 _ _ row.0 c.self.invariant row.1 refl refl).1 in
    rw (c.remove.ensures.next, c.remove.ensures.prev) left

pub returns-clause-line : goal.returns-clause-line
returns-clause-line c front rest at =
    left_line c.self.inside.order c.self.inside.rows.items c.thread.inside.0 (rw (← c.self.view_is, ← c.thread.view_is) at c.requires) front rest
    (rw (← c.self.view_is, ← c.thread.view_is) at at)
