use Rattle.std.proofs.Common.{◌≡◌, ◌<◌, ◌≤◌, ◌∙◌, sym, ap, refl, arith, Some, None, length, false}
use Rattle.rt_plain.specs.kernel.Ownership.{member_at, base_of}
use Rattle.mutex_chain.specs.Owners.{has_thread}
use Rattle.mutex_chain.proofs.StoredLemmas.{lines_member, absent_wait, absent_member}
use Rattle.mutex_chain.proofs.CurLemmas.{awaited_by}
use Rattle.mutex_chain.proofs.StrongLemmas.{member_raises}
use Rattle.mutex_chain.proofs.graph.MutexGraph.add_thread.Goals as goal

pub carry_uncounted-requires-clause-lines : goal.carry_uncounted-requires-clause-lines
carry_uncounted-requires-clause-lines c =
    let o = c.self.inside.owners in
    let below : c.args.thread < length c.self.inside.owners.members = rw c.self.view_is c.requires.below in
    let absent : has_thread c.self.inside.owners c.args.thread ≡ false = rw c.self.view_is c.requires.absent in
    rw c.set_member.ensures
    (c.self.invariant.lines ∙ lines_member o c.self.inside.curs.numbers.items c.args.thread (Some (record { base = c.args.base; wait = None })) below (absent_wait (member_at o c.args.thread) absent))

pub carry_uncounted-requires-clause-raising : goal.carry_uncounted-requires-clause-raising
carry_uncounted-requires-clause-raising c =
    let o = c.self.inside.owners in
    let below : c.args.thread < length c.self.inside.owners.members = rw c.self.view_is c.requires.below in
    let absent : has_thread c.self.inside.owners c.args.thread ≡ false = rw c.self.view_is c.requires.absent in
    let none : member_at c.self.inside.owners c.args.thread ≡ None = absent_member (member_at o c.args.thread) absent in
    let less : c.args.base ≤ base_of (member_at c.self.inside.owners c.args.thread) = omega (arith, ap base_of none, c.base.view_is) in
    rw c.base.view_is (member_raises o c.set_member.new.self c.self.inside.curs.numbers.items c.args.thread c.args.base (Some (record { base = c.args.base; wait = None })) c.self.invariant.sound c.know_sound.ensures
    c.self.invariant.curs c.set_member.ensures below (sym (ap awaited_by none)) refl less)
