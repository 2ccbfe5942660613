use Rattle.std.proofs.Common.{arith, ◌≡◌, ◌∙◌, ap, refl, length, None}
use Rattle.std.proofs.Math.ListN.{length-set}
use Rattle.rt_plain.specs.kernel.Ownership.{Ownership, kill_mutex_edit, waiters_in}
use Rattle.mutex_chain.specs.Graph.{Keeps, WokenList}
use Rattle.mutex_chain.proofs.BoundLemmas.{mutex_end_bound}
use Rattle.mutex_chain.proofs.EditLemmas.{aside_by, differs_mutex_end}
use Rattle.mutex_chain.proofs.KeepLemmas.{keeps_leaves, keeps_same, keeps_trans}
use Rattle.mutex_chain.proofs.OwnedLemmas.{owned_mutex_end}
use Rattle.mutex_chain.proofs.StoredLemmas.{lines_by}
use Rattle.mutex_chain.proofs.graph.MutexGraph.kill_mutex.Goals as goal

pub leave_all-requires-clause-lines : goal.leave_all-requires-clause-lines
leave_all-requires-clause-lines g c =
    c.self.invariant.lines
    ∙ lines_by c.self.inside.owners c.free.new.self c.self.inside.curs.numbers.items (ap (λ (o : Ownership). o.members) c.free.ensures) (ap (λ (o : Ownership). length o.ceilings) c.free.ensures)

pub renew-requires-clause-lines : goal.renew-requires-clause-lines
renew-requires-clause-lines g c =
    c.leave_all.ensures.lines
    ∙ lines_by c.leave_all.new.owners c.set_ceiling.new.self c.leave_all.new.curs.numbers.items (ap (λ (o : Ownership). o.members) c.set_ceiling.ensures)
    (ap (λ (o : Ownership). length o.ceilings) c.set_ceiling.ensures ∙ length-set c.leave_all.new.owners.ceilings c.args.mutex None)

pub returns-clause-changes : goal.returns-clause-changes
returns-clause-changes g c =
    let old = c.self.inside.owners in
    let free = c.free.new.self in
    let left = c.leave_all.new.owners in
    let new = c.set_ceiling.new.self in
    let first : Keeps old free = keeps_same old free (ap (λ (o : Ownership). o.members) c.free.ensures) in
    let second : Keeps free left = rw c.leave_all.ensures.edits (keeps_leaves c.as_slice.result.now free) in
    let third : Keeps left new = keeps_same left new (ap (λ (o : Ownership). o.members) c.set_ceiling.ensures) in
    rw (← c.self.view_is) (c.renew.ensures.changes old c.self.invariant.sound (c.leave_all.ensures.numbers ∙ c.self.invariant.curs) (keeps_trans old left new (keeps_trans old free left first second) third))

pub invariant_of-self : goal.invariant_of-self
invariant_of-self g c =
    let o = c.self.inside.owners in
    let line : c.as_slice.result.now ≡ waiters_in c.self.inside.owners c.args.mutex = c.as_slice.ensures ∙ ap (λ (w : WokenList). w.woken) c.list_waiters.ensures.waiters in
    record {
      sound = c.know_sound.ensures;
      owned = rw (c.set_ceiling.ensures, c.leave_all.ensures.edits, line, c.free.ensures) (owned_mutex_end o c.args.mutex c.self.invariant.owned);
      curs = c.renew.ensures.curs;
      places = c.renew.ensures.places;
      lines = c.renew.ensures.lines;
    }

pub renew-requires-clause-aside : goal.renew-requires-clause-aside
renew-requires-clause-aside g c =
    let o = c.self.inside.owners in
    let line : c.as_slice.result.now ≡ waiters_in c.self.inside.owners c.args.mutex = c.as_slice.ensures ∙ ap (λ (w : WokenList). w.woken) c.list_waiters.ensures.waiters in
    let edit : c.set_ceiling.new.self ≡ kill_mutex_edit c.args.mutex c.self.inside.owners = rw (c.set_ceiling.ensures, c.leave_all.ensures.edits, line, c.free.ensures) refl in
    rw c.holder-owner.ensures.owner (aside_by o c.set_ceiling.new.self (kill_mutex_edit c.args.mutex o) c.leave_all.new.curs.numbers.items _ c.self.invariant.sound c.know_sound.ensures (c.leave_all.ensures.numbers ∙ c.self.invariant.curs) edit
    (differs_mutex_end o c.args.mutex c.self.invariant.sound))

pub returns-clause-cost : goal.returns-clause-cost
returns-clause-cost g c =
    let o = c.self.inside.owners in
    let line : c.as_slice.result.now ≡ waiters_in c.self.inside.owners c.args.mutex = c.as_slice.ensures ∙ ap (λ (w : WokenList). w.woken) c.list_waiters.ensures.waiters in
    let size : length c.set_ceiling.new.self.members ≡ length c.self.inside.owners.members =
    ap (λ (q : Ownership). length q.members) c.set_ceiling.ensures ∙ c.leave_all.ensures.places ∙ ap (λ (q : Ownership). length q.members) c.free.ensures in
    let bound = mutex_end_bound o c.set_ceiling.new.self c.args.mutex c.holder-owner.result c.leave_all.new.steps c.renew.new.steps c.self.invariant.sound c.know_sound.ensures size c.holder-owner.ensures.owner c.renew.ensures.nobody c.renew.ensures.cost in
    rw (← c.self.view_is) (omega (arith, bound, c.tick.ensures, c.list_waiters.ensures.count, c.leave_all.ensures.count, ap length line))
