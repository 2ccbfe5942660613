use Rattle.std.proofs.Common.{◌≡◌, ◌<◌, ◌∙◌, ap, Some, length, false}
use Rattle.std.proofs.Math.ListN.{length-set}
use Rattle.rt_plain.specs.kernel.Ownership.{Ownership}
use Rattle.mutex_chain.specs.Owners.{has_mutex}
use Rattle.mutex_chain.proofs.StoredLemmas.{lines_by}
use Rattle.mutex_chain.proofs.StrongLemmas.{ceiling_comes}
use Rattle.mutex_chain.proofs.graph.MutexGraph.add_mutex.Goals as goal

pub carry_uncounted-requires-clause-lines : goal.carry_uncounted-requires-clause-lines
carry_uncounted-requires-clause-lines c =
    c.self.invariant.lines
    ∙ lines_by c.self.inside.owners c.set_ceiling.new.self c.self.inside.curs.numbers.items (ap (λ (q : Ownership). q.members) c.set_ceiling.ensures)
    (ap (λ (q : Ownership). length q.ceilings) c.set_ceiling.ensures ∙ length-set c.self.inside.owners.ceilings c.args.mutex (Some c.args.ceiling))

pub carry_uncounted-requires-clause-raising : goal.carry_uncounted-requires-clause-raising
carry_uncounted-requires-clause-raising c =
    let o = c.self.inside.owners in
    let below : c.args.mutex < length c.self.inside.owners.ceilings = rw c.self.view_is c.requires.below in
    let absent : has_mutex c.self.inside.owners c.args.mutex ≡ false = rw c.self.view_is c.requires.absent in
    rw c.ceiling.view_is (ceiling_comes o c.set_ceiling.new.self c.self.inside.curs.numbers.items c.holder-owner.result c.args.mutex c.args.ceiling c.self.invariant.sound c.know_sound.ensures c.self.invariant.curs
    c.set_ceiling.ensures c.holder-owner.ensures.owner below absent)
